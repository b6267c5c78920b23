-- Room for the ports of a closed pool, which is made with the pool.
use Rattle.std.specs.Prelude.{◌≡◌, ℕ, ◌≤◌, [], Option, Some, None, vec_len, vec_capacity}
use mathlib.Core.Option.{some}
use lib.ListN.{get_elem?}
use Rattle.atomic_table.specs.Table.{State}
use Rattle.server_pool.specs.declared.room.Room.{Room}
use Rattle.server_pool.specs.Pooled.{weigh}

module _ {P : Type 0} where
  -- g of what is there, else 0
  abbrev pub or_none : (P → ℕ) → Option P → ℕ
  or_none g None = 0
  or_none g (Some p) = g p

  -- an empty place for each of n ports, and an empty list with room for all
  pub record IsRoomFor (n : ℕ) (room : Room P) : Type 0 where
    pub places : vec_len room.places ≡ n
    pub empty : (g : P → ℕ) → weigh (or_none g) room.places.items ≡ 0
    pub none : room.ports.items ≡ []
    pub spare : n ≤ vec_capacity room.ports

  pub record IsKept {V : Type 0} (n : ℕ) (s : State (Room P) V) : Type 0 where
    pub room : Room P
    pub here : get_elem? s.homes 0 ≡ some (some room)
    pub fits : IsRoomFor n room
