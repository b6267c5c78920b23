-- The ports of a pool that closes, each in the place of its number.
use Rattle.std.specs.Prelude.{◌≡◌, ℕ, suc, ◌<◌, List, [], ◌∷◌, length, Option, Some, None}
use Rattle.std.specs.Prelude.{slice_index_or}
use Rattle.lake_values.specs.declared.names.Name.{Name}
use Rattle.server_pool.specs.declared.rule.Hand.{Hand}
use Rattle.server_pool.specs.Pooled.{weigh, times, notes, last_notes, at_last, fixed_deletions}
use Rattle.server_pool.specs.Rooms.{or_none}

module _ {P : Type 0} where
  -- no place is empty
  abbrev pub AreFull : List (Option P) → Type 0
  AreFull [] = Unit {0}
  AreFull (None ∷ rest) = ⊥
  AreFull (Some p ∷ rest) = AreFull rest

module _ {P : Type 0} (faults : P → ℕ) (deletions : P → List Name) where
  -- what is placed is what the pass took
  pub record Placed (v : Hand) (places : List (Option P)) : Type 0 where
    pub long : length places ≡ length v.starts
    pub each : (j : ℕ) → j < length places
        → or_none (λ (p : P). 1) (slice_index_or places j None) ≡ times (suc j) v.held
    pub sum : weigh (or_none faults) places ≡ notes v.held
    pub lasts : weigh (or_none (λ (p : P). at_last (faults p))) places ≡ last_notes v.held
    pub fixed : (j : ℕ) (p : P) → slice_index_or places j None ≡ Some p
        → deletions p ≡ fixed_deletions v.starts (suc j)
