-- A lake as its callers see it, and what a call adds to it.
use Rattle.std.specs.Prelude.{◌≡◌, ◌≢◌, ℕ, ◌==◌, ◌<◌, ◌^◌, ◌&&◌, Bool, true, false, is_some, List, [], ◌∷◌, ◌++◌, Ok, IfSome}
use Rattle.std.specs.List.{list_any}
use Rattle.lake_model.specs.declared.entries.Fact.{Fact}
use Rattle.lake_model.specs.Allowed.{IsLegal}
use Rattle.lake_model.specs.State.{State, Noted, state, transaction, next_part, view}
use Rattle.sql_model.specs.declared.bound.Bound.{Bound}
use Rattle.sql_model.specs.BoundForms.{reads_or_changes}
use Rattle.sql_model.specs.Writing.{Effect, effect_of}
use Rattle.lake_core.specs.declared.who.Who.{Who}

-- the entries of the chronicle, each with whether it ends its transaction though that is explicit, and the sessions for
-- which room is reserved
pub record Lake : Type 0 where
  pub entries : List Noted
  pub rooms : List ℕ

-- a lake without tables
abbrev pub new_lake : Lake
new_lake = record { entries = []; rooms = [] }

-- the state that the chronicle leads to
abbrev pub state_of : Lake → State
state_of lake = state lake.entries

-- room is reserved for the session
abbrev pub is_reserved : Lake → ℕ → Bool
is_reserved lake session = list_any (λ s. s == session) lake.rooms

-- an entry that doesn't end an explicit transaction
abbrev pub noted : Who → Fact → Noted
noted who f = record { entry = record { session = who.session; place = who.place; fact = f }; ends = false }

-- The lake has one entry more, which was allowed. Its session keeps the room that is reserved for it as long as its
-- transaction is open, and every other session keeps its room.
pub record Adds (old new : Lake) (who : Who) (f : Fact) : Type 0 where
  pub entries : new.entries ≡ old.entries ++ noted who f ∷ []
  pub legal : IsLegal true new.entries
  pub kept : is_reserved new who.session ≡ (is_reserved old who.session && is_some (transaction (state_of new) who.session))
  pub others : (session : ℕ) → session ≢ who.session → is_reserved new session ≡ is_reserved old session

-- if the session has a transaction, BEGIN opened it
abbrev pub IsExplicit : State → ℕ → Type 0
IsExplicit st session = IfSome (transaction st session) (λ t. t.explicit ≡ true)

-- one part more of the session's transaction has a number of 32 bits
abbrev pub HasPart : State → ℕ → Type 0
HasPart st session = next_part st session < 2 ^ 32

-- the reply and the change are what some statement that reads or changes rows does over what the session sees, as its
-- transaction's next part
pub record IsStatementEffect (st : State) (session : ℕ) (effect : Effect) : Type 0 where
  pub form : Bound
  pub reads : reads_or_changes form ≡ true
  pub does : effect_of form (view st session).tables (next_part st session) ≡ Ok effect
