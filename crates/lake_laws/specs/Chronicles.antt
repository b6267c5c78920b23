-- A chronicle, with what stands beside its entries for good.
use Rattle.std.specs.Prelude.{ℕ, ◌==◌, List, [], ◌∷◌, ◌++◌, map, if◌then◌else◌}
use Rattle.std.specs.List.{flat_map}
use Rattle.lake_model.specs.declared.entries.Fact.{Fact}
use Rattle.lake_model.specs.declared.entries.Fact.TheVariants.{Created, Began, Ran, Committed}
use Rattle.lake_model.specs.declared.entries.Fact.TheVariants.{Conflict, Ended, RolledBack, Refused}
use Rattle.lake_model.specs.declared.entries.Fact.TheVariants.{Failed, Compacted, Checkpointed}
use Rattle.lake_model.specs.declared.entries.Fact.TheVariants.{Collected}
use Rattle.lake_model.specs.State.{Noted, State, state}
use Rattle.manifest_block.specs.declared.items.Item.{Item}
use Rattle.op_write.specs.Staging.{Written}

-- an entry, with what its tasks wrote where a statement ran
pub record Beside : Type 0 where
  pub noted : Noted
  pub wrote : List Written

abbrev pub chronicle : List Beside → List Noted
chronicle entries = map (λ b. b.noted) entries

-- the state that the chronicle leads to
abbrev pub state_of : List Beside → State
state_of entries = state (chronicle entries)

-- what a session's transaction wrote, after a further entry of the session
abbrev pub own_after : List Written → List Written → Fact → List Written
own_after own wrote (Created table schema seq) = own
own_after own wrote (Began explicit txn snapshot) = []
own_after own wrote (Ran reply change) = own ++ wrote
own_after own wrote (Committed seq added dropped) = own
own_after own wrote (Conflict seq) = own
own_after own wrote Ended = own
own_after own wrote RolledBack = own
own_after own wrote (Refused cause) = own
own_after own wrote (Failed cause) = own
own_after own wrote (Compacted table cells marks seq added dropped) = own
own_after own wrote (Checkpointed table at name) = own
own_after own wrote (Collected names floor) = own

abbrev pub own_from : ℕ → List Written → List Beside → List Written
own_from session own [] = own
own_from session own (b ∷ bs) =
    let is_own = b.noted.entry.session == session in
    own_from session (if is_own then own_after own b.wrote b.noted.entry.fact else own) bs

-- what the session's transaction wrote so far, task by task
abbrev pub own_written : ℕ → List Beside → List Written
own_written session entries = own_from session [] entries

-- its items
abbrev pub items_written : List Written → List Item
items_written wrote = flat_map (λ w. w.items) wrote

abbrev pub own_items : List Beside → ℕ → List Item
own_items entries session = items_written (own_written session entries)
