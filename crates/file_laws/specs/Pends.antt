-- What a further statement of a transaction makes of what the transaction sees.
use Rattle.std.specs.Prelude.{◌≡◌, ℕ, ◌+◌, ◌==◌, false, List, [], ◌∷◌}
use Rattle.std.specs.List.{AllByRecursion, flat_map}
use Rattle.sql_model.specs.declared.changes.Added.{Added}
use Rattle.sql_model.specs.declared.changes.Change.{Change}
use Rattle.sql_model.specs.declared.changes.MarkedRow.{MarkedRow}
use Rattle.sql_model.specs.Listing.{IsPartOf, weight}
use Rattle.sql_model.specs.Changes.{added_to, changed_table, is_own, pend, removed_from}
use Rattle.sql_model.specs.Versions.{Table}

-- the additions are of different parts
abbrev pub HaveOwnParts : List Added → Type 0
HaveOwnParts [] = Unit {0}
HaveOwnParts (a ∷ as') = AllByRecursion (λ b. (a.part == b.part) ≡ false) as' × HaveOwnParts as'

-- what the transaction sees of the table after the statement is what it saw before, without the
-- rows that the statement removed and with those that it added; and all that it removed are rows of
-- its snapshot
pub record SeesAfter (s : Table) (before change : Change) : Type 0 where
  pub part : IsPartOf (removed_from s (pend before change).removed) s.rows
  pub weighs :
      (g : MarkedRow → ℕ)
      → weight g (changed_table 0 (pend before change) s).rows
      + weight g (removed_from s change.removed)
      ≡ weight g (changed_table 0 before s).rows + weight g (flat_map (added_to s 0) change.added)

-- What a transaction sees after a further statement is so, whatever the statement changes.
abbrev pub PendsAsSeen : Type 0
PendsAsSeen =
    (s : Table) (before change : Change) → AllByRecursion (λ m. is_own m ≡ false) s.rows
    → IsPartOf (removed_from s before.removed) s.rows → HaveOwnParts before.added
    → IsPartOf (removed_from s change.removed) (changed_table 0 before s).rows
    → SeesAfter s before change
