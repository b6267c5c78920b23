-- Conflict units: what two transactions that run at once may not both write.
use Rattle.std.specs.Prelude.{ℕ, Bool, List, [], ◌∷◌, map}
use Rattle.std.specs.List.{list_any}
use Rattle.lake_values.specs.Texts.{same_text}
use Rattle.sql_model.specs.declared.changes.Change.{Change}
use Rattle.sql_model.specs.declared.changes.Mark.{Mark}
use Rattle.sql_model.specs.declared.changes.MarkedRow.{MarkedRow}

-- a unit is a whole table
pub data ConflictUnit : Type 0 where
  whole_table : List ℕ → ConflictUnit

abbrev pub same_unit : ConflictUnit → ConflictUnit → Bool
same_unit (whole_table s) (whole_table t) = same_text s t

-- one of the units is among the others
abbrev pub share_unit : List ConflictUnit → List ConflictUnit → Bool
share_unit us vs = list_any (λ u. list_any (same_unit u) vs) us

abbrev pub marks_of : List MarkedRow → List Mark
marks_of rows = map (λ m. m.mark) rows

-- the units of the rows with these marks
abbrev pub units_of_marks : List Mark → List ConflictUnit
units_of_marks marks = map (λ m. whole_table m.table) marks

-- what a transaction with this change writes: the units of the committed rows that it removed. To add rows writes none
abbrev pub units_of : Change → List ConflictUnit
units_of change = units_of_marks (marks_of change.removed)

-- what a compaction of a table writes
abbrev pub units_of_compaction : List ℕ → List ConflictUnit
units_of_compaction table = whole_table table ∷ []
