-- What is due for compaction in the worked example of upkeep, and what is worn.
use Rattle.std.proofs.Common.{◌≡◌, ℕ, List, [], ◌∷◌, refl, ap, ◌∙◌}
use Rattle.std.specs.Prelude.{pos, codes}
use Rattle.lake_values.specs.Cells.{cell, hash_step}
use Rattle.lake_values.specs.Spelling.{u64_spelling}
use Rattle.lake_values.specs.declared.values.Value.TheVariants.{Int}
use Rattle.sql_model.specs.declared.changes.Mark.{Mark}
use Rattle.sql_model.specs.declared.changes.MarkedRow.{MarkedRow}
use Rattle.sql_model.specs.Changes.{version_after}
use Rattle.sql_model.specs.Versions.{Version}
use Rattle.lake_model.specs.Compactions.{due, marks_in}
use Rattle.lake_model.specs.State.{state, version_at, view}
use Rattle.lake_model.specs.Examples.{columns, filled, mark_of_commit, removal, row}

cell_of_one : cell (Int (pos 1)) ≡ 15
unfolding hash_step u64_spelling
cell_of_one = refl

abbrev added_by : ℕ → ℕ → MarkedRow
added_by seq c = record { mark = record { table = codes "t"; seq = seq; part = 1; cell = c }; row = row 1 }

-- version 3, where the rows stand in this cell
abbrev filled_in : ℕ → Version
filled_in c = record {
  tables = record {
    name = codes "t";
    schema = record { columns = columns; distribution = 0 };
    rows = added_by 2 c ∷ added_by 2 c ∷ added_by 3 c ∷ [];
  } ∷ [];
  worn = [];
  struck = [];
}

seen : version_at (state filled) 3 ≡ filled_in 15
seen =
    let as_computed : version_at (state filled) 3 ≡ filled_in (cell (Int (pos 1))) = refl in
    as_computed ∙ ap filled_in cell_of_one

pub all_due : due (codes "t") (version_at (state filled) 3) ≡ 15 ∷ []
all_due = ap (due (codes "t")) seen

pub marks_due : marks_in (codes "t") (15 ∷ []) (version_at (state filled) 3).tables ≡ mark_of_commit 2 ∷ mark_of_commit 3 ∷ []
marks_due = ap (λ (v : Version). marks_in (codes "t") (15 ∷ []) v.tables) seen

-- what is worn in version 3 after the removal, where the rows stand in this cell
abbrev worn_in : ℕ → List Mark
worn_in c =
    let removed : MarkedRow = record { mark = mark_of_commit 2; row = row 1 } in
    (version_after 0 (record { removed = removed ∷ []; added = [] }) [] (filled_in c)).worn

pub worn_seen : (view (state removal) 2).worn ≡ mark_of_commit 2 ∷ []
worn_seen =
    let as_computed : (view (state removal) 2).worn ≡ worn_in (cell (Int (pos 1))) = refl in
    as_computed ∙ ap worn_in cell_of_one
