-- Which cells of a table are due for compaction, and what a version is after one.
use Rattle.std.specs.Prelude.{ℕ, ◌==◌, Bool, false, ◌||◌, ◌&&◌, not, List, [], ◌∷◌, map, filter, if◌then◌else◌}
use Rattle.std.specs.List.{list_any}
use Rattle.sql_model.specs.declared.changes.Mark.{Mark}
use Rattle.sql_model.specs.declared.changes.MarkedRow.{MarkedRow}
use Rattle.sql_model.specs.Changes.{mark_cmp, same_mark, has_mark}
use Rattle.sql_model.specs.Units.{marks_of}
use Rattle.sql_model.specs.Listing.{ordered}
use Rattle.sql_model.specs.Versions.{Table, Tables, Version, marked_rows_of}
use Rattle.lake_values.specs.Texts.{same_text}

-- the numbers of the cells, ascending
abbrev pub all_cells : List ℕ
all_cells = 0 ∷ 1 ∷ 2 ∷ 3 ∷ 4 ∷ 5 ∷ 6 ∷ 7 ∷ 8 ∷ 9 ∷ 10 ∷ 11 ∷ 12 ∷ 13 ∷ 14 ∷ 15 ∷ []

abbrev pub is_in_cell : ℕ → Mark → Bool
is_in_cell cell mark = mark.cell == cell

-- the marks that the rows of a table have in a cell
abbrev pub cell_marks : List ℕ → ℕ → Tables → List Mark
cell_marks table cell tables = filter (is_in_cell cell) (marks_of (marked_rows_of table tables))

-- two of the marks differ
abbrev pub are_several : List Mark → Bool
are_several [] = false
are_several (m ∷ ms) = list_any (λ n. not (same_mark m n)) ms

-- the table's rows in the cell have two marks or more, or a worn one
abbrev pub is_due : List ℕ → Version → ℕ → Bool
is_due table version cell =
    are_several (cell_marks table cell version.tables) || list_any (λ m. same_text m.table table && is_in_cell cell m) version.worn

-- the cells of a table that are due for compaction
abbrev pub due : List ℕ → Version → List ℕ
due table version = filter (is_due table version) all_cells

-- each mark once
abbrev pub each_once : List Mark → List Mark
each_once [] = []
each_once (m ∷ ms) = m ∷ filter (λ n. not (same_mark m n)) (each_once ms)

-- the marks that the rows of a table have in these cells, ascending
abbrev pub marks_in : List ℕ → List ℕ → Tables → List Mark
marks_in table cells tables = ordered mark_cmp (each_once (filter (λ m. list_any (λ c. is_in_cell c m) cells) (marks_of (marked_rows_of table tables))))

-- a row as a compaction that replaces these marks leaves it
abbrev pub replaced : ℕ → List Mark → MarkedRow → MarkedRow
replaced seq marks m = if list_any (same_mark m.mark) marks then record m { mark = record m.mark { seq = seq; part = 1 } } else m

abbrev pub compacted_table : List ℕ → ℕ → List Mark → Table → Table
compacted_table table seq marks t = if same_text t.name table then record t { rows = map (replaced seq marks) t.rows } else t

-- The version after a compaction of a table, as this commit. The rows that have one of the marks have one mark for each
-- cell, which isn't worn; no other row changes.
abbrev pub version_compacted : List ℕ → ℕ → List Mark → Version → Version
version_compacted table seq marks version =
    let tables = map (compacted_table table seq marks) version.tables in
    record { tables = tables; worn = filter (has_mark tables) version.worn; struck = marks }
