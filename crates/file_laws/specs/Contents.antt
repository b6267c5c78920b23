-- What the blobs of files and vectors hold, and which rows of a table's files are left.
use Rattle.std.specs.Prelude.{ℕ, ◌==◌, Bool, List, [], map, if◌then◌else◌}
use Rattle.std.specs.List.{flat_map}
use Rattle.std.specs.Option.{option_map_or}
use Rattle.lake_values.specs.declared.names.Name.{Name}
use Rattle.lake_values.specs.declared.values.Value.{Value}
use Rattle.sql_model.specs.declared.changes.Mark.{Mark}
use Rattle.sql_model.specs.declared.changes.MarkedRow.{MarkedRow}
use Rattle.data_cell.specs.Live.{live_rows}
use Rattle.table_snapshot.specs.declared.files.FileRow.{FileRow}

-- which blobs there are, the rows of each file, and the positions that each vector holds
pub record Contents : Type 0 where
  pub has : Name → Bool
  pub rows : Name → List (List Value)
  pub gone : Name → List ℕ

-- the positions of the rows of a file that are gone
abbrev pub gone_of : Contents → FileRow → List ℕ
gone_of c f = option_map_or (λ v. c.gone v.0) f.vector []

-- the rows of a file that are left
abbrev pub live_of : Contents → FileRow → List (List Value)
live_of c f = live_rows (gone_of c f) (c.rows f.file)

-- the mark of the rows of a file
abbrev pub mark_of : List ℕ → FileRow → Mark
mark_of table f = record { table = table; seq = f.seq; part = f.part; cell = f.cell }

-- a row under a mark
abbrev pub with_mark : Mark → List Value → MarkedRow
with_mark mark row = record { mark = mark; row = row }

-- these, each under the mark of its file
abbrev pub marked_live : Contents → List ℕ → FileRow → List MarkedRow
marked_live c table f = map (with_mark (mark_of table f)) (live_of c f)

-- the rows that are left of the files of a table
abbrev pub rows_in : Contents → List ℕ → List FileRow → List MarkedRow
rows_in c table files = flat_map (marked_live c table) files

-- what isn't committed becomes this commit

-- a commit's number for what isn't committed, and the old number for what is
abbrev pub seq_as : ℕ → ℕ → ℕ
seq_as seq old = if old == 0 then seq else old

-- the same of a file
abbrev pub file_as : ℕ → FileRow → FileRow
file_as seq f = record f { seq = seq_as seq f.seq }

-- and of a row
abbrev pub row_as : ℕ → MarkedRow → MarkedRow
row_as seq m = record m { mark = record m.mark { seq = seq_as seq m.mark.seq } }
