-- A worked example: a transaction reads beside a compaction and a collection. What it sees stays as
-- long as it is open, and so do the files; the next collection gives up those that were replaced.
use Rattle.std.specs.Prelude.{ℕ, true, false, List, [], ◌∷◌, ◌++◌, None, Some}
use Rattle.lake_values.specs.declared.names.Kind.TheVariants.{File}
use Rattle.lake_values.specs.declared.names.Name.{Name}
use Rattle.lake_values.specs.declared.values.Value.{Value}
use Rattle.sql_model.specs.declared.changes.Change.{Change}
use Rattle.sql_model.specs.declared.changes.Mark.{Mark}
use Rattle.sql_model.specs.declared.changes.MarkedRow.{MarkedRow}
use Rattle.sql_model.specs.declared.replies.Reply.TheVariants.{Rows, Wrote}
use Rattle.sql_model.specs.declared.replies.Verb.TheVariants.{Inserted}
use Rattle.sql_model.specs.Changes.{no_change}
use Rattle.lake_model.specs.declared.entries.Fact.TheVariants as fact
use Rattle.lake_model.specs.State.{Noted}
use Rattle.manifest_block.specs.declared.items.Item.{Item}
use Rattle.manifest_block.specs.declared.items.Item.TheVariants.{Add, Remove}
use Rattle.table_snapshot.specs.declared.files.FileRow.{FileRow}
use Rattle.file_laws.specs.Example.{manifest, noted, row, schema, table}
use Rattle.file_laws.specs.Touching.{Row}

-- the file that a transaction's task wrote
abbrev pub file : ℕ → ℕ → Name
file txn task = record { kind = File; txn = txn; part = 1; task = task; attempt = 1 }

-- two inserts of one row each into cell 15, and a compaction of this cell

abbrev pub first : Name
first = file 1 16

abbrev pub second : Name
second = file 2 16

abbrev pub merged : Name
merged = file 4 1

abbrev pub inserts : Change
inserts = record {
  removed = [];
  added = record {
    table = table;
    part = 1;
    rows = row 1 ∷ [];
  } ∷ [];
}

abbrev pub mark : ℕ → Mark
mark seq = record { table = table; seq = seq; part = 1; cell = 15 }

abbrev pub twice : List (List Value)
twice = row 1 ∷ row 1 ∷ []

-- a table is created, two rows are inserted, and session 1 begins a transaction
abbrev pub started : List Noted
started =
    noted 0 1 (fact.Created table schema 1)
    ∷ noted 0 2 (fact.Began false 1 1)
    ∷ noted 0 2 (fact.Ran (Wrote Inserted 1 None) inserts)
    ∷ noted 0 2 (fact.Committed 2 (first ∷ []) [])
    ∷ noted 0 3 (fact.Began false 2 2)
    ∷ noted 0 3 (fact.Ran (Wrote Inserted 1 None) inserts)
    ∷ noted 0 3 (fact.Committed 3 (second ∷ []) [])
    ∷ noted 1 4 (fact.Began true 3 3)
    ∷ []

-- session 2 compacts the table and collects; then the first session reads
abbrev pub beside : List Noted
beside =
    started
    ++ noted 2 5 (fact.Began false 4 3)
    ∷ noted 2 5
    (fact.Compacted table (15 ∷ []) (mark 2 ∷ mark 3 ∷ []) 4 (merged ∷ [])
    (first ∷ second ∷ []))
    ∷ noted 2 6 (fact.Collected [] 3)
    ∷ noted 1 7 (fact.Ran (Rows twice) no_change)
    ∷ []

-- it ends, and session 2 collects again
abbrev pub afterwards : List Noted
afterwards =
    beside
    ++ noted 1 8 fact.RolledBack
    ∷ noted 2 9 (fact.Collected (first ∷ second ∷ []) 4)
    ∷ []

-- the catalogue's rows of the three commits

abbrev pub inserted : ℕ → ℕ → Name → Row
inserted seq txn name = record {
  seq = seq;
  txn = txn;
  table = table;
  manifest = Some (manifest txn);
  items = Add table 15 1 name 1 ∷ [];
  added = name ∷ [];
  dropped = [];
  marks = [];
}

abbrev pub merge_items : List Item
merge_items = Add table 15 1 merged 2 ∷ Remove table first ∷ Remove table second ∷ []

abbrev pub compacted : Row
compacted = record {
  seq = 4;
  txn = 4;
  table = table;
  manifest = Some (manifest 4);
  items = merge_items;
  added = merged ∷ [];
  dropped = first ∷ second ∷ [];
  marks = mark 2 ∷ mark 3 ∷ [];
}

abbrev pub rows : List Row
rows = inserted 2 1 first ∷ inserted 3 2 second ∷ compacted ∷ []

abbrev pub all_files : List Name
all_files = first ∷ second ∷ merged ∷ []

-- what they come to

abbrev pub file_row : ℕ → Name → ℕ → FileRow
file_row seq name count = record {
  file = name;
  seq = seq;
  part = 1;
  cell = 15;
  rows = count;
  vector = None;
}

-- row 1 as this commit
abbrev pub row_of : ℕ → MarkedRow
row_of seq = record { mark = mark seq; row = row 1 }
