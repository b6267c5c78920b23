-- A worked example: two transactions delete from one table, of which the first commits and the
-- second conflicts. Then a checkpoint, a collection, a further row and a compaction. After each
-- entry: the entries so far, and the book that is kept.
use Rattle.std.specs.Prelude.{ℕ, true, false, not, List, [], ◌∷◌, ◌++◌, None, Some, codes, pos}
use Rattle.std.specs.Prelude.{if◌then◌else◌}
use Rattle.std.specs.Ordering.{is_eq}
use Rattle.lake_values.specs.Order.{row_cmp}
use Rattle.lake_values.specs.Schemas.{TableColumns}
use Rattle.lake_values.specs.declared.names.Kind.TheVariants.{Checkpoint as CheckpointKind, File}
use Rattle.lake_values.specs.declared.names.Kind.TheVariants.{Manifest}
use Rattle.lake_values.specs.declared.schemas.ColType.TheVariants.{Int as IntType}
use Rattle.lake_values.specs.declared.names.Name.{Name}
use Rattle.lake_values.specs.declared.values.Value.{Value}
use Rattle.lake_values.specs.declared.values.Value.TheVariants.{Int}
use Rattle.sql_model.specs.declared.changes.Change.{Change}
use Rattle.lake_model.specs.declared.entries.Fact.{Fact}
use Rattle.lake_model.specs.declared.entries.Fact.TheVariants as fact
use Rattle.sql_model.specs.declared.changes.Mark.{Mark}
use Rattle.sql_model.specs.declared.changes.MarkedRow.{MarkedRow}
use Rattle.sql_model.specs.declared.replies.Reply.TheVariants.{Wrote}
use Rattle.sql_model.specs.declared.replies.Verb.TheVariants.{Inserted, Deleted}
use Rattle.sql_model.specs.Changes.{no_change}
use Rattle.lake_values.specs.Names.{is_among, same_name}
use Rattle.lake_model.specs.State.{Noted, Transaction, Check}
use Rattle.sql_model.specs.Versions.{Table}
use Rattle.manifest_block.specs.declared.items.Item.{Item}
use Rattle.manifest_block.specs.declared.items.Item.TheVariants.{Add, Remove}
use Rattle.file_laws.specs.Compacting.{Merge}
use Rattle.file_laws.specs.Contents.{Contents}
use Rattle.file_laws.specs.Kept.{Book}
use Rattle.file_laws.specs.KeptLaws.{begun, empty_book, with_checkpoint, with_more, with_rows}
use Rattle.file_laws.specs.Marking.{Removal}
use Rattle.file_laws.specs.Stands.{Checkpoint}
use Rattle.file_laws.specs.StatementLaws.{Written}
use Rattle.file_laws.specs.Touching.{Row}
use Rattle.table_snapshot.specs.declared.files.FileRow.{FileRow}

-- the blobs: one file for each cell of the two rows, and the manifests of the two commits

abbrev pub table : List ℕ
table = codes "t"

abbrev pub row : ℕ → List Value
row n = Int (pos n) ∷ []

abbrev pub file_of_two : Name
file_of_two = record { kind = File; txn = 1; part = 1; task = 1; attempt = 1 }

abbrev pub file_of_one : Name
file_of_one = record { kind = File; txn = 1; part = 1; task = 2; attempt = 1 }

-- those of later commits

abbrev pub new_file : Name
new_file = record { kind = File; txn = 5; part = 1; task = 1; attempt = 1 }

abbrev pub merged_file : Name
merged_file = record { kind = File; txn = 6; part = 1; task = 1; attempt = 1 }

abbrev pub manifest : ℕ → Name
manifest txn = record { kind = Manifest; txn = txn; part = 0; task = 0; attempt = 1 }

-- the rows of a file
abbrev pub rows_in_file : Name → List (List Value)
rows_in_file n =
    if same_name n file_of_one then row 1 ∷ []
    else if same_name n merged_file then row 2 ∷ row 2 ∷ []
    else row 2 ∷ []

abbrev pub blobs : Contents
blobs = record {
  has = λ n. true;
  rows = rows_in_file;
  gone = λ n. [];
}

-- the chronicle

abbrev pub noted : ℕ → ℕ → Fact → Noted
noted session place f = record {
  entry = record {
    session = session;
    place = place;
    fact = f;
  };
  ends = false;
}

abbrev pub schema : TableColumns
schema = record { columns = record { name = codes "a"; kind = IntType } ∷ []; distribution = 0 }

abbrev pub inserts : Change
inserts = record {
  removed = [];
  added = record {
    table = table;
    part = 1;
    rows = row 1 ∷ row 2 ∷ [];
  } ∷ [];
}

abbrev pub mark : ℕ → Mark
mark cell = record { table = table; seq = 2; part = 1; cell = cell }

abbrev pub deletes : ℕ → ℕ → Change
deletes n cell = record { removed = record { mark = mark cell; row = row n } ∷ []; added = [] }

abbrev pub entry1 : Noted
entry1 = noted 0 1 (fact.Created table schema 1)

abbrev pub entry2 : Noted
entry2 = noted 0 2 (fact.Began false 1 1)

abbrev pub entry3 : Noted
entry3 = noted 0 2 (fact.Ran (Wrote Inserted 2 None) inserts)

abbrev pub entry4 : Noted
entry4 = noted 0 2 (fact.Committed 2 (file_of_two ∷ file_of_one ∷ []) [])

abbrev pub entry5 : Noted
entry5 = noted 1 3 (fact.Began true 2 2)

abbrev pub entry6 : Noted
entry6 = noted 2 4 (fact.Began true 3 2)

abbrev pub entry7 : Noted
entry7 = noted 1 5 (fact.Ran (Wrote Deleted 1 None) (deletes 1 15))

abbrev pub entry8 : Noted
entry8 = noted 2 6 (fact.Ran (Wrote Deleted 1 None) (deletes 2 2))

abbrev pub entry9 : Noted
entry9 = noted 1 7 (fact.Committed 3 [] (file_of_one ∷ []))

abbrev pub entry10 : Noted
entry10 = noted 2 8 (fact.Conflict 3)

-- the table is created

abbrev pub entries1 : List Noted
entries1 = entry1 ∷ []

abbrev pub book0 : Book
book0 = empty_book blobs

-- two rows are inserted

abbrev pub entries2 : List Noted
entries2 = entry1 ∷ entry2 ∷ []

abbrev pub book2 : Book
book2 = begun book0 0

abbrev pub inserting : Transaction
inserting = record {
  explicit = false;
  number = 1;
  snapshot = 1;
  pending = no_change;
  worn = [];
  parts = 0;
}

abbrev pub empty_table : Table
empty_table = record { name = table; schema = schema; rows = [] }

abbrev pub nothing : Removal
nothing = record { matches = λ row. false; vector = λ n. (n, 0) }

abbrev pub written : List Written
written =
    record { cell = 2; name = file_of_two; rows = 1 }
    ∷ record { cell = 15; name = file_of_one; rows = 1 }
    ∷ []

abbrev pub entries3 : List Noted
entries3 = entry1 ∷ entry2 ∷ entry3 ∷ []

abbrev pub book3 : Book
book3 = with_more book2 0 (Add table 2 1 file_of_two 1 ∷ Add table 15 1 file_of_one 1 ∷ [])

-- and committed

abbrev pub inserted : Transaction
inserted = record {
  explicit = false;
  number = 1;
  snapshot = 1;
  pending = inserts;
  worn = [];
  parts = 1;
}

abbrev pub commit2 : Row
commit2 = record {
  seq = 2;
  txn = 1;
  table = table;
  manifest = Some (manifest 1);
  items = Add table 2 1 file_of_two 1 ∷ Add table 15 1 file_of_one 1 ∷ [];
  added = file_of_two ∷ file_of_one ∷ [];
  dropped = [];
  marks = [];
}

abbrev pub entries4 : List Noted
entries4 = entry1 ∷ entry2 ∷ entry3 ∷ entry4 ∷ []

abbrev pub book4 : Book
book4 = with_rows book3 (commit2 ∷ [])

-- two transactions begin

abbrev pub entries5 : List Noted
entries5 = entry1 ∷ entry2 ∷ entry3 ∷ entry4 ∷ entry5 ∷ []

abbrev pub book5 : Book
book5 = begun book4 1

abbrev pub entries6 : List Noted
entries6 = entry1 ∷ entry2 ∷ entry3 ∷ entry4 ∷ entry5 ∷ entry6 ∷ []

abbrev pub book6 : Book
book6 = begun book5 2

-- each deletes a row, which was alone in its file

abbrev pub marked_row : ℕ → ℕ → MarkedRow
marked_row n cell = record { mark = mark cell; row = row n }

abbrev pub full_table : Table
full_table = record { name = table; schema = schema; rows = marked_row 1 15 ∷ marked_row 2 2 ∷ [] }

abbrev pub is_row : ℕ → Removal
is_row n = record { matches = λ r. is_eq (row_cmp r (row n)); vector = λ n. (n, 0) }

abbrev pub first : Transaction
first = record {
  explicit = true;
  number = 2;
  snapshot = 2;
  pending = no_change;
  worn = [];
  parts = 0;
}

abbrev pub second : Transaction
second = record {
  explicit = true;
  number = 3;
  snapshot = 2;
  pending = no_change;
  worn = [];
  parts = 0;
}

abbrev pub entries7 : List Noted
entries7 = entry1 ∷ entry2 ∷ entry3 ∷ entry4 ∷ entry5 ∷ entry6 ∷ entry7 ∷ []

abbrev pub book7 : Book
book7 = with_more book6 1 (Remove table file_of_one ∷ [])

abbrev pub entries8 : List Noted
entries8 = entry1 ∷ entry2 ∷ entry3 ∷ entry4 ∷ entry5 ∷ entry6 ∷ entry7 ∷ entry8 ∷ []

abbrev pub book8 : Book
book8 = with_more book7 2 (Remove table file_of_two ∷ [])

-- the first commits

abbrev pub first_after : Transaction
first_after = record first { pending = deletes 1 15; parts = 1 }

abbrev pub commit3 : Row
commit3 = record {
  seq = 3;
  txn = 2;
  table = table;
  manifest = Some (manifest 2);
  items = Remove table file_of_one ∷ [];
  added = [];
  dropped = file_of_one ∷ [];
  marks = mark 15 ∷ [];
}

abbrev pub entries9 : List Noted
entries9 = entry1 ∷ entry2 ∷ entry3 ∷ entry4 ∷ entry5 ∷ entry6 ∷ entry7 ∷ entry8 ∷ entry9 ∷ []

abbrev pub book9 : Book
book9 = with_rows book8 (commit3 ∷ [])

-- and the second conflicts

abbrev pub entries10 : List Noted
entries10 =
    entry1 ∷ entry2 ∷ entry3 ∷ entry4 ∷ entry5 ∷ entry6 ∷ entry7 ∷ entry8 ∷ entry9 ∷ entry10 ∷ []

abbrev pub left_file : FileRow
left_file = record { file = file_of_two; seq = 2; part = 1; cell = 2; rows = 1; vector = None }

abbrev pub file_after : FileRow
file_after = record { file = merged_file; seq = 5; part = 1; cell = 2; rows = 2; vector = None }

-- then a checkpoint, a collection that gives up the other file, a further row in the same cell, and
-- a compaction

abbrev pub entry11 : Noted
entry11 = noted 0 9 (fact.Began false 4 3)

abbrev pub checkpoint_name : Name
checkpoint_name = record { kind = CheckpointKind; txn = 4; part = 0; task = 0; attempt = 1 }

abbrev pub check : Check
check = record { table = table; at = 3; begun = 4; name = checkpoint_name }

abbrev pub checkpoint : Checkpoint
checkpoint = record { check = check; files = left_file ∷ [] }

abbrev pub entry12 : Noted
entry12 = noted 0 9 (fact.Checkpointed table 3 checkpoint_name)

abbrev pub entry13 : Noted
entry13 = noted 0 10 (fact.Collected (file_of_one ∷ []) 3)

abbrev pub entry14 : Noted
entry14 = noted 0 11 (fact.Began false 5 3)

abbrev pub inserts_again : Change
inserts_again = record {
  removed = [];
  added = record {
    table = table;
    part = 1;
    rows = row 2 ∷ [];
  } ∷ [];
}

abbrev pub entry15 : Noted
entry15 = noted 0 11 (fact.Ran (Wrote Inserted 1 None) inserts_again)

abbrev pub entry16 : Noted
entry16 = noted 0 11 (fact.Committed 4 (new_file ∷ []) [])

abbrev pub entry17 : Noted
entry17 = noted 0 12 (fact.Began false 6 4)

abbrev pub new_mark : Mark
new_mark = record { table = table; seq = 4; part = 1; cell = 2 }

abbrev pub entry18 : Noted
entry18 =
    noted 0 12
    (fact.Compacted table (2 ∷ []) (mark 2 ∷ new_mark ∷ []) 5 (merged_file ∷ [])
    (file_of_two ∷ new_file ∷ []))

abbrev pub entries11 : List Noted
entries11 = entries10 ++ entry11 ∷ []

abbrev pub book11 : Book
book11 = begun book9 0

abbrev pub entries12 : List Noted
entries12 = entries11 ++ entry12 ∷ []

abbrev pub book12 : Book
book12 = with_checkpoint book11 checkpoint

abbrev pub fewer_blobs : Contents
fewer_blobs = record blobs { has = λ n. not (is_among n (file_of_one ∷ [])) }

abbrev pub entries13 : List Noted
entries13 = entries12 ++ entry13 ∷ []

abbrev pub book13 : Book
book13 = record book12 { contents = fewer_blobs }

abbrev pub entries14 : List Noted
entries14 = entries13 ++ entry14 ∷ []

abbrev pub book14 : Book
book14 = begun book13 0

abbrev pub adding : Transaction
adding = record {
  explicit = false;
  number = 5;
  snapshot = 3;
  pending = no_change;
  worn = [];
  parts = 0;
}

abbrev pub table_left : Table
table_left = record { name = table; schema = schema; rows = marked_row 2 2 ∷ [] }

abbrev pub written_alone : List Written
written_alone = record { cell = 2; name = new_file; rows = 1 } ∷ []

abbrev pub entries15 : List Noted
entries15 = entries14 ++ entry15 ∷ []

abbrev pub book15 : Book
book15 = with_more book14 0 (Add table 2 1 new_file 1 ∷ [])

abbrev pub adding_after : Transaction
adding_after = record adding { pending = inserts_again; parts = 1 }

abbrev pub commit4 : Row
commit4 = record {
  seq = 4;
  txn = 5;
  table = table;
  manifest = Some (manifest 5);
  items = Add table 2 1 new_file 1 ∷ [];
  added = new_file ∷ [];
  dropped = [];
  marks = [];
}

abbrev pub entries16 : List Noted
entries16 = entries15 ++ entry16 ∷ []

abbrev pub book16 : Book
book16 = with_rows book15 (commit4 ∷ [])

abbrev pub entries17 : List Noted
entries17 = entries16 ++ entry17 ∷ []

abbrev pub book17 : Book
book17 = begun book16 0

abbrev pub compacting : Transaction
compacting = record {
  explicit = false;
  number = 6;
  snapshot = 4;
  pending = no_change;
  worn = [];
  parts = 0;
}

abbrev pub merge : Merge
merge = record {
  new = record {
    cell = 2;
    name = merged_file;
    rows = 2;
  };
  olds = file_of_two ∷ new_file ∷ [];
}

abbrev pub merge_items : List Item
merge_items = Add table 2 1 merged_file 2 ∷ Remove table file_of_two ∷ Remove table new_file ∷ []

abbrev pub commit5 : Row
commit5 = record {
  seq = 5;
  txn = 6;
  table = table;
  manifest = Some (manifest 6);
  items = merge_items;
  added = merged_file ∷ [];
  dropped = file_of_two ∷ new_file ∷ [];
  marks = mark 2 ∷ new_mark ∷ [];
}

abbrev pub entries18 : List Noted
entries18 = entries17 ++ entry18 ∷ []

abbrev pub book18 : Book
book18 = with_rows book17 (commit5 ∷ [])
