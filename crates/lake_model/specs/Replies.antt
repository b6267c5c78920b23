-- The text of replies.
use Rattle.std.specs.Prelude.{ℕ, List, [], ◌++◌, Option, None, Some, length, codes}
use Rattle.std.specs.List.{flat_map}
use Rattle.std.specs.Fmt.{decimal}
use Rattle.lake_values.specs.Print.{text_of_row}
use Rattle.lake_values.specs.declared.values.Value.{Value}
use Rattle.lake_values.specs.declared.names.Kind.{Kind}
use Rattle.lake_values.specs.declared.names.Kind.TheVariants.{File, Vector, Manifest, Checkpoint}
use Rattle.lake_values.specs.declared.names.Name.{Name}
use Rattle.sql_model.specs.declared.replies.Refusal.{Refusal}
use Rattle.sql_model.specs.declared.replies.Refusal.TheVariants.{UnknownTable, UnknownColumn, Ambiguous, TypeMismatch, ColumnCount, NotGrouped, TableExists, NoTransaction, InTransaction, TooManyRows, Arith}
use Rattle.sql_model.specs.declared.replies.Failure.{Failure}
use Rattle.sql_model.specs.declared.replies.Failure.TheVariants.{StoreFault, Damaged}
use Rattle.sql_model.specs.declared.replies.Verb.{Verb}
use Rattle.sql_model.specs.declared.replies.Verb.TheVariants.{Inserted, Updated, Deleted}
use Rattle.sql_model.specs.declared.replies.Reply.{Reply}
use Rattle.sql_model.specs.declared.replies.Reply.TheVariants.{Created, Begun, Wrote, Rows, Committed, Ended, RolledBack, Conflict, Compacted, Checkpointed, Collected, Refused, Failed}

abbrev pub kind_text : Kind → List ℕ
kind_text File = codes "f"
kind_text Vector = codes "v"
kind_text Manifest = codes "m"
kind_text Checkpoint = codes "c"

-- the name of a blob
abbrev pub name_text : Name → List ℕ
name_text n = kind_text n.kind ++ codes "-" ++ decimal n.txn ++ codes "-" ++ decimal n.part ++ codes "-" ++ decimal n.task ++ codes "-" ++ decimal n.attempt

abbrev pub refusal_text : Refusal → List ℕ
refusal_text (UnknownTable name) = codes "unknown table " ++ name
refusal_text (UnknownColumn name) = codes "unknown column " ++ name
refusal_text (Ambiguous name) = codes "ambiguous " ++ name
refusal_text TypeMismatch = codes "type mismatch"
refusal_text ColumnCount = codes "column count"
refusal_text NotGrouped = codes "not grouped"
refusal_text (TableExists name) = codes "table exists " ++ name
refusal_text NoTransaction = codes "no transaction"
refusal_text InTransaction = codes "in transaction"
refusal_text TooManyRows = codes "too many rows"
refusal_text Arith = codes "arithmetic"

abbrev pub failure_text : Failure → List ℕ
failure_text (StoreFault task) = codes "store fault"
failure_text (Damaged name place) = codes "damaged " ++ name_text name ++ codes " at " ++ decimal place

abbrev pub verb_text : Verb → List ℕ
verb_text Inserted = codes "inserted "
verb_text Updated = codes "updated "
verb_text Deleted = codes "deleted "

-- the number of the version that a statement made by itself
abbrev pub seq_text : Option ℕ → List ℕ
seq_text None = []
seq_text (Some seq) = codes " as " ++ decimal seq

-- what a reply says in its own line
abbrev pub line_text : Reply → List ℕ
line_text (Created table seq) = codes "created " ++ table ++ codes " as " ++ decimal seq
line_text (Begun snapshot) = codes "begun at " ++ decimal snapshot
line_text (Wrote verb count seq) = verb_text verb ++ decimal count ++ seq_text seq
line_text (Rows rows) = decimal (length rows) ++ codes " rows"
line_text (Committed seq) = codes "committed as " ++ decimal seq
line_text Ended = codes "ended"
line_text RolledBack = codes "rolled back"
line_text (Conflict seq) = codes "conflict with " ++ decimal seq
line_text (Compacted cells seq) = codes "compacted " ++ decimal cells ++ codes " cells" ++ seq_text seq
line_text (Checkpointed table at) = codes "checkpointed " ++ table ++ codes " at " ++ decimal at
line_text (Collected floor) = codes "collected to " ++ decimal floor
line_text (Refused cause) = codes "refused: " ++ refusal_text cause
line_text (Failed cause) = codes "failed: " ++ failure_text cause

-- a row with its line feed
abbrev pub row_line : List Value → List ℕ
row_line row = text_of_row row ++ codes "\n"

-- the rows of an answer, a line each
abbrev pub rows_text : Reply → List ℕ
rows_text (Created table seq) = []
rows_text (Begun snapshot) = []
rows_text (Wrote verb count seq) = []
rows_text (Rows rows) = flat_map row_line rows
rows_text (Committed seq) = []
rows_text Ended = []
rows_text RolledBack = []
rows_text (Conflict seq) = []
rows_text (Compacted cells seq) = []
rows_text (Checkpointed table at) = []
rows_text (Collected floor) = []
rows_text (Refused cause) = []
rows_text (Failed cause) = []

-- the reply of the statement at a place: the place, what the reply says, and its rows
abbrev pub text_of_reply : ℕ → Reply → List ℕ
text_of_reply place reply = decimal place ++ codes ": " ++ line_text reply ++ codes "\n" ++ rows_text reply
