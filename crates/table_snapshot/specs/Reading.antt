-- How a checkpoint is read.
use Rattle.std.specs.Prelude.{◌==◌, ◌&&◌, ℕ, Bool, false, not, List, Option, None, Some, Ok, nat_lt}
use Rattle.std.specs.Prelude.{nat_le, codes, replicate, if◌then◌else◌}
use Rattle.lake_values.specs.declared.faults.BadKind.TheVariants.{BadTag, NotCanonical}
use Rattle.lake_values.specs.declared.names.Kind.TheVariants.{File, Vector}
use Rattle.lake_values.specs.declared.names.Name.{Name}
use Rattle.lake_values.specs.Spelling.{kind_byte}
use Rattle.lake_values.specs.Reading.{Reader, ◌>>=◌, checked, byte_at, u32_at, u64_at, text_at}
use Rattle.lake_values.specs.Reading.{name_at, magic_at, each_at}
use Rattle.table_snapshot.specs.declared.files.Checkpoint.{Checkpoint}
use Rattle.table_snapshot.specs.declared.files.FileRow.{FileRow}

-- Names ascend. A number breaks their order where all numbers in front of it are those of the name
-- before, and it is below that name's number; the last, the attempt, also where it is the same.

abbrev pub txn_falls : Option Name → ℕ → Bool
txn_falls None txn = false
txn_falls (Some before) txn = nat_lt txn before.txn

abbrev pub part_falls : Option Name → ℕ → ℕ → Bool
part_falls None txn part = false
part_falls (Some before) txn part = txn == before.txn && nat_lt part before.part

abbrev pub task_falls : Option Name → ℕ → ℕ → ℕ → Bool
task_falls None txn part task = false
task_falls (Some before) txn part task =
    txn == before.txn && part == before.part && nat_lt task before.task

abbrev pub attempt_falls : Option Name → ℕ → ℕ → ℕ → ℕ → Bool
attempt_falls None txn part task attempt = false
attempt_falls (Some before) txn part task attempt =
    txn == before.txn && part == before.part && task == before.task
    && nat_le attempt before.attempt

abbrev pub made_name : ℕ → ℕ → ℕ → ℕ → Name
made_name txn part task attempt = record {
  kind = File;
  txn = txn;
  part = part;
  task = task;
  attempt = attempt;
}

-- the name of a file, behind that of the file before
unfoldable pub next_name_at : Option Name → Reader Name
next_name_at before at bytes = do
  tag ← checked (λ b. b == kind_byte File) BadTag byte_at at bytes
  txn ← checked (λ n. not (txn_falls before n)) NotCanonical u64_at tag.1 tag.2
  part ← checked (λ n. not (part_falls before txn.0 n)) NotCanonical u32_at txn.1 txn.2
  task ← checked (λ n. not (task_falls before txn.0 part.0 n)) NotCanonical u32_at part.1 part.2
  attempt ←
      checked (λ n. not (attempt_falls before txn.0 part.0 task.0 n)) NotCanonical u32_at
      task.1 task.2
  Ok (made_name txn.0 part.0 task.0 attempt.0, attempt.1, attempt.2)

-- what stands behind the byte of a vector
abbrev pub vector_behind : ℕ → Reader (Option (Name × ℕ))
vector_behind byte at bytes =
    if byte == 0 then Ok (None, at, bytes) else
    (name_at Vector at bytes >>= λ name. u64_at name.1 name.2 >>= λ removed.
    Ok (Some (name.0, removed.0), removed.1, removed.2))

unfoldable pub vector_at : Reader (Option (Name × ℕ))
vector_at at bytes = do
  byte ← checked (λ b. nat_lt b 2) BadTag byte_at at bytes
  vector_behind byte.0 byte.1 byte.2

abbrev pub name_of : Option FileRow → Option Name
name_of None = None
name_of (Some f) = Some f.file

abbrev pub made_file : Name → ℕ → ℕ → ℕ → ℕ → Option (Name × ℕ) → FileRow
made_file file seq part cell rows vector = record {
  file = file;
  seq = seq;
  part = part;
  cell = cell;
  rows = rows;
  vector = vector;
}

-- a file, behind the file before
unfoldable pub file_at : Option FileRow → Reader FileRow
file_at before at bytes = do
  file ← next_name_at (name_of before) at bytes
  seq ← u64_at file.1 file.2
  part ← u32_at seq.1 seq.2
  cell ← checked (λ n. nat_lt n 16) NotCanonical u32_at part.1 part.2
  rows ← u64_at cell.1 cell.2
  vector ← vector_at rows.1 rows.2
  Ok (made_file file.0 seq.0 part.0 cell.0 rows.0 vector.0, vector.1, vector.2)

-- so many files
abbrev pub files_at : ℕ → Reader (List FileRow)
files_at count = each_at (λ before place. file_at before) None (replicate count (tt {0}))

unfoldable pub checkpoint_at : Reader Checkpoint
checkpoint_at at bytes = do
  magic ← magic_at (codes "LCP1") at bytes
  table ← text_at magic.1 magic.2
  version ← u64_at table.1 table.2
  count ← u64_at version.1 version.2
  files ← files_at count.0 count.1 count.2
  Ok (record { table = table.0; at = version.0; files = files.0 }, files.1, files.2)
