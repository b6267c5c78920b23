use Rattle.std.proofs.Common.{◌≡◌, ◌≤◌, length, drop, replicate}
use Rattle.lake_values.proofs.Loops.{with_front}
use Rattle.lake_values.specs.Reading.{each_at}
use Rattle.table_snapshot.specs.Reading.{file_at, files_at}
use Rattle.table_snapshot.proofs.read.read_files.Given as goal

abbrev pub invariant-loop : goal.invariant-loop
invariant-loop l = record {
  so_far : with_front l.files.items (each_at (λ before place. file_at before) l.before
      (drop l.counter (replicate l.count (tt {0}))) l.next (drop l.next l.bytes)) ≡ files_at
      l.count l.at (drop l.at l.bytes);
  within : l.next ≤ length l.bytes;
}
