use Rattle.std.proofs.Common.{◌<◌, length, drop, replicate, refl, arith}
use Rattle.std.proofs.lemmas.List.{length-replicate}
use Rattle.std.proofs.lemmas.Result.{err_from_is_err_and}
use Rattle.lake_values.proofs.Loops.{goes_on, stops}
use Rattle.table_snapshot.specs.Reading.{file_at, files_at}
use Rattle.table_snapshot.proofs.read.read_files.Goals as goal

pub returns-in_err-file-clause-exact : goal.returns-in_err-file-clause-exact
returns-in_err-file-clause-exact c =
    let p = err_from_is_err_and c.from_residual-in_err-file.result
    c.from_residual-in_err-file.ensures.1 in
    let lt : c.loop.counter < length (replicate c.args.count (tt {0})) = omega
    (arith, length-replicate c.args.count (tt {0})) in
    rw (p.1, p.2) (stops (λ before place. file_at before) c.loop.files.items c.loop.before
    (replicate c.args.count (tt {0})) c.loop.counter (tt {0}) c.loop.next
    (drop c.loop.next c.args.bytes.now) _ _ lt refl c.in_err-file.ensures.exact
    c.loop.invariant.so_far)

pub loop-preserved : goal.loop-preserved
loop-preserved c =
    let lt : c.loop.counter < length (replicate c.args.count (tt {0})) = omega
    (arith, length-replicate c.args.count (tt {0})) in
    record {
      so_far = rw c.in_ok-push.ensures.items (goes_on (λ before place. file_at before)
          c.loop.files.items c.loop.before (replicate c.args.count (tt {0})) c.loop.counter
          (tt {0}) c.loop.next (drop c.loop.next c.args.bytes.now) c.in_ok-file.file
          c.in_ok-file.behind (drop c.in_ok-file.behind c.args.bytes.now)
          (files_at c.args.count c.args.at (drop c.args.at c.args.bytes.now)) lt refl
          c.in_ok-file.ensures.exact c.loop.invariant.so_far);
      within = c.in_ok-file.ensures.within;
    }
