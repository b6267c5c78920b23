use Rattle.std.proofs.Common.{◌<◌, length, drop, replicate, None, refl, arith}
use Rattle.std.proofs.lemmas.List.{length-replicate}
use Rattle.std.proofs.lemmas.Result.{err_from_is_err_and}
use Rattle.lake_values.proofs.Loops.{goes_on_alike, stops}
use Rattle.column_file.specs.Reading.{flag_at, flags_at}
use Rattle.column_file.proofs.columns.read_flags.Goals as goal

pub returns-in_err-null-clause-exact : goal.returns-in_err-null-clause-exact
returns-in_err-null-clause-exact c =
    let p = err_from_is_err_and c.from_residual-in_err-null.result c.from_residual-in_err-null.ensures.1 in
    let lt : c.loop.counter < length (replicate c.args.rows (tt {0})) = omega (arith, length-replicate c.args.rows (tt {0})) in
    rw (p.1, p.2) (stops (λ before place. flag_at) c.loop.flags.items None (replicate c.args.rows (tt {0})) c.loop.counter (tt {0}) c.loop.next (drop c.loop.next c.args.bytes.now) _ _ lt refl c.in_err-null.ensures.exact c.loop.invariant.so_far)

pub loop-preserved : goal.loop-preserved
loop-preserved c =
    let lt : c.loop.counter < length (replicate c.args.rows (tt {0})) = omega (arith, length-replicate c.args.rows (tt {0})) in
    record {
      so_far = rw c.in_ok-push.ensures.items (goes_on_alike (λ place. flag_at) c.loop.flags.items (replicate c.args.rows (tt {0})) c.loop.counter (tt {0}) c.loop.next (drop c.loop.next c.args.bytes.now) c.in_ok-null.null c.in_ok-null.behind (drop c.in_ok-null.behind c.args.bytes.now) (flags_at c.args.rows c.args.at (drop c.args.at c.args.bytes.now)) lt refl c.in_ok-null.ensures.exact c.loop.invariant.so_far);
      within = c.in_ok-null.ensures.within;
    }
