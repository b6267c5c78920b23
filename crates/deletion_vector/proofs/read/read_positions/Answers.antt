use Rattle.std.proofs.Common.{◌<◌, length, drop, replicate, refl, arith}
use Rattle.std.proofs.lemmas.List.{length-replicate}
use Rattle.std.proofs.lemmas.Result.{err_from_is_err_and}
use Rattle.lake_values.proofs.Loops.{goes_on, stops}
use Rattle.deletion_vector.specs.Spelling.{position_at, positions_at}
use Rattle.deletion_vector.proofs.read.read_positions.Goals as goal

pub returns-in_err-position-clause-exact : goal.returns-in_err-position-clause-exact
returns-in_err-position-clause-exact c =
    let p = err_from_is_err_and c.from_residual-in_err-position.result c.from_residual-in_err-position.ensures.1 in
    let lt : c.loop.counter < length (replicate c.args.count (tt {0})) = omega (arith, length-replicate c.args.count (tt {0})) in
    rw (p.1, p.2) (stops position_at c.loop.positions.items c.loop.before (replicate c.args.count (tt {0})) c.loop.counter (tt {0}) c.loop.next (drop c.loop.next c.args.bytes.now) _ _ lt refl c.in_err-position.ensures.exact c.loop.invariant.so_far)

pub loop-preserved : goal.loop-preserved
loop-preserved c =
    let lt : c.loop.counter < length (replicate c.args.count (tt {0})) = omega (arith, length-replicate c.args.count (tt {0})) in
    record {
      so_far = rw c.in_ok-push.ensures.items (goes_on position_at c.loop.positions.items c.loop.before (replicate c.args.count (tt {0})) c.loop.counter (tt {0}) c.loop.next (drop c.loop.next c.args.bytes.now) c.in_ok-position.position c.in_ok-position.behind (drop c.in_ok-position.behind c.args.bytes.now) (positions_at c.args.count c.args.at (drop c.args.at c.args.bytes.now)) lt refl c.in_ok-position.ensures.exact c.loop.invariant.so_far);
      within = c.in_ok-position.ensures.within;
    }
