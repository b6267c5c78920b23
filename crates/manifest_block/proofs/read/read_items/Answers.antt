use Rattle.std.proofs.Common.{◌<◌, ◌≤◌, length, drop, replicate, None, refl, arith}
use Rattle.std.proofs.lemmas.List.{length-replicate}
use Rattle.std.proofs.lemmas.Result.{err_from_is_err_and}
use Rattle.lake_values.proofs.Loops.{goes_on_alike, fails_alike, is_done}
use Rattle.manifest_block.specs.Reading.{item_at, items_at}
use Rattle.manifest_block.proofs.read.read_items.Goals as goal

pub returns-in_err-item-clause-exact : goal.returns-in_err-item-clause-exact
returns-in_err-item-clause-exact c =
    let p = err_from_is_err_and c.from_residual-in_err-item.result c.from_residual-in_err-item.ensures.1 in
    let lt : c.loop.counter < length (replicate c.args.count (tt {0})) = omega (arith, length-replicate c.args.count (tt {0})) in
    rw (p.1, p.2) (fails_alike (λ place. item_at) _ c.loop.items.items (replicate c.args.count (tt {0})) c.loop.counter (tt {0}) c.loop.next (drop c.loop.next c.args.bytes.now) (items_at c.args.count c.args.at (drop c.args.at c.args.bytes.now)) lt refl c.in_err-item.ensures.exact c.loop.invariant.so_far)

pub loop-preserved : goal.loop-preserved
loop-preserved c =
    let lt : c.loop.counter < length (replicate c.args.count (tt {0})) = omega (arith, length-replicate c.args.count (tt {0})) in
    record {
      so_far = rw c.in_ok-push.ensures.items (goes_on_alike (λ place. item_at) c.loop.items.items (replicate c.args.count (tt {0})) c.loop.counter (tt {0}) c.loop.next (drop c.loop.next c.args.bytes.now) c.in_ok-item.item c.in_ok-item.behind (drop c.in_ok-item.behind c.args.bytes.now) (items_at c.args.count c.args.at (drop c.args.at c.args.bytes.now)) lt refl c.in_ok-item.ensures.exact c.loop.invariant.so_far);
      within = c.in_ok-item.ensures.within;
      moves = omega (arith, c.loop.invariant.moves, c.in_ok-item.ensures.moves);
    }

pub returns-clause-exact : goal.returns-clause-exact
returns-clause-exact c =
    let done : length (replicate c.args.count (tt {0})) ≤ c.loop.counter = omega (arith, length-replicate c.args.count (tt {0})) in
    is_done (λ before place. item_at) c.loop.items.items None (replicate c.args.count (tt {0})) c.loop.counter c.loop.next (drop c.loop.next c.args.bytes.now) (items_at c.args.count c.args.at (drop c.args.at c.args.bytes.now)) done c.loop.invariant.so_far
