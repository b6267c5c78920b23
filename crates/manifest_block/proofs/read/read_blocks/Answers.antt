use Rattle.std.proofs.Common.{◌≡◌, ◌+◌, ◌-◌, ◌<◌, suc, length, drop, ap, ◌∙◌, arith}
use Rattle.std.proofs.lemmas.List.{length-drop, length_push}
use Rattle.std.proofs.lemmas.Result.{err_from_is_err_and}
use Rattle.manifest_block.specs.Reading.{manifest_of}
use Rattle.manifest_block.proofs.Blocks.{one_more, last_one, no_block, bound_left, starts}
use Rattle.manifest_block.proofs.read.read_blocks.Goals as goal

pub loop-blocks-init : goal.loop-blocks-init
loop-blocks-init c = record {
  so_far = starts c.args.bytes.now c.new-blocks.result.items c.new-blocks.ensures.items;
  few = rw c.new-blocks.ensures.items (omega arith);
  within = omega arith;
}

pub returns-in_err-block : goal.returns-in_err-block
returns-in_err-block c =
    let p = err_from_is_err_and c.from_residual.result c.from_residual.ensures.1 in
    let e = bound_left (length c.args.bytes.now) (length c.loop-blocks.blocks.items) c.loop-blocks.at c.loop-blocks.invariant.few c.loop-blocks.invariant.within in
    rw (p.1, p.2) (no_block _ c.loop-blocks.blocks.items (length c.args.bytes.now - length c.loop-blocks.blocks.items) c.loop-blocks.at (drop c.loop-blocks.at c.args.bytes.now) (manifest_of c.args.bytes.now) c.in_err-block.ensures.exact (rw e at c.loop-blocks.invariant.so_far))

pub returns-then-at-bytes : goal.returns-then-at-bytes
returns-then-at-bytes c =
    let e = bound_left (length c.args.bytes.now) (length c.loop-blocks.blocks.items) c.loop-blocks.at c.loop-blocks.invariant.few c.loop-blocks.invariant.within in
    rw c.in_ok-push.ensures.items (last_one c.loop-blocks.blocks.items (length c.args.bytes.now - length c.loop-blocks.blocks.items) c.loop-blocks.at (drop c.loop-blocks.at c.args.bytes.now) c.in_ok-block.block c.in_ok-block.next (drop c.in_ok-block.next c.args.bytes.now) (manifest_of c.args.bytes.now)
    c.in_ok-block.ensures.exact (omega (arith, length-drop c.in_ok-block.next c.args.bytes.now, c.if-at-bytes.true)) (rw e at c.loop-blocks.invariant.so_far))

pub loop-blocks-preserved : goal.loop-blocks-preserved
loop-blocks-preserved c =
    let e = bound_left (length c.args.bytes.now) (length c.loop-blocks.blocks.items) c.loop-blocks.at c.loop-blocks.invariant.few c.loop-blocks.invariant.within in
    let longer : length c.push.new.self.items ≡ length c.loop-blocks.blocks.items + 1 = ap length c.in_ok-push.ensures.items ∙ length_push c.loop-blocks.blocks.items c.in_ok-block.block in
    let left : suc (length c.args.bytes.now) - length c.push.new.self.items ≡ length c.args.bytes.now - length c.loop-blocks.blocks.items = omega (arith, longer) in
    let more : 0 < length (drop c.in_ok-block.next c.args.bytes.now) = omega (arith, length-drop c.in_ok-block.next c.args.bytes.now, c.if-at-bytes.false, c.in_ok-block.ensures.within) in
    record {
      so_far = rw (left, c.in_ok-push.ensures.items) (one_more c.loop-blocks.blocks.items (length c.args.bytes.now - length c.loop-blocks.blocks.items) c.loop-blocks.at (drop c.loop-blocks.at c.args.bytes.now) c.in_ok-block.block c.in_ok-block.next (drop c.in_ok-block.next c.args.bytes.now) (manifest_of c.args.bytes.now)
          c.in_ok-block.ensures.exact more (rw e at c.loop-blocks.invariant.so_far));
      few = omega (arith, longer, c.loop-blocks.invariant.few, c.in_ok-block.ensures.moves);
      within = c.in_ok-block.ensures.within;
    }
