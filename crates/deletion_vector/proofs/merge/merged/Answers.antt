use Rattle.std.proofs.Common.{inl, inr}
use Rattle.deletion_vector.proofs.Merging.{starts, takes_left, takes_right, ends, lt_from_less, gt_from_greater}
use Rattle.deletion_vector.proofs.merge.merged.Goals as goal
use Rattle.deletion_vector.proofs.merge.merged.Goals.{then-loop-i-test+else-j-right, else-loop-i-test}

pub loop-i-init : goal.loop-i-init
loop-i-init c = starts c.args.left.now c.args.right.now c.in_ok-both.both.items c.in_ok-both.ensures.items c.requires.left c.requires.right

pub loop-i-preserved-in-Less : goal.loop-i-preserved-in-Less
loop-i-preserved-in-Less c =
    takes_left c.args.left.now c.args.right.now c.loop-i.both.items c.push.new.self.items c.loop-i.i c.loop-i.j c.in_ok-push-in-Less.ensures.items c.loop-i-test.true c.if-j-right.true (lt_from_less _ _ c.in-Less.ensures) c.loop-i.invariant

pub loop-i-preserved-in-Greater : goal.loop-i-preserved-in-Greater
loop-i-preserved-in-Greater c =
    takes_right c.args.left.now c.args.right.now c.loop-i.both.items c.push-in-Greater.new.self.items c.loop-i.i c.loop-i.j c.in_ok-push-in-Greater.ensures.items c.loop-i-test.true c.if-j-right.true (gt_from_greater _ _ c.in-Greater.ensures) c.loop-i.invariant

pub returns-clause-ascending : goal.returns-clause-ascending
returns-clause-ascending c =
    (ends c.args.left.now c.args.right.now c.loop-i.both.items c.extend_from_slice.new.self.items c.extend_from_slice-2.new.self.items c.loop-i.i c.loop-i.j c.in_ok-extend_from_slice.ensures.items c.in_ok-extend_from_slice-2.ensures.items
    (elim c.loop-i-test.branch [ then-loop-i-test+else-j-right w ↦ inr w.if-j-right.false | else-loop-i-test w ↦ inl w.loop-i-test.false ]) c.loop-i.invariant).ascending
