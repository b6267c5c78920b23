use Rattle.std.proofs.Common.{◌≡◌, ◌+◌, All, length}
use Rattle.op_aggregate.specs.Partials.{kept_width}
use Rattle.operator_tests.proofs.group_tests.finished.Given as goal

abbrev pub invariant-loop-part : goal.invariant-loop-part
invariant-loop-part l = All (λ part. part.width ≡ length l.keys + kept_width l.aggs) l.partials.items
