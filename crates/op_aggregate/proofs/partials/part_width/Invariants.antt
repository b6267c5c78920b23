use Rattle.std.proofs.Common.{◌≡◌, ◌+◌, ◌*◌, ◌^◌, ◌≤◌, drop}
use Rattle.op_aggregate.specs.Partials as spec
use Rattle.op_aggregate.proofs.partials.part_width.Given as goal

abbrev pub invariant-loop-agg : goal.invariant-loop-agg
invariant-loop-agg l = record {
  summed : l.width + spec.kept_width (drop l.agg-index l.aggs) ≡ l.keys + spec.kept_width l.aggs;
  few : l.width ≤ 2 ^ 32 + 2 * l.agg-index;
}
