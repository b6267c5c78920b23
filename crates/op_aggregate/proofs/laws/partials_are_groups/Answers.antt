use Rattle.op_aggregate.proofs.Fitting.{groups_fit-parts}
use Rattle.op_aggregate.proofs.Parts.{finished_are_groups}
use Rattle.op_aggregate.proofs.laws.partials_are_groups.Goals as goal

pub returns : goal.returns
returns c = record { groups = finished_are_groups; fits = groups_fit-parts }
