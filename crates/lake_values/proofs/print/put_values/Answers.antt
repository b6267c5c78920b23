use Rattle.std.proofs.Common.{rules, append_assoc}
use Rattle.lake_values.proofs.Joined.{join_first}
use Rattle.lake_values.proofs.print.put_values.Goals as goal

pub returns-clause-ok : goal.returns-clause-ok
returns-clause-ok c = rw (c.in-Some.ensures.cases.0, join_first) (search (rules, append_assoc))
