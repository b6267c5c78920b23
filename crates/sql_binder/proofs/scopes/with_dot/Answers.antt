use Rattle.std.proofs.Common.{append_assoc}
use Rattle.sql_binder.proofs.scopes.with_dot.Goals as goal

pub returns : goal.returns
returns c = simp append_assoc (c.in_ok-format.ensures.ok)
