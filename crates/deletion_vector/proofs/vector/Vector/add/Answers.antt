use Rattle.deletion_vector.proofs.Ascending.{has-insert}
use Rattle.deletion_vector.proofs.vector.Vector.add.Goals as goal

pub returns-in_ok-insert-in-Err-clause-ok : goal.returns-in_ok-insert-in-Err-clause-ok
returns-in_ok-insert-in-Err-clause-ok c = λ p. rw (c.in_ok-insert-in-Err.ensures.items, ← c.self.view_is) (has-insert p c.self.inside.positions.items c.in-Err.place c.args.position)
