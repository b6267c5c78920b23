use Rattle.op_write.proofs.Leaving as leaving
use Rattle.op_write.proofs.laws.vector_leaves_the_rest.Goals as goal

pub returns : goal.returns
returns c = leaving.vector_leaves_the_rest
