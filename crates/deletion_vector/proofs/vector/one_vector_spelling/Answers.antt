use Rattle.lake_values.proofs.Ties.{NoneBegins-from_ties}
use Rattle.deletion_vector.proofs.VectorTie.{vector_tie}
use Rattle.deletion_vector.proofs.vector.one_vector_spelling.Goals as goal

pub returns : goal.returns
returns c = NoneBegins-from_ties vector_tie
