use Rattle.op_write.proofs.Pieces as pieces
use Rattle.op_write.proofs.laws.seals_what_is_staged.Goals as goal

pub returns : goal.returns
returns c = pieces.seals_what_is_staged
