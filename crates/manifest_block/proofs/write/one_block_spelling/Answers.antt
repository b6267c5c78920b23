use Rattle.lake_values.proofs.Ties.{NoneBegins-from_ties}
use Rattle.manifest_block.proofs.ItemTies.{block_tie}
use Rattle.manifest_block.proofs.write.one_block_spelling.Goals as goal

pub returns : goal.returns
returns c = NoneBegins-from_ties block_tie
