use Rattle.lake_values.proofs.Ties.{NoneBegins-from_ties}
use Rattle.table_snapshot.proofs.CheckpointTies.{checkpoint_tie}
use Rattle.table_snapshot.proofs.write.one_checkpoint_spelling.Goals as goal

pub returns : goal.returns
returns c = NoneBegins-from_ties checkpoint_tie
