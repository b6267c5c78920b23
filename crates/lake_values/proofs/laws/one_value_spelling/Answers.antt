use Rattle.lake_values.proofs.FieldTies.{value_tie}
use Rattle.lake_values.proofs.Ties.{NoneBegins-from_ties}
use Rattle.lake_values.proofs.laws.one_value_spelling.Goals as goal

pub returns : goal.returns
returns c = NoneBegins-from_ties value_tie
