use Rattle.lake_values.proofs.FieldTies.{text_tie}
use Rattle.lake_values.proofs.Ties.{NoneBegins-from_ties}
use Rattle.lake_values.proofs.laws.one_text_spelling.Goals as goal

pub returns : goal.returns
returns c = NoneBegins-from_ties text_tie
