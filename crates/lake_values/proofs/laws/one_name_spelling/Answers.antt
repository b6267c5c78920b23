use Rattle.lake_values.proofs.FieldTies.{name_tie}
use Rattle.lake_values.proofs.Ties.{NoneBegins-from_ties}
use Rattle.lake_values.proofs.laws.one_name_spelling.Goals as goal

pub returns : goal.returns
returns c = λ kind. NoneBegins-from_ties (name_tie kind)
