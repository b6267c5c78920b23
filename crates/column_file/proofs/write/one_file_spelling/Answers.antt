use Rattle.lake_values.proofs.Ties.{NoneBegins-from_ties}
use Rattle.column_file.proofs.FileTie.{file_tie}
use Rattle.column_file.proofs.write.one_file_spelling.Goals as goal

pub returns : goal.returns
returns c = NoneBegins-from_ties file_tie
