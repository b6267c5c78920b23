use Rattle.file_laws.proofs.LastRows as law
use Rattle.file_laws.proofs.laws.rows_at_last.Goals as goal

pub returns : goal.returns
returns c = law.rows_at_last
