use Rattle.lake_laws.proofs.Entries as law
use Rattle.lake_laws.proofs.laws.legal_more.Goals as goal

pub returns : goal.returns
returns c = law.legal_more
