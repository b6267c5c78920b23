use Rattle.lake_laws.proofs.Entries as law
use Rattle.lake_laws.proofs.laws.stands_wrote.Goals as goal

pub returns : goal.returns
returns c = law.stands_wrote
