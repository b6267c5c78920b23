use Rattle.file_laws.proofs.DropKept as law
use Rattle.file_laws.proofs.laws.kept_drops.Goals as goal

pub returns : goal.returns
returns c = law.kept_drops
