use Rattle.file_laws.proofs.NoteKept as law
use Rattle.file_laws.proofs.laws.noted_empty.Goals as goal

pub returns : goal.returns
returns c = law.noted_empty
