use Rattle.std.proofs.Common.{refl}
use Rattle.lake_values.specs.Cells.{hash_step}
use Rattle.lake_values.specs.Spelling.{u64_spelling}
use Rattle.file_laws.proofs.ReaderExample as law
use Rattle.file_laws.proofs.laws.reader_example.Goals as goal

pub returns-clause-legal : goal.returns-clause-legal
returns-clause-legal c = law.legal

pub returns-clause-sees : goal.returns-clause-sees
unfolding hash_step u64_spelling
returns-clause-sees c = refl

pub returns-clause-newest : goal.returns-clause-newest
unfolding hash_step u64_spelling
returns-clause-newest c = refl
