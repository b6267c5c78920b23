use Rattle.file_laws.proofs.Example as law
use Rattle.file_laws.proofs.laws.kept_example.Goals as goal

pub returns-clause-kept : goal.returns-clause-kept
returns-clause-kept c = law.kept18

pub returns-clause-tells : goal.returns-clause-tells
returns-clause-tells c = law.tells

pub returns-clause-left : goal.returns-clause-left
returns-clause-left c = law.files_left

pub returns-clause-merged : goal.returns-clause-merged
returns-clause-merged c = law.files_merged
