use Rattle.std.proofs.Common.{refl}
use Rattle.deletion_vector.specs.Spelling.{vector_at}
use Rattle.lake_values.specs.Reading.{bytes_at, room_at, u64_at}
use Rattle.lake_values.specs.Spelling.{u64_spelling}
use Rattle.lake_laws.proofs.laws.lake_example.Goals as goal

pub returns-clause-told : goal.returns-clause-told
unfolding vector_at u64_at u64_spelling bytes_at room_at
returns-clause-told c = refl

pub returns-clause-not_told : goal.returns-clause-not_told
unfolding vector_at bytes_at room_at
returns-clause-not_told c = refl
