use Rattle.std.proofs.Common.{◌≡◌, [], ◌∷◌, All}
use Rattle.lake_values.specs.declared.schemas.ColType.TheVariants.{Int}
use Rattle.column_file.specs.Spelling.{FitsKinds}
use Rattle.bench.proofs.writes.packet_of.Given as goal

abbrev pub invariant-loop-number : goal.invariant-loop-number
invariant-loop-number l = (l.packet.width ≡ 1) × All (FitsKinds (Int ∷ [])) l.packet.rows
