use Rattle.std.proofs.Common.{◌≡◌, [], ◌∷◌, All}
use Rattle.lake_values.specs.declared.schemas.ColType.TheVariants.{Text}
use Rattle.column_file.specs.Spelling.{FitsKinds}
use Rattle.lake_tests.proofs.write_tests.long_rows.Given as goal

abbrev pub invariant-loop : goal.invariant-loop
invariant-loop l = (l.packet.width ≡ 1) × All (FitsKinds (Text ∷ [])) l.packet.rows
