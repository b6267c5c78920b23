use Rattle.std.proofs.Common.{[], ◌∷◌, All}
use Rattle.column_file.specs.Spelling.{FitsKinds}
use Rattle.bench.proofs.formats.rows_of.Given as goal

abbrev pub invariant-loop-number : goal.invariant-loop-number
invariant-loop-number l = All (FitsKinds (l.kind ∷ [])) l.rows.items
