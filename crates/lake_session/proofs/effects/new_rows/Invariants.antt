use Rattle.std.proofs.Common.{◌≡◌, ◌++◌, drop}
use Rattle.sql_model.specs.Writing as writing
use Rattle.lake_session.proofs.effects.new_rows.Given as goal

abbrev pub invariant-loop-marked : goal.invariant-loop-marked
invariant-loop-marked l =
    (l.new.items ++ writing.updated l.items (drop l.marked-index l.old) ≡ writing.updated l.items l.old)
    × (writing.values_fit l.items (drop l.marked-index l.old) ≡ writing.values_fit l.items l.old)
