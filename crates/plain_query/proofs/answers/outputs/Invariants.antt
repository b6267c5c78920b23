use Rattle.std.proofs.Common.{◌≡◌, ◌++◌, List, drop, map}
use Rattle.lake_values.specs.declared.values.Value.{Value}
use Rattle.lake_values.specs.Rows as row_spec
use Rattle.plain_query.proofs.answers.outputs.Given as goal

abbrev pub invariant-loop-row : goal.invariant-loop-row
invariant-loop-row l =
    let output = λ (row : List Value). map (row_spec.value_at row) l.places in
    l.made.items ++ map output (drop l.row-index l.rows) ≡ map output l.rows
