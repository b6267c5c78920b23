use Rattle.std.proofs.Common.{◌≡◌, ◌++◌, drop}
use Rattle.std.specs.List.{flat_map, AllByRecursion}
use Rattle.lake_values.specs.Spelling.{value_spelling, IsValue}
use Rattle.sql_model.specs.Groups as spec
use Rattle.op_aggregate.proofs.groups.key_spelling.Given as goal

abbrev pub invariant-loop-column : goal.invariant-loop-column
invariant-loop-column g l =
    let row = g.C.Cells.cells l.row in
    let rest = spec.key_of (drop l.column-index l.columns) row in
    let key = spec.key_of l.columns row in
    record {
      bytes : l.spelling.items ++ flat_map value_spelling rest ≡ flat_map value_spelling key;
      values : AllByRecursion IsValue rest → AllByRecursion IsValue key;
    }
