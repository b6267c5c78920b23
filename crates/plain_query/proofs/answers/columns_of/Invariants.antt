use Rattle.std.proofs.Common.{◌≡◌, ◌++◌, drop, map}
use Rattle.lake_values.specs.Rows as row_spec
use Rattle.plain_query.proofs.answers.columns_of.Given as goal

abbrev pub invariant-loop-place : goal.invariant-loop-place
invariant-loop-place l = l.values.items ++ map (row_spec.value_at l.row) (drop l.place-index l.places) ≡ map (row_spec.value_at l.row) l.places
