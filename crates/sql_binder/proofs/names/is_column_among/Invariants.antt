use Rattle.std.proofs.Common.{◌≡◌, drop, map}
use Rattle.std.specs.List.{list_any}
use Rattle.lake_values.specs.Texts.{same_text}
use Rattle.sql_binder.proofs.names.is_column_among.Given as goal

abbrev pub invariant-loop-column : goal.invariant-loop-column
invariant-loop-column l = list_any (same_text l.name) (map (λ c. c.name) (drop l.column-index l.columns)) ≡ list_any (same_text l.name) (map (λ c. c.name) l.columns)
