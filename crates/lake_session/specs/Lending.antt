-- The rows that a session sees.
use Rattle.std.specs.Prelude.{List, map}
use Rattle.std.specs.Global.{Vec}
use Rattle.lake_values.specs.declared.values.Value.{Value}
use Rattle.table_history.specs.declared.kept.ViewRow.{ViewRow}

-- rows without their marks
abbrev pub rows_seen : List ViewRow → List (List Value)
rows_seen rows = map (λ r. r.row.now) rows

abbrev pub tables_seen : List (Vec ViewRow) → List (List (List Value))
tables_seen tables = map (λ rows. rows_seen rows.items) tables
