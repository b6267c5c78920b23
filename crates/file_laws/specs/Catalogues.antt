-- A catalogue as a collector sees it, and which names it gives to a version.
use Rattle.std.specs.Prelude.{ℕ, ◌==◌, Bool, List}
use Rattle.std.specs.List.{list_any}
use Rattle.lake_values.specs.declared.names.Name.{Name}
use Rattle.lake_model.specs.State.{Check}
use Rattle.write_set_catalog.specs.declared.running.RunningTxn.{RunningTxn}
use Rattle.write_set_catalog.specs.Names as by_rows
use Rattle.write_set_catalog.specs.Names.{NamesRow}

-- the rows and checkpoints so far, the open transactions, the number of the last transaction, the
-- last version and the floor
pub record Catalogue : Type 0 where
  pub rows : List NamesRow
  pub checks : List Check
  pub running : List RunningTxn
  pub last_number : ℕ
  pub last : ℕ
  pub floor : ℕ

-- the row gives its table the name, and the table still has it at the version
abbrev pub gives : Catalogue → ℕ → Name → NamesRow → Bool
gives k = by_rows.gives k.rows

-- the version has the name
abbrev pub has_name : Catalogue → ℕ → Name → Bool
has_name k = by_rows.has_name k.rows

-- the table has the name at the version
abbrev pub table_has : Catalogue → ℕ → List ℕ → Name → Bool
table_has k = by_rows.table_has k.rows

-- an open transaction has the number
abbrev pub is_running : Catalogue → ℕ → Bool
is_running k number = list_any (λ o. o.number == number) k.running
