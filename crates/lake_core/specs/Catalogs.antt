-- A catalogue: its rows in the order of their commits, and how many rows more it has room for.
use Rattle.std.specs.Prelude.{ℕ, ◌≤◌, List}
use Rattle.std.specs.List.{AllByRecursion}
use Rattle.lake_core.specs.declared.rows.CatRow.{CatRow}

pub record Catalogued : Type 0 where
  pub rows : List CatRow
  pub spare : ℕ

-- the commit is none before those of the rows
abbrev pub IsBehind : List CatRow → ℕ → Type 0
IsBehind rows seq = AllByRecursion (λ r. r.seq ≤ seq) rows
