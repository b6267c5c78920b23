use Rattle.std.specs.Prelude.{◌≢◌, ◌<◌, ◌≤◌, ℕ, List, [], ◌∷◌, length, map, All}
use Rattle.lake_values.specs.declared.schemas.Column.{Column}

-- a schema as contracts see it
pub record TableColumns : Type 0 where
  pub columns : List Column
  pub distribution : ℕ

-- no two of them are equal
abbrev pub AllDistinct : {X : Type 0} → List X → Type 0
AllDistinct [] = Unit {0}
AllDistinct (x ∷ xs) = All (λ y. y ≢ x) xs × AllDistinct xs

-- what the columns and the distribution column of a schema meet
pub record IsSchema (columns : List Column) (distribution : ℕ) : Type 0 where
  pub some : 1 ≤ length columns
  pub at_most : length columns ≤ 64
  pub distinct : AllDistinct (map (λ c. c.name) columns)
  pub in_range : distribution < length columns
