-- How the rows of groups are gathered.
use Rattle.std.specs.Prelude.{ℕ, zero, suc, List, [], ◌∷◌, ◌++◌}
use Rattle.lake_values.specs.declared.values.Value.{Value}
use Rattle.sql_model.specs.Groups.{key_of}

-- the key of a group, as its first row has it; none without rows
abbrev pub first_key : List ℕ → List (List Value) → List Value
first_key columns [] = []
first_key columns (r ∷ rows) = key_of columns r

-- the groups with one more row in the group at a place, or in a new group behind the last one
abbrev pub with_member : List (List (List Value)) → ℕ → List Value → List (List (List Value))
with_member [] place r = (r ∷ []) ∷ []
with_member (g ∷ gs) zero r = (g ++ r ∷ []) ∷ gs
with_member (g ∷ gs) (suc place) r = g ∷ with_member gs place r
