-- What is left of a list after rows are struck off, each as often as it stands among those that are removed.
use Rattle.std.specs.Prelude.{◌≡◌, ℕ, ◌+◌, ◌-◌, Bool, false, List, [], ◌∷◌, get_or, nat_lt, slice_get, if◌then◌else◌}
use Rattle.std.specs.Option.{option_map_or}
use Rattle.std.specs.List.{AllByRecursion}
use Rattle.std.specs.Ordering.{is_eq, is_gt, is_lt}
use Rattle.sql_model.specs.declared.changes.MarkedRow.{MarkedRow}
use Rattle.sql_model.specs.Changes.{marked_cmp}

-- one row under one mark
abbrev pub same_marked : MarkedRow → MarkedRow → Bool
same_marked m n = is_eq (marked_cmp m n)

-- how often a row stands in a list
abbrev pub times : List MarkedRow → MarkedRow → ℕ
times [] x = 0
times (r ∷ rs) x = if same_marked r x then times rs x + 1 else times rs x

-- one time less for a row
abbrev pub less : MarkedRow → (MarkedRow → ℕ) → MarkedRow → ℕ
less x count y = if same_marked x y then count y - 1 else count y

-- the rows that are left where each is struck off from the front as often as the count says
abbrev pub struck : (MarkedRow → ℕ) → List MarkedRow → List MarkedRow
struck count [] = []
struck count (x ∷ xs) = if nat_lt 0 (count x) then struck (less x count) xs else x ∷ struck count xs

-- no member is above a later one
abbrev pub IsAscending : List MarkedRow → Type 0
IsAscending [] = Unit {0}
IsAscending (m ∷ ms) = AllByRecursion (λ n. is_gt (marked_cmp m n) ≡ false) ms × IsAscending ms

-- how many rows at the front are below a row
abbrev pub below : MarkedRow → List MarkedRow → ℕ
below x [] = 0
below x (r ∷ rs) = if is_lt (marked_cmp r x) then below x rs + 1 else 0

-- the row stands at a place of a list
abbrev pub is_at : MarkedRow → List MarkedRow → ℕ → Bool
is_at x rows place = option_map_or (λ r. same_marked r x) (slice_get rows place) false

-- How often a row is still to be struck off. Where it stands first among the removed ones, `used` has how often it was
-- struck off before.
abbrev pub remaining : List MarkedRow → List ℕ → MarkedRow → ℕ
remaining removed used x = times removed x - get_or used (below x removed) 0
