-- Conditions that never leave 64 bits.
use Rattle.std.specs.Prelude.{◌≡◌, Bool, true, not, List}
use Rattle.std.specs.List.{list_all}
use Rattle.sql_model.specs.declared.bound.BoundExpr.{BoundExpr}
use Rattle.sql_model.specs.BoundForms.{has_arithmetic}

abbrev pub is_guard : BoundExpr → Bool
is_guard e = not (has_arithmetic e)

-- none of the conditions has + - *
abbrev pub AreGuards : List BoundExpr → Type 0
AreGuards guards = list_all is_guard guards ≡ true
