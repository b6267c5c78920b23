-- Arithmetic stands in an expression where it stands in its second part.
use Rattle.std.proofs.Common.{◌≡◌, Bool, true, false, refl, sym, ap, ◌∙◌}
use Rattle.std.specs.Prelude.{◌||◌, Result, Ok, Err, OnErr}
use Rattle.sql_model.specs.declared.bound.BoundExpr.{BoundExpr, fold-roll-BoundExpr}
use Rattle.sql_model.specs.declared.bound.BoundExpr.TheVariants.{Compare, And, Or, rolls-Compare, rolls-And, rolls-Or}
use Rattle.sql_model.specs.declared.expressions.CmpOp.{CmpOp}
use Rattle.sql_model.specs.BoundForms.{has_arithmetic, arithmetic_step}

or_right : (a b : Bool) → b ≡ true → a || b ≡ true
or_right false b holds = holds
or_right true b holds = refl

pub compare_arithmetic : (op : CmpOp) (x y : BoundExpr) → has_arithmetic (Compare op x y) ≡ has_arithmetic x || has_arithmetic y
compare_arithmetic op x y = ap has_arithmetic (sym (rolls-Compare op x y)) ∙ fold-roll-BoundExpr Bool arithmetic_step _

pub compare_parts : (op : CmpOp) (x y : BoundExpr) → has_arithmetic y ≡ true → has_arithmetic (Compare op x y) ≡ true
compare_parts op x y h = compare_arithmetic op x y ∙ or_right (has_arithmetic x) (has_arithmetic y) h

pub and_parts : (x y : BoundExpr) → has_arithmetic y ≡ true → has_arithmetic (And x y) ≡ true
and_parts x y h =
    let parts : has_arithmetic (And x y) ≡ has_arithmetic x || has_arithmetic y = ap has_arithmetic (sym (rolls-And x y)) ∙ fold-roll-BoundExpr Bool arithmetic_step _ in
    parts ∙ or_right (has_arithmetic x) (has_arithmetic y) h

pub or_parts : (x y : BoundExpr) → has_arithmetic y ≡ true → has_arithmetic (Or x y) ≡ true
or_parts x y h =
    let parts : has_arithmetic (Or x y) ≡ has_arithmetic x || has_arithmetic y = ap has_arithmetic (sym (rolls-Or x y)) ∙ fold-roll-BoundExpr Bool arithmetic_step _ in
    parts ∙ or_right (has_arithmetic x) (has_arithmetic y) h

-- what holds is so at an error
pub at_error : {X E : Type 0} (r : Result X E) (P : Type 0) → P → OnErr r P
at_error (Ok x) P holds = tt
at_error (Err e) P holds = holds
