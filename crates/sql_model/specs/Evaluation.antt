-- What an expression is on a row: its value, or whether it is true, and whether its arithmetic stays within 64 bits.
use Rattle.std.specs.Prelude.{ℤ, pos, negsuc, ◌+ℤ◌, ◌-ℤ◌, ◌*ℤ◌, Bool, true, false, ◌&&◌, not, List, Option, None, Some, map, int_le}
use Rattle.std.specs.List.{list_all}
use Rattle.std.specs.Option.{option_map, option_map_or}
use Rattle.std.specs.Ordering.{is_eq, is_lt, is_gt}
use Rattle.std.specs.declared.cmp.Ordering.{Ordering}
use Rattle.lake_values.specs.Order.{value_cmp}
use Rattle.lake_values.specs.declared.values.Value.{Value}
use Rattle.lake_values.specs.declared.values.Value.TheVariants.{Null, Int}
use Rattle.sql_model.specs.declared.bound.BoundExpr.{BoundExpr, fold-BoundExpr}
use Rattle.sql_model.specs.declared.bound.BoundExpr.TheOpen.{BoundExpr-F}
use Rattle.sql_model.specs.declared.expressions.ArithOp.{ArithOp}
use Rattle.sql_model.specs.declared.expressions.ArithOp.TheVariants.{Add, Sub, Mul}
use Rattle.sql_model.specs.declared.expressions.CmpOp.{CmpOp}
use Rattle.sql_model.specs.declared.expressions.CmpOp.TheVariants.{Eq, Ne, Lt, Le, Gt, Ge}
use Rattle.lake_values.specs.Rows.{value_at}

-- What an expression is on a row. A condition has a truth, where none means unknown, and NULL as its value; another
-- expression has a value, and an unknown truth. It fits where each + - * in it, in exact whole numbers, stays within
-- 64 bits.
pub record Look : Type 0 where
  pub value : Value
  pub truth : Option Bool
  pub fits : Bool

-- a number of 64 bits
abbrev pub is_64_bits : ℤ → Bool
is_64_bits n = int_le (negsuc 9223372036854775807) n && int_le n (pos 9223372036854775807)

-- a value fits where it is no number, or one of 64 bits
abbrev pub value_fits : Value → Bool
value_fits (Int n) = is_64_bits n
value_fits v = true

abbrev pub is_null : Value → Bool
is_null Null = true
is_null v = false

abbrev pub of_value : Value → Bool → Look
of_value v fits = record { value = v; truth = None; fits = fits }

abbrev pub of_truth : Option Bool → Bool → Look
of_truth t fits = record { value = Null; truth = t; fits = fits }

abbrev pub exact : ArithOp → ℤ → ℤ → ℤ
exact Add m n = m +ℤ n
exact Sub m n = m -ℤ n
exact Mul m n = m *ℤ n

-- with a NULL operand the result is NULL
abbrev pub computed : ArithOp → Value → Value → Value
computed op (Int m) (Int n) = Int (exact op m n)
computed op v w = Null

abbrev pub compares_as : CmpOp → Ordering → Bool
compares_as Eq o = is_eq o
compares_as Ne o = not (is_eq o)
compares_as Lt o = is_lt o
compares_as Le o = not (is_gt o)
compares_as Gt o = is_gt o
compares_as Ge o = not (is_lt o)

-- a comparison with NULL is unknown
abbrev pub compared : CmpOp → Value → Value → Option Bool
compared op Null w = None
compared op v Null = None
compared op v w = Some (compares_as op (value_cmp v w))

abbrev pub negated : Option Bool → Option Bool
negated t = option_map not t

-- false where one is false, else unknown where one is unknown
abbrev pub both : Option Bool → Option Bool → Option Bool
both (Some false) t = Some false
both (Some true) t = t
both None (Some false) = Some false
both None t = None

-- true where one is true, else unknown where one is unknown
abbrev pub either : Option Bool → Option Bool → Option Bool
either (Some true) t = Some true
either (Some false) t = t
either None (Some true) = Some true
either None t = None

abbrev pub of_arithmetic : Value → Bool → Look
of_arithmetic v operands_fit = of_value v (operands_fit && value_fits v)

-- one level of an expression, over its operands
abbrev pub look_step : List Value → BoundExpr-F Look → Look
look_step row (BoundExpr-F.Column place) = of_value (value_at row place) true
look_step row (BoundExpr-F.Literal v) = of_value v true
look_step row (BoundExpr-F.Arith op x y) = of_arithmetic (computed op x.value y.value) (x.fits && y.fits)
look_step row (BoundExpr-F.Compare op x y) = of_truth (compared op x.value y.value) (x.fits && y.fits)
look_step row (BoundExpr-F.IsNull x) = of_truth (Some (is_null x.value)) x.fits
look_step row (BoundExpr-F.Not x) = of_truth (negated x.truth) x.fits
look_step row (BoundExpr-F.And x y) = of_truth (both x.truth y.truth) (x.fits && y.fits)
look_step row (BoundExpr-F.Or x y) = of_truth (either x.truth y.truth) (x.fits && y.fits)

-- every part of an expression is evaluated, whatever the others are
abbrev pub look : List Value → BoundExpr → Look
look row = fold-BoundExpr Look (look_step row)

abbrev pub eval : BoundExpr → List Value → Value
eval e row = (look row e).value

abbrev pub truth : BoundExpr → List Value → Option Bool
truth e row = (look row e).truth

abbrev pub fits : BoundExpr → List Value → Bool
fits e row = (look row e).fits

abbrev pub is_true : Option Bool → Bool
is_true t = option_map_or (λ b. b) t false

abbrev pub holds : BoundExpr → List Value → Bool
holds e row = is_true (truth e row)

-- all of the conditions are true on the row
abbrev pub meets : List BoundExpr → List Value → Bool
meets conditions row = list_all (λ e. holds e row) conditions

-- all of the expressions stay within 64 bits on the row
abbrev pub all_fit : List BoundExpr → List Value → Bool
all_fit es row = list_all (λ e. fits e row) es

-- the row of what the expressions are
abbrev pub evaluated : List BoundExpr → List Value → List Value
evaluated es row = map (λ e. eval e row) es
