-- A number that has grown too big stays so.
use Rattle.std.proofs.Common.{◌≡◌, ℕ, ◌+◌, ◌-◌, ◌*◌, ◌<◌, List, [], ◌∷◌, length, drop, get_or, min, suc, ap, ◌∙◌, sym, arith, drop-cons, add-one}
use Rattle.std.specs.List.{fold}
use Rattle.sql_tokens.specs.Tokens.{with_digit}

one_longer : (most v w d : ℕ) → min v most ≡ min w most → min (10 * v + d) most ≡ min (10 * w + d) most
one_longer most v w d e = omega arith

pub fold-longer : (most v w : ℕ) (digits : List ℕ) → min v most ≡ min w most → min (fold with_digit v digits) most ≡ min (fold with_digit w digits) most
fold-longer most v w [] e = e
fold-longer most v w (d ∷ digits) e = fold-longer most (with_digit v d) (with_digit w d) digits (one_longer most v w (d - 48) e)

min_once : (most n : ℕ) → min n most ≡ min (min n most) most
min_once most n = omega arith

-- one digit more, by the next of the list
pub fold-one_more : (most v longer i : ℕ) (digits : List ℕ) → i < length digits → longer ≡ min (with_digit v (get_or digits i 0)) most →
    min (fold with_digit v (drop i digits)) most ≡ min (fold with_digit longer (drop (i + 1) digits)) most
fold-one_more most v longer i digits h e =
    ap (λ (xs : List ℕ). min (fold with_digit v xs) most) (drop-cons digits i 0 h)
    ∙ fold-longer most (with_digit v (get_or digits i 0)) longer (drop (suc i) digits) (min_once most _ ∙ ap (λ (n : ℕ). min n most) (sym e))
    ∙ ap (λ (n : ℕ). min (fold with_digit longer (drop n digits)) most) (sym (add-one i))
