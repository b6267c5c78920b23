-- How lines are numbered.
use Rattle.std.proofs.Common.{◌≡◌, refl, ap, ◌∙◌, arith, ℕ, suc, ◌+◌, List, [], ◌∷◌, ◌++◌, length}
use Rattle.sql_parser.specs.declared.scripts.Line.{Line}
use Rattle.sql_parser.specs.Grammar.{steps_from, step_of}

-- one line more
pub steps_from-append : (place : ℕ) (xs : List Line) (x : Line) → steps_from place (xs ++ x ∷ []) ≡ steps_from place xs ++ step_of (place + length xs) x ∷ []
steps_from-append place [] x = let e : place ≡ place + 0 = omega arith in ap (λ p. step_of p x ∷ []) e
steps_from-append place (y ∷ xs) x =
    let e : (place + 1) + length xs ≡ place + suc (length xs) = omega arith in
    ap (λ ss. step_of place y ∷ ss) (steps_from-append (place + 1) xs x ∙ ap (λ p. steps_from (place + 1) xs ++ step_of p x ∷ []) e)

pub steps_from-length : (place : ℕ) (xs : List Line) → length (steps_from place xs) ≡ length xs
steps_from-length place [] = refl
steps_from-length place (x ∷ xs) = ap suc (steps_from-length (place + 1) xs)
