-- A text without a quote inside is as it stands.
use Rattle.std.proofs.Common.{◌≡◌, ℕ, Bool, true, false, ◌||◌, nat_eq, List, [], ◌∷◌, refl, ap, ◌∙◌}
use Rattle.std.specs.List.{list_any}
use Rattle.sql_tokens.specs.Tokens.{undoubled}

neither : (a b : Bool) → (a || b) ≡ false → (a ≡ false) × (b ≡ false)
neither true b e = absurd (cc)
neither false b e = (refl, e)

pub undoubled-plain : (bytes : List ℕ) → list_any (λ b. nat_eq b 39) bytes ≡ false → undoubled false bytes ≡ bytes
undoubled-plain [] e = refl
undoubled-plain (b ∷ bytes) e =
    let both = neither (nat_eq b 39) (list_any (λ x. nat_eq x 39) bytes) e in
    ap (λ (quote : Bool). b ∷ undoubled quote bytes) both.0 ∙ ap (λ (xs : List ℕ). b ∷ xs) (undoubled-plain bytes both.1)
