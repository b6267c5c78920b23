-- A list of words that is one known word.
use Rattle.std.proofs.Common.{◌≡◌, ◌↔◌, ℕ, ◌<◌, ◌≤◌, Bool, IsTrue, nat_eq, List, [], ◌∷◌, map, length, get_or, sym, ap, ◌∙◌, arith}
use Rattle.std.specs.Cmp.Lexicographic.{pointwise, same_text, nat_list_eq_equiv}

pub one_word : {W : Type 0} (f : W → List ℕ) (ws : List W) (w : W) (test : Bool) (wanted : List ℕ) →
    1 ≤ length ws → length ws < 2 → w ≡ get_or ws 0 w → test ≡ pointwise nat_eq (f w) wanted → IsTrue test ↔ (map f ws ≡ wanted ∷ [])
one_word f [] w test wanted some few first tested = absurd (omega arith)
one_word f (v ∷ u ∷ vs) w test wanted some few first tested = absurd (omega arith)
one_word f (v ∷ []) w test wanted some few first tested =
    let own : f w ≡ f v = ap f first in (
      λ holds. let same : f w ≡ wanted = same_text (f w) wanted (sym holds ∙ tested) in let e : f v ≡ wanted = cc in ap (λ (x : List ℕ). x ∷ []) e,
      λ equal. let e : f v ≡ wanted = cc in let same : f w ≡ wanted = cc in tested ∙ ap (λ (x : List ℕ). pointwise nat_eq x wanted) same ∙ nat_list_eq_equiv.refl wanted,
    )
