-- A quoted text is read as it was.
use Rattle.std.proofs.Common.{◌≡◌, ◌==◌, ◌+◌, ◌-◌, ℕ, Bool, true, false, if◌then◌else◌, List, [], ◌∷◌, ◌++◌, length, Option, Some, refl, ap, ◌∙◌, sym, cond, arith, append_assoc, suc, None}
use Rattle.std.specs.List.{flat_map}
use Rattle.std.proofs.lemmas.Bool.Decides.{nat_tests}
use Rattle.std.proofs.lemmas.List.{length-append}
use Rattle.std.proofs.Math.Seq.{take-append_seam}
use Rattle.lake_values.specs.Print.{quoted_byte}
use Rattle.sql_tokens.specs.Laws.{ReadsClosedTexts, RefusesOpenTexts}
use Rattle.sql_tokens.specs.Tokens.{begins_with, closing, closed_text, front, text, text_to, undoubled}

abbrev doubled : List ℕ → List ℕ
doubled bytes = flat_map quoted_byte bytes

behind_one : (place n : ℕ) → n ≡ place → Some (place + 1 - 1) ≡ Some n
behind_one place n e = let less : place + 1 - 1 ≡ n = omega arith in ap (λ (k : ℕ). Some k) less

closing-end : (place : ℕ) (rest : List ℕ) → begins_with (λ b. b == 39) rest ≡ false → closing place false (39 ∷ rest) ≡ Some place
closing-end place [] e = behind_one place place refl
closing-end place (b ∷ rest) e = ap (λ (t : Bool). if t then closing (place + 1 + 1) false rest else Some (place + 1 - 1)) e ∙ behind_one place place refl

closing-doubled : (place : ℕ) (bytes rest : List ℕ) → begins_with (λ b. b == 39) rest ≡ false → closing place false (doubled bytes ++ (39 ∷ rest)) ≡ Some (place + length (doubled bytes))
closing-doubled place [] rest e = closing-end place rest e ∙ (let more : place ≡ place + 0 = omega arith in ap (λ (k : ℕ). Some k) more)
closing-doubled place (b ∷ bytes) rest e =
    elim (b == 39) as (λ t. (b == 39) ≡ t → closing place false ((cond t (39 ∷ 39 ∷ []) (b ∷ []) ++ doubled bytes) ++ (39 ∷ rest)) ≡ Some (place + length (cond t (39 ∷ 39 ∷ []) (b ∷ []) ++ doubled bytes))) [
      | true ↦ λ same. closing-doubled (place + 1 + 1) bytes rest e ∙ (let more : place + 1 + 1 + length (doubled bytes) ≡ place + suc (suc (length (doubled bytes))) = omega arith in ap (λ (k : ℕ). Some k) more)
      | false ↦ λ other.
          ap (λ (t : Bool). if t then closing (place + 1) true (doubled bytes ++ (39 ∷ rest)) else closing (place + 1) false (doubled bytes ++ (39 ∷ rest))) other
          ∙ closing-doubled (place + 1) bytes rest e ∙ (let more : place + 1 + length (doubled bytes) ≡ place + suc (length (doubled bytes)) = omega arith in ap (λ (k : ℕ). Some k) more)
    ] refl

undoubled-doubled : (bytes : List ℕ) → undoubled false (doubled bytes) ≡ bytes
undoubled-doubled [] = refl
undoubled-doubled (b ∷ bytes) =
    elim (b == 39) as (λ t. (b == 39) ≡ t → undoubled false (cond t (39 ∷ 39 ∷ []) (b ∷ []) ++ doubled bytes) ≡ b ∷ bytes) [
      | true ↦ λ same. (let is : b ≡ 39 = grind (arith, nat_tests) in ap (λ (k : ℕ). k ∷ undoubled false (doubled bytes)) (sym is) ∙ ap (λ (xs : List ℕ). b ∷ xs) (undoubled-doubled bytes))
      | false ↦ λ other. ap (λ (t : Bool). b ∷ undoubled t (doubled bytes)) other ∙ ap (λ (xs : List ℕ). b ∷ xs) (undoubled-doubled bytes)
    ] refl

text-doubled : (value rest : List ℕ) → begins_with (λ b. b == 39) rest ≡ false → text (doubled value ++ (39 ∷ rest)) ≡ closed_text value (length (doubled value) + 2)
unfolding text
text-doubled value rest apart =
    let whole : List ℕ = doubled value ++ (39 ∷ rest) in
    let size : ℕ = length (doubled value) in
    let none : 0 + size ≡ size = omega arith in
    ap (λ (quote : Option ℕ). text_to whole quote) (closing-doubled 0 value rest apart ∙ ap (λ (k : ℕ). Some k) none)
    ∙ ap (λ (xs : List ℕ). closed_text xs (size + 2)) (ap (λ (xs : List ℕ). undoubled false xs) (take-append_seam (doubled value) (39 ∷ rest)) ∙ undoubled-doubled value)

pub front-quoted : ReadsClosedTexts
unfolding front
front-quoted value rest apart =
    let size : length (doubled value) + 2 ≡ suc (length (doubled value ++ 39 ∷ [])) = omega (arith, length-append (doubled value) (39 ∷ [])) in
    ap (λ (xs : List ℕ). text xs) (append_assoc (doubled value) (39 ∷ []) rest) ∙ text-doubled value rest apart ∙ ap (λ (n : ℕ). closed_text value n) size

closing-open : (place : ℕ) (bytes : List ℕ) → closing place false (doubled bytes) ≡ None
closing-open place [] = refl
closing-open place (b ∷ bytes) =
    elim (b == 39) as (λ t. (b == 39) ≡ t → closing place false (cond t (39 ∷ 39 ∷ []) (b ∷ []) ++ doubled bytes) ≡ None) [
      | true ↦ λ same. closing-open (place + 1 + 1) bytes
      | false ↦ λ other. ap (λ (t : Bool). if t then closing (place + 1) true (doubled bytes) else closing (place + 1) false (doubled bytes)) other ∙ closing-open (place + 1) bytes
    ] refl

pub front-open : RefusesOpenTexts
unfolding front text
front-open value = ap (λ (quote : Option ℕ). text_to (doubled value) quote) (closing-open 0 value)
