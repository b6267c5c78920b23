-- What a reader that is tied to a spelling says of the bytes at a place, and of the answer of a call that tells it.
use Rattle.std.proofs.Common.{◌≡◌, ℕ, ◌+◌, ◌≤◌, eqb, List, [], ◌++◌, length, drop, Result, Ok, Err, sym, ap, subst, ◌∙◌}
use Rattle.std.proofs.lemmas.List.{append-nil, nil_from_length}
use Rattle.std.proofs.lemmas.Bool.{eqb-true}
use Rattle.std.specs.Prelude.{IfOk}
use Rattle.lake_values.specs.declared.faults.Bad.{Bad}
use Rattle.lake_values.specs.declared.faults.BadKind.TheVariants.{Trailing}
use Rattle.lake_values.specs.declared.faults.DecodeFault.{DecodeFault}
use Rattle.lake_values.specs.declared.faults.DecodeFault.TheVariants as faults
use Rattle.lake_values.specs.Reading.{Reader, bad, ◌>>=◌, end_at, whole, Tells, Gives, with_rest, StandsAt}
use Rattle.lake_values.proofs.Ties.{IsBytes, IsBytes-drop, Ties, ok_is, bind_ok, guard_ok}

-- what is read stands there
pub stands : {X : Type 0} {Fits : X → Type 0} {spelling : X → List ℕ} {read : Reader X} → Ties Fits spelling read → (bytes : List ℕ) (at : ℕ) (x : X × ℕ)
    → IsBytes bytes → x.1 ≤ length bytes → read at (drop at bytes) ≡ Ok (with_rest bytes x) → StandsAt spelling x.0 bytes at x.1 × Fits x.0
stands tie bytes at x fits within e =
    let p = tie.found at (drop at bytes) (with_rest bytes x) (IsBytes-drop at bytes fits) e in
    (record { spelled = p.0.parts; behind_it = p.0.moved; within = within }, p.1)

-- what stands there is read
pub reads : {X : Type 0} {Fits : X → Type 0} {spelling : X → List ℕ} {read : Reader X} → Ties Fits spelling read → (bytes : List ℕ) (at : ℕ) (x : X) (behind : ℕ)
    → Fits x → StandsAt spelling x bytes at behind → read at (drop at bytes) ≡ Ok (x, behind, drop behind bytes)
reads {X} {Fits} {spelling} {read} tie bytes at x behind fits h =
    ap (read at) h.spelled ∙ tie.only at x (drop behind bytes) fits ∙ ap (λ (n : ℕ). Ok (x, n, drop behind bytes)) (sym h.behind_it)

-- the same of the answer of a call that finds no fault but a bad field

pub told_stands : {X : Type 0} {Fits : X → Type 0} {spelling : X → List ℕ} {read : Reader X} → Ties Fits spelling read → (bytes : List ℕ) (at : ℕ) (r : Result (X × ℕ) Bad)
    → IsBytes bytes → IfOk r (λ x. x.1 ≤ length bytes) → Tells (with_rest bytes) r (read at (drop at bytes)) → IfOk r (λ x. StandsAt spelling x.0 bytes at x.1)
told_stands tie bytes at (Ok x) fits within e = (stands tie bytes at x fits within e).0
told_stands tie bytes at (Err b) fits within e = tt

pub told_only : {X : Type 0} {Fits : X → Type 0} {spelling : X → List ℕ} {read : Reader X} → Ties Fits spelling read → (bytes : List ℕ) (at : ℕ) (r : Result (X × ℕ) Bad)
    → Tells (with_rest bytes) r (read at (drop at bytes)) → (x : X) (behind : ℕ) → Fits x → StandsAt spelling x bytes at behind → r ≡ Ok (x, behind)
told_only {X} tie bytes at (Ok y) e x behind fits h =
    let same = ok_is (with_rest bytes y) (x, behind, drop behind bytes) (sym e ∙ reads tie bytes at x behind fits h) in
    ap (λ (p : X × ℕ × List ℕ). Ok (p.0, p.1)) same
told_only tie bytes at (Err b) e x behind fits h = absurd (let two = sym e ∙ reads tie bytes at x behind fits h in cc)

-- the same of the answer of a call that may want memory

pub given_stands : {X : Type 0} {Fits : X → Type 0} {spelling : X → List ℕ} {read : Reader X} → Ties Fits spelling read → (bytes : List ℕ) (at : ℕ) (r : Result (X × ℕ) DecodeFault)
    → IsBytes bytes → IfOk r (λ x. x.1 ≤ length bytes) → Gives (with_rest bytes) r (read at (drop at bytes)) → IfOk r (λ x. StandsAt spelling x.0 bytes at x.1)
given_stands tie bytes at (Ok x) fits within e = (stands tie bytes at x fits within e).0
given_stands tie bytes at (Err b) fits within e = tt

pub given_only : {X : Type 0} {Fits : X → Type 0} {spelling : X → List ℕ} {read : Reader X} → Ties Fits spelling read → (bytes : List ℕ) (at : ℕ) (r : Result (X × ℕ) DecodeFault)
    → Gives (with_rest bytes) r (read at (drop at bytes)) → (x : X) (behind : ℕ) → Fits x → StandsAt spelling x bytes at behind → Gives (λ y. y) r (Ok (x, behind))
given_only {X} tie bytes at (Ok y) e x behind fits h =
    let same = ok_is (with_rest bytes y) (x, behind, drop behind bytes) (sym e ∙ reads tie bytes at x behind fits h) in
    sym (ap (λ (p : X × ℕ × List ℕ). Ok (p.0, p.1)) same)
given_only tie bytes at (Err faults.NoMemory) e x behind fits h = tt
given_only tie bytes at (Err (faults.Bad b)) e x behind fits h = absurd (let two = sym e ∙ reads tie bytes at x behind fits h in cc)

-- of a whole input

ended : (at : ℕ) (bytes : List ℕ) (u : Unit {0}) → end_at at bytes ≡ Ok u → bytes ≡ []
ended at bytes u e = nil_from_length bytes (eqb-true _ _ (guard_ok (eqb (length bytes) 0) (bad at Trailing) tt u e).0)

pub whole_found : {X : Type 0} {Fits : X → Type 0} {spelling : X → List ℕ} {read : Reader X} → Ties Fits spelling read → (bytes : List ℕ) (x : X)
    → IsBytes bytes → whole read bytes ≡ Ok x → (bytes ≡ spelling x) × Fits x
whole_found {X} {Fits} {spelling} {read} tie bytes x fits e =
    let a = bind_ok (read 0 bytes) (λ y. end_at y.1 y.2 >>= λ _. Ok y.0) x e in
    let b = bind_ok (end_at a.0.1 a.0.2) (λ _. Ok a.0.0) x a.2 in
    let p = tie.found 0 bytes a.0 fits a.1 in
    let nothing : a.0.2 ≡ [] = ended a.0.1 a.0.2 b.0 b.1 in
    let whole_of : bytes ≡ spelling a.0.0 = p.0.parts ∙ ap (λ (r : List ℕ). spelling a.0.0 ++ r) nothing ∙ append-nil (spelling a.0.0) in
    subst (λ (y : X). (bytes ≡ spelling y) × Fits y) (ok_is a.0.0 x b.2) (whole_of, p.1)

pub whole_only : {X : Type 0} {Fits : X → Type 0} {spelling : X → List ℕ} {read : Reader X} → Ties Fits spelling read → (x : X) → Fits x → whole read (spelling x) ≡ Ok x
whole_only {X} {Fits} {spelling} {read} tie x fits =
    let e : read 0 (spelling x) ≡ Ok (x, 0 + length (spelling x), []) = ap (read 0) (sym (append-nil (spelling x))) ∙ tie.only 0 x [] fits in
    ap (λ (r : Result (X × ℕ × List ℕ) Bad). r >>= λ y. end_at y.1 y.2 >>= λ _. Ok y.0) e

pub given_spelled : {X : Type 0} {Fits : X → Type 0} {spelling : X → List ℕ} {read : Reader X} → Ties Fits spelling read → (bytes : List ℕ) (r : Result X DecodeFault)
    → IsBytes bytes → Gives (λ x. x) r (whole read bytes) → IfOk r (λ x. bytes ≡ spelling x)
given_spelled tie bytes (Ok x) fits e = (whole_found tie bytes x fits e).0
given_spelled tie bytes (Err b) fits e = tt

pub given_fits : {X : Type 0} {Fits : X → Type 0} {spelling : X → List ℕ} {read : Reader X} → Ties Fits spelling read → (bytes : List ℕ) (r : Result X DecodeFault)
    → IsBytes bytes → Gives (λ x. x) r (whole read bytes) → IfOk r Fits
given_fits tie bytes (Ok x) fits e = (whole_found tie bytes x fits e).1
given_fits tie bytes (Err b) fits e = tt

pub given_only_whole : {X : Type 0} {Fits : X → Type 0} {spelling : X → List ℕ} {read : Reader X} → Ties Fits spelling read → (bytes : List ℕ) (r : Result X DecodeFault)
    → Gives (λ x. x) r (whole read bytes) → (x : X) → Fits x → bytes ≡ spelling x → Gives (λ y. y) r (Ok x)
given_only_whole {X} {Fits} {spelling} {read} tie bytes r e x fits is =
    subst (λ (f : Result X Bad). Gives (λ (y : X). y) r f) (ap (whole read) is ∙ whole_only tie x fits) e
