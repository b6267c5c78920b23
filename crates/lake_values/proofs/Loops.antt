-- Reading elements one after the other, as a loop does: what was read, in front of what is still read, is the whole.
use Rattle.std.proofs.Common.{◌≡◌, ℕ, ◌+◌, ◌≤◌, ◌<◌, List, [], ◌∷◌, ◌++◌, length, get_or, drop, Option, Some, None, Result, Ok, Err, refl, sym, ap, ◌∙◌, append_assoc, arith}
use Rattle.std.proofs.lemmas.List.{append-nil, drop_more, drop_all}
use Rattle.lake_values.specs.declared.faults.Bad.{Bad}
use Rattle.lake_values.specs.declared.faults.DecodeFault.{DecodeFault}
use Rattle.lake_values.specs.declared.faults.DecodeFault.TheVariants as faults
use Rattle.lake_values.specs.Reading.{Reader, ◌>>=◌, each_at, Fails}

abbrev pub with_front : {X : Type 0} → List X → Result (List X × ℕ × List ℕ) Bad → Result (List X × ℕ × List ℕ) Bad
with_front front read = read >>= λ x. Ok (front ++ x.0, x.1, x.2)

regroup : {X : Type 0} (front : List X) (x : X) (read : Result (List X × ℕ × List ℕ) Bad) → with_front front (read >>= λ y. Ok (x ∷ y.0, y.1, y.2)) ≡ with_front (front ++ x ∷ []) read
regroup {X} front x (Ok y) = ap (λ (xs : List X). Ok (xs, y.1, y.2)) (sym (append_assoc front (x ∷ []) y.0))
regroup front x (Err b) = refl

pub goes_on : {C X : Type 0} (element : Option X → C → Reader X) (front : List X) (before : Option X) (cs : List C) (i : ℕ) (c : C) (at : ℕ) (bytes : List ℕ)
    (x : X) (behind : ℕ) (rest : List ℕ) (total : Result (List X × ℕ × List ℕ) Bad) → i < length cs → c ≡ get_or cs i c
    → element before c at bytes ≡ Ok (x, behind, rest)
    → with_front front (each_at element before (drop i cs) at bytes) ≡ total
    → with_front (front ++ x ∷ []) (each_at element (Some x) (drop (i + 1) cs) behind rest) ≡ total
goes_on {C} {X} element front before cs i c at bytes x behind rest total lt is step so_far =
    let here : drop i cs ≡ c ∷ drop (i + 1) cs = drop_more cs i c lt ∙ ap (λ (d : C). d ∷ drop (i + 1) cs) (sym is) in
    let opened : each_at element before (c ∷ drop (i + 1) cs) at bytes ≡ (each_at element (Some x) (drop (i + 1) cs) behind rest >>= λ y. Ok (x ∷ y.0, y.1, y.2)) =
    ap (λ (r : Result (X × ℕ × List ℕ) Bad). r >>= λ first. each_at element (Some first.0) (drop (i + 1) cs) first.1 first.2 >>= λ others. Ok (first.0 ∷ others.0, others.1, others.2)) step in
    sym (regroup front x (each_at element (Some x) (drop (i + 1) cs) behind rest))
    ∙ ap (with_front front) (sym opened)
    ∙ ap (λ (ds : List C). with_front front (each_at element before ds at bytes)) (sym here)
    ∙ so_far

pub stops : {C X : Type 0} (element : Option X → C → Reader X) (front : List X) (before : Option X) (cs : List C) (i : ℕ) (c : C) (at : ℕ) (bytes : List ℕ)
    (b : Bad) (total : Result (List X × ℕ × List ℕ) Bad) → i < length cs → c ≡ get_or cs i c
    → element before c at bytes ≡ Err b
    → with_front front (each_at element before (drop i cs) at bytes) ≡ total
    → total ≡ Err b
stops {C} {X} element front before cs i c at bytes b total lt is step so_far =
    let here : drop i cs ≡ c ∷ drop (i + 1) cs = drop_more cs i c lt ∙ ap (λ (d : C). d ∷ drop (i + 1) cs) (sym is) in
    let opened : each_at element before (c ∷ drop (i + 1) cs) at bytes ≡ Err b =
    ap (λ (r : Result (X × ℕ × List ℕ) Bad). r >>= λ first. each_at element (Some first.0) (drop (i + 1) cs) first.1 first.2 >>= λ others. Ok (first.0 ∷ others.0, others.1, others.2)) step in
    sym so_far ∙ ap (λ (ds : List C). with_front front (each_at element before ds at bytes)) here ∙ ap (with_front front) opened

pub is_done : {C X : Type 0} (element : Option X → C → Reader X) (front : List X) (before : Option X) (cs : List C) (i : ℕ) (at : ℕ) (bytes : List ℕ)
    (total : Result (List X × ℕ × List ℕ) Bad) → length cs ≤ i
    → with_front front (each_at element before (drop i cs) at bytes) ≡ total
    → total ≡ Ok (front, at, bytes)
is_done {C} {X} element front before cs i at bytes total le so_far =
    sym so_far ∙ ap (λ (ds : List C). with_front front (each_at element before ds at bytes)) (drop_all i cs le) ∙ ap (λ (xs : List X). Ok (xs, at, bytes)) (append-nil front)

-- the same where what an element may be doesn't depend on the one before it

alike : {C X : Type 0} (element : C → Reader X) (before other : Option X) (cs : List C) (at : ℕ) (bytes : List ℕ) → each_at (λ b. element) before cs at bytes ≡ each_at (λ b. element) other cs at bytes
alike element before other [] at bytes = refl
alike element before other (c ∷ cs) at bytes = refl

pub goes_on_alike : {C X : Type 0} (element : C → Reader X) (front : List X) (cs : List C) (i : ℕ) (c : C) (at : ℕ) (bytes : List ℕ)
    (x : X) (behind : ℕ) (rest : List ℕ) (total : Result (List X × ℕ × List ℕ) Bad) → i < length cs → c ≡ get_or cs i c
    → element c at bytes ≡ Ok (x, behind, rest)
    → with_front front (each_at (λ b. element) None (drop i cs) at bytes) ≡ total
    → with_front (front ++ x ∷ []) (each_at (λ b. element) None (drop (i + 1) cs) behind rest) ≡ total
goes_on_alike {C} {X} element front cs i c at bytes x behind rest total lt is step so_far =
    ap (with_front (front ++ x ∷ [])) (alike element None (Some x) (drop (i + 1) cs) behind rest)
    ∙ goes_on (λ b. element) front None cs i c at bytes x behind rest total lt is step so_far

pub fails_alike : {C X : Type 0} (element : C → Reader X) (e : DecodeFault) (front : List X) (cs : List C) (i : ℕ) (c : C) (at : ℕ) (bytes : List ℕ)
    (total : Result (List X × ℕ × List ℕ) Bad) → i < length cs → c ≡ get_or cs i c
    → Fails e (element c at bytes)
    → with_front front (each_at (λ b. element) None (drop i cs) at bytes) ≡ total
    → Fails e total
fails_alike element faults.NoMemory front cs i c at bytes total lt is step so_far = tt
fails_alike element (faults.Bad b) front cs i c at bytes total lt is step so_far = stops (λ b. element) front None cs i c at bytes b total lt is step so_far

-- the same over the members that are left, the first of them apart

pub goes_on_first : {C X : Type 0} (element : C → Reader X) (front : List X) (c : C) (cs : List C) (at : ℕ) (bytes : List ℕ)
    (x : X) (behind : ℕ) (rest : List ℕ) (total : Result (List X × ℕ × List ℕ) Bad)
    → element c at bytes ≡ Ok (x, behind, rest)
    → with_front front (each_at (λ b. element) None (c ∷ cs) at bytes) ≡ total
    → with_front (front ++ x ∷ []) (each_at (λ b. element) None cs behind rest) ≡ total
goes_on_first element front c cs at bytes x behind rest total step so_far =
    goes_on_alike element front (c ∷ cs) 0 c at bytes x behind rest total (omega arith) refl step so_far

pub stops_first : {C X : Type 0} (element : C → Reader X) (front : List X) (c : C) (cs : List C) (at : ℕ) (bytes : List ℕ)
    (b : Bad) (total : Result (List X × ℕ × List ℕ) Bad)
    → element c at bytes ≡ Err b
    → with_front front (each_at (λ b. element) None (c ∷ cs) at bytes) ≡ total
    → total ≡ Err b
stops_first element front c cs at bytes b total step so_far = stops (λ b. element) front None (c ∷ cs) 0 c at bytes b total (omega arith) refl step so_far
