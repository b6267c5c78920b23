-- How a reader is tied to a spelling: what it reads is spelled so, and what is spelled so it reads. A reader that
-- is made of others is tied to the spelling that is made of theirs.
use Rattle.std.proofs.Common.{◌≡◌, ℕ, zero, suc, ◌+◌, ◌<◌, ◌≤◌, Bool, true, false, cond, ltb, List, [], ◌∷◌, ◌++◌, length, get_or, take, drop, replicate, Option, Some, None, Result, Ok, Err, refl, sym, ap, subst, ◌∙◌, append_assoc, arith, inl, inr}
use Rattle.std.specs.List.{flat_map, AllByRecursion}
use Rattle.std.proofs.lemmas.Bool.{cases_lt, le-ltb, ltb-false}
use Rattle.std.proofs.lemmas.List.{length-append, length-take, get_or-drop, get_or-take, get_or_past, append-nil}
use Rattle.lake_values.specs.declared.faults.Bad.{Bad}
use Rattle.lake_values.specs.declared.faults.BadKind.{BadKind}
use Rattle.lake_values.specs.declared.faults.BadKind.TheVariants.{Short}
use Rattle.lake_values.specs.Spelling.{NoneBegins}
use Rattle.lake_values.specs.Reading.{Reader, bad, ◌>>=◌, checked, room_at, each_at, repeated_at, array_at}

abbrev pub IsBytes : List ℕ → Type 0
IsBytes bytes = (i : ℕ) → get_or bytes i 0 < 256

pub IsBytes-drop : (n : ℕ) (bytes : List ℕ) → IsBytes bytes → IsBytes (drop n bytes)
IsBytes-drop n bytes h i = rw get_or-drop (h (n + i))

pub IsBytes-take : (n : ℕ) (bytes : List ℕ) → IsBytes bytes → IsBytes (take n bytes)
IsBytes-take n bytes h i =
    elim (cases_lt i n) [
      | inl lt ↦ rw (get_or-take n bytes i 0 lt) (h i)
      | inr le ↦ rw (get_or_past (take n bytes) i 0 (omega (arith, length-take n bytes))) (omega arith)
    ]

-- what a reader took: the bytes are this text and the rest, and the place moved over the text
pub record Takes (at : ℕ) (bytes text : List ℕ) (behind : ℕ) (rest : List ℕ) : Type 0 where
  pub parts : bytes ≡ text ++ rest
  pub moved : behind ≡ at + length text
  pub rest_fits : IsBytes rest

pub Takes-then : (at : ℕ) (a x : List ℕ) (mid : ℕ) (b y : List ℕ) (end : ℕ) (c : List ℕ) → Takes at a x mid b → Takes mid b y end c → Takes at a (x ++ y) end c
Takes-then at a x mid b y end c p q = record {
  parts = p.parts ∙ ap (λ (t : List ℕ). x ++ t) q.parts ∙ sym (append_assoc x y c);
  moved = omega (arith, p.moved, q.moved, length-append x y);
  rest_fits = q.rest_fits;
}

abbrev ok_of : {A : Type 0} → A → Result A Bad
ok_of x = Ok x

pub ok_is : {A : Type 0} (x y : A) → ok_of x ≡ ok_of y → x ≡ y
ok_is x y e = cc

-- the value of a step that did not fail
pub bind_ok : {A B : Type 0} (r : Result A Bad) (f : A → Result B Bad) (y : B) → (r >>= f) ≡ Ok y → (x : A) × (r ≡ Ok x) × (f x ≡ Ok y)
bind_ok (Ok x) f y e = (x, refl, e)
bind_ok (Err d) f y e = absurd cc

-- a test that did not fail
pub guard_ok : {A : Type 0} (b : Bool) (d : Bad) (x y : A) → cond b (Ok x) (Err d) ≡ Ok y → (b ≡ true) × (x ≡ y)
guard_ok true d x y e = (refl, cc)
guard_ok false d x y e = absurd cc

pub room_ok : (size at : ℕ) (bytes : List ℕ) (u : Unit {0}) → room_at size at bytes ≡ Ok u → size ≤ length bytes
unfolding room_at
room_ok size at bytes u e = enough (ltb (length bytes) size) refl e
  where
    enough : (b : Bool) → b ≡ ltb (length bytes) size → cond b (Err (bad at Short)) (Ok tt) ≡ Ok u → size ≤ length bytes
    enough true is e = absurd cc
    enough false is e = ltb-false _ _ (sym is)

pub room_for : (size at : ℕ) (bytes : List ℕ) → size ≤ length bytes → room_at size at bytes ≡ Ok tt
unfolding room_at
room_for size at bytes le = rw (le-ltb _ _ le) refl

pub record Ties {X : Type 0} (Fits : X → Type 0) (spelling : X → List ℕ) (read : Reader X) : Type 0 where
  pub found : (at : ℕ) (bytes : List ℕ) (y : X × ℕ × List ℕ) → IsBytes bytes → read at bytes ≡ Ok y → Takes at bytes (spelling y.0) y.1 y.2 × Fits y.0
  pub only : (at : ℕ) (x : X) (rest : List ℕ) → Fits x → read at (spelling x ++ rest) ≡ Ok (x, at + length (spelling x), rest)

-- nothing is read: the value is made
pub Ties-made : {X : Type 0} (x : X) → Ties (λ y. x ≡ y) (λ y. []) (λ at bytes. Ok (x, at, bytes))
Ties-made {X} x = record {
  found = λ at bytes y fits e.
      let same : (x, at, bytes) ≡ y = ok_is _ _ e in
      subst (λ (z : X × ℕ × List ℕ). Takes at bytes [] z.1 z.2 × (x ≡ z.0)) same (record { parts = refl; moved = omega arith; rest_fits = fits }, refl);
  only = λ at y rest e.
      let place : at + 0 ≡ at = omega arith in
      rw (place, e) refl;
}

-- a first part, and then a reader that goes by what was read
pub Ties-then : {A X : Type 0} {FitsA : A → Type 0} {first : A → List ℕ} {read : Reader A}
    → (Fits : X → Type 0) (others : X → List ℕ) (part : X → A) (next : A → Reader X)
    → Ties FitsA first read
    → ((x : X) → Fits x → FitsA (part x))
    → ((a : A) → FitsA a → Ties (λ x. (a ≡ part x) × Fits x) others (next a))
    → Ties Fits (λ x. first (part x) ++ others x) (λ at bytes. read at bytes >>= λ a. next a.0 a.1 a.2)
Ties-then {A} {X} {FitsA} {first} {read} Fits others part next one parts two = record {
  found = λ at bytes y fits e.
      let a = bind_ok (read at bytes) (λ a. next a.0 a.1 a.2) y e in
      let p = one.found at bytes a.0 fits a.1 in
      let q = (two a.0.0 p.1).found a.0.1 a.0.2 y p.0.rest_fits a.2 in
      let both = Takes-then at bytes (first a.0.0) a.0.1 a.0.2 (others y.0) y.1 y.2 p.0 q.0 in
      (subst (λ (v : A). Takes at bytes (first v ++ others y.0) y.1 y.2) q.1.0 both, q.1.1);
  only = λ at x rest fits.
      let grouped : (first (part x) ++ others x) ++ rest ≡ first (part x) ++ (others x ++ rest) = append_assoc (first (part x)) (others x) rest in
      let far : at + length (first (part x)) + length (others x) ≡ at + length (first (part x) ++ others x) = omega (arith, length-append (first (part x)) (others x)) in
      let a : read at ((first (part x) ++ others x) ++ rest) ≡ Ok (part x, at + length (first (part x)), others x ++ rest) = ap (read at) grouped ∙ one.only at (part x) (others x ++ rest) (parts x fits) in
      let b : next (part x) (at + length (first (part x))) (others x ++ rest) ≡ Ok (x, at + length (first (part x)) + length (others x), rest) = (two (part x) (parts x fits)).only (at + length (first (part x))) x rest (refl, fits) in
      ap (λ (r : Result (A × ℕ × List ℕ) Bad). r >>= λ a. next a.0 a.1 a.2) a ∙ b ∙ ap (λ (n : ℕ). Ok (x, n, rest)) far;
}

-- a test of what was read
pub Ties-checked : {X : Type 0} {Fits : X → Type 0} {spelling : X → List ℕ} {read : Reader X} (test : X → Bool) (kind : BadKind) → Ties Fits spelling read
    → Ties (λ x. (test x ≡ true) × Fits x) spelling (checked test kind read)
Ties-checked {X} {Fits} {spelling} {read} test kind tie = record {
  found = λ at bytes y fits e.
      let a = bind_ok (read at bytes) (λ x. cond (test x.0) (Ok x) (Err (bad at kind))) y e in
      let g = guard_ok (test a.0.0) (bad at kind) a.0 y a.2 in
      let p = tie.found at bytes a.0 fits a.1 in
      subst (λ (z : X × ℕ × List ℕ). Takes at bytes (spelling z.0) z.1 z.2 × ((test z.0 ≡ true) × Fits z.0)) g.1 (p.0, (g.0, p.1));
  only = λ at x rest fits.
      ap (λ (r : Result (X × ℕ × List ℕ) Bad). r >>= λ x. cond (test x.0) (Ok x) (Err (bad at kind))) (tie.only at x rest fits.1) ∙ rw fits.0 refl;
}

-- another name for the same spelling, and for what fits
pub Ties-as : {X : Type 0} {Fits : X → Type 0} {spelling : X → List ℕ} {read : Reader X} (Fits' : X → Type 0) (spelling' : X → List ℕ)
    → ((x : X) → Fits x → spelling x ≡ spelling' x) → ((x : X) → Fits x → Fits' x) → ((x : X) → Fits' x → Fits x) → Ties Fits spelling read → Ties Fits' spelling' read
Ties-as {X} {Fits} {spelling} {read} Fits' spelling' same to from tie = record {
  found = λ at bytes y fits e.
      let p = tie.found at bytes y fits e in
      (subst (λ (t : List ℕ). Takes at bytes t y.1 y.2) (same y.0 p.1) p.0, to y.0 p.1);
  only = λ at x rest fits.
      subst (λ (t : List ℕ). read at (t ++ rest) ≡ Ok (x, at + length t, rest)) (same x (from x fits)) (tie.only at x rest (from x fits));
}

-- one reader in the place of another that reads the same
pub Ties-read : {X : Type 0} {Fits : X → Type 0} {spelling : X → List ℕ} (read read' : Reader X) → ((at : ℕ) (bytes : List ℕ) → read at bytes ≡ read' at bytes) → Ties Fits spelling read → Ties Fits spelling read'
Ties-read {X} read read' same tie = record {
  found = λ at bytes y fits e. tie.found at bytes y fits (same at bytes ∙ e);
  only = λ at x rest fits. sym (same at _) ∙ tie.only at x rest fits;
}

-- what is tied is spelled so that no spelling begins another
pub NoneBegins-from_ties : {X : Type 0} {Fits : X → Type 0} {spelling : X → List ℕ} {read : Reader X} → Ties Fits spelling read → NoneBegins Fits spelling
NoneBegins-from_ties {X} {Fits} {spelling} {read} tie x y a b fx fy e =
    let first = tie.only 0 x a fx in
    let second = tie.only 0 y b fy in
    let same = ok_is (x, 0 + length (spelling x), a) (y, 0 + length (spelling y), b) (sym first ∙ ap (read 0) e ∙ second) in
    (ap (λ (p : X × ℕ × List ℕ). p.0) same, ap (λ (p : X × ℕ × List ℕ). p.2) same)

-- elements that fit their members and the elements before them
abbrev pub EachFits : {C X : Type 0} → (Option X → C → X → Type 0) → Option X → List C → List X → Type 0
EachFits Fits before [] [] = Unit {0}
EachFits Fits before [] (x ∷ xs) = ⊥
EachFits Fits before (c ∷ cs) [] = ⊥
EachFits Fits before (c ∷ cs) (x ∷ xs) = Fits before c x × EachFits Fits (Some x) cs xs

none_fit : {C X : Type 0} (Fits : Option X → C → X → Type 0) (spelling : X → List ℕ) (element : Option X → C → Reader X) (before : Option X)
    → (at : ℕ) (xs : List X) (rest : List ℕ) → EachFits Fits before [] xs → each_at element before [] at (flat_map spelling xs ++ rest) ≡ Ok (xs, at + length (flat_map spelling xs), rest)
none_fit Fits spelling element before at [] rest fits = let place : at ≡ at + 0 = omega arith in ap (λ (n : ℕ). Ok ([], n, rest)) place
none_fit Fits spelling element before at (x ∷ xs) rest fits = absurd fits

next_fits : {C X : Type 0} (Fits : Option X → C → X → Type 0) (spelling : X → List ℕ) (element : Option X → C → Reader X) (before : Option X) (c : C) (cs : List C)
    → Ties (Fits before c) spelling (element before c) → ((x : X) → Ties (EachFits Fits (Some x) cs) (flat_map spelling) (each_at element (Some x) cs))
    → (at : ℕ) (xs : List X) (rest : List ℕ) → EachFits Fits before (c ∷ cs) xs → each_at element before (c ∷ cs) at (flat_map spelling xs ++ rest) ≡ Ok (xs, at + length (flat_map spelling xs), rest)
next_fits Fits spelling element before c cs one others at [] rest fits = absurd fits
next_fits {C} {X} Fits spelling element before c cs one others at (x ∷ xs) rest fits =
    let grouped : (spelling x ++ flat_map spelling xs) ++ rest ≡ spelling x ++ (flat_map spelling xs ++ rest) = append_assoc (spelling x) (flat_map spelling xs) rest in
    let far : at + length (spelling x) + length (flat_map spelling xs) ≡ at + length (spelling x ++ flat_map spelling xs) = omega (arith, length-append (spelling x) (flat_map spelling xs)) in
    let a : element before c at ((spelling x ++ flat_map spelling xs) ++ rest) ≡ Ok (x, at + length (spelling x), flat_map spelling xs ++ rest) = ap (element before c at) grouped ∙ one.only at x (flat_map spelling xs ++ rest) fits.0 in
    let b = (others x).only (at + length (spelling x)) xs rest fits.1 in
    ap (λ (r : Result (X × ℕ × List ℕ) Bad). r >>= λ first. each_at element (Some first.0) cs first.1 first.2 >>= λ others. Ok (first.0 ∷ others.0, others.1, others.2)) a
    ∙ ap (λ (r : Result (List X × ℕ × List ℕ) Bad). r >>= λ others. Ok (x ∷ others.0, others.1, others.2)) b
    ∙ ap (λ (n : ℕ). Ok (x ∷ xs, n, rest)) far

-- elements one after the other
pub Ties-each : {C X : Type 0} (Fits : Option X → C → X → Type 0) (spelling : X → List ℕ) (element : Option X → C → Reader X)
    → ((before : Option X) (c : C) → Ties (Fits before c) spelling (element before c))
    → (cs : List C) (before : Option X) → Ties (EachFits Fits before cs) (flat_map spelling) (each_at element before cs)
Ties-each {C} {X} Fits spelling element one [] before = record {
  found = λ at bytes y fits e.
      subst (λ (z : List X × ℕ × List ℕ). Takes at bytes (flat_map spelling z.0) z.1 z.2 × EachFits Fits before [] z.0) (ok_is ([], at, bytes) y e) (record { parts = refl; moved = omega arith; rest_fits = fits }, tt);
  only = none_fit Fits spelling element before;
}
Ties-each {C} {X} Fits spelling element one (c ∷ cs) before = record {
  found = λ at bytes y fits e.
      let a = bind_ok (element before c at bytes) (λ first. each_at element (Some first.0) cs first.1 first.2 >>= λ others. Ok (first.0 ∷ others.0, others.1, others.2)) y e in
      let b = bind_ok (each_at element (Some a.0.0) cs a.0.1 a.0.2) (λ others. Ok (a.0.0 ∷ others.0, others.1, others.2)) y a.2 in
      let p = (one before c).found at bytes a.0 fits a.1 in
      let q = (Ties-each Fits spelling element one cs (Some a.0.0)).found a.0.1 a.0.2 b.0 p.0.rest_fits b.1 in
      let both = Takes-then at bytes (spelling a.0.0) a.0.1 a.0.2 (flat_map spelling b.0.0) b.0.1 b.0.2 p.0 q.0 in
      subst (λ (z : List X × ℕ × List ℕ). Takes at bytes (flat_map spelling z.0) z.1 z.2 × EachFits Fits before (c ∷ cs) z.0) (ok_is (a.0.0 ∷ b.0.0, b.0.1, b.0.2) y b.2) (both, (p.1, q.1));
  only = next_fits Fits spelling element before c cs (one before c) (λ x. Ties-each Fits spelling element one cs (Some x));
}

pub repeated_fits : {X : Type 0} (Fits : X → Type 0) (before : Option X) (count : ℕ) (xs : List X) → (length xs ≡ count) × AllByRecursion Fits xs → EachFits (λ b c x. Fits x) before (replicate count (tt {0})) xs
repeated_fits Fits before zero [] h = tt
repeated_fits Fits before zero (x ∷ xs) h = absurd (omega (arith, h.0))
repeated_fits Fits before (suc count) [] h = absurd (omega (arith, h.0))
repeated_fits Fits before (suc count) (x ∷ xs) h = (h.1.0, repeated_fits Fits (Some x) count xs (omega (arith, h.0), h.1.1))

pub fits_repeated : {X : Type 0} (Fits : X → Type 0) (before : Option X) (count : ℕ) (xs : List X) → EachFits (λ b c x. Fits x) before (replicate count (tt {0})) xs → (length xs ≡ count) × AllByRecursion Fits xs
fits_repeated Fits before zero [] h = (refl, tt)
fits_repeated Fits before zero (x ∷ xs) h = absurd h
fits_repeated Fits before (suc count) [] h = absurd h
fits_repeated Fits before (suc count) (x ∷ xs) h = let others = fits_repeated Fits (Some x) count xs h.1 in (ap suc others.0, (h.0, others.1))

-- so many elements that are read alike
pub Ties-repeated : {X : Type 0} {Fits : X → Type 0} {spelling : X → List ℕ} {read : Reader X} (count : ℕ) → Ties Fits spelling read
    → Ties (λ xs. (length xs ≡ count) × AllByRecursion Fits xs) (flat_map spelling) (repeated_at count read)
Ties-repeated {X} {Fits} {spelling} {read} count one =
    Ties-as (λ xs. (length xs ≡ count) × AllByRecursion Fits xs) (flat_map spelling) (λ xs h. refl) (fits_repeated Fits None count) (repeated_fits Fits None count)
    (Ties-each (λ b c x. Fits x) spelling (λ b c. read) (λ b c. one) (replicate count (tt {0})) None)

-- an array of so many bytes
pub Ties-array : {C X : Type 0} (Fits : Option X → C → X → Type 0) (spelling : X → List ℕ) (element : Option X → C → Reader X) (size : ℕ) (cs : List C)
    → ((before : Option X) (c : C) → Ties (Fits before c) spelling (element before c))
    → ((xs : List X) → EachFits Fits None cs xs → length (flat_map spelling xs) ≡ size)
    → Ties (EachFits Fits None cs) (flat_map spelling) (array_at size element cs)
Ties-array {C} {X} Fits spelling element size cs one sized = record {
  found = λ at bytes y fits e.
      let a = bind_ok (room_at size at bytes) (λ _. each_at element None cs at bytes) y e in
      (Ties-each Fits spelling element one cs None).found at bytes y fits a.2;
  only = λ at xs rest fits.
      let long : size ≤ length (flat_map spelling xs ++ rest) = omega (arith, sized xs fits, length-append (flat_map spelling xs) rest) in
      ap (λ (r : Result (Unit {0}) Bad). r >>= λ _. each_at element None cs at (flat_map spelling xs ++ rest)) (room_for size at (flat_map spelling xs ++ rest) long)
      ∙ (Ties-each Fits spelling element one cs None).only at xs rest fits;
}

-- a value that is made of one part
pub Ties-map : {A X : Type 0} {FitsA : A → Type 0} {first : A → List ℕ} {read : Reader A}
    → (Fits : X → Type 0) (part : X → A) (made : A → X)
    → Ties FitsA first read
    → ((x : X) → Fits x → FitsA (part x))
    → ((a : A) → FitsA a → (a ≡ part (made a)) × Fits (made a))
    → ((x : X) → Fits x → made (part x) ≡ x)
    → Ties Fits (λ x. first (part x)) (λ at bytes. read at bytes >>= λ a. Ok (made a.0, a.1, a.2))
Ties-map {A} {X} {FitsA} {first} {read} Fits part made one parts there back =
    Ties-as Fits (λ x. first (part x)) (λ x h. append-nil (first (part x))) (λ x h. h) (λ x h. h)
    (Ties-then Fits (λ x. []) part (λ a at bytes. Ok (made a, at, bytes)) one parts
    (λ a fa. Ties-as (λ x. (a ≡ part x) × Fits x) (λ x. []) (λ x h. refl)
    (λ x e. subst (λ (y : X). (a ≡ part y) × Fits y) e (there a fa))
    (λ x h. ap made h.0 ∙ back x h.1)
    (Ties-made (made a))))
