-- Lists of keys, each of which is to stand once.
use Rattle.std.proofs.Common.{◌≡◌, Bool, true, false, ◌&&◌, ◌||◌, not, cond, List, [], ◌∷◌, ◌++◌, filter, refl, sym, ap, ◌∙◌}
use Rattle.std.specs.List.{list_any, flat_map}
use Rattle.std.specs.Ordering.{is_eq}
use Rattle.std.specs.Cmp.{Equal-is}
use Rattle.std.proofs.lemmas.Cmp.{tied_itself}
use Rattle.std.proofs.lemmas.List.Elements.{filter-append, filter_agree}
use Rattle.lake_values.specs.declared.values.Value.{Value}
use Rattle.lake_values.specs.Order.{row_cmp, row_cmp_total, row_cmp_tells}
use Rattle.sql_model.specs.Groups.{same_row, distinct}

abbrev pub Row : Type 0
Row = List Value

pub same_itself : (r : Row) → same_row r r ≡ true
same_itself r = ap is_eq (tied_itself row_cmp_total r)

pub same_tells : (r s : Row) → same_row r s ≡ true → r ≡ s
same_tells r s e = row_cmp_tells r s ((Equal-is (row_cmp r s)).0 e)

abbrev pub other_row : Row → Row → Bool
other_row r s = not (same_row r s)

-- whether a row is among them
abbrev pub among : List Row → Row → Bool
among rows r = list_any (λ s. same_row s r) rows

both_step : (p q : Row → Bool) (x : Row) (xs kept : List Row) (b : Bool) → filter p xs ≡ kept → filter p (cond b (x ∷ xs) xs) ≡ cond (b && p x) (x ∷ kept) kept
both_step p q x xs kept true e = ap (λ (l : List Row). cond (p x) (x ∷ l) l) e
both_step p q x xs kept false e = e

-- a filter behind a filter
pub filter_both : (p q : Row → Bool) (xs : List Row) → filter p (filter q xs) ≡ filter (λ x. q x && p x) xs
filter_both p q [] = refl
filter_both p q (x ∷ xs) = both_step p q x (filter q xs) (filter (λ x. q x && p x) xs) (q x) (filter_both p q xs)

pub filter_every : (xs : List Row) → filter (λ x. true) xs ≡ xs
filter_every [] = refl
filter_every (x ∷ xs) = ap (λ (l : List Row). x ∷ l) (filter_every xs)

not_any : (a b : Bool) → (not b && not a) ≡ not (a || b)
not_any true true = refl
not_any true false = refl
not_any false true = refl
not_any false false = refl

-- the rows of two lists, each once
pub distinct-append : (xs ys : List Row) → distinct (xs ++ ys) ≡ distinct xs ++ filter (λ y. not (among xs y)) (distinct ys)
distinct-append [] ys = sym (filter_every (distinct ys))
distinct-append (x ∷ xs) ys =
    let new : List Row = filter (λ y. not (among xs y)) (distinct ys) in
    let rest : filter (other_row x) new ≡ filter (λ y. not (among (x ∷ xs) y)) (distinct ys) =
    filter_both (other_row x) (λ y. not (among xs y)) (distinct ys) ∙ filter_agree (λ y. not (among xs y) && other_row x y) (λ y. not (among (x ∷ xs) y)) (λ y. not_any (same_row x y) (among xs y)) (distinct ys) in
    ap (λ (l : List Row). x ∷ filter (other_row x) l) (distinct-append xs ys)
    ∙ ap (λ (l : List Row). x ∷ l) (filter-append (other_row x) (distinct xs) new)
    ∙ ap (λ (l : List Row). x ∷ (filter (other_row x) (distinct xs) ++ l)) rest

kept_step : (p : Row → Bool) (x y : Row) (xs : List Row) (b s : Bool) → (s ≡ true → b ≡ true) → same_row x y ≡ s → among (filter p xs) y ≡ among xs y
    → among (cond b (x ∷ filter p xs) (filter p xs)) y ≡ (s || among xs y)
kept_step p x y xs true s passes e others = ap (λ (t : Bool). t || among (filter p xs) y) e ∙ ap (λ (t : Bool). s || t) others
kept_step p x y xs false true passes e others = absurd (false_true (passes refl))
  where
    false_true : false ≡ true → ⊥
    false_true e = cc
kept_step p x y xs false false passes e others = others

-- a filter that a row passes doesn't say whether it is among them
among-filter : (p : Row → Bool) (y : Row) → p y ≡ true → (xs : List Row) → among (filter p xs) y ≡ among xs y
among-filter p y passes [] = refl
among-filter p y passes (x ∷ xs) = kept_step p x y xs (p x) (same_row x y) (λ same. ap p (same_tells x y same) ∙ passes) refl (among-filter p y passes xs)

among_step : (x y : Row) (xs : List Row) (s : Bool) → same_row x y ≡ s → among (distinct xs) y ≡ among xs y → (s || among (filter (other_row x) (distinct xs)) y) ≡ (s || among xs y)
among_step x y xs true e others = refl
among_step x y xs false e others = among-filter (other_row x) y (ap not e) (distinct xs) ∙ others

pub among-distinct : (xs : List Row) (y : Row) → among (distinct xs) y ≡ among xs y
among-distinct [] y = refl
among-distinct (x ∷ xs) y = among_step x y xs (same_row x y) refl (among-distinct xs y)

and_itself : (a : Bool) → (a && a) ≡ a
and_itself true = refl
and_itself false = refl

apart_step : (p : Row → Bool) (x : Row) (rows : List Row) (b : Bool) → p x ≡ b → filter p rows ≡ cond b (filter p rows) (filter p (filter (other_row x) rows))
apart_step p x rows true e = refl
apart_step p x rows false e =
    sym (filter_both p (other_row x) rows ∙ filter_agree (λ y. other_row x y && p y) p (λ y. outside y (same_row x y) refl) rows)
  where
    outside : (y : Row) (s : Bool) → same_row x y ≡ s → (not s && p y) ≡ p y
    outside y true same = sym (ap p (sym (same_tells x y same)) ∙ e)
    outside y false same = refl

distinct_step : (p : Row → Bool) (x : Row) (rows : List Row) (b : Bool) → p x ≡ b → filter p (distinct rows) ≡ distinct (filter p rows) → cond b (x ∷ filter p (filter (other_row x) (distinct rows))) (filter p (filter (other_row x) (distinct rows))) ≡ distinct (cond b (x ∷ filter p rows) (filter p rows))
distinct_step p x rows true e others =
    ap (λ (l : List Row). x ∷ l) (filter_both p (other_row x) (distinct rows) ∙ filter_agree (λ y. other_row x y && p y) (λ y. p y && other_row x y) (λ y. and_turned (other_row x y) (p y)) (distinct rows)
    ∙ sym (filter_both (other_row x) p (distinct rows)) ∙ ap (λ (l : List Row). filter (other_row x) l) others)
  where
    and_turned : (a b : Bool) → (a && b) ≡ (b && a)
    and_turned true true = refl
    and_turned true false = refl
    and_turned false true = refl
    and_turned false false = refl
distinct_step p x rows false e others = sym (apart_step p x (distinct rows) false e) ∙ others

pub distinct-filter : (p : Row → Bool) (rows : List Row) → filter p (distinct rows) ≡ distinct (filter p rows)
distinct-filter p [] = refl
distinct-filter p (x ∷ rows) = distinct_step p x rows (p x) refl (distinct-filter p rows)

pub distinct-distinct : (xs : List Row) → distinct (distinct xs) ≡ distinct xs
distinct-distinct [] = refl
distinct-distinct (x ∷ xs) =
    ap (λ (l : List Row). x ∷ filter (other_row x) l) (sym (distinct-filter (other_row x) (distinct xs)) ∙ ap (λ (l : List Row). filter (other_row x) l) (distinct-distinct xs))
    ∙ ap (λ (l : List Row). x ∷ l) (filter_both (other_row x) (other_row x) (distinct xs) ∙ filter_agree (λ y. other_row x y && other_row x y) (other_row x) (λ y. and_itself (other_row x y)) (distinct xs))

-- rows that stand once in a part can stand once from the start
pub distinct-parts : {X : Type 0} (f : X → List Row) (parts : List X) → distinct (flat_map (λ p. distinct (f p)) parts) ≡ distinct (flat_map f parts)
distinct-parts f [] = refl
distinct-parts f (p ∷ parts) =
    let firsts : List Row = flat_map (λ p. distinct (f p)) parts in
    distinct-append (distinct (f p)) firsts
    ∙ ap (λ (l : List Row). l ++ filter (λ y. not (among (distinct (f p)) y)) (distinct firsts)) (distinct-distinct (f p))
    ∙ ap (λ (l : List Row). distinct (f p) ++ l) (filter_agree (λ y. not (among (distinct (f p)) y)) (λ y. not (among (f p) y)) (λ y. ap not (among-distinct (f p) y)) (distinct firsts))
    ∙ ap (λ (l : List Row). distinct (f p) ++ filter (λ y. not (among (f p) y)) l) (distinct-parts f parts)
    ∙ sym (distinct-append (f p) (flat_map f parts))

filter_never : (xs : List Row) → filter (λ x. false) xs ≡ []
filter_never [] = refl
filter_never (x ∷ xs) = filter_never xs

never_both : (s : Bool) → (not s && s) ≡ false
never_both true = refl
never_both false = refl

same_turned : (x k : Row) (s : Bool) → same_row k x ≡ s → same_row x k ≡ false → s ≡ false
same_turned x k true e apart = sym (ap (λ (r : Row). same_row r k) (sym (same_tells k x e)) ∙ same_itself k) ∙ apart
same_turned x k false e apart = refl

found_step : (k x : Row) (xs : List Row) (s : Bool) → same_row x k ≡ s → filter (λ y. same_row k y) (distinct xs) ≡ cond (among xs k) (k ∷ []) []
    → filter (λ y. same_row k y) (x ∷ filter (other_row x) (distinct xs)) ≡ cond (s || among xs k) (k ∷ []) []
found_step k x xs true e others =
    let here : x ≡ k = same_tells x k e in
    let hit : same_row k x ≡ true = ap (λ (r : Row). same_row k r) here ∙ same_itself k in
    let rest : List Row = filter (λ y. same_row k y) (filter (other_row x) (distinct xs)) in
    let none : rest ≡ [] =
    filter_both (λ y. same_row k y) (other_row x) (distinct xs)
    ∙ filter_agree (λ y. other_row x y && same_row k y) (λ y. false) (λ y. ap (λ (r : Row). other_row r y && same_row k y) here ∙ never_both (same_row k y)) (distinct xs)
    ∙ filter_never (distinct xs) in
    ap (λ (b : Bool). cond b (x ∷ rest) rest) hit ∙ ap (λ (r : Row). r ∷ rest) here ∙ ap (λ (l : List Row). k ∷ l) none
found_step k x xs false e others =
    let rest : List Row = filter (λ y. same_row k y) (filter (other_row x) (distinct xs)) in
    let apart : (y : Row) (s : Bool) → same_row k y ≡ s → (other_row x y && s) ≡ s = λ y s same. passes y s same in
    ap (λ (b : Bool). cond b (x ∷ rest) rest) (same_turned x k (same_row k x) refl e)
    ∙ filter_both (λ y. same_row k y) (other_row x) (distinct xs)
    ∙ filter_agree (λ y. other_row x y && same_row k y) (λ y. same_row k y) (λ y. apart y (same_row k y) refl) (distinct xs)
    ∙ others
  where
    and_false : (a : Bool) → (a && false) ≡ false
    and_false true = refl
    and_false false = refl

    passes : (y : Row) (s : Bool) → same_row k y ≡ s → (other_row x y && s) ≡ s
    passes y true same = ap (λ (b : Bool). not b && true) (ap (λ (r : Row). same_row x r) (sym (same_tells k y same)) ∙ e)
    passes y false same = and_false (other_row x y)

-- a key stands once where it stands at all
pub found_once : (k : Row) (xs : List Row) → filter (λ y. same_row k y) (distinct xs) ≡ cond (among xs k) (k ∷ []) []
found_once k [] = refl
found_once k (x ∷ xs) = found_step k x xs (same_row x k) refl (found_once k xs)
