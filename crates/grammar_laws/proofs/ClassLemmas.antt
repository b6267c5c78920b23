-- What the tests of lists of classes tell.
use Rattle.std.proofs.Common.{◌≡◌, ◌⊎◌, inl, inr, refl, sym, ◌∙◌, ap, ◌&&◌, ◌||◌, Bool, true, false, List, [], ◌∷◌, ◌++◌, Option, Some, None, is_none}
use Rattle.std.specs.List.{list_any, list_all}
use Rattle.grammar_laws.specs.Grammars.{Words}
use Rattle.grammar_laws.specs.Prediction.{Classes, is_among, begins, all_apart, all_in}

pub both_hold : (a b : Bool) → (a && b) ≡ true → (a ≡ true) × (b ≡ true)
both_hold true b h = (refl, h)
both_hold false b h = cc

pub one_holds : (a b : Bool) → (a || b) ≡ true → (a ≡ true) ⊎ (b ≡ true)
one_holds true b h = inl refl
one_holds false b h = inr h

pub is_true_or_false : (b : Bool) → (b ≡ true) ⊎ (b ≡ false)
is_true_or_false true = inl refl
is_true_or_false false = inr refl

pub not_both : {P : Type 0} (b : Bool) → b ≡ true → b ≡ false → P
not_both b s t = absurd cc

pub the_none : {A : Type 0} (o : Option A) → is_none o ≡ true → o ≡ None
the_none (Some x) h = absurd cc
the_none None h = refl

pub or_second : (b c : Bool) → c ≡ true → (b || c) ≡ true
or_second true c h = refl
or_second false c h = h

-- a token among the first classes, or the second
pub among_front : (W : Words) (cs ds : List W.Class) (t : W.Token) → is_among W cs t ≡ true → is_among W (cs ++ ds) t ≡ true
among_front W [] ds t h = absurd cc
among_front W (c ∷ cs) ds t h = elim (one_holds _ _ h) [ inl e ↦ ap (λ b. b || is_among W (cs ++ ds) t) e | inr e ↦ or_second (W.is_of c t) _ (among_front W cs ds t e) ]

pub among_back : (W : Words) (cs ds : List W.Class) (t : W.Token) → is_among W ds t ≡ true → is_among W (cs ++ ds) t ≡ true
among_back W [] ds t h = h
among_back W (c ∷ cs) ds t h = or_second (W.is_of c t) _ (among_back W cs ds t h)

pub among_either : (W : Words) (cs ds : List W.Class) (t : W.Token) → is_among W (cs ++ ds) t ≡ true → (is_among W cs t ≡ true) ⊎ (is_among W ds t ≡ true)
among_either W [] ds t h = inr h
among_either W (c ∷ cs) ds t h = elim (one_holds _ _ h) [
  | inl e ↦ inl (ap (λ b. b || is_among W cs t) e)
  | inr e ↦ elim (among_either W cs ds t e) [ inl f ↦ inl (or_second (W.is_of c t) _ f) | inr f ↦ inr f ]
]

pub among_one : (W : Words) (c : W.Class) (t : W.Token) → is_among W (c ∷ []) t ≡ true → W.is_of c t ≡ true
among_one W c t h = elim (one_holds _ _ h) [ inl e ↦ e | inr e ↦ absurd cc ]

pub one_among : (W : Words) (c : W.Class) (t : W.Token) → W.is_of c t ≡ true → is_among W (c ∷ []) t ≡ true
one_among W c t h = ap (λ b. b || false) h

not_true : (b : Bool) → (b ≡ true → ⊥) → b ≡ false
not_true true h = absurd (h refl)
not_true false h = refl

-- what begins with none of the classes begins with none of a part of them
pub begins_none : (W : Words) (cs ds : List W.Class) (ts : List W.Token) → begins W (cs ++ ds) ts ≡ false → (begins W cs ts ≡ false) × (begins W ds ts ≡ false)
begins_none W cs ds [] h = (refl, refl)
begins_none W cs ds (t ∷ ts) h = (not_true _ (λ e. not_both _ (among_front W cs ds t e) h), not_true _ (λ e. not_both _ (among_back W cs ds t e) h))

apart_from : {W : Words} (K : Classes W) (c : W.Class) (ds : List W.Class) (t : W.Token) → list_all (λ d. K.apart c d) ds ≡ true → is_among W ds t ≡ true
    → W.is_of c t ≡ false
apart_from K c [] t h e = absurd cc
apart_from {W} K c (d ∷ ds) t h e = let a : (K.apart c d ≡ true) × (list_all (λ d. K.apart c d) ds ≡ true) = both_hold _ _ h in
    elim (one_holds _ _ e) [ inl f ↦ not_true _ (λ g. not_both _ f (K.apart_is c d t a.0 g)) | inr f ↦ apart_from K c ds t a.1 f ]

-- a token of the second classes is none of the first, where these are apart
pub none_of_both : {W : Words} (K : Classes W) (cs ds : List W.Class) (t : W.Token) → all_apart K cs ds ≡ true → is_among W ds t ≡ true → is_among W cs t ≡ false
none_of_both K [] ds t h e = refl
none_of_both {W} K (c ∷ cs) ds t h e = let a : (list_all (λ d. K.apart c d) ds ≡ true) × (all_apart K cs ds ≡ true) = both_hold _ _ h in
    ap (λ b. b || is_among W cs t) (apart_from K c ds t a.0 e) ∙ none_of_both K cs ds t a.1 e

one_in : {W : Words} (K : Classes W) (c : W.Class) (ds : List W.Class) (t : W.Token) → list_any (λ d. K.same c d) ds ≡ true → W.is_of c t ≡ true → is_among W ds t ≡ true
one_in K c [] t h e = absurd cc
one_in {W} K c (d ∷ ds) t h e = elim (one_holds _ _ h) [
  | inl f ↦ ap (λ b. b || is_among W ds t) (ap (λ (x : W.Class). W.is_of x t) (sym (K.same_is c d f)) ∙ e)
  | inr f ↦ or_second (W.is_of d t) _ (one_in K c ds t f e)
]

among_in : {W : Words} (K : Classes W) (cs ds : List W.Class) (t : W.Token) → all_in K cs ds ≡ true → is_among W cs t ≡ true → is_among W ds t ≡ true
among_in K [] ds t h e = absurd cc
among_in {W} K (c ∷ cs) ds t h e = let a : (list_any (λ d. K.same c d) ds ≡ true) × (all_in K cs ds ≡ true) = both_hold _ _ h in
    elim (one_holds _ _ e) [ inl f ↦ one_in K c ds t a.0 f | inr f ↦ among_in K cs ds t a.1 f ]

-- what begins with none of the second classes begins with none of the first, where these stand in the second
pub begins_none_in : {W : Words} (K : Classes W) (cs ds : List W.Class) (ts : List W.Token) → all_in K cs ds ≡ true → begins W ds ts ≡ false → begins W cs ts ≡ false
begins_none_in K cs ds [] h e = refl
begins_none_in {W} K cs ds (t ∷ ts) h e = not_true _ (λ f. not_both _ (among_in K cs ds t h f) e)
