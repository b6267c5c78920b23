-- Facts on the members of lists, by recursion.
use Rattle.std.proofs.Common.{Bool, true, false, cond, List, [], ◌∷◌, ◌++◌, filter, inl, inr}
use Rattle.std.specs.List.{AllByRecursion}
use Rattle.sql_model.specs.Listing.{IsOneOf}

pub all_append : {X : Type 0} (P : X → Type 0) (xs ys : List X) → AllByRecursion P xs → AllByRecursion P ys → AllByRecursion P (xs ++ ys)
all_append P [] ys all more = more
all_append P (x ∷ xs) ys all more = (all.0, all_append P xs ys all.1 more)

pub all_parts : {X : Type 0} (P : X → Type 0) (xs ys : List X) → AllByRecursion P (xs ++ ys) → AllByRecursion P xs × AllByRecursion P ys
all_parts P [] ys all = (tt, all)
all_parts P (x ∷ xs) ys all = let both = all_parts P xs ys all.1 in ((all.0, both.0), both.1)

pub all_filter : {X : Type 0} (P : X → Type 0) (q : X → Bool) (xs : List X) → AllByRecursion P xs → AllByRecursion P (filter q xs)
all_filter P q [] all = tt
all_filter P q (x ∷ xs) all =
    elim (q x) as (λ b. AllByRecursion P (cond b (x ∷ filter q xs) (filter q xs))) [ true ↦ (all.0, all_filter P q xs all.1) | false ↦ all_filter P q xs all.1 ]

pub all_weaker : {X : Type 0} {P Q : X → Type 0} (xs : List X) → ((x : X) → P x → Q x) → AllByRecursion P xs → AllByRecursion Q xs
all_weaker [] f all = tt
all_weaker (x ∷ xs) f all = (f x all.0, all_weaker xs f all.1)

pub all_both : {X : Type 0} {P Q R : X → Type 0} (xs : List X) → ((x : X) → P x → Q x → R x) → AllByRecursion P xs → AllByRecursion Q xs → AllByRecursion R xs
all_both [] f ps qs = tt
all_both (x ∷ xs) f ps qs = (f x ps.0 qs.0, all_both xs f ps.1 qs.1)

pub one_of_left : {X : Type 0} (x : X) (xs ys : List X) → IsOneOf xs x → IsOneOf (xs ++ ys) x
one_of_left x [] ys h = absurd h
one_of_left x (z ∷ xs) ys (inl e) = inl e
one_of_left x (z ∷ xs) ys (inr h) = inr (one_of_left x xs ys h)

pub one_of_right : {X : Type 0} (x : X) (xs ys : List X) → IsOneOf ys x → IsOneOf (xs ++ ys) x
one_of_right x [] ys h = h
one_of_right x (z ∷ xs) ys h = inr (one_of_right x xs ys h)
