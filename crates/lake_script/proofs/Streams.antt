-- What is known of the bytes of sources and sinks after several calls.
use Rattle.std.proofs.Common.{◌≡◌, ℕ, List, [], ◌++◌, Option, None, Some, ◌+◌, take, drop, subst, sym, ap, ◌∙◌, append_assoc}
use Rattle.std.proofs.Math.Seq.{take-add}
use Rattle.std.proofs.lemmas.List.{append-nil}
use Rattle.std.specs.Io.KnownBytes.{Consumes, Appends, Keeps}

pub consumes_more : (a b c : Option (List ℕ)) (xs ys : List ℕ) → Consumes a b xs → Consumes b c ys → Consumes a c (xs ++ ys)
consumes_more None b c xs ys p q = tt
consumes_more (Some as_) None c xs ys p q = absurd p
consumes_more (Some as_) (Some bs) None xs ys p q = absurd q
consumes_more (Some as_) (Some bs) (Some cs) xs ys p q = p ∙ ap (λ (zs : List ℕ). xs ++ zs) q ∙ sym (append_assoc xs ys cs)

pub consumes_kept : (a b c : Option (List ℕ)) (xs : List ℕ) → Consumes a b xs → Keeps b c → Consumes a c xs
consumes_kept None b c xs p q = tt
consumes_kept (Some as_) None c xs p q = absurd p
consumes_kept (Some as_) (Some bs) None xs p q = absurd q
consumes_kept (Some as_) (Some bs) (Some cs) xs p q = p ∙ ap (λ (zs : List ℕ). xs ++ zs) (sym q)

pub appends_more : (a b c : Option (List ℕ)) (xs ys : List ℕ) → Appends a b xs → Appends b c ys → Appends a c (xs ++ ys)
appends_more None b c xs ys p q = tt
appends_more (Some as_) None c xs ys p q = absurd p
appends_more (Some as_) (Some bs) None xs ys p q = absurd q
appends_more (Some as_) (Some bs) (Some cs) xs ys p q = q ∙ ap (λ (zs : List ℕ). zs ++ ys) p ∙ append_assoc as_ xs ys

pub appends_kept : (a b c : Option (List ℕ)) (xs : List ℕ) → Appends a b xs → Keeps b c → Appends a c xs
appends_kept None b c xs p q = tt
appends_kept (Some as_) None c xs p q = absurd p
appends_kept (Some as_) (Some bs) None xs p q = absurd q
appends_kept (Some as_) (Some bs) (Some cs) xs p q = q ∙ p

pub appends_taken : (a b c : Option (List ℕ)) (n m : ℕ) (bytes rest : List ℕ) → rest ≡ drop n bytes → Appends a b (take n bytes) → Appends b c (take m rest) → Appends a c (take (n + m) bytes)
appends_taken a b c n m bytes rest e p q =
    let P : List ℕ → Type 0 = λ xs. Appends a c xs in
    let Q : List ℕ → Type 0 = λ xs. Appends b c (take m xs) in
    subst P (sym (take-add n m bytes)) (appends_more a b c (take n bytes) (take m (drop n bytes)) p (subst Q e q))

pub appends_none : (a : Option (List ℕ)) → Appends a a []
appends_none None = tt
appends_none (Some as_) = sym (append-nil as_)
