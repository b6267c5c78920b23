-- What a source in memory gives is the front of what it has left.
use Rattle.std.proofs.Common.{ℕ, ◌≡◌, ◌≤◌, ◌+◌, ◌-◌, List, ◌++◌, length, take, drop, sym, ap, ◌∙◌, subst, arith, length-take, length-drop}
use Rattle.std.proofs.lemmas.List.{take-append-drop, drop-drop}
use Rattle.std.proofs.Math.Seq.{take-append_seam, take-length}

-- the end of a list from a place on is as long as what the list has behind that place
pub whole_end : (bytes : List ℕ) (at : ℕ) → take (length bytes - at) (drop at bytes) ≡ drop at bytes
whole_end bytes at =
    subst (λ (k : ℕ). take k (drop at bytes) ≡ drop at bytes) (length-drop at bytes) (take-length (drop at bytes))

pub taken : (bytes front rest : List ℕ) (at n : ℕ) → n ≤ length (drop at bytes) → front ≡ take n (drop at bytes)
    → drop at bytes ≡ take n (front ++ rest) ++ drop (at + n) bytes
taken bytes front rest at n h e =
    let len : length front ≡ n = ap length e ∙ omega (arith, length-take n (drop at bytes)) in
    let same : take n (front ++ rest) ≡ front =
    subst (λ (k : ℕ). take k (front ++ rest) ≡ front) len (take-append_seam front rest) in
    sym (take-append-drop n (drop at bytes)) ∙ ap (λ l. l ++ drop n (drop at bytes)) (sym (same ∙ e))
    ∙ ap (λ l. take n (front ++ rest) ++ l) (drop-drop n at bytes)
