-- Ports that are taken out of a list and put back.
use Rattle.std.proofs.Common.{◌≡◌, ℕ, ◌<◌, ◌≤◌, ◌^◌, List, [], ◌∷◌, ◌++◌, length, get_or, refl, sym, ap, ◌∙◌, subst, arith, append_assoc}
use Rattle.std.specs.List.{remove}
use Rattle.std.proofs.lemmas.List.{length-map, map-append, with_items_is}
use Rattle.std.specs.Global.{Vec, Global}
use Rattle.std.specs.Vec.{vec_capacity, vec_ptr, with_items}
use native.Mathlib.Nat.{ℕ_set}
use native.Mathlib.Bridge.{le_prop}
use mathlib.Core.HLevel.{×_prop}
use denote.RawPtr.{Ptr}
use Rattle.lake_session.specs.Sessions.{SessionSeen}
use Rattle.lake_script.specs.Sessions.{ports_of, with_lent}

module _ {X : Type 0} where
  pub nothing_lent : (ports : List X) → with_lent ports [] ≡ ports
  nothing_lent [] = refl
  nothing_lent (p ∷ ports) = refl

  lends_next : (ports lent : List X) (x : X) → 1 < length ports → x ≡ get_or ports 1 x → with_lent (remove ports 1) (lent ++ x ∷ []) ≡ with_lent ports lent
  lends_next [] lent x h is = absurd (omega arith)
  lends_next (p ∷ []) lent x h is = absurd (omega arith)
  lends_next (p ∷ q ∷ ports) lent x h is = ap (λ (xs : List X). p ∷ xs) (append_assoc lent (x ∷ []) ports ∙ ap (λ (y : X). lent ++ y ∷ ports) is)

  -- one port more is a session's
  pub lends_one : (ports left : List X) (ss more : List (SessionSeen X)) (s : SessionSeen X) (x : X) → 1 < length ports → left ≡ remove ports 1 → x ≡ get_or ports 1 x → s.port ≡ x → more ≡ ss ++ s ∷ [] →
      with_lent left (ports_of more) ≡ with_lent ports (ports_of ss)
  lends_one ports left ss more s x h left_is x_is port_is more_is =
      let lent_is : ports_of more ≡ ports_of ss ++ x ∷ [] = ap ports_of more_is ∙ map-append (λ (s : SessionSeen X). s.port) ss (s ∷ []) ∙ ap (λ (y : X). ports_of ss ++ y ∷ []) port_is in
      ap (λ (xs : List X). with_lent xs (ports_of more)) left_is ∙ ap (λ (ys : List X). with_lent (remove ports 1) ys) lent_is ∙ lends_next ports (ports_of ss) x h x_is

  -- sessions that keep their ports have the same to give back
  pub returns_all : (sessions : Vec (SessionSeen X)) (after : List (SessionSeen X)) (ports : List X) → ports_of after ≡ ports_of sessions.items →
      with_lent ports (ports_of (with_items sessions after).items) ≡ with_lent ports (ports_of sessions.items)
  returns_all sessions after ports kept =
      let length_is : length after ≡ sessions.len = sym (length-map after _) ∙ ap length kept ∙ length-map sessions.items _ ∙ sym sessions.ok.0 in
      ap (λ (ss : List (SessionSeen X)). with_lent ports (ports_of ss)) (with_items_is sessions after length_is) ∙ ap (λ (ps : List X). with_lent ports ps) kept

  same_proofs : (ptr : Ptr) (n capacity : ℕ) (alloc : Global) (xs : List X) (ok other_ok : (n ≡ length xs) × (n ≤ capacity)) (small other_small : capacity < 2 ^ 63) →
      ◌≡◌ {A = Vec X} (record { ptr = ptr; len = n; cap = capacity; alloc = alloc; items = xs; ok = ok; small = small }) (record { ptr = ptr; len = n; cap = capacity; alloc = alloc; items = xs; ok = other_ok; small = other_small })
  same_proofs ptr n capacity alloc xs ok other_ok small other_small =
      λ i. record { ptr = ptr; len = n; cap = capacity; alloc = alloc; items = xs; ok = ×_prop (ℕ_set _ _) le_prop ok other_ok i; small = le_prop small other_small i }

  -- a Vec is its block and its elements
  pub same_vec : (v w : Vec X) → vec_ptr v ≡ vec_ptr w → vec_capacity v ≡ vec_capacity w → v.items ≡ w.items → v ≡ w
  same_vec v w same_ptr same_capacity same_items =
      let same_len : v.len ≡ w.len = v.ok.0 ∙ ap length same_items ∙ sym w.ok.0 in
      let P : Ptr × (ℕ × (ℕ × List X)) → Type 0 = λ t. (ok : (t.1.0 ≡ length t.1.1.1) × (t.1.0 ≤ t.1.1.0)) (small : t.1.1.0 < 2 ^ 63) →
      v ≡ record { ptr = t.0; len = t.1.0; cap = t.1.1.0; alloc = v.alloc; items = t.1.1.1; ok = ok; small = small } in
      subst P (λ i. (same_ptr i, (same_len i, (same_capacity i, same_items i)))) (λ ok small. same_proofs v.ptr v.len v.cap v.alloc v.items v.ok ok v.small small) w.ok w.small
