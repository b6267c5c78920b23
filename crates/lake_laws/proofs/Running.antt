-- The open transactions of a catalogue and of a chronicle's state.
use Rattle.std.proofs.Common.{◌≡◌, ◌≢◌, ℕ, Bool, true, false, not, ◌&&◌, ◌||◌, nat_eq, cond, List}
use Rattle.std.proofs.Common.{[], ◌∷◌, None, Some, filter, map, refl, sym, ap, ◌∙◌}
use Rattle.std.proofs.Common.{arith, eq-eqb, if◌then◌else◌}
use Rattle.std.proofs.lemmas.Bool.{eqb-true}
use Rattle.std.proofs.lemmas.List.Elements.{recursion_from_All}
use Rattle.std.proofs.lemmas.List.Folds.{list_any-append}
use Rattle.std.specs.List.{AllByRecursion, list_any}
use Rattle.lake_values.specs.Schemas.{AllDistinct}
use Rattle.sql_model.proofs.Lists.{all_weaker}
use Rattle.sql_model.proofs.Removal.{filter_all}
use Rattle.lake_model.specs.State.{State, Transaction, ended, opened_by, transaction, turned}
use Rattle.lake_model.specs.Laws.{IsSound}
use Rattle.lake_model.proofs.Sound.{opened_all}
use Rattle.write_set_catalog.specs.Catalogs.{Catalogue, with_running, without_running}
use Rattle.write_set_catalog.specs.declared.running.RunningTxn.{RunningTxn}
use Rattle.file_laws.specs.Collector.{open_of}
use Rattle.file_laws.proofs.Some.{any_map}
use Rattle.lake_laws.specs.Standing.{RunningAgrees, is_open_as}

abbrev pub Open : Type 0
Open = ℕ × Transaction

-- the transactions of other sessions
abbrev pub others : ℕ → List Open → List Open
others session os = filter (λ o. not (nat_eq o.0 session)) os

all_before : {X Y : Type 0} (P : Y → Type 0) (f : X → Y) (xs : List X) → AllByRecursion P (map f xs)
    → AllByRecursion (λ x. P (f x)) xs
all_before P f [] all = tt
all_before P f (x ∷ xs) all = (all.0, all_before P f xs all.1)

-- those behind one differ from it
differ : {X : Type 0} (f : X → ℕ) (x : X) (xs : List X) → AllDistinct (map f (x ∷ xs)) →
    AllByRecursion (λ y. nat_eq (f y) (f x) ≡ false) xs
differ f x xs apart =
    all_weaker xs (λ y off. not_same (f y) (f x) off)
    (all_before (λ n. n ≢ f x) f xs (recursion_from_All (λ n. n ≢ f x) (map f xs) apart.0))
  where
    not_same : (a b : ℕ) → a ≢ b → nat_eq a b ≡ false
    not_same a b off = elim (nat_eq a b) as (λ c. nat_eq a b ≡ c → c ≡ false) [
      | true ↦ λ e. absurd (off (eqb-true a b e))
      | false ↦ λ e. refl
    ] refl

-- no transaction of a session is none
none_there : (session : ℕ) (os : List Open) → opened_by session os ≡ None → others session os ≡ os
none_there session [] none = refl
none_there session (o ∷ os) none =
    elim (nat_eq o.0 session) as (λ b. (if b then Some o.1 else opened_by session os) ≡ None → cond
    (not b) (o ∷ others session os) (others session os) ≡ o ∷ os) [
      | true ↦ λ e. absurd cc
      | false ↦ λ e. ap (λ (ps : List Open). o ∷ ps) (none_there session os e)
    ] none

-- the session's one stands before the others
split_off : (q : Open → Bool) (session : ℕ) (t : Transaction) (os : List Open) → AllDistinct
    (map (λ o. o.0) os) → opened_by session os ≡ Some t → ((n : ℕ) → nat_eq n session ≡ true → q
    (n, t) ≡ q (session, t)) → list_any q os ≡ (q (session, t) || list_any q (others session os))
split_off q session t [] apart is same = absurd cc
split_off q session t (o ∷ os) apart is same =
    elim (nat_eq o.0 session) as (λ b. nat_eq o.0 session ≡ b →
    (if b then Some o.1 else opened_by session os) ≡ Some t → (q o || list_any q os) ≡
    (q (session, t) || list_any q (cond (not b) (o ∷ others session os) (others session os)))) [
      | true ↦ λ e is.
          let first : o.1 ≡ t = cc in
          let here : q o ≡ q (session, t) = ap (λ (u : Transaction). q (o.0, u)) first ∙ same o.0 e
          in
          let rest : others session os ≡ os = filter_all (λ o. not (nat_eq o.0 session)) os
          (all_weaker os (λ p off. ap not (other p.0 o.0 session off e))
          (differ (λ (p : Open). p.0) o os apart)) in
          (λ i. here i || list_any q (sym rest i))
      | false ↦ λ e is.
          ap (λ (b : Bool). q o || b) (split_off q session t os apart.1 is same)
          ∙ swap (q o) (q (session, t)) (list_any q (others session os))
    ] refl is
  where
    other : (p o s : ℕ) → nat_eq p o ≡ false → nat_eq o s ≡ true → nat_eq p s ≡ false
    other p o s off e = grind arith

    swap : (a b c : Bool) → (a || (b || c)) ≡ (b || (a || c))
    swap true true c = refl
    swap true false c = refl
    swap false b c = refl

-- the session's transaction is the one with its number
one_number : (session : ℕ) (t : Transaction) (os : List Open) → AllDistinct (map (λ o. o.0) os) →
    AllDistinct (map (λ o. o.1.number) os) → opened_by session os ≡ Some t → AllByRecursion
    (λ o. nat_eq o.0 session ≡ nat_eq o.1.number t.number) os
one_number session t [] sessions numbers is = tt
one_number session t (o ∷ os) sessions numbers is =
    elim (nat_eq o.0 session) as (λ b. nat_eq o.0 session ≡ b →
    (if b then Some o.1 else opened_by session os) ≡ Some t →
    (b ≡ nat_eq o.1.number t.number) × AllByRecursion
    (λ o. nat_eq o.0 session ≡ nat_eq o.1.number t.number) os) [
      | true ↦ λ e is.
          let first : o.1 ≡ t = cc in
          let number : o.1.number ≡ t.number = ap (λ (u : Transaction). u.number) first in (
            sym (eq-eqb o.1.number t.number number),
            both os (differ (λ (p : Open). p.0) o os sessions)
                (differ (λ (p : Open). p.1.number) o os numbers) e number,
          )
      | false ↦ λ e is.
          let off = opened_all (λ u. nat_eq u.number o.1.number ≡ false) session os t
          (differ (λ (p : Open). p.1.number) o os numbers) is in
          (sym (flip t.number o.1.number off), one_number session t os sessions.1 numbers.1 is)
    ] refl is
  where
    flip : (a b : ℕ) → nat_eq a b ≡ false → nat_eq b a ≡ false
    flip a b e = grind arith

    both : (ps : List Open) → AllByRecursion (λ p. nat_eq p.0 o.0 ≡ false) ps → AllByRecursion
        (λ p. nat_eq p.1.number o.1.number ≡ false) ps → nat_eq o.0 session ≡ true → o.1.number ≡
        t.number → AllByRecursion (λ p. nat_eq p.0 session ≡ nat_eq p.1.number t.number) ps
    both [] offs ends e number = tt
    both (p ∷ ps) offs ends e number = (
      other p.0 o.0 session offs.0 e ∙
          sym (ap (λ (n : ℕ). nat_eq p.1.number n) (sym number) ∙ ends.0),
      both ps offs.1 ends.1 e number,
    )
      where
        other : (p o s : ℕ) → nat_eq p o ≡ false → nat_eq o s ≡ true → nat_eq p s ≡ false
        other p o s off e = grind arith

-- one of a list that is this transaction and has another number than this
without_number : (o : RunningTxn) (number : ℕ) (rs : List RunningTxn) → list_any (is_open_as o)
    (filter (λ r. not (nat_eq r.number number)) rs) ≡
    (not (nat_eq o.number number) && list_any (is_open_as o) rs)
without_number o number [] = sym (and_false (not (nat_eq o.number number)))
  where
    and_false : (a : Bool) → (a && false) ≡ false
    and_false true = refl
    and_false false = refl
without_number o number (r ∷ rs) =
    elim (nat_eq r.number number) as
    (λ b. nat_eq r.number number ≡ b → list_any (is_open_as o) (cond
    (not b) (r ∷ filter (λ r. not (nat_eq r.number number)) rs)
    (filter (λ r. not (nat_eq r.number number)) rs)) ≡
    (not (nat_eq o.number number) && (is_open_as o r || list_any (is_open_as o) rs))) [
      | true ↦ λ e. without_number o number rs ∙ gone e
      | false ↦ λ e. ap (λ (b : Bool). is_open_as o r || b) (without_number o number rs) ∙ kept e
    ] refl
  where
    gone : nat_eq r.number number ≡ true → (not (nat_eq o.number number) && list_any (is_open_as o)
        rs) ≡ (not (nat_eq o.number number) && (is_open_as o r || list_any (is_open_as o) rs))
    gone e = elim (nat_eq o.number r.number) as (λ b. nat_eq o.number r.number ≡ b →
        (not (nat_eq o.number number) && list_any (is_open_as o) rs) ≡ (not (nat_eq o.number number)
        && ((b && nat_eq o.snapshot r.snapshot) || list_any (is_open_as o) rs))) [
          | true ↦ λ f. rw (joined o.number r.number number f e) refl
          | false ↦ λ f. refl
        ] refl
      where
        joined : (a b c : ℕ) → nat_eq a b ≡ true → nat_eq b c ≡ true → nat_eq a c ≡ true
        joined a b c f e = grind arith

    kept : nat_eq r.number number ≡ false → (is_open_as o r || (not (nat_eq o.number number) &&
        list_any (is_open_as o) rs)) ≡ (not (nat_eq o.number number) && (is_open_as o r || list_any
        (is_open_as o) rs))
    kept e = elim (nat_eq o.number r.number) as (λ b. nat_eq o.number r.number ≡ b →
        ((b && nat_eq o.snapshot r.snapshot) || (not (nat_eq o.number number) && list_any
        (is_open_as o) rs)) ≡ (not (nat_eq o.number number) &&
        ((b && nat_eq o.snapshot r.snapshot) || list_any (is_open_as o) rs))) [
          | true ↦ λ f. rw (apart o.number r.number number f e) refl
          | false ↦ λ f. refl
        ] refl
      where
        apart : (a b c : ℕ) → nat_eq a b ≡ true → nat_eq b c ≡ false → nat_eq a c ≡ false
        apart a b c f e = grind arith

-- the same of a state's transactions, by their session
without_session : (o : RunningTxn) (session : ℕ) (t : Transaction) (os : List Open) → AllByRecursion
    (λ p. nat_eq p.0 session ≡ nat_eq p.1.number t.number) os → list_any (λ p. is_open_as o
    (open_of p)) (others session os) ≡
    (not (nat_eq o.number t.number) && list_any (λ p. is_open_as o (open_of p)) os)
without_session o session t os all =
    ap (list_any (λ p. is_open_as o (open_of p))) (same os all)
    ∙ sym (any_map (is_open_as o) open_of (filter (λ p. not (nat_eq p.1.number t.number)) os))
    ∙ ap (list_any (is_open_as o)) (mapped os)
    ∙ without_number o t.number (map open_of os)
    ∙ ap (λ (b : Bool). not (nat_eq o.number t.number) && b) (any_map (is_open_as o) open_of os)
  where
    same : (ps : List Open) → AllByRecursion (λ p. nat_eq p.0 session ≡ nat_eq p.1.number t.number)
        ps → others session ps ≡ filter (λ p. not (nat_eq p.1.number t.number)) ps
    same [] all = refl
    same (p ∷ ps) all = λ i. cond (not (all.0 i)) (p ∷ same ps all.1 i) (same ps all.1 i)

    mapped : (ps : List Open) → map open_of (filter (λ p. not (nat_eq p.1.number t.number)) ps) ≡
        filter (λ r. not (nat_eq r.number t.number)) (map open_of ps)
    mapped [] = refl
    mapped (p ∷ ps) = elim (nat_eq p.1.number t.number) as (λ b. map open_of (cond (not b)
        (p ∷ filter (λ p. not (nat_eq p.1.number t.number)) ps)
        (filter (λ p. not (nat_eq p.1.number t.number)) ps)) ≡ cond (not b) (open_of p ∷ filter
        (λ r. not (nat_eq r.number t.number)) (map open_of ps))
        (filter (λ r. not (nat_eq r.number t.number)) (map open_of ps))) [
          | true ↦ mapped ps
          | false ↦ ap (λ (rs : List RunningTxn). open_of p ∷ rs) (mapped ps)
        ]

-- a transaction goes on
pub running_turned : (c : Catalogue) (st : State) (session : ℕ) (t t' : Transaction) → IsSound st →
    RunningAgrees c st → transaction st session ≡ Some t → t'.number ≡ t.number → t'.snapshot ≡
    t.snapshot → RunningAgrees c (turned session t' st)
running_turned c st session t t' sound was opened number snapshot o =
    let q : Open → Bool = λ p. is_open_as o (open_of p) in
    let first : q (session, t) ≡ q (session, t') =
    (λ i. nat_eq o.number (sym number i) && nat_eq o.snapshot (sym snapshot i)) in
    was o
    ∙ any_map (is_open_as o) open_of st.running
    ∙ split_off q session t st.running sound.sessions opened (λ n e. refl)
    ∙ ap (λ (b : Bool). b || list_any q (others session st.running)) first
    ∙ sym (any_map (is_open_as o) open_of ((session, t') ∷ others session st.running))

-- ends
pub running_ended : (c : Catalogue) (st : State) (session : ℕ) (t : Transaction) → IsSound st →
    RunningAgrees c st → transaction st session ≡ Some t → RunningAgrees
    (without_running t.number c)
    (ended session st)
running_ended c st session t sound was opened o =
    let q : Open → Bool = λ p. is_open_as o (open_of p) in
    without_number o t.number c.running
    ∙ ap (λ (b : Bool). not (nat_eq o.number t.number) && b)
    (was o ∙ any_map (is_open_as o) open_of st.running)
    ∙ sym (without_session o session t st.running
    (one_number session t st.running sound.sessions sound.numbers opened))
    ∙ sym (any_map (is_open_as o) open_of (others session st.running))

-- or there was none
pub running_none : (c : Catalogue) (st : State) (session : ℕ) → RunningAgrees c st → transaction st
    session ≡ None → RunningAgrees c (ended session st)
running_none c st session was none o =
    was o ∙ ap (λ (os : List Open). list_any (is_open_as o) (map open_of os))
    (sym (none_there session st.running none))

-- or begins
pub running_began : (c : Catalogue) (st : State) (session number : ℕ) (t : Transaction) →
    RunningAgrees c st → transaction st session ≡ None → RunningAgrees
    (with_running (open_of (session, t)) c)
    (record (turned session t st) { last_number = number })
running_began c st session number t was none o =
    let q : Open → Bool = λ p. is_open_as o (open_of p) in
    list_any-append (is_open_as o) c.running (open_of (session, t) ∷ [])
    ∙ ap (λ (b : Bool). b || (q (session, t) || false)) (was o)
    ∙ turn (list_any (is_open_as o) (map open_of st.running)) (q (session, t))
    ∙ ap (λ (os : List Open). q (session, t) || list_any (is_open_as o) (map open_of os))
    (sym (none_there session st.running none))
  where
    turn : (a b : Bool) → (a || (b || false)) ≡ (b || a)
    turn true true = refl
    turn true false = refl
    turn false true = refl
    turn false false = refl
