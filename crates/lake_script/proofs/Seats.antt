-- The sessions of a script by their places.
use Rattle.std.proofs.Common.{◌≡◌, ℕ, zero, suc, ◌+◌, ◌-◌, ◌<◌, false, List, [], ◌∷◌, ◌++◌, length, get_or, sym, ap, ◌∙◌, subst, arith}
use Rattle.std.specs.Prelude.{slice_set}
use Rattle.sql_model.specs.declared.scripts.Numbered.{Numbered}
use Rattle.lake_session.specs.Sessions.{SessionSeen}
use Rattle.lake_script.specs.Scripts.{IsRunnable}
use Rattle.lake_script.specs.Sessions.{AreSeated, ports_of}

module _ {P : Type 0} where
  number_at : (number : ℕ) (ss : List (SessionSeen P)) (place : ℕ) (d : SessionSeen P) → AreSeated number ss → place < length ss → (get_or ss place d).number ≡ number + place
  number_at number [] place d seated h = absurd (omega arith)
  number_at number (s ∷ ss) zero d seated h = omega (arith, seated.0)
  number_at number (s ∷ ss) (suc place) d seated h = let there = number_at (number + 1) ss place d seated.2 (omega arith) in omega (arith, there)

  unspent_at : (number : ℕ) (ss : List (SessionSeen P)) (place : ℕ) (d : SessionSeen P) → AreSeated number ss → place < length ss → (get_or ss place d).spent ≡ false
  unspent_at number [] place d seated h = absurd (omega arith)
  unspent_at number (s ∷ ss) zero d seated h = seated.1
  unspent_at number (s ∷ ss) (suc place) d seated h = unspent_at (number + 1) ss place d seated.2 (omega arith)

  one_seated : (number : ℕ) (ss : List (SessionSeen P)) (s : SessionSeen P) → AreSeated number ss → s.number ≡ number + length ss → s.spent ≡ false → AreSeated number (ss ++ s ∷ [])
  one_seated number [] s seated is unspent = (omega (arith, is), unspent, tt)
  one_seated number (t ∷ ss) s seated is unspent = (seated.0, seated.1, one_seated (number + 1) ss s seated.2 (omega (arith, is)) unspent)

  pub seats_one : (ss more : List (SessionSeen P)) (s : SessionSeen P) → AreSeated 1 ss → s.number ≡ 1 + length ss → s.spent ≡ false → more ≡ ss ++ s ∷ [] → AreSeated 1 more
  seats_one ss more s seated is unspent more_is = subst (AreSeated 1) (sym more_is) (one_seated 1 ss s seated is unspent)

  set_kept : (ss : List (SessionSeen P)) (place : ℕ) (s d : SessionSeen P) → place < length ss → s ≡ get_or ss place d → slice_set ss place s ≡ ss
  set_kept [] place s d h same = absurd (omega arith)
  set_kept (t ∷ ss) zero s d h same = ap (λ (u : SessionSeen P). u ∷ ss) same
  set_kept (t ∷ ss) (suc place) s d h same = ap (λ (us : List (SessionSeen P)). t ∷ us) (set_kept ss place s d (omega arith) same)

  set_ports : (ss : List (SessionSeen P)) (place : ℕ) (s d : SessionSeen P) → place < length ss → s.port ≡ (get_or ss place d).port → ports_of (slice_set ss place s) ≡ ports_of ss
  set_ports [] place s d h same = absurd (omega arith)
  set_ports (t ∷ ss) zero s d h same = ap (λ (p : P). p ∷ ports_of ss) same
  set_ports (t ∷ ss) (suc place) s d h same = ap (λ (ps : List P). t.port ∷ ps) (set_ports ss place s d (omega arith) same)

  -- the session of a statement, among the sixteen as they were at first
  module _ (ss first : List (SessionSeen P)) (n : Numbered) (d : SessionSeen P) (same : ss ≡ first) (all : length first ≡ 16) (runnable : IsRunnable n) where
    within : n.session - 1 < length ss
    within = let length_is = ap length same in omega (arith, length_is, all, runnable.some, runnable.at_most)

    pub is_own : AreSeated 1 first → (get_or ss (n.session - 1) d).number ≡ n.session
    is_own seated = let there = number_at 1 ss (n.session - 1) d (subst (AreSeated 1) (sym same) seated) within in omega (arith, there, runnable.some)

    pub is_unspent : AreSeated 1 first → (get_or ss (n.session - 1) d).spent ≡ false
    is_unspent seated = unspent_at 1 ss (n.session - 1) d (subst (AreSeated 1) (sym same) seated) within

    pub sessions_kept : (s : SessionSeen P) → s ≡ get_or ss (n.session - 1) d → slice_set ss (n.session - 1) s ≡ first
    sessions_kept s kept = set_kept ss (n.session - 1) s d within kept ∙ same

    pub ports_kept : (s : SessionSeen P) → s.port ≡ (get_or ss (n.session - 1) d).port → ports_of (slice_set ss (n.session - 1) s) ≡ ports_of first
    ports_kept s kept = set_ports ss (n.session - 1) s d within kept ∙ ap ports_of same
