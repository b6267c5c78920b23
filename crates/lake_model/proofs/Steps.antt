-- What holds of a chronicle after one statement more.
use Rattle.std.proofs.Common.{◌≡◌, ℕ, ◌<◌, Bool, true, false, nat_eq, List, [], ◌∷◌, ◌++◌, refl, sym, ap, ◌∙◌, subst, arith, inl, inr, eq-eqb, ne_eqb}
use Rattle.std.specs.List.{AllByRecursion, flat_map}
use Rattle.std.proofs.lemmas.List.Elements.{filter-append}
use Rattle.std.proofs.lemmas.List.{map-append, append-nil}
use Rattle.std.proofs.lemmas.Grind.{flat_map-append}
use Rattle.sql_model.specs.declared.scripts.Numbered.{Numbered}
use Rattle.sql_model.specs.declared.scripts.Step.{Step}
use Rattle.sql_model.specs.declared.scripts.Step.TheVariants.{One}
use Rattle.lake_model.specs.State.{State, Noted, state_from, stated, after}
use Rattle.lake_model.specs.Allowed.{IsLegalFrom}
use Rattle.lake_model.specs.Following.{FollowsFrom, IsAnswered, IsRun, IsInOrder, MayFollow, ShareBlock, places, statements, run_at, run_of}
use Rattle.sql_model.specs.Listing.{IsOneOf}
use Rattle.lake_model.specs.Text.{text_from, statement_text, run_text}
use Rattle.sql_model.proofs.Lists.{all_append, all_weaker, all_both, one_of_left, one_of_right}

pub state_append : (st : State) (xs ys : List Noted) → state_from st (xs ++ ys) ≡ state_from (state_from st xs) ys
state_append st [] ys = refl
state_append st (x ∷ xs) ys = state_append (after st x) xs ys

pub stated_append : (st : State) (xs ys : List Noted) → stated st (xs ++ ys) ≡ stated st xs ++ stated (state_from st xs) ys
stated_append st [] ys = refl
stated_append st (x ∷ xs) ys = ap (λ (ps : List (State × Noted)). (st, x) ∷ ps) (stated_append (after st x) xs ys)

pub legal_append : (told : Bool) (st : State) (xs ys : List Noted) → IsLegalFrom told st xs
    → IsLegalFrom told (state_from st xs) ys → IsLegalFrom told st (xs ++ ys)
legal_append told st [] ys xs_legal ys_legal = ys_legal
legal_append told st (x ∷ xs) ys xs_legal ys_legal =
    (xs_legal.0, legal_append told (after st x) xs ys xs_legal.1 ys_legal)

-- entries of other places are none of this one
pub run_at_others : (place : ℕ) (st : State) (xs : List Noted) → AllByRecursion (λ e. nat_eq e.entry.place place ≡ false) xs → run_at place (stated st xs) ≡ []
run_at_others place st [] all = refl
run_at_others place st (x ∷ xs) all = rw all.0 (run_at_others place (after st x) xs all.1)

pub run_at_own : (place : ℕ) (st : State) (xs : List Noted) → AllByRecursion (λ e. nat_eq e.entry.place place ≡ true) xs → run_at place (stated st xs) ≡ stated st xs
run_at_own place st [] all = refl
run_at_own place st (x ∷ xs) all = rw all.0 (ap (λ (ps : List (State × Noted)). (st, x) ∷ ps) (run_at_own place (after st x) xs all.1))

-- a place of one of these statements is below
place_below : (place p : ℕ) (ns : List Numbered) → AllByRecursion (λ n. n.place < place) ns → IsOneOf (places ns) p → p < place
place_below place p [] all h = absurd h
place_below place p (n ∷ ns) all (inl e) = omega (arith, e, all.0)
place_below place p (n ∷ ns) all (inr h) = place_below place p ns all.1 h

module _ (told : Bool) (st : State) (old run : List Noted) (done : List Step) (n : Numbered)
    (follows : FollowsFrom told st old done)
    (below : AllByRecursion (λ m. m.place < n.place) (statements done))
    (answered : IsAnswered told (state_from st old) n run) where
  old_below : AllByRecursion (λ e. e.entry.place < n.place) old
  old_below = all_weaker old (λ e h. place_below n.place e.entry.place (statements done) below h) follows.no_others

  split_at : (place : ℕ)
      → run_of place st (old ++ run) ≡ run_of place st old ++ run_at place
      (stated (state_from st old) run)
  split_at place =
      ap (λ (ps : List (State × Noted)). run_at place ps) (stated_append st old run)
      ∙ filter-append _ (stated st old) (stated (state_from st old) run)

  run_before : (place : ℕ) → place < n.place → run_of place st (old ++ run) ≡ run_of place st old
  run_before place less =
      split_at place
      ∙ ap (λ (ps : List (State × Noted)). run_of place st old ++ ps)
      (run_at_others place (state_from st old) run
      (all_weaker run (λ e own. ne_eqb e.entry.place place (λ same. omega (arith, own, same)))
      answered.own))
      ∙ append-nil (run_of place st old)

  run_now : run_of n.place st (old ++ run) ≡ stated (state_from st old) run
  run_now =
      split_at n.place
      ∙ ap (λ (ps : List (State × Noted)). ps ++ run_at n.place (stated (state_from st old) run))
      (run_at_others n.place st old
      (all_weaker old (λ e less. ne_eqb e.entry.place n.place (λ same. omega (arith, less, same)))
      old_below))
      ∙ run_at_own n.place (state_from st old) run
      (all_weaker run (λ e own. eq-eqb e.entry.place n.place own) answered.own)

  statements_more : statements (done ++ One n ∷ []) ≡ statements done ++ n ∷ []
  statements_more = flat_map-append _ done (One n ∷ [])

  pub legal_more : IsLegalFrom told st old → IsLegalFrom told st (old ++ run)
  legal_more legal = legal_append told st old run legal answered.legal

  runs_more : AllByRecursion (λ m. IsRun told m (run_of m.place st (old ++ run)))
      (statements (done ++ One n ∷ []))
  runs_more =
      let P : List Numbered
      → Type 0 = λ ns. AllByRecursion (λ m. IsRun told m (run_of m.place st (old ++ run))) ns in
      subst P (sym statements_more)
      (all_append _ (statements done) (n ∷ [])
      (all_both (statements done)
      (λ m less right. let R : List (State × Noted)
      → Type 0 = λ ps. IsRun told m ps in subst R (sym (run_before m.place less)) right) below
      follows.runs) (
        (let R : List (State × Noted)
            → Type 0 = λ ps. IsRun told n ps in subst R (sym run_now) answered.right),
        tt,
      ))

  places_more : places (statements (done ++ One n ∷ [])) ≡ places (statements done) ++ n.place ∷ []
  places_more = ap places statements_more ∙ map-append _ (statements done) (n ∷ [])

  no_others_more : AllByRecursion (λ e. IsOneOf (places (statements (done ++ One n ∷ []))) e.entry.place) (old ++ run)
  no_others_more =
      let P : List ℕ → Type 0 = λ ps. AllByRecursion (λ e. IsOneOf ps e.entry.place) (old ++ run) in
      subst P (sym places_more)
      (all_append _ old run
      (all_weaker old (λ e h. one_of_left e.entry.place (places (statements done)) (n.place ∷ []) h) follows.no_others)
      (all_weaker run (λ e own. one_of_right e.entry.place (places (statements done)) (n.place ∷ []) (inl (sym own))) answered.own))

  share_more : (p q : ℕ) (x y : List Step) → ShareBlock x p q → ShareBlock (x ++ y) p q
  share_more p q [] y h = absurd h
  share_more p q (step ∷ x) y (inl h) = inl h
  share_more p q (step ∷ x) y (inr h) = inr (share_more p q x y h)

  may_follow_more : (e f : Noted) → MayFollow done e f → MayFollow (done ++ One n ∷ []) e f
  may_follow_more e f (inl h) = inl h
  may_follow_more e f (inr h) = inr (share_more e.entry.place f.entry.place done (One n ∷ []) h.0, h.1)

  run_in_order : (xs : List Noted) → AllByRecursion (λ e. e.entry.place ≡ n.place) xs → IsInOrder (done ++ One n ∷ []) xs
  run_in_order [] own = tt
  run_in_order (e ∷ es) own = (all_weaker es (λ f h. inl (omega (arith, own.0, h))) own.1, run_in_order es own.1)

  in_order_more : (xs : List Noted) → AllByRecursion (λ e. e.entry.place < n.place) xs → IsInOrder done xs → IsInOrder (done ++ One n ∷ []) (xs ++ run)
  in_order_more [] less order = run_in_order run answered.own
  in_order_more (e ∷ es) less order = (
    all_append _ es run (all_weaker es (λ f h. may_follow_more e f h) order.0) (all_weaker run (λ f own. inl (omega (arith, less.0, own))) answered.own),
    in_order_more es less.1 order.1,
  )

  pub follows_more : FollowsFrom told st (old ++ run) (done ++ One n ∷ [])
  follows_more = record { runs = runs_more; no_others = no_others_more; order = in_order_more old old_below follows.order }

  text_before : (ms : List Numbered) → AllByRecursion (λ m. m.place < n.place) ms
      → flat_map (statement_text st (old ++ run)) ms ≡ flat_map (statement_text st old) ms
  text_before [] less = refl
  text_before (m ∷ ms) less =
      ap (λ (ps : List (State × Noted)). run_text m ps ++ flat_map
      (statement_text st (old ++ run)) ms) (run_before m.place less.0)
      ∙ ap (λ (front : List ℕ). statement_text st old m ++ front) (text_before ms less.1)

  pub text_more : text_from st (old ++ run)
      (done ++ One n ∷ []) ≡ text_from st old done ++ run_text n (stated (state_from st old) run)
  text_more =
      ap (λ (ns : List Numbered). flat_map (statement_text st (old ++ run)) ns) statements_more
      ∙ flat_map-append (statement_text st (old ++ run)) (statements done) (n ∷ [])
      ∙ ap (λ (front : List ℕ). front ++ flat_map (statement_text st (old ++ run)) (n ∷ []))
      (text_before (statements done) below)
      ∙ ap (λ (back : List ℕ). text_from st old done ++ back)
      (append-nil _ ∙ ap (run_text n) run_now)

  -- what the statements before were answered stays
  pub text_kept : text_from st (old ++ run) done ≡ text_from st old done
  text_kept = text_before (statements done) below
