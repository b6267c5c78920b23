-- The text of a script without blocks follows from the script, where nothing fails.
use Rattle.std.proofs.Common.{◌≡◌, ℕ, ◌<◌, ◌≤◌, true, false, List, [], ◌∷◌, ◌++◌, None, Option, flat_map, refl, sym, ap, ◌∙◌, subst, inl, inr, arith, eq-eqb, ne_eqb}
use Rattle.std.specs.List.{AllByRecursion, list_all}
use Rattle.std.specs.Option.{option_map_or}
use Rattle.std.proofs.lemmas.List.Elements.{filter-append}
use Rattle.std.proofs.lemmas.List.{append-nil}
use Rattle.lake_model.specs.declared.entries.Fact.{Fact}
use Rattle.sql_model.specs.declared.replies.Reply.{Reply}
use Rattle.sql_model.specs.declared.scripts.Numbered.{Numbered}
use Rattle.sql_model.specs.declared.scripts.Step.{Step}
use Rattle.sql_model.specs.declared.scripts.Step.TheVariants.{One, Parallel}
use Rattle.lake_model.specs.Allowed.{IsLegalFrom}
use Rattle.sql_model.specs.Listing.{IsOneOf}
use Rattle.lake_model.specs.Following.{IsRun, IsInOrder, MayFollow, ShareBlock, places, statements, run_at}
use Rattle.lake_model.specs.Laws.{is_one, HaveAscendingPlaces, IsSerial, IsSuccess, OneText}
use Rattle.lake_model.specs.Replies.{text_of_reply}
use Rattle.lake_model.specs.State.{State, Noted, opening, after, state_from, stated}
use Rattle.lake_model.specs.Text.{reply_from, run_text, text}
use Rattle.sql_model.proofs.Lists.{all_weaker, all_both, all_parts}
use Rattle.lake_model.proofs.RightAnswers.{bare_state}
use Rattle.lake_model.proofs.RightRuns.{right_run, run_right, bare_facts, IsSure, all_next, state_right, reply_right}
use Rattle.lake_model.proofs.Steps.{stated_append, run_at_others, run_at_own}

-- the text of a script's statements, from a state without names on
abbrev right_text : State → List Numbered → List ℕ
right_text st [] = []
right_text st (n ∷ ns) = option_map_or (text_of_reply n.place) (reply_from n.statement None (right_run st n)) [] ++ right_text (all_next n.session (right_run st n) st) ns

abbrev texts_from : State → List Noted → List Numbered → List ℕ
texts_from st es ns = flat_map (λ n. run_text n (run_at n.place (stated st es))) ns

abbrev Ascend : List Noted → Type 0
Ascend [] = Unit {0}
Ascend (e ∷ es) = AllByRecursion (λ f. e.entry.place ≤ f.entry.place) es × Ascend es

-- the entries follow the statements from a state on
record FollowFrom (st : State) (ns : List Numbered) (es : List Noted) : Type 0 where
  runs : AllByRecursion (λ n. IsRun true n (run_at n.place (stated st es))) ns
  no_others : AllByRecursion (λ e. IsOneOf (places ns) e.entry.place) es
  order : Ascend es
  legal : IsLegalFrom true st es
  sure : AllByRecursion IsSure es

-- the entries at a place in front, and those at the places behind it
record Parts (place : ℕ) (behind : List ℕ) (es : List Noted) : Type 0 where
  now : List Noted
  later : List Noted
  whole : es ≡ now ++ later
  own : AllByRecursion (λ e. e.entry.place ≡ place) now
  others : AllByRecursion (λ e. IsOneOf behind e.entry.place) later

place_above : (place p : ℕ) (ns : List Numbered) → AllByRecursion (λ n. place < n.place) ns → IsOneOf (places ns) p → place < p
place_above place p [] all h = absurd h
place_above place p (n ∷ ns) all (inl e) = omega (arith, e, all.0)
place_above place p (n ∷ ns) all (inr h) = place_above place p ns all.1 h

module _ (place : ℕ) (ns : List Numbered) (above : AllByRecursion (λ n. place < n.place) ns) where
  not_here : (e f : Noted) → IsOneOf (places ns) e.entry.place → e.entry.place ≤ f.entry.place → IsOneOf (place ∷ places ns) f.entry.place → IsOneOf (places ns) f.entry.place
  not_here e f behind less (inl same) = absurd (omega (arith, place_above place e.entry.place ns above behind, less, same))
  not_here e f behind less (inr h) = h

  parted : (e : Noted) (es : List Noted) → AllByRecursion (λ f. e.entry.place ≤ f.entry.place) es → AllByRecursion (λ f. IsOneOf (place ∷ places ns) f.entry.place) es → IsOneOf (place ∷ places ns) e.entry.place
      → Parts place (places ns) es → Parts place (places ns) (e ∷ es)
  parted e es less all (inl same) parts = record {
    now = e ∷ parts.now;
    later = parts.later;
    whole = ap (λ (fs : List Noted). e ∷ fs) parts.whole;
    own = (sym same, parts.own);
    others = parts.others;
  }
  parted e es less all (inr behind) parts = record {
    now = [];
    later = e ∷ es;
    whole = refl;
    own = tt;
    others = (behind, all_both es (λ f a b. not_here e f behind a b) less all);
  }

  parts_of : (es : List Noted) → Ascend es → AllByRecursion (λ f. IsOneOf (place ∷ places ns) f.entry.place) es → Parts place (places ns) es
  parts_of [] order all = record { now = []; later = []; whole = refl; own = tt; others = tt }
  parts_of (e ∷ es) order all = parted e es order.0 all.1 all.0 (parts_of es order.1 all.1)

ascend_right : (xs ys : List Noted) → Ascend (xs ++ ys) → Ascend ys
ascend_right [] ys order = order
ascend_right (x ∷ xs) ys order = ascend_right xs ys order.1

legal_parts : (st : State) (xs ys : List Noted) → IsLegalFrom true st (xs ++ ys)
    → IsLegalFrom true st xs × IsLegalFrom true (state_from st xs) ys
legal_parts st [] ys legal = (tt, legal)
legal_parts st (x ∷ xs) ys legal = let both = legal_parts (after st x) xs ys legal.1 in ((legal.0, both.0), both.1)

module _ (n : Numbered) (ns : List Numbered) (above : AllByRecursion (λ m. n.place < m.place) ns) (st : State) (now later : List Noted)
    (own : AllByRecursion (λ e. e.entry.place ≡ n.place) now) (others : AllByRecursion (λ e. IsOneOf (places ns) e.entry.place) later) (follow : FollowFrom st (n ∷ ns) (now ++ later)) where
  behind : State
  behind = state_from st now

  run_parts : (place : ℕ) → run_at place (stated st (now ++ later)) ≡ run_at place (stated st now) ++ run_at place (stated (state_from st now) later)
  run_parts place = ap (λ (ps : List (State × Noted)). run_at place ps) (stated_append st now later) ∙ filter-append _ (stated st now) (stated (state_from st now) later)

  run_now : run_at n.place (stated st (now ++ later)) ≡ stated st now
  run_now =
      run_parts n.place
      ∙ ap (λ (ps : List (State × Noted)). run_at n.place (stated st now) ++ ps)
      (run_at_others n.place (state_from st now) later (all_weaker later (λ e h. ne_eqb e.entry.place n.place (λ same. omega (arith, place_above n.place e.entry.place ns above h, same))) others))
      ∙ append-nil _
      ∙ run_at_own n.place st now (all_weaker now (λ e h. eq-eqb e.entry.place n.place h) own)

  run_later : (place : ℕ) → n.place < place → run_at place (stated st (now ++ later)) ≡ run_at place (stated (state_from st now) later)
  run_later place less =
      run_parts place
      ∙ ap (λ (ps : List (State × Noted)). ps ++ run_at place (stated (state_from st now) later))
      (run_at_others place st now (all_weaker now (λ e h. ne_eqb e.entry.place place (λ same. omega (arith, h, same, less))) own))

  legal_both : IsLegalFrom true st now × IsLegalFrom true (state_from st now) later
  legal_both = legal_parts st now later follow.legal

  sure_both : AllByRecursion IsSure now × AllByRecursion IsSure later
  sure_both = all_parts IsSure now later follow.sure

  follow_later : FollowFrom (state_from st now) ns later
  follow_later = record {
    runs = all_both ns (λ m less right. let R : List (State × Noted) → Type 0 =
        λ ps. IsRun true m ps in subst R (run_later m.place less) right) above follow.runs.1;
    no_others = others;
    order = ascend_right now later follow.order;
    legal = legal_both.1;
    sure = sure_both.1;
  }

  run_is : IsRun true n (stated st now)
  run_is = let R : List (State × Noted) → Type 0 =
      λ ps. IsRun true n ps in subst R run_now follow.runs.0

  facts_are : bare_facts now ≡ right_run (bare_state st) n
  facts_are = run_right st n now legal_both.0 run_is sure_both.0

  text_now : run_text n (run_at n.place (stated st (now ++ later))) ≡ option_map_or (text_of_reply n.place) (reply_from n.statement None (right_run (bare_state st) n)) []
  text_now =
      ap (run_text n) run_now
      ∙ ap (λ (r : Option Reply). option_map_or (text_of_reply n.place) r []) (reply_right n.statement None st now ∙ ap (reply_from n.statement None) facts_are)

  text_later : (ms : List Numbered) → AllByRecursion (λ m. n.place < m.place) ms
      → texts_from st (now ++ later) ms ≡ texts_from (state_from st now) later ms
  text_later [] less = refl
  text_later (m ∷ ms) less =
      ap (λ (ps : List (State × Noted)). run_text m ps ++ texts_from st (now ++ later) ms)
      (run_later m.place less.0)
      ∙ ap (λ (rest : List ℕ). run_text m (run_at m.place (stated (state_from st now) later)) ++ rest) (text_later ms less.1)

  state_later : bare_state (state_from st now) ≡ all_next n.session (right_run (bare_state st) n) (bare_state st)
  state_later = state_right st n false now run_is.answers sure_both.0 ∙ ap (λ (fs : List Fact). all_next n.session fs (bare_state st)) facts_are

  text_both : texts_from (state_from st now) later ns ≡ right_text
      (bare_state (state_from st now)) ns
      → texts_from st (now ++ later) (n ∷ ns) ≡ right_text (bare_state st) (n ∷ ns)
  text_both rest =
      ap (λ (front : List ℕ). front ++ texts_from st (now ++ later) ns) text_now
      ∙ ap (λ (back : List ℕ). option_map_or (text_of_reply n.place) (reply_from n.statement None (right_run (bare_state st) n)) [] ++ back)
      (text_later ns above ∙ rest ∙ ap (λ (c : State). right_text c ns) state_later)

text_right : (ns : List Numbered) → HaveAscendingPlaces ns → (st : State) (es : List Noted)
    → FollowFrom st ns es → texts_from st es ns ≡ right_text (bare_state st) ns
text_right [] ascend st es follow = refl
text_right (n ∷ ns) ascend st es follow =
    let parts = parts_of n.place ns ascend.0 es follow.order follow.no_others in
    let whole = subst (FollowFrom st (n ∷ ns)) parts.whole follow in
    subst (λ (fs : List Noted). texts_from st fs (n ∷ ns) ≡ right_text (bare_state st) (n ∷ ns))
    (sym parts.whole)
    (text_both n ns ascend.0 st parts.now parts.later parts.own parts.others whole
    (text_right ns ascend.1 (state_from st parts.now) parts.later (follow_later n ns ascend.0 st parts.now parts.later parts.own parts.others whole)))

-- without blocks, entries that are in order have ascending places

one_place : (a p q : ℕ) → IsOneOf (a ∷ []) p → IsOneOf (a ∷ []) q → p ≡ q
one_place a p q (inl e) (inl f) = omega (arith, e, f)
one_place a p q (inl e) (inr f) = absurd f
one_place a p q (inr e) f = absurd e

one_block : (x : List Step) (p q : ℕ) → list_all is_one x ≡ true → ShareBlock x p q → p ≡ q
one_block [] p q single h = absurd h
one_block (One n ∷ x) p q single (inl h) = one_place n.place p q h.0 h.1
one_block (One n ∷ x) p q single (inr h) = one_block x p q single h
one_block (Parallel group ∷ x) p q single h = absurd cc

not_before : (x : List Step) (e f : Noted) → list_all is_one x ≡ true → MayFollow x e f → e.entry.place ≤ f.entry.place
not_before x e f single (inl less) = less
not_before x e f single (inr h) = omega (arith, one_block x e.entry.place f.entry.place single h.0)

in_order : (x : List Step) (es : List Noted) → list_all is_one x ≡ true → IsInOrder x es → Ascend es
in_order x [] single order = tt
in_order x (e ∷ es) single order = (all_weaker es (λ f h. not_before x e f single h) order.0, in_order x es single order.1)

text_is : (x : List Step) (entries : List Noted) → IsSerial x → IsSuccess x entries → text entries x ≡ right_text (bare_state opening) (statements x)
text_is x entries serial success =
    text_right (statements x) serial.places opening entries (record {
      runs = success.follows.runs;
      no_others = success.follows.no_others;
      order = in_order x entries serial.single success.follows.order;
      legal = success.legal;
      sure = success.unfailed;
    })

pub one_text : OneText
one_text x entries entries' serial success success' = text_is x entries serial success ∙ sym (text_is x entries' serial success')
