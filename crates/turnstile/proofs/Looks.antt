-- A look at the ticket that is served keeps the rule.
use Rattle.std.proofs.Common.{◌≡◌, ℕ, ◌+◌, ◌<◌, inr, Bool, List, [], ◌∷◌, length, get_or, set}
use Rattle.std.proofs.Common.{sym, refl, ap, ◌∙◌, subst, arith}
use Rattle.std.specs.Prelude.{Option, Some, None}
use mathlib.Core.Logic.{dite}
use mathlib.Core.Option.{some, none}
use native.Mathlib.Decide.{ℕ_discrete}
use lib.ListN.{get_elem?}
use lib.Seq.{set-get_or}
use Rattle.atomic_table.specs.Table.{Me, step, keeps, takes, rest, Allows}
use Rattle.atomic_table.proofs.Lists.{set_here}
use Rattle.turnstile.specs.declared.rule.View.{View}
use Rattle.turnstile.specs.declared.rule.Stage.TheVariants.{Waits}
use Rattle.turnstile.specs.Lists.{IsPrefix}
use Rattle.turnstile.specs.Sessions.{HasRooms, NoneBehind, AreKnown}
use Rattle.turnstile.specs.Steps.{Enters, looked}
use Rattle.turnstile.specs.Turns.{Stands, Fits, Turning}
use Rattle.turnstile.specs.Views.{ticket, pending, busy, waiting, entered}
use Rattle.turnstile.specs.Sessions.{Came}
use Rattle.turnstile.proofs.Sums.{total_set, prefix_all, prefix_length, all_by_place, at_behind}
use Rattle.turnstile.proofs.Slots.{first_slot, first_value}
use Rattle.turnstile.proofs.Seats.{all_set, in_list, authors_kept}
use Rattle.turnstile.proofs.Rules.{served_at, entries_fit, unmoved, is_home}

module _ {T E : Type 0} {entries : T → List E} {session : E → ℕ} {has_room : T → ℕ → Bool}
    {opening : T} {turns : ℕ} where
  pub looks : (id slots : ℕ) (me : Me (Option T) (View T E)) (t : ℕ) → me.0.stage ≡ Waits t
      → Allows (Turning entries session has_room opening turns) slots id me 2 (λ n. n)
      (looked entries session has_room (step slots 2 0 0 none) me)
  looks id slots me t waits s r homes at bound =
      let v = me.0 in
      let n : ℕ = get_or s.words 2 0 in
      let is : n ≡ r.serving = served_at s r in
      dite (ℕ_discrete n t)
      (λ e.
      let h = is_home s r id t v at waits (sym is ∙ e) in
      let x = h.value in
      let w : View T E = entered entries v n x in
      let mine = r.each id v at in
      let k : Stands {T = T} r.serving r.next r.log r.holder id v.seen (Waits t) =
      subst (Stands {T = T} r.serving r.next r.log r.holder id v.seen) waits mine.stands in
      let long : length (entries x) ≡ length r.log = ap length h.entries_are in
      let one : pending v.stage ≡ 1 = ap pending waits in
      let all = total_set (λ (u : View T E). u.left + u.taken) s.views id v w at in
      let taken = total_set (λ (u : View T E). u.taken) s.views id v w at in
      let own = total_set (λ (u : View T E). length u.own) s.views id v w at in
      let was_all = r.all_turns in
      let was_taken = r.drawn in
      let was_own = r.written in
      let few = entries_fit s r id v at one in (
        w,
        takes 0 (Some x),
        ap (λ l. get_elem? l 0) h.home,
        record {
          next = r.next;
          serving = r.serving;
          log = r.log;
          owner = r.owner;
          holder = r.holder;
          author = r.author;
          order = r.order;
          words = set-get_or s.words 2 0 ∙ r.words;
          few = r.few;
          begins = r.begins;
          known = r.known;
          all_turns = omega arith;
          drawn = omega arith;
          written = omega arith;
          each = all_set (Fits session (length (entries opening)) turns r.serving r.next r.log
              r.owner r.holder r.author) s.views id w record {
                seen = subst (λ l. IsPrefix l r.log) (sym h.entries_are) (prefix_all r.log);
                noted = mine.noted;
                behind = λ p e' le.
                    let shorter = prefix_length v.seen r.log mine.seen in
                    mine.behind p e' (omega arith);
                owns = mine.owns;
                noted_behind = mine.noted_behind;
                noted_owns = λ z b h.
                    let m = mine.noted_owns z b h in
                    absurd (let waits_on : busy v.stage ≡ 1 = ap busy waits in let m1 = m.1 in
                    omega arith);
                noted_opens = mine.noted_opens;
                span_is = mine.span_is;
                opens = λ some.
                    let o = mine.opens some in
                    let shorter = prefix_length v.seen r.log mine.seen in
                    omega arith;
                whole = λ _. h.entries_are;
                made = λ p e' h'.
                    let m = mine.made p e' h' in
                    let m3 = m.3 in
                    let shorter = prefix_length v.seen r.log mine.seen in
                    (m.0, m.1, m.2, omega arith);
                some_turns = let c = mine.some_turns in omega arith;
                ticketed = let c = mine.some_turns in omega arith;
                stands = let b = k.1 in (is, omega arith, ap r.holder e ∙ k.2, h.entries_are);
              } (λ j u ne e'. r.each j u e');
          authors = authors_kept s.views r.author (length (entries opening)) (length r.log) id v w
              at refl r.authors;
          place = inr record {
            home = ap (λ l. set l 0 none) h.home;
            seat = id;
            view = w;
            was = x;
            here = set_here s.views id w (in_list s.views id v at);
            has = (is, refl);
            rooms = all_set (λ j u. HasRooms has_room u.sessions x) s.views id w (h.rooms id v at)
                (λ j u _ e'. h.rooms j u e');
          };
        },
        (
          (λ ne. absurd (ne (e ∙ sym (ap ticket waits)))),
          λ _. (
            x,
            refl,
            refl,
            (
              subst (IsPrefix v.seen) (sym h.entries_are) mine.seen,
              subst (NoneBehind session v.sessions (length v.seen)) (sym h.entries_are) mine.behind,
              h.rooms id v at,
              omega arith,
              (λ every. h.entries_are ∙ sym (mine.whole every)),
              λ some p e' le there.
                  let o = mine.opens some in
                  r.known p e' (omega arith) (ap (λ l. get_elem? l p) (sym h.entries_are) ∙ there),
            ),
          ),
        ),
      ))
      (λ ne. (
        v,
        keeps,
        tt,
        unmoved s r 2 id me.1 v at,
        ((λ _. refl), λ e. absurd (ne (e ∙ ap ticket waits))),
      ))

module _ {T E : Type 0} (entries : T → List E) (session : E → ℕ) (has_room : T → ℕ → Bool) where
  -- what `enter` knows once it has taken the value
  pub turn_got : (v : View T E) (t r slots : ℕ) (m m' m'' : Me (Option T) (View T E))
      (got : Option T) (x : T) → m ≡ (waiting v t, []) → looked entries session has_room
      (step slots 2 0 0 none) m r m' → r ≡ t → 0 < v.left
      → m'.1 ≡ (0, got) ∷ rest m'.1 → m'' ≡ (m'.0, (0, None) ∷ rest m'.1) → got ≡ Some x
      → (m'' ≡ (entered entries (waiting v t) r x, (0, None) ∷ [])) × Enters entries session
      has_room v x
  turn_got v t r slots m m' m'' got x e look is some_left slot after_it found =
      let start : Me (Option T) (View T E) = (waiting v t, []) in
      let k = (subst (λ z. looked entries session has_room (step slots 2 0 0 none) z r m') e look).1
      is in
      let same : got ≡ Some k.0 = ap (first_slot got) (sym slot ∙ k.1) in
      let x_is : k.0 ≡ x = ap (first_value x) (sym same ∙ found) in (
        after_it ∙ ap (λ (z : Me (Option T) (View T E)). let q : Me (Option T) (View T E) =
            (z.0, (0, None) ∷ rest z.1) in q)
            (let z : m' ≡ (entered entries (waiting v t) r k.0, (0, Some k.0) ∷ []) =
            λ i. (k.2 i, k.1 i) in z) ∙ ap (λ y.
            let q : Me (Option T) (View T E) =
            (entered entries (waiting v t) r y, (0, None) ∷ []) in
            q) x_is,
        (let told = subst (Enters entries session has_room (waiting v t)) x_is k.3 in
            (told.0, told.1, told.2, told.3, (λ every. told.4 (omega arith)), told.5)),
      )

pub came : {E : Type 0} (session : E → ℕ) (mine : List (ℕ × Bool)) (old new : List E)
    → IsPrefix old new → NoneBehind session mine (length old) new → AreKnown session (length old)
    new → Came session mine old new
came session mine old new p none_mine known = (
  p.0,
  p.1,
  all_by_place _ p.0 (λ k e there.
      let here : get_elem? new (length old + k) ≡ some e = ap (λ l. get_elem? l (length old + k))
      p.1 ∙ at_behind old p.0 k ∙ there in (
        none_mine (length old + k) e (omega arith) here,
        known (length old + k) e (omega arith)
            here,
      )),
)
