-- A meeting of two passes keeps the rule.
use Rattle.std.proofs.Common.{◌≡◌, ◌≢◌, ℕ, ◌+◌, ◌<◌, ◌≤◌, inl, inr, Bool, eqb, List, []}
use Rattle.std.proofs.Common.{length, set, sym, refl, ap, ◌∙◌, subst, ⊎_elim, arith}
use Rattle.std.proofs.Common.{append-nil, length-append, true, false, nat_le}
use Rattle.std.specs.Prelude.{Option, if◌then◌else◌}
use mathlib.Core.Logic.{dite}
use mathlib.Core.Option.{some, none, some-ne-none}
use native.Mathlib.Decide.{ℕ_discrete, dec_le}
use lib.ListN.{get_elem?}
use prog.Atomic.{either}
use Rattle.atomic_table.specs.Table.{State, Me, step, keeps, Allows, Joins}
use Rattle.atomic_table.proofs.Lists.{at_set, set_else, set_here}
use Rattle.turnstile.specs.declared.rule.View.{View}
use Rattle.turnstile.specs.declared.rule.Stage.TheVariants.{Idle}
use Rattle.turnstile.specs.Lists.{longer, shorter, IsPrefix, Has}
use Rattle.turnstile.specs.Sessions.{HasRooms, NoneBehind, AreKnown}
use Rattle.turnstile.specs.Steps.{tells}
use Rattle.turnstile.specs.Turns.{Stands, Fits, Turning}
use Rattle.turnstile.specs.Views.{met, spent, Rests, busy}
use Rattle.turnstile.specs.Sessions.{Came}
use Rattle.turnstile.proofs.Sums.{total_set, total_three, whole_prefix}
use Rattle.turnstile.proofs.Places.{two_prefixes, has_left, has_right, has_cases, has_some}
use Rattle.turnstile.proofs.Places.{in_longer, prefix_case, pair_case, longer_length}
use Rattle.turnstile.proofs.Seats.{all_set, fits_kept, in_list, one_view, out_rests}
use Rattle.turnstile.proofs.Seats.{passes_by, picks}
use Rattle.turnstile.proofs.Rules.{unmoved}
use Rattle.turnstile.proofs.Looks.{came}

module _ {T E : Type 0} {entries : T → List E} {session : E → ℕ} {has_room : T → ℕ → Bool}
    {opening : T} {turns : ℕ} where
  -- two passes with all turns have seen all
  pub sees_all : (s : State (Option T) (View T E))
      (r : Turning entries session has_room opening turns s) (id other : ℕ) (v w : View T E)
      (sn : List E) → get_elem? s.views id ≡ some v → get_elem? s.views other ≡ some w → other ≢ id
      → 0 < v.span
      → v.left + v.taken + (w.left + w.taken) ≡ turns → IsPrefix sn r.log
      → length v.seen ≤ length sn → length w.seen ≤ length sn → sn ≡ r.log
  sees_all s r id other v w sn at was apart some_v every prefix long_v long_w =
      whole_prefix sn r.log prefix
      (dite (dec_le (length r.log) (length sn)) (λ le. le) (λ ne. absurd (
      let mine = r.each id v at in
      let theirs = r.each other w was in
      let o = mine.opens some_v in
      let a = r.authors (length sn) (omega arith) (omega arith) in
      dite (ℕ_discrete (r.author (length sn)) id)
      (λ q. let u : a.0 ≡ v =
      one_view s.views id a.0 v (subst (λ j. get_elem? s.views j ≡ some a.0) q a.2) at in
      let had : Has (length sn, a.1) v.own = subst (λ (l : List (ℕ × E)). Has (length sn, a.1) l)
      (ap (λ (z : View T E). z.own) u) a.3 in
      let m = (mine.made (length sn) a.1 had).3 in omega arith)
      (λ ne'. dite (ℕ_discrete (r.author (length sn)) other)
      (λ q. let u : a.0 ≡ w =
      one_view s.views other a.0 w (subst (λ j. get_elem? s.views j ≡ some a.0) q a.2) was in
      let had : Has (length sn, a.1) w.own = subst (λ (l : List (ℕ × E)). Has (length sn, a.1) l)
      (ap (λ (z : View T E). z.own) u) a.3 in
      let m = (theirs.made (length sn) a.1 had).3 in omega arith)
      (λ ne''. let n = (r.each (r.author (length sn)) a.0 a.2).some_turns in
      let c = has_some (length sn, a.1) a.0.own a.3 in
      let three = total_three (λ (u : View T E). u.left + u.taken) s.views (r.author (length sn)) id
      other a.0 v w ne' ne'' (λ q. apart (sym q)) a.2 at was in
      let all = r.all_turns in omega arith)))))

  pub meets : (id : ℕ) (v : View T E) (other : ℕ) (w : View T E) → v.stage ≡ Idle → w.stage ≡ Idle
      → 0 < v.span → 0 < w.span → Joins (Turning entries session has_room opening turns) id v other
      w (met v w) spent
  meets id v other w idle idle' some_v some_w s r at apart at' =
      let both : View T E = met v w in
      let gone : View T E = spent in
      let vs : List (View T E) = set s.views id both in
      let was : get_elem? s.views other ≡ some w = ⊎_elim (λ t. absurd (apart t.0)) (λ t. t.1)
      (at_set s.views id other both w at') in
      let mine = r.each id v at in
      let theirs = r.each other w was in
      let owner : ℕ → ℕ = λ z. either (eqb (r.owner z) other) id (r.owner z) in
      let author : ℕ → ℕ = λ z. either (eqb (r.author z) other) id (r.author z) in
      let stays : (z k : ℕ) → k ≢ other → z ≡ k → either (eqb z other) id z ≡ k =
      λ z k ne e. passes_by z other id z (λ q. ne (sym e ∙ q)) ∙ e in
      let moves : (z : ℕ) → z ≡ other → either (eqb z other) id z ≡ id =
      λ z e. picks z other id z e in
      let id_ne : id ≢ other = λ q. apart (sym q) in
      let lens = longer_length v.seen w.seen in
      let all = total_set (λ (u : View T E). u.left + u.taken) s.views id v both at in
      let all' = total_set (λ (u : View T E). u.left + u.taken) vs other w gone at' in
      let taken = total_set (λ (u : View T E). u.taken) s.views id v both at in
      let taken' = total_set (λ (u : View T E). u.taken) vs other w gone at' in
      let own = total_set (λ (u : View T E). length u.own) s.views id v both at in
      let own' = total_set (λ (u : View T E). length u.own) vs other w gone at' in
      let owns_both : length both.own ≡ length v.own + length w.own = length-append v.own w.own in
      let was_all = r.all_turns in
      let was_taken = r.drawn in
      let was_own = r.written in
      let turns_v = mine.some_turns in
      let turns_w = theirs.some_turns in
      let busy_v = mine.ticketed in
      let all_seen : both.left + both.taken + 1 ≡ both.span → both.seen ≡ r.log = λ every.
      sees_all s r id other v w both.seen at was apart some_v (let span = mine.span_is some_v in
      omega arith)
      (prefix_case (nat_le (length v.seen) (length w.seen)) (λ l. IsPrefix l r.log) w.seen
      v.seen theirs.seen mine.seen) lens.0 lens.1 in
      let Now : ℕ → View T E → Type 0 = Fits session (length (entries opening)) turns r.serving
      r.next r.log owner r.holder author in
      let joined : Now id both = record {
        seen = prefix_case (nat_le (length v.seen) (length w.seen)) (λ l. IsPrefix l r.log) w.seen
            v.seen theirs.seen mine.seen;
        noted = prefix_case (nat_le (length v.seen) (length w.seen)) (λ l. IsPrefix l r.log) v.seen
            w.seen mine.seen theirs.seen;
        behind = λ p e le there c h.
            let a = lens.0 in
            let b = lens.1 in
            ⊎_elim (λ k. mine.behind p e (omega arith) there c k)
            (λ k. theirs.behind p e (omega arith) there c k)
            (has_cases (session e, c) v.sessions w.sessions h.0 h.1);
        owns = λ z c h. ⊎_elim (λ k. let o = mine.owns z c k in
            (stays (r.owner z) id id_ne o.0, o.1)) (λ k.
            let o = theirs.owns z c k in
            (moves (r.owner z) o.0, o.1)) (has_cases (z, c) v.sessions w.sessions h.0 h.1);
        noted_behind = pair_case (nat_le (length v.seen) (length w.seen))
            (λ l ss. NoneBehind session ss (length l) r.log) v.seen w.seen v.sessions w.sessions
            mine.behind theirs.behind;
        noted_owns = λ z c h. (
          pair_case (nat_le (length v.seen) (length w.seen)) (λ _ ss. Has (z, c) ss → owner z ≡ id)
              v.seen w.seen v.sessions w.sessions
              (λ k. stays (r.owner z) id id_ne (mine.owns z c k).0)
              (λ k. moves (r.owner z) (theirs.owns z c k).0) h,
          ap busy idle,
        );
        noted_opens = λ _. prefix_case (nat_le (length v.seen) (length w.seen))
            (λ l. length (entries opening) ≤ length l) v.seen w.seen (mine.opens some_v)
            (theirs.opens some_w);
        span_is = mine.span_is;
        opens = λ _. let a = lens.0 in let o = mine.opens some_v in omega arith;
        whole = λ every. all_seen every;
        made = λ p e h.
            let a = lens.0 in
            let b = lens.1 in
            ⊎_elim (λ k. let m = mine.made p e k in let m3 = m.3 in
            (m.0, m.1, stays (r.author p) id id_ne m.2, omega arith))
            (λ k. let m = theirs.made p e k in let m3 = m.3 in
            (m.0, m.1, moves (r.author p) m.2, omega arith))
            (has_cases (p, e) v.own w.own h.0 h.1);
        some_turns = omega arith;
        ticketed = omega arith;
        stands = subst (Stands r.serving r.next r.log r.holder id both.seen) (sym idle) tt;
      } in
      let none_left : Now other gone = record {
        seen = (r.log, refl);
        noted = (r.log, refl);
        behind = λ p e le there c h. some-ne-none (session e, c) (sym h.1);
        owns = λ z c h. absurd (some-ne-none (z, c) (sym h.1));
        noted_behind = λ p e le there b h. some-ne-none (session e, b) (sym h.1);
        noted_owns = λ z b h. absurd (some-ne-none (z, b) (sym h.1));
        noted_opens = λ some. absurd (omega arith);
        span_is = λ some. absurd (omega arith);
        opens = λ some. absurd (omega arith);
        whole = λ every. absurd (omega arith);
        made = λ p e h. absurd (some-ne-none (p, e) (sym h.1));
        some_turns = omega arith;
        ticketed = omega arith;
        stands = tt;
      } in
      let sessions_both : (x : T) → HasRooms has_room v.sessions x → HasRooms has_room w.sessions x
      → HasRooms has_room both.sessions x = λ x a b z c h. ⊎_elim (a z c) (b z c)
      (has_cases (z, c) v.sessions w.sessions h.0 h.1) in
      let twice : (F : ℕ → View T E → Type 0) → F id both → F other gone
      → ((j : ℕ) (u : View T E) → j ≢ id → j ≢ other → get_elem? s.views j ≡ some u → F j u)
      → (j : ℕ) (u : View T E) → get_elem? (set vs other gone) j ≡ some u → F j u =
      λ F a b rest j u e.
      all_set F vs other gone b
      (λ j u ne e. all_set (λ j u. j ≢ other → F j u) s.views id both (λ _. a)
      (λ j u ne' e ne''. rest j u ne' ne'' e) j u e ne) j u e in
      let home_of : (j : ℕ) (u : View T E) → j ≢ id → j ≢ other → get_elem? s.views j ≡ some u
      → get_elem? (set vs other gone) j ≡ some u = λ j u a b e. set_else vs other j gone b
      ∙ (set_else s.views id j both a ∙ e) in
      let here : get_elem? (set vs other gone) id ≡ some both = set_else vs other id gone id_ne
      ∙ set_here s.views id both (in_list s.views id v at) in
      record {
        next = r.next;
        serving = r.serving;
        log = r.log;
        owner = owner;
        holder = r.holder;
        author = author;
        order = r.order;
        words = r.words;
        few = r.few;
        begins = r.begins;
        known = r.known;
        all_turns = omega arith;
        drawn = omega arith;
        written = omega arith;
        each = twice Now joined none_left (λ j u a b e.
            fits_kept r.serving r.next r.log r.owner owner r.holder r.author author j u
            (λ z. stays (r.owner z) j b) (λ p. stays (r.author p) j b) (r.each j u e));
        authors = λ p a c. let h = r.authors p a c in
            dite (ℕ_discrete (r.author p) other)
            (λ q. let u : h.0 ≡ w =
            one_view s.views other h.0 w (subst (λ j. get_elem? s.views j ≡ some h.0) q h.2) was
            in (
              both,
              h.1,
              ap (get_elem? (set vs other gone)) (moves (r.author p) q) ∙ here,
              has_right (p, h.1) v.own w.own
                  (subst (λ (l : List (ℕ × E)). Has (p, h.1) l) (ap (λ (x : View T E). x.own) u)
                  h.3),
            ))
            (λ ne. dite (ℕ_discrete (r.author p) id)
            (λ q. let u : h.0 ≡ v =
            one_view s.views id h.0 v (subst (λ j. get_elem? s.views j ≡ some h.0) q h.2) at in (
              both,
              h.1,
              ap (get_elem? (set vs other gone)) (stays (r.author p) id id_ne q) ∙ here,
              has_left (p, h.1) v.own w.own
                  (subst (λ (l : List (ℕ × E)). Has (p, h.1) l) (ap (λ (x : View T E). x.own) u)
                  h.3),
            ))
            (λ ne'. (
              h.0,
              h.1,
              ap (get_elem? (set vs other gone))
                  (passes_by (r.author p) other id (r.author p) ne)
                  ∙ home_of (r.author p) h.0 ne' ne
                  h.2,
              h.3,
            )));
        place = ⊎_elim
            (λ h. inl record {
              value = h.value;
              home = h.home;
              entries_are = h.entries_are;
              rooms = twice (λ j u. HasRooms has_room u.sessions h.value)
                  (sessions_both h.value (h.rooms id v at) (h.rooms other w was))
                  (λ z c k. absurd (some-ne-none (z, c) (sym k.1))) (λ j u _ _ e. h.rooms j u e);
              none_out = twice (λ j u. Rests u.stage) (subst Rests (sym idle) tt) tt
                  (λ j u _ _ e. h.none_out j u e);
            })
            (λ o. inr record {
              home = o.home;
              seat = o.seat;
              view = o.view;
              was = o.was;
              here =
                  let idle_not : (k : ℕ) (x : View T E) → get_elem? s.views k ≡ some x
                  → x.stage ≡ Idle → o.seat ≢ k = λ k x e z q.
                  let u : o.view ≡ x = one_view s.views k o.view x
                  (subst (λ j. get_elem? s.views j ≡ some o.view) q o.here) e in
                  out_rests r.serving o.was o.view.stage o.has
                  (subst Rests (sym (ap (λ (y : View T E). y.stage) u ∙ z)) tt) in
                  home_of o.seat o.view (idle_not id v at idle) (idle_not other w was idle') o.here;
              has = o.has;
              rooms = twice (λ j u. HasRooms has_room u.sessions o.was)
                  (sessions_both o.was (o.rooms id v at) (o.rooms other w was))
                  (λ z c k. absurd (some-ne-none (z, c) (sym k.1))) (λ j u _ _ e. o.rooms j u e);
            })
            r.place;
      }

  pub tell : (id slots : ℕ) (me : Me (Option T) (View T E))
      → Allows (Turning entries session has_room opening turns) slots id me 0 (λ n. n)
      (tells session (step slots 0 0 0 none) me)
  tell id slots me s r homes at bound = let mine = r.each id me.0 at in (
    me.0,
    keeps,
    tt,
    unmoved s r 0 id me.1 me.0 at,
    (
      refl,
      refl,
      two_prefixes me.0.noted me.0.seen r.log mine.noted mine.seen,
      (λ p e le there b h. mine.noted_behind p e le (in_longer me.0.seen r.log mine.seen p e there)
          b h),
      λ some p e le there.
          let o = mine.noted_opens some in
          r.known p e (omega arith) (in_longer me.0.seen r.log mine.seen p e there),
    ),
  )

pub none_came : {E : Type 0} (session : E → ℕ) (mine : List (ℕ × Bool)) (old : List E)
    → Came session mine old old
none_came session mine old = ([], sym (append-nil old), tt)

pub both_came : {E : Type 0} (session : E → ℕ) (b : Bool) (x y : List E) (p q : List (ℕ × Bool))
    → Came session (if b then p else q) (if b then x else y) (if b then y else x)
    → Came session p x (if b then y else x) × Came session q y (if b then y else x)
both_came session true x y p q c = (c, none_came session q y)
both_came session false x y p q c = (none_came session p x, c)

-- of the view that has met another, and has looked
pub met_came : {T E : Type 0} (session : E → ℕ) (v w m m' : View T E) → m ≡ met v w → m' ≡ m
    → 0 < v.span → length (shorter v.seen w.seen) ≤ length (longer v.seen w.seen)
    → (length m.noted ≤ length m.seen → IsPrefix m.noted m.seen)
    → NoneBehind session m.noted_sessions (length m.noted) m.seen
    → (0 < m.span → AreKnown session (length m.noted) m.seen)
    → Came session v.sessions v.seen m'.seen × Came session w.sessions w.seen m'.seen
met_came {T} {E} session v w m m' is is' lives short prefix none_noted known =
    let P : View T E → Type 0 = λ k. (length k.noted ≤ length k.seen → IsPrefix k.noted k.seen)
    × NoneBehind session k.noted_sessions (length k.noted) k.seen
    × (0 < k.span → AreKnown session (length k.noted) k.seen) in
    let told : P (met v w) = subst P is (prefix, none_noted, known) in
    let Q : View T E → Type 0 = λ k. Came session v.sessions v.seen k.seen × Came session w.sessions
    w.seen k.seen in
    subst Q (sym (is' ∙ is))
    (both_came session (nat_le (length v.seen) (length w.seen)) v.seen w.seen v.sessions
    w.sessions
    (came session (if nat_le (length v.seen) (length w.seen) then v.sessions else w.sessions)
    (shorter v.seen w.seen) (longer v.seen w.seen) (told.0 short) told.1 (told.2 lives)))
