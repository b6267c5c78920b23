-- A publish keeps the rule.
use Rattle.std.proofs.Common.{◌≡◌, ◌≢◌, ℕ, ◌+◌, ◌<◌, ◌≤◌, inr, Bool, eqb, List, [], ◌∷◌}
use Rattle.std.proofs.Common.{◌++◌, length, set, sym, refl, ap, ◌∙◌, subst, ⊎_elim, arith}
use Rattle.std.proofs.Common.{length-append}
use Rattle.std.specs.Prelude.{Option, Some}
use mathlib.Core.Logic.{dite}
use mathlib.Core.Option.{some, none}
use native.Mathlib.Decide.{ℕ_discrete}
use lib.ListN.{get_elem?}
use prog.Atomic.{either}
use Rattle.atomic_table.specs.Table.{State, Me, step, keeps, stepped, Allows}
use Rattle.atomic_table.proofs.Lists.{at_snoc, set_else, set_here, at_longer, at_last}
use Rattle.turnstile.specs.declared.rule.View.{View}
use Rattle.turnstile.specs.declared.rule.Stage.{Stage}
use Rattle.turnstile.specs.declared.rule.Stage.TheVariants.{In, Done}
use Rattle.turnstile.specs.Lists.{added, IsPrefix, Has}
use Rattle.turnstile.specs.Sessions.{AddsAtMostOne, HasRooms, IsSession}
use Rattle.turnstile.specs.Steps.{published}
use Rattle.turnstile.specs.Turns.{Stands, Fits, HasOut, IsOut, Turning}
use Rattle.turnstile.specs.Views.{Rests, pending, busy, closed, told}
use Rattle.turnstile.specs.Sessions.{AddsAtMostOne}
use Rattle.turnstile.proofs.Sums.{total_set, total_two, prefix_all, prefix_more, prefix_length}
use Rattle.turnstile.proofs.Places.{past_end, nothing_new, one_new}
use Rattle.turnstile.proofs.Slots.{slot_value}
use Rattle.turnstile.proofs.Seats.{picks, passes_by, all_set, one_view, in_list, authors_kept}
use Rattle.turnstile.proofs.Seats.{stands_longer}
use Rattle.turnstile.proofs.Rules.{is_out}

module _ {T E : Type 0} {session : E → ℕ} where
  -- the view of another seat, where an entry of a session that is not the other's came behind
  pub fits_longer : (start turns serving next : ℕ) (log : List E) (owner holder author : ℕ → ℕ)
      (i id : ℕ) (v : View T E) (e : E) → holder serving ≡ id → i ≢ id → owner (session e) ≡ id
      → (v.left + v.taken + 1 ≢ turns + 1)
      → Fits session start turns serving next log owner holder author i v
      → Fits session start turns serving next (log ++ e ∷ []) owner holder
      (λ p. either (eqb p (length log)) id (author p)) i v
  fits_longer start turns serving next log owner holder author i id v e is ne owned part f =
      record {
        seen = prefix_more v.seen log e f.seen;
        noted = prefix_more v.noted log e f.noted;
        behind = λ p e' le there b' has. ⊎_elim (λ old. f.behind p e' le old b' has)
            (λ (new : e ≡ e'). ne
            (sym (f.owns (session e') b' has).0 ∙ (ap (λ x. owner (session x)) (sym new) ∙ owned)))
            (at_snoc log e e' p there);
        owns = f.owns;
        noted_behind = λ p e' le there b' has. ⊎_elim (λ old. f.noted_behind p e' le old b' has)
            (λ (new : e ≡ e'). ne
            (sym (f.noted_owns (session e') b' has).0
            ∙ (ap (λ x. owner (session x)) (sym new) ∙ owned))) (at_snoc log e e' p there);
        noted_owns = f.noted_owns;
        noted_opens = f.noted_opens;
        span_is = f.span_is;
        opens = f.opens;
        whole = λ every. absurd (let span = f.span_is (omega arith) in part (every ∙ span));
        made = λ p e' has. let m = f.made p e' has in let low = past_end log p e' m.1 in (
          m.0,
          at_longer log (e ∷ []) p e' m.1,
          passes_by p (length log) id (author p)
              (λ q. omega arith) ∙ m.2,
          m.3,
        );
        some_turns = f.some_turns;
        ticketed = f.ticketed;
        stands = stands_longer serving next log (log ++ e ∷ []) holder i id v.seen is ne v.stage
            f.stands;
      }

module _ {E : Type 0} where
  -- the own entries of the seat, with the new one
  pub made_more : (log : List E) (e : E) (author' author : ℕ → ℕ) (id : ℕ) (own own' : List (ℕ × E))
      (from : ℕ) → from ≤ length log → own' ≡ own ++ (length log, e) ∷ []
      → ((p : ℕ) → author' p ≡ either (eqb p (length log)) id (author p))
      → ((p : ℕ) (e' : E) → Has (p, e') own → (from ≤ p) × (get_elem? log p ≡ some e')
      × (author p ≡ id) × (p < length log))
      → (p : ℕ) (e' : E) → Has (p, e') own' → (from ≤ p) × (get_elem? (log ++ e ∷ []) p ≡ some e')
      × (author' p ≡ id) × (p < length log + 1)
  made_more log e author' author id own own' from start is by old p e' h =
      let h' : Has (p, e') (own ++ (length log, e) ∷ []) =
      subst (λ (l : List (ℕ × E)). Has (p, e') l) is h in
      ⊎_elim
      (λ there. let m = old p e' (h'.0, there) in let low = past_end log p e' m.1 in (
        m.0,
        at_longer log (e ∷ []) p e' m.1,
        by p
            ∙ (passes_by p (length log) id (author p) (λ q. omega arith) ∙ m.2),
        omega arith,
      ))
      (λ (last : (length log, e) ≡ (p, e')). let q : length log ≡ p =
      ap (λ (z : ℕ × E). z.0) last in (
        omega arith,
        at_last log e p q ∙ ap some (ap (λ (z : ℕ × E). z.1) last),
        by p
            ∙ picks p (length log) id (author p) (sym q),
        omega arith,
      ))
      (at_snoc own (length log, e) (p, e') h'.0 h'.1)

module _ {T E : Type 0} where
  pub authors_more : (views : List (View T E)) (author : ℕ → ℕ) (log : List E) (e : E) (id from : ℕ)
      (v w : View T E) → get_elem? views id ≡ some v → w.own ≡ v.own ++ (length log, e) ∷ []
      → ((p : ℕ) → from ≤ p → p < length log → (u : View T E) × (e' : E)
      × (get_elem? views (author p) ≡ some u) × Has (p, e') u.own)
      → (p : ℕ) → from ≤ p → p < length (log ++ e ∷ []) → (u : View T E) × (e' : E)
      × (get_elem? (set views id w) (either (eqb p (length log)) id (author p)) ≡ some u)
      × Has (p, e') u.own
  authors_more views author log e id from v w at is old p a b =
      let long : length (log ++ e ∷ []) ≡ length log + 1 = length-append log (e ∷ []) in
      let here : get_elem? (set views id w) id ≡ some w =
      set_here views id w (in_list views id v at) in
      dite (ℕ_discrete p (length log))
      (λ q. (
        w,
        e,
        ap (get_elem? (set views id w)) (picks p (length log) id (author p) q) ∙ here,
        subst (λ l. Has (p, e) l) (sym is) (
          length v.own,
          at_last v.own (length log, e) (length v.own) refl ∙ ap (λ k. some (k, e))
              (sym q),
        ),
      ))
      (λ ne. let h = old p a (omega arith) in let to = passes_by p (length log) id (author p) ne in
      dite (ℕ_discrete (author p) id)
      (λ mine.
      let u : h.0 ≡ v = one_view views id h.0 v (subst (λ j. get_elem? views j ≡ some h.0) mine h.2)
      at in
      let had : Has (p, h.1) v.own = subst (λ (l : List (ℕ × E)). Has (p, h.1) l)
      (ap (λ (x : View T E). x.own) u) h.3 in (
        w,
        h.1,
        ap (get_elem? (set views id w)) (to ∙ mine) ∙ here,
        subst (λ l. Has (p, h.1) l)
            (sym is) (had.0, at_longer v.own ((length log, e) ∷ []) had.0 (p, h.1) had.1),
      ))
      (λ other. (
        h.0,
        h.1,
        ap (get_elem? (set views id w)) to
            ∙ (set_else views id (author p) w other ∙ h.2),
        h.3,
      )))

  abbrev pub after : View T E → Stage T → List E → List (ℕ × E) → View T E
  after v st sn ow = record {
    stage = st;
    seen = sn;
    noted = v.noted;
    noted_sessions =
        v.noted_sessions;
    own = ow;
    left = v.left;
    taken = v.taken;
    sessions = v.sessions;
    span =
        v.span;
  }

module _ {T E : Type 0} {entries : T → List E} {session : E → ℕ} {has_room : T → ℕ → Bool}
    {opening : T} {turns : ℕ} where
  -- the seat keeps the value, and tells the entries sn
  pub out_after : (s : State (Option T) (View T E))
      (r : Turning entries session has_room opening turns s) (id : ℕ) (v : View T E) (t : ℕ) (x : T)
      → get_elem? s.views id ≡ some v → v.stage ≡ In t x → r.holder r.serving ≡ id
      → (words' : List ℕ) (st : Stage T) (sn : List E) (ow : List (ℕ × E)) → st ≡ Done t x
      → IsOut has_room record {
        words = words';
        homes = s.homes;
        views =
            set s.views id (after v st sn ow);
      } r.serving
  out_after s r id v t x at stage holds words' st sn ow closes =
      let out = is_out s r id v at (λ q. let z : Rests (In t x) = subst Rests stage q in z) holds in
      let o = out.0 in
      let was : HasOut r.serving o.was (In t x) =
      subst (HasOut r.serving o.was) (ap (λ (u : View T E). u.stage) out.2 ∙ stage) o.has in
      let w : View T E = after v st sn ow in record {
        home = o.home;
        seat = id;
        view = w;
        was = o.was;
        here = set_here s.views id w (in_list s.views id v at);
        has = subst (HasOut r.serving o.was) (sym closes) was;
        rooms = all_set (λ j u. HasRooms has_room u.sessions o.was) s.views id w (o.rooms id v at)
            (λ j u _ e'. o.rooms j u e');
      }

  pub publish_same : (s : State (Option T) (View T E))
      (r : Turning entries session has_room opening turns s) (id : ℕ) (v : View T E) (t : ℕ) (x : T)
      (at : get_elem? s.views id ≡ some v) (stage : v.stage ≡ In t x)
      (k : Stands r.serving r.next r.log r.holder id v.seen (In t x))
      → (n : ℕ) (cs : List (ℕ × Option T)) (st : Stage T) (sn : List E) (ow : List (ℕ × E))
      → st ≡ Done t x → sn ≡ r.log → ow ≡ v.own → n ≡ length r.log
      → Turning entries session has_room opening turns
      (stepped s 0 n id cs (after v st sn ow) keeps)
  publish_same s r id v t x at stage k n cs st sn ow closes sn_is ow_is n_is =
      let w : View T E = after v st sn ow in
      let mine = r.each id v at in
      let holds : r.holder r.serving ≡ id = ap r.holder (sym k.0) ∙ k.2 in
      let one : pending v.stage ≡ 1 = ap pending stage in
      let none_now : pending st ≡ 0 = ap pending closes in
      let all = total_set (λ (u : View T E). u.left + u.taken) s.views id v w at in
      let taken = total_set (λ (u : View T E). u.taken) s.views id v w at in
      let own = total_set (λ (u : View T E). length u.own) s.views id v w at in
      let was_all = r.all_turns in
      let was_taken = r.drawn in
      let was_own = r.written in
      let some_turns = mine.some_turns in
      let long : length sn ≡ length r.log = ap length sn_is in
      let count : length ow ≡ length v.own = ap length ow_is in record {
        next = r.next;
        serving = r.serving;
        log = r.log;
        owner = r.owner;
        holder = r.holder;
        author = r.author;
        order = r.order;
        words = ap (λ ws. set ws 0 n) r.words ∙ ap (λ c. c ∷ r.next ∷ r.serving ∷ []) n_is;
        few = r.few;
        begins = r.begins;
        known = r.known;
        all_turns = omega arith;
        drawn = omega arith;
        written = omega arith;
        each = all_set (Fits session (length (entries opening)) turns r.serving r.next r.log r.owner
            r.holder r.author) s.views id w record {
              seen = subst (λ l. IsPrefix l r.log) (sym sn_is) (prefix_all r.log);
              noted = mine.noted;
              behind = λ p e' le there. absurd (let low = past_end r.log p e' there in omega arith);
              owns = mine.owns;
              noted_behind = mine.noted_behind;
              noted_owns = λ z b h.
                  let m = mine.noted_owns z b h in
                  absurd (let in_turn : busy v.stage ≡ 1 = ap busy stage in let m1 = m.1 in
                  omega arith);
              noted_opens = mine.noted_opens;
              span_is = mine.span_is;
              opens = λ some.
                  let o = mine.opens some in
                  let k3 : length v.seen ≡ length r.log = ap length k.3 in
                  omega arith;
              whole = λ _. sn_is;
              made = λ p e' h.
                  let m = mine.made p e' (subst (λ (l : List (ℕ × E)). Has (p, e') l) ow_is h) in
                  let m3 = m.3 in
                  let k3 : length v.seen ≡ length r.log = ap length k.3 in
                  (m.0, m.1, m.2, omega arith);
              some_turns = omega arith;
              ticketed = let c : busy st ≡ 1 = ap busy closes in omega arith;
              stands = subst (Stands r.serving r.next r.log r.holder id sn) (sym closes)
                  (k.0, k.1, k.2, sn_is);
            } (λ j u ne e'. r.each j u e');
        authors = authors_kept s.views r.author (length (entries opening)) (length r.log) id v w at
            ow_is r.authors;
        place = inr (out_after s r id v t x at stage holds (set s.words 0 n) st sn ow closes);
      }

  pub publish_new : (s : State (Option T) (View T E))
      (r : Turning entries session has_room opening turns s) (id : ℕ) (v : View T E) (t : ℕ) (x : T)
      (at : get_elem? s.views id ≡ some v) (stage : v.stage ≡ In t x)
      (k : Stands r.serving r.next r.log r.holder id v.seen (In t x))
      → (e : E) → r.owner (session e) ≡ id → IsSession (session e)
      → (n : ℕ) (cs : List (ℕ × Option T)) (st : Stage T) (sn : List E) (ow : List (ℕ × E))
      → st ≡ Done t x → sn ≡ r.log ++ e ∷ [] → ow ≡ v.own ++ (length r.log, e) ∷ []
      → n ≡ length sn → Turning entries session has_room opening turns
      (stepped s 0 n id cs (after v st sn ow) keeps)
  publish_new s r id v t x at stage k e owned of_session n cs st sn ow closes sn_is ow_is n_is =
      let w : View T E = after v st sn ow in
      let log' : List E = r.log ++ e ∷ [] in
      let mine = r.each id v at in
      let holds : r.holder r.serving ≡ id = ap r.holder (sym k.0) ∙ k.2 in
      let one : pending v.stage ≡ 1 = ap pending stage in
      let none_now : pending st ≡ 0 = ap pending closes in
      let all = total_set (λ (u : View T E). u.left + u.taken) s.views id v w at in
      let taken = total_set (λ (u : View T E). u.taken) s.views id v w at in
      let own = total_set (λ (u : View T E). length u.own) s.views id v w at in
      let was_all = r.all_turns in
      let was_taken = r.drawn in
      let was_own = r.written in
      let some_turns = mine.some_turns in
      let long : length log' ≡ length r.log + 1 = length-append r.log (e ∷ []) in
      let long' : length sn ≡ length log' = ap length sn_is in
      let count : length ow ≡ length v.own + 1 = ap length ow_is ∙ length-append v.own
      ((length r.log, e) ∷ []) in
      let author : ℕ → ℕ = λ p. either (eqb p (length r.log)) id (r.author p) in
      let start_long = prefix_length (entries opening) r.log r.begins in record {
        next = r.next;
        serving = r.serving;
        log = log';
        owner = r.owner;
        holder = r.holder;
        author = author;
        order = r.order;
        words = ap (λ ws. set ws 0 n) r.words ∙ ap (λ c. c ∷ r.next ∷ r.serving ∷ [])
            (n_is ∙ long');
        few = r.few;
        begins = prefix_more (entries opening) r.log e r.begins;
        known = λ p e' le there. ⊎_elim (λ old. r.known p e' le old)
            (λ (new : e ≡ e'). subst (λ (z : E). IsSession (session z)) new of_session)
            (at_snoc r.log e e' p there);
        all_turns = omega arith;
        drawn = omega arith;
        written = omega arith;
        each = all_set (Fits session (length (entries opening)) turns r.serving r.next log' r.owner
            r.holder author) s.views id w record {
              seen = subst (λ l. IsPrefix l log') (sym sn_is) (prefix_all log');
              noted = prefix_more v.noted r.log e mine.noted;
              behind = λ p e' le there. absurd (let low = past_end log' p e' there in omega arith);
              owns = mine.owns;
              noted_behind = λ p e' le there b h.
                  let m = mine.noted_owns (session e') b h in
                  let in_turn : busy v.stage ≡ 1 = ap busy stage in
                  let m1 = m.1 in
                  omega arith;
              noted_owns = λ z b h.
                  let m = mine.noted_owns z b h in
                  absurd (let in_turn : busy v.stage ≡ 1 = ap busy stage in let m1 = m.1 in
                  omega arith);
              noted_opens = mine.noted_opens;
              span_is = mine.span_is;
              opens = λ some. omega arith;
              whole = λ _. sn_is;
              made = λ p e' h.
                  let k3 : length v.seen ≡ length r.log = ap length k.3 in
                  let m = made_more r.log e author r.author id v.own ow (length (entries opening))
                  start_long ow_is (λ p. refl)
                  (λ p e' h. let m = mine.made p e' h in let m3 = m.3 in
                  (m.0, m.1, m.2, omega arith)) p e' h in
                  let m3 = m.3 in (m.0, m.1, m.2, omega arith);
              some_turns = omega arith;
              ticketed = let c : busy st ≡ 1 = ap busy closes in omega arith;
              stands = subst (Stands r.serving r.next log' r.holder id sn) (sym closes)
                  (k.0, k.1, k.2, sn_is);
            } (λ j u ne e'.
            fits_longer (length (entries opening)) turns r.serving r.next r.log r.owner
            r.holder r.author j id u e holds ne owned
            (λ every. let two = total_two (λ (u : View T E). u.left + u.taken) s.views j id u v ne
            e' at in absurd (omega arith)) (r.each j u e'));
        authors = authors_more s.views r.author r.log e id (length (entries opening)) v w at ow_is
            r.authors;
        place = inr (out_after s r id v t x at stage holds (set s.words 0 n) st sn ow closes);
      }

  pub publishes : (id slots : ℕ) (me : Me (Option T) (View T E)) (t n : ℕ) (x y : T)
      → me.0.stage ≡ In t x → me.1 ≡ (0, Some y) ∷ []
      → AddsAtMostOne session me.0.sessions me.0.seen (entries y) → n ≡ length (entries y)
      → Allows (Turning entries session has_room opening turns) slots id me 0 (λ _. n)
      (λ _. published entries session has_room (step slots 0 n 0 none) me n)
  publishes id slots me t n x y stage has adds is s r homes at bound =
      let v = me.0 in
      let w : View T E = told entries v y in
      let mine = r.each id v at in
      let k : Stands r.serving r.next r.log r.holder id v.seen (In t x) =
      subst (Stands r.serving r.next r.log r.holder id v.seen) stage mine.stands in
      let publish_with = publish_new s r id v t x at stage k in
      let kept : Turning entries session has_room opening turns (stepped s 0 n id me.1 w keeps) =
      ⊎_elim {C = Turning entries session has_room opening turns
      (stepped s 0 n id me.1 w keeps)}
      (λ same. publish_same s r id v t x at stage k n me.1 (closed v.stage) (entries y)
      (v.own ++ added v.seen (entries y)) (ap closed stage) (same ∙ k.3)
      (nothing_new v.seen (entries y) v.own (sym same)) (is ∙ ap length (same ∙ k.3)))
      (λ new.
      let owned = mine.owns (session new.0) new.2.0 new.2.1 in
      let longer_log : entries y ≡ r.log ++ new.0 ∷ [] = new.1 ∙ ap (λ l. l ++ new.0 ∷ []) k.3 in
      publish_with new.0 owned.0 owned.1 n me.1 (closed v.stage) (entries y)
      (v.own ++ added v.seen (entries y)) (ap closed stage)
      longer_log (one_new v.seen (entries y) r.log new.0 v.own k.3 longer_log) is)
      adds in (
        w,
        keeps,
        tt,
        kept,
        λ y' has'. (refl, ap (told entries v) (slot_value y y' me.1 has has')),
      )

module _ {T E : Type 0} (entries : T → List E) (session : E → ℕ) (has_room : T → ℕ → Bool) where
  -- what the seat has after each of the three steps of `leave`
  pub told_view : (st : _) (n : ℕ) (v : View T E) (y : T) (m m' : Me (Option T) (View T E))
      → published entries session has_room st m n m' → m ≡ (v, (0, Some y) ∷ [])
      → m' ≡ (told entries v y, (0, Some y) ∷ [])
  told_view st n v y m m' p e =
      let k = (subst (λ z. published entries session has_room st z n m') e p) y refl in
      λ i. (k.1 i, k.0 i)
