-- To split a pass keeps the rule.
use Rattle.std.proofs.Common.{◌≡◌, ◌≢◌, ℕ, zero, suc, ◌+◌, ◌≤◌, inl, inr, Bool, eqb, List}
use Rattle.std.proofs.Common.{[], ◌∷◌, length, set, sym, refl, ap, ◌∙◌, subst, ⊎_elim, arith}
use Rattle.std.proofs.Common.{eq-eqb, length-set, filter, not, true, false, true≢false, ◌==◌}
use Rattle.std.proofs.Common.{eqb→eq}
use Rattle.std.specs.Prelude.{if◌then◌else◌}
use lib.Dec.{T as T'}
use mathlib.Core.Logic.{dite}
use mathlib.Core.Option.{some, some-injective, some-ne-none}
use native.Mathlib.Decide.{ℕ_discrete}
use lib.ListN.{get_elem?}
use prog.Atomic.{either}
use Rattle.atomic_table.specs.Table.{Splits}
use Rattle.atomic_table.proofs.Lists.{set_else, at_longer}
use Rattle.turnstile.specs.declared.rule.View.{View}
use Rattle.turnstile.specs.declared.rule.Stage.TheVariants.{Idle}
use Rattle.turnstile.specs.Lists.{Has}
use Rattle.turnstile.specs.Sessions.{HasRooms}
use Rattle.turnstile.specs.Turns.{Fits, Turning}
use Rattle.turnstile.specs.Views.{Rests, cut_left, cut_right}
use Rattle.turnstile.proofs.Sums.{total_set, total_at, total_snoc}
use Rattle.turnstile.proofs.Seats.{picks, passes_by, all_set, one_view, in_list, snoc_cases}
use Rattle.turnstile.proofs.Seats.{authors_kept, fits_kept, out_rests}

pub same_number : (a b : ℕ) → (a == b) ≡ true → a ≡ b
same_number a b e = eqb→eq a b (subst T' (sym e) tt)

pub other_number : (a b : ℕ) → not (a == b) ≡ true → a ≢ b
other_number a b e q = true≢false (sym e ∙ ap not (eq-eqb a b q))

pub keep_case : (f : ℕ × Bool → Bool) (b : Bool) (p : ℕ × Bool) (l : List (ℕ × Bool)) (x : ℕ × Bool)
    (i : ℕ) → f p ≡ b → ((k : ℕ) → get_elem? (filter f l) k ≡ some x → Has x l × (f x ≡ true))
    → get_elem? (if b then p ∷ filter f l else filter f l) i ≡ some x → Has x (p ∷ l) × (f x ≡ true)
keep_case f true p l x zero is old e =
    let q : p ≡ x = some-injective p x e in ((0, e), ap f (sym q) ∙ is)
keep_case f true p l x (suc i) is old e = let h = old i e in ((suc h.0.0, h.0.1), h.1)
keep_case f false p l x i is old e = let h = old i e in ((suc h.0.0, h.0.1), h.1)

pub has_filter : (f : ℕ × Bool → Bool) (l : List (ℕ × Bool)) (x : ℕ × Bool) (i : ℕ)
    → get_elem? (filter f l) i ≡ some x → Has x l × (f x ≡ true)
has_filter f [] x i e = absurd (some-ne-none x (sym e))
has_filter f (p ∷ l) x i e = keep_case f (f p) p l x i refl (has_filter f l x) e

module _ {T E : Type 0} {entries : T → List E} {session : E → ℕ} {has_room : T → ℕ → Bool}
    {opening : T} {turns : ℕ} where
  pub cuts : (id t sn : ℕ) (v : View T E) → v.stage ≡ Idle → t ≤ v.left → (b : Bool)
      → Has (sn, b) v.sessions → Splits (Turning entries session has_room opening turns) id v
      (cut_left t sn v) (cut_right t sn v)
  cuts id t sn v idle some_left b has s r at =
      let l : View T E = cut_left t sn v in
      let w : View T E = cut_right t sn v in
      let vs : List (View T E) = set s.views id l in
      let new : ℕ = length s.views in
      let mine = r.each id v at in
      let inside = in_list s.views id v at in
      let long : length vs ≡ new = length-set s.views id l in
      let owner : ℕ → ℕ = λ z. either (eqb z sn) new (r.owner z) in
      let holds_it : r.owner sn ≡ id = (mine.owns sn b has).0 in
      let left_has : (z : ℕ) (c : Bool) → Has (z, c) l.sessions → Has (z, c) v.sessions × (z ≢ sn) =
      λ z c h. let k = has_filter (λ p. not (p.0 == sn)) v.sessions (z, c) h.0 h.1 in
      (k.0, other_number z sn k.1) in
      let right_has : (z : ℕ) (c : Bool) → Has (z, c) w.sessions → Has (z, c) v.sessions
      × (z ≡ sn) = λ z c h. let k = has_filter (λ p. p.0 == sn) v.sessions (z, c) h.0 h.1 in
      (k.0, same_number z sn k.1) in
      let all = total_set (λ (u : View T E). u.left + u.taken) s.views id v l at in
      let all' = total_snoc (λ (u : View T E). u.left + u.taken) vs w in
      let taken = total_set (λ (u : View T E). u.taken) s.views id v l at in
      let taken' = total_snoc (λ (u : View T E). u.taken) vs w in
      let own = total_set (λ (u : View T E). length u.own) s.views id v l at in
      let own' = total_snoc (λ (u : View T E). length u.own) vs w in
      let was_all = r.all_turns in
      let was_taken = r.drawn in
      let was_own = r.written in
      let Now : ℕ → View T E → Type 0 = Fits session (length (entries opening)) turns r.serving
      r.next r.log owner r.holder r.author in
      let each : (j : ℕ) (u : View T E) → get_elem? vs j ≡ some u → Now j u =
      all_set Now s.views id l record {
        seen = mine.seen;
        noted = mine.noted;
        behind = λ p e le there c h. mine.behind p e le there c (left_has (session e) c h).0;
        owns = λ z c h.
            let k = left_has z c h in
            let o = mine.owns z c k.0 in
            (passes_by z sn new (r.owner z) k.1 ∙ o.0, o.1);
        noted_behind = λ p e le there b h. some-ne-none (session e, b) (sym h.1);
        noted_owns = λ z b h. absurd (some-ne-none (z, b) (sym h.1));
        noted_opens = mine.noted_opens;
        span_is = mine.span_is;
        opens = mine.opens;
        whole = λ every. mine.whole (let span = mine.span_is (omega arith) in
            let most = total_at (λ (u : View T E). u.left + u.taken) s.views id v at in
            omega arith);
        made = mine.made;
        some_turns = mine.some_turns;
        ticketed = mine.ticketed;
        stands = mine.stands;
      } (λ j u ne e.
      fits_kept r.serving r.next r.log r.owner owner r.holder r.author r.author j u
      (λ z o. passes_by z sn new (r.owner z)
      (λ q. ne (sym o ∙ (ap r.owner q ∙ holds_it))) ∙ o) (λ p o. o) (r.each j u e)) in
      let fresh : Now new w = record {
        seen = mine.seen;
        noted = mine.seen;
        behind = λ p e le there c h. mine.behind p e le there c (right_has (session e) c h).0;
        owns = λ z c h.
            let k = right_has z c h in (picks z sn new (r.owner z) k.1, (mine.owns z c k.0).1);
        noted_behind = λ p e le there b h. some-ne-none (session e, b) (sym h.1);
        noted_owns = λ z b h. absurd (some-ne-none (z, b) (sym h.1));
        noted_opens = mine.opens;
        span_is = mine.span_is;
        opens = mine.opens;
        whole = λ every. mine.whole (let span = mine.span_is (omega arith) in
            let most = total_at (λ (u : View T E). u.left + u.taken) s.views id v at in
            omega arith);
        made = λ p e h. absurd (some-ne-none (p, e) (sym h.1));
        some_turns = omega arith;
        ticketed = omega arith;
        stands = tt;
      } in
      let older = authors_kept s.views r.author (length (entries opening)) (length r.log) id v l at
      refl r.authors in
      record {
        next = r.next;
        serving = r.serving;
        log = r.log;
        owner = owner;
        holder = r.holder;
        author = r.author;
        order = r.order;
        words = r.words;
        few = r.few;
        begins = r.begins;
        known = r.known;
        all_turns = omega arith;
        drawn = omega arith;
        written = omega arith;
        each = λ j u e. ⊎_elim (each j u)
            (λ (h : (j ≡ length vs) × (w ≡ u)). subst (λ (y : ℕ × View T E). Now y.0 y.1)
            (λ i. (sym (h.0 ∙ long) i, h.1 i)) fresh) (snoc_cases vs w u j e);
        authors = λ p a c.
            let h = older p a c in (h.0, h.1, at_longer vs (w ∷ []) (r.author p) h.0 h.2, h.3);
        place = ⊎_elim
            (λ h. inl record {
              value = h.value;
              home = h.home;
              entries_are = h.entries_are;
              rooms = λ j u e. ⊎_elim
                  (all_set (λ j u. HasRooms has_room u.sessions h.value) s.views id l
                  (λ z c k. h.rooms id v at z c (left_has z c k).0) (λ j u _ e'. h.rooms j u e') j
                  u)
                  (λ (k : (j ≡ length vs) × (w ≡ u)). subst
                  (λ (y : View T E). HasRooms has_room y.sessions h.value) k.1
                  (λ z c m. h.rooms id v at z c (right_has z c m).0)) (snoc_cases vs w u j e);
              none_out = λ j u e. ⊎_elim
                  (all_set (λ j u. Rests u.stage) s.views id l (subst Rests (sym idle) tt)
                  (λ j u _ e'. h.none_out j u e') j u)
                  (λ (k : (j ≡ length vs) × (w ≡ u)). subst (λ (y : View T E). Rests y.stage) k.1
                  tt) (snoc_cases vs w u j e);
            })
            (λ o. inr record {
              home = o.home;
              seat = o.seat;
              view = o.view;
              was = o.was;
              here = at_longer vs (w ∷ []) o.seat o.view (dite (ℕ_discrete o.seat id)
                  (λ q. let u : o.view ≡ v =
                  one_view s.views id o.view v
                  (subst (λ j. get_elem? s.views j ≡ some o.view) q o.here) at in
                  absurd (out_rests r.serving o.was o.view.stage o.has
                  (subst Rests (sym (ap (λ (x : View T E). x.stage) u ∙ idle)) tt)))
                  (λ ne. set_else s.views id o.seat l ne ∙ o.here));
              has = o.has;
              rooms = λ j u e. ⊎_elim
                  (all_set (λ j u. HasRooms has_room u.sessions o.was) s.views id l
                  (λ z c k. o.rooms id v at z c (left_has z c k).0) (λ j u _ e'. o.rooms j u e') j
                  u)
                  (λ (k : (j ≡ length vs) × (w ≡ u)). subst
                  (λ (y : View T E). HasRooms has_room y.sessions o.was) k.1
                  (λ z c m. o.rooms id v at z c (right_has z c m).0)) (snoc_cases vs w u j e);
            })
            r.place;
      }
