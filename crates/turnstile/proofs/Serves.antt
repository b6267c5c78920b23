-- To serve the next ticket keeps the rule.
use Rattle.std.proofs.Common.{◌≡◌, ℕ, zero, suc, ◌+◌, ◌%◌, ◌^◌, inl, Bool, List, [], ◌∷◌}
use Rattle.std.proofs.Common.{length, get_or, set, sym, refl, ap, ◌∙◌, subst, arith}
use Rattle.std.specs.Prelude.{Option, Some}
use mathlib.Core.Option.{Option as Maybe, some, none, some-injective, some-ne-none}
use lib.ListN.{get_elem?}
use Rattle.atomic_table.specs.Table.{State, Me, step, gives, homes_after, put_back, rest, Allows}
use Rattle.turnstile.specs.declared.rule.View.{View}
use Rattle.turnstile.specs.declared.rule.Stage.TheVariants.{Done}
use Rattle.turnstile.specs.Lists.{Has}
use Rattle.turnstile.specs.Sessions.{rooms_of, HasRooms}
use Rattle.turnstile.specs.Steps.{served}
use Rattle.turnstile.specs.Turns.{Stands, Fits, HasOut, Turning}
use Rattle.turnstile.specs.Views.{Rests, pending, rested}
use Rattle.turnstile.proofs.Sums.{total_set}
use Rattle.turnstile.proofs.Slots.{slot_value}
use Rattle.turnstile.proofs.Seats.{all_set, authors_kept, fits_moved, stands_served, was_is}
use Rattle.turnstile.proofs.Rules.{served_at, tickets_fit, is_out, is_out_at}

module _ {T : Type 0} (has_room : T → ℕ → Bool) where
  pub has_map : (f : T) (l : List (ℕ × Bool)) (i sn : ℕ) (b : Bool)
      → get_elem? (rooms_of has_room f l) i ≡ some (sn, b)
      → ((b' : Bool) × (get_elem? l i ≡ some (sn, b'))) × (has_room f sn ≡ b)
  has_map f [] i sn b e = absurd (some-ne-none (sn, b) (sym e))
  has_map f (x ∷ xs) zero sn b e =
      let q : (x.0, has_room f x.0) ≡ (sn, b) = some-injective (x.0, has_room f x.0) (sn, b) e in
      let q0 : x.0 ≡ sn = ap (λ (z : ℕ × Bool). z.0) q in
      ((x.1, λ k. some (q0 k, x.1)), ap (has_room f) (sym q0) ∙ ap (λ (z : ℕ × Bool). z.1) q)
  has_map f (x ∷ xs) (suc i) sn b e = has_map f xs i sn b e

module _ {T E : Type 0} {entries : T → List E} {session : E → ℕ} {has_room : T → ℕ → Bool}
    {opening : T} {turns : ℕ} where
  pub serve : (s : State (Option T) (View T E))
      (r : Turning entries session has_room opening turns s) (id : ℕ) (v : View T E) (t : ℕ)
      (x y : T) (at : get_elem? s.views id ≡ some v) (stage : v.stage ≡ Done t x)
      (seen : v.seen ≡ entries y)
      → ((s : ℕ) → ((b : Bool) → Has (s, b) v.sessions → ⊥) → has_room y s ≡ has_room x s)
      → (words' : List ℕ) (homes' : List (Maybe (Option T))) → words' ≡ length r.log ∷ r.next
      ∷ (r.serving + 1) ∷ [] → homes' ≡ some (Some y) ∷ []
      → Turning entries session has_room opening turns record
      { words = words'; homes = homes'; views = set s.views id (rested has_room v y) }
  serve s r id v t x y at stage seen rooms words' homes' words_are homes_are =
      let w : View T E = rested has_room v y in
      let mine = r.each id v at in
      let k : Stands r.serving r.next r.log r.holder id v.seen (Done t x) =
      subst (Stands r.serving r.next r.log r.holder id v.seen) stage mine.stands in
      let holds : r.holder r.serving ≡ id = ap r.holder (sym k.0) ∙ k.2 in
      let out = is_out s r id v at (λ q. let z : Rests (Done t x) = subst Rests stage q in z) holds
      in
      let o = out.0 in
      let was : HasOut r.serving o.was (Done t x) =
      subst (HasOut r.serving o.was) (ap (λ (u : View T E). u.stage) out.2 ∙ stage) o.has in
      let none_now : pending v.stage ≡ 0 = ap pending stage in
      let all = total_set (λ (u : View T E). u.left + u.taken) s.views id v w at in
      let taken = total_set (λ (u : View T E). u.taken) s.views id v w at in
      let own = total_set (λ (u : View T E). length u.own) s.views id v w at in
      let was_all = r.all_turns in
      let was_taken = r.drawn in
      let was_own = r.written in
      let some_turns = mine.some_turns in
      let low = k.0 in
      let low' = k.1 in record {
        next = r.next;
        serving = r.serving + 1;
        log = r.log;
        owner = r.owner;
        holder = r.holder;
        author = r.author;
        order = omega arith;
        words = words_are;
        few = r.few;
        begins = r.begins;
        known = r.known;
        all_turns = omega arith;
        drawn = omega arith;
        written = omega arith;
        each = all_set (Fits session (length (entries opening)) turns (r.serving + 1) r.next r.log
            r.owner r.holder r.author) s.views id w record {
              seen = mine.seen;
              noted = mine.noted;
              behind = λ p e le there b h.
                  let m = has_map has_room y v.sessions h.0 (session e) b h.1 in
                  mine.behind p e le there m.0.0 (h.0, m.0.1);
              owns = λ sn b h.
                  let m = has_map has_room y v.sessions h.0 sn b h.1 in
                  mine.owns sn m.0.0 (h.0, m.0.1);
              noted_behind = mine.noted_behind;
              noted_owns = λ z b h. ((mine.noted_owns z b h).0, refl);
              noted_opens = mine.noted_opens;
              span_is = mine.span_is;
              opens = mine.opens;
              whole = mine.whole;
              made = mine.made;
              some_turns = omega arith;
              ticketed = omega arith;
              stands = tt;
            } (λ j u ne e'.
            let theirs = r.each j u e' in
            fits_moved r.serving r.next (r.serving + 1) r.next r.log r.owner r.holder r.holder
            r.author j u theirs (stands_served r.serving r.next r.log r.holder j id u.seen holds ne
            u.stage theirs.stands).0);
        authors = authors_kept s.views r.author (length (entries opening)) (length r.log) id v w at
            refl r.authors;
        place = inl record {
          value = y;
          home = homes_are;
          entries_are = sym seen ∙ k.3;
          rooms = all_set (λ j u. HasRooms has_room u.sessions y) s.views id w
              (λ sn b h. (has_map has_room y v.sessions h.0 sn b h.1).1)
              (λ j u ne e' sn b h. rooms sn
              (λ b' h'. ne (sym ((r.each j u e').owns sn b h).0 ∙ (mine.owns sn b' h').0))
              ∙ (ap (λ (z : T). has_room z sn) (was_is r.serving t x o.was was) ∙ o.rooms j u e'
              sn b h));
          none_out = all_set (λ j u. Rests u.stage) s.views id w tt
              (λ j u ne e'. (stands_served r.serving r.next r.log r.holder j id u.seen holds ne
              u.stage (r.each j u e').stands).1);
        };
      }

  pub serves : (id slots : ℕ) (me : Me (Option T) (View T E)) (t : ℕ) (x y : T)
      → me.0.stage ≡ Done t x → me.1 ≡ (0, Some y) ∷ [] → me.0.seen ≡ entries y
      → ((s : ℕ) → ((b : Bool) → Has (s, b) me.0.sessions → ⊥) → has_room y s ≡ has_room x s)
      → Allows (Turning entries session has_room opening turns) slots id me 2
      (λ n. (n + 1) % 2 ^ 64) (served entries session has_room (step slots 2 1 0 none) me)
  serves id slots me t x y stage has seen rooms s r homes at bound =
      let v = me.0 in
      let w : View T E = rested has_room v y in
      let is : get_or s.words 2 0 ≡ r.serving = served_at s r in
      let few = r.few in
      let order = r.order in
      let fits = tickets_fit s.views r.next id v r.all_turns r.drawn at in
      let home : s.homes ≡ none ∷ [] = (is_out_at s r id v t x at stage) in (
        w,
        gives,
        tt,
        serve s r id v t x y at stage seen rooms (set s.words 2 ((get_or s.words 2 0 + 1) % 2 ^ 64))
            (homes_after s.homes me.1 gives)
            (ap (λ ws. set ws 2 ((get_or s.words 2 0 + 1) % 2 ^ 64)) r.words
            ∙ ap (λ c. length r.log ∷ r.next ∷ c ∷ []) (omega arith))
            (ap (put_back s.homes) has
            ∙ ap (λ (l : List (Maybe (Option T))). set l 0 (some (Some y))) home),
        λ y' has'. (ap rest has, ap (rested has_room v) (slot_value y y' me.1 has has')),
      )

module _ {T E : Type 0} (entries : T → List E) (session : E → ℕ) (has_room : T → ℕ → Bool) where
  pub left_view : (st : _) (n : ℕ) (v : View T E) (y : T) (m m' : Me (Option T) (View T E))
      → served entries session has_room st m n m' → m ≡ (v, (0, Some y) ∷ [])
      → m' ≡ (rested has_room v y, [])
  left_view st n v y m m' p e =
      let k = (subst (λ z. served entries session has_room st z n m') e p) y refl in
      λ i. (k.1 i, k.0 i)
