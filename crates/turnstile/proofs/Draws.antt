-- A draw of a ticket keeps the rule.
use Rattle.std.proofs.Common.{◌≡◌, ℕ, ◌+◌, ◌%◌, ◌^◌, ◌<◌, Bool, eqb, List, [], ◌∷◌, length}
use Rattle.std.proofs.Common.{get_or, set, sym, refl, ap, ◌∙◌, subst, arith}
use Rattle.std.specs.Prelude.{Option}
use mathlib.Core.Option.{none, some-ne-none}
use prog.Atomic.{either}
use Rattle.atomic_table.specs.Table.{Me, step, keeps, Allows}
use Rattle.turnstile.specs.declared.rule.View.{View}
use Rattle.turnstile.specs.declared.rule.Stage.TheVariants.{Idle}
use Rattle.turnstile.specs.Steps.{drew}
use Rattle.turnstile.specs.Turns.{Fits, Turning}
use Rattle.turnstile.specs.Views.{Rests, pending, waiting}
use Rattle.turnstile.proofs.Sums.{total_set}
use Rattle.turnstile.proofs.Seats.{picks, passes_by, all_set, authors_kept, fits_moved, stands_more}
use Rattle.turnstile.proofs.Rules.{word_at, tickets_fit, place_kept}

module _ {T E : Type 0} {entries : T → List E} {session : E → ℕ} {has_room : T → ℕ → Bool}
    {opening : T} {turns : ℕ} where
  pub draws : (id slots : ℕ) (me : Me (Option T) (View T E)) → me.0.stage ≡ Idle → 0 < me.0.left
      → Allows (Turning entries session has_room opening turns) slots id me 1
      (λ n. (n + 1) % 2 ^ 64) (drew (step slots 1 1 0 none) me)
  draws id slots me idle some_left s r homes at bound =
      let v = me.0 in
      let n : ℕ = get_or s.words 1 0 in
      let is : n ≡ r.next = word_at s r in
      let w : View T E = waiting v n in
      let fits = tickets_fit s.views r.next id v r.all_turns r.drawn at in
      let few = r.few in
      let mine = r.each id v at in
      let holder : ℕ → ℕ = λ t. either (eqb t n) id (r.holder t) in
      let older : (t : ℕ) → t < r.next → holder t ≡ r.holder t =
      λ t b. passes_by t n id (r.holder t) (λ e. omega arith) in
      let all = total_set (λ (u : View T E). u.left + u.taken) s.views id v w at in
      let taken = total_set (λ (u : View T E). u.taken) s.views id v w at in
      let own = total_set (λ (u : View T E). length u.own) s.views id v w at in
      let was_all = r.all_turns in
      let was_taken = r.drawn in
      let was_own = r.written in
      let order = r.order in (
        w,
        keeps,
        tt,
        record {
          next = r.next + 1;
          serving = r.serving;
          log = r.log;
          owner = r.owner;
          holder = holder;
          author = r.author;
          order = omega arith;
          words = ap (λ ws. set ws 1 ((n + 1) % 2 ^ 64)) r.words
              ∙ ap (λ k. length r.log ∷ k ∷ r.serving ∷ []) (omega arith);
          few = r.few;
          begins = r.begins;
          known = r.known;
          all_turns = omega arith;
          drawn = omega arith;
          written = omega arith;
          each = all_set (Fits session (length (entries opening)) turns r.serving (r.next + 1) r.log
              r.owner holder r.author) s.views id w record {
                seen = mine.seen;
                noted = mine.noted;
                behind = mine.behind;
                owns = mine.owns;
                noted_behind = λ p e le there b h. some-ne-none (session e, b) (sym h.1);
                noted_owns = λ z b h. absurd (some-ne-none (z, b) (sym h.1));
                noted_opens = mine.noted_opens;
                span_is = mine.span_is;
                opens = mine.opens;
                whole = λ every. mine.whole (omega arith);
                made = mine.made;
                some_turns =
                    let h = mine.some_turns in
                    let z : pending v.stage ≡ 0 = ap pending idle in
                    omega arith;
                ticketed = omega arith;
                stands = (omega arith, omega arith, picks n n id (r.holder n) refl);
              } (λ j u ne e.
              let theirs = r.each j u e in
              fits_moved r.serving r.next r.serving (r.next + 1) r.log r.owner r.holder holder
              r.author j u theirs (stands_more r.serving r.next (r.next + 1) r.log r.holder holder j
              u.seen (omega arith) older u.stage theirs.stands));
          authors = authors_kept s.views r.author (length (entries opening)) (length r.log) id v w
              at refl r.authors;
          place = place_kept s.words (set s.words 1 ((n + 1) % 2 ^ 64)) s.homes s.views r.log
              r.serving id v w at refl (subst Rests (sym idle) tt) tt r.place;
        },
        (refl, omega arith, refl),
      )
