-- A new turnstile keeps the rule.
use Rattle.std.proofs.Common.{◌≡◌, ℕ, zero, suc, ◌+◌, ◌^◌, ◌≤◌, inl, Bool, List, [], ◌∷◌}
use Rattle.std.proofs.Common.{length, sym, refl, ap, ◌∙◌, subst, arith, map}
use Rattle.std.specs.Prelude.{Option, Some}
use Rattle.std.specs.List.{AllByRecursion}
use mathlib.Core.Option.{some, some-injective, some-ne-none}
use lib.ListN.{get_elem?}
use Rattle.atomic_table.specs.Table.{opening as opened}
use Rattle.turnstile.specs.declared.rule.View.{View}
use Rattle.turnstile.specs.Sessions.{HasRooms, IsSession, sixteen}
use Rattle.turnstile.specs.Turns.{Fits, Turning}
use Rattle.turnstile.specs.Views.{Rests, first_view}
use Rattle.turnstile.proofs.Sums.{prefix_all}
use Rattle.turnstile.proofs.Places.{beyond}

pub sixteen_sessions : AllByRecursion IsSession sixteen
sixteen_sessions = (
  (omega arith, omega arith),
  (
    (omega arith, omega arith),
    (
      (omega arith, omega arith),
      (
        (omega arith, omega arith),
        (
          (omega arith, omega arith),
          (
            (omega arith, omega arith),
            (
              (omega arith, omega arith),
              (
                (omega arith, omega arith),
                (
                  (omega arith, omega arith),
                  (
                    (omega arith, omega arith),
                    (
                      (omega arith, omega arith),
                      (
                        (omega arith, omega arith),
                        (
                          (omega arith, omega arith),
                          (
                            (omega arith, omega arith),
                            ((omega arith, omega arith), ((omega arith, omega arith), tt)),
                          ),
                        ),
                      ),
                    ),
                  ),
                ),
              ),
            ),
          ),
        ),
      ),
    ),
  ),
)

module _ {T E : Type 0} where
  pub first_only : (f u : View T E) (j : ℕ) → get_elem? (f ∷ []) j ≡ some u → (j ≡ 0) × (f ≡ u)
  first_only f u zero e = (refl, some-injective f u e)
  first_only f u (suc j) e = absurd (some-ne-none u (sym e))

module _ {T : Type 0} (has_room : T → ℕ → Bool) (opening : T) where
  pub rooms_first : (l : List ℕ) (i sn : ℕ) (b : Bool)
      → get_elem? (map (λ k. let q : ℕ × Bool = (k, has_room opening k) in q) l) i ≡ some (sn, b)
      → has_room opening sn ≡ b
  rooms_first [] i sn b e = absurd (some-ne-none (sn, b) (sym e))
  rooms_first (x ∷ xs) zero sn b e =
      let q : (x, has_room opening x) ≡ (sn, b) = some-injective (x, has_room opening x) (sn, b) e
      in
      ap (has_room opening) (sym (ap (λ (z : ℕ × Bool). z.0) q)) ∙ ap (λ (z : ℕ × Bool). z.1) q
  rooms_first (x ∷ xs) (suc i) sn b e = rooms_first xs i sn b e

  pub few_first : (l : List ℕ) → AllByRecursion IsSession l → (i sn : ℕ) (b : Bool)
      → get_elem? (map (λ k. let q : ℕ × Bool = (k, has_room opening k) in q) l) i ≡ some (sn, b)
      → IsSession sn
  few_first [] all i sn b e = absurd (some-ne-none (sn, b) (sym e))
  few_first (x ∷ xs) all zero sn b e =
      let q : (x, has_room opening x) ≡ (sn, b) = some-injective (x, has_room opening x) (sn, b) e
      in
      subst IsSession (ap (λ (z : ℕ × Bool). z.0) q) all.0
  few_first (x ∷ xs) all (suc i) sn b e = few_first xs all.1 i sn b e

module _ {T E : Type 0} {entries : T → List E} {session : E → ℕ} {has_room : T → ℕ → Bool}
    {opening : T} {turns : ℕ} where
  pub begins : length (entries opening) + turns ≤ 2 ^ 62 → (n : ℕ) → n ≡ length (entries opening)
      → (slots : List (Option T)) → slots ≡ Some opening ∷ []
      → Turning entries session has_room opening turns
      (opened (n ∷ 0 ∷ 0 ∷ []) slots (first_view entries has_room opening turns))
  begins few n is slots slots_are =
      let f : View T E = first_view entries has_room opening turns in
      let log : List E = entries opening in
      let one : (j : ℕ) (u : View T E) → get_elem? (f ∷ []) j ≡ some u → (j ≡ 0) × (f ≡ u) =
      λ j u e. first_only f u j e in
      record {
        next = 0;
        serving = 0;
        log = log;
        owner = λ _. 0;
        holder = λ _. 0;
        author = λ _. 0;
        order = omega arith;
        words = ap (λ k. k ∷ 0 ∷ 0 ∷ []) is;
        few = few;
        begins = prefix_all log;
        known = λ p e le there. absurd (beyond log p e there le);
        all_turns = omega arith;
        drawn = omega arith;
        written = omega arith;
        each = λ j u e. subst
            (λ (y : ℕ × View T E). Fits session (length (entries opening)) turns 0 0 log (λ _. 0)
            (λ _. 0) (λ _. 0) y.0 y.1) (λ i. (sym (one j u e).0 i, (one j u e).1 i)) record {
              seen = prefix_all log;
              noted = prefix_all log;
              behind = λ p e' le there b h. beyond log p e' there le;
              owns = λ sn b h.
                  (refl, few_first has_room opening sixteen sixteen_sessions h.0 sn b h.1);
              noted_behind = λ p e le there b h. some-ne-none (session e, b) (sym h.1);
              noted_owns = λ z b h. absurd (some-ne-none (z, b) (sym h.1));
              noted_opens = λ _. omega arith;
              span_is = λ _. refl;
              opens = λ _. omega arith;
              whole = λ _. refl;
              made = λ p e' h. absurd (some-ne-none (p, e') (sym h.1));
              some_turns = omega arith;
              ticketed = omega arith;
              stands = tt;
            };
        authors = λ p a b. absurd (omega arith);
        place = inl record {
          value = opening;
          home = ap (map some) slots_are;
          entries_are = refl;
          rooms = λ j u e. subst (λ (u : View T E). HasRooms has_room u.sessions opening)
              (one j u e).1 (λ sn b h. rooms_first has_room opening sixteen h.0 sn b h.1);
          none_out = λ j u e. subst (λ (u : View T E). Rests u.stage) (one j u e).1 tt;
        };
      }
