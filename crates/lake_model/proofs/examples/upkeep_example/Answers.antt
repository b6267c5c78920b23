use Rattle.std.proofs.Common.{◌≡◌, ℕ, ◌≤◌, Bool, true, false, ◌&&◌, ◌||◌, List, [], ◌∷◌, take, nat_eq, nat_le, leb-true, refl, sym, ◌∙◌, inl, inr, arith}
use Rattle.std.proofs.lemmas.List.Elements.{All-nil}
use Rattle.std.specs.List.{AllByRecursion, list_all, list_any}
use Rattle.std.proofs.lemmas.Bool.{eqb-true}
use Rattle.lake_model.specs.State.{Noted, state, view}
use Rattle.sql_model.specs.Versions.{all_rows}
use Rattle.lake_model.specs.Following.{IsInOrder, MayFollow, places, statements}
use Rattle.lake_model.specs.Answers.{IsFailureOf}
use Rattle.sql_model.specs.Listing.{IsOneOf, IsPartOf}
use Rattle.sql_model.specs.declared.replies.Failure.TheVariants.{StoreFault}
use Rattle.sql_model.specs.declared.statements.Statement.TheVariants.{Commit}
use Rattle.sql_model.specs.declared.scripts.Step.{Step}
use Rattle.lake_model.specs.Examples.{entries, steps}
use Rattle.lake_model.proofs.UpkeepExample.{all_due, marks_due, worn_seen}
use Rattle.lake_model.proofs.examples.upkeep_example.Goals as goal

-- no rows are part of all rows
nothing : {X : Type 0} (ys : List X) → IsPartOf [] ys
nothing ys = (ys, λ g. refl)

-- a statement that removes nothing removes what its session sees behind so many entries
unseen : (count session : ℕ)
    → IsPartOf [] (all_rows (view (state (take count entries)) session).tables)
unseen count session = nothing (all_rows (view (state (take count entries)) session).tables)

-- entries whose places don't fall are in order

split : (a b : Bool) → a && b ≡ true → (a ≡ true) × (b ≡ true)
split true b e = (refl, e)
split false b e = absurd cc

abbrev rise : List Noted → Bool
rise [] = true
rise (e ∷ es) = list_all (λ f. nat_le e.entry.place f.entry.place) es && rise es

all_follow : (x : List Step) (e : Noted) (es : List Noted) → list_all (λ f. nat_le e.entry.place f.entry.place) es ≡ true → AllByRecursion (MayFollow x e) es
all_follow x e [] all = tt
all_follow x e (f ∷ fs) all =
    let (this, those) = split (nat_le e.entry.place f.entry.place) (list_all (λ g. nat_le e.entry.place g.entry.place) fs) all in
    (inl (leb-true e.entry.place f.entry.place this), all_follow x e fs those)

in_order : (x : List Step) (es : List Noted) → rise es ≡ true → IsInOrder x es
in_order x [] rises = tt
in_order x (e ∷ es) rises =
    let (first, later) = split (list_all (λ f. nat_le e.entry.place f.entry.place) es) (rise es) rises in
    (all_follow x e es first, in_order x es later)

-- entries of these places alone

one_of : (ps : List ℕ) (p : ℕ) → list_any (λ q. nat_eq q p) ps ≡ true → IsOneOf ps p
one_of [] p any = absurd cc
one_of (q ∷ qs) p any =
    elim (nat_eq q p) as
    (λ b. nat_eq q p ≡ b → (b || list_any (λ r. nat_eq r p) qs) ≡ true → IsOneOf (q ∷ qs) p) [
      | true ↦ λ same any. inl (eqb-true q p same)
      | false ↦ λ differ any. inr (one_of qs p any)
    ] refl any

all_placed : (ps : List ℕ) (es : List Noted)
    → list_all (λ e. list_any (λ q. nat_eq q e.entry.place) ps) es ≡ true
    → AllByRecursion (λ e. IsOneOf ps e.entry.place) es
all_placed ps [] all = tt
all_placed ps (e ∷ es) all =
    let (this, those) =
    split (list_any (λ q. nat_eq q e.entry.place) ps)
    (list_all (λ f. list_any (λ q. nat_eq q f.entry.place) ps) es) all in
    (one_of ps e.entry.place this, all_placed ps es those)

-- the COMMIT fails rightly
failure : IsFailureOf (state (take 14 entries)) 2 false Commit (StoreFault 0)
failure = record { fails = refl; unrefused = refl; change = refl; own_calls = refl }

pub returns-clause-legal : goal.returns-clause-legal
returns-clause-legal c = (
  (refl, refl, refl),
  (
    (refl, refl, refl),
    (
      record { removes = unseen 2 1; adds = (refl, tt); once = (All-nil _, tt); filled = (refl, tt); replies = tt },
      (
        record { changed = refl; free = refl; next = refl; renames = refl; drops = refl },
        (
          (refl, refl, refl),
          (
            record { removes = unseen 5 1; adds = (refl, tt); once = (All-nil _, tt); filled = (refl, tt); replies = tt },
            (
              record { changed = refl; free = refl; next = refl; renames = refl; drops = refl },
              (
                (refl, refl, refl),
                (
                  (refl, refl, refl),
                  (
                    record {
                      single = refl;
                      all_due = sym all_due;
                      some = λ e. absurd cc;
                      all_marks = sym marks_due;
                      free = refl;
                      next = refl;
                      renames = refl;
                      drops = refl;
                    },
                    (
                      (refl, refl, refl),
                      (
                        (refl, refl, refl, refl),
                        (
                          (refl, (omega arith, omega arith, (omega arith, tt), refl, refl)),
                          (
                            record {
                              removes = unseen 13 2;
                              adds = (refl, tt);
                              once =
                                  (All-nil _, tt);
                              filled = (refl, tt);
                              replies = tt;
                            },
                            (tt, tt),
                          ),
                        ),
                      ),
                    ),
                  ),
                ),
              ),
            ),
          ),
        ),
      ),
    ),
  ),
)

pub returns-clause-follows : goal.returns-clause-follows
returns-clause-follows c = record {
  runs = (
    record {
      kinds = inl refl;
      answers = (record { session = refl; right = ((refl, refl), refl); ends = tt }, tt);
    },
    (
      record {
        kinds = inr (inr (inr (inl refl)));
        answers = (
          record { session = refl; right = refl; ends = tt },
          (
            record { session = refl; right = (refl, refl); ends = tt },
            (record { session = refl; right = refl; ends = tt }, tt),
          ),
        );
      },
      (
        record {
          kinds = inr (inr (inr (inl refl)));
          answers = (
            record { session = refl; right = refl; ends = tt },
            (
              record { session = refl; right = (refl, refl); ends = tt },
              (record { session = refl; right = refl; ends = tt }, tt),
            ),
          );
        },
        (
          record {
            kinds = inl refl;
            answers = (record { session = refl; right = refl; ends = tt }, tt);
          },
          (
            record {
              kinds = inr (inr (inr (inr (inl refl))));
              answers = (
                record { session = refl; right = refl; ends = tt },
                (record { session = refl; right = (refl, refl, refl); ends = tt }, tt),
              );
            },
            (
              record {
                kinds = inr (inr (inl refl));
                answers = (
                  record { session = refl; right = refl; ends = tt },
                  (record { session = refl; right = (refl, refl); ends = tt }, tt),
                );
              },
              (
                record {
                  kinds = inl refl;
                  answers = (record { session = refl; right = (refl, refl); ends = tt }, tt);
                },
                (
                  record {
                    kinds = inl refl;
                    answers = (record { session = refl; right = (refl, refl); ends = tt }, tt);
                  },
                  (
                    record {
                      kinds = inr (inr (inr (inl refl)));
                      answers = (record { session = refl; right = failure; ends = refl }, tt);
                    },
                    tt,
                  ),
                ),
              ),
            ),
          ),
        ),
      ),
    ),
  );
  no_others = all_placed (places (statements steps)) entries refl;
  order = in_order steps entries refl;
}

pub returns-clause-other_cell : goal.returns-clause-other_cell
returns-clause-other_cell c = λ legal.
    let due = legal.1.1.1.1.1.1.1.1.1.0.all_due in
    let same : ◌≡◌ {A = List ℕ} (0 ∷ []) (15 ∷ []) = due ∙ all_due in
    absurd cc

pub returns-clause-open_snapshot : goal.returns-clause-open_snapshot
returns-clause-open_snapshot c = λ legal.
    let below : 4 ≤ 3 = legal.1.1.1.1.1.1.1.1.1.1.1.1.0.1.2.0 in absurd (omega (arith, below))

pub returns-clause-ends : goal.returns-clause-ends
returns-clause-ends c = λ follows.
    let ends : false ≡ true = follows.runs.1.1.1.1.1.1.1.1.0.answers.0.ends in absurd cc

pub returns-clause-checks : goal.returns-clause-checks
returns-clause-checks c = refl

pub returns-clause-struck : goal.returns-clause-struck
returns-clause-struck c = refl

pub returns-clause-worn : goal.returns-clause-worn
returns-clause-worn c = worn_seen
