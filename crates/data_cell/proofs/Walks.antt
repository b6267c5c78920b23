-- A walk over rows and over the positions of those that are gone, side by side.
use Rattle.std.proofs.Common.{◌≡◌, ℕ, ◌+◌, ◌<◌, ◌≤◌, Bool, true, false, ◌||◌, cond, eqb, nat_le, List, [], ◌∷◌, ◌++◌, length, map, get_or, take, Option, Some, None, refl, sym, ap, subst, ◌∙◌, inl, inr, arith}
use Rattle.std.specs.Prelude.{All, not, ◌==◌, IfSome}
use Rattle.std.specs.Bool.{then_some}
use Rattle.std.specs.List.{filter, enumerate_from}
use Rattle.std.specs.List.Sorted.{IsStrictlyIncreasing}
use Rattle.std.proofs.lemmas.Bool.{false≢true, eq-eqb, ne_eqb, cases_eq, ltb-true}
use Rattle.std.proofs.lemmas.List.{take_more, length-take-le}
use Rattle.std.proofs.lemmas.List.Elements.{filter_passes, All-head, All-tail, All-weaker}
use Rattle.lake_values.specs.declared.values.Value.{Value}
use Rattle.deletion_vector.specs.Positions.{has}
use Rattle.deletion_vector.proofs.Ascending.{Ascends, Ascends-from_increasing}
use Rattle.data_cell.specs.Live.{is_live, live_rows}
use Rattle.data_cell.specs.Walking.{behind}

-- positions that ascend strictly, from a bound on
abbrev pub Rises : ℕ → List ℕ → Type 0
Rises from [] = Unit {0}
Rises from (x ∷ xs) = (from ≤ x) × Rises (x + 1) xs

rises_behind : (before : ℕ) (xs : List ℕ) → Ascends (Some before) xs → Rises (before + 1) xs
rises_behind before [] up = tt
rises_behind before (x ∷ xs) up = let less = ltb-true before x up.0 in (omega (arith, less), rises_behind x xs up.1)

pub Rises-from_increasing : (from : ℕ) (xs : List ℕ) → IsStrictlyIncreasing xs → All (λ x. from ≤ x) xs → Rises from xs
Rises-from_increasing from [] up all = tt
Rises-from_increasing from (x ∷ xs) up all = (All-head (λ x. from ≤ x) x xs all, rises_behind x xs (Ascends-from_increasing (x ∷ xs) up).1)

Rises-lower : (from to : ℕ) (xs : List ℕ) → from ≤ to → Rises to xs → Rises from xs
Rises-lower from to [] le up = tt
Rises-lower from to (x ∷ xs) le up = let least = up.0 in (omega (arith, least), up.1)

-- positions that ascend from a bound on have nothing below it
has_none : (from position : ℕ) (xs : List ℕ) → Rises from xs → position < from → has position xs ≡ false
has_none from position [] up lt = refl
has_none from position (x ∷ xs) up lt =
    let least = up.0 in
    let first : eqb x position ≡ false = ne_eqb x position (λ e. omega (arith, e, least)) in
    rw (first, has_none (x + 1) position xs up.1 (omega (arith, least))) refl

-- The positions of rest are those of gone from a place on.
pub record IsRest (place : ℕ) (gone rest : List ℕ) : Type 0 where
  pub rises : Rises place rest
  pub same : (position : ℕ) → place ≤ position → has position gone ≡ has position rest

pub IsRest-all : (gone : List ℕ) → IsStrictlyIncreasing gone → IsRest 0 gone gone
IsRest-all gone up = record { rises = Rises-from_increasing 0 gone up (λ k d lt. omega arith); same = λ position le. refl }

le_from_test : (a b : ℕ) → nat_le a b ≡ true → a ≤ b
le_from_test a b e = grind (arith, e)

lt_from_test : (a b : ℕ) → nat_le a b ≡ false → b < a
lt_from_test a b e = grind (arith, e)

from_step : (passes : Bool) (from position x : ℕ) (xs above : List ℕ) → nat_le from x ≡ passes → from ≤ position → has position xs ≡ has position above → has position (x ∷ xs) ≡ has position (cond passes (x ∷ above) above)
from_step true from position x xs above e le others = ap (λ (b : Bool). x == position || b) others
from_step false from position x xs above e le others =
    let below = lt_from_test from x e in
    let differs : eqb x position ≡ false = ne_eqb x position (λ same. omega (arith, same, below, le)) in
    ap (λ (b : Bool). b || has position xs) differs ∙ others

has_from : (from position : ℕ) (xs : List ℕ) → from ≤ position → has position xs ≡ has position (filter (λ x. nat_le from x) xs)
has_from from position [] le = refl
has_from from position (x ∷ xs) le = from_step (nat_le from x) from position x xs (filter (λ x. nat_le from x) xs) refl le (has_from from position xs le)

pub IsRest-from : (from : ℕ) (gone rest : List ℕ) → rest ≡ filter (λ x. nat_le from x) gone → IsStrictlyIncreasing rest → IsRest from gone rest
IsRest-from from gone rest e up = record {
  rises = Rises-from_increasing from rest up (subst (λ (l : List ℕ). All (λ x. from ≤ x) l) (sym e) (All-weaker (λ x. nat_le from x ≡ true) (λ x. from ≤ x) (λ x t. le_from_test from x t) (filter (λ x. nat_le from x) gone) (filter_passes (λ x. nat_le from x) gone)));
  same = λ position le. has_from from position gone le ∙ ap (λ (l : List ℕ). has position l) (sym e);
}

-- The first of the rest is at the place, and it is taken off.
pub record IsTaken (place : ℕ) (gone rest more : List ℕ) : Type 0 where
  pub is_gone : has place gone ≡ true
  pub first : rest ≡ place ∷ more
  pub then : IsRest (place + 1) gone more

pub taken : (place : ℕ) (gone rest more : List ℕ) → behind place rest ≡ Some more → IsRest place gone rest → IsTaken place gone rest more
taken place gone [] more e r = absurd (cc)
taken place gone (x ∷ xs) more e r =
    elim (cases_eq x place) [
      | inl here ↦
          let hit : eqb x place ≡ true = eq-eqb x place here in
          let rest : xs ≡ more = some_same (rw hit at e) in
          record {
            is_gone = r.same place (omega arith) ∙ ap (λ (b : Bool). b || has place xs) hit;
            first = ap (λ (y : ℕ). y ∷ xs) here ∙ ap (λ (l : List ℕ). place ∷ l) rest;
            then = record {
              rises = subst (λ (l : List ℕ). Rises (place + 1) l) rest (subst (λ (y : ℕ). Rises (y + 1) xs) here r.rises.1);
              same = λ position le.
                  let miss : eqb x position ≡ false = ne_eqb x position (λ same. omega (arith, same, here, le)) in
                  r.same position (omega arith) ∙ ap (λ (b : Bool). b || has position xs) miss ∙ ap (λ (l : List ℕ). has position l) rest;
            };
          }
      | inr ne ↦ let miss : eqb x place ≡ false = ne_eqb x place ne in absurd (some_none (rw miss at e))
    ]
  where
    some_same : {a b : List ℕ} → Some a ≡ Some b → a ≡ b
    some_same e = cc

    some_none : {a : List ℕ} → None ≡ Some a → ⊥
    some_none e = cc

-- The rest begins behind the place.
pub record IsKept (place : ℕ) (gone rest : List ℕ) : Type 0 where
  pub is_left : has place gone ≡ false
  pub then : IsRest (place + 1) gone rest

pub kept : (place : ℕ) (gone rest : List ℕ) → behind place rest ≡ None → IsRest place gone rest → IsKept place gone rest
kept place gone rest e r =
    let above = rises_above place rest e r.rises in
    record {
      is_left = r.same place (omega arith) ∙ has_none (place + 1) place rest above (omega arith);
      then = record { rises = above; same = λ position le. r.same position (omega arith) };
    }
  where
    none_some : {a : List ℕ} → Some a ≡ None → ⊥
    none_some e = cc

    rises_above : (place : ℕ) (rest : List ℕ) → behind place rest ≡ None → Rises place rest → Rises (place + 1) rest
    rises_above place [] e up = tt
    rises_above place (x ∷ xs) e up =
        let least = up.0 in
        elim (cases_eq x place) [
          | inl here ↦ let hit : eqb x place ≡ true = eq-eqb x place here in absurd (none_some (rw hit at e))
          | inr ne ↦ (omega (arith, ne, least), up.1)
        ]

-- the rows that are left of those from a place on
abbrev pub left : ℕ → List ℕ → List (List Value) → List (List Value)
left place gone rows = map (λ r. r.1) (filter (λ r. is_live gone r.0) (enumerate_from place rows))

first_of_left : (gone_here : Bool) (place : ℕ) (row : List Value) (others : List (ℕ × List Value)) → map (λ (r : ℕ × List Value). r.1) (cond (not gone_here) ((place, row) ∷ others) others)
    ≡ cond gone_here (map (λ (r : ℕ × List Value). r.1) others) (row ∷ map (λ (r : ℕ × List Value). r.1) others)
first_of_left true place row others = refl
first_of_left false place row others = refl

left-cons : (place : ℕ) (gone : List ℕ) (row : List Value) (rows : List (List Value)) → left place gone (row ∷ rows) ≡ cond (has place gone) (left (place + 1) gone rows) (row ∷ left (place + 1) gone rows)
left-cons place gone row rows = first_of_left (has place gone) place row (filter (λ r. is_live gone r.0) (enumerate_from (place + 1) rows))

behind_first : (gone_here : Bool) (row : List Value) (xs ys : List (List Value)) → cond gone_here (xs ++ ys) (row ∷ (xs ++ ys)) ≡ cond gone_here xs (row ∷ xs) ++ ys
behind_first true row xs ys = refl
behind_first false row xs ys = refl

left-push : (place : ℕ) (gone : List ℕ) (rows : List (List Value)) (row : List Value) → left place gone (rows ++ row ∷ []) ≡ left place gone rows ++ cond (has (place + length rows) gone) [] (row ∷ [])
left-push place gone [] row =
    let here : place + 0 ≡ place = omega arith in
    left-cons place gone row [] ∙ ap (λ (p : ℕ). cond (has p gone) [] (row ∷ [])) (sym here)
left-push place gone (r ∷ rows) row =
    let here : (place + 1) + length rows ≡ place + length (r ∷ rows) = omega arith in
    let last : List (List Value) = cond (has ((place + 1) + length rows) gone) [] (row ∷ []) in
    left-cons place gone r (rows ++ row ∷ [])
    ∙ ap (λ (l : List (List Value)). cond (has place gone) l (r ∷ l)) (left-push (place + 1) gone rows row)
    ∙ behind_first (has place gone) r (left (place + 1) gone rows) last
    ∙ ap (λ (l : List (List Value)). l ++ last) (sym (left-cons place gone r rows))
    ∙ ap (λ (p : ℕ). left place gone (r ∷ rows) ++ cond (has p gone) [] (row ∷ [])) here

pub live_rows-push : (gone : List ℕ) (rows : List (List Value)) (row : List Value) → live_rows gone (rows ++ row ∷ []) ≡ live_rows gone rows ++ cond (has (length rows) gone) [] (row ∷ [])
live_rows-push gone rows row =
    let here : 0 + length rows ≡ length rows = omega arith in
    left-push 0 gone rows row ∙ ap (λ (p : ℕ). live_rows gone rows ++ cond (has p gone) [] (row ∷ [])) here

abbrev LeftAndGone : ℕ → List ℕ → List ℕ → List (List Value) → Type 0
LeftAndGone place gone rest rows = length (left place gone rows) + length rest ≡ length rows

count_step : (first : Option (List ℕ)) (place : ℕ) (gone rest : List ℕ) (row : List Value) (rows : List (List Value)) → behind place rest ≡ first → IsRest place gone rest → All (λ p. p < place + length (row ∷ rows)) rest
    → ((more : List ℕ) → IsRest (place + 1) gone more → All (λ p. p < (place + 1) + length rows) more → LeftAndGone (place + 1) gone more rows) → LeftAndGone place gone rest (row ∷ rows)
count_step None place gone rest row rows e r within others =
    let k = kept place gone rest e r in
    let those : left place gone (row ∷ rows) ≡ row ∷ left (place + 1) gone rows = left-cons place gone row rows ∙ ap (λ (b : Bool). cond b (left (place + 1) gone rows) (row ∷ left (place + 1) gone rows)) k.is_left in
    let count = others rest k.then (All-weaker (λ p. p < place + length (row ∷ rows)) (λ p. p < (place + 1) + length rows) (λ p lt. omega (arith, lt)) rest within) in
    omega (arith, ap (λ (l : List (List Value)). length l) those, count)
count_step (Some more) place gone rest row rows e r within others =
    let t = taken place gone rest more e r in
    let those : left place gone (row ∷ rows) ≡ left (place + 1) gone rows = left-cons place gone row rows ∙ ap (λ (b : Bool). cond b (left (place + 1) gone rows) (row ∷ left (place + 1) gone rows)) t.is_gone in
    let within_more = All-tail (λ p. p < place + length (row ∷ rows)) place more (subst (λ (l : List ℕ). All (λ p. p < place + length (row ∷ rows)) l) t.first within) in
    let count = others more t.then (All-weaker (λ p. p < place + length (row ∷ rows)) (λ p. p < (place + 1) + length rows) (λ p lt. omega (arith, lt)) more within_more) in
    omega (arith, ap (λ (l : List (List Value)). length l) those, ap (λ (l : List ℕ). length l) t.first, count)

-- a row is either left or gone
pub length-left : (place : ℕ) (gone rest : List ℕ) (rows : List (List Value)) → IsRest place gone rest → All (λ p. p < place + length rows) rest → LeftAndGone place gone rest rows
length-left place gone [] [] r within = omega arith
length-left place gone (x ∷ xs) [] r within =
    let least = r.rises.0 in
    let most = All-head (λ p. p < place + 0) x xs within in
    absurd (omega (arith, least, most))
length-left place gone [] (row ∷ rows) r within = count_step (behind place []) place gone [] row rows refl r within (λ more. length-left (place + 1) gone more rows)
length-left place gone (x ∷ xs) (row ∷ rows) r within = count_step (behind place (x ∷ xs)) place gone (x ∷ xs) row rows refl r within (λ more. length-left (place + 1) gone more rows)

pub count_left : (gone : List ℕ) (rows : List (List Value)) → IsStrictlyIncreasing gone → All (λ p. p < length rows) gone → length (live_rows gone rows) + length gone ≡ length rows
count_left gone rows up within = length-left 0 gone gone rows (IsRest-all gone up) (All-weaker (λ p. p < length rows) (λ p. p < 0 + length rows) (λ p lt. omega (arith, lt)) gone within)

-- a row more of those that were looked at
pub live_rows-more : (gone : List ℕ) (rows : List (List Value)) (place : ℕ) (row : List Value) (gone_here : Bool) → place < length rows → row ≡ get_or rows place row → has place gone ≡ gone_here
    → live_rows gone (take (place + 1) rows) ≡ live_rows gone (take place rows) ++ cond gone_here [] (row ∷ [])
live_rows-more gone rows place row gone_here lt is e =
    let count : length (take place rows) ≡ place = length-take-le place rows (omega arith) in
    ap (λ (l : List (List Value)). live_rows gone l) (take_more rows place row lt ∙ ap (λ (r : List Value). take place rows ++ r ∷ []) (sym is))
    ∙ live_rows-push gone (take place rows) row
    ∙ ap (λ (p : ℕ). live_rows gone (take place rows) ++ cond (has p gone) [] (row ∷ [])) count
    ∙ ap (λ (b : Bool). live_rows gone (take place rows) ++ cond b [] (row ∷ [])) e

pub has_below : (bound position : ℕ) (xs : List ℕ) → All (λ x. x < bound) xs → has position xs ≡ true → position < bound
has_below bound position [] below h = absurd (false≢true h)
has_below bound position (x ∷ xs) below h =
    elim (cases_eq x position) [
      | inl here ↦ let first = All-head (λ x. x < bound) x xs below in omega (arith, first, here)
      | inr ne ↦ let miss : eqb x position ≡ false = ne_eqb x position ne in has_below bound position xs (All-tail (λ x. x < bound) x xs below) (rw miss at h)
    ]

pub live_if_left : (within : Bool) (gone : List ℕ) (position : ℕ) (result : Option ℕ) → result ≡ then_some within position → has position gone ≡ false → IfSome result (λ p. is_live gone p ≡ true)
live_if_left true gone position result e h = rw e (ap not h)
live_if_left false gone position result e h = rw e tt
