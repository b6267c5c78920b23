-- How a loop reads a list.
use Rattle.std.proofs.Common.{◌≡◌, refl, sym, ap, ◌∙◌, arith, ℕ, zero, suc, pred, ◌-◌, ◌<◌, Bool, true, false, nat_le, List, [], ◌∷◌, ◌++◌, append_assoc, append-nil, Option, Some, None, option_map, Ok, Err, length}
use Rattle.grammar_laws.specs.Grammars.{many, listed, mark}
use Rattle.grammar_laws.specs.Phrases.{has_room, less_one}
use Rattle.grammar_laws.specs.Prediction.{empty_of, first_of, decides, begins, openers}
use Rattle.grammar_laws.specs.Reading.{Answer, Found, Refused, Reader, Limit, Syntax, mapped, choose, read, read_token, read_member, behind}
use Rattle.grammar_laws.proofs.Lists.{many_in_turn, list_ends, list_refused, takes_token}
use Rattle.grammar_laws.proofs.Steps.{ok_is}
use Rattle.sql_tokens.specs.declared.lexemes.Lexed.{Lexed}
use Rattle.sql_parser.specs.Classes.{Class, is_of, words}
use Rattle.sql_parser.specs.ClassLaws.{classes}
use Rattle.sql_parser.specs.Language.{ends}
use Rattle.sql_parser.specs.Grammar.{Form, rules}
use Rattle.sql_parser.specs.Ahead.{Ahead, reading, is_at, most_levels}

-- Behind these members, what is now ahead completes the list that is read.
pub record Completes {A : Type 0} (room : Option ℕ) (lead : Option Class) (form : Form A) (whole : Answer Lexed (List A)) (before : Ahead) (members : List A) (now : Ahead) : Type 0 where
  pub reads : whole ≡ mapped (λ xs. members ++ xs) (reading most_levels (many room lead form) now)
  pub ending : now.ending ≡ before.ending

mapped_twice : {X A B C : Type 0} (f : B → C) (g : A → B) (h : A → C) → ((x : A) → f (g x) ≡ h x) → (r : Answer X A) → mapped f (mapped g r) ≡ mapped h r
mapped_twice f g h same (Ok x) = ap (λ y. Ok (y, x.1, x.2)) (same x.0)
mapped_twice f g h same (Err e) = refl

mapped_same : {X A : Type 0} (f : A → A) → ((x : A) → x ≡ f x) → (r : Answer X A) → r ≡ mapped f r
mapped_same f same (Ok x) = ap (λ y. Ok (y, x.1, x.2)) (same x.0)
mapped_same f same (Err e) = refl

-- a run begins without members
pub run_begins : {A : Type 0} (form : Form A) (room : Option ℕ) (before : Ahead) → Completes room None form (reading most_levels (many room None form) before) before [] before
run_begins form room before = record { reads = mapped_same (λ xs. [] ++ xs) (λ xs. refl) (reading most_levels (many room None form) before); ending = refl }

room_behind : (most : Option ℕ) → less_one most ≡ option_map pred most
room_behind None = refl
room_behind (Some zero) = refl
room_behind (Some (suc n)) = refl

-- a list begins with a member
pub list_begins : {A : Type 0} (form : Form A) (most : Option ℕ) (c : Class) (before now : Ahead) (x : A) → reading most_levels form before ≡ Ok (x, now.operators, now.tokens)
    → now.ending ≡ before.ending → Completes (less_one most) (Some c) form (reading most_levels (listed most c form) before) before (x ∷ []) now
list_begins form most c before now x first refused = record {
  reads = rw (first, room_behind most) (mapped_twice _ _ (λ xs. (x ∷ []) ++ xs) (λ xs. refl) (reading most_levels (many (option_map pred most) (Some c) form) now));
  ending = refused;
}

member_step : {A : Type 0} (form : Form A) → decides classes ends form ≡ true → empty_of form ≡ None → (room : Option ℕ) (lead : Option Class) (now mid after : Ahead) (x : A)
    → begins words (openers lead (first_of form)) now.tokens ≡ true → mid.operators ≡ now.operators → mid.tokens ≡ behind lead now.tokens
    → read_member (has_room room) (begins words (first_of form)) (read rules most_levels form) mid.operators mid.tokens ≡ Ok (x, after.operators, after.tokens)
    → reading most_levels (many room lead form) now ≡ mapped (λ xs. x ∷ xs) (reading most_levels (many (less_one room) lead form) after)
member_step form decided some room lead now mid after x comes same_operators same_tokens reads =
    many_in_turn classes rules ends form decided some most_levels now.operators room lead now.tokens
    ∙ rw (comes, ← same_operators, ← same_tokens, reads) (mapped_twice _ _ (λ xs. x ∷ xs) (λ xs. refl) (reading most_levels (many (less_one room) lead form) after))

-- a member more
goes_on : {A : Type 0} (form : Form A) → decides classes ends form ≡ true → empty_of form ≡ None → (room : Option ℕ) (lead : Option Class) (whole : Answer Lexed (List A))
    (before now mid after : Ahead) (members : List A) (x : A) → Completes room lead form whole before members now
    → begins words (openers lead (first_of form)) now.tokens ≡ true → mid.operators ≡ now.operators → mid.tokens ≡ behind lead now.tokens
    → read_member (has_room room) (begins words (first_of form)) (read rules most_levels form) mid.operators mid.tokens ≡ Ok (x, after.operators, after.tokens)
    → after.ending ≡ now.ending → Completes (less_one room) lead form whole before (members ++ x ∷ []) after
goes_on form decided some room lead whole before now mid after members x so_far comes same_operators same_tokens reads refused = record {
  reads =
      so_far.reads ∙ ap (mapped (λ xs. members ++ xs)) (member_step form decided some room lead now mid after x comes same_operators same_tokens reads)
      ∙ mapped_twice _ _ (λ xs. (members ++ x ∷ []) ++ xs) (λ xs. sym (append_assoc members (x ∷ []) xs)) (reading most_levels (many (less_one room) lead form) after);
  ending = refused ∙ so_far.ending;
}

pub run_goes_on : {A : Type 0} (form : Form A) → decides classes ends form ≡ true → empty_of form ≡ None → (room : Option ℕ) (whole : Answer Lexed (List A)) (before now after : Ahead)
    (members : List A) (x : A) → Completes room None form whole before members now → is_at (first_of form) now ≡ true
    → read_member (has_room room) (begins words (first_of form)) (read rules most_levels form) now.operators now.tokens ≡ Ok (x, after.operators, after.tokens)
    → after.ending ≡ now.ending → Completes (less_one room) None form whole before (members ++ x ∷ []) after
run_goes_on form decided some room whole before now after members x so_far comes reads refused =
    goes_on form decided some room None whole before now now after members x so_far comes refl refl reads refused

beyond_is_refused : {X A : Type 0} (b : Bool) (ts : List X) (x : Found X A) → choose {A = Answer X A} b (λ _. Err (Limit, ts)) (λ _. Err (Syntax, ts)) ≡ Ok x → ⊥
beyond_is_refused true ts x e = cc
beyond_is_refused false ts x e = cc

member_read : {X A : Type 0} (room : Bool) (is_begun : List X → Bool) (r : Reader X A) (budget : ℕ) (ts : List X) (x : Found X A) → read_member room is_begun r budget ts ≡ Ok x
    → r budget ts ≡ Ok x
member_read true is_begun r budget ts x e = e
member_read false is_begun r budget ts x e = absurd (beyond_is_refused (is_begun ts) ts x e)

-- each member takes a token
pub member_shrinks : {A : Type 0} (form : Form A) → decides classes ends form ≡ true → empty_of form ≡ None → (room : Bool) (now after : Ahead) (x : A)
    → read_member room (begins words (first_of form)) (read rules most_levels form) now.operators now.tokens ≡ Ok (x, after.operators, after.tokens)
    → length after.tokens < length now.tokens
member_shrinks form decided some room now after x reads =
    takes_token classes rules ends form decided some most_levels now.operators now.tokens (x, after.operators, after.tokens)
    (member_read room (begins words (first_of form)) (read rules most_levels form) now.operators now.tokens (x, after.operators, after.tokens) reads)

pub run_ends : {A : Type 0} (form : Form A) (room : Option ℕ) (whole : Answer Lexed (List A)) (before now : Ahead) (members : List A) → Completes room None form whole before members now
    → is_at (first_of form) now ≡ false → whole ≡ Ok (members, now.operators, now.tokens)
run_ends form room whole before now members so_far none =
    so_far.reads ∙ ap (mapped (λ xs. members ++ xs)) (list_ends rules form most_levels now.operators room None now.tokens none) ∙ ap (λ xs. Ok (xs, now.operators, now.tokens)) (append-nil members)

pub run_stops : {A : Type 0} (form : Form A) → decides classes ends form ≡ true → empty_of form ≡ None → (room : Option ℕ) (whole : Answer Lexed (List A)) (before now : Ahead)
    (members : List A) (e : Refused Lexed) → Completes room None form whole before members now → is_at (first_of form) now ≡ true
    → read_member (has_room room) (begins words (first_of form)) (read rules most_levels form) now.operators now.tokens ≡ Err e → whole ≡ Err e
run_stops form decided some room whole before now members e so_far comes refused =
    so_far.reads ∙ ap (mapped (λ xs. members ++ xs)) (list_refused classes rules ends form decided some most_levels now.operators room None now.tokens e comes refused)

-- what is ahead behind a token
pub record Passes (c : Class) (now mid : Ahead) : Type 0 where
  pub operators : mid.operators ≡ now.operators
  pub tokens : mid.tokens ≡ behind (Some c) now.tokens
  pub shrinks : length mid.tokens < length now.tokens

passes_if : (fits affords : Bool) (operators left : ℕ) (t : Lexed) (ts rest : List Lexed)
    → choose {A = Answer Lexed (Unit {0})} fits (λ _. choose affords (λ _. Ok (tt {0}, operators - 0, ts)) (λ _. Err (Limit, t ∷ ts))) (λ _. Err (Syntax, t ∷ ts)) ≡ Ok (tt, left, rest)
    → (left ≡ operators) × (rest ≡ ts)
passes_if true true operators left t ts rest is =
    let found = ok_is (tt {0}, operators - 0, ts) (tt {0}, left, rest) is in
    let same_left : operators - 0 ≡ left = ap (λ (f : Unit {0} × ℕ × List Lexed). f.1) found in
    (omega arith, sym (ap (λ (f : Unit {0} × ℕ × List Lexed). f.2) found))
passes_if true false operators left t ts rest is = absurd cc
passes_if false affords operators left t ts rest is = absurd cc

passes_over : (c : Class) (operators left : ℕ) (ts rest : List Lexed) → read_token {A = Unit {0}} (is_of c) 0 (λ t l r. Ok (tt {0}, l, r)) operators ts ≡ Ok (tt, left, rest)
    → (left ≡ operators) × (rest ≡ behind (Some c) ts) × (length rest < length ts)
passes_over c operators left [] rest is = absurd cc
passes_over c operators left (t ∷ ts) rest is =
    let p = passes_if (is_of c t) (nat_le 0 operators) operators left t ts rest is in
    let e : rest ≡ ts = p.1 in
    (p.0, e, omega (arith, ap length e))

pub passes : (c : Class) (now mid : Ahead) → reading 0 (mark c) now ≡ Ok (tt {0}, mid.operators, mid.tokens) → Passes c now mid
passes c now mid is =
    let p = passes_over c now.operators mid.operators now.tokens mid.tokens is in
    record { operators = p.0; tokens = p.1; shrinks = p.2 }

pub list_goes_on : {A : Type 0} (form : Form A) → decides classes ends form ≡ true → empty_of form ≡ None → (room : Option ℕ) (c : Class) (whole : Answer Lexed (List A))
    (before now mid after : Ahead) (members : List A) (x : A) → Completes room (Some c) form whole before members now → is_at (c ∷ []) now ≡ true
    → reading 0 (mark c) now ≡ Ok (tt {0}, mid.operators, mid.tokens)
    → read_member (has_room room) (begins words (first_of form)) (read rules most_levels form) mid.operators mid.tokens ≡ Ok (x, after.operators, after.tokens)
    → after.ending ≡ now.ending → Completes (less_one room) (Some c) form whole before (members ++ x ∷ []) after
list_goes_on form decided some room c whole before now mid after members x so_far comes passed reads refused =
    let p = passes c now mid passed in
    goes_on form decided some room (Some c) whole before now mid after members x so_far comes p.operators p.tokens reads refused

pub list_ends_behind : {A : Type 0} (form : Form A) (room : Option ℕ) (c : Class) (whole : Answer Lexed (List A)) (before now : Ahead) (members : List A)
    → Completes room (Some c) form whole before members now → is_at (c ∷ []) now ≡ false → whole ≡ Ok (members, now.operators, now.tokens)
list_ends_behind form room c whole before now members so_far none =
    so_far.reads ∙ ap (mapped (λ xs. members ++ xs)) (list_ends rules form most_levels now.operators room (Some c) now.tokens none) ∙ ap (λ xs. Ok (xs, now.operators, now.tokens)) (append-nil members)

pub list_stops : {A : Type 0} (form : Form A) → decides classes ends form ≡ true → empty_of form ≡ None → (room : Option ℕ) (c : Class) (whole : Answer Lexed (List A))
    (before now mid : Ahead) (members : List A) (e : Refused Lexed) → Completes room (Some c) form whole before members now → is_at (c ∷ []) now ≡ true
    → reading 0 (mark c) now ≡ Ok (tt {0}, mid.operators, mid.tokens)
    → read_member (has_room room) (begins words (first_of form)) (read rules most_levels form) mid.operators mid.tokens ≡ Err e → whole ≡ Err e
list_stops form decided some room c whole before now mid members e so_far comes passed refused =
    let p = passes c now mid passed in
    so_far.reads ∙ ap (mapped (λ xs. members ++ xs)) (list_refused classes rules ends form decided some most_levels now.operators room (Some c) now.tokens e comes (rw (← p.operators, ← p.tokens) refused))
