-- The store of a name, and the store at a place.
use Rattle.std.proofs.Common.{◌≡◌, ℕ, zero, suc, ◌+◌, ◌-◌, ◌<◌, ◌≤◌, Bool, true, false, List, [], ◌∷◌, ◌++◌, Option, None, Some, map, length, take, drop, get_or, set, refl, sym, ap, ◌∙◌, subst, arith, vec_len, nat_lt, nat_le, cond, if◌then◌else◌}
use Rattle.std.specs.Prelude.{vec_capacity, not, position}
use Rattle.std.specs.List.{AllByRecursion, prefix_len}
use Rattle.std.proofs.lemmas.Bool.{leb-false}
use Rattle.std.proofs.lemmas.List.Quantifiers.{position-Some}
use Rattle.std.proofs.lemmas.List.{map_push, append_assoc, drop-set-lt, drop_more, take_more_set}
use Rattle.std.proofs.Math.Seq.{map-set_same}
use Rattle.lake_values.specs.Texts.{same_text}
use Rattle.lake_values.proofs.SameTexts.{same_text_is, same_text_self}
use Rattle.table_history.specs.declared.stores.Store.{Store}
use Rattle.table_history.specs.Histories.{has_spare_rows}
use Rattle.table_history.specs.Stores.{Stored, HaveOwnNames, IsNewName, stored, spare_at}

-- the first member that passes a test stands at the place
abbrev pub IsFirst : {X : Type 0} → (X → Bool) → List X → ℕ → Type 0
IsFirst p [] place = ⊥
IsFirst p (x ∷ xs) zero = p x ≡ true
IsFirst p (x ∷ xs) (suc place) = (p x ≡ false) × IsFirst p xs place

from_places : {X : Type 0} (p : X → Bool) (d : X) (xs : List X) (i : ℕ) → i < length xs → p (get_or xs i d) ≡ true → ((k : ℕ) → k < i → p (get_or xs k d) ≡ false) → IsFirst p xs i
from_places p d [] i within passes fail = absurd (omega arith)
from_places p d (x ∷ xs) zero within passes fail = passes
from_places p d (x ∷ xs) (suc i) within passes fail = (fail 0 (omega arith), from_places p d xs i (omega arith) passes (λ k h. fail (suc k) (omega arith)))

first_found : {X : Type 0} (p : X → Bool) (xs : List X) (i : ℕ) → position p xs ≡ Some i → IsFirst p xs i
first_found p [] i found = absurd cc
first_found p (x ∷ xs) i found = let at = position-Some p (x ∷ xs) i x found in from_places p x (x ∷ xs) i at.0 at.1 at.2

pub first_within : {X : Type 0} (p : X → Bool) (xs : List X) (i : ℕ) → IsFirst p xs i → i < length xs
first_within p [] i first = absurd first
first_within p (x ∷ xs) zero first = omega arith
first_within p (x ∷ xs) (suc i) first = omega (arith, first_within p xs i first.1)

pub first_passes : {X : Type 0} (p : X → Bool) (xs : List X) (i : ℕ) (x : X) → IsFirst p xs i → x ≡ get_or xs i x → p x ≡ true
first_passes p [] i x first is = absurd first
first_passes p (y ∷ ys) zero x first is = ap p is ∙ first
first_passes p (y ∷ ys) (suc i) x first is = first_passes p ys i x first.1 is

behind_all : {X : Type 0} (p : X → Bool) (xs : List X) → length xs ≤ prefix_len (λ x. not (p x)) xs → AllByRecursion (λ x. p x ≡ false) xs
behind_all p [] h = tt
behind_all p (x ∷ xs) h =
    elim (p x) as (λ b. p x ≡ b → length (x ∷ xs) ≤ (if not b then 1 + prefix_len (λ x. not (p x)) xs else 0) → AllByRecursion (λ x. p x ≡ false) (x ∷ xs)) [
      | true ↦ λ e k. absurd (omega (arith, k))
      | false ↦ λ e k. (e, behind_all p xs (omega (arith, k)))
    ] refl h

none_passes : {X : Type 0} (p : X → Bool) (xs : List X) → position p xs ≡ None → AllByRecursion (λ x. p x ≡ false) xs
none_passes p xs none =
    let place = prefix_len (λ x. not (p x)) xs in
    elim (nat_lt place (length xs)) as (λ b. nat_lt place (length xs) ≡ b → ◌≡◌ {A = Option ℕ} (cond b (Some place) None) None → AllByRecursion (λ x. p x ≡ false) xs) [
      | true ↦ λ e k. absurd cc
      | false ↦ λ e k. behind_all p xs (omega (arith, leb-false (suc place) (length xs) e))
    ] refl none

-- the store at the place is the first of the name
abbrev pub IsAt : List ℕ → List Store → ℕ → Type 0
IsAt name stores place = IsFirst (λ (s : Store). same_text s.name name) stores place

-- no store has the name
abbrev pub IsNowhere : List ℕ → List Store → Type 0
IsNowhere name stores = AllByRecursion (λ (s : Store). same_text s.name name ≡ false) stores

-- what the code finds in a slice of the stores

pub found_at : (name : List ℕ) (xs ys : List Store) (found : Option ℕ) (place : ℕ) → ys ≡ xs → found ≡ position (λ s. same_text s.name name) ys → found ≡ Some place → IsAt name xs place
found_at name xs ys found place same is some =
    first_found (λ (s : Store). same_text s.name name) xs place (ap (λ (ss : List Store). position (λ s. same_text s.name name) ss) (sym same) ∙ sym is ∙ some)

pub found_nowhere : (name : List ℕ) (xs ys : List Store) (found : Option ℕ) → ys ≡ xs → found ≡ position (λ s. same_text s.name name) ys → found ≡ None → IsNowhere name xs
found_nowhere name xs ys found same is none =
    none_passes (λ (s : Store). same_text s.name name) xs (ap (λ (ss : List Store). position (λ s. same_text s.name name) ss) (sym same) ∙ sym is ∙ none)

pub named_at : (name : List ℕ) (xs : List Store) (place : ℕ) (s : Store) → IsAt name xs place → s ≡ get_or xs place s → s.name ≡ name
named_at name xs place s at is = same_text_is s.name name (first_passes (λ (s : Store). same_text s.name name) xs place s at is)

-- the stores where another is put at the place of a name

pub put_at : (f : Stored → Stored) (name : List ℕ) → ((s : Stored) → same_text s.name name ≡ false → f s ≡ s) → (xs : List Store) (place : ℕ) (s t : Store) → HaveOwnNames (map stored xs) → IsAt name xs place → s ≡ get_or xs place s →
    stored t ≡ f (stored s) → map stored (set xs place t) ≡ map f (map stored xs)
put_at f name stays [] place s t own at is put = absurd at
put_at f name stays (x ∷ xs) zero s t own at is put =
    λ i. (put ∙ ap (λ (y : Store). f (stored y)) is) i ∷ others xs (subst (λ (n : List ℕ). IsNewName n (map stored xs)) (same_text_is x.name name at) own.0) i
  where
    others : (ys : List Store) → IsNewName name (map stored ys) → map stored ys ≡ map f (map stored ys)
    others [] new = refl
    others (y ∷ ys) new = λ i. sym (stays (stored y) new.0) i ∷ others ys new.1 i
put_at f name stays (x ∷ xs) (suc place) s t own at is put = λ i. sym (stays (stored x) at.0) i ∷ put_at f name stays xs place s t own.1 at.1 is put i

pub put_nowhere : (f : Stored → Stored) (name : List ℕ) → ((s : Stored) → same_text s.name name ≡ false → f s ≡ s) → (xs : List Store) → IsNowhere name xs → map stored xs ≡ map f (map stored xs)
put_nowhere f name stays [] none = refl
put_nowhere f name stays (x ∷ xs) none = λ i. sym (stays (stored x) none.0) i ∷ put_nowhere f name stays xs none.1 i

-- the room of a store

pub room_nowhere : (name : List ℕ) (xs : List Store) (rows : ℕ) → IsNowhere name xs → has_spare_rows (map spare_at xs) name rows ≡ true
room_nowhere name [] rows none = refl
room_nowhere name (x ∷ xs) rows none = rw none.0 (room_nowhere name xs rows none.1)

pub room_at : (name : List ℕ) (xs : List Store) (place rows : ℕ) (s : Store) → IsAt name xs place → s ≡ get_or xs place s → has_spare_rows (map spare_at xs) name rows ≡ nat_le rows (vec_capacity s.rows - vec_len s.rows)
room_at name [] place rows s at is = absurd at
room_at name (x ∷ xs) zero rows s at is = rw at (ap (λ (y : Store). nat_le rows (vec_capacity y.rows - vec_len y.rows)) (sym is))
room_at name (x ∷ xs) (suc place) rows s at is = rw at.0 (room_at name xs place rows s at.1 is)

-- where the store at a place has a name, another of this name at its place changes only the room for that name

pub room_same : (name other : List ℕ) (xs : List Store) (place rows : ℕ) (s t : Store) → IsAt name xs place → s ≡ get_or xs place s → t.name ≡ s.name → same_text name other ≡ false →
    has_spare_rows (map spare_at (set xs place t)) other rows ≡ has_spare_rows (map spare_at xs) other rows
room_same name other [] place rows s t at is named differ = absurd at
room_same name other (x ∷ xs) zero rows s t at is named differ =
    let x_is : x.name ≡ name = same_text_is x.name name at in
    let t_is : t.name ≡ name = named ∙ ap (λ (y : Store). y.name) is ∙ x_is in
    let not_t : same_text t.name other ≡ false = ap (λ (n : List ℕ). same_text n other) t_is ∙ differ in
    let not_x : same_text x.name other ≡ false = ap (λ (n : List ℕ). same_text n other) x_is ∙ differ in
    rw (not_t, not_x) refl
room_same name other (x ∷ xs) (suc place) rows s t at is named differ =
    ap (λ (b : Bool). if same_text x.name other then nat_le rows (vec_capacity x.rows - vec_len x.rows) else b) (room_same name other xs place rows s t at.1 is named differ)

pub room_put : (name : List ℕ) (xs : List Store) (place rows : ℕ) (s t : Store) → IsAt name xs place → s ≡ get_or xs place s → t.name ≡ s.name →
    has_spare_rows (map spare_at (set xs place t)) name rows ≡ nat_le rows (vec_capacity t.rows - vec_len t.rows)
room_put name [] place rows s t at is named = absurd at
room_put name (x ∷ xs) zero rows s t at is named =
    let same : same_text t.name name ≡ true = ap (λ (n : List ℕ). same_text n name) (named ∙ ap (λ (y : Store). y.name) is) ∙ at in
    rw same refl
room_put name (x ∷ xs) (suc place) rows s t at is named = rw at.0 (room_put name xs place rows s t at.1 is named)

enough : (n c l : ℕ) → l ≤ c → nat_le (n + 0) (c - l) ≡ true → l + n ≤ c
enough n c l within e = grind arith

left_over : (n rows c l l' : ℕ) → l' ≡ l + n → nat_le ((n + 0) + rows) (c - l) ≡ true → nat_le rows (c - l') ≡ true
left_over n rows c l l' is e = grind arith

-- room for so many rows of a part is room in the store of its table
pub part_room : (table : List ℕ) (xs : List Store) (place : ℕ) (s : Store) (n : ℕ) → IsAt table xs place → s ≡ get_or xs place s → vec_len s.rows ≤ vec_capacity s.rows →
    has_spare_rows (map spare_at xs) table (if same_text table table then n + 0 else 0) ≡ true → vec_len s.rows + n ≤ vec_capacity s.rows
part_room table xs place s n at is within room =
    let self = same_text_self table in
    let there : has_spare_rows (map spare_at xs) table (n + 0) ≡ true = rw self at room in
    enough n (vec_capacity s.rows) (vec_len s.rows) within (sym (room_at table xs place (n + 0) s at is) ∙ there)

-- the room that is left behind a part
pub part_rooms : (table : List ℕ) (xs : List Store) (place : ℕ) (s t : Store) (n : ℕ) → IsAt table xs place → s ≡ get_or xs place s → t.name ≡ s.name → vec_capacity t.rows ≡ vec_capacity s.rows →
    vec_len t.rows ≡ vec_len s.rows + n → (name : List ℕ) (rows : ℕ) → has_spare_rows (map spare_at xs) name ((if same_text table name then n + 0 else 0) + rows) ≡ true → has_spare_rows (map spare_at (set xs place t)) name rows ≡ true
part_rooms table xs place s t n at is named capacity longer name rows =
    elim (same_text table name) as (λ b. same_text table name ≡ b → has_spare_rows (map spare_at xs) name ((if b then n + 0 else 0) + rows) ≡ true → has_spare_rows (map spare_at (set xs place t)) name rows ≡ true) [
      | true ↦ λ e room.
          let one : table ≡ name = same_text_is table name e in
          let there : has_spare_rows (map spare_at xs) table ((n + 0) + rows) ≡ true = ap (λ (m : List ℕ). has_spare_rows (map spare_at xs) m ((n + 0) + rows)) one ∙ room in
          let was = sym (room_at table xs place ((n + 0) + rows) s at is) ∙ there in
          let left = left_over n rows (vec_capacity s.rows) (vec_len s.rows) (vec_len t.rows) longer was in
          ap (λ (m : List ℕ). has_spare_rows (map spare_at (set xs place t)) m rows) (sym one) ∙ room_put table xs place rows s t at is named ∙ ap (λ (c : ℕ). nat_le rows (c - vec_len t.rows)) capacity ∙ left
      | false ↦ λ e room. room_same table name xs place rows s t at is named e ∙ fewer (map spare_at xs) rows room
    ] refl
  where
    fewer : (spares : List (List ℕ × ℕ)) (rows : ℕ) → has_spare_rows spares name (0 + rows) ≡ true → has_spare_rows spares name rows ≡ true
    fewer spares rows room = ap (has_spare_rows spares name) (omega arith) ∙ room

-- less room is needed
pub room_weaker : (spares : List (List ℕ × ℕ)) (name : List ℕ) (more rows : ℕ) → has_spare_rows spares name (more + rows) ≡ true → has_spare_rows spares name rows ≡ true
room_weaker [] name more rows room = refl
room_weaker (s ∷ ss) name more rows room =
    elim (same_text s.0 name) as (λ b. (if b then nat_le (more + rows) s.1 else has_spare_rows ss name (more + rows)) ≡ true → (if b then nat_le rows s.1 else has_spare_rows ss name rows) ≡ true) [
      | true ↦ λ e. less more rows s.1 e
      | false ↦ λ e. room_weaker ss name more rows e
    ] room
  where
    less : (m n k : ℕ) → nat_le (m + n) k ≡ true → nat_le n k ≡ true
    less m n k e = grind arith

-- the members up to a place are done, and so is one more
pub done_more : {X S : Type 0} (g : X → S) (f : S → S) (xs : List X) (i : ℕ) (x y : X) (all : List S) → i < length xs → x ≡ get_or xs i x → g y ≡ f (g x) →
    map g (take i xs) ++ map f (map g (drop i xs)) ≡ all → map g (take (i + 1) (set xs i y)) ++ map f (map g (drop (i + 1) (set xs i y))) ≡ all
done_more {X} {S} g f xs i x y all within is step done =
    let rest : List S = map f (map g (drop (i + 1) xs)) in
    ap (λ (ys : List X). map g ys ++ map f (map g (drop (i + 1) (set xs i y)))) (take_more_set xs i y within)
    ∙ ap (λ (zs : List X). map g (take i xs ++ y ∷ []) ++ map f (map g zs)) (drop-set-lt (i + 1) xs i y (omega arith))
    ∙ ap (λ (zs : List S). zs ++ rest) (map_push g (take i xs) y)
    ∙ append_assoc (map g (take i xs)) (g y ∷ []) rest
    ∙ ap (λ (z : S). map g (take i xs) ++ z ∷ rest) (step ∙ ap (λ (z : X). f (g z)) is)
    ∙ ap (λ (zs : List X). map g (take i xs) ++ map f (map g zs)) (sym (drop_more xs i x within))
    ∙ done

-- a change at a place that a function doesn't see
pub unseen : {X S : Type 0} (g : X → S) (xs : List X) (i : ℕ) (x y : X) → i < length xs → x ≡ get_or xs i x → g y ≡ g x → map g (set xs i y) ≡ map g xs
unseen g xs i x y within is same = map-set_same g xs i y x (same ∙ ap g is)

-- a store with more room at a place
pub more_room : (xs : List Store) (i : ℕ) (x y : Store) → i < length xs → x ≡ get_or xs i x → y.name ≡ x.name → vec_capacity x.rows - vec_len x.rows ≤ vec_capacity y.rows - vec_len y.rows →
    (name : List ℕ) (rows : ℕ) → has_spare_rows (map spare_at xs) name rows ≡ true → has_spare_rows (map spare_at (set xs i y)) name rows ≡ true
more_room [] i x y within is named more name rows room = absurd (omega arith)
more_room (z ∷ zs) zero x y within is named more name rows room =
    let name_is : y.name ≡ z.name = named ∙ ap (λ (s : Store). s.name) is in
    let more_is : vec_capacity z.rows - vec_len z.rows ≤ vec_capacity y.rows - vec_len y.rows = subst (λ (s : Store). vec_capacity s.rows - vec_len s.rows ≤ vec_capacity y.rows - vec_len y.rows) is more in
    let same : same_text y.name name ≡ same_text z.name name = ap (λ (n : List ℕ). same_text n name) name_is in
    rw same
    (elim (same_text z.name name) as (λ b. (if b then nat_le rows (vec_capacity z.rows - vec_len z.rows) else has_spare_rows (map spare_at zs) name rows) ≡ true →
    (if b then nat_le rows (vec_capacity y.rows - vec_len y.rows) else has_spare_rows (map spare_at zs) name rows) ≡ true) [
      | true ↦ λ e. up rows (vec_capacity z.rows - vec_len z.rows) (vec_capacity y.rows - vec_len y.rows) e more_is
      | false ↦ λ e. e
    ] room)
  where
    up : (r m n : ℕ) → nat_le r m ≡ true → m ≤ n → nat_le r n ≡ true
    up r m n e le = grind arith
more_room (z ∷ zs) (suc i) x y within is named more name rows room =
    elim (same_text z.name name) as (λ b. (if b then nat_le rows (vec_capacity z.rows - vec_len z.rows) else has_spare_rows (map spare_at zs) name rows) ≡ true →
    (if b then nat_le rows (vec_capacity z.rows - vec_len z.rows) else has_spare_rows (map spare_at (set zs i y)) name rows) ≡ true) [
      | true ↦ λ e. e
      | false ↦ λ e. more_room zs i x y (omega arith) is named more name rows e
    ] room
