-- Rows that go to the group which the spelling of their key has stand in the groups of their keys.
use Rattle.std.proofs.Common.{◌≡◌, ℕ, ◌+◌, ◌<◌, ◌≤◌, get_or, take, if◌then◌else◌, Bool, true, false, ◌||◌, not, cond, List, [], ◌∷◌, ◌++◌, length, map, filter, suc, refl, sym, ap, subst, ◌∙◌, arith}
use Rattle.std.specs.Prelude.{nat_eq}
use Rattle.std.specs.List.{AllByRecursion, flat_map, list_any, position_or_len}
use Rattle.std.specs.Cmp.Lexicographic.{pointwise}
use Rattle.std.proofs.lemmas.List.{append-nil, length-map, map-append, take_all, take_more}
use Rattle.std.proofs.lemmas.List.Elements.{filter-append}
use Rattle.std.proofs.lemmas.Slice.Eq.{bytes_eq-Decides}
use Rattle.lake_values.specs.Spelling.{value_spelling, IsValue}
use Rattle.lake_values.proofs.FieldTies.{value_tie}
use Rattle.lake_values.proofs.Ties.{NoneBegins-from_ties}
use Rattle.lake_values.specs.Rows.{value_at}
use Rattle.sql_model.specs.Groups.{same_row, distinct, key_of, members}
use Rattle.op_aggregate.specs.Grouping.{with_member}
use Rattle.op_aggregate.proofs.Distinct.{Row, same_itself, same_tells, among, other_row, distinct-append, among-distinct}
use Rattle.op_aggregate.proofs.Kept.{Rows, map_agrees}
use Rattle.op_aggregate.proofs.Parts.{none_of_it, all_filter}

-- ---- spellings tell keys apart

abbrev pub spelled : Row → List ℕ
spelled k = flat_map value_spelling k

-- a key of so many values, each of which has a spelling
pub record IsSpelled (n : ℕ) (k : Row) : Type 0 where
  pub wide : length k ≡ n
  pub values : AllByRecursion IsValue k

one_spelling : (k l : Row) → length k ≡ length l → AllByRecursion IsValue k → AllByRecursion IsValue l → spelled k ≡ spelled l → k ≡ l
one_spelling [] [] long a b e = refl
one_spelling [] (w ∷ l) long a b e = absurd (omega (arith, long))
one_spelling (v ∷ k) [] long a b e = absurd (omega (arith, long))
one_spelling (v ∷ k) (w ∷ l) long a b e =
    let first = NoneBegins-from_ties value_tie v w (spelled k) (spelled l) a.0 b.0 e in
    let rest : k ≡ l = one_spelling k l (omega (arith, long)) a.1 b.1 first.1 in
    λ i. first.0 i ∷ rest i

bytes_tell : (a b : List ℕ) → pointwise nat_eq a b ≡ true → a ≡ b
bytes_tell a b e = (bytes_eq-Decides a b).0 e

bytes_same : (a b : List ℕ) → a ≡ b → pointwise nat_eq a b ≡ true
bytes_same a b e = (bytes_eq-Decides a b).1 e

same_test : (n : ℕ) (k l : Row) → IsSpelled n k → IsSpelled n l → pointwise nat_eq (spelled k) (spelled l) ≡ same_row k l
same_test n k l fk fl =
    elim (same_row k l) as (λ b. same_row k l ≡ b → pointwise nat_eq (spelled k) (spelled l) ≡ b) [
      | true ↦ λ e. bytes_same (spelled k) (spelled l) (ap spelled (same_tells k l e))
      | false ↦ λ e.
          elim (pointwise nat_eq (spelled k) (spelled l)) as (λ b. pointwise nat_eq (spelled k) (spelled l) ≡ b → b ≡ false) [
            | true ↦ λ f.
                let same : k ≡ l = one_spelling k l (fk.wide ∙ sym fl.wide) fk.values fl.values (bytes_tell (spelled k) (spelled l) f) in
                sym (same_itself k) ∙ ap (same_row k) same ∙ e
            | false ↦ λ f. refl
          ] refl
    ] refl

same_sym : (r s : Row) → same_row r s ≡ same_row s r
same_sym r s =
    elim (same_row r s) as (λ b. same_row r s ≡ b → b ≡ same_row s r) [
      | true ↦ λ e. sym (ap (same_row s) (same_tells r s e) ∙ same_itself s)
      | false ↦ λ e.
          elim (same_row s r) as (λ b. same_row s r ≡ b → false ≡ b) [
            | true ↦ λ f. sym e ∙ ap (same_row r) (same_tells s r f) ∙ same_itself r
            | false ↦ λ f. refl
          ] refl
    ] refl

-- ---- places in lists

place-map : {X Y : Type 0} (p : Y → Bool) (f : X → Y) (xs : List X) → position_or_len p (map f xs) ≡ position_or_len (λ x. p (f x)) xs
place-map p f [] = refl
place-map p f (x ∷ xs) = ap (λ n. cond (not (p (f x))) (1 + n) 0) (place-map p f xs)

any-map : {X Y : Type 0} (p : Y → Bool) (f : X → Y) (xs : List X) → list_any p (map f xs) ≡ list_any (λ x. p (f x)) xs
any-map p f [] = refl
any-map p f (x ∷ xs) = ap (λ b. p (f x) || b) (any-map p f xs)

place_agrees : (P : Row → Type 0) (p q : Row → Bool) → ((x : Row) → P x → p x ≡ q x) → (xs : Rows) → AllByRecursion P xs → position_or_len p xs ≡ position_or_len q xs
place_agrees P p q same [] all = refl
place_agrees P p q same (x ∷ xs) all = λ i. cond (not (same x all.0 i)) (1 + place_agrees P p q same xs all.1 i) 0

any_agrees : (P : Row → Type 0) (p q : Row → Bool) → ((x : Row) → P x → p x ≡ q x) → (xs : Rows) → AllByRecursion P xs → list_any p xs ≡ list_any q xs
any_agrees P p q same [] all = refl
any_agrees P p q same (x ∷ xs) all = λ i. same x all.0 i || any_agrees P p q same xs all.1 i

every : (xs : Rows) → AllByRecursion (λ x. Unit {0}) xs
every [] = tt
every (x ∷ xs) = (tt, every xs)

place_within : (p : Row → Bool) (xs : Rows) → position_or_len p xs ≤ length xs
place_within p [] = omega arith
place_within p (x ∷ xs) =
    let behind = place_within p xs in
    elim (p x) as (λ b. cond (not b) (1 + position_or_len p xs) 0 ≤ length (x ∷ xs)) [ true ↦ omega arith | false ↦ omega (arith, behind) ]

-- ---- each key once

abbrev AreOnce : Rows → Type 0
AreOnce [] = Unit {0}
AreOnce (x ∷ xs) = AllByRecursion (λ y. other_row x y ≡ true) xs × AreOnce xs

passes_step : (p : Row → Bool) (x : Row) (kept : Rows) (b : Bool) → p x ≡ b → AllByRecursion (λ y. p y ≡ true) kept → AllByRecursion (λ y. p y ≡ true) (cond b (x ∷ kept) kept)
passes_step p x kept true e all = (e, all)
passes_step p x kept false e all = all

all_pass : (p : Row → Bool) (xs : Rows) → AllByRecursion (λ y. p y ≡ true) (filter p xs)
all_pass p [] = tt
all_pass p (x ∷ xs) = passes_step p x (filter p xs) (p x) refl (all_pass p xs)

once_step : (p : Row → Bool) (x : Row) (xs : Rows) (b : Bool) → AllByRecursion (λ y. other_row x y ≡ true) xs → AreOnce (filter p xs) → AreOnce (cond b (x ∷ filter p xs) (filter p xs))
once_step p x xs true apart once = (all_filter (λ y. other_row x y ≡ true) p xs apart, once)
once_step p x xs false apart once = once

once_filter : (p : Row → Bool) (xs : Rows) → AreOnce xs → AreOnce (filter p xs)
once_filter p [] once = tt
once_filter p (x ∷ xs) once = once_step p x xs (p x) once.0 (once_filter p xs once.1)

once_distinct : (xs : Rows) → AreOnce (distinct xs)
once_distinct [] = tt
once_distinct (x ∷ xs) = (all_pass (other_row x) (distinct xs), once_filter (other_row x) (distinct xs) (once_distinct xs))

-- ---- one more member

module _ (f : Row → Rows) (k r : Row) where
  -- the rows of the group of a key, where k is the key of one more
  abbrev grown : Row → Rows
  grown x = f x ++ cond (same_row x k) (r ∷ []) []

  grown_other : (x : Row) → same_row x k ≡ false → grown x ≡ f x
  grown_other x e = ap (λ b. f x ++ cond b (r ∷ []) []) e ∙ append-nil (f x)

  others_stay : (xs : Rows) → AllByRecursion (λ y. other_row k y ≡ true) xs → map grown xs ≡ map f xs
  others_stay [] all = refl
  others_stay (x ∷ xs) all =
      let apart : same_row x k ≡ false = same_sym x k ∙ not_true (same_row k x) all.0 in
      λ i. grown_other x apart i ∷ others_stay xs all.1 i
    where
      not_true : (b : Bool) → not b ≡ true → b ≡ false
      not_true true e = sym e
      not_true false e = refl

  absent_stay : (xs : Rows) → list_any (same_row k) xs ≡ false → map grown xs ≡ map f xs
  absent_stay [] none = refl
  absent_stay (x ∷ xs) none =
      let parts = neither (same_row k x) (list_any (same_row k) xs) none in
      λ i. grown_other x (same_sym x k ∙ parts.0) i ∷ absent_stay xs parts.1 i
    where
      neither : (a b : Bool) → (a || b) ≡ false → (a ≡ false) × (b ≡ false)
      neither true b e = absurd (cc)
      neither false b e = (refl, e)

  with_member-place : (xs : Rows) → AreOnce xs → with_member (map f xs) (position_or_len (same_row k) xs) r ≡ cond (list_any (same_row k) xs) (map grown xs) (map f xs ++ (r ∷ []) ∷ [])
  with_member-place [] once = refl
  with_member-place (x ∷ xs) once =
      let n : ℕ = position_or_len (same_row k) xs in
      elim (same_row k x) as (λ b. same_row k x ≡ b → with_member (f x ∷ map f xs) (cond (not b) (1 + n) 0) r ≡ cond (b || list_any (same_row k) xs) (map grown (x ∷ xs)) (map f (x ∷ xs) ++ (r ∷ []) ∷ [])) [
        | true ↦ λ e.
            let same : k ≡ x = same_tells k x e in
            let here : grown x ≡ f x ++ r ∷ [] = ap (λ b. f x ++ cond b (r ∷ []) []) (same_sym x k ∙ e) in
            let behind : map grown xs ≡ map f xs = others_stay xs (subst (λ (y : Row). AllByRecursion (λ z. other_row y z ≡ true) xs) (sym same) once.0) in
            λ i. sym here i ∷ sym behind i
        | false ↦ λ e.
            let next : 1 + n ≡ suc n = omega arith in
            let here : grown x ≡ f x = grown_other x (same_sym x k ∙ e) in
            ap (λ m. with_member (f x ∷ map f xs) m r) next
            ∙ ap (λ gs. f x ∷ gs) (with_member-place xs once.1)
            ∙ in_front (list_any (same_row k) xs) here
      ] refl
    where
      in_front : (b : Bool) → grown x ≡ f x → f x ∷ cond b (map grown xs) (map f xs ++ (r ∷ []) ∷ []) ≡ cond b (grown x ∷ map grown xs) (f x ∷ map f xs ++ (r ∷ []) ∷ [])
      in_front true here = ap (λ g. g ∷ map grown xs) (sym here)
      in_front false here = refl

-- ---- the groups of the rows so far

module _ (columns : List ℕ) where
  abbrev pub keys : Rows → Rows
  keys rows = distinct (map (key_of columns) rows)

  -- spellings and groups in the order of their first rows
  pub record AreGathered (rows : Rows) (spellings : List (List ℕ)) (groups : List Rows) : Type 0 where
    pub names : spellings ≡ map spelled (keys rows)
    pub members : groups ≡ map (λ k. members columns k rows) (keys rows)
    pub spelled : AllByRecursion (IsSpelled (length columns)) (keys rows)

  pub none_gathered : (names : List (List ℕ)) (groups : List Rows) → names ≡ [] → groups ≡ [] → AreGathered [] names groups
  none_gathered names groups no_names no_groups = record { names = no_names; members = no_groups; spelled = tt }

  pub all_gathered : {X : Type 0} (cells : X → Row) (rows : List X) (i : ℕ) (names : List (List ℕ)) (groups : List Rows) → length rows ≤ i → AreGathered (map cells (take i rows)) names groups → groups ≡ map (λ k. members columns k (map cells rows)) (keys (map cells rows))
  all_gathered {X} cells rows i names groups past so_far = so_far.members ∙ ap (λ (rs : List X). map (λ k. members columns k (map cells rs)) (keys (map cells rs))) (take_all i rows past)

  keys_more : (rows : Rows) (r : Row) → keys (rows ++ r ∷ []) ≡ cond (list_any (same_row (key_of columns r)) (keys rows)) (keys rows) (keys rows ++ key_of columns r ∷ [])
  keys_more rows r =
      let k : Row = key_of columns r in
      let xs : Rows = map (key_of columns) rows in
      ap distinct (map-append (key_of columns) rows (r ∷ []))
      ∙ distinct-append xs (k ∷ [])
      ∙ ap (λ b. distinct xs ++ cond (not b) (k ∷ []) []) (sym (among-distinct xs k) ∙ any_agrees (λ x. Unit {0}) (λ s. same_row s k) (same_row k) (λ s _. same_sym s k) (distinct xs) (every (distinct xs)))
      ∙ front (list_any (same_row k) (distinct xs)) (distinct xs) k
    where
      front : (b : Bool) (xs : Rows) (k : Row) → xs ++ cond (not b) (k ∷ []) [] ≡ cond b xs (xs ++ k ∷ [])
      front true xs k = append-nil xs
      front false xs k = refl

  members_more : (rows : Rows) (r k : Row) → members columns k (rows ++ r ∷ []) ≡ members columns k rows ++ cond (same_row k (key_of columns r)) (r ∷ []) []
  members_more rows r k = filter-append (λ r. same_row k (key_of columns r)) rows (r ∷ [])

  -- where a row's spelling stands, its key does
  module _ (rows : Rows) (r : Row) (spellings : List (List ℕ)) (groups : List Rows) (so_far : AreGathered rows spellings groups) (fits : IsSpelled (length columns) (key_of columns r)) where
    abbrev key : Row
    key = key_of columns r

    abbrev test : List ℕ → Bool
    test = pointwise nat_eq (spelled key)

    place_is : position_or_len test spellings ≡ position_or_len (same_row key) (keys rows)
    place_is =
        ap (position_or_len test) so_far.names ∙ place-map test spelled (keys rows)
        ∙ place_agrees (IsSpelled (length columns)) (λ k. test (spelled k)) (same_row key) (λ k fit. same_test (length columns) key k fits fit) (keys rows) so_far.spelled

    any_is : list_any test spellings ≡ list_any (same_row key) (keys rows)
    any_is =
        ap (list_any test) so_far.names ∙ any-map test spelled (keys rows)
        ∙ any_agrees (IsSpelled (length columns)) (λ k. test (spelled k)) (same_row key) (λ k fit. same_test (length columns) key k fits fit) (keys rows) so_far.spelled

    pub place_in_groups : position_or_len test spellings ≤ length groups
    place_in_groups =
        let within = place_within (same_row key) (keys rows) in
        let many : length groups ≡ length (keys rows) = ap length so_far.members ∙ length-map (keys rows) (λ k. members columns k rows) in
        omega (arith, within, many, place_is)

    pub one_more : AreGathered (rows ++ r ∷ []) (cond (list_any test spellings) spellings (spellings ++ spelled key ∷ [])) (with_member groups (position_or_len test spellings) r)
    one_more =
        let before : Rows = keys rows in
        let f : Row → Rows = λ k. members columns k rows in
        let g : Row → Rows = λ k. members columns k (rows ++ r ∷ []) in
        let grow : map (grown f key r) before ≡ map g before = map_agrees (grown f key r) g (λ k. sym (members_more rows r k)) before in
        let Goal : Bool → Rows → List (List ℕ) → List Rows → Type 0 = λ b ks names gs. (names ≡ map spelled ks) × (gs ≡ map g ks) × AllByRecursion (IsSpelled (length columns)) ks in
        let found : List (List ℕ) = cond (list_any (same_row key) before) spellings (spellings ++ spelled key ∷ []) in
        let all = cases (list_any (same_row key) before) refl in
        record {
          names = ap (λ b. cond b spellings (spellings ++ spelled key ∷ [])) any_is ∙ all.0 ∙ sym (ap (map spelled) (keys_more rows r));
          members = (λ i. with_member (so_far.members i) (place_is i) r) ∙ with_member-place f key r before (once_distinct (map (key_of columns) rows)) ∙ all.1 ∙ sym (ap (map g) (keys_more rows r));
          spelled = subst (AllByRecursion (IsSpelled (length columns))) (sym (keys_more rows r)) all.2;
        }
      where
        with_last : (xs : Rows) → AllByRecursion (IsSpelled (length columns)) xs → AllByRecursion (IsSpelled (length columns)) (xs ++ key ∷ [])
        with_last [] all = (fits, tt)
        with_last (x ∷ xs) all = (all.0, with_last xs all.1)

        cases : (b : Bool) → list_any (same_row key) (keys rows) ≡ b
            → (cond b spellings (spellings ++ spelled key ∷ []) ≡ map spelled (cond b (keys rows) (keys rows ++ key ∷ [])))
            × (cond b (map (grown (λ k. members columns k rows) key r) (keys rows)) (map (λ k. members columns k rows) (keys rows) ++ (r ∷ []) ∷ []) ≡ map (λ k. members columns k (rows ++ r ∷ [])) (cond b (keys rows) (keys rows ++ key ∷ [])))
            × AllByRecursion (IsSpelled (length columns)) (cond b (keys rows) (keys rows ++ key ∷ []))
        cases true e = (so_far.names, map_agrees (grown (λ k. members columns k rows) key r) (λ k. members columns k (rows ++ r ∷ [])) (λ k. sym (members_more rows r k)) (keys rows), so_far.spelled)
        cases false e =
            let f : Row → Rows = λ k. members columns k rows in
            let g : Row → Rows = λ k. members columns k (rows ++ r ∷ []) in
            let absent : among (map (key_of columns) rows) key ≡ false =
            sym (among-distinct (map (key_of columns) rows) key) ∙ any_agrees (λ x. Unit {0}) (λ s. same_row s key) (same_row key) (λ s _. same_sym s key) (keys rows) (every (keys rows)) ∙ e in
            let alone : g key ≡ r ∷ [] =
            members_more rows r key ∙ ap (λ b. members columns key rows ++ cond b (r ∷ []) []) (same_itself key) ∙ ap (λ (rs : Rows). rs ++ r ∷ []) (none_of_it columns [] key rows absent) in
            let stay : map f (keys rows) ≡ map g (keys rows) = sym (absent_stay f key r (keys rows) e) ∙ map_agrees (grown f key r) g (λ k. sym (members_more rows r k)) (keys rows) in (
              ap (λ names. names ++ spelled key ∷ []) so_far.names ∙ sym (map-append spelled (keys rows) (key ∷ [])),
              (λ i. stay i ++ sym alone i ∷ []) ∙ sym (map-append g (keys rows) (key ∷ [])),
              with_last (keys rows) so_far.spelled,
            )

  -- ---- at a loop over the rows that has come to one of them

  module _ {X V : Type 0} (cells : X → Row) (rows : List X) (i : ℕ) (row : X) (within : i < length rows) (is : row ≡ get_or rows i row)
      (items : V → List ℕ) (value : V) (names : List V) (groups : List Rows) (place : ℕ) (so_far : AreGathered (map cells (take i rows)) (map items names) groups)
      (bytes : items value ≡ spelled (key_of columns (cells row))) (values : AllByRecursion IsValue (key_of columns (cells row)))
      (found : place ≡ position_or_len (λ name. pointwise nat_eq (items value) (items name)) names) where
    own_key : IsSpelled (length columns) (key_of columns (cells row))
    own_key = record { wide = length-map columns (value_at (cells row)); values = values }

    place_same : place ≡ position_or_len (pointwise nat_eq (spelled (key_of columns (cells row)))) (map items names)
    place_same =
        found ∙ ap (λ (b : List ℕ). position_or_len (λ name. pointwise nat_eq b (items name)) names) bytes
        ∙ sym (place-map (pointwise nat_eq (spelled (key_of columns (cells row)))) items names)

    pub room_for_row : place ≤ length groups
    room_for_row = omega (arith, place_same, place_in_groups (map cells (take i rows)) (cells row) (map items names) groups so_far own_key)

    pub row_gathered : (more : List V) (grown : List Rows) → more ≡ (if list_any (λ name. pointwise nat_eq (items value) (items name)) names then names else names ++ value ∷ []) → grown ≡ with_member groups place (cells row)
        → AreGathered (map cells (take (i + 1) rows)) (map items more) grown
    row_gathered more grown more-is grown-is =
        let key : Row = key_of columns (cells row) in
        let rows_are : map cells (take i rows) ++ cells row ∷ [] ≡ map cells (take (i + 1) rows) =
        sym (ap (map cells) (take_more rows i row within ∙ ap (λ (x : X). take i rows ++ x ∷ []) (sym is)) ∙ map-append cells (take i rows) (row ∷ [])) in
        let any_same : list_any (λ name. pointwise nat_eq (items value) (items name)) names ≡ list_any (pointwise nat_eq (spelled key)) (map items names) =
        ap (λ (b : List ℕ). list_any (λ name. pointwise nat_eq b (items name)) names) bytes ∙ sym (any-map (pointwise nat_eq (spelled key)) items names) in
        let names_are : map items more ≡ cond (list_any (pointwise nat_eq (spelled key)) (map items names)) (map items names) (map items names ++ spelled key ∷ []) =
        ap (map items) (more-is ∙ ap (λ b. cond b names (names ++ value ∷ [])) any_same) ∙ chosen (list_any (pointwise nat_eq (spelled key)) (map items names)) in
        let grown_are : with_member groups (position_or_len (pointwise nat_eq (spelled key)) (map items names)) (cells row) ≡ grown =
        sym (grown-is ∙ ap (λ p. with_member groups p (cells row)) place_same) in
        let P : Rows × List (List ℕ) × List Rows → Type 0 = λ x. AreGathered x.0 x.1 x.2 in
        subst P (λ j. (rows_are j, sym names_are j, grown_are j)) (one_more (map cells (take i rows)) (cells row) (map items names) groups so_far own_key)
      where
        chosen : (b : Bool) → map items (cond b names (names ++ value ∷ [])) ≡ cond b (map items names) (map items names ++ spelled (key_of columns (cells row)) ∷ [])
        chosen true = refl
        chosen false = map-append items names (value ∷ []) ∙ ap (λ (b : List ℕ). map items names ++ b ∷ []) bytes
