-- What a change that is committed leaves of a table, and which marks are worn then.
use Rattle.std.proofs.Common.{◌≡◌, ℕ, ◌+◌, ◌≤◌, Bool, true, false, not, ◌||◌, cond, nat_eq, List}
use Rattle.std.proofs.Common.{[], ◌∷◌, ◌++◌, Option, None, Some, map, filter, flat_map, refl, sym}
use Rattle.std.proofs.Common.{ap, ◌∙◌, arith, if◌then◌else◌}
use Rattle.std.proofs.lemmas.Bool.{eqb-true}
use Rattle.std.specs.Prelude.{is_some}
use Rattle.std.specs.List.{AllByRecursion, list_any}
use Rattle.std.specs.Option.{option_map, option_map_or}
use Rattle.lake_values.specs.Schemas.{TableColumns}
use Rattle.lake_values.specs.declared.values.Value.{Value}
use Rattle.sql_model.specs.declared.changes.Added.{Added}
use Rattle.sql_model.specs.declared.changes.Change.{Change}
use Rattle.sql_model.specs.declared.changes.Mark.{Mark}
use Rattle.sql_model.specs.declared.changes.MarkedRow.{MarkedRow}
use Rattle.sql_model.specs.Changes.{added_to, applied, changed_table, has_mark, marked, marked_cmp}
use Rattle.sql_model.specs.Changes.{removed_from, same_mark, without}
use Rattle.sql_model.specs.Units.{marks_of}
use Rattle.sql_model.specs.Listing.{weight}
use Rattle.lake_model.specs.State.{Transaction, opened_by}
use Rattle.sql_model.specs.Versions.{Table, Tables, all_rows, has_table, marked_rows_of, table_of}
use Rattle.lake_values.specs.Texts.{same_text}
use Rattle.sql_model.proofs.Lists.{all_weaker}
use Rattle.lake_values.proofs.SameTexts.{same_text_is, same_text_self}
use Rattle.file_laws.specs.Contents.{row_as}
use Rattle.file_laws.specs.Stands.{added_of, removed_of, schema_of, KeepsTables}
use Rattle.file_laws.specs.Touching.{is_marked}
use Rattle.file_laws.proofs.ReplayLemmas.{mark_tells}
use Rattle.file_laws.proofs.StandLemmas.{all_diagonal, mark_self}

-- the schema of what was found
abbrev schema_in : Option Table → Option (List ℕ × TableColumns)
schema_in o = option_map (λ t. (t.name, t.schema)) o

some_schema : (o : Option Table) → is_some {T = List ℕ × TableColumns} (schema_in o) ≡ is_some o
some_schema None = refl
some_schema (Some t) = refl

some_same : {X : Type 0} {x y : X} → ◌≡◌ {A = Option X} (Some x) (Some y) → x ≡ y
some_same e = cc

-- a table behind a change

pub found_changed : (seq : ℕ) (change : Change) (table : List ℕ) (tables : Tables) → table_of table
    (applied seq change tables) ≡ option_map (changed_table seq change) (table_of table tables)
found_changed seq change table [] = refl
found_changed seq change table (t ∷ ts) =
    elim (same_text t.name table) as (λ b. cond b (Some (changed_table seq change t))
    (table_of table (applied seq change ts)) ≡ option_map (changed_table seq change)
    (cond b (Some t) (table_of table ts))) [
      | true ↦ refl
      | false ↦ found_changed seq change table ts
    ]

pub found_name : (table : List ℕ) (tables : Tables) (t : Table) → table_of table tables ≡ Some t →
    t.name ≡ table
found_name table [] t e = absurd cc
found_name table (x ∷ xs) t e =
    elim (same_text x.name table) as (λ b. same_text x.name table ≡ b → cond b (Some x)
    (table_of table xs) ≡ Some t → t.name ≡ table) [
      | true ↦ λ h e. let same : x ≡ t = cc in ap (λ (u : Table). u.name) (sym same) ∙ same_text_is
          x.name table h
      | false ↦ λ h e. found_name table xs t e
    ] refl e

pub without_nothing : (removed : List MarkedRow) → without marked_cmp [] removed ≡ []
without_nothing [] = refl
without_nothing (r ∷ rs) = without_nothing rs

map_append : {X Y : Type 0} (f : X → Y) (xs ys : List X) → map f (xs ++ ys) ≡ map f xs ++ map f ys
map_append f [] ys = refl
map_append {X} {Y} f (x ∷ xs) ys = ap (λ (zs : List Y). f x ∷ zs) (map_append f xs ys)

module _ (seq : ℕ) (s t : Table) (name : s.name ≡ t.name) (schema : s.schema ≡ t.schema) where
  marked_as_rows : (part : ℕ) (rows : List (List Value)) → map (row_as seq)
      (map (marked s.name s.schema 0 part) rows) ≡ map (marked t.name t.schema seq part) rows
  marked_as_rows part [] = refl
  marked_as_rows part (r ∷ rs) = λ i. marked (name i) (schema i) seq part r ∷ marked_as_rows part rs
      i

  added_as : (added : List Added) → map (row_as seq) (flat_map (added_to s 0) added) ≡ flat_map
      (added_to t seq) added
  added_as [] = refl
  added_as (a ∷ as') = map_append (row_as seq) (added_to s 0 a) (flat_map (added_to s 0) as') ∙
      (λ i. one i ++ added_as as' i)
    where
      one : map (row_as seq) (added_to s 0 a) ≡ added_to t seq a
      one =
          ap (λ (n : List ℕ). map (row_as seq)
          (if same_text a.table n then map (marked s.name s.schema 0 a.part) a.rows else []))
          name
          ∙ elim (same_text a.table t.name) as (λ b. map (row_as seq)
          (if b then map (marked s.name s.schema 0 a.part) a.rows else []) ≡ if b then map
          (marked t.name t.schema seq a.part) a.rows else []) [
            | true ↦ marked_as_rows a.part a.rows
            | false ↦ refl
          ]

none_added : (seq : ℕ) (t : Table) (added : List Added) → AllByRecursion
    (λ a. same_text a.table t.name ≡ false) added → flat_map (added_to t seq) added ≡ []
none_added seq t [] all = refl
none_added seq t (a ∷ as') all = rw all.0 (none_added seq t as' all.1)

-- the rows of a table of the version behind a commit, by what the transaction changed of its
-- snapshot
pub rows_committed : (seq : ℕ) (change : Change) (table : List ℕ) (snapshot later : Tables) →
    KeepsTables snapshot later → AllByRecursion (λ a. has_table a.table snapshot ≡ true)
    change.added
    → without marked_cmp (marked_rows_of table later) (removed_of table change.removed) ++ map
    (row_as seq) (added_of table snapshot 0 change.added) ≡ marked_rows_of table
    (applied seq change later)
rows_committed seq change table snapshot later keeps known =
    elim (table_of table later) as (λ l. table_of table later ≡ l
    → without marked_cmp (option_map_or (λ t. t.rows) l []) (removed_of table change.removed) ++ map
    (row_as seq) (added_of table snapshot 0 change.added) ≡ option_map_or (λ t. t.rows)
    (option_map (changed_table seq change) l) []) [
      | None ↦ λ gone.
          let empty : added_of table snapshot 0 change.added ≡ [] = elim (table_of table snapshot)
          as (λ s. table_of table snapshot ≡ s → option_map_or
          (λ t. flat_map (added_to t 0) change.added) s [] ≡ []) [
            | None ↦ λ e. refl
            | Some s ↦ λ e.
                let there = keeps table (ap (λ (o : Option Table). is_some o) e) in
                let no : is_some {T = List ℕ × TableColumns} (schema_of table later) ≡ is_some
                {T = List ℕ × TableColumns} (schema_of table snapshot) = ap
                (λ (o : Option (List ℕ × TableColumns)). is_some o) there in
                let left : is_some (table_of table later) ≡ false = ap
                (λ (o : Option Table). is_some o) gone in
                let right : is_some (table_of table snapshot) ≡ true = ap
                (λ (o : Option Table). is_some o) e in
                let both : false ≡ true = sym left ∙ sym (some_schema (table_of table later)) ∙ no ∙
                some_schema (table_of table snapshot) ∙ right in
                absurd cc
          ] refl in
          (λ i. without_nothing (removed_of table change.removed) i ++ map (row_as seq) (empty i))
      | Some t ↦ λ is.
          let name : t.name ≡ table = found_name table later t is in
          let removed : removed_of table change.removed ≡ removed_from t change.removed = ap
          (λ (n : List ℕ). removed_of n change.removed) (sym name) in
          (λ i. without marked_cmp t.rows (removed i) ++ added t is name i)
    ] refl ∙ sym (ap (λ (o : Option Table). option_map_or (λ t. t.rows) o [])
    (found_changed seq change table later))
  where
    added : (t : Table) → table_of table later ≡ Some t → t.name ≡ table → map (row_as seq)
        (added_of table snapshot 0 change.added) ≡ flat_map (added_to t seq) change.added
    added t is name = elim (table_of table snapshot) as (λ s. table_of table snapshot ≡ s → map
        (row_as seq) (option_map_or (λ t. flat_map (added_to t 0) change.added) s []) ≡ flat_map
        (added_to t seq) change.added) [
          | None ↦ λ gone.
              let none : has_table table snapshot ≡ false = ap (λ (o : Option Table). is_some o)
              gone in
              sym (none_added seq t change.added (all_weaker change.added (λ a there. elim
              (same_text a.table t.name) as (λ b. same_text a.table t.name ≡ b → b ≡ false) [
                | true ↦ λ h. let same : a.table ≡ table = same_text_is a.table t.name h ∙ name in
                    let
                    no : true ≡ false = sym there ∙ ap (λ (n : List ℕ). has_table n snapshot) same ∙
                    none in no
                | false ↦ λ h. refl
              ] refl) known))
          | Some s ↦ λ e.
              let there = keeps table (ap (λ (o : Option Table). is_some o) e) in
              let left = ap schema_in is in
              let right = ap schema_in e in
              let both : ◌≡◌ {A = List ℕ × TableColumns} (s.name, s.schema) (t.name, t.schema) =
              some_same (sym right ∙ sym there ∙ left) in
              added_as seq s t (λ i. (both i).0) (λ i. (both i).1) change.added
        ] refl

-- what holds of the removed rows of each table holds of all
pub all_tables : (P : MarkedRow → Type 0) (removed : List MarkedRow) →
    ((table : List ℕ) → AllByRecursion P (removed_of table removed)) → AllByRecursion P removed
all_tables P removed each =
    all_weaker removed (λ m h. h tt (same_text_self m.mark.table)) (all_diagonal (λ m. Unit {0})
    (λ m n. same_text n.mark.table m.mark.table ≡ true → P n) removed
    (λ m _. of_filter (λ n. same_text n.mark.table m.mark.table) removed (each m.mark.table)))
  where
    of_filter : (q : MarkedRow → Bool) (rows : List MarkedRow) → AllByRecursion P (filter q rows) →
        AllByRecursion (λ n. q n ≡ true → P n) rows
    of_filter q [] all = tt
    of_filter q (r ∷ rs) all =
        elim (q r) as (λ b. q r ≡ b → AllByRecursion P (cond b (r ∷ filter q rs) (filter q rs)) →
        (q r ≡ true → P r) × AllByRecursion (λ n. q n ≡ true → P n) rs) [
          | true ↦ λ e all. (λ _. all.0, of_filter q rs all.1)
          | false ↦ λ e all.
              ((λ h. let no : true ≡ false = sym h ∙ e in absurd cc), of_filter q rs all)
        ] refl all

-- marks

-- a table's rows have its marks
pub marked_of : (table : List ℕ) (m : Mark) → m.table ≡ table → (removed : List MarkedRow) →
    is_marked (marks_of (removed_of table removed)) m ≡ is_marked (marks_of removed) m
marked_of table m is [] = refl
marked_of table m is (r ∷ rs) =
    elim (same_text r.mark.table table) as (λ b. same_text r.mark.table table ≡ b → is_marked
    (marks_of (cond b (r ∷ removed_of table rs) (removed_of table rs))) m ≡
    (same_mark m r.mark || is_marked (marks_of rs) m)) [
      | true ↦ λ e. ap (λ (b : Bool). same_mark m r.mark || b) (marked_of table m is rs)
      | false ↦ λ e.
          let differ : same_mark m r.mark ≡ false = elim (same_mark m r.mark) as
          (λ b. same_mark m r.mark ≡ b → b ≡ false) [
            | true ↦ λ h. let same : r.mark.table ≡ table = ap (λ (x : Mark). x.table)
                (sym (mark_tells m r.mark h)) ∙ is in sym (same_text_self table) ∙ ap
                (λ (n : List ℕ). same_text n table) (sym same) ∙ e
            | false ↦ λ h. refl
          ] refl in
          rw differ (marked_of table m is rs)
    ] refl

pub marked_kept : (q : Mark → Bool) (m : Mark) → q m ≡ true → (marks : List Mark) → is_marked
    (filter q marks) m ≡ is_marked marks m
marked_kept q m passes [] = refl
marked_kept q m passes (x ∷ xs) =
    elim (q x) as (λ b. q x ≡ b → is_marked (cond b (x ∷ filter q xs) (filter q xs)) m ≡
    (same_mark m x || is_marked xs m)) [
      | true ↦ λ e. ap (λ (b : Bool). same_mark m x || b) (marked_kept q m passes xs)
      | false ↦ λ e.
          let differ : same_mark m x ≡ false = elim (same_mark m x) as
          (λ b. same_mark m x ≡ b → b ≡ false) [
            | true ↦ λ h. sym passes ∙ ap q (mark_tells m x h) ∙ e
            | false ↦ λ h. refl
          ] refl in
          rw differ (marked_kept q m passes xs)
    ] refl

-- a table that has a row of the mark
pub has_row : (table : List ℕ) (tables : Tables) (m : Mark) → 1 ≤ weight
    (λ (r : MarkedRow). if same_mark m r.mark then 1 else 0) (marked_rows_of table tables) →
    has_mark tables m ≡ true
has_row table tables m some = in_tables tables (any_of (marked_rows_of table tables) some)
  where
    turned : (x : Mark) → same_mark m x ≡ true → same_mark x m ≡ true
    turned x e = ap (λ (y : Mark). same_mark y m) (sym (mark_tells m x e)) ∙ mark_self m

    or_right : (a b : Bool) → b ≡ true → (a || b) ≡ true
    or_right true b e = refl
    or_right false b e = e

    or_left : (a b : Bool) → a ≡ true → (a || b) ≡ true
    or_left true b e = refl
    or_left false b e = absurd cc

    any_of : (rows : List MarkedRow) → 1 ≤ weight
        (λ (r : MarkedRow). if same_mark m r.mark then 1 else 0) rows → list_any
        (λ r. same_mark r.mark m) rows ≡ true
    any_of [] e = absurd (omega (arith, e))
    any_of (r ∷ rs) e =
        elim (same_mark m r.mark) as (λ b. same_mark m r.mark ≡ b → 1 ≤ (if b then 1 else 0) +
        weight (λ (r : MarkedRow). if same_mark m r.mark then 1 else 0) rs →
        (same_mark r.mark m || list_any (λ r. same_mark r.mark m) rs) ≡ true) [
          | true ↦ λ h e. let first = turned r.mark h in rw first refl
          | false ↦ λ h e. or_right (same_mark r.mark m) (list_any (λ r. same_mark r.mark m) rs)
              (any_of rs (omega (arith, e)))
        ] refl e

    any_append : (p : MarkedRow → Bool) (xs ys : List MarkedRow) → list_any p (xs ++ ys) ≡
        (list_any p xs || list_any p ys)
    any_append p [] ys = refl
    any_append p (x ∷ xs) ys = elim (p x) as
        (λ b. (b || list_any p (xs ++ ys)) ≡ ((b || list_any p xs) || list_any p ys))
        [ true ↦ refl | false ↦ any_append p xs ys ]

    in_tables : (tables : Tables) → list_any (λ r. same_mark r.mark m) (marked_rows_of table tables)
        ≡ true → list_any (λ r. same_mark r.mark m) (all_rows tables) ≡ true
    in_tables [] e = absurd cc
    in_tables (t ∷ ts) e =
        any_append (λ r. same_mark r.mark m) t.rows (all_rows ts)
        ∙ elim (same_text t.name table) as (λ b. list_any (λ r. same_mark r.mark m)
        (option_map_or (λ t. t.rows) (cond b (Some t) (table_of table ts)) []) ≡ true →
        (list_any (λ r. same_mark r.mark m) t.rows || list_any (λ r. same_mark r.mark m)
        (all_rows ts)) ≡ true) [
          | true ↦ λ e. or_left (list_any (λ r. same_mark r.mark m) t.rows)
              (list_any (λ r. same_mark r.mark m) (all_rows ts)) e
          | false ↦ λ e. or_right (list_any (λ r. same_mark r.mark m) t.rows)
              (list_any (λ r. same_mark r.mark m) (all_rows ts)) (in_tables ts e)
        ] e

-- transactions that stay open when another ends

pub none_left : (session : ℕ) (os : List (ℕ × Transaction)) → opened_by session
    (filter (λ o. not (nat_eq o.0 session)) os) ≡ None
none_left session [] = refl
none_left session (o ∷ os) =
    elim (nat_eq o.0 session) as (λ b. nat_eq o.0 session ≡ b → opened_by session (cond (not b)
    (o ∷ filter (λ o. not (nat_eq o.0 session)) os)
    (filter (λ o. not (nat_eq o.0 session)) os)) ≡ None) [
      | true ↦ λ e. none_left session os
      | false ↦ λ e. rw e (none_left session os)
    ] refl

pub still_open : (other session : ℕ) (os : List (ℕ × Transaction)) (t : Transaction) → opened_by
    session (filter (λ o. not (nat_eq o.0 other)) os) ≡ Some t → opened_by session os ≡ Some t
still_open other session [] t e = absurd cc
still_open other session (o ∷ os) t e =
    elim (nat_eq o.0 other) as (λ b. nat_eq o.0 other ≡ b → opened_by session (cond (not b)
    (o ∷ filter (λ o. not (nat_eq o.0 other)) os) (filter (λ o. not (nat_eq o.0 other)) os))
    ≡ Some t → (if nat_eq o.0 session then Some o.1 else opened_by session os) ≡ Some t) [
      | true ↦ λ h e.
          elim (nat_eq o.0 session) as (λ b. nat_eq o.0 session ≡ b →
          (if b then Some o.1 else opened_by session os) ≡ Some t) [
            | true ↦ λ g.
                let same : other ≡ session = sym (eqb-true o.0 other h) ∙ eqb-true o.0 session g in
                let none : opened_by session (filter (λ o. not (nat_eq o.0 other)) os) ≡ None = ap
                (λ (n : ℕ). opened_by session (filter (λ o. not (nat_eq o.0 n)) os)) same ∙
                none_left session os in
                absurd cc
            | false ↦ λ g. still_open other session os t e
          ] refl
      | false ↦ λ h e.
          elim (nat_eq o.0 session) as (λ b. (if b then Some o.1 else opened_by session
          (filter (λ o. not (nat_eq o.0 other)) os)) ≡ Some t →
          (if b then Some o.1 else opened_by session os) ≡ Some t) [
            | true ↦ λ e. e
            | false ↦ λ e. still_open other session os t e
          ] e
    ] refl e
