-- What commits in order say of conflicts.
use Rattle.std.proofs.Common.{◌≡◌, ℕ, zero, suc, ◌+◌, ◌<◌, ◌≤◌, Bool, true, false, ◌&&◌, ◌||◌, nat_eq}
use Rattle.std.proofs.Common.{nat_lt, nat_le, List, [], ◌∷◌, ◌++◌, inl, inr, Option, None, Some}
use Rattle.std.proofs.Common.{map, filter, drop, length, refl, sym, ap, ◌∙◌, subst, arith, cond}
use Rattle.std.proofs.Common.{eq-eqb}
use Rattle.std.specs.Prelude.{find, slice_index_or, IfSome, IfNone}
use Rattle.std.specs.List.{AllByRecursion, list_any}
use Rattle.std.specs.List.Sorted.{IsPartitionPoint}
use Rattle.std.specs.Option.{option_map}
use Rattle.sql_model.specs.declared.changes.Mark.{Mark}
use Rattle.sql_model.specs.Units.{whole_table, same_unit, share_unit, units_of_marks}
use Rattle.lake_values.specs.Texts.{same_text}
use Rattle.write_set_catalog.specs.Catalogs.{AreInOrder, AreUpTo, ToldCommit}
use Rattle.write_set_catalog.specs.Conflicts.{HasNoConflict, IsFirstConflict, is_conflict}
use Rattle.write_set_catalog.specs.Conflicts.{row_writes_one, writes_one}
use Rattle.write_set_catalog.specs.declared.rows.CatRow.{CatRow}

-- a commit behind the others

behind_one : (r : ToldCommit) (rows : List ToldCommit) (row : ToldCommit) → AllByRecursion
    (λ s. r.seq < s.seq) rows → r.seq < row.seq → AllByRecursion (λ s. r.seq < s.seq)
    (rows ++ row ∷ [])
behind_one r [] row all more = (more, tt)
behind_one r (s ∷ ss) row all more = (all.0, behind_one r ss row all.1 more)

in_order_more : (rows : List ToldCommit) (row : ToldCommit) (last : ℕ) → AreInOrder rows → AreUpTo
    last rows → row.seq ≡ last + 1 → AreInOrder (rows ++ row ∷ [])
in_order_more [] row last order behind next = (tt, tt)
in_order_more (r ∷ rs) row last order behind next = (
  behind_one r rs row order.0 (omega (arith, behind.0, next)),
  in_order_more rs row last order.1 behind.1 next,
)

up_more : (rows : List ToldCommit) (row : ToldCommit) (last : ℕ) → AreUpTo last rows → row.seq ≡
    last + 1 → AreUpTo row.seq (rows ++ row ∷ [])
up_more [] row last up next = (omega arith, tt)
up_more (r ∷ rs) row last up next = (omega (arith, up.0, next), up_more rs row last up.1 next)

pub appended :
    (rows new : List ToldCommit) (row : ToldCommit) (last : ℕ) → new ≡ rows ++ row ∷ []
    → AreInOrder rows × AreUpTo last rows → row.seq ≡ last + 1
    → AreInOrder new × AreUpTo row.seq new
appended rows new row last is was next =
    rw is (in_order_more rows row last was.0 was.1 next, up_more rows row last was.1 next)

-- which tables marks name

names_mapped : (table : List ℕ) (marks : List Mark) → list_any (same_unit (whole_table table))
    (units_of_marks marks) ≡ list_any (λ m. same_text table m.table) marks
names_mapped table [] = refl
names_mapped table (m ∷ ms) =
    ap (λ (b : Bool). same_text table m.table || b) (names_mapped table ms)

or_same : (b : Bool) → (b || b) ≡ b
or_same true = refl
or_same false = refl

or_false : (b : Bool) → (b || false) ≡ b
or_false true = refl
or_false false = refl

pub writes_some : (row : CatRow) (mark : Mark) (rest marks : List Mark) → row.marks ≡ mark ∷ rest →
    row_writes_one marks row ≡ list_any (λ m. same_text row.table m.table) marks
writes_some row mark rest marks is =
    ap (λ (ms : List Mark). share_unit (map (λ (m : Mark). whole_table row.table) ms)
    (units_of_marks marks)) is ∙ each rest ∙ names_mapped row.table marks
  where
    each : (rest : List Mark) → share_unit (map (λ (m : Mark). whole_table row.table) (mark ∷ rest))
        (units_of_marks marks) ≡ list_any (same_unit (whole_table row.table)) (units_of_marks marks)
    each [] = or_false (list_any (same_unit (whole_table row.table)) (units_of_marks marks))
    each (m ∷ ms) = ap
        (λ (b : Bool). list_any (same_unit (whole_table row.table)) (units_of_marks marks) || b)
        (each ms) ∙ or_same (list_any (same_unit (whole_table row.table)) (units_of_marks marks))

pub writes_where_any : (row : CatRow) (marks : List Mark) → (row.marks ≡ [] → ⊥) →
    row_writes_one marks row ≡ list_any (λ m. same_text row.table m.table) marks
writes_where_any row marks some =
    elim row.marks as (λ ms. row.marks ≡ ms → row_writes_one marks row ≡ list_any
    (λ m. same_text row.table m.table) marks) [
      | [] ↦ λ e. absurd (some e)
      | (m ∷ ms) ↦ λ e. writes_some row m ms marks e
    ] refl

-- the later commits are those behind the first of them

pub drop_filter : (p : ToldCommit → Bool) (rows : List ToldCommit) (n : ℕ) → n ≤ length rows →
    ((k : ℕ) (d : ToldCommit) → k < n → p (slice_index_or rows k d) ≡ false) →
    ((k : ℕ) (d : ToldCommit) → n ≤ k → k < length rows → p (slice_index_or rows k d) ≡ true) → drop n
    rows ≡ filter p rows
drop_filter p [] zero within before behind = refl
drop_filter p [] (suc n) within before behind = absurd (omega arith)
drop_filter p (r ∷ rs) zero within before behind =
    let first : p r ≡ true = behind 0 r (omega arith) (omega arith) in
    rw first (ap (λ (xs : List ToldCommit). r ∷ xs) (drop_filter p rs zero (omega arith)
    (λ k d h. absurd (omega arith))
    (λ k d h less. behind (suc k) d (omega arith) (omega arith))))
drop_filter p (r ∷ rs) (suc n) within before behind =
    let first : p r ≡ false = before 0 r (omega arith) in
    rw first (drop_filter p rs n (omega arith) (λ k d h. before (suc k) d (omega arith))
    (λ k d h less. behind (suc k) d (omega arith) (omega arith)))

-- the first of the later commits that wrote a unit is the first that conflicts

pub find_later : (snapshot : ℕ) (marks : List Mark) (rows : List ToldCommit) → find (writes_one marks)
    (filter (λ row. nat_lt snapshot row.seq) rows) ≡ find (is_conflict snapshot marks) rows
find_later snapshot marks [] = refl
find_later snapshot marks (r ∷ rs) =
    elim (nat_lt snapshot r.seq) as (λ b. find (writes_one marks) (cond b
    (r ∷ filter (λ row. nat_lt snapshot row.seq) rs)
    (filter (λ row. nat_lt snapshot row.seq) rs)) ≡ cond (b && writes_one marks r) (Some r)
    (find (is_conflict snapshot marks) rs)) [
      | true ↦ ap (λ (o : Option ToldCommit). cond (writes_one marks r) (Some r) o)
          (find_later snapshot marks rs)
      | false ↦ find_later snapshot marks rs
    ]

-- the commits rise

from_first : (r : ToldCommit) (rs : List ToldCommit) → AllByRecursion (λ s. r.seq < s.seq) rs → (j : ℕ)
    (d : ToldCommit) → j < length rs → r.seq < (slice_index_or rs j d).seq
from_first r [] all j d less = absurd (omega arith)
from_first r (s ∷ ss) all zero d less = all.0
from_first r (s ∷ ss) all (suc j) d less = from_first r ss all.1 j d (omega arith)

pub rises : (rows : List ToldCommit) → AreInOrder rows → (i j : ℕ) (d : ToldCommit) → i ≤ j → j < length
    rows → (slice_index_or rows i d).seq ≤ (slice_index_or rows j d).seq
rises [] order i j d le less = absurd (omega arith)
rises (r ∷ rs) order zero zero d le less = omega arith
rises (r ∷ rs) order zero (suc j) d le less =
    omega (arith, from_first r rs order.0 j d (omega arith))
rises (r ∷ rs) order (suc i) zero d le less = absurd (omega arith)
rises (r ∷ rs) order (suc i) (suc j) d le less = rises rs order.1 i j d (omega arith) (omega arith)

later_or_not : (m n : ℕ) → nat_le m n ≡ true → nat_lt n m ≡ false
later_or_not m n e = grind arith

later_so : (m n : ℕ) → nat_le m n ≡ false → nat_lt n m ≡ true
later_so m n e = grind arith

pub later_are : (rows : List ToldCommit) (snapshot n : ℕ) → n ≤ length rows → IsPartitionPoint
    (λ r. nat_le r.seq snapshot ≡ true) (λ r. nat_le r.seq snapshot ≡ false) rows n →
    drop n rows ≡ filter (λ row. nat_lt snapshot row.seq) rows
later_are rows snapshot n within split =
    drop_filter (λ row. nat_lt snapshot row.seq) rows n within
    (λ k d h. later_or_not (slice_index_or rows k d).seq snapshot (split.0 k d (omega arith) h))
    (λ k d h less. later_so (slice_index_or rows k d).seq snapshot (split.1 k d h less))

-- what the first commit that conflicts says

least_from : (snapshot : ℕ) (marks : List Mark) (seq : ℕ) (rows : List ToldCommit) → AllByRecursion
    (λ s. seq < s.seq) rows → AllByRecursion
    (λ r. is_conflict snapshot marks r ≡ true → seq ≤ r.seq) rows
least_from snapshot marks seq [] all = tt
least_from snapshot marks seq (r ∷ rs) all = (λ e. omega (arith, all.0), least_from snapshot marks seq rs all.1)

same_number : (n : ℕ) → nat_eq n n ≡ true
same_number n = eq-eqb n n refl

pub found_first : (snapshot : ℕ) (marks : List Mark) (rows : List ToldCommit) (row : ToldCommit) →
    AreInOrder rows → find (is_conflict snapshot marks) rows ≡ Some row → IsFirstConflict snapshot
    marks rows row.seq
found_first snapshot marks [] row order found = absurd cc
found_first snapshot marks (r ∷ rs) row order found =
    elim (is_conflict snapshot marks r) as (λ b. is_conflict snapshot marks r ≡ b → cond b (Some r)
    (find (is_conflict snapshot marks) rs) ≡ Some row → IsFirstConflict snapshot marks
    (r ∷ rs) row.seq) [
      | true ↦ λ e is.
          let same : r ≡ row = cc in
          subst (λ (x : ToldCommit). IsFirstConflict snapshot marks (r ∷ rs) x.seq) same
          record {
            there = rw e (rw same_number refl);
            least =
                (λ _. omega arith, least_from snapshot marks r.seq rs order.0);
          }
      | false ↦ λ e is.
          let rest = found_first snapshot marks rs row order.1 is in
          record {
            there = rw e rest.there;
            least =
                (λ so. absurd (let both : true ≡ false = sym so ∙ e in cc), rest.least);
          }
    ] refl found

pub found_none : (snapshot : ℕ) (marks : List Mark) (rows : List ToldCommit) → find
    (is_conflict snapshot marks) rows ≡ None → HasNoConflict snapshot marks rows
found_none snapshot marks [] none = refl
found_none snapshot marks (r ∷ rs) none =
    elim (is_conflict snapshot marks r) as (λ b. cond b (Some r)
    (find (is_conflict snapshot marks) rs) ≡ None →
    (b || list_any (is_conflict snapshot marks) rs) ≡ false) [
      | true ↦ λ is. absurd cc
      | false ↦ λ is. found_none snapshot marks rs is
    ] none

-- what a search through the later commits answers

found_answer : (snapshot : ℕ) (marks : List Mark) (rows : List ToldCommit) (found : Option ToldCommit) →
    AreInOrder rows → find (is_conflict snapshot marks) rows ≡ found →
    IfSome (option_map (λ (r : ToldCommit). r.seq) found) (IsFirstConflict snapshot marks rows)
found_answer snapshot marks rows None order is = tt
found_answer snapshot marks rows (Some row) order is = found_first snapshot marks rows row order is

none_answer : (snapshot : ℕ) (marks : List Mark) (rows : List ToldCommit) (found : Option ToldCommit) →
    find (is_conflict snapshot marks) rows ≡ found →
    IfNone (option_map (λ (r : ToldCommit). r.seq) found) (HasNoConflict snapshot marks rows)
none_answer snapshot marks rows None is = found_none snapshot marks rows is
none_answer snapshot marks rows (Some row) is = tt

module _ (snapshot : ℕ) (marks : List Mark) (rows later : List ToldCommit) (answer : Option ℕ)
    (order : AreInOrder rows) (later_is : later ≡ filter (λ row. nat_lt snapshot row.seq) rows)
    (answer_is : answer ≡ option_map (λ (r : ToldCommit). r.seq) (find (writes_one marks) later)) where
  searched : answer ≡ option_map (λ (r : ToldCommit). r.seq) (find (is_conflict snapshot marks) rows)
  searched = answer_is ∙ ap
      (λ (rs : List ToldCommit). option_map (λ (r : ToldCommit). r.seq) (find (writes_one marks) rs))
      later_is ∙ ap (option_map (λ (r : ToldCommit). r.seq)) (find_later snapshot marks rows)

  pub found_among : IfSome answer (IsFirstConflict snapshot marks rows)
  found_among = let P : Option ℕ → Type 0 = λ a. IfSome a (IsFirstConflict snapshot marks rows) in
      subst P (sym searched)
      (found_answer snapshot marks rows (find (is_conflict snapshot marks) rows) order refl)

  pub none_among : IfNone answer (HasNoConflict snapshot marks rows)
  none_among = let P : Option ℕ → Type 0 = λ a. IfNone a (HasNoConflict snapshot marks rows) in
      subst P (sym searched)
      (none_answer snapshot marks rows (find (is_conflict snapshot marks) rows) refl)
