-- A transaction that no row of the catalogue conflicts with is free to commit.
use Rattle.std.proofs.Common.{◌≡◌, ℕ, Bool, true, false, not, ◌&&◌, ◌||◌, cond, nat_eq, List, []}
use Rattle.std.proofs.Common.{◌∷◌, Some, map, refl, sym, ap, ◌∙◌, arith, if◌then◌else◌}
use Rattle.std.proofs.lemmas.Bool.{eqb-true, leb-true, ltb-true}
use Rattle.std.specs.Prelude.{nat_le, nat_lt}
use Rattle.std.specs.List.{AllByRecursion, list_any}
use Rattle.lake_values.specs.declared.names.Name.{Name}
use Rattle.sql_model.specs.declared.changes.Mark.{Mark}
use Rattle.sql_model.specs.declared.changes.MarkedRow.{MarkedRow}
use Rattle.sql_model.specs.Units.{marks_of, ConflictUnit, same_unit, share_unit}
use Rattle.lake_values.specs.Texts.{same_text}
use Rattle.sql_model.proofs.Lists.{all_both, all_filter}
use Rattle.manifest_block.specs.declared.items.Item.{Item}
use Rattle.manifest_block.specs.declared.items.Item.TheVariants.{Add, Remove, SetVector}
use Rattle.table_snapshot.specs.declared.files.FileRow.{FileRow}
use Rattle.table_snapshot.specs.Files.{file_cmp, is_file, items_of, item_table, new_file, replay}
use Rattle.table_snapshot.specs.Files.{with_vector, without_file, after_item}
use Rattle.file_laws.specs.Stands.{files_at, removed_of, rows_behind, rows_of, rows_to}
use Rattle.file_laws.specs.StandsLaws.{FreeIfNoConflict, conflicts}
use Rattle.file_laws.specs.Touching.{AddsOwn, HasNone, IsApart, Row, adds_own, is_name_of}
use Rattle.file_laws.specs.Touching.{replay_rows}
use Rattle.sql_model.proofs.Sorting.{all_placed}
use Rattle.file_laws.proofs.StandLemmas.{all_passed}

-- what holds of the names of files holds after items that add the transaction's own
names_kept : (P : Name → Type 0) (txn seq : ℕ) → ((n : Name) → is_name_of txn n ≡ true → P n) →
    (items : List Item) → AddsOwn txn items → (files : List FileRow) → AllByRecursion
    (λ f. P f.file) files → AllByRecursion (λ f. P f.file) (replay seq items files)
names_kept P txn seq own [] adds files all = all
names_kept P txn seq own (i ∷ is) adds files all =
    names_kept P txn seq own is adds.1 (after_item seq files i) (one i adds.0)
  where
    vector_all : (file vector : Name) (removed : ℕ) (fs : List FileRow) → AllByRecursion
        (λ f. P f.file) fs → AllByRecursion (λ f. P f.file)
        (map (with_vector file vector removed) fs)
    vector_all file vector removed [] all = tt
    vector_all file vector removed (f ∷ fs) all = (
      elim (is_file file f) as
          (λ b. P (if b then record f { vector = Some (vector, removed) } else f).file)
          [ true ↦ all.0 | false ↦ all.0 ],
      vector_all file vector removed fs all.1,
    )

    one : (i : Item) → adds_own txn i ≡ true → AllByRecursion (λ f. P f.file)
        (after_item seq files i)
    one (Add table cell part file rows) mine = all_placed file_cmp (λ f. P f.file)
        (new_file seq cell part file rows) (without_file file files) (own file mine)
        (all_filter (λ f. P f.file) (λ f. not (is_file file f)) files all)
    one (Remove table file) mine = all_filter (λ f. P f.file) (λ f. not (is_file file f)) files all
    one (SetVector table file vector removed) mine = vector_all file vector removed files all

-- and after rows
pub rows_names : (P : Name → Type 0) (rows : List Row) → AllByRecursion
    (λ r. (n : Name) → is_name_of r.txn n ≡ true → P n) rows → AllByRecursion
    (λ r. AddsOwn r.txn r.items) rows → (files : List FileRow) → AllByRecursion (λ f. P f.file)
    files
    → AllByRecursion (λ f. P f.file) (replay_rows rows files)
rows_names P [] own adds files all = all
rows_names P (r ∷ rs) own adds files all =
    let mine = items_of r.table r.items in
    rows_names P rs own.1 adds.1 (replay r.seq mine files) (names_kept P r.txn r.seq own.0 mine
    (all_filter (λ i. adds_own r.txn i ≡ true) (λ i. same_text (item_table i) r.table)
    r.items adds.0) files all)

none_shared : {X : Type 0} (p : X → Bool) (xs : List X) → list_any p xs ≡ false → AllByRecursion
    (λ x. p x ≡ false) xs
none_shared p [] e = tt
none_shared p (x ∷ xs) e =
    elim (p x) as
    (λ b. (b || list_any p xs) ≡ false → (b ≡ false) × AllByRecursion (λ x. p x ≡ false) xs)
    [ true ↦ λ e. absurd cc | false ↦ λ e. (refl, none_shared p xs e) ] e

fewer_units : (unit : Mark → ConflictUnit) (table : List ℕ) (removed : List MarkedRow)
    (us : List ConflictUnit) → share_unit (map unit (marks_of removed)) us ≡ false → share_unit
    (map unit (marks_of (removed_of table removed))) us ≡ false
fewer_units unit table [] us e = refl
fewer_units unit table (r ∷ rs) us e =
    elim (same_text r.mark.table table) as (λ b. share_unit
    (map unit (marks_of (cond b (r ∷ removed_of table rs) (removed_of table rs)))) us ≡ false) [
      | true ↦ rw (parts (list_any (same_unit (unit r.mark)) us)
          (share_unit (map unit (marks_of rs)) us) e).0 (fewer_units unit table rs us (parts
          (list_any (same_unit (unit r.mark)) us) (share_unit (map unit (marks_of rs)) us) e).1)
      | false ↦ fewer_units unit table rs us (parts (list_any (same_unit (unit r.mark)) us)
          (share_unit (map unit (marks_of rs)) us) e).1
    ]
  where
    parts : (a b : Bool) → (a || b) ≡ false → (a ≡ false) × (b ≡ false)
    parts true b e = absurd cc
    parts false b e = (refl, e)

pub free_if_no_conflict : FreeIfNoConflict
free_if_no_conflict unit rows st session t numbers opened none table =
    let mine = rows_of table rows in
    let behind = rows_behind t.snapshot mine in
    let of_mine : (P : Row → Type 0) → AllByRecursion P rows → AllByRecursion P mine = λ P all.
    all_filter P (λ r. same_text r.table table) rows all in
    let others = all_filter (λ r. nat_eq r.txn t.number ≡ false) (λ r. nat_lt t.snapshot r.seq) mine
    (of_mine (λ r. nat_eq r.txn t.number ≡ false) (numbers.open_ones session t opened)) in
    let later = all_passed (λ r. nat_lt t.snapshot r.seq) mine in
    let frees = all_filter (λ r. conflicts unit t.snapshot (marks_of t.pending.removed) r ≡ false)
    (λ r. nat_lt t.snapshot r.seq) mine (of_mine
    (λ r. conflicts unit t.snapshot (marks_of t.pending.removed) r ≡ false)
    (none_shared (conflicts unit t.snapshot (marks_of t.pending.removed)) rows none)) in
    let aparts = all_filter
    (λ r. AllByRecursion (λ s. nat_eq r.txn s.txn ≡ true → r.seq ≡ s.seq) rows)
    (λ r. nat_lt t.snapshot r.seq) mine (of_mine
    (λ r. AllByRecursion (λ s. nat_eq r.txn s.txn ≡ true → r.seq ≡ s.seq) rows) numbers.apart)
    in
    let nones : AllByRecursion (λ r. HasNone r.txn (files_at rows t.snapshot table)) behind =
    all_both behind (λ r apart late. known r apart late) aparts later in
    let one = all_both {R = λ r. conflicts unit t.snapshot (marks_of t.pending.removed) r ≡ false →
    HasNone r.txn (files_at rows t.snapshot table) → IsApart unit t.number
    (marks_of (removed_of table t.pending.removed)) (files_at rows t.snapshot table) r} behind
    (λ r other late free none. record {
      other = other;
      none = none;
      free = fewer_units unit table
          t.pending.removed (map unit r.marks) (passed (nat_lt t.snapshot r.seq) late free);
    })
    others later in
    let two = all_both {R = λ r. HasNone r.txn (files_at rows t.snapshot table) → IsApart unit
    t.number (marks_of (removed_of table t.pending.removed)) (files_at rows t.snapshot table)
    r} behind (λ r f free. f free) one frees in
    all_both behind (λ r f none. f none) two nones
  where
    passed : (a : Bool) {b : Bool} → a ≡ true → (a && b) ≡ false → b ≡ false
    passed true e h = h
    passed false e h = absurd cc

    known : (r : Row) → AllByRecursion (λ s. nat_eq r.txn s.txn ≡ true → r.seq ≡ s.seq) rows →
        nat_lt t.snapshot r.seq ≡ true → HasNone r.txn (files_at rows t.snapshot table)
    known r apart late =
        let mine = rows_of table rows in
        let early = rows_to t.snapshot mine in
        let differ : AllByRecursion
        (λ s. (n : Name) → is_name_of s.txn n ≡ true → is_name_of r.txn n ≡ false) early =
        all_both early (λ s same up n is. no_name r s n same up late is)
        (all_filter (λ s. nat_eq r.txn s.txn ≡ true → r.seq ≡ s.seq) (λ s. nat_le s.seq t.snapshot)
        mine (all_filter (λ s. nat_eq r.txn s.txn ≡ true → r.seq ≡ s.seq)
        (λ s. same_text s.table table) rows apart))
        (all_passed (λ s. nat_le s.seq t.snapshot) mine) in
        rows_names (λ n. is_name_of r.txn n ≡ false) early differ
        (all_filter (λ s. AddsOwn s.txn s.items) (λ s. nat_le s.seq t.snapshot) mine (all_filter
        (λ s. AddsOwn s.txn s.items) (λ s. same_text s.table table) rows numbers.own_adds))
        [] tt
      where
        no_name : (r s : Row) (n : Name) → (nat_eq r.txn s.txn ≡ true → r.seq ≡ s.seq) → nat_le
            s.seq t.snapshot ≡ true → nat_lt t.snapshot r.seq ≡ true → is_name_of s.txn n ≡ true →
            is_name_of r.txn n ≡ false
        no_name r s n same up late is = elim (is_name_of r.txn n) as
            (λ b. is_name_of r.txn n ≡ b → b ≡ false) [
              | true ↦ λ e.
                  let number : r.txn ≡ s.txn = sym (eqb-true n.txn r.txn e) ∙ eqb-true n.txn s.txn
                  is in
                  let equal : nat_eq r.txn s.txn ≡ true = ap (λ (k : ℕ). nat_eq k s.txn) number ∙
                  self
                  s.txn in
                  absurd (omega (
                    arith,
                    same equal,
                    leb-true s.seq t.snapshot up,
                    ltb-true t.snapshot
                        r.seq late,
                  ))
              | false ↦ λ e. refl
            ] refl
          where
            self : (n : ℕ) → nat_eq n n ≡ true
            self n = grind arith
