-- A transaction's items, replayed over the files of a later version.
use Rattle.std.proofs.Common.{◌≡◌, ℕ, ◌+◌, Bool, true, false, not, nat_eq, List, [], ◌∷◌, ◌++◌, map}
use Rattle.std.proofs.Common.{refl, sym, ap, ◌∙◌, arith, if◌then◌else◌}
use Rattle.std.specs.List.{AllByRecursion}
use Rattle.lake_values.specs.declared.names.Name.{Name}
use Rattle.sql_model.specs.declared.changes.MarkedRow.{MarkedRow}
use Rattle.sql_model.specs.Listing.{IsPartOf, weight, SameBag}
use Rattle.sql_model.specs.Changes.{is_own, committed, marked_cmp, without}
use Rattle.sql_model.proofs.Bags.{weight_append}
use Rattle.sql_model.proofs.Lists.{all_weaker, all_filter}
use Rattle.lake_model.proofs.Pending.{part_all}
use Rattle.manifest_block.specs.declared.items.Item.{Item}
use Rattle.table_snapshot.specs.declared.files.FileRow.{FileRow}
use Rattle.table_snapshot.specs.Files.{item_file, replay}
use Rattle.file_laws.specs.Contents.{Contents, live_of, mark_of, with_mark, marked_live, rows_in}
use Rattle.file_laws.specs.Contents.{row_as}
use Rattle.file_laws.specs.Laws.{named, AreCommitted, IsSeen, Rebases}
use Rattle.file_laws.proofs.ReplayLemmas.{replay_elsewhere, replay_same, replay_as, committed_as}
use Rattle.file_laws.proofs.ReplayLemmas.{weight_as}
use Rattle.file_laws.proofs.Weights.{weight_map, weight_filter, weight_flat_map, weight_halves}
use Rattle.file_laws.proofs.Weights.{weight_alike, weight_without}

-- a weight of rows, as one of their files
unfoldable pub of : Contents → List ℕ → (MarkedRow → ℕ) → FileRow → ℕ
of c table g f = weight g (marked_live c table f)

pub weigh : (c : Contents) (table : List ℕ) (g : MarkedRow → ℕ) (files : List FileRow) → weight g
    (rows_in c table files) ≡ weight (of c table g) files
unfolding of
weigh c table g files = weight_flat_map (marked_live c table) g files

-- only committed rows weigh
kept_weight : (MarkedRow → ℕ) → MarkedRow → ℕ
kept_weight g m = if is_own m then 0 else g m

weight_kept : (g : MarkedRow → ℕ) (rows : List MarkedRow) → weight g (committed rows) ≡ weight
    (kept_weight g) rows
unfolding kept_weight
weight_kept g rows =
    weight_filter (λ m. not (is_own m)) g rows ∙ ap (λ (h : MarkedRow → ℕ). weight h rows)
    (λ i m. turned (is_own m) (g m) i)
  where
    turned : (b : Bool) (n : ℕ) → ◌≡◌ {A = ℕ} (if not b then n else 0) (if b then 0 else n)
    turned true n = refl
    turned false n = refl

kept_same : (g : MarkedRow → ℕ) (rows : List MarkedRow) → AllByRecursion (λ m. is_own m ≡ false)
    rows → weight (kept_weight g) rows ≡ weight g rows
unfolding kept_weight
kept_same g rows all =
    weight_alike (λ m. if is_own m then 0 else g m) g rows
    (all_weaker rows (λ m e. ap (λ (b : Bool). if b then 0 else g m) e) all)

own_none : (g : MarkedRow → ℕ) (rows : List MarkedRow) → AllByRecursion (λ m. is_own m ≡ true) rows
    → weight (kept_weight g) rows ≡ 0
unfolding kept_weight
own_none g rows all =
    weight_alike (λ m. if is_own m then 0 else g m) (λ m. 0) rows
    (all_weaker rows (λ m e. ap (λ (b : Bool). if b then 0 else g m) e) all) ∙ none rows
  where
    none : (rows : List MarkedRow) → weight (λ m. 0) rows ≡ 0
    none [] = refl
    none (m ∷ ms) = omega (arith, none ms)

-- the rows of committed files are committed
kept_files : (c : Contents) (table : List ℕ) (g : MarkedRow → ℕ) (files : List FileRow) →
    AllByRecursion (λ f. nat_eq f.seq 0 ≡ false) files → weight (of c table (kept_weight g)) files ≡
    weight (of c table g) files
unfolding of kept_weight
kept_files c table g files all =
    weight_alike (of c table (kept_weight g)) (of c table g) files
    (all_weaker files (λ f e. weight_map (with_mark (mark_of table f)) (kept_weight g)
    (live_of c f) ∙ (λ i. weight
    (λ row. if e i then 0 else g (with_mark (mark_of table f) row)) (live_of c f)) ∙ sym
    (weight_map (with_mark (mark_of table f)) g (live_of c f))) all)

-- committed rows keep their marks
as_same : (seq : ℕ) (g : MarkedRow → ℕ) (rows : List MarkedRow) → AllByRecursion
    (λ m. is_own m ≡ false) rows → weight (λ m. g (row_as seq m)) rows ≡ weight g rows
as_same seq g rows all =
    weight_alike (λ m. g (row_as seq m)) g rows (all_weaker rows (λ m e. λ i. g
    (record m { mark = record m.mark { seq = if e i then seq else m.mark.seq } })) all)

pub all_true : (rows : List MarkedRow) → AllByRecursion (λ m. is_own m ≡ false) rows →
    AllByRecursion (λ m. not (is_own m) ≡ true) rows
all_true rows all = all_weaker rows (λ m e. ap not e) all

pub all_false : (rows : List MarkedRow) → AllByRecursion (λ m. not (is_own m) ≡ true) rows →
    AllByRecursion (λ m. is_own m ≡ false) rows
all_false rows all = all_weaker rows (λ m e. back (is_own m) e) all
  where
    back : (b : Bool) → not b ≡ true → b ≡ false
    back true e = sym e
    back false e = refl

module _ (c : Contents) (table : List ℕ) (among : Name → Bool) (items : List Item) (seq : ℕ)
    (files : List FileRow) (rows : List MarkedRow) (later : List FileRow)
    (later_rows removed added : List MarkedRow)
    (before : AreCommitted c table files rows) (after : AreCommitted c table later later_rows)
    (seen : IsSeen c table among items files rows removed added)
    (kept : SameBag (named among later) (named among files)) where
  others : Name → Bool
  others name = not (among name)

  other_items : AllByRecursion (λ i. others (item_file i) ≡ false) items
  unfolding others
  other_items = all_weaker items (λ i e. ap not e) seen.names

  removed_kept : AllByRecursion (λ m. is_own m ≡ false) removed
  removed_kept = all_false removed
      (part_all (λ m. not (is_own m)) removed rows seen.part (all_true rows before.kept_rows))

  -- what the items make of the later files weighs what these do, without what was removed and with
  -- what was added
  made : (g : MarkedRow → ℕ) → weight g (rows_in c table (replay 0 items later)) + weight g removed
      ≡ weight g later_rows + weight g added
  unfolding others
  made g =
      let h = of c table g in
      let new = replay 0 items files in
      let new_later = replay 0 items later in
      let e1 = weight_halves (λ (f : FileRow). among f.file) h new_later in
      let e2 = weight_halves (λ (f : FileRow). among f.file) h new in
      let e3 = weight_halves (λ (f : FileRow). among f.file) h later in
      let e4 = weight_halves (λ (f : FileRow). among f.file) h files in
      let e5 : weight h (named others new_later) ≡ weight h (named others later) = ap (weight h)
      (replay_elsewhere others 0 items later other_items) in
      let e6 : weight h (named others new) ≡ weight h (named others files) = ap (weight h)
      (replay_elsewhere others 0 items files other_items) in
      let e7 = replay_same among 0 items later files kept h in
      let e8 = kept h in
      omega (
        arith,
        e1,
        e2,
        e3,
        e4,
        e5,
        e6,
        e7,
        e8,
        weigh c table g new_later,
        weigh c table g new,
        weigh c table g later,
        weigh c table g files,
        before.same g,
        after.same g,
        seen.same g,
        weight_append g (without marked_cmp rows removed) added,
        weight_without removed rows seen.part g,
      )

  -- what was removed stands in the later version
  part_later : IsPartOf removed later_rows
  unfolding others
  part_later = (
    committed (rows_in c table (named among (replay 0 items later))) ++ rows_in c table
        (named others later),
    λ g.
        let k = kept_weight g in
        let h = of c table g in
        let hk = of c table k in
        let new_later = replay 0 items later in
        let e1 = weight_halves (λ (f : FileRow). among f.file) hk new_later in
        let e5 : weight hk (named others new_later) ≡ weight hk (named others later) = ap
        (weight hk) (replay_elsewhere others 0 items later other_items) in
        let e6 : weight hk (named others later) ≡ weight h (named others later) = kept_files c table
        g (named others later)
        (all_filter (λ f. nat_eq f.seq 0 ≡ false) (λ f. others f.file) later after.kept_files)
        in
        let kept_rows = rows_in c table (named among new_later) in
        let other_rows = rows_in c table (named others later) in
        omega (
          arith,
          e1,
          e5,
          e6,
          made k,
          kept_same g removed removed_kept,
          kept_same g later_rows after.kept_rows,
          own_none g added seen.own,
          weight_kept g kept_rows,
          weigh c table k (named among new_later),
          weigh c table g (named others later),
          weigh c table k new_later,
          weight_append g removed (committed kept_rows ++ other_rows),
          weight_append g (committed kept_rows) other_rows,
        ),
  )

  same_later : SameBag (rows_in c table (replay seq items later))
      (without marked_cmp later_rows removed ++ map (row_as seq) added)
  same_later g =
      let g' = λ (m : MarkedRow). g (row_as seq m) in
      let e0 : weight g (rows_in c table (replay seq items later)) ≡ weight g'
      (rows_in c table (replay 0 items later)) =
      ap (λ (fs : List FileRow). weight g (rows_in c table (replay seq items fs)))
      (sym (committed_as seq later after.kept_files))
      ∙ ap (λ (fs : List FileRow). weight g (rows_in c table fs)) (sym (replay_as seq items later))
      ∙ weight_as seq c table g (replay 0 items later) in
      omega (
        arith,
        e0,
        made g',
        as_same seq g removed removed_kept,
        as_same seq g later_rows after.kept_rows,
        weight_append g (without marked_cmp later_rows removed) (map (row_as seq) added),
        weight_map (row_as seq) g added,
        weight_without removed later_rows part_later g,
      )

pub rebases : Rebases
rebases c table among items seq files rows later later_rows removed added before after seen kept =
    same_later c table among items seq files rows later later_rows removed added before after seen
    kept
