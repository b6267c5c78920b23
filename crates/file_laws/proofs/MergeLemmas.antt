-- What a merge makes of files.
use Rattle.std.proofs.Common.{◌≡◌, ℕ, ◌+◌, Bool, true, false, not, ◌||◌, cond, List, [], ◌∷◌, ◌++◌}
use Rattle.std.proofs.Common.{map, filter, flat_map, refl, sym, ap, ◌∙◌, arith, subst}
use Rattle.std.proofs.Common.{if◌then◌else◌}
use Rattle.std.specs.List.{AllByRecursion}
use Rattle.lake_values.specs.declared.names.Name.{Name}
use Rattle.lake_values.specs.declared.values.Value.{Value}
use Rattle.sql_model.specs.declared.changes.Mark.{Mark}
use Rattle.sql_model.specs.declared.changes.MarkedRow.{MarkedRow}
use Rattle.sql_model.specs.Changes.{same_mark}
use Rattle.lake_model.specs.Compactions.{replaced}
use Rattle.sql_model.specs.Listing.{placed, weight, SameBag}
use Rattle.sql_model.proofs.Bags.{weight_append}
use Rattle.sql_model.proofs.Lists.{all_filter}
use Rattle.manifest_block.specs.declared.items.Item.TheVariants.{Add, Remove}
use Rattle.table_snapshot.specs.declared.files.FileRow.{FileRow}
use Rattle.file_laws.specs.Contents.{Contents, live_of, mark_of, marked_live, rows_in, with_mark}
use Rattle.table_snapshot.specs.Files.{file_cmp, is_file, new_file, replay, without_file}
use Rattle.file_laws.specs.MergeLaw.{StandsAfterMerge, is_merged, merge_items}
use Rattle.file_laws.specs.Standing.{FilesStand}
use Rattle.file_laws.specs.Touching.{is_marked}
use Rattle.file_laws.proofs.StatementLaw.{live_all, not_there, stands_after_addition, without_none}
use Rattle.file_laws.proofs.Weights.{weight_filter, weight_flat_map, weight_halves, weight_map}
use Rattle.file_laws.proofs.Weights.{weight_placed}

pub removes_all : (seq : ℕ) (table : List ℕ) (olds : List Name) (files : List FileRow) → replay seq
    (map (λ n. Remove table n) olds) files ≡ filter (λ f. not (is_merged olds f)) files
removes_all seq table [] files = sym (keeps files)
  where
    keeps : (fs : List FileRow) → filter (λ f. true) fs ≡ fs
    keeps [] = refl
    keeps (f ∷ fs) = ap (λ (gs : List FileRow). f ∷ gs) (keeps fs)
removes_all seq table (n ∷ ns) files = removes_all seq table ns (without_file n files) ∙ both files
  where
    both : (fs : List FileRow) → filter (λ f. not (is_merged ns f)) (without_file n fs) ≡ filter
        (λ f. not (is_file n f || is_merged ns f)) fs
    both [] = refl
    both (f ∷ fs) = elim (is_file n f) as (λ b. filter (λ f. not (is_merged ns f))
        (cond (not b) (f ∷ without_file n fs) (without_file n fs)) ≡ cond
        (not (b || is_merged ns f)) (f ∷ filter (λ f. not (is_file n f || is_merged ns f)) fs)
        (filter (λ f. not (is_file n f || is_merged ns f)) fs)) [
          | true ↦ both fs
          | false ↦ ap (λ (gs : List FileRow). cond (not (is_merged ns f)) (f ∷ gs) gs) (both fs)
        ]

-- fewer files, and the rows that they have
fewer_stand : (c : Contents) (table : List ℕ) (q : FileRow → Bool) (files : List FileRow)
    (rows rows' : List MarkedRow) (worn : List Mark) → FilesStand c table files rows worn → SameBag
    (rows_in c table (filter q files)) rows' → FilesStand c table (filter q files) rows' worn
fewer_stand c table q files rows rows' worn stands same = record {
  same = same;
  vectors = all_filter _ q files stands.vectors;
  filled = all_filter _ q files stands.filled;
  one_each = λ mark. omega (
    arith,
    weight_halves q
        (λ (f : FileRow). if same_mark mark (mark_of table f) then 1 else 0) files,
    stands.one_each
        mark,
  );
}

module _ (c : Contents) (table : List ℕ) (seq cell count : ℕ) (name : Name) (olds : List Name)
    (marks : List Mark) where
  abbrev new : FileRow
  new = new_file seq cell 1 name count

  -- what the rows of a file weigh after the merge
  moved_rows : (g : MarkedRow → ℕ) (f : FileRow) (b : Bool) → is_marked marks (mark_of table f) ≡ b
      → (b ≡ true → f.cell ≡ cell) → (live : List (List Value))
      → weight (λ m. g (replaced seq marks m)) (map (with_mark (mark_of table f)) live) ≡ (if b
      then weight (λ row. g (with_mark (mark_of table new) row)) live else weight g
      (map (with_mark (mark_of table f)) live))
  moved_rows g f true e in_cell live =
      weight_map (with_mark (mark_of table f)) (λ m. g (replaced seq marks m)) live
      ∙ ap (λ (h : List Value → ℕ). weight h live) (λ i row. g (if e i then with_mark
      (record { table = table; seq = seq; part = 1; cell = f.cell }) row else with_mark
      (mark_of table f) row))
      ∙ ap (λ (k : ℕ). weight
      (λ row. g (with_mark (record { table = table; seq = seq; part = 1; cell = k }) row))
      live) (in_cell refl)
  moved_rows g f false e in_cell live =
      weight_map (with_mark (mark_of table f)) (λ m. g (replaced seq marks m)) live
      ∙ ap (λ (h : List Value → ℕ). weight h live) (λ i row. g (if e i then with_mark
      (record { table = table; seq = seq; part = 1; cell = f.cell }) row else with_mark
      (mark_of table f) row))
      ∙ sym (weight_map (with_mark (mark_of table f)) g live)

  moved_all : (g : MarkedRow → ℕ) (fs : List FileRow) → AllByRecursion
      (λ f. is_marked marks (mark_of table f) ≡ is_merged olds f) fs → AllByRecursion
      (λ f. is_merged olds f ≡ true → f.cell ≡ cell) fs
      → weight (λ m. g (replaced seq marks m)) (rows_in c table fs)
      ≡ weight g (rows_in c table (filter (λ f. not (is_merged olds f)) fs)) + weight
      (λ row. g (with_mark (mark_of table new) row))
      (flat_map (live_of c) (filter (is_merged olds) fs))
  moved_all g [] marked cells = refl
  moved_all g (f ∷ fs) marked cells =
      let k = λ (m : MarkedRow). g (replaced seq marks m) in
      let h = λ (row : List Value). g (with_mark (mark_of table new) row) in
      let rest = moved_all g fs marked.1 cells.1 in
      let split = weight_append k (marked_live c table f) (rows_in c table fs) in
      elim (is_merged olds f) as (λ b. is_marked marks (mark_of table f) ≡ b →
      (b ≡ true → f.cell ≡ cell) → weight k (marked_live c table f ++ rows_in c table fs)
      ≡ weight g (rows_in c table (cond (not b) (f ∷ filter (λ f. not (is_merged olds f)) fs)
      (filter (λ f. not (is_merged olds f)) fs))) + weight h (flat_map (live_of c)
      (cond b (f ∷ filter (is_merged olds) fs) (filter (is_merged olds) fs)))) [
        | true ↦ λ e in_cell. omega (
          arith,
          rest,
          split,
          moved_rows g f true e in_cell
              (live_of c f),
          weight_append h (live_of c f)
              (flat_map (live_of c) (filter (is_merged olds) fs)),
        )
        | false ↦ λ e in_cell. omega (
          arith,
          rest,
          split,
          moved_rows g f false e in_cell
              (live_of c f),
          weight_append g (marked_live c table f)
              (rows_in c table (filter (λ f. not (is_merged olds f)) fs)),
        )
      ] marked.0 cells.0

pub stands_after_merge : StandsAfterMerge
stands_after_merge c table seq cell count name olds marks files rows worn stands is =
    let new = new_file seq cell 1 name count in
    let keep = λ (f : FileRow). not (is_merged olds f) in
    let added = stands_after_addition c table seq cell 1 count name files rows worn stands is.absent
    is.some is.unused is.unworn in
    let placed_is : replay seq (Add table cell 1 name count ∷ []) files ≡ placed file_cmp new files
    = ap (placed file_cmp new) (without_none name files (not_there name files is.absent)) in
    let with_new : FilesStand c table (placed file_cmp new files) (rows ++ marked_live c table new)
    worn = subst
    (λ (fs : List FileRow). FilesStand c table fs (rows ++ marked_live c table new) worn)
    placed_is added in
    let all_are : replay seq (merge_items table cell name count olds) files ≡ filter keep
    (placed file_cmp new files) = removes_all seq table olds
    (replay seq (Add table cell 1 name count ∷ []) files) ∙ ap (filter keep) placed_is in
    subst (λ (fs : List FileRow). FilesStand c table fs (map (replaced seq marks) rows) worn)
    (sym all_are)
    (fewer_stand c table keep (placed file_cmp new files) (rows ++ marked_live c table new)
    (map (replaced seq marks) rows) worn with_new (λ g.
    let k = λ (m : MarkedRow). g (replaced seq marks m) in
    let h = λ (row : List Value). g (with_mark (mark_of table new) row) in
    let w = λ (f : FileRow). weight g (marked_live c table f) in
    let kept : (if keep new then w new else 0) ≡ w new = ap
    (λ (b : Bool). if not b then w new else 0) is.not_old in
    let new_rows : w new ≡ weight h (c.rows name) = weight_map (with_mark (mark_of table new)) g
    (live_of c new) ∙ ap (weight h) (live_all 0 (c.rows name)) in
    omega (
      arith,
      weight_map (replaced seq marks) g rows,
      stands.same k,
      moved_all c table seq cell count name olds marks g files is.marked is.cells,
      is.rows h,
      new_rows,
      kept,
      weight_flat_map (marked_live c table) g (filter keep (placed file_cmp new files)),
      weight_filter keep w (placed file_cmp new files),
      weight_placed file_cmp (λ (f : FileRow). if keep f then w f else 0) new files,
      weight_flat_map (marked_live c table) g (filter keep files),
      weight_filter keep w files,
    )))
