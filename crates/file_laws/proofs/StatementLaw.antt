-- What the items of a statement make of the files that it sees.
use Rattle.std.proofs.Common.{◌≡◌, ℕ, ◌+◌, ◌≤◌, Bool, true, false, not, ◌||◌, cond, nat_eq, List}
use Rattle.std.proofs.Common.{[], ◌∷◌, ◌++◌, Some, map, filter, flat_map, refl, sym, ap, ◌∙◌, arith}
use Rattle.std.proofs.Common.{subst, append_assoc, if◌then◌else◌}
use Rattle.std.proofs.lemmas.Bool.{eqb-true}
use Rattle.std.proofs.lemmas.List.{append-nil}
use Rattle.std.proofs.lemmas.List.Elements.{filter-append}
use Rattle.std.specs.Prelude.{is_some}
use Rattle.std.specs.List.{AllByRecursion, enumerate_from}
use Rattle.lake_values.specs.declared.names.Name.{Name}
use Rattle.lake_values.specs.declared.values.Value.{Value}
use Rattle.sql_model.specs.declared.changes.Mark.{Mark}
use Rattle.sql_model.specs.declared.changes.MarkedRow.{MarkedRow}
use Rattle.sql_model.specs.Changes.{is_nil, same_mark}
use Rattle.sql_model.specs.Units.{marks_of}
use Rattle.sql_model.specs.Listing.{placed, weight}
use Rattle.lake_values.specs.Names.{same_name}
use Rattle.sql_model.proofs.Bags.{weight_append, same_filter}
use Rattle.sql_model.proofs.Lists.{all_append, all_weaker, all_both}
use Rattle.sql_model.proofs.Sorting.{all_placed}
use Rattle.data_cell.specs.Live.{is_live, live_rows}
use Rattle.manifest_block.specs.declared.items.Item.TheVariants.{Add}
use Rattle.table_snapshot.specs.declared.files.FileRow.{FileRow}
use Rattle.table_snapshot.specs.Files.{file_cmp, is_file, new_file, with_vector, without_file}
use Rattle.table_snapshot.specs.Files.{replay}
use Rattle.file_laws.specs.Contents.{Contents, live_of, mark_of, with_mark, marked_live, rows_in}
use Rattle.file_laws.specs.Laws.{StandsAfterRemoval, StandsAfterAddition}
use Rattle.file_laws.specs.Marking.{Removal, removes_none, leaves_none, items_by, mark_items}
use Rattle.file_laws.specs.Marking.{IsVectorBy, HasVector, HaveOwnNames}
use Rattle.file_laws.specs.Standing.{agrees, files_marked, FilesStand}
use Rattle.file_laws.specs.Touching.{is_marked, is_there}
use Rattle.file_laws.proofs.CommitLaw.{weight_nothing}
use Rattle.file_laws.proofs.ReplayLemmas.{mark_tells, name_self, name_tells, replay_append}
use Rattle.file_laws.proofs.StandLemmas.{all_flat, each_weighs, marked_append, mark_self, unmarked}
use Rattle.file_laws.proofs.Weights.{weight_map, weight_filter, weight_flat_map, weight_placed}
use Rattle.file_laws.proofs.Weights.{weight_halves}

abbrev one_if : Bool → ℕ
one_if b = if b then 1 else 0

pub without_none : (name : Name) (fs : List FileRow) → AllByRecursion (λ g. is_file name g ≡ false)
    fs → without_file name fs ≡ fs
without_none name [] all = refl
without_none name (f ∷ fs) all =
    rw all.0 (ap (λ (gs : List FileRow). f ∷ gs) (without_none name fs all.1))

-- what a removal makes of a file

after_by : Bool → Bool → Removal → FileRow → List FileRow
after_by true none r f = f ∷ []
after_by false true r f = []
after_by false false r f =
    record f { vector = Some ((r.vector f.file).0, (r.vector f.file).1) } ∷ []

after_mark : Contents → Removal → FileRow → List FileRow
after_mark c r f = after_by (removes_none c r f) (leaves_none c r f) r f

module _ (seq : ℕ) (table : List ℕ) (r : Removal) where
  -- the items of a removal from one file make of it that
  one_replayed : (a b : Bool) (f : FileRow) → replay seq (items_by a b table r f) (f ∷ []) ≡
      after_by a b r f
  unfolding after_by
  one_replayed true b f = refl
  one_replayed false true f = ap (λ (b : Bool). cond (not b) (f ∷ []) []) (name_self f.file)
  one_replayed false false f = ap (λ (b : Bool).
      (if b then record f { vector = Some ((r.vector f.file).0, (r.vector f.file).1) } else f) ∷
      []) (name_self f.file)

  vector_none : (name vector : Name) (removed : ℕ) (fs : List FileRow) → AllByRecursion
      (λ g. is_file name g ≡ false) fs → map (with_vector name vector removed) fs ≡ fs
  vector_none name vector removed [] all = refl
  vector_none name vector removed (f ∷ fs) all = rw all.0
      (ap (λ (gs : List FileRow). f ∷ gs) (vector_none name vector removed fs all.1))

  -- and leave the others
  others_stay : (a b : Bool) (f : FileRow) (fs : List FileRow) → AllByRecursion
      (λ g. is_file f.file g ≡ false) fs → replay seq (items_by a b table r f) fs ≡ fs
  others_stay true b f fs all = refl
  others_stay false true f fs all = without_none f.file fs all
  others_stay false false f fs all = vector_none f.file (r.vector f.file).0 (r.vector f.file).1 fs
      all

  map_append : (f : FileRow → FileRow) (xs ys : List FileRow) → map f (xs ++ ys) ≡ map f xs ++ map f
      ys
  map_append f [] ys = refl
  map_append f (x ∷ xs) ys = ap (λ (zs : List FileRow). f x ∷ zs) (map_append f xs ys)

  in_parts : (a b : Bool) (f : FileRow) (xs ys : List FileRow) → replay seq (items_by a b table r f)
      (xs ++ ys) ≡ replay seq (items_by a b table r f) xs ++ replay seq (items_by a b table r f) ys
  in_parts true b f xs ys = refl
  in_parts false true f xs ys = filter-append (λ g. not (is_file f.file g)) xs ys
  in_parts false false f xs ys = map_append
      (with_vector f.file (r.vector f.file).0 (r.vector f.file).1) xs ys

  other_name : (f g : FileRow) → is_file f.file g ≡ false → is_file g.file f ≡ false
  other_name f g differ = elim (is_file g.file f) as (λ b. is_file g.file f ≡ b → b ≡ false) [
    | true ↦ λ e. let back : is_file f.file g ≡ true = ap (λ (n : Name). same_name n g.file)
        (sym (name_tells g.file f.file e)) ∙ name_self g.file in sym back ∙ differ
    | false ↦ λ e. refl
  ] refl

  after_names : (a b : Bool) (f : FileRow) (name : Name) → is_file name f ≡ false → AllByRecursion
      (λ g. is_file name g ≡ false) (after_by a b r f)
  unfolding after_by
  after_names true b f name other = (other, tt)
  after_names false true f name other = tt
  after_names false false f name other = (other, tt)

  marks_replayed : (c : Contents) (fs done : List FileRow) → HaveOwnNames fs → AllByRecursion
      (λ g. AllByRecursion (λ f. is_file g.file f ≡ false) done) fs → replay seq
      (flat_map (mark_items c table r) fs) (done ++ fs) ≡ done ++ flat_map (after_mark c r) fs
  unfolding after_mark
  marks_replayed c [] done own apart = refl
  marks_replayed c (f ∷ fs) done own apart =
      let mine = mark_items c table r f in
      let rest = flat_map (mark_items c table r) fs in
      let after = after_mark c r f in
      let a = removes_none c r f in
      let b = leaves_none c r f in
      let one : replay seq mine (done ++ f ∷ fs) ≡ done ++ (after ++ fs) =
      in_parts a b f done (f ∷ fs)
      ∙ (λ i. others_stay a b f done apart.0 i ++ in_parts a b f (f ∷ []) fs i)
      ∙ (λ i. done ++ (one_replayed a b f i ++ others_stay a b f fs own.0 i)) in
      let next : AllByRecursion
      (λ g. AllByRecursion (λ h. is_file g.file h ≡ false) (done ++ after)) fs =
      all_both fs (λ g other apart. all_append (λ h. is_file g.file h ≡ false) done after apart
      (after_names a b f g.file (other_name f g other))) own.0 apart.1 in
      replay_append seq mine rest (done ++ f ∷ fs) ∙ ap (replay seq rest)
      (one ∙ sym (append_assoc done after fs))
      ∙ marks_replayed c fs (done ++ after) own.1 next ∙ append_assoc done after
      (flat_map (after_mark c r) fs)

-- rows that a removal removes and leaves

nil_is : {X : Type 0} (xs : List X) → is_nil xs ≡ true → xs ≡ []
nil_is [] e = refl
nil_is (x ∷ xs) e = absurd cc

none_passes : {X : Type 0} (p : X → Bool) (xs : List X) → filter p xs ≡ [] → filter (λ x. not (p x))
    xs ≡ xs
none_passes p [] e = refl
none_passes {X} p (x ∷ xs) e =
    elim (p x) as (λ b. cond b (x ∷ filter p xs) (filter p xs) ≡ [] → cond (not b)
    (x ∷ filter (λ x. not (p x)) xs) (filter (λ x. not (p x)) xs) ≡ x ∷ xs) [
      | true ↦ λ e. absurd cc
      | false ↦ λ e. ap (λ (ys : List X). x ∷ ys) (none_passes p xs e)
    ] e

filter_marked : (q : List Value → Bool) (m : Mark) (rows : List (List Value)) → filter
    (λ x. q x.row) (map (with_mark m) rows) ≡ map (with_mark m) (filter q rows)
filter_marked q m [] = refl
filter_marked q m (row ∷ rows) =
    elim (q row) as (λ b. cond b (with_mark m row ∷ filter (λ x. q x.row) (map (with_mark m) rows))
    (filter (λ x. q x.row) (map (with_mark m) rows)) ≡ map (with_mark m)
    (cond b (row ∷ filter q rows) (filter q rows))) [
      | true ↦ ap (λ (ms : List MarkedRow). with_mark m row ∷ ms) (filter_marked q m rows)
      | false ↦ filter_marked q m rows
    ]

zero_each : {X : Type 0} (g : X → ℕ) (xs : List X) → weight g xs ≡ 0 → AllByRecursion (λ x. g x ≡ 0)
    xs
zero_each g [] e = tt
zero_each g (x ∷ xs) e = (omega (arith, e), zero_each g xs (omega (arith, e)))

pub marked_some : (m : Mark) (rows : List MarkedRow) → 1 ≤ weight
    (λ r. if same_mark m r.mark then 1 else 0) rows → is_marked (marks_of rows) m ≡ true
marked_some m [] e = absurd (omega (arith, e))
marked_some m (r ∷ rs) e =
    elim (same_mark m r.mark) as (λ b. 1 ≤ (if b then 1 else 0) + weight
    (λ r. if same_mark m r.mark then 1 else 0) rs → (b || is_marked (marks_of rs) m) ≡ true) [
      | true ↦ λ e. refl
      | false ↦ λ e. marked_some m rs (omega (arith, e))
    ] e

rows_append : (c : Contents) (table : List ℕ) (xs ys : List FileRow) → rows_in c table (xs ++ ys) ≡
    rows_in c table xs ++ rows_in c table ys
rows_append c table [] ys = refl
rows_append c table (x ∷ xs) ys =
    ap (λ (rs : List MarkedRow). marked_live c table x ++ rs) (rows_append c table xs ys) ∙ sym
    (append_assoc (marked_live c table x) (rows_in c table xs) (rows_in c table ys))

module _ (c : Contents) (table : List ℕ) (seq : ℕ) (r : Removal) (files : List FileRow)
    (rows : List MarkedRow) (worn : List Mark)
    (stands : FilesStand c table files rows worn) (own : HaveOwnNames files)
    (vectors : AllByRecursion (HasVector c r) files) where
  abbrev stays : MarkedRow → Bool
  stays m = not (r.matches m.row)

  abbrev goes : MarkedRow → Bool
  goes m = r.matches m.row

  rows_by : (a b : Bool) (f : FileRow) → removes_none c r f ≡ a → leaves_none c r f ≡ b → IsVectorBy
      a b c r f → rows_in c table (after_by a b r f) ≡ filter stays (marked_live c table f)
  unfolding after_by
  rows_by true b f none left vector =
      append-nil (marked_live c table f)
      ∙ sym (filter_marked (λ row. not (r.matches row)) (mark_of table f) (live_of c f) ∙ ap
      (map (with_mark (mark_of table f)))
      (none_passes r.matches (live_of c f) (nil_is (filter r.matches (live_of c f)) none)))
  rows_by false true f none left vector = sym (filter_marked (λ row. not (r.matches row))
      (mark_of table f) (live_of c f) ∙ ap (map (with_mark (mark_of table f)))
      (nil_is (filter (λ row. not (r.matches row)) (live_of c f)) left))
  rows_by false false f none left vector =
      append-nil (map (with_mark (mark_of table f))
      (live_rows (c.gone (r.vector f.file).0) (c.rows f.file)))
      ∙ ap (map (with_mark (mark_of table f))) vector ∙ sym
      (filter_marked (λ row. not (r.matches row)) (mark_of table f) (live_of c f))

  rows_left : (fs : List FileRow) → AllByRecursion (HasVector c r) fs → rows_in c table
      (flat_map (after_mark c r) fs) ≡ filter stays (rows_in c table fs)
  unfolding after_mark
  rows_left [] all = refl
  rows_left (f ∷ fs) all =
      rows_append c table (after_mark c r f) (flat_map (after_mark c r) fs)
      ∙ (λ i. rows_by (removes_none c r f) (leaves_none c r f) f refl refl all.0 i ++ rows_left fs
      all.1 i)
      ∙ sym (filter-append stays (marked_live c table f) (rows_in c table fs))

  -- how many rows with the mark of a file are removed from another
  abbrev is_of : Mark → MarkedRow → ℕ
  is_of m x = if same_mark m x.mark then 1 else 0

  abbrev lost : Mark → FileRow → ℕ
  lost m g = weight (is_of m) (filter goes (marked_live c table g))

  lost_all : (m : Mark) (fs : List FileRow) → weight (is_of m) (filter goes (rows_in c table fs)) ≡
      weight (lost m) fs
  lost_all m [] = refl
  lost_all m (f ∷ fs) = omega (
    arith,
    ap (weight (is_of m))
        (filter-append goes (marked_live c table f) (rows_in c table fs)),
    weight_append (is_of m)
        (filter goes (marked_live c table f)) (filter goes (rows_in c table fs)),
    lost_all m fs,
  )

  lost_is : (m : Mark) (g : FileRow) → lost m g ≡ weight
      (λ row. if same_mark m (mark_of table g) then 1 else 0) (filter r.matches (live_of c g))
  lost_is m g = ap (weight (is_of m)) (filter_marked r.matches (mark_of table g) (live_of c g)) ∙
      weight_map (with_mark (mark_of table g)) (is_of m) (filter r.matches (live_of c g))

  lost_rows : (m : Mark) → weight (is_of m) (filter goes rows) ≡ weight (lost m) files
  lost_rows m = sym (same_filter goes (rows_in c table files) rows stands.same (is_of m)) ∙ lost_all
      m files

  nothing : (rs : List (List Value)) → weight (λ row. 0) rs ≡ 0
  nothing [] = refl
  nothing (r ∷ rs) = omega (arith, nothing rs)

  lost_other : (m : Mark) (g : FileRow) → same_mark m (mark_of table g) ≡ false → lost m g ≡ 0
  lost_other m g e = lost_is m g ∙
      (λ i. weight (λ row. if e i then 1 else 0) (filter r.matches (live_of c g))) ∙ nothing
      (filter r.matches (live_of c g))

  -- a file that keeps its rows has the mark of none that is removed
  keeps_mark : (f : FileRow) → ((k : FileRow → ℕ) → k f ≤ weight k files) → removes_none c r f ≡
      true → is_marked (marks_of (filter goes rows)) (mark_of table f) ≡ false
  keeps_mark f weighs none =
      let m = mark_of table f in
      let counts = λ (g : FileRow). if same_mark m (mark_of table g) then 1 else 0 in
      let whole = λ (g : FileRow). nat_eq (lost m g) 0 in
      let no_loss : lost m f ≡ 0 = lost_is m f ∙ ap
      (λ (rs : List (List Value)). weight (λ row. one_if (same_mark m m)) rs)
      (nil_is (filter r.matches (live_of c f)) none) in
      let here : nat_eq (lost m f) 0 ≡ true = ap (λ (n : ℕ). nat_eq n 0) no_loss in
      let one : ◌≡◌ {A = ℕ} (if nat_eq (lost m f) 0 then one_if (same_mark m m) else 0) 1 = ap
      (λ (b : Bool). if b then one_if (same_mark m m) else 0) here ∙ ap one_if (mark_self m) in
      let there = weighs (λ g. if nat_eq (lost m g) 0 then counts g else 0) in
      let halves = weight_halves whole counts files in
      let first = weight_filter whole counts files in
      let second = weight_filter (λ g. not (whole g)) counts files in
      let zero_rest : weight (λ g. if not (whole g) then counts g else 0) files ≡ 0 = omega
      (arith, one, there, halves, first, second, stands.one_each m) in
      let none_lost : AllByRecursion (λ g. lost m g ≡ 0) files = all_weaker files
      (λ g e. no_more m g e)
      (zero_each (λ g. if not (whole g) then counts g else 0) files zero_rest) in
      unmarked m (filter goes rows) (lost_rows m ∙ weight_nothing (lost m) files none_lost)
    where
      no_more : (m : Mark) (g : FileRow) →
          (if not (nat_eq (lost m g) 0) then one_if (same_mark m (mark_of table g)) else 0) ≡ 0 →
          lost m g ≡ 0
      no_more m g e =
          elim (nat_eq (lost m g) 0) as (λ b. nat_eq (lost m g) 0 ≡ b →
          (if not b then one_if (same_mark m (mark_of table g)) else 0) ≡ 0 → lost m g ≡ 0) [
            | true ↦ λ is e. eqb-true (lost m g) 0 is
            | false ↦ λ is e.
                elim (same_mark m (mark_of table g)) as
                (λ b. same_mark m (mark_of table g) ≡ b → one_if b ≡ 0 → lost m g ≡ 0) [
                  | true ↦ λ same e. absurd (omega (arith, e))
                  | false ↦ λ same e. lost_other m g same
                ] refl e
          ] refl e

  -- a file that loses some of its rows has the mark of these
  pub loses_mark : (f : FileRow) → ((k : FileRow → ℕ) → k f ≤ weight k files) → removes_none c r f ≡
      false → is_marked (marks_of (filter goes rows)) (mark_of table f) ≡ true
  loses_mark f weighs some =
      let m = mark_of table f in
      let each : weight (λ row. if same_mark m m then 1 else 0) (filter r.matches (live_of c f)) ≡
      weight (λ row. 1) (filter r.matches (live_of c f)) = λ i. weight
      (λ row. if mark_self m i then 1 else 0) (filter r.matches (live_of c f)) in
      let mine : 1 ≤ lost m f = omega
      (arith, lost_is m f, each, counted (filter r.matches (live_of c f)) some) in
      marked_some m (filter goes rows) (omega (arith, mine, lost_rows m, weighs (lost m)))
    where
      counted : (rs : List (List Value)) → is_nil rs ≡ false → 1 ≤ weight (λ row. 1) rs
      counted [] e = absurd cc
      counted (r ∷ rs) e = omega arith

  abbrev wears : FileRow → Bool
  wears f = agrees (is_some f.vector)
      (is_marked (worn ++ marks_of (filter goes rows)) (mark_of table f))

  wears_by : (a b : Bool) (f : FileRow) → ((k : FileRow → ℕ) → k f ≤ weight k files) → removes_none
      c r f ≡ a → agrees (is_some f.vector) (is_marked worn (mark_of table f)) ≡ true →
      AllByRecursion (λ g. wears g ≡ true) (after_by a b r f)
  unfolding after_by
  wears_by true b f weighs none was = (
    ap (agrees (is_some f.vector)) (marked_append worn
        (marks_of (filter goes rows)) (mark_of table f) ∙ ap
        (λ (b : Bool). is_marked worn (mark_of table f) || b) (keeps_mark f weighs none) ∙
        or_false (is_marked worn (mark_of table f))) ∙ was,
    tt,
  )
    where
      or_false : (a : Bool) → (a || false) ≡ a
      or_false true = refl
      or_false false = refl
  wears_by false true f weighs none was = tt
  wears_by false false f weighs none was = (
    marked_append worn (marks_of (filter goes rows))
        (mark_of table f) ∙ ap (λ (b : Bool). is_marked worn (mark_of table f) || b)
        (loses_mark f weighs none) ∙ or_true (is_marked worn (mark_of table f)),
    tt,
  )
    where
      or_true : (a : Bool) → (a || true) ≡ true
      or_true true = refl
      or_true false = refl

  filled_by : (a b : Bool) (f : FileRow) → leaves_none c r f ≡ b → IsVectorBy a b c r f → is_nil
      (live_of c f) ≡ false → AllByRecursion (λ g. is_nil (live_of c g) ≡ false) (after_by a b r f)
  unfolding after_by
  filled_by true b f left vector was = (was, tt)
  filled_by false true f left vector was = tt
  filled_by false false f left vector was = (ap is_nil vector ∙ left, tt)

  count_by : (a b : Bool) (mark : Mark) (f : FileRow) → files_marked table mark (after_by a b r f) ≤
      (if same_mark mark (mark_of table f) then 1 else 0)
  unfolding after_by
  count_by true b mark f = omega arith
  count_by false true mark f = omega arith
  count_by false false mark f = omega arith

  count_less : (mark : Mark) (fs : List FileRow) → files_marked table mark
      (flat_map (after_mark c r) fs) ≤ files_marked table mark fs
  unfolding after_mark
  count_less mark [] = omega arith
  count_less mark (f ∷ fs) = omega (
    arith,
    count_by (removes_none c r f) (leaves_none c r f) mark
        f,
    count_less mark fs,
    weight_append
        (λ (g : FileRow). if same_mark mark (mark_of table g) then 1 else 0) (after_mark c r f)
        (flat_map (after_mark c r) fs),
  )

  removed_stands : FilesStand c table (replay seq (flat_map (mark_items c table r) files) files)
      (filter stays rows) (worn ++ marks_of (filter goes rows))
  unfolding after_mark
  removed_stands =
      let is : replay seq (flat_map (mark_items c table r) files) files ≡ flat_map (after_mark c r)
      files = marks_replayed seq table r c files [] own (all_weaker files (λ f _. tt) vectors)
      in
      subst (λ (fs : List FileRow). FilesStand c table fs (filter stays rows)
      (worn ++ marks_of (filter goes rows))) (sym is) (record {
        same = λ g. ap (weight g) (rows_left files vectors) ∙ same_filter stays
            (rows_in c table files) rows stands.same g;
        vectors = all_flat (λ f. wears f ≡ true) (after_mark c r) files (all_both files
            (λ f weighs was. wears_by (removes_none c r f) (leaves_none c r f) f weighs refl was)
            (each_weighs files) stands.vectors);
        filled = all_flat (λ f. is_nil (live_of c f) ≡ false) (after_mark c r) files (all_both
            files (λ f vector was. filled_by (removes_none c r f) (leaves_none c r f) f refl
            vector was) vectors stands.filled);
        one_each = λ mark. omega (arith, count_less mark files, stands.one_each mark);
      })

pub stands_after_removal : StandsAfterRemoval
stands_after_removal c table seq r files rows worn stands own vectors =
    removed_stands c table seq r files rows worn stands own vectors

-- a further file

pub not_there : (name : Name) (files : List FileRow) → is_there name files ≡ false → AllByRecursion
    (λ g. is_file name g ≡ false) files
not_there name [] e = tt
not_there name (f ∷ fs) e =
    elim (is_file name f) as (λ b. (b || is_there name fs) ≡ false → (b ≡ false) × AllByRecursion
    (λ g. is_file name g ≡ false) fs) [
      | true ↦ λ e. absurd cc
      | false ↦ λ e. (refl, not_there name fs e)
    ] e

pub live_all : (n : ℕ) (rows : List (List Value)) → map (λ r. r.1)
    (filter (λ r. is_live [] r.0) (enumerate_from n rows)) ≡ rows
live_all n [] = refl
live_all n (row ∷ rows) = ap (λ (rs : List (List Value)). row ∷ rs) (live_all (n + 1) rows)

first_one : (table : List ℕ) (mark : Mark) (new : FileRow) (files : List FileRow) → files_marked
    table mark files ≤ 1 → files_marked table (mark_of table new) files ≡ 0 →
    (if same_mark mark (mark_of table new) then 1 else 0) + files_marked table mark files ≤ 1
first_one table mark new files one unused =
    elim (same_mark mark (mark_of table new)) as (λ b. same_mark mark (mark_of table new) ≡ b →
    (if b then 1 else 0) + files_marked table mark files ≤ 1) [
      | true ↦ λ e. omega (
        arith,
        unused,
        ap (λ (m : Mark). files_marked table m files)
            (mark_tells mark (mark_of table new) e),
      )
      | false ↦ λ e. omega (arith, one)
    ] refl

pub stands_after_addition : StandsAfterAddition
stands_after_addition c table seq cell part count name files rows worn stands absent some unused
    unworn =
    let new = new_file seq cell part name count in
    let is : replay seq (Add table cell part name count ∷ []) files ≡ placed file_cmp new files = ap
    (placed file_cmp new) (without_none name files (not_there name files absent)) in
    subst (λ (fs : List FileRow). FilesStand c table fs (rows ++ marked_live c table new) worn)
    (sym is) (record {
      same = λ g. omega (
        arith,
        weight_flat_map (marked_live c table) g (placed file_cmp new files),
        weight_flat_map (marked_live c table) g files,
        weight_placed file_cmp (λ f. weight g (marked_live c table f)) new files,
        stands.same g,
        weight_append g rows (marked_live c table new),
      );
      vectors = all_placed file_cmp
          (λ f. agrees (is_some f.vector) (is_marked worn (mark_of table f)) ≡ true) new files
          (ap not unworn) stands.vectors;
      filled = all_placed file_cmp (λ f. is_nil (live_of c f) ≡ false) new files
          (ap is_nil (live_all 0 (c.rows name)) ∙ some) stands.filled;
      one_each = λ mark. omega (
        arith,
        weight_placed file_cmp
            (λ f. if same_mark mark (mark_of table f) then 1 else 0) new files,
        first_one table
            mark new files (stands.one_each mark) unused,
      );
    })
