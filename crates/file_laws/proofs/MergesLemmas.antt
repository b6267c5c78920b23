-- Merges of several cells, one after another.
use Rattle.std.proofs.Common.{◌≡◌, ℕ, ◌<◌, Bool, true, false, not, ◌||◌, cond, nat_eq, List, []}
use Rattle.std.proofs.Common.{◌∷◌, map, filter, flat_map, refl, sym, ap, ◌∙◌, arith, subst}
use Rattle.std.proofs.Common.{if◌then◌else◌}
use Rattle.std.specs.List.{AllByRecursion, list_any}
use Rattle.lake_values.specs.declared.names.Name.{Name}
use Rattle.sql_model.specs.declared.changes.Mark.{Mark}
use Rattle.sql_model.specs.declared.changes.MarkedRow.{MarkedRow}
use Rattle.sql_model.specs.Changes.{is_nil, same_mark}
use Rattle.lake_model.specs.Compactions.{is_in_cell, replaced}
use Rattle.sql_model.specs.Listing.{SameBag, placed, weight}
use Rattle.lake_values.specs.Names.{same_name}
use Rattle.sql_model.proofs.Lists.{all_filter, all_weaker}
use Rattle.sql_model.proofs.Sorting.{all_placed}
use Rattle.manifest_block.specs.declared.items.Item.TheVariants.{Add}
use Rattle.table_snapshot.specs.declared.files.FileRow.{FileRow}
use Rattle.file_laws.specs.Compacting.{Merge, marks_of_cell, items_of_merge, items_of_merges}
use Rattle.file_laws.specs.Contents.{Contents, live_of, mark_of}
use Rattle.table_snapshot.specs.Files.{file_cmp, is_file, new_file, replay}
use Rattle.file_laws.specs.KeptLaws.{AllOther, AreOther}
use Rattle.file_laws.specs.MergeLaw.{is_merged}
use Rattle.file_laws.specs.Standing.{FilesStand}
use Rattle.file_laws.specs.Touching.{is_marked}
use Rattle.file_laws.proofs.ChangeLemmas.{marked_kept}
use Rattle.file_laws.proofs.CommitLaw.{weight_nothing}
use Rattle.file_laws.proofs.MergeLemmas.{removes_all, stands_after_merge}
use Rattle.file_laws.proofs.ReplayLemmas.{mark_tells, name_tells, replay_append}
use Rattle.file_laws.proofs.StandLemmas.{all_passed, not_marked}
use Rattle.file_laws.proofs.StatementLaw.{without_none}
use Rattle.file_laws.proofs.TouchLaw.{none_with}
use Rattle.file_laws.proofs.Weights.{weight_alike, weight_filter, weight_flat_map, weight_placed}

-- the rows after all merges

abbrev step : ℕ → List Mark → Merge → MarkedRow → MarkedRow
step seq marks m r = replaced seq (marks_of_cell m.new.cell marks) r

abbrev steps : ℕ → List Mark → List Merge → MarkedRow → MarkedRow
steps seq marks [] r = r
steps seq marks (m ∷ ms) r = steps seq marks ms (step seq marks m r)

abbrev pub rows_merged : ℕ → List Mark → List Merge → List MarkedRow → List MarkedRow
rows_merged seq marks [] rows = rows
rows_merged seq marks (m ∷ ms) rows = rows_merged seq marks ms (map (step seq marks m) rows)

map_twice : {X Y Z : Type 0} (f : X → Y) (h : Y → Z) (xs : List X) → map h (map f xs) ≡ map
    (λ x. h (f x)) xs
map_twice f h [] = refl
map_twice {X} {Y} {Z} f h (x ∷ xs) = ap (λ (zs : List Z). h (f x) ∷ zs) (map_twice f h xs)

map_itself : {X : Type 0} (xs : List X) → xs ≡ map (λ x. x) xs
map_itself [] = refl
map_itself {X} (x ∷ xs) = ap (λ (ys : List X). x ∷ ys) (map_itself xs)

by_steps : (seq : ℕ) (marks : List Mark) (ms : List Merge) (rows : List MarkedRow) → rows_merged seq
    marks ms rows ≡ map (steps seq marks ms) rows
by_steps seq marks [] rows = map_itself rows
by_steps seq marks (m ∷ ms) rows =
    by_steps seq marks ms (map (step seq marks m) rows) ∙ map_twice (step seq marks m)
    (steps seq marks ms) rows

fewer_marked : (q : Mark → Bool) (marks : List Mark) (x : Mark) → is_marked marks x ≡ false →
    is_marked (filter q marks) x ≡ false
fewer_marked q [] x e = refl
fewer_marked q (m ∷ ms) x e =
    let both = parts (same_mark x m) (is_marked ms x) e in
    elim (q m) as (λ b. is_marked (cond b (m ∷ filter q ms) (filter q ms)) x ≡ false)
    [ true ↦ rw both.0 (fewer_marked q ms x both.1) | false ↦ fewer_marked q ms x both.1 ]
  where
    parts : (a b : Bool) → (a || b) ≡ false → (a ≡ false) × (b ≡ false)
    parts true b e = absurd cc
    parts false b e = (refl, e)

stays : (seq : ℕ) (marks : List Mark) (ms : List Merge) (r : MarkedRow) → is_marked marks r.mark ≡
    false → steps seq marks ms r ≡ r
stays seq marks [] r e = refl
stays seq marks (m ∷ ms) r e =
    let one : step seq marks m r ≡ r = ap
    (λ (b : Bool). if b then record r { mark = record r.mark { seq = seq; part = 1 } } else r)
    (fewer_marked (is_in_cell m.new.cell) marks r.mark e) in
    ap (steps seq marks ms) one ∙ stays seq marks ms r e

not_new : (seq : ℕ) (marks : List Mark) (x : Mark) → AllByRecursion (λ m. m.seq < seq) marks → x.seq
    ≡ seq → is_marked marks x ≡ false
not_new seq marks x old is =
    not_marked (λ m. m.seq < seq) marks x old (λ less. absurd (omega (arith, less, is)))

moves : (seq : ℕ) (marks : List Mark) (ms : List Merge) (r : MarkedRow) → AllByRecursion
    (λ m. m.seq < seq) marks → is_marked marks r.mark ≡ true → list_any
    (λ m. is_in_cell m.new.cell r.mark) ms ≡ true → steps seq marks ms r ≡ record r
    { mark = record r.mark { seq = seq; part = 1 } }
moves seq marks [] r old is among = absurd cc
moves seq marks (m ∷ ms) r old is among =
    elim (is_in_cell m.new.cell r.mark) as (λ b. is_in_cell m.new.cell r.mark ≡ b →
    (b || list_any (λ m. is_in_cell m.new.cell r.mark) ms) ≡ true → steps seq marks ms
    (step seq marks m r) ≡ record r { mark = record r.mark { seq = seq; part = 1 } }) [
      | true ↦ λ e among.
          let new : MarkedRow = record r { mark = record r.mark { seq = seq; part = 1 } } in
          let one : step seq marks m r ≡ new = ap (λ (b : Bool). if b then new else r)
          (marked_kept (is_in_cell m.new.cell) r.mark e marks ∙ is) in
          ap (steps seq marks ms) one ∙ stays seq marks ms new (not_new seq marks new.mark old refl)
      | false ↦ λ e among.
          let none : is_marked (marks_of_cell m.new.cell marks) r.mark ≡ false = not_marked
          (λ x. is_in_cell m.new.cell x ≡ true) (marks_of_cell m.new.cell marks) r.mark
          (all_passed (is_in_cell m.new.cell) marks)
          (λ h. let no : true ≡ false = sym h ∙ e in absurd cc) in
          let one : step seq marks m r ≡ r = ap (λ (b : Bool). if b then record r
          { mark = record r.mark { seq = seq; part = 1 } } else r) none in
          ap (steps seq marks ms) one ∙ moves seq marks ms r old is among
    ] refl among

pub all_replaced : (seq : ℕ) (marks : List Mark) (ms : List Merge) (rows : List MarkedRow) →
    AllByRecursion (λ m. m.seq < seq) marks → AllByRecursion
    (λ x. list_any (λ m. is_in_cell m.new.cell x) ms ≡ true) marks → rows_merged seq marks ms rows ≡
    map (replaced seq marks) rows
all_replaced seq marks ms rows old cells = by_steps seq marks ms rows ∙ each rows
  where
    in_cells : (xs : List Mark) (x : Mark) → AllByRecursion
        (λ x. list_any (λ m. is_in_cell m.new.cell x) ms ≡ true) xs → is_marked xs x ≡ true →
        list_any (λ m. is_in_cell m.new.cell x) ms ≡ true
    in_cells [] x all e = absurd cc
    in_cells (y ∷ ys) x all e = elim (same_mark x y) as (λ b. same_mark x y ≡ b →
        (b || is_marked ys x) ≡ true → list_any (λ m. is_in_cell m.new.cell x) ms ≡ true) [
          | true ↦ λ h e. subst (λ (z : Mark). list_any (λ m. is_in_cell m.new.cell z) ms ≡ true)
              (sym (mark_tells x y h)) all.0
          | false ↦ λ h e. in_cells ys x all.1 e
        ] refl e

    one : (r : MarkedRow) → steps seq marks ms r ≡ replaced seq marks r
    one r = elim (is_marked marks r.mark) as (λ b. is_marked marks r.mark ≡ b → steps seq marks ms
        r ≡ (if b then record r { mark = record r.mark { seq = seq; part = 1 } } else r)) [
          | true ↦ λ e. moves seq marks ms r old e (in_cells marks r.mark cells e)
          | false ↦ λ e. stays seq marks ms r e
        ] refl

    each : (rs : List MarkedRow) → map (steps seq marks ms) rs ≡ map (replaced seq marks) rs
    each [] = refl
    each (r ∷ rs) = λ i. one r i ∷ each rs i

-- the files after all merges

abbrev pub file_of_merge : ℕ → Merge → FileRow
file_of_merge seq m = new_file seq m.new.cell 1 m.new.name m.new.rows

-- the file can wait for the merge
pub record Ready (table : List ℕ) (seq : ℕ) (marks : List Mark) (f : FileRow) (m : Merge) : Type 0
  where
    pub marked : is_marked (marks_of_cell m.new.cell marks) (mark_of table f) ≡ is_merged m.olds f
    pub cell : is_merged m.olds f ≡ true → f.cell ≡ m.new.cell
    pub name : is_file m.new.name f ≡ false
    pub mark : same_mark (mark_of table (file_of_merge seq m)) (mark_of table f) ≡ false

abbrev pub HasRows : Contents → List FileRow → Merge → Type 0
HasRows c files m =
    SameBag (c.rows m.new.name) (flat_map (live_of c) (filter (is_merged m.olds) files))

-- what the merges need of themselves; `all` are all of them
pub record CanMerge (c : Contents) (table : List ℕ) (seq : ℕ) (worn : List Mark) (all : List Merge)
    (m : Merge) : Type 0 where
  pub some : is_nil (c.rows m.new.name) ≡ false
  pub unworn : is_marked worn (mark_of table (file_of_merge seq m)) ≡ false
  pub not_old : AllByRecursion (λ o. list_any (λ n. same_name n m.new.name) o.olds ≡ false) all
  pub not_mine : list_any (λ n. same_name n m.new.name) m.olds ≡ false

flip_eq : (a b : ℕ) → nat_eq a b ≡ false → nat_eq b a ≡ false
flip_eq a b e = grind arith

not_same : (a b : ℕ) → a ≡ b → nat_eq a b ≡ false → ⊥
not_same a b e off = absurd (grind arith)

module _ (c : Contents) (table : List ℕ) (seq : ℕ) (marks worn : List Mark)
    (old : AllByRecursion (λ m. m.seq < seq) marks) where
  merged_files : (m : Merge) (fs : List FileRow) → AllByRecursion
      (λ f. is_file m.new.name f ≡ false) fs → replay seq (items_of_merge table m) fs ≡ filter
      (λ f. not (is_merged m.olds f)) (placed file_cmp (file_of_merge seq m) fs)
  merged_files m fs absent =
      removes_all seq table m.olds
      (replay seq (Add table m.new.cell 1 m.new.name m.new.rows ∷ []) fs)
      ∙ ap (λ (gs : List FileRow). filter (λ f. not (is_merged m.olds f))
      (placed file_cmp (file_of_merge seq m) gs)) (without_none m.new.name fs absent)

  new_ready : (m : Merge) (ms : List Merge) → AllByRecursion (AreOther m.new) (map (λ m. m.new) ms)
      → AllByRecursion (λ o. list_any (λ n. same_name n m.new.name) o.olds ≡ false) ms →
      AllByRecursion (Ready table seq marks (file_of_merge seq m)) ms
  new_ready m [] other olds = tt
  new_ready m (o ∷ os) other olds = (
    record {
      marked = not_new seq (marks_of_cell o.new.cell marks) (mark_of table (file_of_merge seq m))
          (all_filter (λ m. m.seq < seq) (is_in_cell o.new.cell) marks old) refl ∙ sym olds.0;
      cell = λ e. let no : true ≡ false = sym e ∙ olds.0 in absurd cc;
      name = elim (same_name o.new.name m.new.name) as
          (λ b. same_name o.new.name m.new.name ≡ b → b ≡ false) [
            | true ↦ λ e. let is = name_tells o.new.name m.new.name e in sym e ∙ ap
                (λ (n : Name). same_name n m.new.name) is ∙ ap (same_name m.new.name) (sym is) ∙
                other.0.1
            | false ↦ λ e. refl
          ] refl;
      mark = elim
          (same_mark (mark_of table (file_of_merge seq o)) (mark_of table (file_of_merge seq m))) as
          (λ b. same_mark (mark_of table (file_of_merge seq o))
          (mark_of table (file_of_merge seq m)) ≡ b → b ≡ false) [
            | true ↦ λ e. absurd (not_same m.new.cell o.new.cell (ap (λ (m : Mark). m.cell) (sym
                (mark_tells (mark_of table (file_of_merge seq o))
                (mark_of table (file_of_merge seq m)) e))) other.0.0)
            | false ↦ λ e. refl
          ] refl;
    },
    new_ready m os other.1 olds.1,
  )

  -- another merge has the rows that it had
  rows_stay : (m o : Merge) (fs : List FileRow) → nat_eq m.new.cell o.new.cell ≡ false → list_any
      (λ n. same_name n m.new.name) m.olds ≡ false → list_any (λ n. same_name n m.new.name) o.olds ≡
      false
      → AllByRecursion (λ f. Ready table seq marks f m × Ready table seq marks f o) fs → HasRows c
      fs o → HasRows c
      (filter (λ f. not (is_merged m.olds f)) (placed file_cmp (file_of_merge seq m) fs)) o
  rows_stay m o fs differ mine other ready rows g =
      let w = λ (f : FileRow). weight g (live_of c f) in
      let h = λ (f : FileRow). if is_merged o.olds f then w f else 0 in
      let keep = λ (f : FileRow). not (is_merged m.olds f) in
      let new = file_of_merge seq m in
      let none : h new ≡ 0 = ap (λ (b : Bool). if b then w new else 0) other in
      let alike : AllByRecursion (λ f. (if keep f then h f else 0) ≡ h f) (placed file_cmp new fs) =
      all_placed file_cmp (λ f. (if keep f then h f else 0) ≡ h f) new fs
      (ap (λ (b : Bool). if not b then h new else 0) mine)
      (all_weaker fs (λ f both. same f both.0 both.1) ready) in
      rows g
      ∙ omega (
        arith,
        weight_flat_map (live_of c) g (filter (is_merged o.olds) fs),
        weight_filter (is_merged o.olds) w fs,
        weight_flat_map (live_of c) g
            (filter (is_merged o.olds) (filter keep (placed file_cmp new fs))),
        weight_filter (is_merged o.olds) w (filter keep (placed file_cmp new fs)),
        weight_filter keep h (placed file_cmp new fs),
        weight_alike (λ f. if keep f then h f else 0) h (placed file_cmp new fs) alike,
        weight_placed file_cmp h new fs,
        none,
      )
    where
      same : (f : FileRow) → Ready table seq marks f m → Ready table seq marks f o → (if not
          (is_merged m.olds f) then (if is_merged o.olds f then weight g (live_of c f) else 0)
          else 0) ≡ (if is_merged o.olds f then weight g (live_of c f) else 0)
      same f ready ready' = elim (is_merged m.olds f) as (λ b. is_merged m.olds f ≡ b →
          (if not b then (if is_merged o.olds f then weight g (live_of c f) else 0) else 0) ≡
          (if is_merged o.olds f then weight g (live_of c f) else 0)) [
            | true ↦ λ e. elim (is_merged o.olds f) as
                (λ b. is_merged o.olds f ≡ b → 0 ≡ (if b then weight g (live_of c f) else 0)) [
                  | true ↦ λ e'. absurd
                      (not_same m.new.cell o.new.cell (sym (ready.cell e) ∙ ready'.cell e') differ)
                  | false ↦ λ e'. refl
                ] refl
            | false ↦ λ e. refl
          ] refl

  pub merges_stand : (all ms : List Merge) (fs : List FileRow) (rows : List MarkedRow) → FilesStand
      c table fs rows worn → AllByRecursion (λ f. AllByRecursion (Ready table seq marks f) ms) fs →
      AllByRecursion (HasRows c fs) ms
      → AllByRecursion (CanMerge c table seq worn ms) ms → AllOther (map (λ m. m.new) ms) →
      FilesStand c table (replay seq (items_of_merges table ms) fs)
      (rows_merged seq marks ms rows) worn
  merges_stand all [] fs rows stands ready bags can other = stands
  merges_stand all (m ∷ ms) fs rows stands ready bags can other =
      let absent = all_weaker fs (λ f all. all.0.name) ready in
      let is = stands_after_merge c table seq m.new.cell m.new.rows m.new.name m.olds
      (marks_of_cell m.new.cell marks) fs rows worn stands (record {
        marked = all_weaker fs (λ f all. all.0.marked) ready;
        cells = all_weaker fs (λ f all. all.0.cell) ready;
        rows = bags.0;
        some = can.0.some;
        absent = none_with (is_file m.new.name) fs absent;
        not_old = can.0.not_mine;
        unused = weight_nothing (λ f. if same_mark (mark_of table (file_of_merge seq m))
            (mark_of table f) then 1 else 0) fs
            (all_weaker fs (λ f all. ap (λ (b : Bool). if b then 1 else 0) all.0.mark) ready);
        unworn = can.0.unworn;
      }) in
      let fs' = filter (λ (f : FileRow). not (is_merged m.olds f))
      (placed file_cmp (file_of_merge seq m) fs) in
      let now : FilesStand c table fs' (map (step seq marks m) rows) worn = subst
      (λ (gs : List FileRow). FilesStand c table gs (map (step seq marks m) rows) worn)
      (merged_files m fs absent) is in
      let olds = can.0.not_old.1 in
      let ready' = all_filter (λ f. AllByRecursion (Ready table seq marks f) ms)
      (λ f. not (is_merged m.olds f)) (placed file_cmp (file_of_merge seq m) fs) (all_placed
      file_cmp (λ f. AllByRecursion (Ready table seq marks f) ms) (file_of_merge seq m) fs
      (new_ready m ms other.0 olds) (all_weaker fs (λ f all. all.1) ready)) in
      let rest = merges_stand all ms fs' (map (step seq marks m) rows) now ready'
      (bags_stay ms other.0 olds (all_weaker fs (λ f all. all) ready) bags.1)
      (all_weaker ms (λ o can. record {
        some = can.some;
        unworn = can.unworn;
        not_old =
            can.not_old.1;
        not_mine = can.not_mine;
      }) can.1) other.1 in
      subst (λ (gs : List FileRow). FilesStand c table gs
      (rows_merged seq marks ms (map (step seq marks m) rows)) worn)
      (sym (replay_append seq (items_of_merge table m) (items_of_merges table ms) fs ∙ ap
      (replay seq (items_of_merges table ms)) (merged_files m fs absent))) rest
    where
      bags_stay : (os : List Merge) → AllByRecursion (AreOther m.new) (map (λ m. m.new) os) →
          AllByRecursion (λ o. list_any (λ n. same_name n m.new.name) o.olds ≡ false) os →
          AllByRecursion (λ f. AllByRecursion (Ready table seq marks f) (m ∷ os)) fs →
          AllByRecursion (HasRows c fs) os
          → AllByRecursion (HasRows c
          (filter (λ f. not (is_merged m.olds f)) (placed file_cmp (file_of_merge seq m) fs)))
          os
      bags_stay [] other olds ready bags = tt
      bags_stay (o ∷ os) other olds ready bags = (
        rows_stay m o fs other.0.0 can.0.not_mine olds.0
            (all_weaker fs (λ f all. (all.0, all.1.0)) ready) bags.0,
        bags_stay os other.1 olds.1 (all_weaker fs (λ f all. (all.0, all.1.1)) ready) bags.1,
      )
