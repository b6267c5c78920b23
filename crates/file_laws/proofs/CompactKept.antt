-- A compaction keeps a book right.
use Rattle.std.proofs.Common.{◌≡◌, ℕ, ◌+◌, ◌-◌, ◌<◌, ◌≤◌, Bool, true, false, not, ◌&&◌, ◌||◌}
use Rattle.std.proofs.Common.{nat_eq, cond, List, [], ◌∷◌, ◌++◌, Option, Some, IsSomeAnd, inl, inr}
use Rattle.std.proofs.Common.{map, filter, flat_map, refl, sym, ap, ◌∙◌, subst, arith}
use Rattle.std.proofs.Common.{if◌then◌else◌}
use Rattle.std.specs.Prelude.{nat_le, nat_lt}
use Rattle.std.specs.List.{AllByRecursion, list_any}
use Rattle.std.proofs.lemmas.Bool.{eqb-true, le-leb, leb-true, ltb-true}
use Rattle.std.proofs.lemmas.List.{append-nil}
use Rattle.lake_values.specs.declared.names.Name.{Name}
use Rattle.lake_model.specs.declared.entries.Fact.TheVariants.{Compacted}
use Rattle.sql_model.specs.declared.changes.Mark.{Mark}
use Rattle.sql_model.specs.declared.changes.MarkedRow.{MarkedRow}
use Rattle.lake_model.specs.Allowed.{MayCompact}
use Rattle.sql_model.specs.Changes.{has_mark, is_nil, is_unchanged, same_mark}
use Rattle.sql_model.specs.Units.{marks_of, share_unit}
use Rattle.lake_model.specs.Compactions.{is_in_cell, version_compacted}
use Rattle.lake_model.specs.Conflicts.{wrote_one}
use Rattle.sql_model.specs.Listing.{weight}
use Rattle.lake_values.specs.Names.{same_name}
use Rattle.lake_model.specs.State.{State, Transaction, ended, last, newest, state, transaction}
use Rattle.lake_model.specs.State.{version_at, with_version}
use Rattle.sql_model.specs.Versions.{Version, marked_rows_of}
use Rattle.lake_values.specs.Texts.{same_text}
use Rattle.sql_model.proofs.Lists.{all_both, all_filter, all_weaker}
use Rattle.sql_model.proofs.Removal.{filter_all, filter_none}
use Rattle.lake_values.proofs.SameTexts.{same_text_is, same_text_self, same_text_sym}
use Rattle.manifest_block.specs.declared.items.Item.{Item}
use Rattle.table_snapshot.specs.declared.files.FileRow.{FileRow}
use Rattle.lake_model.specs.Laws.{IsSound}
use Rattle.file_laws.specs.Compacting.{IsCellMerge, Merge, marks_of_cell, items_of_merges}
use Rattle.file_laws.specs.Contents.{live_of, mark_of}
use Rattle.table_snapshot.specs.Files.{item_file, item_table, items_of, is_file, replay}
use Rattle.file_laws.specs.Kept.{Agrees, Book, HasBlobs, HasFile, HaveOneTable, TellsMarks}
use Rattle.file_laws.specs.Kept.{has_row_at, marks_of_table, shown_row, unit_of, writes}
use Rattle.file_laws.specs.KeptLaws.{AsksOfCompact, HasOne, IsRowOf, KeptCompacted, with_rows}
use Rattle.file_laws.specs.Laws.{named}
use Rattle.file_laws.specs.MergeLaw.{is_merged}
use Rattle.file_laws.specs.Standing.{AreUpTo, FilesStand}
use Rattle.file_laws.specs.Stands.{OpenStands, VersionStands, files_at, rows_behind, rows_of}
use Rattle.file_laws.specs.Stands.{rows_to, Checkpoint}
use Rattle.file_laws.specs.StandsLaws.{HaveOwnNumbers, IsFree, conflicts}
use Rattle.file_laws.specs.Touching.{AddsOwn, HasNone, IsApart, MayTouch, Row, TouchInTurn}
use Rattle.file_laws.specs.Touching.{adds_own, all_marked, is_marked, is_name_of, is_there}
use Rattle.file_laws.specs.Touching.{is_touched, may_name, replay_rows}
use Rattle.file_laws.proofs.CellLemmas.{all_is, all_once_ordered, any_weaker_in, filter_within}
use Rattle.file_laws.proofs.CellLemmas.{marked_all, merge_items_all, of_filter, olds_touched}
use Rattle.file_laws.proofs.CellLemmas.{once_ordered_marked, one_file, rows_elsewhere, rows_here}
use Rattle.file_laws.proofs.ChangeLemmas.{has_row, marked_kept}
use Rattle.file_laws.proofs.CloseLemmas.{numbers_committed}
use Rattle.file_laws.proofs.CommitKept.{manifests_run, none_found, row_told, unit_self}
use Rattle.file_laws.proofs.CommitLaw.{rows_live}
use Rattle.file_laws.proofs.EntryKept.{kept_next}
use Rattle.file_laws.proofs.FreeLaw.{free_if_no_conflict, rows_names}
use Rattle.file_laws.proofs.GrownLaw.{stands_grown}
use Rattle.file_laws.proofs.KeptLemmas.{Makes, ended_was, grow, replay_keeps, row_units}
use Rattle.file_laws.proofs.MergesLemmas.{CanMerge, HasRows, Ready, all_replaced, file_of_merge}
use Rattle.file_laws.proofs.MergesLemmas.{merges_stand, rows_merged}
use Rattle.file_laws.proofs.NameKept.{all_rows_to, any_map, map_append, names_after_commit}
use Rattle.file_laws.proofs.ReplayLemmas.{mark_tells, name_tells}
use Rattle.file_laws.proofs.RowLemmas.{files_between, in_two, order_filter, rows_one_by_one}
use Rattle.file_laws.proofs.RowLemmas.{turns_behind}
use Rattle.file_laws.proofs.Some.{and_both, any_known, or_left, or_right}
use Rattle.lake_model.proofs.Sound.{opened_all}
use Rattle.file_laws.proofs.SoundLemmas.{one_session}
use Rattle.file_laws.proofs.StandLemmas.{all_map, all_passed, mark_self, not_marked}
use Rattle.file_laws.proofs.StandsLaw.{files_have_rows, stand_again}
use Rattle.file_laws.proofs.StatementLaw.{marked_some}
use Rattle.file_laws.proofs.TellKept.{any_at, both_ways}
use Rattle.file_laws.proofs.TouchLaw.{keeps_what_is_free, none_with}
use Rattle.std.proofs.lemmas.List.Elements.{filter-append}

nil_is : {X : Type 0} (xs : List X) → is_nil xs ≡ true → xs ≡ []
nil_is [] e = refl
nil_is (x ∷ xs) e = absurd cc

same_number : (a b : ℕ) → a ≡ b → nat_eq a b ≡ true
same_number a b e = grind arith

module _ (k : Book) (st : State) (session : ℕ) (t : Transaction) (table cells : List ℕ)
    (marks : List Mark) (seq : ℕ) (gained lost : List Name) (ms : List Merge) (more : List Row)
    (sound : IsSound st) (agrees : Agrees k st)
    (may : MayCompact true st table cells marks seq gained lost t)
    (asks : AsksOfCompact k st session t table cells marks ms gained lost more) where
  abbrev snap : Version
  snap = version_at st t.snapshot

  abbrev seen : List FileRow
  seen = files_at k.rows t.snapshot table

  abbrev later : List FileRow
  later = files_at k.rows (last st) table

  abbrev items : List Item
  items = items_of_merges table ms

  abbrev next : ℕ
  next = last st + 1

  open_one : OpenStands k.contents k.rows st (k.items session) t
  open_one = agrees.stands.open_ones session t asks.opened

  snap_stands : VersionStands k.contents k.rows t.snapshot snap
  snap_stands = agrees.stands.versions t.snapshot open_one.snapshot.0 open_one.snapshot.1

  last_stands : VersionStands k.contents k.rows (last st) (newest st)
  last_stands = agrees.stands.versions (last st) sound.floor (omega arith)

  snap_files : FilesStand k.contents table seen (marked_rows_of table snap.tables) snap.worn
  snap_files = snap_stands.each table

  -- the marks

  abbrev in_cells : Mark → Bool
  in_cells m = list_any (λ c. is_in_cell c m) cells

  abbrev snap_marks : List Mark
  snap_marks = marks_of (marked_rows_of table snap.tables)

  of_marks : (q : Mark → Bool) → AllByRecursion (λ f. q (mark_of table f) ≡ true) seen →
      AllByRecursion (λ m. q m ≡ true) marks
  of_marks q all =
      subst (λ (xs : List Mark). AllByRecursion (λ m. q m ≡ true) xs) (sym may.all_marks)
      (all_once_ordered (λ m. q m ≡ true) (filter in_cells snap_marks) (all_filter (λ m. q m ≡ true)
      in_cells snap_marks
      (all_map (λ m. q m ≡ true) (λ (r : MarkedRow). r.mark) (marked_rows_of table snap.tables)
      (rows_live k.contents table q seen (marked_rows_of table snap.tables) snap_files.same
      all))))

  marks_cells : AllByRecursion (λ m. list_any (λ (o : Merge). is_in_cell o.new.cell m) ms ≡ true)
      marks
  marks_cells =
      all_weaker marks (λ m e. sym (any_map (λ c. is_in_cell c m) (λ (o : Merge). o.new.cell) ms) ∙
      ap (λ (cs : List ℕ). list_any (λ c. is_in_cell c m) cs) asks.due ∙ e)
      (subst (λ (xs : List Mark). AllByRecursion (λ m. in_cells m ≡ true) xs) (sym may.all_marks)
      (all_once_ordered (λ m. in_cells m ≡ true) (filter in_cells snap_marks)
      (all_passed in_cells snap_marks)))

  marks_old : AllByRecursion (λ m. m.seq < next) marks
  marks_old = all_weaker marks
      (λ m e. omega (arith, leb-true m.seq t.snapshot e, open_one.snapshot.1)) (of_marks
      (λ m. nat_le m.seq t.snapshot) (all_weaker seen (λ f both. le-leb f.seq t.snapshot both.1)
      (snap_stands.up_to table).of_files))

  marks_here : AllByRecursion (λ m. m.table ≡ table) marks
  marks_here = all_weaker marks (λ m e. same_text_is m.table table e) (of_marks
      (λ m. same_text m.table table)
      (all_weaker seen (λ f both. same_text_self table) (snap_stands.up_to table).of_files))

  marks_seen : AllByRecursion (λ m. list_any (λ g. same_mark m (mark_of table g)) seen ≡ true) marks
  marks_seen = of_marks (λ m. list_any (λ g. same_mark m (mark_of table g)) seen) (all_weaker seen
      (λ f at. at (λ g. same_mark (mark_of table f) (mark_of table g))
      (mark_self (mark_of table f))) (any_at seen))

  -- a file of the snapshot in one of the cells has one of the marks
  file_marked : AllByRecursion
      (λ f. in_cells (mark_of table f) ≡ true → is_marked marks (mark_of table f) ≡ true) seen
  file_marked = all_weaker seen (λ f some inside. by f some inside) (files_have_rows k.contents
      table seen (marked_rows_of table snap.tables) snap.worn snap_files)
    where
      by : (f : FileRow) → 1 ≤ weight
          (λ (r : MarkedRow). if same_mark (mark_of table f) r.mark then 1 else 0)
          (marked_rows_of table snap.tables) → in_cells (mark_of table f) ≡ true → is_marked marks
          (mark_of table f) ≡ true
      by f some inside =
          ap (λ (xs : List Mark). is_marked xs (mark_of table f)) may.all_marks
          ∙ once_ordered_marked (filter in_cells snap_marks) (mark_of table f) (marked_kept
          in_cells (mark_of table f) inside snap_marks ∙ marked_some (mark_of table f)
          (marked_rows_of table snap.tables) some)

  -- the cell of a merge is one of the cells
  cell_due : AllByRecursion
      (λ (m : Merge). (f : FileRow) → f.cell ≡ m.new.cell → in_cells (mark_of table f) ≡ true) ms
  cell_due = all_weaker ms (λ m at f is. ap
      (λ (cs : List ℕ). list_any (λ c. is_in_cell c (mark_of table f)) cs) (sym asks.due) ∙
      any_map (λ c. is_in_cell c (mark_of table f)) (λ (o : Merge). o.new.cell) ms ∙ at
      (λ o. is_in_cell o.new.cell (mark_of table f)) (same_number f.cell m.new.cell is))
      (any_at ms)

  -- what a merge needs: the facts of it and of its cell
  abbrev Fine : Merge → Type 0
  Fine m = IsCellMerge k.contents t.number seen m ×
      ((f : FileRow) → f.cell ≡ m.new.cell → in_cells (mark_of table f) ≡ true)

  fine : AllByRecursion Fine ms
  fine = all_both ms (λ m a b. (a, b)) asks.merges cell_due

  merged_fact : (m : Merge) → Fine m → AllByRecursion (λ f. is_merged m.olds f ≡ true →
      (is_marked marks (mark_of table f) ≡ true) × (f.cell ≡ m.new.cell)) seen
  merged_fact m is = all_both seen (λ f olds marked e. let cell = eqb-true f.cell m.new.cell
      (sym olds ∙ e) in (marked (is.1 f cell), cell)) is.0.olds file_marked

  -- which items may touch what

  all_here : AllByRecursion (λ i. same_text (item_table i) table ≡ true) items
  all_here = merge_items_all (λ i. same_text (item_table i) table ≡ true) table ms
      (all_weaker ms (λ m _. (same_text_self table, olds m.olds)) asks.merges)
    where
      olds : (ns : List Name) → AllByRecursion (λ n. same_text table table ≡ true) ns
      olds [] = tt
      olds (n ∷ ns) = (same_text_self table, olds ns)

  items_here : items_of table items ≡ items
  items_here = filter_all (λ i. same_text (item_table i) table) items all_here

  items_elsewhere : (name : List ℕ) → same_text name table ≡ false → items_of name items ≡ []
  items_elsewhere name off = filter_none (λ i. same_text (item_table i) name) items (all_weaker
      items (λ i e. ap (λ (n : List ℕ). same_text n name) (same_text_is (item_table i) table e) ∙
      same_text_sym table name ∙ off) all_here)

  may_touch : MayTouch t.number table marks seen items
  may_touch = merge_items_all (λ i. may_name t.number table marks seen (item_file i) ≡ true) table
      ms (all_weaker ms one fine)
    where
      old_marked : (m : Merge) → Fine m → (n : Name) →
          ((p : Name → Bool) → p n ≡ true → list_any p m.olds ≡ true) → all_marked table marks n
          seen ≡ true
      old_marked m is n at = all_is (λ f. not (is_file n f) || is_marked marks (mark_of table f))
          seen (all_weaker seen (λ f fact. by f fact) (merged_fact m is))
        where
          by : (f : FileRow) → (is_merged m.olds f ≡ true →
              (is_marked marks (mark_of table f) ≡ true) × (f.cell ≡ m.new.cell)) →
              (not (is_file n f) || is_marked marks (mark_of table f)) ≡ true
          by f fact = elim (is_file n f) as
              (λ b. is_file n f ≡ b → (not b || is_marked marks (mark_of table f)) ≡ true)
              [ true ↦ λ e. (fact (at (λ o. same_name o f.file) e)).0 | false ↦ λ e. refl ] refl

      one : (m : Merge) → Fine m → (may_name t.number table marks seen m.new.name ≡ true) ×
          AllByRecursion (λ n. may_name t.number table marks seen n ≡ true) m.olds
      one m is = (
        or_left (is_name_of t.number m.new.name)
            (is_there m.new.name seen && all_marked table marks m.new.name seen) is.0.own,
        all_both m.olds (λ n there at. or_right (is_name_of t.number n)
            (is_there n seen && all_marked table marks n seen)
            (both (is_there n seen) (all_marked table marks n seen) there (old_marked m is n at)))
            is.0.there (any_at m.olds),
      )
        where
          both : (a b : Bool) → a ≡ true → b ≡ true → (a && b) ≡ true
          both true b e f = f
          both false b e f = absurd cc

  -- nothing stands in the way

  no_removed : t.pending.removed ≡ []
  no_removed = nil_is t.pending.removed (and_both (is_nil t.pending.removed)
      (is_nil t.pending.added)
      (and_both (not t.explicit) (is_unchanged t.pending) may.single).1).0

  nothing_conflicts : list_any (conflicts unit_of t.snapshot (marks_of t.pending.removed)) k.rows ≡
      false
  nothing_conflicts = none_with (conflicts unit_of t.snapshot (marks_of t.pending.removed)) k.rows
      (all_weaker k.rows (λ r _. ap (λ (rs : List MarkedRow). nat_lt t.snapshot r.seq && share_unit
      (map unit_of (marks_of rs)) (map unit_of r.marks)) no_removed ∙ and_false
      (nat_lt t.snapshot r.seq)) agrees.marks)
    where
      and_false : (a : Bool) → (a && false) ≡ false
      and_false true = refl
      and_false false = refl

  free : IsFree unit_of k.rows t
  free = free_if_no_conflict unit_of k.rows st session t agrees.numbers asks.opened
      nothing_conflicts

  row_free : (r : Row) → TellsMarks st r → r.seq ≤ last st → t.snapshot < r.seq → share_unit
      (map unit_of marks) (map unit_of r.marks) ≡ false
  row_free r tells le less =
      row_units st r (map unit_of marks) tells
      (none_found (wrote_one st (map unit_of marks)) (t.snapshot + 1) (last st - t.snapshot)
      may.free r.seq (omega (arith, less)) (omega (arith, less, le)))

  abbrev mine : List Row
  mine = rows_of table k.rows

  apart : AllByRecursion (IsApart unit_of t.number marks seen) (rows_behind t.snapshot mine)
  apart =
      let of_mine : (P : Row → Type 0) → AllByRecursion P k.rows → AllByRecursion P
      (rows_behind t.snapshot mine) = λ P all. all_filter P (λ r. nat_lt t.snapshot r.seq) mine
      (all_filter P (λ r. same_text r.table table) k.rows all) in
      let frees = all_both (rows_behind t.snapshot mine)
      (λ r both less. row_free r both.0 both.1 (ltb-true t.snapshot r.seq less)) (of_mine
      (λ r. TellsMarks st r × (r.seq ≤ last st))
      (all_both k.rows (λ r a b. (a, b)) agrees.marks agrees.stands.within))
      (all_passed (λ r. nat_lt t.snapshot r.seq) mine) in
      all_both (rows_behind t.snapshot mine)
      (λ r is free. record { other = is.other; none = is.none; free = free }) (free table) frees

  none_seen : HasNone t.number seen
  none_seen = (open_one.each table).none

  later_is : replay_rows (rows_behind t.snapshot mine) seen ≡ later
  later_is = ap (λ (rs : List Row). replay_rows (rows_behind t.snapshot rs) seen)
      (sym (all_rows_to k.rows (last st) (last st) table agrees.stands.within (omega arith))) ∙
      files_between k.rows t.snapshot (last st) table agrees.stands.order open_one.snapshot.1

  both_kept : (named (is_touched items) later ≡ named (is_touched items) seen) × MayTouch t.number
      table marks later items
  both_kept =
      let turns = turns_behind table (rows_to t.snapshot mine) (rows_behind t.snapshot mine) []
      (subst (λ (rs : List Row). TouchInTurn table [] rs) (sym (in_two t.snapshot mine
      (order_filter (λ r. same_text r.table table) k.rows agrees.stands.order)))
      (agrees.stands.touching table)) in
      let both = keeps_what_is_free unit_of unit_self table t.number marks items seen
      (rows_behind t.snapshot mine) may_touch none_seen turns apart in (
        ap (named (is_touched items)) (sym later_is) ∙ both.0,
        subst
            (λ (fs : List FileRow). MayTouch t.number table marks fs items) later_is both.1,
      )

  -- the files of a cell are as they were
  same_merged : AllByRecursion
      (λ m. filter (is_merged m.olds) later ≡ filter (is_merged m.olds) seen) ms
  same_merged = all_weaker ms (λ m touched.
      sym (filter_within (is_merged m.olds) (λ f. is_touched items f.file) later
      (λ f e. touched f.file e)) ∙ ap (filter (is_merged m.olds)) both_kept.0 ∙ filter_within
      (is_merged m.olds) (λ f. is_touched items f.file) seen (λ f e. touched f.file e))
      (olds_touched table ms)

  -- no file has the transaction's names
  none_later : HasNone t.number later
  none_later =
      let of_mine : (P : Row → Type 0) → AllByRecursion P k.rows → AllByRecursion P
      (rows_to (last st) mine) = λ P all. all_filter P (λ r. nat_le r.seq (last st)) mine
      (all_filter P (λ r. same_text r.table table) k.rows all) in
      rows_names (λ n. is_name_of t.number n ≡ false) (rows_to (last st) mine) (of_mine
      (λ r. (n : Name) → is_name_of r.txn n ≡ true → is_name_of t.number n ≡ false)
      (all_weaker k.rows (λ r off n is. other n.txn r.txn t.number is off)
      (agrees.numbers.open_ones session t asks.opened)))
      (of_mine (λ r. AddsOwn r.txn r.items) agrees.numbers.own_adds) [] tt
    where
      other : (n r m : ℕ) → nat_eq n r ≡ true → nat_eq r m ≡ false → nat_eq n m ≡ false
      other n r m is off = grind arith

  not_own : (fs : List FileRow) → HasNone t.number fs → (n : Name) → is_name_of t.number n ≡ true →
      AllByRecursion (λ f. is_file n f ≡ false) fs
  not_own fs none n own = all_weaker fs (λ f off. elim (is_file n f) as
      (λ b. is_file n f ≡ b → b ≡ false) [
        | true ↦ λ e. sym own ∙ ap (is_name_of t.number) (name_tells n f.file e) ∙ off
        | false ↦ λ e. refl
      ] refl) none

  -- each file can wait for each merge
  ready_for : (m : Merge) → Fine m → filter (is_merged m.olds) later ≡ filter (is_merged m.olds)
      seen → AllByRecursion (λ f. Ready table next marks f m) later
  ready_for m is same =
      let facts : AllByRecursion
      (λ f. (is_marked marks (mark_of table f) ≡ true) × (f.cell ≡ m.new.cell))
      (filter (is_merged m.olds) seen) =
      all_both (filter (is_merged m.olds) seen) (λ f fact e. fact e) (all_filter (λ f. is_merged
      m.olds f ≡ true → (is_marked marks (mark_of table f) ≡ true) × (f.cell ≡ m.new.cell))
      (is_merged m.olds) seen (merged_fact m is)) (all_passed (is_merged m.olds) seen) in
      let of_later = of_filter
      (λ f. (is_marked marks (mark_of table f) ≡ true) × (f.cell ≡ m.new.cell))
      (is_merged m.olds) later (subst (λ (fs : List FileRow). AllByRecursion
      (λ f. (is_marked marks (mark_of table f) ≡ true) × (f.cell ≡ m.new.cell)) fs)
      (sym same) facts) in
      let absent = not_own later none_later m.new.name is.0.own in
      let ones = one_file table later (last_stands.each table).one_each in
      let first : AllByRecursion (λ f. (is_merged m.olds f ≡ true →
      (is_marked marks (mark_of table f) ≡ true) × (f.cell ≡ m.new.cell)) ×
      (is_file m.new.name f ≡ false)) later = all_both later (λ f a b. (a, b)) of_later absent
      in
      let second : AllByRecursion (λ f. AllByRecursion
      (λ g. same_mark (mark_of table f) (mark_of table g) ≡ true → f.file ≡ g.file) later ×
      (f.seq ≤ last st)) later = all_both later (λ f a b. (a, b.1)) ones
      (last_stands.up_to table).of_files in
      all_both later (λ f a b. one f a.0 a.1 b.0 b.1) first second
    where
      -- a file of the snapshot that has the mark of this one is merged
      from_mark : (f : FileRow) → is_marked (marks_of_cell m.new.cell marks) (mark_of table f) ≡
          true → list_any (λ g. same_mark (mark_of table f) (mark_of table g) && is_merged m.olds g)
          seen ≡ true
      from_mark f e =
          let fact = marked_all (λ x. (list_any (λ g. same_mark x (mark_of table g)) seen ≡ true) ×
          (is_in_cell m.new.cell x ≡ true)) (marks_of_cell m.new.cell marks) (mark_of table f)
          (all_both (marks_of_cell m.new.cell marks) (λ x a b. (a, b)) (all_filter
          (λ x. list_any (λ g. same_mark x (mark_of table g)) seen ≡ true)
          (is_in_cell m.new.cell) marks marks_seen)
          (all_passed (is_in_cell m.new.cell) marks)) e in
          any_weaker_in (λ g. same_mark (mark_of table f) (mark_of table g))
          (λ g. same_mark (mark_of table f) (mark_of table g) && is_merged m.olds g) seen
          (all_weaker seen (λ g olds h. both (same_mark (mark_of table f) (mark_of table g))
          (is_merged m.olds g) h (olds ∙ ap (λ (x : Mark). nat_eq x.cell m.new.cell)
          (sym (mark_tells (mark_of table f) (mark_of table g) h)) ∙ fact.1)) is.0.olds)
          fact.0
        where
          both : (a b : Bool) → a ≡ true → b ≡ true → (a && b) ≡ true
          both true b e f = f
          both false b e f = absurd cc

      swap : (xs : List FileRow) (p q : FileRow → Bool) → list_any (λ g. p g && q g) xs ≡ list_any p
          (filter q xs)
      swap [] p q = refl
      swap (x ∷ xs) p q = elim (q x) as (λ b. ((p x && b) || list_any (λ g. p g && q g) xs) ≡
          list_any p (cond b (x ∷ filter q xs) (filter q xs))) [
            | true ↦ ap (λ (b : Bool). b || list_any (λ g. p g && q g) xs) (and_true (p x)) ∙ ap
                (λ (b : Bool). p x || b) (swap xs p q)
            | false ↦ ap (λ (b : Bool). b || list_any (λ g. p g && q g) xs) (and_false (p x)) ∙ swap
                xs
                p q
          ]
        where
          and_true : (a : Bool) → (a && true) ≡ a
          and_true true = refl
          and_true false = refl

          and_false : (a : Bool) → (a && false) ≡ false
          and_false true = refl
          and_false false = refl

      one : (f : FileRow) → (is_merged m.olds f ≡ true → (is_marked marks (mark_of table f) ≡ true)
          × (f.cell ≡ m.new.cell)) → is_file m.new.name f ≡ false
          → AllByRecursion
          (λ g. same_mark (mark_of table f) (mark_of table g) ≡ true → f.file ≡ g.file) later →
          f.seq ≤ last st → Ready table next marks f m
      one f fact absent ones up = record {
        marked = both_ways (is_marked (marks_of_cell m.new.cell marks) (mark_of table f))
            (is_merged m.olds f)
            (λ e.
            let p = λ (g : FileRow). same_mark (mark_of table f) (mark_of table g) in
            let there : list_any (λ g. p g && is_merged m.olds g) later ≡ true = swap later p
            (is_merged m.olds) ∙ ap (list_any p) same ∙ sym (swap seen p (is_merged m.olds)) ∙
            from_mark f e in
            any_known (λ g. same_mark (mark_of table f) (mark_of table g) ≡ true → f.file ≡ g.file)
            (λ g. p g && is_merged m.olds g) (is_merged m.olds f ≡ true) later ones
            (λ g only h. let two = and_both (p g) (is_merged m.olds g) h in ap
            (λ (n : Name). list_any (λ o. same_name o n) m.olds) (only two.0) ∙ two.1) there)
            (λ e. let is = fact e in marked_kept (is_in_cell m.new.cell) (mark_of table f)
            (same_number f.cell m.new.cell is.1) marks ∙ is.0);
        cell = λ e. (fact e).1;
        name = absent;
        mark = elim (same_mark (mark_of table (file_of_merge next m)) (mark_of table f)) as (λ b.
            same_mark (mark_of table (file_of_merge next m)) (mark_of table f) ≡ b → b ≡ false) [
              | true ↦ λ e. absurd (omega (
                arith,
                up,
                ap (λ (x : Mark). x.seq)
                    (mark_tells (mark_of table (file_of_merge next m)) (mark_of table f) e),
              ))
              | false ↦ λ e. refl
            ] refl;
      }

  turned : (os : List Merge) → AllByRecursion
      (λ m. AllByRecursion (λ f. Ready table next marks f m) later) os → AllByRecursion
      (λ f. AllByRecursion (Ready table next marks f) os) later
  turned [] all = units later
    where
      units : (fs : List FileRow) → AllByRecursion (λ f. Unit {0}) fs
      units [] = tt
      units (f ∷ fs) = (tt, units fs)
  turned (o ∷ os) all = all_both later (λ f a b. (a, b)) all.0 (turned os all.1)

  ready : AllByRecursion (λ f. AllByRecursion (Ready table next marks f) ms) later
  ready = turned ms (all_both ms (λ m is same. ready_for m is same) fine same_merged)

  -- the merges don't replace what they write
  olds_seen : (o : Merge) → Fine o → (n : Name) → is_name_of t.number n ≡ true → list_any
      (λ m. same_name m n) o.olds ≡ false
  olds_seen o is n own = none_with (λ m. same_name m n) o.olds (all_weaker o.olds (λ m there. elim
      (same_name m n) as (λ b. same_name m n ≡ b → b ≡ false) [
        | true ↦ λ e.
            let no = none_with (is_file n) seen (not_own seen none_seen n own) in
            let yes : is_there n seen ≡ true = ap (λ (x : Name). is_there x seen)
            (sym (name_tells m n e)) ∙ there in
            sym yes ∙ no
        | false ↦ λ e. refl
      ] refl) is.0.there)

  can_merge : AllByRecursion (CanMerge k.contents table next (newest st).worn ms) ms
  can_merge = all_weaker ms (λ m is. record {
    some = is.0.some;
    unworn = not_marked (λ x. (0 < x.seq) × (x.seq ≤ last st)) (newest st).worn
        (mark_of table (file_of_merge next m)) (last_stands.up_to table).of_worn
        (λ both. absurd (omega (arith, both.1)));
    not_old = all_weaker ms (λ o is'. olds_seen o is' m.new.name is.0.own) fine;
    not_mine = olds_seen m is m.new.name is.0.own;
  }) fine

  bags : AllByRecursion (HasRows k.contents later) ms
  bags = all_both ms (λ m is same. subst (λ (fs : List FileRow). (g : _) → weight g
      (k.contents.rows m.new.name) ≡ weight g (flat_map (live_of k.contents) fs)) (sym same)
      is.0.rows) fine same_merged

  -- the version that is made

  abbrev v : Version
  v = version_compacted table next marks (newest st)

  alike_worn : (name : List ℕ) (files : List FileRow) (rows : List MarkedRow) → FilesStand
      k.contents name files rows (newest st).worn → rows ≡ marked_rows_of name v.tables → FilesStand
      k.contents name files (marked_rows_of name v.tables) v.worn
  alike_worn name files rows stands same =
      stand_again k.contents name files rows (marked_rows_of name v.tables) (newest st).worn v.worn
      stands same
      (all_weaker files (λ f some. sym (marked_kept (has_mark v.tables) (mark_of name f) (has_row
      name v.tables (mark_of name f) (subst (λ (rs : List MarkedRow). 1 ≤ weight
      (λ (r : MarkedRow). if same_mark (mark_of name f) r.mark then 1 else 0) rs)
      same some)) (newest st).worn))
      (files_have_rows k.contents name files rows (newest st).worn stands))

  made_here : FilesStand k.contents table (replay next (items_of table items) later)
      (marked_rows_of table v.tables) v.worn
  made_here =
      let old = marked_rows_of table (newest st).tables in
      let merged = merges_stand k.contents table next marks (newest st).worn marks_old ms ms later
      old (last_stands.each table) ready bags can_merge asks.other in
      alike_worn table (replay next (items_of table items) later) (rows_merged next marks ms old)
      (subst (λ (is : List Item). FilesStand k.contents table (replay next is later)
      (rows_merged next marks ms old) (newest st).worn) (sym items_here) merged)
      (all_replaced next marks ms old marks_old marks_cells ∙ sym
      (rows_here table next marks (newest st).tables))

  made : (name : List ℕ) → FilesStand k.contents name
      (replay next (items_of name items) (files_at k.rows (last st) name))
      (marked_rows_of name v.tables) v.worn
  made name = elim (same_text name table) as (λ b. same_text name table ≡ b → FilesStand k.contents
      name (replay next (items_of name items) (files_at k.rows (last st) name))
      (marked_rows_of name v.tables) v.worn) [
        | true ↦ λ e. subst (λ (n : List ℕ). FilesStand k.contents n
            (replay next (items_of n items) (files_at k.rows (last st) n))
            (marked_rows_of n v.tables) v.worn) (sym (same_text_is name table e)) made_here
        | false ↦ λ e. subst (λ (is : List Item). FilesStand k.contents name
            (replay next is (files_at k.rows (last st) name)) (marked_rows_of name v.tables) v.worn)
            (sym (items_elsewhere name e))
            (alike_worn name (files_at k.rows (last st) name)
            (marked_rows_of name (newest st).tables)
            (last_stands.each name)
            (sym (rows_elsewhere name table next marks (newest st).tables e)))
      ] refl

  -- the rows of the commit

  abbrev Mine : Row → Type 0
  Mine r = IsRowOf k st t.number items marks r

  row_of : (name : List ℕ) (r : Row) → rows_of name more ≡ r ∷ [] → Mine r × (r.table ≡ name)
  row_of name r is =
      let row = subst (λ (rs : List Row). AllByRecursion Mine rs) is
      (all_filter Mine (λ r. same_text r.table name) more asks.rows.rows) in
      let at = subst (λ (rs : List Row). AllByRecursion (λ r. same_text r.table name ≡ true) rs) is
      (all_passed (λ r. same_text r.table name) more) in
      (row.0, same_text_is r.table name at.0)

  seqs : AllByRecursion (λ r. r.seq ≡ next) more
  seqs = all_weaker more (λ r is. is.seq) asks.rows.rows

  new_files : (name : List ℕ) → files_at (k.rows ++ more) next name ≡ replay next
      (items_of name items) (files_at k.rows (last st) name)
  new_files name =
      ap (λ (rs : List Row). replay_rows rs [])
      (ap (rows_to next) (filter-append (λ r. same_text r.table name) k.rows more) ∙ filter-append
      (λ r. nat_le r.seq next) (rows_of name k.rows) (rows_of name more)
      ∙ (λ i. all_rows_to k.rows (last st) next name agrees.stands.within (omega arith) i ++
      all_new i))
      ∙ rows_one_by_one (rows_of name k.rows) (rows_of name more) []
      ∙ ap (replay_rows (rows_of name more)) (sym (ap (λ (rs : List Row). replay_rows rs [])
      (all_rows_to k.rows (last st) (last st) name agrees.stands.within (omega arith)))) ∙
      by_row (asks.rows.each name)
    where
      all_new : rows_to next (rows_of name more) ≡ rows_of name more
      all_new = filter_all (λ r. nat_le r.seq next) (rows_of name more) (all_filter
          (λ r. nat_le r.seq next ≡ true) (λ r. same_text r.table name) more
          (all_weaker more (λ r e. le-leb r.seq next (omega (arith, e))) seqs))

      by_row : HasOne items more name → replay_rows (rows_of name more)
          (files_at k.rows (last st) name) ≡ replay next (items_of name items)
          (files_at k.rows (last st) name)
      by_row (inl none) = ap (λ (rs : List Row). replay_rows rs (files_at k.rows (last st) name))
          none.0 ∙ ap (λ (is : List Item). replay next is (files_at k.rows (last st) name))
          (sym none.1)
      by_row (inr (r, is)) = let both = row_of name r is in ap
          (λ (rs : List Row). replay_rows rs (files_at k.rows (last st) name)) is ∙ (λ i. replay
          (both.0.seq i) (items_of (both.1 i) (both.0.items i)) (files_at k.rows (last st) name))

  made_up : (name : List ℕ) → AreUpTo next
      (replay next (items_of name items) (files_at k.rows (last st) name)) v.worn
  made_up name = record {
    of_files = replay_keeps (λ f. (0 < f.seq) × (f.seq ≤ next)) next (items_of name items)
        (all_filter (Makes (λ f. (0 < f.seq) × (f.seq ≤ next)) next)
        (λ i. same_text (item_table i) name) items (merge_items_all
        (Makes (λ f. (0 < f.seq) × (f.seq ≤ next)) next) table ms
        (all_weaker ms (λ m _. ((omega arith, omega arith), units m.olds)) asks.merges)))
        (files_at k.rows (last st) name) (all_weaker (files_at k.rows (last st) name)
        (λ f both. (both.0, omega (arith, both.1))) (last_stands.up_to name).of_files);
    of_worn = all_filter (λ m. (0 < m.seq) × (m.seq ≤ next)) (has_mark v.tables) (newest st).worn
        (all_weaker (newest st).worn (λ m both. (both.0, omega (arith, both.1)))
        (last_stands.up_to name).of_worn);
  }
    where
      units : (ns : List Name) → AllByRecursion (λ n. Unit {0}) ns
      units [] = tt
      units (n ∷ ns) = (tt, units ns)

  made_stands : VersionStands k.contents (k.rows ++ more) next v
  made_stands = record {
    each = λ name. subst
        (λ (fs : List FileRow). FilesStand k.contents name fs (marked_rows_of name v.tables) v.worn)
        (sym (new_files name)) (made name);
    up_to = λ name. subst (λ (fs : List FileRow). AreUpTo next fs v.worn) (sym (new_files name))
        (made_up name);
  }

  row_marks : (r : Row) → Mine r → r.table ≡ table → r.marks ≡ marks
  row_marks r is here = is.marks ∙ ap (λ (n : List ℕ). marks_of_table n marks) here ∙ filter_all
      (λ m. same_text m.table table) marks (all_weaker marks
      (λ m e. ap (λ (n : List ℕ). same_text n table) e ∙ same_text_self table) marks_here)

  turns : (name : List ℕ) → TouchInTurn name (replay_rows (rows_of name k.rows) [])
      (rows_of name more)
  turns name = by (asks.rows.each name)
    where
      last_files : files_at k.rows (last st) name ≡ replay_rows (rows_of name k.rows) []
      last_files = ap (λ (rs : List Row). replay_rows rs [])
          (all_rows_to k.rows (last st) (last st) name agrees.stands.within (omega arith))

      touch : (r : Row) → Mine r → r.table ≡ name → MayTouch r.txn name r.marks
          (replay_rows (rows_of name k.rows) []) (items_of r.table r.items)
      touch r is here = elim (same_text name table) as (λ b. same_text name table ≡ b → MayTouch
          r.txn name r.marks (replay_rows (rows_of name k.rows) []) (items_of r.table r.items)) [
            | true ↦ λ e.
                let at = same_text_is name table e in
                let base : MayTouch t.number table marks later (items_of table items) = subst
                (λ (is : List Item). MayTouch t.number table marks later is) (sym items_here)
                both_kept.1 in
                let there : MayTouch t.number name marks (files_at k.rows (last st) name)
                (items_of name items) = subst (λ (n : List ℕ). MayTouch t.number n marks
                (files_at k.rows (last st) n) (items_of n items)) (sym at) base in
                subst (λ (n : ℕ). MayTouch n name r.marks (replay_rows (rows_of name k.rows) [])
                (items_of r.table r.items)) (sym is.txn)
                (subst (λ (xs : List Mark). MayTouch t.number name xs
                (replay_rows (rows_of name k.rows) []) (items_of r.table r.items))
                (sym (row_marks r is (here ∙ at)))
                (subst (λ (is : List Item). MayTouch t.number name marks
                (replay_rows (rows_of name k.rows) []) is)
                (λ i. items_of (sym here i) (sym is.items i)) (subst
                (λ (fs : List FileRow). MayTouch t.number name marks fs (items_of name items))
                last_files there)))
            | false ↦ λ e. subst (λ (is : List Item). MayTouch r.txn name r.marks
                (replay_rows (rows_of name k.rows) []) is)
                (sym ((λ i. items_of (here i) (is.items i)) ∙ items_elsewhere name e)) tt
          ] refl

      by : HasOne items more name → TouchInTurn name (replay_rows (rows_of name k.rows) [])
          (rows_of name more)
      by (inl none) = subst
          (λ (rs : List Row). TouchInTurn name (replay_rows (rows_of name k.rows) []) rs)
          (sym none.0) tt
      by (inr (r, is)) = let both = row_of name r is in subst
          (λ (rs : List Row). TouchInTurn name (replay_rows (rows_of name k.rows) []) rs) (sym is)
          (touch r both.0 both.1, tt)

  -- all together

  adds : AddsOwn t.number items
  adds = merge_items_all (λ i. adds_own t.number i ≡ true) table ms
      (all_weaker ms (λ m is. (is.own, olds m.olds)) asks.merges)
    where
      olds : (ns : List Name) → AllByRecursion (λ n. true ≡ true) ns
      olds [] = tt
      olds (n ∷ ns) = (refl, olds ns)

  own : (n : Name) → list_any (writes n) items ≡ true → is_name_of t.number n ≡ true
  own n is = any_known (λ i. writes n i ≡ true → is_name_of t.number n ≡ true) (writes n)
      (is_name_of t.number n ≡ true) items
      (merge_items_all (λ i. writes n i ≡ true → is_name_of t.number n ≡ true) table ms (all_weaker
      ms (λ m is.
      ((λ e. ap (is_name_of t.number) (name_tells n m.new.name e) ∙ is.own), olds m.olds))
      asks.merges)) (λ i f e. f e) is
    where
      olds : (ns : List Name) → AllByRecursion (λ o. false ≡ true → is_name_of t.number n ≡ true) ns
      olds [] = tt
      olds (o ∷ ns) = ((λ no. absurd cc), olds ns)

  one_table : HaveOneTable items
  one_table name one other is is' = at one is ∙ sym (at other is')
    where
      at : (n : List ℕ) → list_any (writes name) (items_of n items) ≡ true → n ≡ table
      at n is = elim (same_text n table) as (λ b. same_text n table ≡ b → n ≡ table) [
        | true ↦ λ e. same_text_is n table e
        | false ↦ λ e. let no : false ≡ true = sym
            (ap (list_any (writes name)) (items_elsewhere n e)) ∙ is in absurd cc
      ] refl

  has_blobs : (name : List ℕ) → HasBlobs k.contents
      (replay next (items_of name items) (files_at k.rows (last st) name))
  has_blobs name = replay_keeps (HasFile k.contents) next (items_of name items)
      (all_filter (Makes (HasFile k.contents) next) (λ i. same_text (item_table i) name) items
      (merge_items_all (Makes (HasFile k.contents) next) table ms
      (all_weaker ms (λ m is. ((is.here, tt), units m.olds)) asks.merges)))
      (files_at k.rows (last st) name) (agrees.blobs (last st) name sound.floor (omega arith))
    where
      units : (ns : List Name) → AllByRecursion (λ n. Unit {0}) ns
      units [] = tt
      units (n ∷ ns) = (tt, units ns)

  numbered : t.number ≤ st.last_number
  numbered = opened_all (λ u. u.number ≤ st.last_number) session st.running t sound.given
      asks.opened

  own_numbers : HaveOwnNumbers st
  own_numbers one other u w is is' same = one_session one other st.running u w sound.numbers is is'
      same

  some_item : items_of table items ≡ [] → ⊥
  some_item none = by ms (sym items_here ∙ none) asks.due
    where
      by : (os : List Merge) → items_of_merges table os ≡ [] → map (λ m. m.new.cell) os ≡ cells → ⊥
      by [] e due = may.some (sym due)
      by (o ∷ os) e due = absurd cc

  struck_told : (m : Mark) → is_marked marks m ≡ true → has_row_at more next m.table ≡ true
  struck_told m is = subst (λ (n : List ℕ). has_row_at more next n ≡ true)
      (sym (marked_all (λ m. m.table ≡ table) marks m marks_here is)) (by (asks.rows.each table))
    where
      by : HasOne items more table → has_row_at more next table ≡ true
      by (inl none) = absurd (some_item none.1)
      by (inr (r, one)) = row_told more next table r seqs one

  pub compact_agrees : Agrees (with_rows k more) (ended session
      (with_version (version_compacted table (last st + 1) marks (newest st)) lost gained st))
  compact_agrees =
      let st' = ended session
      (with_version (version_compacted table (last st + 1) marks (newest st)) lost gained st) in
      let from : (other : ℕ) (u : Transaction) → transaction st' other ≡ Some u → transaction st
      other ≡ Some u = λ other u is. ended_was session other st u is in
      let stands = stands_grown k.contents k.rows more k.items st st'
      (version_compacted table (last st + 1) marks (newest st)) agrees.stands refl refl from
      seqs made_stands turns in
      let numbers = numbers_committed k.rows more items st session t agrees.numbers asks.opened
      own_numbers adds (all_weaker more (λ r is. (is.seq, is.txn, is.items)) asks.rows.rows) in
      let names = names_after_commit k st t.number items marks gained lost more
      (version_compacted table (last st + 1) marks (newest st)) sound agrees own one_table
      (agrees.numbers.open_ones session t asks.opened) asks.rows in
      grow k more st st' (version_compacted table (last st + 1) marks (newest st)) agrees stands
      (record
      { apart = numbers.apart; open_ones = numbers.open_ones; own_adds = numbers.own_adds })
      refl refl refl
      seqs (all_weaker more (λ r is. omega (arith, is.txn, numbered)) asks.rows.rows)
      (all_weaker more (λ r is. is.marks) asks.rows.rows)
      struck_told
      (record {
        once = names.once;
        turns = names.turns;
        own = names.own;
        one_table =
            names.one_table;
        versions = names.versions;
      })
      from (λ name. subst (λ (fs : List FileRow). HasBlobs k.contents fs) (sym (new_files name))
      (has_blobs name))

pub kept_compacted : KeptCompacted
kept_compacted k entries e t table cells marks seq gained lost ms more kept next asks =
    kept_next k (with_rows k more) entries e (Compacted table cells marks seq gained lost) more kept
    next (sym (append-nil (map (λ (c : Checkpoint). c.check) k.checks)))
    (map_append shown_row k.rows more)
    (manifests_run k (state entries) e.entry.session t marks (items_of_merges table ms) gained lost
    more asks.opened asks.rows)
    (λ sound may. compact_agrees k (state entries) e.entry.session t table cells marks seq gained
    lost ms more sound kept.agrees (subst (λ (o : Option Transaction). IsSomeAnd o
    (MayCompact true (state entries) table cells marks seq gained lost)) asks.opened may)
    asks)
