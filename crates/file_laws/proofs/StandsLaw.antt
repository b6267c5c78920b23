-- A commit keeps it that the catalogue stands.
use Rattle.std.proofs.Common.{◌≡◌, ℕ, ◌+◌, ◌<◌, ◌≤◌, Bool, true, false, ◌&&◌, ◌||◌, List, [], ◌∷◌}
use Rattle.std.proofs.Common.{◌++◌, Option, Some, map, length, refl, sym, ap, ◌∙◌, arith, subst}
use Rattle.std.proofs.Common.{inl, inr, length-append, filter, if◌then◌else◌}
use Rattle.std.proofs.lemmas.Bool.{le-leb, leb-true, ltb-true}
use Rattle.std.proofs.lemmas.List.{append-nil}
use Rattle.std.proofs.lemmas.List.Elements.{filter-append}
use Rattle.std.specs.Prelude.{is_some, nat_le, nat_lt}
use Rattle.std.specs.List.{AllByRecursion}
use Rattle.std.specs.Option.{option_map_or}
use Rattle.lake_values.specs.declared.names.Name.{Name}
use Rattle.lake_values.specs.declared.values.Value.{Value}
use Rattle.sql_model.specs.declared.changes.Mark.{Mark}
use Rattle.sql_model.specs.declared.changes.MarkedRow.{MarkedRow}
use Rattle.sql_model.specs.Changes.{as_commit, has_mark, is_nil, marked_cmp, same_mark}
use Rattle.sql_model.specs.Changes.{version_after, without}
use Rattle.sql_model.specs.Units.{marks_of, ConflictUnit, same_unit}
use Rattle.sql_model.specs.Listing.{weight}
use Rattle.lake_model.specs.State.{State, Transaction, ended, last, newest, transaction, version_at}
use Rattle.lake_model.specs.State.{with_version}
use Rattle.sql_model.specs.Versions.{Version, has_table, marked_rows_of, Tables}
use Rattle.lake_values.specs.Texts.{same_text}
use Rattle.lake_model.proofs.Growth.{version_kept, version_made}
use Rattle.sql_model.proofs.Lists.{all_append, all_weaker, all_both, all_filter}
use Rattle.lake_model.proofs.Pending.{part_all}
use Rattle.sql_model.proofs.Removal.{filter_all, filter_none}
use Rattle.manifest_block.specs.declared.items.Item.{Item}
use Rattle.table_snapshot.specs.declared.files.FileRow.{FileRow}
use Rattle.table_snapshot.specs.Files.{items_of, replay}
use Rattle.file_laws.specs.Contents.{Contents, live_of, mark_of, row_as, with_mark}
use Rattle.file_laws.specs.Laws.{named}
use Rattle.file_laws.specs.Stands.{AreRowsOf, HasRow, KeepsTables, OpenStands, Stands}
use Rattle.file_laws.specs.Stands.{VersionStands, added_of, files_at, removed_of, rows_behind}
use Rattle.file_laws.specs.Stands.{rows_of, rows_to}
use Rattle.file_laws.specs.StandsLaws.{IsFree, StandsCommitted}
use Rattle.file_laws.specs.Standing.{agrees, AreUpTo, FilesStand, IsSeenBy}
use Rattle.file_laws.specs.Touching.{Row, MayTouch, TouchInTurn, is_marked, is_touched, replay_rows}
use Rattle.file_laws.proofs.ChangeLemmas.{all_tables, has_row, marked_kept, marked_of}
use Rattle.file_laws.proofs.ChangeLemmas.{rows_committed, still_open}
use Rattle.file_laws.proofs.CommitLaw.{rows_live, stands_after_commit}
use Rattle.file_laws.proofs.RebaseLaw.{of, weigh}
use Rattle.file_laws.proofs.RowLemmas.{files_between, in_two, order_append, order_filter}
use Rattle.file_laws.proofs.RowLemmas.{rows_one_by_one, turns_append, turns_behind}
use Rattle.file_laws.proofs.StandLemmas.{all_map, each_weighs, mark_self, marked_append, replay_all}
use Rattle.file_laws.proofs.TouchLaw.{both_true, keeps_what_is_free, touched_self}

-- what a file stands for, over an equal list of rows and worn marks that are alike for the files
pub stand_again : (c : Contents) (table : List ℕ) (files : List FileRow)
    (rows rows' : List MarkedRow) (worn worn' : List Mark) → FilesStand c table files rows worn →
    rows ≡ rows'
    → AllByRecursion (λ f. is_marked worn (mark_of table f) ≡ is_marked worn' (mark_of table f))
    files → FilesStand c table files rows' worn'
stand_again c table files rows rows' worn worn' stands same alike = record {
  same = λ g. stands.same g ∙ ap (weight g) same;
  vectors = all_both files (λ f was alike. ap (agrees (is_some f.vector)) (sym alike) ∙ was)
      stands.vectors alike;
  filled = stands.filled;
  one_each = stands.one_each;
}

-- the mark of each file is among those of the rows
pub files_have_rows : (c : Contents) (table : List ℕ) (files : List FileRow) (rows : List MarkedRow)
    (worn : List Mark) → FilesStand c table files rows worn
    → AllByRecursion
    (λ f. 1 ≤ weight (λ r. if same_mark (mark_of table f) r.mark then 1 else 0) rows) files
unfolding of
files_have_rows c table files rows worn stands =
    all_both files (λ f weighs filled. some f weighs filled) (each_weighs files) stands.filled
  where
    counted : (m : Mark) (rs : List (List Value)) → is_nil rs ≡ false → 1 ≤ weight
        (λ (r : MarkedRow). if same_mark m r.mark then 1 else 0) (map (with_mark m) rs)
    counted m [] e = absurd cc
    counted m (r ∷ rs) e = let one : ◌≡◌ {A = ℕ} (if same_mark m m then 1 else 0) 1 = ap
        (λ (b : Bool). if b then 1 else 0) (mark_self m) in omega (arith, one)

    some : (f : FileRow) → ((k : FileRow → ℕ) → k f ≤ weight k files) → is_nil (live_of c f) ≡ false
        → 1 ≤ weight (λ r. if same_mark (mark_of table f) r.mark then 1 else 0) rows
    some f weighs filled =
        let m = mark_of table f in
        let k : MarkedRow → ℕ = λ r. if same_mark m r.mark then 1 else 0 in
        omega (
          arith,
          counted m (live_of c f) filled,
          weighs (of c table k),
          weigh c table k files,
          stands.same k,
        )

-- of the marks that may be worn after a change, a file of the table wears its own whether or not
-- other tables' are left out
pub worn_alike : (table : List ℕ) (tables : Tables) (removed : List MarkedRow)
    (worn own : List Mark) (m : Mark) → m.table ≡ table → 1 ≤ weight
    (λ r. if same_mark m r.mark then 1 else 0) (marked_rows_of table tables)
    → is_marked (worn ++ marks_of (removed_of table removed) ++ own) m ≡ is_marked
    (filter (has_mark tables) (worn ++ marks_of removed ++ own)) m
worn_alike table tables removed worn own m is some =
    marked_append (worn ++ marks_of (removed_of table removed)) own m ∙ ap
    (λ (b : Bool). b || is_marked own m)
    (marked_append worn (marks_of (removed_of table removed)) m)
    ∙ ap (λ (b : Bool). (is_marked worn m || b) || is_marked own m) (marked_of table m is removed)
    ∙ sym (marked_append (worn ++ marks_of removed) own m ∙ ap (λ (b : Bool). b || is_marked own m)
    (marked_append worn (marks_of removed) m))
    ∙ sym (marked_kept (has_mark tables) m (has_row table tables m some)
    (worn ++ marks_of removed ++ own))

module _ (unit : Mark → ConflictUnit) (unit_self : (u : ConflictUnit) → same_unit u u ≡ true)
    (c : Contents) (rows more : List Row) (items : ℕ → List Item) (st : State) (session : ℕ)
    (t : Transaction) (dropped added : List Name)
    (stands : Stands c rows items st) (opened : transaction st session ≡ Some t)
    (free : IsFree unit rows t)
    (keeps : KeepsTables (version_at st t.snapshot).tables (newest st).tables)
    (new : AreRowsOf (last st + 1) t.number (items session) t.pending.removed more) where
  abbrev own : List ℕ → List Item
  own table = items_of table (items session)

  abbrev removed : List ℕ → List MarkedRow
  removed table = removed_of table t.pending.removed

  abbrev v : Version
  v = version_after (last st + 1) t.pending t.worn (newest st)

  abbrev st' : State
  st' = ended session (with_version v dropped added st)

  longer : last st' ≡ last st + 1
  longer = omega (arith, length-append st.versions (v ∷ []), stands.some)

  open_one : OpenStands c rows st (items session) t
  open_one = stands.open_ones session t opened

  -- versions

  old_version : (n : ℕ) → n ≤ last st → version_at st' n ≡ version_at st n
  old_version n le = version_kept st st' (v ∷ [], refl) n (omega (arith, le, stands.some))

  new_version : version_at st' (last st + 1) ≡ v
  new_version =
      let place : length st.versions ≡ last st + 1 = omega (arith, stands.some) in
      ap (version_at st') (sym place) ∙ version_made st st' v []
      (sym (append-nil (st.versions ++ v ∷ [])))

  -- files

  old_files : (n : ℕ) (table : List ℕ) → n ≤ last st → files_at (rows ++ more) n table ≡ files_at
      rows n table
  old_files n table le =
      let none : rows_to n (rows_of table more) ≡ [] = filter_none (λ r. nat_le r.seq n)
      (rows_of table more) (all_filter (λ r. nat_le r.seq n ≡ false)
      (λ r. same_text r.table table) more
      (all_weaker more (λ r e. above r.seq (last st) n e le) new.seqs)) in
      ap (λ (rs : List Row). replay_rows rs [])
      (ap (rows_to n) (filter-append (λ r. same_text r.table table) rows more) ∙ filter-append
      (λ r. nat_le r.seq n) (rows_of table rows) (rows_of table more)
      ∙ (λ i. rows_to n (rows_of table rows) ++ none i) ∙ append-nil
      (rows_to n (rows_of table rows)))
    where
      above : (m l n : ℕ) → m ≡ l + 1 → n ≤ l → nat_le m n ≡ false
      above m l n e le = grind arith

  all_old : (n : ℕ) (table : List ℕ) → last st ≤ n → rows_to n (rows_of table rows) ≡ rows_of table
      rows
  all_old n table le = filter_all (λ r. nat_le r.seq n) (rows_of table rows) (all_filter
      (λ r. nat_le r.seq n ≡ true) (λ r. same_text r.table table) rows
      (all_weaker rows (λ r up. le-leb r.seq n (omega (arith, up, le))) stands.within))

  last_files : (table : List ℕ) → files_at rows (last st) table ≡ replay_rows (rows_of table rows)
      []
  last_files table = ap (λ (rs : List Row). replay_rows rs [])
      (all_old (last st) table (omega arith))

  by_row : (table : List ℕ) (files : List FileRow) → HasRow (last st + 1) t.number (items session)
      t.pending.removed more table → replay_rows (rows_of table more) files ≡ replay (last st + 1)
      (own table) files
  by_row table files (inl (no_row, no_item)) = ap (λ (rs : List Row). replay_rows rs files) no_row ∙
      ap (λ (is : List Item). replay (last st + 1) is files) (sym no_item)
  by_row table files (inr (r, is, seq, txn, name, mine, marks)) = ap
      (λ (rs : List Row). replay_rows rs files) is ∙
      (λ i. replay (seq i) (items_of (name i) (mine i)) files)

  pub new_files : (table : List ℕ) → files_at (rows ++ more) (last st + 1) table ≡ replay
      (last st + 1) (own table) (files_at rows (last st) table)
  new_files table =
      let all_new : rows_to (last st + 1) (rows_of table more) ≡ rows_of table more = filter_all
      (λ r. nat_le r.seq (last st + 1)) (rows_of table more) (all_filter
      (λ r. nat_le r.seq (last st + 1) ≡ true) (λ r. same_text r.table table) more
      (all_weaker more (λ r e. le-leb r.seq (last st + 1) (omega (arith, e))) new.seqs)) in
      ap (λ (rs : List Row). replay_rows rs [])
      (ap (rows_to (last st + 1)) (filter-append (λ r. same_text r.table table) rows more) ∙
      filter-append (λ r. nat_le r.seq (last st + 1)) (rows_of table rows) (rows_of table more)
      ∙ (λ i. all_old (last st + 1) table (omega arith) i ++ all_new i))
      ∙ rows_one_by_one (rows_of table rows) (rows_of table more) []
      ∙ ap (replay_rows (rows_of table more)) (sym (last_files table)) ∙ by_row table
      (files_at rows (last st) table) (new.each table)

  -- the files that the transaction's items name are as they were
  pub kept : (table : List ℕ) →
      (named (is_touched (own table)) (files_at rows (last st) table) ≡ named
      (is_touched (own table)) (files_at rows t.snapshot table))
      × MayTouch t.number table (marks_of (removed table)) (files_at rows (last st) table)
      (own table)
  kept table =
      let mine = rows_of table rows in
      let seen = open_one.each table in
      let order = order_filter (λ r. same_text r.table table) rows stands.order in
      let turns : TouchInTurn table (files_at rows t.snapshot table) (rows_behind t.snapshot mine) =
      turns_behind table (rows_to t.snapshot mine) (rows_behind t.snapshot mine) [] (subst
      (λ (rs : List Row). TouchInTurn table [] rs) (sym (in_two t.snapshot mine order))
      (stands.touching table)) in
      let both = keeps_what_is_free unit unit_self table t.number (marks_of (removed table))
      (own table) (files_at rows t.snapshot table) (rows_behind t.snapshot mine) seen.may
      seen.none turns (free table) in
      let later : replay_rows (rows_behind t.snapshot mine) (files_at rows t.snapshot table) ≡
      files_at rows (last st) table =
      ap (λ (rs : List Row). replay_rows (rows_behind t.snapshot rs)
      (files_at rows t.snapshot table)) (sym (all_old (last st) table (omega arith))) ∙
      files_between rows t.snapshot (last st) table stands.order open_one.snapshot.1 in (
        ap (named (is_touched (own table))) (sym later) ∙ both.0,
        subst (λ (fs : List FileRow).
            MayTouch t.number table (marks_of (removed table)) fs (own table)) later both.1,
      )

  snapshot_stands : VersionStands c rows t.snapshot (version_at st t.snapshot)
  snapshot_stands = stands.versions t.snapshot open_one.snapshot.0 open_one.snapshot.1

  last_stands : VersionStands c rows (last st) (newest st)
  last_stands = stands.versions (last st) (omega (arith, open_one.snapshot.0, open_one.snapshot.1))
      (omega arith)

  abbrev worn_then : List Mark
  worn_then = (newest st).worn ++ marks_of t.pending.removed ++ map (as_commit (last st + 1)) t.worn

  made : (table : List ℕ) → FilesStand c table
      (replay (last st + 1) (own table) (files_at rows (last st) table))
      (marked_rows_of table v.tables) v.worn
  made table =
      let snap = version_at st t.snapshot in
      let was = stands_after_commit c table t.number t.snapshot (last st) (own table)
      (files_at rows t.snapshot table) (marked_rows_of table snap.tables) snap.worn
      (files_at rows (last st) table) (marked_rows_of table (newest st).tables) (newest st).worn
      (removed table) (added_of table snap.tables 0 t.pending.added) t.worn open_one.snapshot.1
      (snapshot_stands.each table) (snapshot_stands.up_to table) (last_stands.each table)
      (last_stands.up_to table) (open_one.each table) (kept table).0 in
      let files = replay (last st + 1) (own table) (files_at rows (last st) table) in
      let same = rows_committed (last st + 1) t.pending table snap.tables (newest st).tables keeps
      open_one.known in
      let old_rows = without marked_cmp (marked_rows_of table (newest st).tables) (removed table) ++
      map (row_as (last st + 1)) (added_of table snap.tables 0 t.pending.added) in
      let old_worn = (newest st).worn ++ marks_of (removed table) ++ map (as_commit (last st + 1))
      t.worn in
      stand_again c table files old_rows (marked_rows_of table v.tables) old_worn v.worn was same
      (all_weaker files (λ f some. worn_alike table v.tables t.pending.removed (newest st).worn
      (map (as_commit (last st + 1)) t.worn) (mark_of table f) refl (subst (λ
      (rs : List MarkedRow). 1 ≤ weight
      (λ r. if same_mark (mark_of table f) r.mark then 1 else 0) rs) same some))
      (files_have_rows c table files old_rows old_worn was))

  removed_up : AllByRecursion (λ (m : MarkedRow). (0 < m.mark.seq) × (m.mark.seq ≤ last st + 1))
      t.pending.removed
  removed_up =
      all_weaker t.pending.removed (λ m e. bounds m.mark.seq t.snapshot (last st)
      (both_true (nat_lt 0 m.mark.seq) (nat_le m.mark.seq t.snapshot) e).0
      (both_true (nat_lt 0 m.mark.seq) (nat_le m.mark.seq t.snapshot) e).1
      open_one.snapshot.1)
      (all_tables (λ m. (nat_lt 0 m.mark.seq && nat_le m.mark.seq t.snapshot) ≡ true)
      t.pending.removed (λ table.
      let snap = version_at st t.snapshot in
      let up = snapshot_stands.up_to table in
      part_all (λ m. nat_lt 0 m.mark.seq && nat_le m.mark.seq t.snapshot) (removed table)
      (marked_rows_of table snap.tables) (open_one.each table).part
      (rows_live c table (λ m. nat_lt 0 m.seq && nat_le m.seq t.snapshot)
      (files_at rows t.snapshot table) (marked_rows_of table snap.tables)
      (snapshot_stands.each table).same
      (all_weaker (files_at rows t.snapshot table)
      (λ f both. within f.seq t.snapshot both.0 both.1) up.of_files))))
    where
      bounds : (m s l : ℕ) → nat_lt 0 m ≡ true → nat_le m s ≡ true → s ≤ l → (0 < m) × (m ≤ l + 1)
      bounds m s l low high le = (ltb-true 0 m low, omega (arith, leb-true m s high, le))

      within : (m s : ℕ) → 0 < m → m ≤ s → (nat_lt 0 m && nat_le m s) ≡ true
      within m s low high = grind arith

  made_up : (table : List ℕ) → AreUpTo (last st + 1)
      (replay (last st + 1) (own table) (files_at rows (last st) table)) v.worn
  made_up table = record {
    of_files = replay_all (λ f. (0 < f.seq) × (f.seq ≤ last st + 1)) (is_touched (own table))
        (last st + 1) (λ f vector removed h. h)
        (λ cell part count file _. (omega arith, omega arith)) (own table)
        (touched_self (own table)) (files_at rows (last st) table)
        (all_weaker (files_at rows (last st) table) (λ f both. (both.0, omega (arith, both.1)))
        (last_stands.up_to table).of_files);
    of_worn = all_filter (λ m. (0 < m.seq) × (m.seq ≤ last st + 1)) (has_mark v.tables) worn_then
        (all_append (λ m. (0 < m.seq) × (m.seq ≤ last st + 1))
        ((newest st).worn ++ marks_of t.pending.removed) (map (as_commit (last st + 1)) t.worn)
        (all_append (λ m. (0 < m.seq) × (m.seq ≤ last st + 1)) (newest st).worn
        (marks_of t.pending.removed) (all_weaker (newest st).worn
        (λ m both. (both.0, omega (arith, both.1))) (last_stands.up_to table).of_worn)
        (all_map (λ m. (0 < m.seq) × (m.seq ≤ last st + 1)) (λ (r : MarkedRow). r.mark)
        t.pending.removed removed_up))
        (all_map (λ m. (0 < m.seq) × (m.seq ≤ last st + 1)) (as_commit (last st + 1)) t.worn
        (all_weaker t.worn (λ m _. (omega arith, omega arith))
        (open_one.each table).own_marks)));
  }

  new_stands : VersionStands c (rows ++ more) (last st + 1) v
  new_stands = record {
    each = λ table. subst
        (λ (fs : List FileRow). FilesStand c table fs (marked_rows_of table v.tables) v.worn)
        (sym (new_files table)) (made table);
    up_to = λ table. subst (λ (fs : List FileRow). AreUpTo (last st + 1) fs v.worn)
        (sym (new_files table)) (made_up table);
  }

  still : (n : ℕ) → n ≤ last st → VersionStands c rows n (version_at st n) → VersionStands c
      (rows ++ more) n (version_at st n)
  still n le was = record {
    each = λ table. subst (λ (fs : List FileRow). FilesStand c table fs
        (marked_rows_of table (version_at st n).tables) (version_at st n).worn)
        (sym (old_files n table le)) (was.each table);
    up_to = λ table. subst (λ (fs : List FileRow). AreUpTo n fs (version_at st n).worn)
        (sym (old_files n table le)) (was.up_to table);
  }

  at_version : (n : ℕ) → st.floor ≤ n → n ≤ last st + 1 → VersionStands c (rows ++ more) n
      (version_at st' n)
  at_version n low high =
      elim (nat_le n (last st)) as
      (λ b. nat_le n (last st) ≡ b → VersionStands c (rows ++ more) n (version_at st' n)) [
        | true ↦ λ e. let le = leb-true n (last st) e in subst
            (λ (w : Version). VersionStands c (rows ++ more) n w) (sym (old_version n le))
            (still n le (stands.versions n low le))
        | false ↦ λ e.
            let is : last st + 1 ≡ n = next n (last st) e high in
            subst (λ (k : ℕ). VersionStands c (rows ++ more) k (version_at st' k)) is (subst
            (λ (w : Version). VersionStands c (rows ++ more) (last st + 1) w)
            (sym new_version) new_stands)
      ] refl
    where
      next : (n l : ℕ) → nat_le n l ≡ false → n ≤ l + 1 → l + 1 ≡ n
      next n l e le = grind arith

  still_stands : (session' : ℕ) (u : Transaction) → transaction st' session' ≡ Some u → OpenStands c
      (rows ++ more) st' (items session') u
  still_stands session' u is =
      let was = stands.open_ones session' u (still_open session session' st.running u is) in
      let le = was.snapshot.1 in
      let same = old_version u.snapshot le in
      record {
        known = subst (λ (w : Version). AllByRecursion (λ a. has_table a.table w.tables ≡ true)
            u.pending.added) (sym same) was.known;
        snapshot = (was.snapshot.0, omega (arith, le, longer));
        each = λ table.
            subst (λ (fs : List FileRow). IsSeenBy c table u.number fs
            (marked_rows_of table (version_at st' u.snapshot).tables)
            (version_at st' u.snapshot).worn (items_of table (items session'))
            (removed_of table u.pending.removed)
            (added_of table (version_at st' u.snapshot).tables 0 u.pending.added) u.worn)
            (sym (old_files u.snapshot table le))
            (subst (λ (w : Version). IsSeenBy c table u.number (files_at rows u.snapshot table)
            (marked_rows_of table w.tables) w.worn (items_of table (items session'))
            (removed_of table u.pending.removed)
            (added_of table w.tables 0 u.pending.added) u.worn)
            (sym same) (was.each table));
      }

  by_turn : (table : List ℕ) → HasRow (last st + 1) t.number (items session) t.pending.removed more
      table → TouchInTurn table (replay_rows (rows_of table rows) []) (rows_of table more)
  by_turn table (inl (no_row, no_item)) = subst
      (λ (rs : List Row). TouchInTurn table (replay_rows (rows_of table rows) []) rs) (sym no_row)
      tt
  by_turn table (inr (r, is, seq, txn, name, mine, marks)) =
      let here = subst
      (λ (fs : List FileRow). MayTouch t.number table (marks_of (removed table)) fs (own table))
      (last_files table) (kept table).1 in
      let there : MayTouch r.txn table r.marks (replay_rows (rows_of table rows) [])
      (items_of r.table r.items) =
      subst (λ (n : ℕ). MayTouch n table r.marks (replay_rows (rows_of table rows) [])
      (items_of r.table r.items)) (sym txn)
      (subst (λ (ms : List Mark). MayTouch t.number table ms (replay_rows (rows_of table rows) [])
      (items_of r.table r.items)) (sym marks)
      (subst (λ (is : List Item). MayTouch t.number table (marks_of (removed table))
      (replay_rows (rows_of table rows) []) is) (λ i. items_of (sym name i) (sym mine i))
      here)) in
      subst (λ (rs : List Row). TouchInTurn table (replay_rows (rows_of table rows) []) rs) (sym is)
      (there, tt)

  result : Stands c (rows ++ more) items st'
  result = record {
    some = omega (arith, length-append st.versions (v ∷ []));
    order = order_append (last st) rows more stands.order stands.within new.seqs;
    within = all_append (λ r. r.seq ≤ last st') rows more
        (all_weaker rows (λ r le. omega (arith, le, longer)) stands.within)
        (all_weaker more (λ r e. omega (arith, e, longer)) new.seqs);
    touching = λ table. subst (λ (rs : List Row). TouchInTurn table [] rs)
        (sym (filter-append (λ r. same_text r.table table) rows more)) (turns_append table
        (rows_of table rows) (rows_of table more) [] (stands.touching table)
        (by_turn table (new.each table)));
    versions = λ n low high. at_version n low (omega (arith, high, longer));
    open_ones = still_stands;
  }

pub stands_committed : StandsCommitted
stands_committed unit unit_self c rows more items st session t dropped added stands opened free
    keeps new =
    subst (λ (o : Option Transaction). Stands c (rows ++ more) items (option_map_or (λ t. ended
    session (with_version (version_after (last st + 1) t.pending t.worn (newest st))
    dropped added st)) o st)) (sym opened)
    (result unit unit_self c rows more items st session t dropped added stands opened free keeps
    new)
