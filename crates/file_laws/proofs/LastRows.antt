-- The rows of a commit, made for its snapshot, are right at the last version.
use Rattle.std.proofs.Common.{◌≡◌, ℕ, ◌+◌, ◌≤◌, Bool, true, false, not, ◌&&◌, nat_eq, List, []}
use Rattle.std.proofs.Common.{◌∷◌, None, Some, inl, inr, filter, map, refl, sym, ap, ◌∙◌, subst}
use Rattle.std.proofs.Common.{arith, cond, ◌++◌, ⊎_elim, if◌then◌else◌}
use Rattle.std.specs.Prelude.{nat_le}
use Rattle.std.specs.List.{AllByRecursion, list_any}
use Rattle.lake_values.specs.declared.names.Name.{Name}
use Rattle.lake_values.specs.Names.{is_among}
use Rattle.lake_values.specs.Texts.{same_text}
use Rattle.lake_values.proofs.SameTexts.{same_text_is}
use Rattle.sql_model.specs.Units.{marks_of}
use Rattle.sql_model.proofs.Bags.{weight_append}
use Rattle.sql_model.proofs.Lists.{all_filter, all_weaker}
use Rattle.lake_model.specs.Conflicts.{first_conflict}
use Rattle.lake_model.specs.Laws.{IsSound}
use Rattle.lake_model.specs.State.{State, Transaction, last, newest, state, transaction, version_at}
use Rattle.lake_model.proofs.Sound.{states_are_sound}
use Rattle.manifest_block.specs.declared.items.Item.{Item}
use Rattle.table_snapshot.specs.Files.{item_table, items_of, names_in, replay}
use Rattle.file_laws.specs.Kept.{Agrees, Book, unit_of, writes}
use Rattle.file_laws.specs.KeptLaws.{HasOne, IsRowOf}
use Rattle.file_laws.specs.Laws.{named}
use Rattle.file_laws.specs.NameLaws.{GainsAndLoses}
use Rattle.file_laws.specs.Noting.{AreNewRows, IsNewRow, NotesAgree, RowsAtLast, items_of_all}
use Rattle.file_laws.specs.Noting.{table_items, times_written}
use Rattle.file_laws.specs.Stands.{AreRowsOf, HasRow, KeepsTables, OpenStands, files_at, removed_of}
use Rattle.file_laws.specs.Stands.{rows_of, rows_to}
use Rattle.file_laws.specs.StandsLaws.{IsFree}
use Rattle.file_laws.specs.Touching.{Row, is_name_of, is_touched}
use Rattle.file_laws.proofs.CommitKept.{marks_commute, no_row_conflicts, unit_self}
use Rattle.file_laws.proofs.CommitLaw.{not_zero}
use Rattle.file_laws.proofs.FreeLaw.{free_if_no_conflict}
use Rattle.file_laws.proofs.NoteKept.{fewer_written, names_written}
use Rattle.file_laws.proofs.NoteLemmas.{not_written}
use Rattle.file_laws.proofs.RanLemmas.{rows_own_names}
use Rattle.file_laws.proofs.Some.{any_filter, any_parts, not_true}
use Rattle.file_laws.proofs.SoundLemmas.{keeps_tables}
use Rattle.file_laws.proofs.StandLemmas.{all_passed}
use Rattle.file_laws.proofs.StandsLaw.{kept}
use Rattle.file_laws.proofs.TimesLemmas.{gained_alike, gone_times, lost_alike, names_of_commit}
use Rattle.file_laws.proofs.TimesLemmas.{rows_times, times}

-- fewer rows' items write a name no more often
fewer_rows : (n : Name) (q : Row → Bool) (rows : List Row) → times_written n
    (table_items (filter q rows)) ≤ times_written n (table_items rows)
fewer_rows n q [] = omega arith
fewer_rows n q (r ∷ rs) =
    let mine = items_of r.table r.items in
    let whole = weight_append (λ (i : Item). if writes n i then 1 else 0) mine (table_items rs) in
    elim (q r) as (λ b. times_written n (table_items
    (cond b (r ∷ filter q rs) (filter q rs))) ≤ times_written n
    (mine ++ table_items rs)) [
      | true ↦ omega (
        arith,
        weight_append (λ (i : Item). if writes n i then 1 else 0) mine (table_items (filter q rs)),
        whole,
        fewer_rows n q rs,
      )
      | false ↦ omega (arith, whole, fewer_rows n q rs)
    ]

module _ (k : Book) (st : State) (session : ℕ) (t : Transaction) (gained lost : List Name)
    (more : List Row) (sound : IsSound st) (agrees : Agrees k st) (notes : NotesAgree k st)
    (opened : transaction st session ≡ Some t)
    (none : first_conflict st t.snapshot (map unit_of (marks_of t.pending.removed)) ≡ None)
    (asks : AreNewRows k st t (k.items session) (marks_of t.pending.removed) gained lost more) where
  open_one : OpenStands k.contents k.rows st (k.items session) t
  open_one = agrees.stands.open_ones session t opened

  free : IsFree unit_of k.rows t
  free = free_if_no_conflict unit_of k.rows st session t agrees.numbers opened
      (no_row_conflicts k st t.snapshot t.pending.removed agrees none)

  keeps : KeepsTables (version_at st t.snapshot).tables (newest st).tables
  keeps = keeps_tables (version_at st t.snapshot).tables (newest st).tables (λ name schema.
      sound.tables t.snapshot (last st) name schema open_one.snapshot.1 (omega arith))

  abbrev IsMine : Row → Type 0
  IsMine r = IsNewRow k st t (k.items session) (marks_of t.pending.removed) r

  by_table : (table : List ℕ) → HasOne (k.items session) more table → HasRow (last st + 1) t.number
      (k.items session) t.pending.removed more table
  by_table table (inl nothing) = inl nothing
  by_table table (inr (r, is)) =
      let row = subst (λ (rs : List Row). AllByRecursion IsMine rs) is
      (all_filter IsMine (λ r. same_text r.table table) more asks.rows) in
      let named = subst (λ (rs : List Row). AllByRecursion (λ r. same_text r.table table ≡ true) rs)
      is (all_passed (λ r. same_text r.table table) more) in
      let name : r.table ≡ table = same_text_is r.table table named.0 in
      inr (
        r,
        is,
        row.0.seq,
        row.0.txn,
        name,
        row.0.items,
        row.0.marks ∙ marks_commute r.table t.pending.removed ∙ ap
            (λ (n : List ℕ). marks_of (removed_of n t.pending.removed)) name,
      )

  new : AreRowsOf (last st + 1) t.number (k.items session) t.pending.removed more
  new = record {
    seqs = all_weaker more (λ r is. is.seq) asks.rows;
    each = λ table. by_table table (asks.each table);
  }

  -- what the transaction writes no row's items wrote
  not_earlier : (name : Name) (table : List ℕ) → list_any (writes name) (k.items session) ≡ true →
      list_any (writes name) (items_of table (items_of_all k.rows)) ≡ false
  not_earlier name table mine = not_true (list_any (writes name)
      (items_of table (items_of_all k.rows))) (λ old. clash k.rows (both k.rows notes.own
      (notes.ended session t opened)) ((notes.open_items session t opened).own name mine).0
      (any_filter (writes name) (λ i. same_text (item_table i) table) (items_of_all k.rows) old))
    where
      both : (rows : List Row) → AllByRecursion (λ r.
          (n : Name) → list_any (writes n) r.items ≡ true → is_name_of r.txn n ≡ true) rows →
          AllByRecursion (λ r. nat_eq r.txn t.number ≡ false) rows → AllByRecursion (λ r.
          list_any (writes name) r.items ≡ true → is_name_of t.number name ≡ true → ⊥) rows
      both [] own off = tt
      both (r ∷ rs) own off = (
        (λ wrote mine. differ name.txn r.txn t.number (own.0 name wrote) mine off.0),
        both rs own.1 off.1,
      )
        where
          differ : (n a b : ℕ) → nat_eq n a ≡ true → nat_eq n b ≡ true → nat_eq a b ≡ false → ⊥
          differ n a b e f off = absurd (grind arith)

      clash : (rows : List Row) → AllByRecursion (λ r.
          list_any (writes name) r.items ≡ true → is_name_of t.number name ≡ true → ⊥) rows →
          is_name_of t.number name ≡ true → list_any (writes name) (items_of_all rows) ≡ true → ⊥
      clash [] all own is = absurd cc
      clash (r ∷ rs) all own is = ⊎_elim (λ here. all.0 here own)
          (λ rest. clash rs all.1 own rest)
          (any_parts (writes name) r.items (items_of_all rs) is)

  -- each name is borne or written once at most
  once_at : (version : ℕ) (table : List ℕ) (name : Name) → times name
      (files_at k.rows version table) + times_written name (items_of table (k.items session)) ≤ 1
  once_at version table name =
      let mine = k.items session in
      let borne = rows_times name (rows_to version (rows_of table k.rows)) [] tt in
      let fewer = fewer_rows name (λ r. nat_le r.seq version) (rows_of table k.rows) in
      let own = fewer_written name (λ i. same_text (item_table i) table) mine in
      elim (list_any (writes name) mine) as (λ b. list_any (writes name) mine ≡ b → times name
      (files_at k.rows version table) + times_written name (items_of table mine) ≤ 1) [
        | true ↦ λ e. omega (
          arith,
          not_borne version table name e,
          own,
          (notes.open_items session t opened).once name,
        )
        | false ↦ λ e. omega (
          arith,
          borne,
          fewer,
          notes.once table name,
          own,
          not_written name mine e,
        )
      ] refl
    where
      not_borne : (version : ℕ) (table : List ℕ) (name : Name) → list_any (writes name)
          (k.items session) ≡ true → times name (files_at k.rows version table) ≡ 0
      not_borne version table name e =
          gone_times name (files_at k.rows version table)
          (not_true (is_among name (names_in (files_at k.rows version table)))
          (λ is. let no : true ≡ false = sym (names_written k.rows version table name is) ∙
          not_earlier name table e in absurd cc))

  committed : (version : ℕ) (table : List ℕ) → st.floor ≤ version → version ≤ last st →
      AllByRecursion (λ f. nat_eq f.seq 0 ≡ false) (files_at k.rows version table)
  committed version table low high =
      all_weaker (files_at k.rows version table) (λ f both. not_zero f.seq both.0)
      ((agrees.stands.versions version low high).up_to table).of_files

  row_names : (r : Row) → IsMine r → GainsAndLoses (files_at k.rows (last st) r.table)
      (replay r.seq (items_of r.table r.items) (files_at k.rows (last st) r.table)) r
  row_names r is =
      let table = r.table in
      let mine = items_of table r.items in
      let old = files_at k.rows t.snapshot table in
      let now = files_at k.rows (last st) table in
      let same_items : items_of table (k.items session) ≡ mine = ap (items_of table) (sym is.items)
      in
      let same : named (is_touched mine) now ≡ named (is_touched mine) old = subst
      (λ (is : List Item). named (is_touched is) now ≡ named (is_touched is) old) same_items
      (kept unit_of unit_self k.contents k.rows more k.items st session t lost gained agrees.stands
      opened free keeps new table).0 in
      let once = λ (version : ℕ) (name : Name). subst
      (λ (is : List Item). times name (files_at k.rows version table) + times_written name is ≤ 1)
      same_items (once_at version table name) in
      let own_names = rows_own_names (rows_to t.snapshot (rows_of table k.rows)) [] tt in
      let names = names_of_commit r.seq mine now
      (committed (last st) table sound.floor (omega arith))
      in
      record {
        gains = λ name. is.names.gains name ∙ gained_alike mine old now name own_names same
            (once t.snapshot name) (once (last st) name) ∙ ap
            (λ (ns : List Name). is_among name ns && not (is_among name (names_in now)))
            (sym names);
        loses = λ name. is.names.loses name ∙ lost_alike mine old now name own_names same
            (once t.snapshot name) (once (last st) name) ∙ ap
            (λ (ns : List Name). is_among name (names_in now) && not (is_among name ns))
            (sym names);
      }

  pub last_rows : AllByRecursion
      (IsRowOf k st t.number (k.items session) (marks_of t.pending.removed)) more
  last_rows = all_weaker more (λ r is. record {
    seq = is.seq;
    txn = is.txn;
    items = is.items;
    manifest = is.manifest;
    marks = is.marks;
    names = row_names r is;
  }) asks.rows

pub rows_at_last : RowsAtLast
rows_at_last k entries session t gained lost more kept_book notes opened none asks =
    let sound = states_are_sound entries kept_book.legal in
    record {
      rows = last_rows k (state entries) session t gained lost more sound kept_book.agrees notes
          opened none asks;
      each = asks.each;
      added = asks.added;
      dropped = asks.dropped;
    }
