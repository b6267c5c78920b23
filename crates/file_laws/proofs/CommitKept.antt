-- A commit keeps a book right.
use Rattle.std.proofs.Common.{◌≡◌, ℕ, zero, suc, ◌+◌, ◌-◌, ◌<◌, ◌≤◌, Bool, true, false, not, ◌&&◌}
use Rattle.std.proofs.Common.{◌||◌, nat_eq, cond, List, [], ◌∷◌, ◌++◌, Option, None, Some, IfSome}
use Rattle.std.proofs.Common.{IsSomeAnd, inl, inr, map, refl, sym, ap, ◌∙◌, subst, arith}
use Rattle.std.proofs.Common.{if◌then◌else◌}
use Rattle.std.specs.Prelude.{find, nat_lt}
use Rattle.std.specs.Option.{option_map_or}
use Rattle.std.specs.List.{AllByRecursion, list_any}
use Rattle.std.proofs.lemmas.Bool.{eqb-true, ltb-true}
use Rattle.std.proofs.lemmas.List.{append-nil}
use Rattle.lake_values.specs.declared.names.Name.{Name}
use Rattle.lake_model.specs.declared.entries.Fact.TheVariants.{Committed}
use Rattle.sql_model.specs.declared.changes.Mark.{Mark}
use Rattle.sql_model.specs.declared.changes.MarkedRow.{MarkedRow}
use Rattle.lake_model.specs.Allowed.{MayCommit}
use Rattle.sql_model.specs.Changes.{is_own, marked_cmp, version_after, without}
use Rattle.sql_model.specs.Units.{marks_of, ConflictUnit, whole_table, same_unit, share_unit}
use Rattle.lake_model.specs.Conflicts.{first_conflict, wrote_one}
use Rattle.sql_model.specs.Listing.{numbers, weight}
use Rattle.lake_model.specs.State.{State, Transaction, after_commit, ended, last, newest, opened_by}
use Rattle.lake_model.specs.State.{state, transaction, version_at, with_version}
use Rattle.sql_model.specs.Versions.{Version, marked_rows_of}
use Rattle.lake_values.specs.Texts.{same_text}
use Rattle.sql_model.proofs.Lists.{all_both, all_filter, all_parts, all_weaker}
use Rattle.lake_values.proofs.SameTexts.{same_text_is, same_text_self}
use Rattle.manifest_block.specs.declared.items.Item.{Item}
use Rattle.manifest_block.specs.declared.items.Item.TheVariants.{Add, Remove, SetVector}
use Rattle.table_snapshot.specs.declared.files.FileRow.{FileRow}
use Rattle.file_laws.specs.Catalogues.{is_running}
use Rattle.file_laws.specs.Collector.{open_of}
use Rattle.lake_model.specs.Laws.{IsSound}
use Rattle.table_snapshot.specs.Files.{item_table, items_of, replay}
use Rattle.file_laws.specs.Kept.{Agrees, Book, HasBlobs, IsOwnItem, OwnsItems, TellsMarks}
use Rattle.file_laws.specs.Kept.{has_row_at, marks_of_table, shown, shown_row, unit_of, writes}
use Rattle.file_laws.specs.KeptLaws.{AreRows, AsksOfCommit, HasOne, IsRowOf, KeptCommit, with_rows}
use Rattle.file_laws.specs.Stands.{AreRowsOf, HasRow, added_of, KeepsTables, OpenStands, Stands}
use Rattle.file_laws.specs.Stands.{files_at, removed_of, rows_of, Checkpoint}
use Rattle.file_laws.specs.StandsLaws.{HaveOwnNumbers, IsFree, conflicts}
use Rattle.file_laws.specs.Touching.{Row, is_marked, is_name_of}
use Rattle.sql_model.proofs.Bags.{weight_append}
use Rattle.file_laws.specs.Contents.{rows_in}
use Rattle.file_laws.proofs.ChangeLemmas.{marked_of}
use Rattle.file_laws.proofs.CommitLaw.{committed_rows, not_zero, weight_nothing}
use Rattle.file_laws.proofs.TellKept.{any_filtered}
use Rattle.file_laws.proofs.Weights.{weight_without}
use Rattle.file_laws.proofs.CloseLemmas.{numbers_committed}
use Rattle.file_laws.proofs.EntryKept.{kept_next}
use Rattle.file_laws.proofs.FreeLaw.{free_if_no_conflict}
use Rattle.file_laws.proofs.KeptLemmas.{ended_was, grow, items_add_own, own_blobs, row_units}
use Rattle.file_laws.proofs.NameKept.{map_append, names_after_commit}
use Rattle.file_laws.proofs.ReplayLemmas.{name_tells}
use Rattle.file_laws.proofs.Some.{any_known, or_left, or_right}
use Rattle.lake_model.proofs.Sound.{opened_all}
use Rattle.file_laws.proofs.SoundLemmas.{keeps_tables, one_session}
use Rattle.file_laws.proofs.StandLemmas.{all_bag, all_passed}
use Rattle.file_laws.proofs.StandsLaw.{new_files, stands_committed}
use Rattle.file_laws.proofs.TouchLaw.{none_with}

-- no commit after a snapshot is found

pub none_found : (p : ℕ → Bool) (from count : ℕ) → find p (numbers from count) ≡ None → (n : ℕ) →
    from ≤ n → n < from + count → p n ≡ false
none_found p from zero e n low high = absurd (omega (arith, low, high))
none_found p from (suc count) e n low high =
    elim (p from) as (λ b. p from ≡ b → cond b (Some from) (find p (numbers (from + 1) count)) ≡
    None → p n ≡ false) [
      | true ↦ λ h e. absurd cc
      | false ↦ λ h e. elim (nat_eq from n) as (λ b. nat_eq from n ≡ b → p n ≡ false) [
        | true ↦ λ g. ap p (sym (eqb-true from n g)) ∙ h
        | false ↦ λ g. none_found p (from + 1) count e n (above from n low g) (omega (arith, high))
      ] refl
    ] refl e
  where
    above : (a b : ℕ) → a ≤ b → nat_eq a b ≡ false → a + 1 ≤ b
    above a b le off = grind arith

pub unit_self : (u : ConflictUnit) → same_unit u u ≡ true
unit_self (whole_table t) = same_text_self t

pub marks_commute : (table : List ℕ) (removed : List MarkedRow) → marks_of_table table
    (marks_of removed) ≡ marks_of (removed_of table removed)
marks_commute table [] = refl
marks_commute table (m ∷ ms) = elim (same_text m.mark.table table) as (λ b. cond b
    (m.mark ∷ marks_of_table table (marks_of ms)) (marks_of_table table (marks_of ms)) ≡ marks_of
    (cond b (m ∷ removed_of table ms) (removed_of table ms))) [
      | true ↦ ap (λ (ns : List Mark). m.mark ∷ ns) (marks_commute table ms)
      | false ↦ marks_commute table ms
    ]

-- no row of the catalogue conflicts where no version does
pub no_row_conflicts : (k : Book) (st : State) (snapshot : ℕ) (removed : List MarkedRow) → Agrees k
    st → first_conflict st snapshot (map unit_of (marks_of removed)) ≡ None → list_any
    (conflicts unit_of snapshot (marks_of removed)) k.rows ≡ false
no_row_conflicts k st snapshot removed agrees none =
    none_with (conflicts unit_of snapshot (marks_of removed)) k.rows
    (all_both k.rows (λ r tells le. one r tells le) agrees.marks agrees.stands.within)
  where
    one : (r : Row) → TellsMarks st r → r.seq ≤ last st → conflicts unit_of snapshot
        (marks_of removed) r ≡ false
    one r tells le = elim (nat_lt snapshot r.seq) as (λ b. nat_lt snapshot r.seq ≡ b →
        (b && share_unit (map unit_of (marks_of removed)) (map unit_of r.marks)) ≡ false) [
          | true ↦ λ h.
              let less = ltb-true snapshot r.seq h in
              let free = none_found (wrote_one st (map unit_of (marks_of removed))) (snapshot + 1)
              (last st - snapshot) none r.seq (omega (arith, less)) (omega (arith, less, le)) in
              row_units st r (map unit_of (marks_of removed)) tells free
          | false ↦ λ h. refl
        ] refl

-- the manifests of a transaction's rows are of one that is open
pub opened_runs : (session : ℕ) (os : List (ℕ × Transaction)) (t : Transaction) → opened_by session
    os ≡ Some t → list_any (λ o. nat_eq o.number t.number) (map open_of os) ≡ true
opened_runs session [] t is = absurd cc
opened_runs session (o ∷ os) t is =
    elim (nat_eq o.0 session) as (λ b. (if b then Some o.1 else opened_by session os) ≡ Some t →
    list_any (λ o. nat_eq o.number t.number) (map open_of (o ∷ os)) ≡ true) [
      | true ↦ λ same. let first : o.1 ≡ t = cc in or_left (nat_eq o.1.number t.number)
          (list_any (λ o. nat_eq o.number t.number) (map open_of os))
          (ap (λ (u : Transaction). nat_eq u.number t.number) first ∙ self t.number)
      | false ↦ λ same. or_right (nat_eq o.1.number t.number)
          (list_any (λ o. nat_eq o.number t.number) (map open_of os))
          (opened_runs session os t same)
    ] is
  where
    self : (n : ℕ) → nat_eq n n ≡ true
    self n = grind arith

pub manifests_run : (k : Book) (st : State) (session : ℕ) (t : Transaction) (struck : List Mark)
    (mine : List Item) (gained lost : List Name) (more : List Row) → transaction st session ≡ Some t
    → AreRows k st t.number mine struck gained lost more
    → AllByRecursion (λ r. IfSome r.manifest (λ m. is_running (shown k st) m.txn ≡ true)) more
manifests_run k st session t struck mine gained lost more opened asks =
    all_weaker more (λ r is. by r.manifest is.manifest) asks.rows
  where
    by : (o : Option Name) → IfSome o (λ m. m.txn ≡ t.number) → IfSome o
        (λ m. is_running (shown k st) m.txn ≡ true)
    by None is = tt
    by (Some m) is = ap (λ (n : ℕ). list_any (λ o. nat_eq o.number n) (map open_of st.running)) is ∙
        opened_runs session st.running t opened

committed_one : MarkedRow → ℕ
committed_one m = if is_own m then 0 else 1

none_weigh : (ms : List MarkedRow) → AllByRecursion (λ m. not (is_own m) ≡ true) ms → weight
    committed_one ms ≡ 0 → ms ≡ []
unfolding committed_one
none_weigh [] all e = refl
none_weigh (m ∷ ms) all e = absurd (one (is_own m) all.0 e)
  where
    one : (b : Bool) → not b ≡ true → (if b then 0 else 1) + weight committed_one ms ≡ 0 → ⊥
    one true h e = absurd cc
    one false h e = absurd (omega (arith, e))

-- the row of a table
pub row_told : (more : List Row) (n : ℕ) (table : List ℕ) (r : Row) → AllByRecursion
    (λ r. r.seq ≡ n) more → rows_of table more ≡ r ∷ [] → has_row_at more n table ≡ true
row_told more n table r seqs is =
    let at = subst (λ (rs : List Row). AllByRecursion (λ r. r.seq ≡ n) rs) is
    (all_filter (λ r. r.seq ≡ n) (λ r. same_text r.table table) more seqs) in
    sym (any_filtered (λ r. nat_eq r.seq n) (λ r. same_text r.table table) more) ∙ ap
    (list_any (λ r. nat_eq r.seq n)) is ∙ ap (λ (b : Bool). b || false) (same r.seq n at.0)
  where
    same : (a b : ℕ) → a ≡ b → nat_eq a b ≡ true
    same a b e = grind arith

module _ (k : Book) (st : State) (session : ℕ) (t : Transaction) (seq : ℕ)
    (added dropped : List Name) (more : List Row) (sound : IsSound st) (agrees : Agrees k st)
    (may : MayCommit true st seq added dropped t)
    (asks : AsksOfCommit k st session t added dropped more) where
  open_one : OpenStands k.contents k.rows st (k.items session) t
  open_one = agrees.stands.open_ones session t asks.opened

  owns : OwnsItems k.contents (k.items session) t
  owns = agrees.open_items session t asks.opened

  free : IsFree unit_of k.rows t
  free = free_if_no_conflict unit_of k.rows st session t agrees.numbers asks.opened
      (no_row_conflicts k st t.snapshot t.pending.removed agrees may.free)

  keeps : KeepsTables (version_at st t.snapshot).tables (newest st).tables
  keeps = keeps_tables (version_at st t.snapshot).tables (newest st).tables (λ name schema.
      sound.tables t.snapshot (last st) name schema open_one.snapshot.1 (omega arith))

  abbrev Mine : Row → Type 0
  Mine r = IsRowOf k st t.number (k.items session) (marks_of t.pending.removed) r

  by_table : (table : List ℕ) → HasOne (k.items session) more table → HasRow (last st + 1) t.number
      (k.items session) t.pending.removed more table
  by_table table (inl none) = inl none
  by_table table (inr (r, is)) =
      let row = subst (λ (rs : List Row). AllByRecursion Mine rs) is
      (all_filter Mine (λ r. same_text r.table table) more asks.rows.rows) in
      let named = subst (λ (rs : List Row). AllByRecursion (λ r. same_text r.table table ≡ true) rs)
      is (all_passed (λ r. same_text r.table table) more) in
      let name : r.table ≡ table = same_text_is r.table table named.0 in
      inr (
        r,
        is,
        row.0.seq,
        row.0.txn,
        name,
        row.0.items,
        row.0.marks ∙ marks_commute r.table
            t.pending.removed ∙ ap (λ (n : List ℕ). marks_of (removed_of n t.pending.removed)) name,
      )

  new : AreRowsOf (last st + 1) t.number (k.items session) t.pending.removed more
  new = record {
    seqs = all_weaker more (λ r is. is.seq) asks.rows.rows;
    each = λ table. by_table
        table (asks.rows.each table);
  }

  own : (n : Name) → list_any (writes n) (k.items session) ≡ true → is_name_of t.number n ≡ true
  own n is = any_known (IsOwnItem k.contents t.number t.parts) (writes n)
      (is_name_of t.number n ≡ true) (k.items session) owns.items by is
    where
      by : (i : Item) → IsOwnItem k.contents t.number t.parts i → writes n i ≡ true → is_name_of
          t.number n ≡ true
      by (Add table cell p file rows) is e = ap (is_name_of t.number) (name_tells n file e) ∙
          is.0.own
      by (Remove table file) is e = absurd cc
      by (SetVector table file vector removed) is e = ap (is_name_of t.number)
          (name_tells n vector e) ∙ is.own

  -- what a transaction removes of a table one of its items says
  nothing_removed : (table : List ℕ) → items_of table (k.items session) ≡ [] → removed_of table
      t.pending.removed ≡ []
  unfolding committed_one
  nothing_removed table none =
      let tables = (version_at st t.snapshot).tables in
      let rows = marked_rows_of table tables in
      let removed = removed_of table t.pending.removed in
      let added = added_of table tables 0 t.pending.added in
      let files = files_at k.rows t.snapshot table in
      let snap = agrees.stands.versions t.snapshot open_one.snapshot.0 open_one.snapshot.1 in
      let seen = open_one.each table in
      let seen_same : weight committed_one (rows_in k.contents table files) ≡ weight committed_one
      (without marked_cmp rows removed ++ added) = ap
      (λ (is : List Item). weight committed_one (rows_in k.contents table (replay 0 is files)))
      (sym none) ∙ seen.stands.same committed_one in
      let own_added : weight committed_one added ≡ 0 = weight_nothing committed_one added
      (all_weaker added (λ m e. ap (λ (b : Bool). if b then 0 else 1) e) seen.own_rows) in
      let rows_kept = committed_rows k.contents table files rows
      (all_weaker files (λ f both. not_zero f.seq both.0) (snap.up_to table).of_files)
      (snap.each table).same in
      let all = all_bag (λ m. not (is_own m)) (removed ++ seen.part.0) rows seen.part.1
      (all_weaker rows (λ m e. ap not e) rows_kept) in
      none_weigh removed (all_parts (λ m. not (is_own m) ≡ true) removed seen.part.0 all).0
      (omega (
        arith,
        seen_same,
        own_added,
        (snap.each table).same committed_one,
        weight_append
            committed_one (without marked_cmp rows removed) added,
        weight_without removed rows
            seen.part committed_one,
      ))

  struck_told : (m : Mark) → is_marked (marks_of t.pending.removed) m ≡ true → has_row_at more
      (last st + 1) m.table ≡ true
  struck_told m is = by (asks.rows.each m.table)
    where
      by : HasOne (k.items session) more m.table → has_row_at more (last st + 1) m.table ≡ true
      by (inl none) = let no : false ≡ true = ap
          (λ (rs : List MarkedRow). is_marked (marks_of rs) m)
          (sym (nothing_removed m.table none.1)) ∙ marked_of m.table m refl t.pending.removed ∙ is
          in absurd cc
      by (inr (r, one)) = row_told more (last st + 1) m.table r new.seqs one

  numbered : t.number ≤ st.last_number
  numbered = opened_all (λ u. u.number ≤ st.last_number) session st.running t sound.given
      asks.opened

  own_numbers : HaveOwnNumbers st
  own_numbers one other u v is is' same = one_session one other st.running u v sound.numbers is is'
      same

  v : Version
  v = version_after (last st + 1) t.pending t.worn (newest st)

  pub commit_agrees : Agrees (with_rows k more) (after_commit session dropped added st)
  commit_agrees =
      let st' = ended session
      (with_version (version_after (last st + 1) t.pending t.worn (newest st)) dropped added st)
      in
      let now : after_commit session dropped added st ≡ st' = ap (λ (o : Option Transaction).
      option_map_or (λ t. ended session (with_version
      (version_after (last st + 1) t.pending t.worn (newest st)) dropped added st)) o st)
      asks.opened in
      let stands : Stands k.contents (k.rows ++ more) k.items st' = subst
      (λ (st' : State). Stands k.contents (k.rows ++ more) k.items st') now (stands_committed
      unit_of unit_self k.contents k.rows more k.items st session t dropped added
      agrees.stands asks.opened free keeps new) in
      let numbers = numbers_committed k.rows more (k.items session) st session t agrees.numbers
      asks.opened own_numbers
      (items_add_own k.contents t.number t.parts (k.items session) owns.items)
      (all_weaker more (λ r is. (is.seq, is.txn, is.items)) asks.rows.rows) in
      let names = names_after_commit k st t.number (k.items session) (marks_of t.pending.removed)
      added dropped more (version_after (last st + 1) t.pending t.worn (newest st)) sound agrees
      own owns.one_table (agrees.numbers.open_ones session t asks.opened) asks.rows in
      subst (λ (st' : State). Agrees (with_rows k more) st') (sym now)
      (grow k more st st' (version_after (last st + 1) t.pending t.worn (newest st)) agrees stands
      (record
      { apart = numbers.apart; open_ones = numbers.open_ones; own_adds = numbers.own_adds })
      refl refl refl
      new.seqs (all_weaker more (λ r is. omega (arith, is.txn, numbered)) asks.rows.rows)
      (all_weaker more (λ r is. is.marks) asks.rows.rows)
      struck_told
      (record {
        once = names.once;
        turns = names.turns;
        own = names.own;
        one_table =
            names.one_table;
        versions = names.versions;
      })
      (λ other u is. ended_was session other st u is)
      (λ table. subst (λ (fs : List FileRow). HasBlobs k.contents fs) (sym (new_files unit_of
      unit_self k.contents k.rows more k.items st session t dropped added agrees.stands
      asks.opened free keeps new table))
      (own_blobs k.contents t.number t.parts (last st + 1) (items_of table (k.items session))
      (all_filter (IsOwnItem k.contents t.number t.parts) (λ i. same_text (item_table i) table)
      (k.items session) owns.items) (files_at k.rows (last st) table)
      (agrees.blobs (last st) table sound.floor (omega arith)))))

pub kept_commit : KeptCommit
kept_commit k entries e t seq added dropped more kept next asks =
    kept_next k (with_rows k more) entries e (Committed seq added dropped) more kept next
    (sym (append-nil (map (λ (c : Checkpoint). c.check) k.checks)))
    (map_append shown_row k.rows more) (manifests_run k (state entries) e.entry.session t
    (marks_of t.pending.removed) (k.items e.entry.session) added dropped more asks.opened
    asks.rows)
    (λ sound may. commit_agrees k (state entries) e.entry.session t seq added dropped more sound
    kept.agrees (subst (λ (o : Option Transaction). IsSomeAnd o
    (MayCommit true (state entries) seq added dropped)) asks.opened may) asks)
