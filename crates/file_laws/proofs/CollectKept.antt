-- Checkpoints and collections keep a book right.
use Rattle.std.proofs.Common.{◌≡◌, ℕ, ◌≤◌, true, false, not, ◌&&◌, nat_eq, List, [], ◌∷◌, ◌++◌}
use Rattle.std.proofs.Common.{Option, None, Some, IsSomeAnd, ⊎_elim, map, drop, refl, sym, ap, ◌∙◌}
use Rattle.std.proofs.Common.{subst, arith}
use Rattle.std.proofs.lemmas.List.{append-nil}
use Rattle.std.specs.Prelude.{nat_le}
use Rattle.std.specs.List.{AllByRecursion, list_any}
use Rattle.lake_values.specs.declared.names.Name.{Name}
use Rattle.lake_model.specs.declared.entries.Fact.TheVariants.{Checkpointed, Collected}
use Rattle.lake_model.specs.Allowed.{MayCheckpoint, MayCollect, is_awaited, is_kept}
use Rattle.lake_values.specs.Names.{is_among, same_name}
use Rattle.lake_model.specs.State.{State, Transaction, ended, last, state, transaction, with_check}
use Rattle.lake_values.specs.Texts.{same_text}
use Rattle.sql_model.proofs.Lists.{all_append, all_both, all_filter, all_weaker}
use Rattle.manifest_block.specs.declared.items.Item.{Item}
use Rattle.manifest_block.specs.declared.items.Item.TheVariants.{Add, Remove, SetVector}
use Rattle.table_snapshot.specs.declared.files.FileRow.{FileRow}
use Rattle.file_laws.specs.Catalogues.{gives}
use Rattle.lake_model.specs.Laws.{IsSound}
use Rattle.file_laws.specs.Collector.{open_of}
use Rattle.file_laws.specs.Contents.{Contents}
use Rattle.table_snapshot.specs.Files.{item_table, items_of, replay}
use Rattle.file_laws.specs.Kept.{Agrees, Book, HasBlobs, IsOwnItem, shown, shown_row, writes}
use Rattle.file_laws.specs.KeptLaws.{AsksOfCheck, HasAllBut, KeptCheck, KeptCollected, SameAt}
use Rattle.file_laws.specs.KeptLaws.{with_checkpoint}
use Rattle.table_snapshot.specs.Files.{names_in, vector_names}
use Rattle.file_laws.specs.Stands.{Checkpoint, files_at}
use Rattle.file_laws.specs.Touching.{is_name_of}
use Rattle.file_laws.proofs.CommitKept.{opened_runs}
use Rattle.file_laws.proofs.EntryKept.{ended_agrees, kept_next, noted_agrees}
use Rattle.file_laws.proofs.EntryLaws.{stands_collected}
use Rattle.file_laws.proofs.KeptLemmas.{own_blobs, owns_over, stands_over}
use Rattle.file_laws.proofs.NameKept.{all_unflat, among_self, came_from, map_append}
use Rattle.file_laws.proofs.ReplayLemmas.{name_tells}
use Rattle.file_laws.proofs.RowLemmas.{checks_give_files}
use Rattle.file_laws.proofs.Some.{and_both, any_filter, any_known, any_weaker, or_left, or_right}
use Rattle.file_laws.proofs.Some.{some_from}
use Rattle.lake_model.proofs.Sound.{opened_all}
use Rattle.file_laws.proofs.TellKept.{any_mapped, files_have_names}

-- a checkpoint

check_agrees : (k : Book) (st : State) (session : ℕ) (c : Checkpoint) → Agrees k st → AsksOfCheck k
    st c → IsSomeAnd (transaction st session)
    (MayCheckpoint st c.check.table c.check.at c.check.name) → Agrees (with_checkpoint k c)
    (ended session (with_check c.check.table c.check.at c.check.name st))
check_agrees k st session c agrees asks may =
    let base = ended_agrees k (with_check c.check.table c.check.at c.check.name st) session
    (noted_agrees k st c.check.table c.check.at c.check.name agrees) in
    record {
      stands = base.stands;
      numbers = base.numbers;
      given = base.given;
      open_items = base.open_items;
      checks = all_append (λ c. c.files ≡ files_at k.rows c.check.at c.check.table) k.checks
          (c ∷ []) base.checks (
            asks.files ∙ checks_give_files k.rows k.checks agrees.stands.order
                agrees.checks c.check.at c.check.table,
            tt,
          );
      checked = all_append (λ c. c.check.at ≤ last st) k.checks (c ∷ []) base.checked
          (at_last (transaction st session) refl may, tt);
      marks = base.marks;
      struck = base.struck;
      names = record {
        once = base.names.once;
        turns = base.names.turns;
        own = base.names.own;
        one_table = base.names.one_table;
        versions = base.names.versions;
      };
      blobs = base.blobs;
    }
  where
    at_last : (o : Option Transaction) → transaction st session ≡ o → IsSomeAnd o
        (MayCheckpoint st c.check.table c.check.at c.check.name) → c.check.at ≤ last st
    at_last None is may = absurd may
    at_last (Some t) is may = let snapshot = (agrees.stands.open_ones session t is).snapshot in
        omega (arith, snapshot.1, may.1)

pub kept_check : KeptCheck
kept_check k entries e c kept next asks =
    kept_next k (with_checkpoint k c) entries e (Checkpointed c.check.table c.check.at c.check.name)
    [] kept next
    (map_append (λ (c : Checkpoint). c.check) k.checks (c ∷ []) ∙ ap (λ (n : ℕ). map
    (λ (c : Checkpoint). c.check) k.checks ++ record
    { table = c.check.table; at = c.check.at; begun = n; name = c.check.name } ∷ [])
    asks.begun) (sym (append-nil (map shown_row k.rows))) tt
    (λ sound may. check_agrees k (state entries) e.entry.session c kept.agrees asks may)

-- a collection

module _ (k : Book) (st : State) (names : List Name) (floor : ℕ) (c : Contents)
    (agrees : Agrees k st) (sound : IsSound st) (may : MayCollect st names floor)
    (less : HasAllBut names k.contents c) where
  -- what is kept isn't given up
  spared : (n : Name) → is_kept st floor n ≡ true → is_among n names ≡ false
  spared n kept = elim (is_among n names) as (λ b. is_among n names ≡ b → b ≡ false) [
    | true ↦ λ e. let no : true ≡ false = sym (any_weaker (same_name n) (is_kept st floor) names
        (λ m same. subst (λ (m : Name). is_kept st floor m ≡ true) (name_tells n m same) kept) e)
        ∙ may.4 in absurd cc
    | false ↦ λ e. refl
  ] refl

  -- the names of a version from the new floor on
  of_version : (version : ℕ) (table : List ℕ) (n : Name) → floor ≤ version → version ≤ last st →
      is_among n (names_in (files_at k.rows version table)) ≡ true → is_among n names ≡ false
  of_version version table n low high is =
      let by_table = sym (files_have_names k st version table n agrees) ∙ is in
      let has = any_weaker (λ r. same_text r.table table && gives (shown k st) version n r)
      (gives (shown k st) version n) (map shown_row k.rows)
      (λ r e. (and_both (same_text r.table table) (gives (shown k st) version n r) e).1)
      by_table in
      let among = sym (agrees.names.versions version n (omega (arith, low, may.0)) high) ∙ has in
      spared n (or_left (list_any (is_among n) (drop floor st.names)) (is_awaited st n.txn)
      (some_from (is_among n) [] st.names floor version refl low among))

  -- the names of an open transaction
  of_open : (session : ℕ) (t : Transaction) (n : Name) → transaction st session ≡ Some t →
      is_name_of t.number n ≡ true → is_among n names ≡ false
  of_open session t n opened own =
      let runs : list_any (λ o. nat_eq o.1.number n.txn) st.running ≡ true =
      sym (any_mapped (λ o. nat_eq o.number n.txn) open_of st.running) ∙ ap
      (λ (m : ℕ). list_any (λ o. nat_eq o.number m) (map open_of st.running))
      (same n.txn t.number own) ∙ opened_runs session st.running t opened in
      spared n (or_right (list_any (is_among n) (drop floor st.names)) (is_awaited st n.txn)
      (or_right (not (nat_le n.txn st.last_number))
      (list_any (λ o. nat_eq o.1.number n.txn) st.running) runs))
    where
      same : (a b : ℕ) → nat_eq a b ≡ true → a ≡ b
      same a b e = grind arith

  still : (files : List FileRow) → HasBlobs k.contents files →
      ((n : Name) → is_among n (names_in files) ≡ true → is_among n names ≡ false) → AllByRecursion
      (λ f. AllByRecursion (λ n. (c.has n ≡ true) × SameAt k.contents c n)
      (f.file ∷ vector_names f.vector)) files
  still files has free =
      let frees = all_unflat (λ n. is_among n names ≡ false) (λ f. f.file ∷ vector_names f.vector)
      files (all_weaker (names_in files) free (among_self (names_in files))) in
      all_both files (λ f here free. all_both (f.file ∷ vector_names f.vector)
      (λ n here free. less n here free) here free) has frees

  own_written : (session : ℕ) (t : Transaction) (n : Name) (table : List ℕ) → transaction st session
      ≡ Some t → list_any (writes n) (items_of table (k.items session)) ≡ true → is_name_of t.number
      n ≡ true
  own_written session t n table opened is =
      any_known (IsOwnItem k.contents t.number t.parts) (writes n) (is_name_of t.number n ≡ true)
      (k.items session) (agrees.open_items session t opened).items by
      (any_filter (writes n) (λ i. same_text (item_table i) table) (k.items session) is)
    where
      by : (i : Item) → IsOwnItem k.contents t.number t.parts i → writes n i ≡ true → is_name_of
          t.number n ≡ true
      by (Add table cell p file rows) is e = ap (is_name_of t.number) (name_tells n file e) ∙
          is.0.own
      by (Remove table file) is e = absurd cc
      by (SetVector table file vector removed) is e = ap (is_name_of t.number)
          (name_tells n vector e) ∙ is.own

  above : (session : ℕ) (t : Transaction) → transaction st session ≡ Some t → floor ≤ t.snapshot
  above session t is = opened_all (λ t. floor ≤ t.snapshot) session st.running t may.2 is

  pub collect_agrees : Agrees (record k { contents = c }) (record st { floor = floor })
  collect_agrees = record {
    stands = stands_over k.contents c k.rows k.items (record st { floor = floor })
        (stands_collected k.contents k.rows k.items st floor agrees.stands may.0 above)
        (λ n table low high. all_weaker (files_at k.rows n table)
        (λ f is. all_weaker (f.file ∷ vector_names f.vector) (λ m both. both.1) is) (still
        (files_at k.rows n table) (agrees.blobs n table (omega (arith, low, may.0)) high)
        (λ m is. of_version n table m low high is)))
        (λ session t table is.
        let snapshot = (agrees.stands.open_ones session t is).snapshot in
        let base = files_at k.rows t.snapshot table in
        let seen = replay 0 (items_of table (k.items session)) base in
        let has = own_blobs k.contents t.number t.parts 0 (items_of table (k.items session))
        (all_filter (IsOwnItem k.contents t.number t.parts)
        (λ i. same_text (item_table i) table) (k.items session)
        (agrees.open_items session t is).items) base
        (agrees.blobs t.snapshot table snapshot.0 snapshot.1) in
        all_weaker seen (λ f is. all_weaker (f.file ∷ vector_names f.vector) (λ m both. both.1) is)
        (still seen has (λ m among. ⊎_elim
        (λ old. of_version t.snapshot table m (above session t is) snapshot.1 old)
        (λ new. of_open session t m is (own_written session t m table is new))
        (came_from 0 (items_of table (k.items session)) base m among))));
    numbers = record {
      apart = agrees.numbers.apart;
      open_ones = agrees.numbers.open_ones;
      own_adds
          = agrees.numbers.own_adds;
    };
    given = agrees.given;
    open_items = λ session t is. owns_over k.contents c (k.items session) t
        (λ n own held. (less n held (of_open session t n is own)).0)
        (agrees.open_items session t is);
    checks = agrees.checks;
    checked = agrees.checked;
    marks = agrees.marks;
    struck = agrees.struck;
    names = record {
      once = agrees.names.once;
      turns = agrees.names.turns;
      own = agrees.names.own;
      one_table = agrees.names.one_table;
      versions = λ version name low high.
          agrees.names.versions version name (omega (arith, low, may.0)) high;
    };
    blobs = λ version table low high. all_weaker (files_at k.rows version table)
        (λ f is. all_weaker (f.file ∷ vector_names f.vector) (λ m both. both.0) is) (still
        (files_at k.rows version table)
        (agrees.blobs version table (omega (arith, low, may.0)) high)
        (λ m is. of_version version table m low high is));
  }

pub kept_collected : KeptCollected
kept_collected k entries e names floor c kept next less =
    kept_next k (record k { contents = c }) entries e (Collected names floor) [] kept next
    (sym (append-nil (map (λ (c : Checkpoint). c.check) k.checks)))
    (sym (append-nil (map shown_row k.rows))) tt
    (λ sound may. collect_agrees k (state entries) names floor c kept.agrees sound may.1 less)
