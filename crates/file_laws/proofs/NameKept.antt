-- The names of a book after a commit.
use Rattle.std.proofs.Common.{◌≡◌, ℕ, ◌+◌, ◌<◌, ◌≤◌, Bool, true, false, not, ◌&&◌, ◌||◌, nat_eq}
use Rattle.std.proofs.Common.{cond, List, [], ◌∷◌, ◌++◌, None, Some, inl, inr, ◌⊎◌, ⊎_elim, map}
use Rattle.std.proofs.Common.{flat_map, refl, sym, ap, ◌∙◌, subst, arith, length-append}
use Rattle.std.proofs.lemmas.Bool.{le-leb}
use Rattle.std.proofs.lemmas.List.Elements.{filter-append}
use Rattle.std.specs.Prelude.{find, nat_le}
use Rattle.std.specs.Option.{option_map_or}
use Rattle.std.specs.List.{AllByRecursion, list_any}
use Rattle.lake_values.specs.declared.names.Name.{Name}
use Rattle.sql_model.specs.declared.changes.Mark.{Mark}
use Rattle.lake_values.specs.Names.{is_among, same_name}
use Rattle.lake_model.specs.State.{State, last, with_version}
use Rattle.sql_model.specs.Versions.{Version}
use Rattle.lake_values.specs.Texts.{same_text}
use Rattle.sql_model.proofs.Lists.{all_append, all_both, all_filter, all_parts, all_weaker}
use Rattle.sql_model.proofs.Removal.{filter_all}
use Rattle.lake_values.proofs.SameTexts.{same_text_is, same_text_self}
use Rattle.manifest_block.specs.declared.items.Item.{Item}
use Rattle.manifest_block.specs.declared.items.Item.TheVariants.{Add, Remove, SetVector}
use Rattle.table_snapshot.specs.declared.files.FileRow.{FileRow}
use Rattle.write_set_catalog.specs.Names.{NamesRow}
use Rattle.file_laws.specs.Catalogues.{has_name}
use Rattle.lake_model.specs.Laws.{IsSound}
use Rattle.file_laws.specs.Commits.{IsOwnedCommit}
use Rattle.table_snapshot.specs.Files.{item_table, items_of, replay}
use Rattle.file_laws.specs.Kept.{Agrees, AreLater, Book, HaveOneTable, NamesAgree, adds, shown}
use Rattle.file_laws.specs.Kept.{shown_row, writes}
use Rattle.file_laws.specs.KeptLaws.{AreRows, HasOne, IsRowOf}
use Rattle.file_laws.specs.NameLaws as names
use Rattle.table_snapshot.specs.Files.{names_in, vector_names}
use Rattle.file_laws.specs.NameLaws.{GainsAndLoses, NamesInTurn}
use Rattle.file_laws.specs.Stands.{files_at, rows_of, rows_to}
use Rattle.file_laws.specs.Touching.{Row, is_name_of, replay_rows}
use Rattle.file_laws.proofs.CommitLemmas.{commits_stand, owned_commits}
use Rattle.file_laws.proofs.KeptLemmas.{Makes, replay_keeps}
use Rattle.file_laws.proofs.NameLaw.{names_are_by_rows}
use Rattle.file_laws.proofs.ReplayLemmas.{name_self, name_tells}
use Rattle.file_laws.proofs.Some.{and_both, any_filter, any_front, any_known, any_parts, or_either}
use Rattle.file_laws.proofs.Some.{or_left, or_right}
use Rattle.file_laws.proofs.StandLemmas.{all_flat, all_map, all_passed}

-- lists

pub all_unflat : {X Y : Type 0} (P : Y → Type 0) (f : X → List Y) (xs : List X) → AllByRecursion P
    (flat_map f xs) → AllByRecursion (λ x. AllByRecursion P (f x)) xs
all_unflat P f [] all = tt
all_unflat P f (x ∷ xs) all =
    let both = all_parts P (f x) (flat_map f xs) all in (both.0, all_unflat P f xs both.1)

pub any_map : {X Y : Type 0} (p : Y → Bool) (f : X → Y) (xs : List X) → list_any p (map f xs) ≡
    list_any (λ x. p (f x)) xs
any_map p f [] = refl
any_map p f (x ∷ xs) = ap (λ (b : Bool). p (f x) || b) (any_map p f xs)

pub map_append : {X Y : Type 0} (f : X → Y) (xs ys : List X) → map f (xs ++ ys) ≡ map f xs ++ map f
    ys
map_append f [] ys = refl
map_append {X} {Y} f (x ∷ xs) ys = ap (λ (zs : List Y). f x ∷ zs) (map_append f xs ys)

none_any : {X : Type 0} (p : X → Bool) (xs : List X) → find p xs ≡ None → list_any p xs ≡ false
none_any p [] e = refl
none_any p (x ∷ xs) e =
    elim (p x) as (λ b. cond b (Some x) (find p xs) ≡ None → (b || list_any p xs) ≡ false)
    [ true ↦ λ e. absurd cc | false ↦ λ e. none_any p xs e ] e

pub among_self : (ns : List Name) → AllByRecursion (λ n. is_among n ns ≡ true) ns
among_self [] = tt
among_self (n ∷ ns) = (
  or_left (same_name n n) (is_among n ns) (name_self n),
  all_weaker ns
      (λ m h. or_right (same_name m n) (is_among m ns) h) (among_self ns),
)

-- where names come from

written_self : (is : List Item) → AllByRecursion
    (λ i. (n : Name) → writes n i ≡ true → list_any (writes n) is ≡ true) is
written_self [] = tt
written_self (i ∷ is) = (
  (λ n e. or_left (writes n i) (list_any (writes n) is) e),
  all_weaker is
      (λ j h n e. or_right (writes n i) (list_any (writes n) is) (h n e)) (written_self is),
)

abbrev IsFrom : List FileRow → List Item → Name → Type 0
IsFrom files items m = (is_among m (names_in files) ≡ true) ⊎ (list_any (writes m) items ≡ true)

abbrev AreFrom : List FileRow → List Item → FileRow → Type 0
AreFrom files items f = AllByRecursion (IsFrom files items) (f.file ∷ vector_names f.vector)

-- what the files have after items they had before, or an item writes it
pub came_from : (seq : ℕ) (items : List Item) (files : List FileRow) (n : Name) → is_among n
    (names_in (replay seq items files)) ≡ true → (is_among n (names_in files) ≡ true) ⊎
    (list_any (writes n) items ≡ true)
came_from seq items files n is =
    any_known (IsFrom files items) (same_name n) (IsFrom files items n)
    (names_in (replay seq items files)) (all_flat (IsFrom files items)
    (λ f. f.file ∷ vector_names f.vector) (replay seq items files) all)
    (λ m q e. subst (IsFrom files items) (sym (name_tells n m e)) q) is
  where
    makes : (i : Item) → ((n : Name) → writes n i ≡ true → list_any (writes n) items ≡ true) → Makes
        (AreFrom files items) seq i
    makes (Add table cell part file rows) own = (inr (own file (name_self file)), tt)
    makes (Remove table file) own = tt
    makes (SetVector table file vector removed) own = λ f was.
        (was.0, (inr (own vector (name_self vector)), tt))

    all : AllByRecursion (AreFrom files items) (replay seq items files)
    all = replay_keeps (AreFrom files items) seq items (all_weaker items makes (written_self items))
        files (all_unflat (IsFrom files items) (λ f. f.file ∷ vector_names f.vector) files
        (all_weaker (names_in files) (λ m h. inl h) (among_self (names_in files))))

pub has_added : (n : Name) (rs : List Row) → names.has_name n rs ≡ true → list_any (adds n) rs ≡
    true
has_added n [] e = absurd cc
has_added n (r ∷ rs) e =
    ⊎_elim (λ rest. or_right (adds n r) (list_any (adds n) rs) (has_added n rs rest)) (λ here.
    or_left (adds n r) (list_any (adds n) rs)
    (and_both (adds n r) (not (names.drops n rs)) here).0)
    (or_either (names.has_name n rs) (adds n r && not (names.drops n rs)) e)

adds_self : (rs : List Row) → AllByRecursion
    (λ r. (n : Name) → adds n r ≡ true → list_any (adds n) (rows_of r.table rs) ≡ true) rs
adds_self [] = tt
adds_self (r ∷ rs) = (
  (λ n e. ap (λ (b : Bool). list_any (adds n)
      (cond b (r ∷ rows_of r.table rs) (rows_of r.table rs))) (same_text_self r.table) ∙
      or_left (adds n r) (list_any (adds n) (rows_of r.table rs)) e),
  all_weaker rs
      (λ s h n e. more s n (h n e)) (adds_self rs),
)
  where
    more : (s : Row) (n : Name) → list_any (adds n) (rows_of s.table rs) ≡ true → list_any (adds n)
        (rows_of s.table (r ∷ rs)) ≡ true
    more s n e = elim (same_text r.table s.table) as
        (λ b. list_any (adds n) (cond b (r ∷ rows_of s.table rs) (rows_of s.table rs)) ≡ true)
        [ true ↦ or_right (adds n r) (list_any (adds n) (rows_of s.table rs)) e | false ↦ e ]

found_adds : (n : Name) (rs : List Row) (r : Row) → find (adds n) rs ≡ Some r → list_any (adds n)
    (rows_of r.table rs) ≡ true
found_adds n [] r e = absurd cc
found_adds n (x ∷ xs) r e =
    elim (adds n x) as (λ b. adds n x ≡ b → cond b (Some x) (find (adds n) xs) ≡ Some r → list_any
    (adds n) (rows_of r.table (x ∷ xs)) ≡ true) [
      | true ↦ λ h e.
          let same : x ≡ r = cc in
          subst (λ (r : Row). list_any (adds n) (rows_of r.table (x ∷ xs)) ≡ true) same (ap (λ
          (b : Bool). list_any (adds n)
          (cond b (x ∷ rows_of x.table xs) (rows_of x.table xs))) (same_text_self x.table)
          ∙ or_left (adds n x) (list_any (adds n) (rows_of x.table xs)) h)
      | false ↦ λ h e. elim (same_text x.table r.table) as
          (λ b. list_any (adds n) (cond b (x ∷ rows_of r.table xs) (rows_of r.table xs)) ≡ true) [
            | true ↦ or_right (adds n x) (list_any (adds n) (rows_of r.table xs))
                (found_adds n xs r e)
            | false ↦ found_adds n xs r e
          ]
    ] refl e

pub all_rows_to : (rows : List Row) (last n : ℕ) (table : List ℕ) → AllByRecursion
    (λ r. r.seq ≤ last) rows → last ≤ n → rows_to n (rows_of table rows) ≡ rows_of table rows
all_rows_to rows last n table within le =
    filter_all (λ r. nat_le r.seq n) (rows_of table rows) (all_filter (λ r. nat_le r.seq n ≡ true)
    (λ r. same_text r.table table) rows
    (all_weaker rows (λ r up. le-leb r.seq n (omega (arith, up, le))) within))

turns_more : (files : List FileRow) (xs ys : List Row) → NamesInTurn files xs → NamesInTurn
    (replay_rows xs files) ys → NamesInTurn files (xs ++ ys)
turns_more files [] ys turns more = more
turns_more files (x ∷ xs) ys turns more =
    (turns.0, turns_more (replay x.seq (items_of x.table x.items) files) xs ys turns.1 more)

later_more : (last : ℕ) (xs : List Row) (y : Row) → AllByRecursion (λ r. r.seq ≤ last) xs → y.seq ≡
    last + 1 → AreLater xs → AreLater (xs ++ y ∷ [])
later_more last [] y within is later = (tt, tt)
later_more last (x ∷ xs) y within is later = (
  all_append (λ s. x.seq < s.seq) xs (y ∷ []) later.0 (omega (arith, within.0, is), tt),
  later_more last xs y within.1 is later.1,
)

module _ (k : Book) (st : State) (number : ℕ) (mine : List Item) (struck : List Mark)
    (gained lost : List Name) (more : List Row) (v : Version)
    (sound : IsSound st) (agrees : Agrees k st)
    (own : (n : Name) → list_any (writes n) mine ≡ true → is_name_of number n ≡ true)
    (one_table : HaveOneTable mine)
    (fresh : AllByRecursion (λ r. nat_eq r.txn number ≡ false) k.rows)
    (asks : AreRows k st number mine struck gained lost more) where
  last_files : (table : List ℕ) → files_at k.rows (last st) table ≡ replay_rows
      (rows_of table k.rows) []
  last_files table = ap (λ (rs : List Row). replay_rows rs [])
      (all_rows_to k.rows (last st) (last st) table agrees.stands.within (omega arith))

  split : (table : List ℕ) → rows_of table (k.rows ++ more) ≡ rows_of table k.rows ++ rows_of table
      more
  split table = filter-append (λ r. same_text r.table table) k.rows more

  -- what a new row adds one of its table's items writes
  added_written : (r : Row) → IsRowOf k st number mine struck r → (n : Name) → adds n r ≡ true →
      list_any (writes n) (items_of r.table mine) ≡ true
  added_written r is n e =
      let old = files_at k.rows (last st) r.table in
      let both = and_both (is_among n (names_in (replay r.seq (items_of r.table r.items) old)))
      (not (is_among n (names_in old))) (sym (is.names.gains n) ∙ e) in
      subst (λ (is : List Item). list_any (writes n) (items_of r.table is) ≡ true) is.items
      (⊎_elim (λ was. absurd (not_both (is_among n (names_in old)) was both.1)) (λ new. new)
      (came_from r.seq (items_of r.table r.items) old n both.0))
    where
      not_both : (b : Bool) → b ≡ true → not b ≡ true → ⊥
      not_both true e f = absurd cc
      not_both false e f = absurd cc

  -- and what it drops an old row of its table added
  dropped_added : (r : Row) → IsRowOf k st number mine struck r → (n : Name) → is_among n r.dropped
      ≡ true → list_any (adds n) (rows_of r.table k.rows) ≡ true
  dropped_added r is n e =
      let old = files_at k.rows (last st) r.table in
      let both = and_both (is_among n (names_in old))
      (not (is_among n (names_in (replay r.seq (items_of r.table r.items) old))))
      (sym (is.names.loses n) ∙ e) in
      has_added n (rows_of r.table k.rows) (sym
      (names_are_by_rows (rows_of r.table k.rows) (agrees.names.turns r.table) n) ∙ ap
      (λ (fs : List FileRow). is_among n (names_in fs)) (sym (last_files r.table)) ∙ both.0)

  new_written : (table : List ℕ) (n : Name) → list_any (adds n) (rows_of table more) ≡ true →
      list_any (writes n) (items_of table mine) ≡ true
  new_written table n is =
      any_known (λ r. IsRowOf k st number mine struck r × (same_text r.table table ≡ true)) (adds n)
      (list_any (writes n) (items_of table mine) ≡ true) (rows_of table more)
      (all_both (rows_of table more) (λ r a b. (a, b)) (all_filter
      (IsRowOf k st number mine struck) (λ r. same_text r.table table) more asks.rows)
      (all_passed (λ r. same_text r.table table) more))
      (λ r both e. subst (λ (t : List ℕ). list_any (writes n) (items_of t mine) ≡ true)
      (same_text_is r.table table both.1) (added_written r both.0 n e)) is

  one_table_now : (name : Name) (one other : List ℕ) → list_any (adds name)
      (rows_of one (k.rows ++ more)) ≡ true → list_any (adds name) (rows_of other (k.rows ++ more))
      ≡ true → one ≡ other
  one_table_now name one other is is' =
      ⊎_elim (λ old. ⊎_elim (λ old'. agrees.names.one_table name one other old old')
      (λ new'. absurd (clash one other old new')) (halves other is'))
      (λ new. ⊎_elim (λ old'. absurd (clash other one old' new)) (λ new'. one_table name one other
      (new_written one name new) (new_written other name new')) (halves other is'))
      (halves one is)
    where
      halves : (table : List ℕ) → list_any (adds name) (rows_of table (k.rows ++ more)) ≡ true →
          (list_any (adds name) (rows_of table k.rows) ≡ true) ⊎
          (list_any (adds name) (rows_of table more) ≡ true)
      halves table is = any_parts (adds name) (rows_of table k.rows) (rows_of table more)
          (ap (list_any (adds name)) (sym (split table)) ∙ is)

      clash : (one other : List ℕ) → list_any (adds name) (rows_of one k.rows) ≡ true → list_any
          (adds name) (rows_of other more) ≡ true → ⊥
      clash one other old new =
          let mine' = own name (any_filter (writes name) (λ i. same_text (item_table i) other) mine
          (new_written other name new)) in
          any_known (λ r. ((n : Name) → adds n r ≡ true → is_name_of r.txn n ≡ true) ×
          (nat_eq r.txn number ≡ false)) (adds name) ⊥ k.rows
          (all_both k.rows (λ r a b. (a, b)) agrees.names.own fresh)
          (λ r both e. differ name.txn r.txn number (both.0 name e) mine' both.1)
          (any_filter (adds name) (λ r. same_text r.table one) k.rows old)
        where
          differ : (n a b : ℕ) → nat_eq n a ≡ true → nat_eq n b ≡ true → nat_eq a b ≡ false → ⊥
          differ n a b e f off = absurd (grind arith)

  owner : Name → List ℕ
  owner n = option_map_or (λ r. r.table) (find (adds n) (k.rows ++ more)) []

  owner_is : (n : Name) (table : List ℕ) → list_any (adds n) (rows_of table (k.rows ++ more)) ≡ true
      → table ≡ owner n
  unfolding owner
  owner_is n table is = elim (find (adds n) (k.rows ++ more)) as
      (λ o. find (adds n) (k.rows ++ more) ≡ o → table ≡ option_map_or (λ r. r.table) o []) [
        | None ↦ λ e. let no : true ≡ false = sym
            (any_filter (adds n) (λ r. same_text r.table table) (k.rows ++ more) is) ∙ none_any
            (adds n)
            (k.rows ++ more) e in absurd cc
        | Some r ↦ λ e. one_table_now n table r.table is (found_adds n (k.rows ++ more) r e)
      ] refl

  old_owner : (n : Name) (table : List ℕ) → list_any (adds n) (rows_of table k.rows) ≡ true → table
      ≡ owner n
  old_owner n table is = owner_is n table (ap (list_any (adds n)) (split table) ∙ any_front
      (adds n) (rows_of table k.rows) (rows_of table more) is)

  commit : IsOwnedCommit (shown k st) (map shown_row more) gained lost owner
  commit = record {
    behind = all_map (λ r. r.seq ≤ last st) shown_row k.rows agrees.stands.within;
    next = all_map (λ r. r.seq ≡ last st + 1) shown_row more
        (all_weaker more (λ r is. is.seq) asks.rows);
    added = λ name. any_map (λ r. is_among name r.added) shown_row more ∙ asks.added name;
    dropped = λ name. any_map (λ r. is_among name r.dropped) shown_row more ∙ asks.dropped name;
    adds_own = all_map (λ r. (name : Name) → is_among name r.added ≡ true → r.table ≡ owner name)
        shown_row k.rows
        (all_weaker k.rows (λ r h name e. old_owner name r.table (h name e)) (adds_self k.rows));
    drops_own = all_map (λ r. (name : Name) → is_among name r.dropped ≡ true → r.table ≡ owner name)
        shown_row more (all_weaker more
        (λ r is name e. old_owner name r.table (dropped_added r is name e)) asks.rows);
  }

  turns_now : (table : List ℕ) → NamesInTurn [] (rows_of table (k.rows ++ more))
  turns_now table = subst (λ (rs : List Row). NamesInTurn [] rs) (sym (split table)) (turns_more []
      (rows_of table k.rows) (rows_of table more) (agrees.names.turns table)
      (new (asks.each table)))
    where
      new : HasOne mine more table → NamesInTurn (replay_rows (rows_of table k.rows) [])
          (rows_of table more)
      new (inl none) = subst
          (λ (rs : List Row). NamesInTurn (replay_rows (rows_of table k.rows) []) rs) (sym none.0)
          tt
      new (inr (r, is)) =
          let row = subst (λ (rs : List Row). AllByRecursion (IsRowOf k st number mine struck) rs)
          is (all_filter (IsRowOf k st number mine struck) (λ r. same_text r.table table) more
          asks.rows) in
          let named = subst
          (λ (rs : List Row). AllByRecursion (λ r. same_text r.table table ≡ true) rs) is
          (all_passed (λ r. same_text r.table table) more) in
          let files : files_at k.rows (last st) r.table ≡ replay_rows (rows_of table k.rows) [] =
          last_files r.table ∙ ap (λ (n : List ℕ). replay_rows (rows_of n k.rows) [])
          (same_text_is r.table table named.0) in
          let gains = subst (λ (fs : List FileRow). GainsAndLoses fs
          (replay r.seq (items_of r.table r.items) fs) r) files row.0.names in
          subst (λ (rs : List Row). NamesInTurn (replay_rows (rows_of table k.rows) []) rs) (sym is)
          (gains, tt)

  once_now : (table : List ℕ) → AreLater (rows_of table (k.rows ++ more))
  once_now table = subst AreLater (sym (split table)) (new (asks.each table))
    where
      new : HasOne mine more table → AreLater (rows_of table k.rows ++ rows_of table more)
      new (inl none) = subst (λ (rs : List Row). AreLater (rows_of table k.rows ++ rs)) (sym none.0)
          (subst AreLater (sym (append_nothing (rows_of table k.rows))) (agrees.names.once table))
        where
          append_nothing : (rs : List Row) → rs ++ [] ≡ rs
          append_nothing [] = refl
          append_nothing (r ∷ rs) = ap (λ (ss : List Row). r ∷ ss) (append_nothing rs)
      new (inr (r, is)) =
          let row = subst (λ (rs : List Row). AllByRecursion (IsRowOf k st number mine struck) rs)
          is (all_filter (IsRowOf k st number mine struck) (λ r. same_text r.table table) more
          asks.rows) in
          subst (λ (rs : List Row). AreLater (rows_of table k.rows ++ rs)) (sym is) (later_more
          (last st) (rows_of table k.rows) r (all_filter (λ r. r.seq ≤ last st)
          (λ r. same_text r.table table) k.rows agrees.stands.within) row.0.seq
          (agrees.names.once table))

  pub names_after_commit : NamesAgree (record k { rows = k.rows ++ more })
      (with_version v lost gained st)
  names_after_commit = record {
    once = once_now;
    turns = turns_now;
    own = all_append (λ r. (n : Name) → adds n r ≡ true → is_name_of r.txn n ≡ true) k.rows more
        agrees.names.own
        (all_weaker more (λ r is n e. subst (λ (m : ℕ). is_name_of m n ≡ true) (sym is.txn) (own n
        (any_filter (writes n) (λ i. same_text (item_table i) r.table) mine
        (added_written r is n e)))) asks.rows);
    one_table = one_table_now;
    versions = λ version name low high.
        ap (λ (rs : List NamesRow). has_name
        (record (shown k st) { rows = rs; last = last st + 1 }) version name)
        (map_append shown_row k.rows more)
        ∙ commits_stand st (shown k st) (map shown_row more) v gained lost sound.counted
        sound.some_version refl sound.floor
        (owned_commits (shown k st) (map shown_row more) gained lost owner commit)
        agrees.names.versions version name low (omega (arith, high, longer));
  }
    where
      longer : last (with_version v lost gained st) ≡ last st + 1
      longer = omega (arith, length-append st.versions (v ∷ []), sound.some_version)
