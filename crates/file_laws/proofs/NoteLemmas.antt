-- What stays noted of a book with an entry.
use Rattle.std.proofs.Common.{◌≡◌, ℕ, ◌+◌, ◌-◌, ◌<◌, ◌≤◌, true, false, ◌&&◌, ◌||◌, nat_eq}
use Rattle.std.proofs.Common.{cond, List, [], ◌∷◌, ◌++◌, Some, inl, inr, ◌⊎◌, ⊎_elim}
use Rattle.std.proofs.Common.{flat_map, length, unwrap_or, refl, sym, ap, ◌∙◌, subst}
use Rattle.std.proofs.Common.{arith, length-append, if◌then◌else◌}
use Rattle.std.proofs.lemmas.Bool.{leb-true}
use Rattle.std.proofs.lemmas.List.{append-nil}
use Rattle.std.proofs.lemmas.List.Elements.{filter-append}
use Rattle.std.specs.Prelude.{nat_le, slice_get}
use Rattle.std.specs.List.{AllByRecursion, list_any}
use Rattle.lake_values.specs.declared.names.Name.{Name}
use Rattle.lake_values.specs.Names.{is_among}
use Rattle.lake_values.specs.Texts.{same_text}
use Rattle.sql_model.specs.declared.changes.Mark.{Mark}
use Rattle.sql_model.specs.Versions.{Version, empty_version}
use Rattle.sql_model.proofs.Bags.{weight_append}
use Rattle.sql_model.proofs.Lists.{all_append, all_both, all_weaker}
use Rattle.lake_model.specs.State.{State, Transaction, last, transaction, version_at}
use Rattle.lake_model.proofs.Growth.{version_kept, version_made}
use Rattle.manifest_block.specs.declared.items.Item.{Item}
use Rattle.table_snapshot.specs.Files.{item_table, items_of}
use Rattle.file_laws.specs.Collector.{names_at}
use Rattle.file_laws.specs.Commits.{HaveNames}
use Rattle.file_laws.specs.Kept.{Book, HaveOneTable, adds, has_row_at, marks_of_table, shown}
use Rattle.file_laws.specs.Kept.{TellsMarks, writes}
use Rattle.file_laws.specs.Noting.{AreWritten, NotesAgree, items_of_all, table_items, times_written}
use Rattle.file_laws.specs.Stands.{rows_of}
use Rattle.file_laws.specs.Touching.{Row, is_marked, is_name_of}
use Rattle.file_laws.proofs.KeptLemmas.{OpenFrom}
use Rattle.file_laws.proofs.Some.{any_behind, any_filter, any_front, any_parts, not_true}

-- lists of items

pub flat_append : {X Y : Type 0} (f : X → List Y) (xs ys : List X) →
    flat_map f (xs ++ ys) ≡ flat_map f xs ++ flat_map f ys
flat_append f [] ys = refl
flat_append {X} {Y} f (x ∷ xs) ys =
    ap (λ (zs : List Y). f x ++ zs) (flat_append f xs ys)
    ∙ sym (append_three (f x) (flat_map f xs) (flat_map f ys))
  where
    append_three : (xs ys zs : List Y) → (xs ++ ys) ++ zs ≡ xs ++ (ys ++ zs)
    append_three [] ys zs = refl
    append_three (x ∷ xs) ys zs = ap (λ (us : List Y). x ∷ us) (append_three xs ys zs)

pub all_items_append : (rows more : List Row) → items_of_all (rows ++ more) ≡ items_of_all rows ++
    items_of_all more
all_items_append rows more = flat_append (λ (r : Row). r.items) rows more

pub table_items_append : (rows more : List Row) → table_items (rows ++ more) ≡ table_items rows ++
    table_items more
table_items_append rows more = flat_append (λ (r : Row). items_of r.table r.items) rows more

pub written_append : (name : Name) (xs ys : List Item) → times_written name (xs ++ ys) ≡
    times_written name xs + times_written name ys
written_append name xs ys = weight_append (λ (i : Item). if writes name i then 1 else 0) xs ys

-- what isn't written is written no times
pub not_written : (name : Name) (items : List Item) → list_any (writes name) items ≡ false →
    times_written name items ≡ 0
not_written name [] e = refl
not_written name (i ∷ is) e =
    elim (writes name i) as (λ b. (b || list_any (writes name) is) ≡ false →
    (if b then 1 else 0) + times_written name is ≡ 0) [
      | true ↦ λ e. absurd cc
      | false ↦ λ e. omega (arith, not_written name is e)
    ] e

pub written_some : (name : Name) (items : List Item) → 1 ≤ times_written name items → list_any
    (writes name) items ≡ true
written_some name items le =
    elim (list_any (writes name) items) as (λ b. list_any (writes name) items ≡ b → b ≡ true) [
      | true ↦ λ e. refl
      | false ↦ λ e. absurd (omega (arith, le, not_written name items e))
    ] refl

-- names of which one list alone writes each are of one table and written once in both together
pub one_table_more : (xs ys : List Item) →
    ((name : Name) → list_any (writes name) xs ≡ true → list_any (writes name) ys ≡ true → ⊥) →
    HaveOneTable xs → HaveOneTable ys → HaveOneTable (xs ++ ys)
one_table_more xs ys apart one_x one_y name one other is is' =
    ⊎_elim (λ x. ⊎_elim (λ x'. one_x name one other x x')
    (λ y'. absurd (apart name (any_filter (writes name) _ xs x) (any_filter (writes name) _ ys y')))
    (halves other is'))
    (λ y. ⊎_elim
    (λ x'. absurd (apart name (any_filter (writes name) _ xs x') (any_filter (writes name) _ ys y)))
    (λ y'. one_y name one other y y') (halves other is')) (halves one is)
  where
    halves : (table : List ℕ) → list_any (writes name) (items_of table (xs ++ ys)) ≡ true →
        (list_any (writes name) (items_of table xs) ≡ true) ⊎
        (list_any (writes name) (items_of table ys) ≡ true)
    halves table is = any_parts (writes name) (items_of table xs) (items_of table ys)
        (ap (list_any (writes name))
        (sym (filter-append (λ (i : Item). same_text (item_table i) table) xs ys)) ∙ is)

pub once_more : (xs ys : List Item) (name : Name) →
    (list_any (writes name) xs ≡ true → list_any (writes name) ys ≡ true → ⊥) →
    times_written name xs ≤ 1 → times_written name ys ≤ 1 → times_written name (xs ++ ys) ≤ 1
once_more xs ys name apart once_x once_y =
    elim (list_any (writes name) xs) as (λ b. list_any (writes name) xs ≡ b →
    times_written name (xs ++ ys) ≤ 1) [
      | true ↦ λ e.
          let none = not_written name ys (not_true (list_any (writes name) ys) (apart e)) in
          omega (arith, written_append name xs ys, none, once_x)
      | false ↦ λ e. omega (
        arith,
        written_append name xs ys,
        not_written name xs e,
        once_y,
      )
    ] refl

-- an entry that makes no version
pub notes_carry : (k : Book) (items' : ℕ → List Item) (st st' : State) → NotesAgree k st →
    st'.versions ≡ st.versions → st'.names ≡ st.names → st.last_number ≤ st'.last_number → st.floor
    ≤
    st'.floor → OpenFrom st st'
    → ((session : ℕ) (t : Transaction) → transaction st' session ≡ Some t → AreWritten t.number
    t.parts (items' session)) → NotesAgree (record k { items = items' }) st'
notes_carry k items' st st' agrees same same_names later up from written = record {
  within = all_weaker k.rows (λ r le. omega (arith, le, last_same)) agrees.within;
  given = all_weaker k.rows (λ r le. omega (arith, le, later)) agrees.given;
  ended = λ session t is. at session t (from session t is);
  own = agrees.own;
  one_table = agrees.one_table;
  once = agrees.once;
  adds = agrees.adds;
  marks = all_weaker k.rows (λ r is. is ∙ ap (λ (v : Version). marks_of_table r.table v.struck)
      (sym (version_same r.seq))) agrees.marks;
  struck = λ n m le is. agrees.struck n m (omega (arith, le, last_same))
      (ap (λ (v : Version). is_marked v.struck m) (sym (version_same n)) ∙ is);
  versions = λ version name low high. agrees.versions version name (omega (arith, low, up))
      (omega (arith, high, last_same)) ∙ ap
      (λ (ns : List (List Name)). is_among name (names_at (record st { names = ns }) version))
      (sym same_names);
  open_items = written;
  checked = all_weaker k.checks (λ c le. omega (arith, le, last_same)) agrees.checked;
}
  where
    version_same : (n : ℕ) → version_at st' n ≡ version_at st n
    version_same n = ap (λ (vs : List Version). unwrap_or (slice_get vs n) empty_version) same

    last_same : last st' ≡ last st
    last_same = ap (λ (vs : List Version). length vs - 1) same

    newer : (a n l : ℕ) → a ≤ l → l < n → nat_eq a n ≡ false
    newer a n l le less = grind arith

    at : (session : ℕ) (t : Transaction) →
        ((u : Transaction) × (transaction st session ≡ Some u) × (u.number ≡ t.number)) ⊎
        (st.last_number < t.number) → AllByRecursion (λ r. nat_eq r.txn t.number ≡ false) k.rows
    at session t (inl (u, was, equal)) = all_weaker k.rows
        (λ r off. ap (nat_eq r.txn) (sym equal) ∙ off) (agrees.ended session u was)
    at session t (inr new) = all_weaker k.rows
        (λ r le. newer r.txn t.number st.last_number le new) agrees.given

-- What the rows of a new version say: they are its commit's, of a transaction that has ended, and
-- their items write names that no earlier row's items write.
pub record AreOfVersion (k : Book) (st st' : State) (v : Version) (more : List Row) : Type 0 where
  pub seqs : AllByRecursion (λ r. r.seq ≡ last st + 1) more
  pub given : AllByRecursion (λ r. r.txn ≤ st.last_number) more
  pub ended :
      (session : ℕ) (t : Transaction) → transaction st' session ≡ Some t
      → AllByRecursion (λ r. nat_eq r.txn t.number ≡ false) more
  pub own :
      AllByRecursion
      (λ r. (name : Name) → list_any (writes name) r.items ≡ true → is_name_of r.txn name ≡ true)
      more
  pub one_table : HaveOneTable (items_of_all more)
  pub apart :
      (name : Name) → list_any (writes name) (items_of_all k.rows) ≡ true
      → list_any (writes name) (items_of_all more) ≡ true → ⊥
  pub once :
      (table : List ℕ) (name : Name) → times_written name (table_items (rows_of table more)) ≤ 1
  pub adds :
      AllByRecursion
      (λ r.
      (name : Name) → adds name r ≡ true
      → list_any (writes name) (items_of r.table r.items) ≡ true)
      more
  pub marks : AllByRecursion (λ r. r.marks ≡ marks_of_table r.table v.struck) more
  pub struck : (m : Mark) → is_marked v.struck m ≡ true → has_row_at more (last st + 1) m.table ≡
      true

-- an item of a table's rows is one of all
in_all : (name : Name) (table : List ℕ) (rows : List Row) → list_any (writes name)
    (table_items (rows_of table rows)) ≡ true → list_any (writes name) (items_of_all rows) ≡ true
in_all name table [] is = is
in_all name table (r ∷ rs) is =
    elim (same_text r.table table) as (λ b. list_any (writes name)
    (table_items (cond b (r ∷ rows_of table rs) (rows_of table rs))) ≡ true → list_any (writes name)
    (r.items ++ items_of_all rs) ≡ true) [
      | true ↦ λ is. ⊎_elim
          (λ here. any_front (writes name) r.items (items_of_all rs)
          (any_filter (writes name) (λ i. same_text (item_table i) r.table) r.items here))
          (λ rest. any_behind (writes name) r.items (items_of_all rs) (in_all name table rs rest))
          (any_parts (writes name) (items_of r.table r.items) (table_items (rows_of table rs)) is)
      | false ↦ λ is. any_behind (writes name) r.items (items_of_all rs) (in_all name table rs is)
    ] is

-- an entry that makes a version
pub notes_grow : (k : Book) (more : List Row) (st st' : State) (v : Version) → NotesAgree k st → 0 <
    length st.versions → st'.versions ≡ st.versions ++ v ∷ [] → st'.last_number ≡ st.last_number →
    AreOfVersion k st st' v more
    → ((session : ℕ) (t : Transaction) → transaction st' session ≡ Some t → transaction st session ≡
    Some t) → HaveNames st' (shown (record k { rows = k.rows ++ more }) st') → NotesAgree
    (record k { rows = k.rows ++ more }) st'
notes_grow k more st st' v agrees some made number new from versions = record {
  within = all_append (λ r. r.seq ≤ last st') k.rows more
      (all_weaker k.rows (λ r le. omega (arith, le, longer)) agrees.within)
      (all_weaker more (λ r is. omega (arith, is, longer)) new.seqs);
  given = all_append (λ r. r.txn ≤ st'.last_number) k.rows more
      (all_weaker k.rows (λ r le. omega (arith, le, number)) agrees.given)
      (all_weaker more (λ r le. omega (arith, le, number)) new.given);
  ended = λ session t is. all_append (λ r. nat_eq r.txn t.number ≡ false) k.rows more
      (agrees.ended session t (from session t is)) (new.ended session t is);
  own = all_append (λ r. (name : Name) → list_any (writes name) r.items ≡ true → is_name_of r.txn
      name ≡ true) k.rows more agrees.own new.own;
  one_table = subst HaveOneTable (sym (all_items_append k.rows more))
      (one_table_more (items_of_all k.rows) (items_of_all more) new.apart agrees.one_table
      new.one_table);
  once = λ table name. subst (λ (is : List Item). times_written name is ≤ 1)
      (sym (split table))
      (once_more (table_items (rows_of table k.rows)) (table_items (rows_of table more)) name
      (λ old here. new.apart name (in_all name table k.rows old) (in_all name table more here))
      (agrees.once table name) (new.once table name));
  adds = all_append (λ r. (name : Name) → adds name r ≡ true → list_any (writes name)
      (items_of r.table r.items) ≡ true) k.rows more agrees.adds new.adds;
  marks = all_append (TellsMarks st') k.rows more
      (all_both k.rows (λ r is le. is ∙ ap (λ (v : Version). marks_of_table r.table v.struck)
      (sym (old r.seq le))) agrees.marks agrees.within)
      (all_both more (λ r marks is. marks ∙ ap
      (λ (v : Version). marks_of_table r.table v.struck)
      (sym (ap (version_at st') is ∙ new_one))) new.marks new.seqs);
  struck = λ n m le is. struck_at n m (omega (arith, le, longer)) is;
  versions = versions;
  open_items = λ session t is. agrees.open_items session t (from session t is);
  checked = all_weaker k.checks (λ c le. omega (arith, le, longer)) agrees.checked;
}
  where
    longer : last st' ≡ last st + 1
    longer = omega (
      arith,
      ap (λ (vs : List Version). length vs) made,
      length-append st.versions (v ∷ []),
      some,
    )

    split : (table : List ℕ) → table_items (rows_of table (k.rows ++ more)) ≡ table_items
        (rows_of table k.rows) ++ table_items (rows_of table more)
    split table = ap table_items (filter-append (λ (r : Row). same_text r.table table) k.rows more)
        ∙
        table_items_append (rows_of table k.rows) (rows_of table more)

    old : (n : ℕ) → n ≤ last st → version_at st' n ≡ version_at st n
    old n le = version_kept st st' (v ∷ [], made) n (omega (arith, le, some))

    new_one : version_at st' (last st + 1) ≡ v
    new_one = let place : length st.versions ≡ last st + 1 = omega (arith, some) in ap
        (version_at st') (sym place) ∙ version_made st st' v []
        (made ∙ sym (append-nil (st.versions ++ v ∷ [])))

    next : (n l : ℕ) → nat_le n l ≡ false → n ≤ l + 1 → n ≡ l + 1
    next n l e le = grind arith

    struck_at : (n : ℕ) (m : Mark) → n ≤ last st + 1 → is_marked (version_at st' n).struck m ≡ true
        →
        has_row_at (k.rows ++ more) n m.table ≡ true
    struck_at n m high is = elim (nat_le n (last st)) as
        (λ b. nat_le n (last st) ≡ b → has_row_at (k.rows ++ more) n m.table ≡ true) [
          | true ↦ λ e.
              let le = leb-true n (last st) e in
              any_front (λ r. same_text r.table m.table && nat_eq r.seq n) k.rows more
              (agrees.struck n m le (ap (λ (v : Version). is_marked v.struck m) (sym (old n le)) ∙
              is))
          | false ↦ λ e.
              let at = next n (last st) e high in
              subst (λ (x : ℕ). has_row_at (k.rows ++ more) x m.table ≡ true) (sym at)
              (any_behind (λ r. same_text r.table m.table && nat_eq r.seq (last st + 1)) k.rows more
              (new.struck m (ap (λ (v : Version). is_marked v.struck m)
              (sym (ap (version_at st') at ∙ new_one)) ∙ is)))
        ] refl
