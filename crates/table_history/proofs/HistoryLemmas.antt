-- What the stores of a history say of its versions, and what a commit makes of them.
use Rattle.std.proofs.Common.{◌≡◌, ℕ, zero, suc, ◌+◌, ◌-◌, ◌<◌, ◌≤◌, ◌^◌, Bool, true, false, ◌&&◌, List, [], ◌∷◌, ◌++◌, None, Some, Option, map, filter, length, get_or, refl, sym, ap, ◌∙◌, subst, arith, nat_lt, nat_le, cond, if◌then◌else◌, unwrap_or, append_assoc}
use Rattle.std.proofs.lemmas.List.{append-nil, map-append}
use Rattle.std.specs.Prelude.{slice_get, find, is_some, is_none, position, vec_len, vec_capacity}
use Rattle.std.specs.List.{AllByRecursion, flat_map, list_any}
use Rattle.std.specs.Option.{option_map_or}
use Rattle.lake_values.specs.Schemas.{TableColumns}
use Rattle.lake_values.specs.declared.values.Value.{Value}
use Rattle.sql_model.specs.declared.changes.Added.{Added}
use Rattle.sql_model.specs.declared.changes.Mark.{Mark}
use Rattle.sql_model.specs.declared.changes.MarkedRow.{MarkedRow}
use Rattle.sql_model.specs.Changes.{added_to, applied, changed_table, marked, marked_cmp, removed_from, without}
use Rattle.sql_model.specs.Listing.{numbers}
use Rattle.sql_model.specs.Versions.{Table, Tables, table_of, has_table}
use Rattle.lake_values.specs.Texts.{same_text}
use Rattle.sql_model.proofs.Lists.{all_append, all_filter}
use Rattle.lake_values.proofs.SameTexts.{same_text_is, same_text_self, same_text_sym}
use Rattle.table_history.specs.declared.kept.Kept.{Kept}
use Rattle.table_history.specs.declared.stores.Store.{Store}
use Rattle.table_history.specs.Histories.{GrowsBy, History, IsIn, change_from, has_spare_rows, last_of, newest_of, tables_in}
use Rattle.table_history.specs.Stores.{HaveOwnNames, IsKept, IsNewName, IsStampedBy, IsStoredBy, Stored, cleared_if, cleared_store, gone, grown_store, grown_stores, history_of, is_before, is_there, kept_by, kept_for, marked_as, rows_at, stamped, spare_at, stamped_store, stands, stored, table_at, tables_at}
use Rattle.table_history.specs.Strikes.{less, same_marked, struck, times}
use Rattle.table_history.proofs.PlaceLemmas.{IsAt, IsNowhere, first_within, found_at, found_nowhere}
use Rattle.table_history.proofs.StoreLemmas.{own_kept}
use Rattle.table_history.proofs.StrikeLemmas.{same_tells, struck_all}

not_below : (n : ℕ) → nat_lt n n ≡ false
not_below n = grind arith

itself : (n : ℕ) → nat_le n n ≡ true
itself n = grind arith

and_false : (b : Bool) → (b && false) ≡ false
and_false true = refl
and_false false = refl

-- versions by their numbers

nth : {X : Type 0} (f : ℕ → X) (a n k : ℕ) → k < n → slice_get (map f (numbers a n)) k ≡ Some (f (a + k))
nth f a zero k h = absurd (omega arith)
nth f a (suc n) zero h = ap (λ (m : ℕ). Some (f m)) (omega arith)
nth f a (suc n) (suc k) h = nth f (a + 1) n k (omega arith) ∙ ap (λ (m : ℕ). Some (f m)) (omega arith)

how_many : {X : Type 0} (f : ℕ → X) (a n : ℕ) → length (map f (numbers a n)) ≡ n
how_many f a zero = refl
how_many f a (suc n) = ap suc (how_many f (a + 1) n)

numbers_more : (a n : ℕ) → numbers a (suc n) ≡ numbers a n ++ (a + n) ∷ []
numbers_more a zero = ap (λ (m : ℕ). m ∷ []) (omega arith)
numbers_more a (suc n) = ap (λ (ms : List ℕ). a ∷ ms) (numbers_more (a + 1) n ∙ ap (λ (m : ℕ). numbers (a + 1) n ++ m ∷ []) (omega arith))

numbers_same : {X : Type 0} (f g : ℕ → X) (a n : ℕ) → ((v : ℕ) → v < a + n → f v ≡ g v) → map f (numbers a n) ≡ map g (numbers a n)
numbers_same f g a zero same = refl
numbers_same f g a (suc n) same = λ i. same a (omega arith) i ∷ numbers_same f g (a + 1) n (λ v h. same v (omega arith)) i

module _ (ss : List Stored) (spares : List (List ℕ × ℕ)) (first last : ℕ) (within : first ≤ last) where
  pub last_is : last_of (history_of ss spares first last) ≡ last
  last_is = omega (arith, how_many (λ version. tables_at version ss) first (last + 1 - first))

  pub tables_are : (version : ℕ) → first ≤ version → version ≤ last → tables_in (history_of ss spares first last) version ≡ tables_at version ss
  tables_are version from to =
      ap (λ (o : Option Tables). unwrap_or o []) (nth (λ version. tables_at version ss) first (last + 1 - first) (version - first) (omega arith))
      ∙ ap (λ (v : ℕ). tables_at v ss) (omega arith)

  pub newest_is : newest_of (history_of ss spares first last) ≡ tables_at last ss
  newest_is = ap (tables_in (history_of ss spares first last)) last_is ∙ tables_are last within (omega arith)

  pub version_in : (version : ℕ) → IsIn (history_of ss spares first last) version → (first ≤ version) × (version ≤ last)
  version_in version h = (h.from, omega (arith, h.to, last_is))

  pub grows : (ss' : List Stored) (spares' : List (List ℕ × ℕ)) (more : Tables) → ((version : ℕ) → version ≤ last → tables_at version ss' ≡ tables_at version ss) → tables_at (last + 1) ss' ≡ more →
      GrowsBy (history_of ss spares first last) (history_of ss' spares' first (last + 1)) more
  grows ss' spares' more old new =
      let f = λ (version : ℕ). tables_at version ss in
      let g = λ (version : ℕ). tables_at version ss' in
      let n = last + 1 - first in
      record {
        first = refl;
        tables = ap (λ (m : ℕ). map g (numbers first m)) (next within) ∙ ap (map g) (numbers_more first n) ∙ map-append g (numbers first n) ((first + n) ∷ [])
            ∙ ap (λ (ts : List Tables). ts ++ g (first + n) ∷ []) (numbers_same g f first n (λ v h. old v (omega arith)))
            ∙ ap (λ (t : Tables). map f (numbers first n) ++ t ∷ []) (ap g (omega arith) ∙ new);
      }
    where
      next : first ≤ last → last + 1 + 1 - first ≡ suc (last + 1 - first)
      next h = omega arith

-- the table of a name

pub table_there : (name : List ℕ) (version : ℕ) (xs : List Store) (place : ℕ) (s : Store) → IsAt name xs place → s ≡ get_or xs place s → nat_le s.created version ≡ true →
    table_of name (tables_at version (map stored xs)) ≡ Some (table_at version (stored s))
table_there name version [] place s at is there = absurd at
table_there name version (x ∷ xs) zero s at is there =
    let here : nat_le x.created version ≡ true = ap (λ (y : Store). nat_le y.created version) (sym is) ∙ there in
    rw (here, at) (ap (λ (y : Store). Some (table_at version (stored y))) (sym is))
table_there name version (x ∷ xs) (suc place) s at is there =
    elim (nat_le x.created version) as (λ b. find (λ t. same_text t.name name) (map (table_at version) (cond b (stored x ∷ filter (is_there version) (map stored xs)) (filter (is_there version) (map stored xs)))) ≡ Some (table_at version (stored s))) [
      | true ↦ rw at.0 (table_there name version xs place s at.1 is there)
      | false ↦ table_there name version xs place s at.1 is there
    ]

pub table_nowhere : (name : List ℕ) (version : ℕ) (ss : List Stored) → IsNewName name ss → table_of name (tables_at version ss) ≡ None
table_nowhere name version [] none = refl
table_nowhere name version (s ∷ ss) none =
    elim (nat_le s.created version) as (λ b. find (λ t. same_text t.name name) (map (table_at version) (cond b (s ∷ filter (is_there version) ss) (filter (is_there version) ss))) ≡ None) [
      | true ↦ rw none.0 (table_nowhere name version ss none.1)
      | false ↦ table_nowhere name version ss none.1
    ]

pub nowhere_new : (name : List ℕ) (xs : List Store) → IsNowhere name xs → IsNewName name (map stored xs)
nowhere_new name [] none = tt
nowhere_new name (x ∷ xs) none = (none.0, nowhere_new name xs none.1)

pub table_later : (name : List ℕ) (version : ℕ) (xs : List Store) (place : ℕ) (s : Store) → HaveOwnNames (map stored xs) → IsAt name xs place → s ≡ get_or xs place s → nat_le s.created version ≡ false →
    table_of name (tables_at version (map stored xs)) ≡ None
table_later name version [] place s own at is later = absurd at
table_later name version (x ∷ xs) zero s own at is later =
    let not : nat_le x.created version ≡ false = ap (λ (y : Store). nat_le y.created version) (sym is) ∙ later in
    rw not (table_nowhere name version (map stored xs) (subst (λ (n : List ℕ). IsNewName n (map stored xs)) (same_text_is x.name name at) own.0))
table_later name version (x ∷ xs) (suc place) s own at is later =
    elim (nat_le x.created version) as (λ b. find (λ t. same_text t.name name) (map (table_at version) (cond b (stored x ∷ filter (is_there version) (map stored xs)) (filter (is_there version) (map stored xs)))) ≡ None) [
      | true ↦ rw at.0 (table_later name version xs place s own.1 at.1 is later)
      | false ↦ table_later name version xs place s own.1 at.1 is later
    ]

-- where nothing is stamped behind a version, later versions are the same

le_up : (m n k : ℕ) → nat_le m n ≡ true → n ≤ k → nat_le m k ≡ true
le_up m n k e h = grind arith

not_before : (m n : ℕ) → nat_le m n ≡ true → nat_lt n m ≡ false
not_before m n e = grind arith

before_same : (last version : ℕ) (removed : Option ℕ) → option_map_or (λ seq. nat_le seq last) removed true ≡ true → last ≤ version → is_before version removed ≡ is_before last removed
before_same last version None within h = refl
before_same last version (Some seq) within h = not_before seq version (le_up seq last version within h) ∙ sym (not_before seq last within)

stands_same : (last version : ℕ) (k : Kept) → IsStampedBy last k → last ≤ version → stands version k ≡ stands last k
stands_same last version k within h =
    let here : nat_le k.seq last ≡ true = within.0 in
    let there : nat_le k.seq version ≡ true = le_up k.seq last version within.0 h in
    rw (here, there) (before_same last version k.removed within.1 h)

rows_same : (last version : ℕ) (table : List ℕ) (ks : List Kept) → AllByRecursion (IsStampedBy last) ks → last ≤ version → rows_at version table ks ≡ rows_at last table ks
rows_same last version table [] all h = refl
rows_same last version table (k ∷ ks) all h =
    let rest = rows_same last version table ks all.1 h in
    rw (stands_same last version k all.0 h)
    (elim (stands last k) as (λ b. map (marked_as table) (cond b (k ∷ filter (stands version) ks) (filter (stands version) ks)) ≡ map (marked_as table) (cond b (k ∷ filter (stands last) ks) (filter (stands last) ks))) [
      | true ↦ ap (λ (ms : List MarkedRow). marked_as table k ∷ ms) rest
      | false ↦ rest
    ])

-- a function of stores that versions see as one of tables
mapped : (P : Stored → Type 0) (version version' : ℕ) (f : Stored → Stored) (h : Table → Table) → ((s : Stored) → P s → is_there version' (f s) ≡ is_there version s) → ((s : Stored) → P s → table_at version' (f s) ≡ h (table_at version s)) →
    (ss : List Stored) → AllByRecursion P ss → tables_at version' (map f ss) ≡ map h (tables_at version ss)
mapped P version version' f h there same [] all = refl
mapped P version version' f h there same (s ∷ ss) all =
    let rest = mapped P version version' f h there same ss all.1 in
    rw (there s all.0)
    (elim (is_there version s) as (λ b. map (table_at version') (cond b (f s ∷ filter (is_there version') (map f ss)) (filter (is_there version') (map f ss))) ≡ map h (map (table_at version) (cond b (s ∷ filter (is_there version) ss) (filter (is_there version) ss)))) [
      | true ↦ λ i. same s all.0 i ∷ rest i
      | false ↦ rest
    ])

map_same : (ts : Tables) → map (λ (t : Table). t) ts ≡ ts
map_same [] = refl
map_same (t ∷ ts) = ap (λ (us : Tables). t ∷ us) (map_same ts)

map_self : (ss : List Stored) → map (λ (s : Stored). s) ss ≡ ss
map_self [] = refl
map_self (s ∷ ss) = ap (λ (us : List Stored). s ∷ us) (map_self ss)

everything : {X : Type 0} (xs : List X) → AllByRecursion (λ _. Unit {0}) xs
everything [] = tt
everything (x ∷ xs) = (tt, everything xs)

pub later_same : (last version : ℕ) (ss : List Stored) → AllByRecursion (IsStoredBy last) ss → last ≤ version → tables_at version ss ≡ tables_at last ss
later_same last version ss all h =
    ap (tables_at version) (sym (map_self ss))
    ∙ mapped (IsStoredBy last) last version (λ s. s) (λ t. t) (λ s by. le_up s.created last version by.0 h ∙ sym by.0) (λ s by. let rows = rows_same last version s.name s.rows by.1 h in λ i. record { name = s.name; schema = s.schema; rows = rows i }) ss all
    ∙ map_same (tables_at last ss)

-- one table more

append_filtered : {X : Type 0} (p : X → Bool) (xs ys : List X) → filter p (xs ++ ys) ≡ filter p xs ++ filter p ys
append_filtered p [] ys = refl
append_filtered {X} p (x ∷ xs) ys =
    elim (p x) as (λ b. cond b (x ∷ filter p (xs ++ ys)) (filter p (xs ++ ys)) ≡ cond b (x ∷ filter p xs) (filter p xs) ++ filter p ys) [
      | true ↦ ap (λ (zs : List X). x ∷ zs) (append_filtered p xs ys)
      | false ↦ append_filtered p xs ys
    ]

tables_append : (version : ℕ) (ss : List Stored) (s : Stored) → tables_at version (ss ++ s ∷ []) ≡ tables_at version ss ++ map (table_at version) (filter (is_there version) (s ∷ []))
tables_append version ss s =
    ap (map (table_at version)) (append_filtered (is_there version) ss (s ∷ [])) ∙ map-append (table_at version) (filter (is_there version) ss) (filter (is_there version) (s ∷ []))

pub not_created : (version : ℕ) (ss : List Stored) (s : Stored) → nat_le s.created version ≡ false → tables_at version (ss ++ s ∷ []) ≡ tables_at version ss
not_created version ss s later =
    let none : map (table_at version) (filter (is_there version) (s ∷ [])) ≡ [] = rw later refl in
    tables_append version ss s ∙ ap (λ (ts : Tables). tables_at version ss ++ ts) none ∙ append-nil (tables_at version ss)

pub created : (version : ℕ) (ss : List Stored) (s : Stored) → nat_le s.created version ≡ true → tables_at version (ss ++ s ∷ []) ≡ tables_at version ss ++ table_at version s ∷ []
created version ss s there =
    let one : map (table_at version) (filter (is_there version) (s ∷ [])) ≡ table_at version s ∷ [] = rw there refl in
    tables_append version ss s ∙ ap (λ (ts : Tables). tables_at version ss ++ ts) one

-- what a history keeps after a table is created

stamped_later : (last next : ℕ) (ks : List Kept) → last ≤ next → AllByRecursion (IsStampedBy last) ks → AllByRecursion (IsStampedBy next) ks
stamped_later last next [] h all = tt
stamped_later last next (k ∷ ks) h all = ((le_up k.seq last next all.0.0 h, removed_later k.removed all.0.1), stamped_later last next ks h all.1)
  where
    removed_later : (removed : Option ℕ) → option_map_or (λ seq. nat_le seq last) removed true ≡ true → option_map_or (λ seq. nat_le seq next) removed true ≡ true
    removed_later None e = refl
    removed_later (Some seq) e = le_up seq last next e h

pub stored_later : (last next : ℕ) (ss : List Stored) → last ≤ next → AllByRecursion (IsStoredBy last) ss → AllByRecursion (IsStoredBy next) ss
stored_later last next [] h all = tt
stored_later last next (s ∷ ss) h all = ((le_up s.created last next all.0.0 h, stamped_later last next s.rows h all.0.1), stored_later last next ss h all.1)

pub stored_more : (last : ℕ) (ss : List Stored) (s : Stored) → AllByRecursion (IsStoredBy last) ss → IsStoredBy last s → AllByRecursion (IsStoredBy last) (ss ++ s ∷ [])
stored_more last [] s all by = (by, tt)
stored_more last (r ∷ rs) s all by = (all.0, stored_more last rs s all.1 by)

pub own_more : (ss : List Stored) (s : Stored) → HaveOwnNames ss → AllByRecursion (λ r. same_text r.name s.name ≡ false) ss → HaveOwnNames (ss ++ s ∷ [])
own_more [] s own new = (tt, tt)
own_more (r ∷ rs) s own new = (new_last r.name rs own.0 new.0, own_more rs s own.1 new.1)
  where
    new_last : (name : List ℕ) (ts : List Stored) → IsNewName name ts → same_text name s.name ≡ false → IsNewName name (ts ++ s ∷ [])
    new_last name [] none differ = (same_text_sym s.name name ∙ differ, tt)
    new_last name (t ∷ ts) none differ = (none.0, new_last name ts none.1 differ)

-- no table of the last version has the name, so no store has
pub none_new : (name : List ℕ) (last : ℕ) (ss : List Stored) → AllByRecursion (IsStoredBy last) ss → has_table name (tables_at last ss) ≡ false → IsNewName name ss
none_new name last [] all none = tt
none_new name last (s ∷ ss) all none =
    let here : nat_le s.created last ≡ true = all.0.0 in
    let there : is_some (find (λ t. same_text t.name name) (table_at last s ∷ tables_at last ss)) ≡ false = rw here at none in
    elim (same_text s.name name) as (λ b. same_text s.name name ≡ b → is_some (cond b (Some (table_at last s)) (find (λ t. same_text t.name name) (tables_at last ss))) ≡ false → IsNewName name (s ∷ ss)) [
      | true ↦ λ e h. absurd cc
      | false ↦ λ e h. (e, none_new name last ss all.1 h)
    ] refl there

-- a commit leaves the versions before it

rows_appended : (version : ℕ) (table : List ℕ) (ks more : List Kept) → rows_at version table (ks ++ more) ≡ rows_at version table ks ++ rows_at version table more
rows_appended version table ks more =
    ap (map (marked_as table)) (append_filtered (stands version) ks more) ∙ map-append (marked_as table) (filter (stands version) ks) (filter (stands version) more)

added_none : (version seq part : ℕ) (table : List ℕ) (schema : TableColumns) (rows : List (List Value)) → nat_le seq version ≡ false → rows_at version table (map (kept_by schema seq part) rows) ≡ []
added_none version seq part table schema [] later = refl
added_none version seq part table schema (row ∷ rows) later = rw later (added_none version seq part table schema rows later)

for_none : (version seq : ℕ) (s : Stored) (a : Added) → nat_le seq version ≡ false → rows_at version s.name (kept_for s.name s.schema seq a) ≡ []
for_none version seq s a later =
    elim (same_text a.table s.name) as (λ b. rows_at version s.name (if b then map (kept_by s.schema seq a.part) a.rows else []) ≡ []) [
      | true ↦ added_none version seq a.part s.name s.schema a.rows later
      | false ↦ refl
    ]

grown_before : (version seq : ℕ) (a : Added) (s : Stored) → nat_le seq version ≡ false → table_at version (grown_store seq a s) ≡ table_at version s
grown_before version seq a s later =
    let rows = rows_appended version s.name s.rows (kept_for s.name s.schema seq a) ∙ ap (λ (ms : List MarkedRow). rows_at version s.name s.rows ++ ms) (for_none version seq s a later) ∙ append-nil (rows_at version s.name s.rows) in
    λ i. record { name = s.name; schema = s.schema; rows = rows i }

pub grown_all_before : (version seq : ℕ) (added : List Added) (ss : List Stored) → nat_le seq version ≡ false → tables_at version (grown_stores seq added ss) ≡ tables_at version ss
grown_all_before version seq [] ss later = refl
grown_all_before version seq (a ∷ more) ss later =
    grown_all_before version seq more (map (grown_store seq a) ss) later
    ∙ mapped (λ _. Unit {0}) version version (grown_store seq a) (λ t. t) (λ s _. refl) (λ s _. grown_before version seq a s later) ss (everything ss)
    ∙ map_same (tables_at version ss)

stands_gone : (last version : ℕ) (k : Kept) → IsStampedBy last k → version ≤ last → stands last k ≡ true → stands version (gone (last + 1) k) ≡ stands version k
stands_gone last version k by h here =
    let before : nat_lt version (last + 1) ≡ true = less version last h in
    elim k.removed as (λ o. option_map_or (λ seq. nat_le seq last) o true ≡ true → (nat_le k.seq last && is_before last o) ≡ true → (nat_le k.seq version && nat_lt version (last + 1)) ≡ (nat_le k.seq version && is_before version o)) [
      | None ↦ λ w e. ap (λ (b : Bool). nat_le k.seq version && b) before
      | Some seq ↦ λ w e. let not : nat_lt last seq ≡ false = not_before seq last w in absurd (impossible (nat_le k.seq last) (nat_lt last seq) e not)
    ] by.1 here
  where
    less : (v l : ℕ) → v ≤ l → nat_lt v (l + 1) ≡ true
    less v l h = grind arith

    impossible : (a b : Bool) → (a && b) ≡ true → b ≡ false → ⊥
    impossible true true e f = cc
    impossible true false e f = cc
    impossible false b e f = cc

-- a stamped row stood in the version before, and stands there still
stamped_before : (table : List ℕ) (last version : ℕ) (count : MarkedRow → ℕ) (ks : List Kept) → AllByRecursion (IsStampedBy last) ks → version ≤ last → rows_at version table (stamped table last (last + 1) count ks) ≡ rows_at version table ks
stamped_before table last version count [] all h = refl
stamped_before table last version count (k ∷ ks) all h =
    elim (stands last k) as (λ b. stands last k ≡ b → rows_at version table (if b && nat_lt 0 (count (marked_as table k)) then gone (last + 1) k ∷ stamped table last (last + 1) (less (marked_as table k) count) ks else k ∷ stamped table last (last + 1) count ks) ≡ rows_at version table (k ∷ ks)) [
      | true ↦ λ here.
          elim (nat_lt 0 (count (marked_as table k))) as (λ b. rows_at version table (if b then gone (last + 1) k ∷ stamped table last (last + 1) (less (marked_as table k) count) ks else k ∷ stamped table last (last + 1) count ks) ≡ rows_at version table (k ∷ ks)) [
            | true ↦
                let rest = stamped_before table last version (less (marked_as table k) count) ks all.1 h in
                rw (stands_gone last version k all.0 h here) (front k (gone (last + 1) k) refl (stamped table last (last + 1) (less (marked_as table k) count) ks) rest)
            | false ↦ front k k refl (stamped table last (last + 1) count ks) (stamped_before table last version count ks all.1 h)
          ]
      | false ↦ λ here. front k k refl (stamped table last (last + 1) count ks) (stamped_before table last version count ks all.1 h)
    ] refl
  where
    front : (m n : Kept) → marked_as table n ≡ marked_as table m → (rest : List Kept) → rows_at version table rest ≡ rows_at version table ks →
        map (marked_as table) (cond (stands version m) (n ∷ filter (stands version) rest) (filter (stands version) rest)) ≡ map (marked_as table) (cond (stands version m) (m ∷ filter (stands version) ks) (filter (stands version) ks))
    front m n marks rest same = elim (stands version m) as (λ b. map (marked_as table) (cond b (n ∷ filter (stands version) rest) (filter (stands version) rest)) ≡ map (marked_as table) (cond b (m ∷ filter (stands version) ks) (filter (stands version) ks))) [
      | true ↦ λ i. marks i ∷ same i
      | false ↦ same
    ]

pub stamped_all_before : (last version : ℕ) (removed : List MarkedRow) (ss : List Stored) → AllByRecursion (IsStoredBy last) ss → version ≤ last → tables_at version (map (stamped_store last (last + 1) removed) ss) ≡ tables_at version ss
stamped_all_before last version removed ss all h =
    mapped (IsStoredBy last) version version (stamped_store last (last + 1) removed) (λ t. t) (λ s _. refl)
    (λ s by. let rows = stamped_before s.name last version (times removed) s.rows by.1 h in λ i. record { name = s.name; schema = s.schema; rows = rows i }) ss all
    ∙ map_same (tables_at version ss)

-- what a commit makes

-- a stamped row doesn't stand in the commit's version, and every other row stands there that stood in the version before
stamped_after : (table : List ℕ) (last : ℕ) (count : MarkedRow → ℕ) (ks : List Kept) → AllByRecursion (IsStampedBy last) ks → rows_at (last + 1) table (stamped table last (last + 1) count ks) ≡ struck count (rows_at last table ks)
stamped_after table last count [] all = refl
stamped_after table last count (k ∷ ks) all =
    elim (stands last k) as (λ b. stands last k ≡ b → rows_at (last + 1) table (if b && nat_lt 0 (count (marked_as table k)) then gone (last + 1) k ∷ stamped table last (last + 1) (less (marked_as table k) count) ks else k ∷ stamped table last (last + 1) count ks)
    ≡ struck count (map (marked_as table) (cond b (k ∷ filter (stands last) ks) (filter (stands last) ks)))) [
      | true ↦ λ here.
          elim (nat_lt 0 (count (marked_as table k))) as (λ b. rows_at (last + 1) table (if b then gone (last + 1) k ∷ stamped table last (last + 1) (less (marked_as table k) count) ks else k ∷ stamped table last (last + 1) count ks)
          ≡ (if b then struck (less (marked_as table k) count) (rows_at last table ks) else marked_as table k ∷ struck count (rows_at last table ks))) [
            | true ↦
                let out : stands (last + 1) (gone (last + 1) k) ≡ false = gone_out k in
                rw out (stamped_after table last (less (marked_as table k) count) ks all.1)
            | false ↦
                let there : stands (last + 1) k ≡ true = stands_same last (last + 1) k all.0 (omega arith) ∙ here in
                rw there (ap (λ (ms : List MarkedRow). marked_as table k ∷ ms) (stamped_after table last count ks all.1))
          ]
      | false ↦ λ here.
          let out : stands (last + 1) k ≡ false = stands_same last (last + 1) k all.0 (omega arith) ∙ here in
          rw out (stamped_after table last count ks all.1)
    ] refl
  where
    gone_out : (m : Kept) → stands (last + 1) (gone (last + 1) m) ≡ false
    gone_out m = ap (λ (b : Bool). nat_le m.seq (last + 1) && b) (not_below (last + 1)) ∙ and_false (nat_le m.seq (last + 1))

-- only rows of the table itself are struck off

times_here : (name : List ℕ) (x : MarkedRow) → x.mark.table ≡ name → (removed : List MarkedRow) → times (filter (λ m. same_text m.mark.table name) removed) x ≡ times removed x
times_here name x is [] = refl
times_here name x is (r ∷ rs) =
    elim (same_text r.mark.table name) as (λ b. same_text r.mark.table name ≡ b → times (cond b (r ∷ filter (λ m. same_text m.mark.table name) rs) (filter (λ m. same_text m.mark.table name) rs)) x ≡ (if same_marked r x then times rs x + 1 else times rs x)) [
      | true ↦ λ e. ap (λ (n : ℕ). if same_marked r x then n + 1 else n) (times_here name x is rs)
      | false ↦ λ e.
          let differ : same_marked r x ≡ false = other e in
          rw differ (times_here name x is rs)
    ] refl
  where
    other : same_text r.mark.table name ≡ false → same_marked r x ≡ false
    other not = elim (same_marked r x) as (λ b. same_marked r x ≡ b → b ≡ false) [
      | true ↦ λ e.
          let same : same_text r.mark.table name ≡ true = ap (λ (m : MarkedRow). same_text m.mark.table name) (same_tells r x e) ∙ ap (λ (n : List ℕ). same_text n name) is ∙ same_text_self name in
          absurd cc
      | false ↦ λ e. refl
    ] refl

-- counts that agree on rows with a property strike the same off a list of them
struck_same : (P : MarkedRow → Type 0) (xs : List MarkedRow) → AllByRecursion P xs → (c d : MarkedRow → ℕ) → ((x : MarkedRow) → P x → c x ≡ d x) → struck c xs ≡ struck d xs
struck_same P [] all c d same = refl
struck_same P (x ∷ xs) all c d same =
    rw (same x all.0)
    (elim (nat_lt 0 (d x)) as (λ b. (if b then struck (less x c) xs else x ∷ struck c xs) ≡ (if b then struck (less x d) xs else x ∷ struck d xs)) [
      | true ↦ struck_same P xs all.1 (less x c) (less x d) (λ y p. ap (λ (n : ℕ). if same_marked x y then n - 1 else n) (same y p))
      | false ↦ ap (λ (ms : List MarkedRow). x ∷ ms) (struck_same P xs all.1 c d same)
    ])

marks_here : (version : ℕ) (name : List ℕ) (ks : List Kept) → AllByRecursion (λ m. m.mark.table ≡ name) (rows_at version name ks)
marks_here version name [] = tt
marks_here version name (k ∷ ks) =
    elim (stands version k) as (λ b. AllByRecursion (λ m. m.mark.table ≡ name) (map (marked_as name) (cond b (k ∷ filter (stands version) ks) (filter (stands version) ks)))) [
      | true ↦ (refl, marks_here version name ks)
      | false ↦ marks_here version name ks
    ]

-- the rows of a table that are left without the removed ones
pub struck_here : (version : ℕ) (name : List ℕ) (removed : List MarkedRow) (ks : List Kept) →
    struck (times removed) (rows_at version name ks) ≡ without marked_cmp (rows_at version name ks) (filter (λ m. same_text m.mark.table name) removed)
struck_here version name removed ks =
    struck_same (λ m. m.mark.table ≡ name) (rows_at version name ks) (marks_here version name ks) (times removed) (times (filter (λ m. same_text m.mark.table name) removed)) (λ x is. sym (times_here name x is removed))
    ∙ struck_all (filter (λ m. same_text m.mark.table name) removed) (rows_at version name ks)

-- a table after rows are removed, and after rows are added

abbrev without_rows : List MarkedRow → Table → Table
without_rows removed t = record t { rows = without marked_cmp t.rows (removed_from t removed) }

abbrev with_parts : ℕ → List Added → Table → Table
with_parts seq added t = record t { rows = t.rows ++ flat_map (added_to t seq) added }

stamped_table : (last : ℕ) (removed : List MarkedRow) (s : Stored) → IsStoredBy last s → table_at (last + 1) (stamped_store last (last + 1) removed s) ≡ without_rows removed (table_at last s)
stamped_table last removed s by =
    let rows = stamped_after s.name last (times removed) s.rows by.1 ∙ struck_here last s.name removed s.rows in
    λ i. record { name = s.name; schema = s.schema; rows = rows i }

pub stamped_all_after : (last : ℕ) (removed : List MarkedRow) (ss : List Stored) → AllByRecursion (IsStoredBy last) ss → tables_at (last + 1) (map (stamped_store last (last + 1) removed) ss) ≡ map (without_rows removed) (tables_at last ss)
stamped_all_after last removed ss all =
    mapped (IsStoredBy last) last (last + 1) (stamped_store last (last + 1) removed) (without_rows removed) (λ s by. le_up s.created last (last + 1) by.0 (omega arith) ∙ sym by.0) (stamped_table last removed) ss all

added_stand : (seq part : ℕ) (name : List ℕ) (schema : TableColumns) (rows : List (List Value)) → rows_at seq name (map (kept_by schema seq part) rows) ≡ map (marked name schema seq part) rows
added_stand seq part name schema [] = refl
added_stand seq part name schema (row ∷ rows) =
    let there : nat_le seq seq ≡ true = itself seq in
    rw there (ap (λ (ms : List MarkedRow). marked name schema seq part row ∷ ms) (added_stand seq part name schema rows))

for_stand : (seq : ℕ) (s : Stored) (a : Added) → rows_at seq s.name (kept_for s.name s.schema seq a) ≡ added_to (table_at seq s) seq a
for_stand seq s a =
    elim (same_text a.table s.name) as (λ b. rows_at seq s.name (if b then map (kept_by s.schema seq a.part) a.rows else []) ≡ (if b then map (marked s.name s.schema seq a.part) a.rows else [])) [
      | true ↦ added_stand seq a.part s.name s.schema a.rows
      | false ↦ refl
    ]

grown_table : (seq : ℕ) (a : Added) (s : Stored) → table_at seq (grown_store seq a s) ≡ record (table_at seq s) { rows = (table_at seq s).rows ++ added_to (table_at seq s) seq a }
grown_table seq a s =
    let rows = rows_appended seq s.name s.rows (kept_for s.name s.schema seq a) ∙ ap (λ (ms : List MarkedRow). rows_at seq s.name s.rows ++ ms) (for_stand seq s a) in
    λ i. record { name = s.name; schema = s.schema; rows = rows i }

map_map : (f g h : Table → Table) → ((t : Table) → g (f t) ≡ h t) → (ts : Tables) → map g (map f ts) ≡ map h ts
map_map f g h same [] = refl
map_map f g h same (t ∷ ts) = λ i. same t i ∷ map_map f g h same ts i

no_parts : (seq : ℕ) (ts : Tables) → ts ≡ map (with_parts seq []) ts
no_parts seq [] = refl
no_parts seq (t ∷ ts) = λ i. record t { rows = sym (append-nil t.rows) i } ∷ no_parts seq ts i

pub grown_all_after : (seq : ℕ) (added : List Added) (ss : List Stored) → tables_at seq (grown_stores seq added ss) ≡ map (with_parts seq added) (tables_at seq ss)
grown_all_after seq [] ss = no_parts seq (tables_at seq ss)
grown_all_after seq (a ∷ more) ss =
    let one : Table → Table = λ t. record t { rows = t.rows ++ added_to t seq a } in
    grown_all_after seq more (map (grown_store seq a) ss)
    ∙ ap (map (with_parts seq more)) (mapped (λ _. Unit {0}) seq seq (grown_store seq a) one (λ s _. refl) (λ s _. grown_table seq a s) ss (everything ss))
    ∙ map_map one (with_parts seq more) (with_parts seq (a ∷ more)) (λ t. ap (λ (rows : List MarkedRow). record t { rows = rows }) (append_assoc t.rows (added_to t seq a) (flat_map (added_to t seq) more))) (tables_at seq ss)

-- a commit makes the last version after its change
pub committed : (last : ℕ) (removed : List MarkedRow) (added : List Added) (ss : List Stored) → AllByRecursion (IsStoredBy last) ss →
    tables_at (last + 1) (grown_stores (last + 1) added (map (stamped_store last (last + 1) removed) ss)) ≡ applied (last + 1) (change_from removed added) (tables_at last ss)
committed last removed added ss all =
    grown_all_after (last + 1) added (map (stamped_store last (last + 1) removed) ss)
    ∙ ap (map (with_parts (last + 1) added)) (stamped_all_after last removed ss all)
    ∙ map_map (without_rows removed) (with_parts (last + 1) added) (changed_table (last + 1) (change_from removed added)) (λ t. refl) (tables_at last ss)

-- what a history keeps after a commit

stamped_by : (name : List ℕ) (last : ℕ) (count : MarkedRow → ℕ) (ks : List Kept) → AllByRecursion (IsStampedBy last) ks → AllByRecursion (IsStampedBy (last + 1)) (stamped name last (last + 1) count ks)
stamped_by name last count [] all = tt
stamped_by name last count (k ∷ ks) all =
    elim (stands last k && nat_lt 0 (count (marked_as name k))) as (λ b. AllByRecursion (IsStampedBy (last + 1)) (if b then gone (last + 1) k ∷ stamped name last (last + 1) (less (marked_as name k) count) ks else k ∷ stamped name last (last + 1) count ks)) [
      | true ↦ ((le_up k.seq last (last + 1) all.0.0 (omega arith), itself (last + 1)), stamped_by name last (less (marked_as name k) count) ks all.1)
      | false ↦ ((stamped_later last (last + 1) (k ∷ []) (omega arith) (all.0, tt)).0, stamped_by name last count ks all.1)
    ]

stored_by : (last : ℕ) (removed : List MarkedRow) (ss : List Stored) → AllByRecursion (IsStoredBy last) ss → AllByRecursion (IsStoredBy (last + 1)) (map (stamped_store last (last + 1) removed) ss)
stored_by last removed [] all = tt
stored_by last removed (s ∷ ss) all = ((le_up s.created last (last + 1) all.0.0 (omega arith), stamped_by s.name last (times removed) s.rows all.0.1), stored_by last removed ss all.1)

all_kept_by : (seq part : ℕ) (schema : TableColumns) (rows : List (List Value)) → AllByRecursion (IsStampedBy seq) (map (kept_by schema seq part) rows)
all_kept_by seq part schema [] = tt
all_kept_by seq part schema (row ∷ rows) = ((itself seq, refl), all_kept_by seq part schema rows)

all_kept_for : (seq : ℕ) (s : Stored) (a : Added) → AllByRecursion (IsStampedBy seq) (kept_for s.name s.schema seq a)
all_kept_for seq s a = elim (same_text a.table s.name) as (λ b. AllByRecursion (IsStampedBy seq) (if b then map (kept_by s.schema seq a.part) a.rows else [])) [
  | true ↦ all_kept_by seq a.part s.schema a.rows
  | false ↦ tt
]

grown_by : (seq : ℕ) (a : Added) (ss : List Stored) → AllByRecursion (IsStoredBy seq) ss → AllByRecursion (IsStoredBy seq) (map (grown_store seq a) ss)
grown_by seq a [] all = tt
grown_by seq a (s ∷ ss) all = ((all.0.0, all_append (IsStampedBy seq) s.rows (kept_for s.name s.schema seq a) all.0.1 (all_kept_for seq s a)), grown_by seq a ss all.1)

all_grown_by : (seq : ℕ) (added : List Added) (ss : List Stored) → AllByRecursion (IsStoredBy seq) ss → AllByRecursion (IsStoredBy seq) (grown_stores seq added ss)
all_grown_by seq [] ss all = all
all_grown_by seq (a ∷ more) ss all = all_grown_by seq more (map (grown_store seq a) ss) (grown_by seq a ss all)

all_grown_own : (seq : ℕ) (added : List Added) (ss : List Stored) → HaveOwnNames ss → HaveOwnNames (grown_stores seq added ss)
all_grown_own seq [] ss own = own
all_grown_own seq (a ∷ more) ss own = all_grown_own seq more (map (grown_store seq a) ss) (own_kept (grown_store seq a) (λ s. refl) ss own)

pub committed_kept : (first last : ℕ) (removed : List MarkedRow) (added : List Added) (ss : List Stored) → IsKept ss first last → last + 1 < 2 ^ 62 →
    IsKept (grown_stores (last + 1) added (map (stamped_store last (last + 1) removed) ss)) first (last + 1)
committed_kept first last removed added ss kept small = record {
  first_within = omega (arith, kept.first_within);
  last_small = small;
  stamps = all_grown_by (last + 1) added (map (stamped_store last (last + 1) removed) ss) (stored_by last removed ss kept.stamps);
  own_names = all_grown_own (last + 1) added (map (stamped_store last (last + 1) removed) ss) (own_kept (stamped_store last (last + 1) removed) (λ s. refl) ss kept.own_names);
}

-- rows that the last version doesn't have are let go

cleared_rows : (last : ℕ) (table : List ℕ) (ks : List Kept) → AllByRecursion (IsStampedBy last) ks → rows_at last table (filter (λ k. is_none k.removed) ks) ≡ rows_at last table ks
cleared_rows last table [] all = refl
cleared_rows last table (k ∷ ks) all =
    let rest = cleared_rows last table ks all.1 in
    elim k.removed as (λ o. k.removed ≡ o → rows_at last table (cond (is_none o) (k ∷ filter (λ k. is_none k.removed) ks) (filter (λ k. is_none k.removed) ks)) ≡ rows_at last table (k ∷ ks)) [
      | None ↦ λ e.
          elim (stands last k) as (λ b. map (marked_as table) (cond b (k ∷ filter (stands last) (filter (λ k. is_none k.removed) ks)) (filter (stands last) (filter (λ k. is_none k.removed) ks))) ≡ map (marked_as table) (cond b (k ∷ filter (stands last) ks) (filter (stands last) ks))) [
            | true ↦ ap (λ (ms : List MarkedRow). marked_as table k ∷ ms) rest
            | false ↦ rest
          ]
      | Some seq ↦ λ e.
          let by : nat_le seq last ≡ true = ap (λ (o : Option ℕ). option_map_or (λ n. nat_le n last) o true) (sym e) ∙ all.0.1 in
          let out : stands last k ≡ false = ap (λ (o : Option ℕ). nat_le k.seq last && is_before last o) e ∙ ap (λ (b : Bool). nat_le k.seq last && b) (not_before seq last by) ∙ and_false (nat_le k.seq last) in
          rw out rest
    ] refl

all_cleared : (last : ℕ) (ks : List Kept) → AllByRecursion (IsStampedBy last) ks → AllByRecursion (IsStampedBy last) (filter (λ k. is_none k.removed) ks)
all_cleared last ks all = all_filter (IsStampedBy last) (λ k. is_none k.removed) ks all

cleared_by : (last : ℕ) (marks : List Mark) (s : Stored) → IsStoredBy last s → IsStoredBy last (cleared_if marks s)
cleared_by last marks s by = elim (list_any (λ mark. same_text mark.table s.name) marks) as (λ b. IsStoredBy last (if b then cleared_store s else s)) [
  | true ↦ (by.0, all_cleared last s.rows by.1)
  | false ↦ by
]

cleared_table : (last : ℕ) (marks : List Mark) (s : Stored) → IsStoredBy last s → table_at last (cleared_if marks s) ≡ table_at last s
cleared_table last marks s by = elim (list_any (λ mark. same_text mark.table s.name) marks) as (λ b. table_at last (if b then cleared_store s else s) ≡ table_at last s) [
  | true ↦ (let rows = cleared_rows last s.name s.rows by.1 in λ i. record { name = s.name; schema = s.schema; rows = rows i })
  | false ↦ refl
]

cleared_created : (marks : List Mark) (s : Stored) → (cleared_if marks s).created ≡ s.created
cleared_created marks s = elim (list_any (λ mark. same_text mark.table s.name) marks) as (λ b. (if b then cleared_store s else s).created ≡ s.created) [ true ↦ refl | false ↦ refl ]

cleared_name : (marks : List Mark) (s : Stored) → (cleared_if marks s).name ≡ s.name
cleared_name marks s = elim (list_any (λ mark. same_text mark.table s.name) marks) as (λ b. (if b then cleared_store s else s).name ≡ s.name) [ true ↦ refl | false ↦ refl ]

pub cleared_same : (last : ℕ) (marks : List Mark) (ss : List Stored) → AllByRecursion (IsStoredBy last) ss → tables_at last (map (cleared_if marks) ss) ≡ tables_at last ss
cleared_same last marks ss all =
    mapped (IsStoredBy last) last last (cleared_if marks) (λ t. t) (λ s _. ap (λ (n : ℕ). nat_le n last) (cleared_created marks s)) (cleared_table last marks) ss all ∙ map_same (tables_at last ss)

pub cleared_kept : (first last : ℕ) (marks : List Mark) (ss : List Stored) → IsKept ss first last → IsKept (map (cleared_if marks) ss) last last
cleared_kept first last marks ss kept = record {
  first_within = omega arith;
  last_small = kept.last_small;
  stamps = each ss kept.stamps;
  own_names = own_kept (cleared_if marks) (cleared_name marks) ss kept.own_names;
}
  where
    each : (ts : List Stored) → AllByRecursion (IsStoredBy last) ts → AllByRecursion (IsStoredBy last) (map (cleared_if marks) ts)
    each [] all = tt
    each (t ∷ ts) all = (cleared_by last marks t all.0, each ts all.1)

pub alone : (ss : List Stored) (spares : List (List ℕ × ℕ)) (last : ℕ) → (history_of ss spares last last).tables ≡ tables_at last ss ∷ []
alone ss spares last = ap (λ (n : ℕ). map (λ (version : ℕ). tables_at version ss) (numbers last n)) (one last)
  where
    one : (n : ℕ) → n + 1 - n ≡ suc 0
    one n = omega arith

-- what the code finds of a name

there_at : (last : ℕ) (xs : List Store) (place : ℕ) (s : Store) → AllByRecursion (IsStoredBy last) (map stored xs) → place < length xs → s ≡ get_or xs place s → nat_le s.created last ≡ true
there_at last [] place s all within is = absurd (omega arith)
there_at last (x ∷ xs) zero s all within is = ap (λ (y : Store). nat_le y.created last) is ∙ all.0.0
there_at last (x ∷ xs) (suc place) s all within is = there_at last xs place s all.1 (omega arith) is

member : {X : Type 0} (xs : List X) (place : ℕ) → place < length xs → (x : X) × (x ≡ get_or xs place x)
member [] place h = absurd (omega arith)
member (x ∷ xs) zero h = (x, refl)
member (x ∷ xs) (suc place) h = member xs place (omega arith)

pub has_there : (name : List ℕ) (xs ys : List Store) (found : Option ℕ) (last : ℕ) → ys ≡ xs → found ≡ position (λ s. same_text s.name name) ys → AllByRecursion (IsStoredBy last) (map stored xs) →
    is_some found ≡ has_table name (tables_at last (map stored xs))
has_there name xs ys None last same is all =
    sym (ap (λ (o : Option Table). is_some o) (table_nowhere name last (map stored xs) (nowhere_new name xs (found_nowhere name xs ys None same is refl))))
has_there name xs ys (Some place) last same is all =
    let at = found_at name xs ys (Some place) place same is refl in
    let within = first_within (λ (s : Store). same_text s.name name) xs place at in
    let (s, here) = member xs place within in
    sym (ap (λ (o : Option Table). is_some o) (table_there name last xs place s at here (there_at last xs place s all within here)))

-- the tables of a version, as the value of a history has them
pub tables_seen : (xs : List Store) (first last : ℕ) → first ≤ last → (h : History) → history_of (map stored xs) (map spare_at xs) first last ≡ h → (version : ℕ) → IsIn h version → tables_in h version ≡ tables_at version (map stored xs)
tables_seen xs first last within h is version in_ =
    let P : History → Type 0 = λ s. IsIn s version in
    let bounds = version_in (map stored xs) (map spare_at xs) first last within version (subst P (sym is) in_) in
    ap (λ (s : History). tables_in s version) (sym is) ∙ tables_are (map stored xs) (map spare_at xs) first last within version bounds.0 bounds.1

pub without_nothing : (removed : List MarkedRow) → without marked_cmp [] removed ≡ []
without_nothing [] = refl
without_nothing (r ∷ rs) = without_nothing rs

-- a table is created

abbrev pub new_store : List ℕ → TableColumns → ℕ → Stored
new_store name schema seq = record { name = name; schema = schema; created = seq; rows = [] }

pub created_kept : (name : List ℕ) (schema : TableColumns) (first last : ℕ) (ss : List Stored) → IsKept ss first last → last + 1 < 2 ^ 62 → has_table name (tables_at last ss) ≡ false → IsKept (ss ++ new_store name schema (last + 1) ∷ []) first (last + 1)
created_kept name schema first last ss kept small absent = record {
  first_within = omega (arith, kept.first_within);
  last_small = small;
  stamps = stored_more (last + 1) ss (new_store name schema (last + 1)) (stored_later last (last + 1) ss (omega arith) kept.stamps) (itself (last + 1), tt);
  own_names = own_more ss (new_store name schema (last + 1)) kept.own_names (none_new name last ss kept.stamps absent);
}

pub created_grows : (name : List ℕ) (schema : TableColumns) (first last : ℕ) (ss : List Stored) (spares spares' : List (List ℕ × ℕ)) → IsKept ss first last →
    GrowsBy (history_of ss spares first last) (history_of (ss ++ new_store name schema (last + 1) ∷ []) spares' first (last + 1)) (newest_of (history_of ss spares first last) ++ record { name = name; schema = schema; rows = [] } ∷ [])
created_grows name schema first last ss spares spares' kept =
    let new = new_store name schema (last + 1) in
    grows ss spares first last kept.first_within (ss ++ new ∷ []) spares' _
    (λ version h. not_created version ss new (above version last h))
    (created (last + 1) ss new (itself (last + 1)) ∙ ap (λ (ts : Tables). ts ++ record { name = name; schema = schema; rows = [] } ∷ []) (later_same last (last + 1) ss kept.stamps (omega arith) ∙ sym (newest_is ss spares first last kept.first_within)))
  where
    above : (v l : ℕ) → v ≤ l → nat_le (l + 1) v ≡ false
    above v l h = grind arith

pub created_room : (name : List ℕ) (rows : ℕ) (xs : List Store) (s : Store) → IsNewName name (map stored xs) → s.name ≡ name → vec_len s.rows ≡ 0 → rows ≤ vec_capacity s.rows → has_spare_rows (map spare_at (xs ++ s ∷ [])) name rows ≡ true
created_room name rows [] s new is none enough =
    let same : same_text s.name name ≡ true = ap (λ (n : List ℕ). same_text n name) is ∙ same_text_self name in
    rw same (ap (λ (n : ℕ). nat_le rows (vec_capacity s.rows - n)) none ∙ fits rows (vec_capacity s.rows) enough)
  where
    fits : (r c : ℕ) → r ≤ c → nat_le r (c - 0) ≡ true
    fits r c h = grind arith
created_room name rows (x ∷ xs) s new is none enough = rw new.0 (created_room name rows xs s new.1 is none enough)

pub created_others : (name : List ℕ) (rows : ℕ) (xs : List Store) (s : Store) → same_text s.name name ≡ false → has_spare_rows (map spare_at xs) name rows ≡ true → has_spare_rows (map spare_at (xs ++ s ∷ [])) name rows ≡ true
created_others name rows [] s differ room = rw differ refl
created_others name rows (x ∷ xs) s differ room =
    elim (same_text x.name name) as (λ b. (if b then nat_le rows (vec_capacity x.rows - vec_len x.rows) else has_spare_rows (map spare_at xs) name rows) ≡ true →
    (if b then nat_le rows (vec_capacity x.rows - vec_len x.rows) else has_spare_rows (map spare_at (xs ++ s ∷ [])) name rows) ≡ true) [
      | true ↦ λ e. e
      | false ↦ λ e. created_others name rows xs s differ e
    ] room

-- the commit of a change
pub commit_grows : (first last : ℕ) (removed : List MarkedRow) (added : List Added) (ss : List Stored) (spares spares' : List (List ℕ × ℕ)) → IsKept ss first last →
    GrowsBy (history_of ss spares first last) (history_of (grown_stores (last + 1) added (map (stamped_store last (last + 1) removed) ss)) spares' first (last + 1))
    (applied (last_of (history_of ss spares first last) + 1) (change_from removed added) (newest_of (history_of ss spares first last)))
commit_grows first last removed added ss spares spares' kept =
    let h = history_of ss spares first last in
    let is = last_is ss spares first last kept.first_within in
    grows ss spares first last kept.first_within (grown_stores (last + 1) added (map (stamped_store last (last + 1) removed) ss)) spares' _
    (λ version le. grown_all_before version (last + 1) added (map (stamped_store last (last + 1) removed) ss) (above version last le) ∙ stamped_all_before last version removed ss kept.stamps le)
    (committed last removed added ss kept.stamps
    ∙ ap (applied (last + 1) (change_from removed added)) (sym (newest_is ss spares first last kept.first_within))
    ∙ ap (λ (n : ℕ). applied (n + 1) (change_from removed added) (newest_of h)) (sym is))
  where
    above : (v l : ℕ) → v ≤ l → nat_le (l + 1) v ≡ false
    above v l h = grind arith
