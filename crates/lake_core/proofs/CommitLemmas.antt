-- What a commit conflicts with, and what it makes.
use Rattle.std.proofs.Common.{◌≡◌, ℕ, zero, suc, ◌+◌, ◌-◌, ◌<◌, ◌≤◌, Bool, true, false, ◌&&◌, ◌||◌, List, [], ◌∷◌, ◌++◌, Option, None, Some, map, flat_map, length, not, refl, sym, ap, ◌∙◌, subst, arith, nat_eq, nat_lt, if◌then◌else◌}
use Rattle.std.specs.Prelude.{IfSome, IsSomeAnd, MatchBool, find, is_some, vec_len}
use Rattle.std.specs.Option.{option_map_or}
use Rattle.std.proofs.lemmas.List.{length-append}
use Rattle.std.specs.List.{AllByRecursion, list_any}
use Rattle.sql_model.specs.declared.changes.Added.{Added}
use Rattle.sql_model.specs.declared.changes.Change.{Change}
use Rattle.lake_model.specs.declared.entries.Fact.TheVariants as fact
use Rattle.sql_model.specs.declared.changes.Mark.{Mark}
use Rattle.sql_model.specs.declared.changes.MarkedRow.{MarkedRow}
use Rattle.sql_model.specs.Changes.{added_to, applied, is_nil, is_unchanged, marked_cmp, removed_from, version_after, without}
use Rattle.sql_model.specs.Units.{units_of, ConflictUnit, marks_of, same_unit, share_unit, whole_table, units_of_marks}
use Rattle.lake_model.specs.Allowed.{MayConflict}
use Rattle.lake_model.specs.Conflicts.{first_conflict, wrote_one}
use Rattle.sql_model.specs.Listing.{numbers, SameBag, weight}
use Rattle.lake_model.specs.State.{State, Transaction, after_commit, ended, last, newest, transaction, version_at, with_version}
use Rattle.sql_model.specs.Versions.{Tables, Version, wrote}
use Rattle.lake_values.specs.Texts.{same_text}
use Rattle.sql_model.proofs.Bags.{same_filter, same_map}
use Rattle.sql_model.proofs.Lists.{all_append, all_filter, all_weaker}
use Rattle.lake_values.proofs.SameTexts.{same_text_sym}
use Rattle.table_history.proofs.StrikeLemmas.{struck_all}
use Rattle.table_history.specs.Histories.{GrowsBy, History, change_from, has_spare_rows, last_of, newest_of, rows_for}
use Rattle.table_history.specs.Strikes.{same_marked, struck, times}
use Rattle.lake_core.specs.Catalogs.{Catalogued, IsBehind}
use Rattle.lake_core.specs.Rows.{HasNoConflict, IsFirstConflict, is_conflict, units_of_row, writes_one}
use Rattle.lake_core.specs.declared.rows.CatRow.{CatRow}
use Rattle.lake_core.specs.declared.transactions.KeptTransaction.{KeptTransaction}
use Rattle.lake_core.specs.declared.commits.Ready.{Ready}
use Rattle.lake_core.specs.Facts as facts
use Rattle.lake_core.specs.Consistency.{HasRooms, IsHistory, StandsFor}
use Rattle.lake_core.specs.Rooms.{AreOpen, IsOpen, RoomFits, IsRoomFor, IsWritten, LeavesRooms, catalog_rows_for, entries_for, rows_share, stamped, table_rows_for, total, units_of_rows}
use Rattle.lake_core.specs.declared.transactions.Room.{Room}
use Rattle.lake_core.proofs.OpenLemmas.{number_self, number_sym, same_number, unchanged_same}
use Rattle.lake_core.proofs.ConsistencyLemmas.{fewer_rows, further, history_more, last_same, newest_same, not_yet, version_more}

-- a member that passes

any_or : {X : Type 0} (p q : X → Bool) (xs : List X) → list_any (λ x. p x || q x) xs ≡ (list_any p xs || list_any q xs)
any_or p q [] = refl
any_or {X} p q (x ∷ xs) = ap (λ (b : Bool). (p x || q x) || b) (any_or p q xs) ∙ swap (p x) (q x) (list_any p xs) (list_any q xs)
  where
    swap : (a b c d : Bool) → ((a || b) || (c || d)) ≡ ((a || c) || (b || d))
    swap true b c d = refl
    swap false true true d = refl
    swap false true false d = refl
    swap false false c d = refl

any_same : {X : Type 0} (p q : X → Bool) (xs : List X) → ((x : X) → p x ≡ q x) → list_any p xs ≡ list_any q xs
any_same p q [] same = refl
any_same p q (x ∷ xs) same = λ i. same x i || any_same p q xs same i

any_nothing : {X : Type 0} (xs : List X) → list_any (λ (x : X). false) xs ≡ false
any_nothing [] = refl
any_nothing (x ∷ xs) = any_nothing xs

any_weight : {X : Type 0} (p : X → Bool) (xs : List X) → list_any p xs ≡ nat_lt 0 (weight (λ x. if p x then 1 else 0) xs)
any_weight p [] = refl
any_weight {X} p (x ∷ xs) = elim (p x) as (λ b. (b || list_any p xs) ≡ nat_lt 0 ((if b then 1 else 0) + weight (λ y. if p y then 1 else 0) xs)) [
  | true ↦ more (weight (λ y. if p y then 1 else 0) xs)
  | false ↦ any_weight p xs ∙ as_it_is (weight (λ y. if p y then 1 else 0) xs)
]
  where
    more : (n : ℕ) → true ≡ nat_lt 0 (1 + n)
    more n = grind arith

    as_it_is : (n : ℕ) → nat_lt 0 n ≡ nat_lt 0 (0 + n)
    as_it_is n = ap (nat_lt 0) (omega arith)

any_bag : {X : Type 0} (p : X → Bool) (xs ys : List X) → SameBag xs ys → list_any p xs ≡ list_any p ys
any_bag p xs ys same = any_weight p xs ∙ ap (nat_lt 0) (same (λ x. if p x then 1 else 0)) ∙ sym (any_weight p ys)

or_false : (a b : Bool) → (a || b) ≡ false → (a ≡ false) × (b ≡ false)
or_false true b e = absurd cc
or_false false b e = (refl, e)

none_passes : {X : Type 0} (p : X → Bool) (xs : List X) → list_any p xs ≡ false → AllByRecursion (λ x. p x ≡ false) xs
none_passes p [] none = tt
none_passes p (x ∷ xs) none = let both = or_false (p x) (list_any p xs) none in (both.0, none_passes p xs both.1)

any_none : {X : Type 0} (p : X → Bool) (Q : X → Type 0) (xs : List X) → ((x : X) → Q x → p x ≡ false) → AllByRecursion Q xs → list_any p xs ≡ false
any_none p Q [] fails all = refl
any_none p Q (x ∷ xs) fails all = let fail = fails x all.0 in rw fail (any_none p Q xs fails all.1)

any_gives : {X : Type 0} (p : X → Bool) (Q : X → Type 0) (P : Type 0) (xs : List X) → ((x : X) → p x ≡ true → Q x → P) → AllByRecursion Q xs → list_any p xs ≡ true → P
any_gives p Q P [] gives all some = absurd cc
any_gives {X} p Q P (x ∷ xs) gives all some = elim (p x) as (λ b. p x ≡ b → (b || list_any p xs) ≡ true → P) [
  | true ↦ λ e s. gives x e all.0
  | false ↦ λ e s. any_gives p Q P xs gives all.1 s
] refl some

any_weaker : {X : Type 0} (p q : X → Bool) (xs : List X) → ((x : X) → p x ≡ true → q x ≡ true) → list_any p xs ≡ true → list_any q xs ≡ true
any_weaker p q [] weaker some = absurd cc
any_weaker {X} p q (x ∷ xs) weaker some = elim (p x) as (λ b. p x ≡ b → (b || list_any p xs) ≡ true → (q x || list_any q xs) ≡ true) [
  | true ↦ λ e s. let passes = weaker x e in rw passes refl
  | false ↦ λ e s. let rest = any_weaker p q xs weaker s in rw rest (or_true (q x))
] refl some
  where
    or_true : (a : Bool) → (a || true) ≡ true
    or_true true = refl
    or_true false = refl

-- units that two lists share

unit_sym : (u v : ConflictUnit) → same_unit u v ≡ same_unit v u
unit_sym (whole_table s) (whole_table t) = same_text_sym s t

share_sym : (us vs : List ConflictUnit) → share_unit us vs ≡ share_unit vs us
share_sym [] vs = sym (any_nothing vs)
share_sym (u ∷ us) vs =
    (λ i. list_any (λ v. unit_sym u v i) vs || share_sym us vs i)
    ∙ sym (any_or (λ v. same_unit v u) (λ v. list_any (same_unit v) us) vs)

pub units_bag : (xs ys : List MarkedRow) (us : List ConflictUnit) → SameBag xs ys → share_unit (units_of_rows xs) us ≡ share_unit (units_of_rows ys) us
units_bag xs ys us same = any_bag (λ u. list_any (same_unit u) us) (units_of_rows xs) (units_of_rows ys)
    (same_map (λ m. whole_table m.table) (marks_of xs) (marks_of ys) (same_map (λ m. m.mark) xs ys same))

-- what the catalogue says of a transaction that removed these rows

writes_is : (removed removed' : List MarkedRow) (room : Room) → IsRoomFor removed room → SameBag removed removed' → (r : CatRow) → writes_one room.marks r ≡ share_unit (units_of_row r) (units_of_rows removed')
writes_is removed removed' room made same r =
    share_sym (units_of_row r) (units_of_marks room.marks) ∙ made.marks (units_of_row r) ∙ units_bag removed removed' (units_of_row r) same ∙ share_sym (units_of_rows removed') (units_of_row r)

wrote_is : (st : State) (rows : List CatRow) (units : List ConflictUnit) (n : ℕ) → IsWritten st rows → wrote_one st units n ≡ list_any (λ r. nat_eq r.seq n && share_unit (units_of_row r) units) rows
wrote_is st rows units n written =
    share_sym units (wrote (version_at st n)) ∙ sym (written.units n units)

-- numbers that are looked through

find_none : (p : ℕ → Bool) (from count : ℕ) → ((m : ℕ) → from ≤ m → p m ≡ false) → find p (numbers from count) ≡ None
find_none p from zero fails = refl
find_none p from (suc count) fails = let fail : p from ≡ false = fails from (omega arith) in rw fail (find_none p (from + 1) count (λ m h. fails m (omega (arith, h))))

find_some : (p : ℕ → Bool) (from count seq : ℕ) → from ≤ seq → seq < from + count → p seq ≡ true → ((m : ℕ) → from ≤ m → m < seq → p m ≡ false) → find p (numbers from count) ≡ Some seq
find_some p from zero seq le less passes fails = absurd (omega (arith, le, less))
find_some p from (suc count) seq le less passes fails =
    elim (nat_eq from seq) as (λ b. nat_eq from seq ≡ b → find p (numbers from (suc count)) ≡ Some seq) [
      | true ↦ λ e. let is : from ≡ seq = same_number from seq e in let pass : p from ≡ true = ap p is ∙ passes in rw pass (ap (λ (n : ℕ). Some n) is)
      | false ↦ λ e. let differ : (from ≡ seq) → ⊥ = λ is. not_equal from seq e is in let fail : p from ≡ false = fails from (omega arith) (omega (arith, strictly from seq le differ)) in
          rw fail (find_some p (from + 1) count seq (strictly from seq le differ) (omega (arith, less)) passes (λ m h k. fails m (omega (arith, h)) k))
    ] refl
  where
    not_equal : (m n : ℕ) → nat_eq m n ≡ false → m ≡ n → ⊥
    not_equal m n e is = grind arith

    strictly : (m n : ℕ) → m ≤ n → (m ≡ n → ⊥) → m + 1 ≤ n
    strictly m n le differ = grind (arith, differ)

-- the first conflict

no_writer : (snapshot n : ℕ) (marks : List Mark) (units : List ConflictUnit) (r : CatRow) → writes_one marks r ≡ share_unit (units_of_row r) units → snapshot < n → (r.seq ≡ n → is_conflict snapshot marks r ≡ false) → (nat_eq r.seq n && share_unit (units_of_row r) units) ≡ false
no_writer snapshot n marks units r is less none =
    elim (nat_eq r.seq n) as (λ b. nat_eq r.seq n ≡ b → (b && share_unit (units_of_row r) units) ≡ false) [
      | true ↦ λ e.
          let here = same_number r.seq n e in
          let later : nat_lt snapshot r.seq ≡ true = after snapshot r.seq n less here in
          sym is ∙ sym (ap (λ (b : Bool). b && writes_one marks r) later) ∙ none here
      | false ↦ λ e. refl
    ] refl
  where
    after : (s m n : ℕ) → s < n → m ≡ n → nat_lt s m ≡ true
    after s m n less is = grind arith

pub conflict_none : (st : State) (rows : List CatRow) (removed : List MarkedRow) (change : Change) (room : Room) (snapshot : ℕ) → IsWritten st rows → IsRoomFor removed room → SameBag removed change.removed → HasNoConflict snapshot room.marks rows →
    first_conflict st snapshot (units_of change) ≡ None
conflict_none st rows removed change room snapshot written made same none =
    let units = units_of change in
    find_none (wrote_one st units) (snapshot + 1) (last st - snapshot) (λ m le.
    wrote_is st rows units m written
    ∙ any_none (λ r. nat_eq r.seq m && share_unit (units_of_row r) units) (λ r. is_conflict snapshot room.marks r ≡ false) rows
    (λ r fails. no_writer snapshot m room.marks units r (writes_is removed change.removed room made same r) (omega (arith, le)) (λ here. fails)) (none_passes (is_conflict snapshot room.marks) rows none))

and_both : (a b : Bool) → (a && b) ≡ true → (a ≡ true) × (b ≡ true)
and_both true b e = (refl, e)
and_both false b e = absurd cc

pub conflict_some : (st : State) (rows : List CatRow) (removed : List MarkedRow) (change : Change) (room : Room) (snapshot seq : ℕ) → IsWritten st rows → IsRoomFor removed room → SameBag removed change.removed → IsFirstConflict snapshot room.marks rows seq →
    first_conflict st snapshot (units_of change) ≡ Some seq
conflict_some st rows removed change room snapshot seq written made same found =
    let units = units_of change in
    let marks = room.marks in
    let writes = writes_is removed change.removed room made same in
    let there : (r : CatRow) → (is_conflict snapshot marks r && nat_eq r.seq seq) ≡ true → (nat_lt snapshot r.seq ≡ true) × ((writes_one marks r ≡ true) × (nat_eq r.seq seq ≡ true)) =
    λ r e. (let parts = and_both (is_conflict snapshot marks r) (nat_eq r.seq seq) e in let both = and_both (nat_lt snapshot r.seq) (writes_one marks r) parts.0 in (both.0, (both.1, parts.1))) in
    let within = any_gives (λ r. is_conflict snapshot marks r && nat_eq r.seq seq) (λ r. r.seq + 1 ≤ length st.versions) ((snapshot < seq) × (seq + 1 ≤ length st.versions)) rows
    (λ r e q. (later snapshot r.seq seq (there r e).0 (there r e).1.1, bounded r.seq seq (length st.versions) (there r e).1.1 q)) written.within found.there in
    find_some (wrote_one st units) (snapshot + 1) (last st - snapshot) seq (omega (arith, within.0)) (omega (arith, within.0, within.1))
    (wrote_is st rows units seq written
    ∙ any_weaker (λ r. is_conflict snapshot marks r && nat_eq r.seq seq) (λ r. nat_eq r.seq seq && share_unit (units_of_row r) units) rows
    (λ r e. ap (λ (b : Bool). b && share_unit (units_of_row r) units) (there r e).1.1 ∙ sym (writes r) ∙ (there r e).1.0) found.there)
    (λ m le less. wrote_is st rows units m written
    ∙ any_none (λ r. nat_eq r.seq m && share_unit (units_of_row r) units) (λ r. is_conflict snapshot marks r ≡ true → seq ≤ r.seq) rows
    (λ r least. no_writer snapshot m marks units r (writes r) (omega (arith, le)) (λ here. no_less (is_conflict snapshot marks r) r.seq m seq here less least)) found.least)
  where
    later : (s m n : ℕ) → nat_lt s m ≡ true → nat_eq m n ≡ true → s < n
    later s m n less is = grind arith

    bounded : (m n k : ℕ) → nat_eq m n ≡ true → m + 1 ≤ k → n + 1 ≤ k
    bounded m n k is le = grind arith

    no_less : (b : Bool) (s m n : ℕ) → s ≡ m → m < n → (b ≡ true → n ≤ s) → b ≡ false
    no_less true s m n is less least = absurd (omega (arith, is, less, least refl))
    no_less false s m n is less least = refl

-- what the removal of rows leaves

times_weight : (x : MarkedRow) (rows : List MarkedRow) → times rows x ≡ weight (λ r. if same_marked r x then 1 else 0) rows
times_weight x [] = refl
times_weight x (r ∷ rs) = elim (same_marked r x) as (λ b. (if b then times rs x + 1 else times rs x) ≡ (if b then 1 else 0) + weight (λ y. if same_marked y x then 1 else 0) rs) [
  | true ↦ omega (arith, times_weight x rs)
  | false ↦ omega (arith, times_weight x rs)
]

without_same : (rows xs ys : List MarkedRow) → SameBag xs ys → without marked_cmp rows xs ≡ without marked_cmp rows ys
without_same rows xs ys same =
    let counts : (x : MarkedRow) → times xs x ≡ times ys x = λ x. times_weight x xs ∙ same (λ r. if same_marked r x then 1 else 0) ∙ sym (times_weight x ys) in
    sym (struck_all xs rows) ∙ (λ i. struck (λ x. counts x i) rows) ∙ struck_all ys rows

pub applied_same : (seq : ℕ) (removed : List MarkedRow) (added : List Added) (change : Change) (tables : Tables) → SameBag removed change.removed → added ≡ change.added → applied seq (change_from removed added) tables ≡ applied seq change tables
applied_same seq removed added change [] same is = refl
applied_same seq removed added change (t ∷ ts) same is =
    let rows = without_same t.rows (removed_from t removed) (removed_from t change.removed) (same_filter (λ m. same_text m.mark.table t.name) removed change.removed same) in
    λ i. record t { rows = rows i ++ flat_map (added_to t seq) (is i) } ∷ applied_same seq removed added change ts same is i

-- what the catalogue says after a commit

any_append : {X : Type 0} (p : X → Bool) (xs ys : List X) → list_any p (xs ++ ys) ≡ (list_any p xs || list_any p ys)
any_append p [] ys = refl
any_append {X} p (x ∷ xs) ys = ap (λ (b : Bool). p x || b) (any_append p xs ys) ∙ sym (or_assoc (p x) (list_any p xs) (list_any p ys))
  where
    or_assoc : (a b c : Bool) → ((a || b) || c) ≡ (a || (b || c))
    or_assoc true b c = refl
    or_assoc false b c = refl

any_map : {X Y : Type 0} (p : Y → Bool) (f : X → Y) (xs : List X) → list_any p (map f xs) ≡ list_any (λ x. p (f x)) xs
any_map p f [] = refl
any_map p f (x ∷ xs) = ap (λ (b : Bool). p (f x) || b) (any_map p f xs)

any_stamped : (seq n : ℕ) (us : List ConflictUnit) (rows : List CatRow) → list_any (λ r. nat_eq r.seq n && share_unit (units_of_row r) us) (map (stamped seq) rows) ≡ (nat_eq seq n && rows_share rows us)
any_stamped seq n us rows =
    any_map (λ r. nat_eq r.seq n && share_unit (units_of_row r) us) (stamped seq) rows
    ∙ elim (nat_eq seq n) as (λ b. list_any (λ (r : CatRow). b && share_unit (units_of_row r) us) rows ≡ (b && rows_share rows us)) [
      | true ↦ refl
      | false ↦ any_nothing rows
    ]

stamped_within : (seq n : ℕ) (rows : List CatRow) → seq + 1 ≤ n → AllByRecursion (λ r. r.seq + 1 ≤ n) (map (stamped seq) rows)
stamped_within seq n [] le = tt
stamped_within seq n (r ∷ rs) le = (le, stamped_within seq n rs le)

written_more : (st st' : State) (v : Version) (old new : List CatRow) (seq : ℕ)
    → st'.versions ≡ st.versions ++ v ∷ [] → seq ≡ length st.versions → IsWritten st old
    → ((us : List ConflictUnit) → rows_share new us ≡ share_unit (wrote v) us) →
    IsWritten st' (old ++ map (stamped seq) new)
written_more st st' v old new seq more is written says =
    let longer = ap (λ (vs : List Version). length vs) more ∙ length-append st.versions (v ∷ []) in
    record {
      units = λ n us.
          let here = λ (r : CatRow). nat_eq r.seq n && share_unit (units_of_row r) us in
          let parts : list_any here (old ++ map (stamped seq) new) ≡ (list_any here old || (nat_eq seq n && rows_share new us)) = any_append here old (map (stamped seq) new) ∙ ap (λ (b : Bool). list_any here old || b) (any_stamped seq n us new) in
          elim (nat_eq n (length st.versions)) as
          (λ b. nat_eq n (length st.versions) ≡ b
          → list_any here (old ++ map (stamped seq) new)
          ≡ share_unit (wrote (version_at st' n)) us) [
            | true ↦ λ e.
                let at : n ≡ length st.versions = same_number n (length st.versions) e in
                let none : list_any here old ≡ false = ap (λ (k : ℕ). list_any (λ (r : CatRow). nat_eq r.seq k && share_unit (units_of_row r) us) old) at ∙ not_yet old us (length st.versions) written.within in
                let mine : nat_eq seq n ≡ true = ap (λ (k : ℕ). nat_eq k n) (is ∙ sym at) ∙ number_self n in
                let both : (list_any here old || (nat_eq seq n && rows_share new us)) ≡ rows_share new us = λ i. none i || (mine i && rows_share new us) in
                parts ∙ both ∙ says us
                ∙ sym (ap (λ (w : Version). share_unit (wrote w) us)
                (version_more st st' v n more
                ∙ ap (λ (b : Bool). if b then v else version_at st n) e))
            | false ↦ λ e.
                let other : nat_eq seq n ≡ false = ap (λ (k : ℕ). nat_eq k n) is ∙ number_sym (length st.versions) n ∙ e in
                let first : (list_any here old || (nat_eq seq n && rows_share new us)) ≡ list_any here old = ap (λ (b : Bool). list_any here old || (b && rows_share new us)) other ∙ or_nothing (list_any here old) in
                parts ∙ first ∙ written.units n us
                ∙ sym (ap (λ (w : Version). share_unit (wrote w) us)
                (version_more st st' v n more
                ∙ ap (λ (b : Bool). if b then v else version_at st n) e))
          ] refl;
      within = all_append (λ r. r.seq + 1 ≤ length st'.versions) old (map (stamped seq) new) (further old (length st.versions) (length st'.versions) (omega (arith, longer)) written.within) (stamped_within seq (length st'.versions) new (omega (arith, is, longer)));
    }
  where
    or_nothing : (a : Bool) → (a || false) ≡ a
    or_nothing true = refl
    or_nothing false = refl

-- what the commit of a transaction needs, and what there is of it

pub rooms_committed : (rs rs' : List KeptTransaction) (r : KeptTransaction) (room : Room) (h h' : History) (catalog catalog' : Catalogued) (spare spare' : ℕ) → HasRooms rs h catalog spare → r.room ≡ Some room → (AllByRecursion RoomFits rs → AllByRecursion RoomFits rs') →
    ((g : KeptTransaction → ℕ) → total g rs ≡ g r + total g rs') → spare ≤ spare' + 1 → catalog.spare ≤ catalog'.spare + vec_len room.rows →
    ((name : List ℕ) (rows : ℕ) → has_spare_rows h.spares name (rows_for name r.added.items + rows) ≡ true → has_spare_rows h'.spares name rows ≡ true) → HasRooms rs' h' catalog' spare'
rooms_committed rs rs' r room h h' catalog catalog' spare spare' rooms is ready weights entry rows tables =
    let there : is_some r.room ≡ true = ap (λ (o : Option Room). is_some o) is in
    let one : entries_for r ≡ 1 = ap (λ (b : Bool). if b then 1 else 0) there in
    let own : catalog_rows_for r ≡ vec_len room.rows = ap (λ (o : Option Room). option_map_or (λ (x : Room). vec_len x.rows) o 0) is in
    record {
      fit = ready rooms.fit;
      entries = omega (arith, weights entries_for, one, rooms.entries, entry);
      catalog_rows = omega (arith, weights catalog_rows_for, own, rooms.catalog_rows, rows);
      table_rows = λ name.
          let mine : table_rows_for name r ≡ rows_for name r.added.items = ap (λ (b : Bool). if b then rows_for name r.added.items else 0) there in
          tables name (total (table_rows_for name) rs') (ap (has_spare_rows h.spares name) (sym (weights (table_rows_for name) ∙ ap (λ (n : ℕ). n + total (table_rows_for name) rs') mine)) ∙ rooms.table_rows name);
    }

pub committed_stands : (st : State) (session : ℕ) (t : Transaction) (count : ℕ) (h h' : History) (rs rs' : List KeptTransaction) (catalog catalog' : Catalogued) (spare spare' number : ℕ) (removed : List MarkedRow) (added : List Added) (room : Room) → StandsFor st count h rs catalog spare number →
    transaction st session ≡ Some t → SameBag removed t.pending.removed → added ≡ t.pending.added → IsRoomFor removed room → GrowsBy h h' (applied (last_of h + 1) (change_from removed added) (newest_of h)) → catalog'.rows ≡ catalog.rows ++ map (stamped (last_of h + 1)) room.rows.items →
    AreOpen (ended session st).running rs' → LeavesRooms session rs rs' → HasRooms rs' h' catalog' spare' → StandsFor (after_commit session [] [] st) (count + 1) h' rs' catalog' spare' number
committed_stands st session t count h h' rs rs' catalog catalog' spare spare' number removed added room stands here bag is made grown rows open_ leaves rooms =
    let v = version_after (last st + 1) t.pending t.worn (newest st) in
    let st' = ended session (with_version v [] [] st) in
    let longer = length-append st.versions (v ∷ []) in
    let kept = stands.history in
    let last_is = last_same st h kept in
    let tables : applied (last_of h + 1) (change_from removed added) (newest_of h) ≡ v.tables =
    (λ i. applied (last_is i + 1) (change_from removed added) (newest_same st h kept i)) ∙ applied_same (last st + 1) removed added t.pending (newest st).tables bag is in
    let G : Tables → Type 0 = λ ts. GrowsBy h h' ts in
    let W : List CatRow → Type 0 = λ rs. IsWritten st' rs in
    let S : Option Transaction → Type 0 = λ o. StandsFor (option_map_or (λ u. ended session (with_version (version_after (last st + 1) u.pending u.worn (newest st)) [] [] st)) o st) (count + 1) h' rs' catalog' spare' number in
    subst S (sym here) (record {
      history = history_more st st' v h h' refl (all_filter (λ (o : ℕ × Transaction). h.first ≤ o.1.snapshot) (λ o. not (nat_eq o.0 session)) st.running kept.snapshots) kept (subst G tables grown);
      open_ones = open_;
      own_sessions = leaves.keeps.own;
      written = subst W (sym rows) (written_more st st' v catalog.rows room.rows.items (last_of h + 1) refl (omega (arith, kept.counted, kept.some)) stands.written (λ us. made.rows us ∙ units_bag removed t.pending.removed us bag));
      numbered = stands.numbered;
      rooms = rooms;
      few_versions = omega (arith, longer, stands.few_versions);
      few_numbers = omega (arith, stands.few_numbers);
    })

-- how a transaction that was taken out ends

pub some_and : {X : Type 0} (P : X → Type 0) (o : Option X) (x : X) → o ≡ Some x → P x → IsSomeAnd o P
some_and {X} P o x e p = let Q : Option X → Type 0 = λ q. IsSomeAnd q P in subst Q (sym e) p

pub unchanged_is : (o : ℕ × Transaction) (r : KeptTransaction) (ready : Ready) (result : Bool) → IsOpen o r → ready.removed ≡ r.removed → ready.added ≡ r.added → result ≡ (is_nil ready.removed.items && is_nil ready.added.items) → is_unchanged o.1.pending ≡ result
unchanged_is o r ready result is removed added tested =
    sym (unchanged_same o r is) ∙ (λ i. is_nil (sym removed i).items && is_nil (sym added i).items) ∙ sym tested

pub ready_made : (r : KeptTransaction) (ready : Ready) → RoomFits r → ready.removed ≡ r.removed → r.room ≡ Some ready.room → IsRoomFor ready.removed.items ready.room
ready_made r ready is removed room =
    let P : Option Room → Type 0 = λ o. IfSome o (IsRoomFor r.removed.items) in
    let made : IsRoomFor r.removed.items ready.room = subst P room is in
    subst (λ (rows : _). IsRoomFor rows.items ready.room) (sym removed) made

pub bag_ready : (o : ℕ × Transaction) (r : KeptTransaction) (ready : Ready) → IsOpen o r → ready.removed ≡ r.removed → SameBag ready.removed.items o.1.pending.removed
bag_ready o r ready is removed = subst (λ (rows : _). SameBag rows.items o.1.pending.removed) (sym removed) is.removed

pub conflict_ready : (st : State) (rows : List CatRow) (o : ℕ × Transaction) (r : KeptTransaction) (ready : Ready) (seq : ℕ) → IsWritten st rows → IsOpen o r → RoomFits r → ready.snapshot ≡ r.snapshot → ready.removed ≡ r.removed → r.room ≡ Some ready.room →
    IsFirstConflict ready.snapshot ready.room.marks rows seq → first_conflict st o.1.snapshot (units_of o.1.pending) ≡ Some seq
conflict_ready st rows o r ready seq written is reserved snapshot removed room found =
    ap (λ (n : ℕ). first_conflict st n (units_of o.1.pending)) (sym is.snapshot ∙ sym snapshot)
    ∙ conflict_some st rows ready.removed.items o.1.pending ready.room ready.snapshot seq written (ready_made r ready reserved removed room) (bag_ready o r ready is removed) found

pub free_ready : (st : State) (rows : List CatRow) (o : ℕ × Transaction) (r : KeptTransaction) (ready : Ready) → IsWritten st rows → IsOpen o r → RoomFits r → ready.snapshot ≡ r.snapshot → ready.removed ≡ r.removed → r.room ≡ Some ready.room →
    HasNoConflict ready.snapshot ready.room.marks rows → first_conflict st o.1.snapshot (units_of o.1.pending) ≡ None
free_ready st rows o r ready written is reserved snapshot removed room none =
    ap (λ (n : ℕ). first_conflict st n (units_of o.1.pending)) (sym is.snapshot ∙ sym snapshot)
    ∙ conflict_none st rows ready.removed.items o.1.pending ready.room ready.snapshot written (ready_made r ready reserved removed room) (bag_ready o r ready is removed) none

pub commits_nothing : (st : State) (session : ℕ) (t : Transaction) → transaction st session ≡ Some t → is_unchanged t.pending ≡ true → facts.commitment st session ≡ fact.Ended
commits_nothing st session t here unchanged = ap (λ (o : Option Transaction). option_map_or (facts.ending st) o fact.Ended) here ∙ rw unchanged refl

pub commits_conflict : (st : State) (session seq : ℕ) (t : Transaction) → transaction st session ≡ Some t → is_unchanged t.pending ≡ false → first_conflict st t.snapshot (units_of t.pending) ≡ Some seq → facts.commitment st session ≡ fact.Conflict seq
commits_conflict st session seq t here changed found =
    ap (λ (o : Option Transaction). option_map_or (facts.ending st) o fact.Ended) here
    ∙ ap (λ (b : Bool). if b then fact.Ended else facts.commit_or_conflict st (first_conflict st t.snapshot (units_of t.pending))) changed
    ∙ ap (facts.commit_or_conflict st) found

pub commits_version : (st : State) (session seq : ℕ) (t : Transaction) → transaction st session ≡ Some t → is_unchanged t.pending ≡ false → first_conflict st t.snapshot (units_of t.pending) ≡ None → seq ≡ last st + 1 → facts.commitment st session ≡ fact.Committed seq [] []
commits_version st session seq t here changed none is =
    ap (λ (o : Option Transaction). option_map_or (facts.ending st) o fact.Ended) here
    ∙ ap (λ (b : Bool). if b then fact.Ended else facts.commit_or_conflict st (first_conflict st t.snapshot (units_of t.pending))) changed
    ∙ ap (facts.commit_or_conflict st) none ∙ ap (λ (n : ℕ). fact.Committed n [] []) (sym is)

pub may_conflict : (st : State) (seq : ℕ) (t : Transaction) → is_unchanged t.pending ≡ false → first_conflict st t.snapshot (units_of t.pending) ≡ Some seq → MayConflict st seq t
may_conflict st seq t changed found =
    let P : Bool → Type 0 = λ b. MatchBool b ((t.snapshot < seq) × (seq ≤ last st)) (first_conflict st t.snapshot (units_of t.pending) ≡ Some seq) in
    subst P (sym changed) found

pub behind_last : (st : State) (h : History) (rows : List CatRow) → IsHistory st h → IsWritten st rows → IsBehind rows (last_of h + 1)
behind_last st h rows kept written = all_weaker {P = λ r. r.seq + 1 ≤ length st.versions} {Q = λ r. r.seq ≤ last_of h + 1} rows (λ r within. omega (arith, within, kept.counted)) written.within

pub room_ready : (rs rs' : List KeptTransaction) (r : KeptTransaction) (ready : Ready) (h : History) (catalog : Catalogued) (spare : ℕ) → HasRooms rs h catalog spare → r.room ≡ Some ready.room → ready.added ≡ r.added → ((g : KeptTransaction → ℕ) → total g rs ≡ g r + total g rs') →
    (name : List ℕ) → has_spare_rows h.spares name (rows_for name ready.added.items) ≡ true
room_ready rs rs' r ready h catalog spare rooms is added weights name =
    let there : is_some r.room ≡ true = ap (λ (o : Option Room). is_some o) is in
    let mine : table_rows_for name r ≡ rows_for name ready.added.items = ap (λ (b : Bool). if b then rows_for name r.added.items else 0) there ∙ (λ i. rows_for name (sym added i).items) in
    fewer_rows h.spares name (rows_for name ready.added.items) (total (table_rows_for name) rs) (omega (arith, weights (table_rows_for name), mine)) (rooms.table_rows name)

pub entry_used : (rs rs' : List KeptTransaction) (r : KeptTransaction) (spare spare' : ℕ) → is_some r.room ≡ true → total entries_for rs ≡ entries_for r + total entries_for rs' → total entries_for rs ≤ spare → spare ≤ spare' + 1 → total entries_for rs' ≤ spare'
entry_used rs rs' r spare spare' there weights enough entry =
    let one : entries_for r ≡ 1 = ap (λ (b : Bool). if b then 1 else 0) there in
    omega (arith, one, weights, enough, entry)
