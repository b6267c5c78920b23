-- A further statement of a transaction.
use Rattle.std.proofs.Common.{◌≡◌, ℕ, zero, suc, ◌+◌, ◌<◌, ◌≤◌, ◌^◌, Bool, true, false, not, List, [], ◌∷◌, ◌++◌, Option, None, Some, Ok, filter, get_or, length, map, refl, sym, ap, ◌∙◌, subst, arith, cond, nat_lt, if◌then◌else◌}
use Rattle.std.specs.Prelude.{IsSome, IfSome, IsSomeAnd, is_some, position, vec_len}
use Rattle.std.specs.List.{AllByRecursion, prefix_len, remove}
use Rattle.std.proofs.lemmas.Bool.{leb-false}
use Rattle.std.proofs.lemmas.List.Quantifiers.{position-Some}
use Rattle.std.specs.Option.{option_map_or}
use Rattle.std.specs.Ordering.{is_eq}
use Rattle.std.specs.declared.cmp.Ordering.{Ordering}
use Rattle.lake_values.specs.Order.{row_cmp}
use Rattle.sql_model.specs.declared.changes.Added.{Added}
use Rattle.sql_model.specs.declared.changes.Change.{Change}
use Rattle.sql_model.specs.declared.changes.MarkedRow.{MarkedRow}
use Rattle.sql_model.specs.declared.replies.Reply.{Reply}
use Rattle.sql_model.specs.declared.replies.Reply.TheVariants.{Created, Begun, Rows, Wrote, Committed, Conflict, Ended, RolledBack, Compacted, Checkpointed, Collected, Refused, Failed}
use Rattle.lake_model.specs.Allowed.{IsOwnChange}
use Rattle.sql_model.specs.Changes.{additions_left, committed, is_nil, is_of_part, left_of, marked_cmp, own, without, without_one}
use Rattle.sql_model.specs.Listing.{SameBag, ordered, weight}
use Rattle.lake_model.specs.State.{State, Transaction, after_ran, next_part, parts_of, transaction, turned, view, with_part}
use Rattle.lake_values.specs.Texts.{same_text}
use Rattle.sql_model.specs.Writing as writing
use Rattle.sql_model.proofs.Bags.{same_length, weight_append}
use Rattle.lake_model.proofs.Effects.{own_change}
use Rattle.sql_model.proofs.Lists.{all_filter}
use Rattle.sql_model.proofs.MarkOrder.{marked_total}
use Rattle.sql_model.proofs.Sorting.{Rises, ordered_rises, weight_ordered}
use Rattle.table_history.specs.Strikes.{IsAscending}
use Rattle.table_history.specs.Histories.{History, has_spare_rows, rows_for}
use Rattle.lake_core.specs.Catalogs.{Catalogued}
use Rattle.lake_core.specs.declared.part_changes.PartChange.{PartChange}
use Rattle.lake_core.specs.declared.transactions.KeptTransaction.{KeptTransaction}
use Rattle.lake_core.specs.declared.transactions.Room.{Room}
use Rattle.lake_core.specs.Consistency.{HasRooms, StandsFor}
use Rattle.lake_core.specs.Lakes.{IsStatementEffect}
use Rattle.lake_core.specs.Rooms.{AreOpen, HaveOwnSessions, IsPartChange, IsOpen, IsPended, RoomFits, IsRoomFor, KeepsRooms, catalog_rows_for, rows_needed, table_rows_for, total}
use Rattle.lake_core.proofs.CommitLemmas.{units_bag}
use Rattle.lake_core.proofs.ConsistencyLemmas.{few_rooms, fewer_rows, rooms_stands, snapshot_of}
use Rattle.lake_core.proofs.OpenLemmas.{IsAt, all_left, open_at, total_left, turned_rooms, without_open}
use Rattle.lake_core.proofs.RoomLemmas.{names_all}

-- a row that is taken out

removed_at : {X : Type 0} (cmp : X → X → Ordering) (d x : X) (xs : List X) (i : ℕ) → i < length xs → is_eq (cmp x (get_or xs i d)) ≡ true → ((k : ℕ) → k < i → is_eq (cmp x (get_or xs k d)) ≡ false) → remove xs i ≡ without_one cmp xs x
removed_at cmp d x [] i within passes fail = absurd (omega arith)
removed_at cmp d x (y ∷ ys) zero within passes fail = rw passes refl
removed_at {X} cmp d x (y ∷ ys) (suc i) within passes fail = rw (fail 0 (omega arith)) (ap (λ (zs : List X). y ∷ zs) (removed_at cmp d x ys i (omega arith) passes (λ k h. fail (suc k) (omega arith))))

pub removed_first : {X : Type 0} (cmp : X → X → Ordering) (x : X) (xs ys : List X) (found : Option ℕ) (i : ℕ) → ys ≡ xs → found ≡ position (λ y. is_eq (cmp x y)) ys → found ≡ Some i → remove xs i ≡ without_one cmp xs x
removed_first {X} cmp x xs ys found i same is some =
    let at = position-Some (λ y. is_eq (cmp x y)) xs i x (ap (λ (zs : List X). position (λ y. is_eq (cmp x y)) zs) (sym same) ∙ sym is ∙ some) in
    removed_at cmp x x xs i at.0 at.1 at.2

none_equals : {X : Type 0} (cmp : X → X → Ordering) (x : X) (xs : List X) → length xs ≤ prefix_len (λ y. not (is_eq (cmp x y))) xs → without_one cmp xs x ≡ xs
none_equals cmp x [] h = refl
none_equals {X} cmp x (y ∷ ys) h =
    elim (is_eq (cmp x y)) as (λ b. length (y ∷ ys) ≤ (if not b then 1 + prefix_len (λ z. not (is_eq (cmp x z))) ys else 0) → (if b then ys else y ∷ without_one cmp ys x) ≡ y ∷ ys) [
      | true ↦ λ k. absurd (omega (arith, k))
      | false ↦ λ k. ap (λ (zs : List X). y ∷ zs) (none_equals cmp x ys (omega (arith, k)))
    ] h

pub removed_none : {X : Type 0} (cmp : X → X → Ordering) (x : X) (xs ys : List X) (found : Option ℕ) → ys ≡ xs → found ≡ position (λ y. is_eq (cmp x y)) ys → found ≡ None → without_one cmp xs x ≡ xs
removed_none {X} cmp x xs ys found same is nowhere =
    let none : position (λ y. is_eq (cmp x y)) xs ≡ None = ap (λ (zs : List X). position (λ y. is_eq (cmp x y)) zs) (sym same) ∙ sym is ∙ nowhere in
    let place = prefix_len (λ y. not (is_eq (cmp x y))) xs in
    elim (nat_lt place (length xs)) as (λ b. nat_lt place (length xs) ≡ b → ◌≡◌ {A = Option ℕ} (cond b (Some place) None) None → without_one cmp xs x ≡ xs) [
      | true ↦ λ e k. absurd cc
      | false ↦ λ e k. none_equals cmp x xs (omega (arith, leb-false (suc place) (length xs) e))
    ] refl none

-- the rows that are removed, in their order

ascends : (xs : List MarkedRow) → Rises marked_cmp xs → IsAscending xs
ascends [] up = tt
ascends (x ∷ xs) up = (up.0, ascends xs up.1)

pub rows_ascend : (new all : List MarkedRow) → new ≡ ordered marked_cmp all → IsAscending new
rows_ascend new all is = subst IsAscending (sym is) (ascends (ordered marked_cmp all) (ordered_rises marked_total all))

pub rows_join : (new all more old gone : List MarkedRow) → new ≡ ordered marked_cmp all → all ≡ more ++ old → more ≡ gone → SameBag new (old ++ gone)
rows_join new all more old gone is joined same g =
    ap (weight g) is ∙ weight_ordered marked_cmp all g ∙ ap (weight g) joined ∙ weight_append g more old ∙ omega (arith, ap (weight g) same, weight_append g old gone)

pub parts_join : (new left none last added more : List Added) (removed gone : List MarkedRow) → new ≡ left ++ last → left ≡ none ++ additions_left removed added → none ≡ [] → removed ≡ gone → last ≡ more → new ≡ additions_left gone added ++ more
parts_join new left none last added more removed gone joined is nothing same last_is =
    let first : left ≡ additions_left gone added = is ∙ (λ i. nothing i ++ additions_left (same i) added) in
    joined ∙ (λ i. first i ++ last_is i)

-- the transaction, as the state has it

pended_open : (session : ℕ) (t : Transaction) (reply : Reply) (change : Change) (r r' : KeptTransaction) → IsOpen (session, t) r → IsPended r r' change → r'.parts ≡ r.parts + parts_of reply → IsOpen (session, with_part reply change t) r'
pended_open session t reply change r r' is pended parts = record {
  session = pended.session ∙ is.session;
  explicit = pended.explicit ∙ is.explicit;
  number = pended.number ∙ is.number;
  snapshot = pended.snapshot ∙ is.snapshot;
  parts = parts ∙ ap (λ (n : ℕ). n + parts_of reply) is.parts;
  removed = λ g. pended.removed g ∙ weight_append g r.removed.items (committed change.removed) ∙ omega (arith, is.removed g, weight_append g t.pending.removed (committed change.removed));
  ascending = pended.ascending;
  added = pended.added ∙ ap (λ (parts : List Added). additions_left (own change.removed) parts ++ change.added) is.added;
}

pub ran_open : (session : ℕ) (reply : Reply) (change : Change) (st : State) (rs : List KeptTransaction) (place : ℕ) (r r' : KeptTransaction) → AreOpen st.running rs → HaveOwnSessions rs → IsAt session rs place → r ≡ get_or rs place r → IsPended r r' change →
    r'.parts ≡ r.parts + parts_of reply → AreOpen (after_ran session reply change st).running (r' ∷ remove rs place)
ran_open session reply change st rs place r r' open_ own at is pended parts =
    let found = open_at session st.running rs place r open_ at is in
    let opened : transaction st session ≡ Some found.transaction = found.opened in
    let t = found.transaction in
    rw opened (pended_open session t reply change r r' found.is pended parts, without_open session st.running rs place open_ own at)

-- the state stays as it was but for the transaction

Sees : ℕ → State → Type 0
Sees first st = AllByRecursion (λ o. first ≤ o.1.snapshot) st.running

turned_sees : (first session : ℕ) (reply : Reply) (change : Change) (st : State) (o : Option Transaction) → transaction st session ≡ o → Sees first st → Sees first (option_map_or (λ t. turned session (with_part reply change t) st) o st)
unfolding Sees
turned_sees first session reply change st None is all = all
turned_sees first session reply change st (Some t) is all = (snapshot_of first session st.running t all is, all_filter _ _ st.running all)

ran_sees : (first session : ℕ) (reply : Reply) (change : Change) (st : State) → AllByRecursion (λ o. first ≤ o.1.snapshot) st.running → AllByRecursion (λ o. first ≤ o.1.snapshot) (after_ran session reply change st).running
unfolding Sees
ran_sees first session reply change st all = turned_sees first session reply change st (transaction st session) refl all

ran_versions : (session : ℕ) (reply : Reply) (change : Change) (st : State) (o : Option Transaction) → (option_map_or (λ t. turned session (with_part reply change t) st) o st).versions ≡ st.versions
ran_versions session reply change st None = refl
ran_versions session reply change st (Some t) = refl

ran_number : (session : ℕ) (reply : Reply) (change : Change) (st : State) (o : Option Transaction) → (option_map_or (λ t. turned session (with_part reply change t) st) o st).last_number ≡ st.last_number
ran_number session reply change st None = refl
ran_number session reply change st (Some t) = refl

pub ran_stands : (st : State) (count session : ℕ) (reply : Reply) (change : Change) (h : History) (rs rs' : List KeptTransaction) (catalog : Catalogued) (spare spare' number : ℕ) → StandsFor st count h rs catalog spare number →
    AreOpen (after_ran session reply change st).running rs' → HaveOwnSessions rs' → HasRooms rs' h catalog spare' → StandsFor (after_ran session reply change st) (count + 1) h rs' catalog spare' number
ran_stands st count session reply change h rs rs' catalog spare spare' number stands open_ own rooms =
    rooms_stands st (after_ran session reply change st) count h rs rs' catalog spare spare' number number stands
    (ran_versions session reply change st (transaction st session)) (ran_number session reply change st (transaction st session) ∙ stands.numbered) (omega (arith, stands.few_numbers))
    (ran_sees h.first session reply change st stands.history.snapshots) open_ own rooms

-- the statement may do what it does

pub ran_allowed : (session : ℕ) (reply : Reply) (change : Change) (st : State) → IsSome (transaction st session)
    → IsStatementEffect st session (reply, change)
    → IsSomeAnd (transaction st session) (IsOwnChange true (view st session).tables reply change)
ran_allowed session reply change st some effect = each (transaction st session) refl some
  where
    each : (o : Option Transaction) → transaction st session ≡ o → IsSome o
        → IsSomeAnd o (IsOwnChange true (view st session).tables reply change)
    each None is none = absurd cc
    each (Some t) is some =
        let part : next_part st session ≡ t.parts + 1 = ap (λ (o : Option Transaction). option_map_or (λ t. t.parts + 1) o 1) is in
        let seen = (view st session).tables in
        let P : ℕ → Type 0 = λ n. writing.effect_of effect.form seen n ≡ Ok (reply, change) in
        own_change effect.form seen t reply change effect.reads (subst P part effect.does)

-- what is made for the commit of rows serves for the same rows in another order

pub room_bag : (xs ys : List MarkedRow) (room : Room) → SameBag xs ys → IsRoomFor xs room → IsRoomFor ys room
room_bag xs ys room same made = record {
  used = made.used ∙ same_length xs ys same;
  names = names_all room.marks ys (λ us. made.marks us ∙ units_bag xs ys us same);
  marks = λ us. made.marks us ∙ units_bag xs ys us same;
  rows = λ us. made.rows us ∙ units_bag xs ys us same;
}

-- a transaction has no more rows of a table than its parts had before, and those of the last part

fewer_one : {X : Type 0} (cmp : X → X → Ordering) (xs : List X) (x : X) → length (without_one cmp xs x) ≤ length xs
fewer_one cmp [] x = omega arith
fewer_one cmp (y ∷ ys) x = elim (is_eq (cmp x y)) as (λ b. length (if b then ys else y ∷ without_one cmp ys x) ≤ suc (length ys)) [
  | true ↦ omega arith
  | false ↦ omega (arith, fewer_one cmp ys x)
]

fewer : {X : Type 0} (cmp : X → X → Ordering) (xs removed : List X) → length (without cmp xs removed) ≤ length xs
fewer cmp xs [] = omega arith
fewer cmp xs (x ∷ removed) = omega (arith, fewer cmp (without_one cmp xs x) removed, fewer_one cmp xs x)

rows_step : (name : List ℕ) (a : Added) (parts : List Added) (more : ℕ) → length a.rows + rows_for name parts ≤ more → rows_for name (if not (is_nil a.rows) then a ∷ parts else parts) ≤ (if same_text a.table name then more else rows_for name parts)
rows_step name a parts more within = elim a.rows as (λ rows. length rows + rows_for name parts ≤ more → rows_for name (if not (is_nil rows) then record a { rows = rows } ∷ parts else parts) ≤ (if same_text a.table name then more else rows_for name parts)) [
  | [] ↦ λ h. elim (same_text a.table name) as (λ b. rows_for name parts ≤ (if b then more else rows_for name parts)) [ true ↦ omega (arith, h) | false ↦ omega arith ]
  | row ∷ rows ↦ λ h. elim (same_text a.table name) as (λ b. (if b then length (row ∷ rows) + rows_for name parts else rows_for name parts) ≤ (if b then more else rows_for name parts)) [ true ↦ omega (arith, h) | false ↦ omega arith ]
] within

if_more : (b : Bool) (m n k : ℕ) → m ≤ n → (if b then k + m else m) ≤ (if b then k + n else n)
if_more true m n k le = omega (arith, le)
if_more false m n k le = le

rows_left : (name : List ℕ) (removed : List MarkedRow) (parts : List Added) → rows_for name (additions_left removed parts) ≤ rows_for name parts
rows_left name removed [] = omega arith
rows_left name removed (a ∷ parts) =
    let rest = rows_left name removed parts in
    let rows = fewer row_cmp a.rows (map (λ m. m.row) (filter (is_of_part a) removed)) in
    omega (
      arith,
      rows_step name (left_of removed a) (additions_left removed parts) (length a.rows + rows_for name (additions_left removed parts)) (omega (arith, rows)),
      if_more (same_text a.table name) (rows_for name (additions_left removed parts)) (rows_for name parts) (length a.rows) rest,
    )

rows_append : (name : List ℕ) (xs ys : List Added) → rows_for name (xs ++ ys) ≡ rows_for name xs + rows_for name ys
rows_append name [] ys = omega arith
rows_append name (a ∷ xs) ys = elim (same_text a.table name) as (λ b. (if b then length a.rows + rows_for name (xs ++ ys) else rows_for name (xs ++ ys)) ≡ (if b then length a.rows + rows_for name xs else rows_for name xs) + rows_for name ys) [
  | true ↦ omega (arith, rows_append name xs ys)
  | false ↦ rows_append name xs ys
]

pub rows_pended : (name : List ℕ) (r r' : KeptTransaction) (change : Change) → IsPended r r' change → rows_for name r'.added.items ≤ rows_for name r.added.items + rows_for name change.added
rows_pended name r r' change pended =
    omega (arith, ap (rows_for name) pended.added, rows_append name (additions_left (own change.removed) r.added.items) change.added, rows_left name (own change.removed) r.added.items)

-- what is reserved for it

length_left : (session : ℕ) (rs : List KeptTransaction) (place : ℕ) → IsAt session rs place → length (remove rs place) + 1 ≡ length rs
length_left session [] place at = absurd at
length_left session (r ∷ rs) zero at = omega arith
length_left session (r ∷ rs) (suc place) at = omega (arith, length_left session rs place at.1)

pub further_rooms : (session : ℕ) (rs : List KeptTransaction) (place : ℕ) (r r' : KeptTransaction) (h : History) (catalog : Catalogued) (spare : ℕ) → IsAt session rs place → r ≡ get_or rs place r → AllByRecursion RoomFits rs → RoomFits r' → length rs ≤ spare →
    total catalog_rows_for rs + catalog_rows_for r' ≤ catalog.spare → ((name : List ℕ) → has_spare_rows h.spares name (total (table_rows_for name) rs + table_rows_for name r') ≡ true) → HasRooms (r' ∷ remove rs place) h catalog spare
further_rooms session rs place r r' h catalog spare at is all ready entries rows tables = record {
  fit = (ready, all_left RoomFits rs place all);
  entries = omega (arith, few_rooms (r' ∷ remove rs place), length_left session rs place at, entries);
  catalog_rows = omega (arith, total_left catalog_rows_for session rs place r at is, rows);
  table_rows = λ name. fewer_rows h.spares name (table_rows_for name r' + total (table_rows_for name) (remove rs place)) (total (table_rows_for name) rs + table_rows_for name r')
      (omega (arith, total_left (table_rows_for name) session rs place r at is)) (tables name);
}

-- room that was made for the rows that it removed before and removes now
pub fits_further : (r r' : KeptTransaction) (change : Change) (more : List MarkedRow) (room : Option Room) → IsPended r r' change → r'.room ≡ room → more ≡ committed change.removed → IfSome room (IsRoomFor (r.removed.items ++ more)) → RoomFits r'
fits_further r r' change more room pended kept is made =
    let P : Option Room → Type 0 = λ o. IfSome o (IsRoomFor r'.removed.items) in
    let Q : List MarkedRow → Type 0 = λ rows. IfSome room (IsRoomFor (r.removed.items ++ rows)) in
    subst P (sym kept) (each room (subst Q is made))
  where
    each : (o : Option Room) → IfSome o (IsRoomFor (r.removed.items ++ committed change.removed)) → IfSome o (IsRoomFor r'.removed.items)
    each None made = tt
    each (Some room) made = room_bag (r.removed.items ++ committed change.removed) r'.removed.items room (λ g. sym (pended.removed g)) made

-- the rows of a table that are reserved for it
pub tables_further : (name : List ℕ) (rs : List KeptTransaction) (r r' : KeptTransaction) (change : Change) (more : List Added) (h : History) (b : Bool) → IsPended r r' change → is_some r'.room ≡ b → more ≡ change.added → has_spare_rows h.spares name (total (table_rows_for name) rs) ≡ true →
    (b ≡ true → has_spare_rows h.spares name (rows_needed rs r.added.items more name) ≡ true) → has_spare_rows h.spares name (total (table_rows_for name) rs + table_rows_for name r') ≡ true
tables_further name rs r r' change more h true pended kept is before made =
    let one : table_rows_for name r' ≡ rows_for name r'.added.items = ap (λ (b : Bool). if b then rows_for name r'.added.items else 0) kept in
    fewer_rows h.spares name (total (table_rows_for name) rs + table_rows_for name r') (rows_needed rs r.added.items more name) (omega (arith, one, rows_pended name r r' change pended, ap (rows_for name) is)) (made refl)
tables_further name rs r r' change more h false pended kept is before made =
    let none : table_rows_for name r' ≡ 0 = ap (λ (b : Bool). if b then rows_for name r'.added.items else 0) kept in
    fewer_rows h.spares name (total (table_rows_for name) rs + table_rows_for name r') (total (table_rows_for name) rs) (omega (arith, none)) before

-- the lake with the entry

pub part_within : (reply : Reply) (parts : ℕ) → parts + 1 < 2 ^ 32 → parts + parts_of reply < 2 ^ 32
part_within (Wrote verb count seq) parts within = within
part_within (Created table seq) parts within = omega (arith, within)
part_within (Begun snapshot) parts within = omega (arith, within)
part_within (Rows rows) parts within = omega (arith, within)
part_within (Committed seq) parts within = omega (arith, within)
part_within (Conflict seq) parts within = omega (arith, within)
part_within Ended parts within = omega (arith, within)
part_within RolledBack parts within = omega (arith, within)
part_within (Compacted cells seq) parts within = omega (arith, within)
part_within (Checkpointed table at) parts within = omega (arith, within)
part_within (Collected floor) parts within = omega (arith, within)
part_within (Refused cause) parts within = omega (arith, within)
part_within (Failed cause) parts within = omega (arith, within)

-- all that is known when the transaction goes on
pub record Goes (session : ℕ) (rs : List KeptTransaction) (place : ℕ) (r r' : KeptTransaction) (change : Change) (reply : Reply) (more : PartChange) (room : Option Room) : Type 0 where
  pub at : IsAt session rs place
  pub is : r ≡ get_or rs place r
  pub further : IsPartChange r change more
  pub pended : IsPended r r' change
  pub parts : r'.parts ≡ r.parts + parts_of reply
  pub room_is : r'.room ≡ room
  pub kept : is_some room ≡ is_some r.room
  pub made : IfSome room (IsRoomFor (r.removed.items ++ more.removed.items))

pub goes_rooms : (session : ℕ) (rs : List KeptTransaction) (place : ℕ) (r r' : KeptTransaction) (change : Change) (reply : Reply) (more : PartChange) (room : Option Room) → Goes session rs place r r' change reply more room → HaveOwnSessions rs → KeepsRooms session rs (r' ∷ remove rs place)
goes_rooms session rs place r r' change reply more room goes own =
    turned_rooms session rs place r r' own goes.at goes.is goes.pended.session (ap is_some goes.room_is ∙ goes.kept)

-- what is reserved after it, where room was made anew
pub goes_reserved : (session : ℕ) (rs : List KeptTransaction) (place : ℕ) (r r' : KeptTransaction) (change : Change) (reply : Reply) (more : PartChange) (room : Option Room) (h : History) (catalog : Catalogued) (spare : ℕ) → Goes session rs place r r' change reply more room →
    AllByRecursion RoomFits rs → length rs ≤ spare → total catalog_rows_for rs + option_map_or (λ made. vec_len made.rows) room 0 ≤ catalog.spare → ((name : List ℕ) → has_spare_rows h.spares name (total (table_rows_for name) rs) ≡ true) →
    (is_some r.room ≡ true → (name : List ℕ) → has_spare_rows h.spares name (rows_needed rs r.added.items more.added.items name) ≡ true) → HasRooms (r' ∷ remove rs place) h catalog spare
goes_reserved session rs place r r' change reply more room h catalog spare goes ready entries rows before tables =
    let rows_are : catalog_rows_for r' ≡ option_map_or (λ made. vec_len made.rows) room 0 = ap (λ (o : Option Room). option_map_or (λ made. vec_len made.rows) o 0) goes.room_is in
    further_rooms session rs place r r' h catalog spare goes.at goes.is ready (fits_further r r' change more.removed.items room goes.pended goes.room_is goes.further.removed goes.made) entries (omega (arith, rows_are, rows))
    (λ name. tables_further name rs r r' change more.added.items h (is_some r.room) goes.pended (ap is_some goes.room_is ∙ goes.kept) goes.further.added (before name) (λ some. tables some name))
