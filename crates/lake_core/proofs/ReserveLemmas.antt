-- Room for the rows that the parts of a transaction add.
use Rattle.std.proofs.Common.{◌≡◌, ℕ, zero, suc, ◌+◌, ◌<◌, ◌≤◌, Bool, true, false, ◌||◌, Option, None, Some, List, [], ◌∷◌, length, get_or, take, refl, sym, ap, ◌∙◌, subst, arith, nat_eq, if◌then◌else◌}
use Rattle.std.specs.Prelude.{IsSome, OnOk, Result, Ok, Err, position, vec_len}
use Rattle.std.specs.List.{list_any}
use Rattle.sql_model.specs.declared.changes.Added.{Added}
use Rattle.lake_model.specs.declared.entries.Entry.{Entry}
use Rattle.lake_model.specs.State.{State, Transaction, state, transaction}
use Rattle.sql_model.specs.Versions.{Tables}
use Rattle.lake_values.specs.Texts.{same_text}
use Rattle.lake_values.proofs.SameTexts.{same_text_is}
use Rattle.table_history.specs.Histories.{KeepsRoom, History, has_spare_rows, rows_for}
use Rattle.lake_core.specs.Catalogs.{Catalogued}
use Rattle.lake_core.specs.declared.rows.CatRow.{CatRow}
use Rattle.lake_core.specs.Consistency.{HasRooms, IsHistory, IsConsistent, chronicle_of}
use Rattle.lake_core.specs.Rooms.{AreOpen, HaveOwnSessions, IsRoomFor, IsWritten, catalog_rows_for, rows_needed, table_rows_for, total, with_room}
use Rattle.lake_core.specs.declared.transactions.KeptTransaction.{KeptTransaction}
use Rattle.lake_core.specs.declared.transactions.Room.{Room}
use Rattle.lake_core.proofs.ConsistencyLemmas.{few_rooms, fewer_rows}
use Rattle.lake_core.proofs.OpenLemmas.{IsAt, found_nowhere, length_kept, open_none, fits_kept, total_kept}

last_passes : {X : Type 0} (p : X → Bool) (xs : List X) (i : ℕ) (x : X) → x ≡ get_or xs i x → i < length xs → list_any p (take (suc i) xs) ≡ true → list_any p (take i xs) ≡ false → p x ≡ true
last_passes p [] i x is within some none = absurd (omega arith)
last_passes {X} p (y ∷ ys) zero x is within some none = elim (p y) as (λ b. p y ≡ b → (b || false) ≡ true → p x ≡ true) [
  | true ↦ λ e s. ap p is ∙ e
  | false ↦ λ e s. absurd cc
] refl some
last_passes {X} p (y ∷ ys) (suc i) x is within some none = elim (p y) as (λ b. (b || list_any p (take (suc i) ys)) ≡ true → (b || list_any p (take i ys)) ≡ false → p x ≡ true) [
  | true ↦ λ s n. absurd cc
  | false ↦ λ s n. last_passes p ys i x is (omega arith) s n
] some none

whole : {X : Type 0} (xs : List X) (i : ℕ) → length xs ≤ i → take i xs ≡ xs
whole [] zero past = refl
whole [] (suc i) past = refl
whole (x ∷ xs) zero past = absurd (omega (arith, past))
whole {X} (x ∷ xs) (suc i) past = ap (λ (ys : List X). x ∷ ys) (whole xs i (omega (arith, past)))

none_for : (name : List ℕ) (added : List Added) → list_any (λ a. same_text a.table name) added ≡ false → rows_for name added ≡ 0
none_for name [] none = refl
none_for name (a ∷ as_) none = elim (same_text a.table name) as (λ b. (b || list_any (λ (x : Added). same_text x.table name) as_) ≡ false → (if b then length a.rows + rows_for name as_ else rows_for name as_) ≡ 0) [
  | true ↦ λ e. absurd cc
  | false ↦ λ e. none_for name as_ e
] none

-- a table has the room that is needed
abbrev HasRoomFor : (List ℕ → ℕ) → History → List ℕ → Type 0
HasRoomFor need h name = has_spare_rows h.spares name (need name) ≡ true

-- one of the parts names the table
abbrev names : List ℕ → List Added → Bool
names name parts = list_any (λ a. same_text a.table name) parts

pub room_more : (need : List ℕ → ℕ) (named : List Added) (h h' : History) (i : ℕ) (part : Added) → part ≡ get_or named i part → i < length named → KeepsRoom h h' → HasRoomFor need h' part.table →
    ((name : List ℕ) → names name (take i named) ≡ true → HasRoomFor need h name) → (name : List ℕ) → names name (take (i + 1) named) ≡ true → HasRoomFor need h' name
room_more need named h h' i part is within keeps room before name some =
    let next : i + 1 ≡ suc i = omega arith in
    let some' : names name (take (suc i) named) ≡ true = ap (λ (n : ℕ). names name (take n named)) (sym next) ∙ some in
    elim (names name (take i named)) as (λ b. names name (take i named) ≡ b → HasRoomFor need h' name) [
      | true ↦ λ e. keeps name (need name) (before name e)
      | false ↦ λ e. subst (HasRoomFor need h') (same_text_is part.table name (last_passes (λ (a : Added). same_text a.table name) named i part is within some' e)) room
    ] refl

-- a part of a table that is named already makes no difference

named_more : (name : List ℕ) (parts : List Added) (i : ℕ) (part : Added) → part ≡ get_or parts i part → i < length parts → names part.table (take i parts) ≡ true → names name (take (suc i) parts) ≡ true → names name (take i parts) ≡ true
named_more name parts i part is within before some =
    elim (names name (take i parts)) as (λ b. names name (take i parts) ≡ b → b ≡ true) [
      | true ↦ λ e. refl
      | false ↦ λ e.
          let same = same_text_is part.table name (last_passes (λ (a : Added). same_text a.table name) parts i part is within some e) in
          sym e ∙ subst (λ (n : List ℕ). names n (take i parts) ≡ true) same before
    ] refl

pub room_again : (need : List ℕ → ℕ) (named : List Added) (h : History) (i : ℕ) (part : Added) → part ≡ get_or named i part → i < length named → names part.table (take i named) ≡ true → ((name : List ℕ) → names name (take i named) ≡ true → HasRoomFor need h name) →
    (name : List ℕ) → names name (take (i + 1) named) ≡ true → HasRoomFor need h name
room_again need named h i part is within before made name some =
    let next : i + 1 ≡ suc i = omega arith in
    made name (named_more name named i part is within before (ap (λ (n : ℕ). names name (take n named)) (sym next) ∙ some))

pub there_is : (parts : List Added) (i : ℕ) → i < length parts → (part : Added) × (part ≡ get_or parts i part)
there_is [] i within = absurd (omega arith)
there_is (x ∷ xs) zero within = (x, refl)
there_is (x ∷ xs) (suc i) within = there_is xs i (omega arith)

-- the part at an earlier place is among the first
among_first : (p : Added → Bool) (parts : List Added) (i j : ℕ) (part : Added) → part ≡ get_or parts i part → i < j → i < length parts → p part ≡ true → list_any p (take j parts) ≡ true
among_first p [] i j part is before within passes = absurd (omega arith)
among_first p (x ∷ xs) zero zero part is before within passes = absurd (omega arith)
among_first p (x ∷ xs) (suc i) zero part is before within passes = absurd (omega arith)
among_first p (x ∷ xs) zero (suc j) part is before within passes = let first : p x ≡ true = ap p (sym is) ∙ passes in rw first refl
among_first p (x ∷ xs) (suc i) (suc j) part is before within passes = or_later (p x) (list_any p (take j xs)) (among_first p xs i j part is (omega arith) (omega arith) passes)
  where
    or_later : (a b : Bool) → b ≡ true → (a || b) ≡ true
    or_later true b e = refl
    or_later false b e = e

pub repeated : (parts : List Added) (i j : ℕ) (before part part' : Added) → before ≡ get_or parts i before → i < j → i < length parts → part ≡ get_or parts j part → part' ≡ get_or parts j part' → j < length parts → same_text before.table part.table ≡ true → names part'.table (take j parts) ≡ true
repeated parts i j before part part' is lower within at also here same =
    let P : Added → Type 0 = λ a. names a.table (take j parts) ≡ true in
    subst P (once parts j part part' at also here) (among_first (λ (a : Added). same_text a.table part.table) parts i j before is lower within same)
  where
    once : (xs : List Added) (k : ℕ) (x y : Added) → x ≡ get_or xs k x → y ≡ get_or xs k y → k < length xs → x ≡ y
    once [] k x y e f within = absurd (omega arith)
    once (z ∷ zs) zero x y e f within = e ∙ sym f
    once (z ∷ zs) (suc k) x y e f within = once zs k x y e f (omega arith)

pub room_named : (need : List ℕ → ℕ) (named : List Added) (h : History) (i : ℕ) → length named ≤ i → ((name : List ℕ) → names name (take i named) ≡ true → HasRoomFor need h name) → (name : List ℕ) → names name named ≡ true → HasRoomFor need h name
room_named need named h i past made name some = made name (ap (names name) (whole named i past) ∙ some)

pub room_all : (running : List KeptTransaction) (added more : List Added) (h h' h'' : History) → KeepsRoom h h' → KeepsRoom h' h'' → ((name : List ℕ) → names name added ≡ true → HasRoomFor (rows_needed running added more) h' name) →
    ((name : List ℕ) → names name more ≡ true → HasRoomFor (rows_needed running added more) h'' name) → ((name : List ℕ) → has_spare_rows h.spares name (total (table_rows_for name) running) ≡ true) → (name : List ℕ) → HasRoomFor (rows_needed running added more) h'' name
room_all running added more h h' h'' keeps keeps' first second rooms name =
    let need = rows_needed running added more name in
    elim (names name added) as (λ b. names name added ≡ b → has_spare_rows h''.spares name need ≡ true) [
      | true ↦ λ e. keeps' name need (first name e)
      | false ↦ λ e. elim (names name more) as (λ b. names name more ≡ b → has_spare_rows h''.spares name need ≡ true) [
        | true ↦ λ f. second name f
        | false ↦ λ f.
            let m = total (table_rows_for name) running in
            let same : need ≡ m = omega (arith, none_for name added e, none_for name more f) in
            ap (λ (n : ℕ). has_spare_rows h''.spares name n) same ∙ keeps' name m (keeps name m (rooms name))
      ] refl
    ] refl

-- what follows from an answer
pub if_made : {X E : Type 0} {A B : Type 0} (r : Result X E) → (A → B) → OnOk r A → OnOk r B
if_made (Ok x) f made = f made
if_made (Err e) f made = made

-- what room is made for

history_kept : (st : State) (h h' : History) → h'.first ≡ h.first → h'.tables ≡ h.tables → IsHistory st h → IsHistory st h'
history_kept st h h' first tables kept =
    let P : ℕ × List Tables → Type 0 = λ p. IsHistory st (record { first = p.0; tables = p.1; spares = h'.spares }) in
    subst P (λ i. (sym first i, sym tables i)) (record { some = kept.some; counted = kept.counted; tables = kept.tables; snapshots = kept.snapshots })

pub reserved_consistent : (es es' : List Entry) (h h' : History) (rs rs' : List KeptTransaction) (catalog catalog' : Catalogued) (spare spare' number : ℕ) → IsConsistent (chronicle_of es) h rs catalog spare number → es' ≡ es → h'.first ≡ h.first → h'.tables ≡ h.tables → catalog'.rows ≡ catalog.rows →
    AreOpen (state (chronicle_of es)).running rs' → HaveOwnSessions rs' → HasRooms rs' h' catalog' spare' → IsConsistent (chronicle_of es') h' rs' catalog' spare' number
reserved_consistent es es' h h' rs rs' catalog catalog' spare spare' number consistent same first tables rows open_ own rooms =
    let stands = consistent.stands in
    let P : List Entry → Type 0 = λ ns. IsConsistent (chronicle_of ns) h' rs' catalog' spare' number in
    let W : List CatRow → Type 0 = λ ws. IsWritten (state (chronicle_of es)) ws in
    subst P (sym same) (record {
      legal = consistent.legal;
      stands = record {
        history = history_kept (state (chronicle_of es)) h h' first tables stands.history;
        open_ones = open_;
        own_sessions = own;
        written = subst W (sym rows) stands.written;
        numbered = stands.numbered;
        rooms = rooms;
        few_versions = stands.few_versions;
        few_numbers = stands.few_numbers;
      };
    })

-- no room was made, but there may be more
pub more_rooms : (rs : List KeptTransaction) (h h' : History) (catalog catalog' : Catalogued) (spare spare' : ℕ) → HasRooms rs h catalog spare → spare ≤ spare' → KeepsRoom h h' → total catalog_rows_for rs ≤ catalog'.spare → HasRooms rs h' catalog' spare'
more_rooms rs h h' catalog catalog' spare spare' rooms more keeps rows = record {
  fit = rooms.fit;
  entries = omega (arith, rooms.entries, more);
  catalog_rows = rows;
  table_rows = λ name. keeps name (total (table_rows_for name) rs) (rooms.table_rows name);
}

-- room was made for one of the transactions
pub made_rooms : (rs : List KeptTransaction) (place : ℕ) (r : KeptTransaction) (room : Room) (h h' : History) (catalog catalog' : Catalogued) (spare spare' : ℕ) → HasRooms rs h catalog spare → r ≡ get_or rs place r → IsRoomFor r.removed.items room → length rs ≤ spare' →
    total catalog_rows_for rs + vec_len room.rows ≤ catalog'.spare → ((name : List ℕ) → has_spare_rows h'.spares name (total (table_rows_for name) rs + rows_for name r.added.items) ≡ true) → HasRooms (with_room room rs place) h' catalog' spare'
made_rooms rs place r room h h' catalog catalog' spare spare' rooms is made entries rows tables = record {
  fit = fits_kept room rs place r is made rooms.fit;
  entries = omega (arith, few_rooms (with_room room rs place), length_kept room rs place, entries);
  catalog_rows = omega (arith, total_kept catalog_rows_for room rs place r is, rows);
  table_rows = λ name. fewer_rows h'.spares name (total (table_rows_for name) (with_room room rs place)) (total (table_rows_for name) rs + rows_for name r.added.items) (total_kept (table_rows_for name) room rs place r is) (tables name);
}

-- a session with a transaction is found
pub open_found : (session : ℕ) (st : State) (rs ys : List KeptTransaction) (found : Option ℕ) → ys ≡ rs → found ≡ position (λ r. nat_eq r.session session) ys → AreOpen st.running rs → IsSome (transaction st session) → IsSome found
open_found session st rs ys None same is open_ some =
    let none = open_none session st.running rs open_ (found_nowhere session rs ys None same is refl) in
    let P : Option Transaction → Type 0 = λ o. IsSome o in
    let nothing = subst P none some in
    absurd cc
open_found session st rs ys (Some place) same is open_ some = refl

pub at_some : (session : ℕ) (rs : List KeptTransaction) (place : ℕ) → IsAt session rs place → (r : KeptTransaction) × (r ≡ get_or rs place r)
at_some session [] place at = absurd at
at_some session (r ∷ rs) zero at = (r, refl)
at_some session (r ∷ rs) (suc place) at = at_some session rs place at.1
