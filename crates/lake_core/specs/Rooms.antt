-- What a lake keeps of open transactions, and what room is reserved for them.
use Rattle.std.specs.Prelude.{◌≡◌, ◌≢◌, ◌≤◌, ℕ, zero, suc, ◌+◌, Bool, false, ◌&&◌, List, [], ◌∷◌, ◌++◌, None, Some, map, filter, length, vec_len, vec_capacity, is_some, IfSome, if◌then◌else◌, nat_eq}
use Rattle.std.specs.List.{AllByRecursion, list_any}
use Rattle.std.specs.Option.{option_map_or}
use Rattle.lake_values.specs.Schemas.{TableColumns}
use Rattle.sql_model.specs.declared.changes.Added.{Added}
use Rattle.sql_model.specs.declared.changes.Change.{Change}
use Rattle.lake_model.specs.declared.entries.Entry.{Entry}
use Rattle.sql_model.specs.declared.changes.MarkedRow.{MarkedRow}
use Rattle.sql_model.specs.Changes.{additions_left, committed, own}
use Rattle.sql_model.specs.Listing.{SameBag}
use Rattle.lake_model.specs.State.{State, Transaction, opened_by, version_at}
use Rattle.sql_model.specs.Units.{ConflictUnit, share_unit, marks_of, units_of_marks}
use Rattle.sql_model.specs.Versions.{Table, wrote}
use Rattle.lake_core.specs.declared.rows.CatRow.{CatRow}
use Rattle.lake_core.specs.Rows.{units_of_row}
use Rattle.table_history.specs.Histories.{NamesTables, rows_for}
use Rattle.table_history.specs.Strikes.{IsAscending}
use Rattle.lake_core.specs.declared.part_changes.PartChange.{PartChange}
use Rattle.lake_core.specs.declared.transactions.KeptTransaction.{KeptTransaction}
use Rattle.lake_core.specs.declared.transactions.Room.{Room}

-- the entries of a chronicle, and how many more it has room for
pub record Recorded : Type 0 where
  pub entries : List Entry
  pub spare : ℕ

-- what is kept of a session's transaction
pub record IsOpen (o : ℕ × Transaction) (open_ : KeptTransaction) : Type 0 where
  pub session : open_.session ≡ o.0
  pub explicit : open_.explicit ≡ o.1.explicit
  pub number : open_.number ≡ o.1.number
  pub snapshot : open_.snapshot ≡ o.1.snapshot
  pub parts : open_.parts ≡ o.1.parts
  pub removed : SameBag open_.removed.items o.1.pending.removed
  pub ascending : IsAscending open_.removed.items
  pub added : open_.added.items ≡ o.1.pending.added

-- what is kept is of the session's transaction
pub record OpenAt (session : ℕ) (os : List (ℕ × Transaction)) (r : KeptTransaction) : Type 0 where
  pub transaction : Transaction
  pub opened : opened_by session os ≡ Some transaction
  pub is : IsOpen (session, transaction) r

-- the transactions that are kept are the open ones, in their order
abbrev pub AreOpen : List (ℕ × Transaction) → List KeptTransaction → Type 0
AreOpen [] [] = Unit {0}
AreOpen (o ∷ os) (r ∷ rs) = IsOpen o r × AreOpen os rs
AreOpen [] (r ∷ rs) = ⊥
AreOpen (o ∷ os) [] = ⊥

-- no transaction is the session's
abbrev pub IsNoSession : ℕ → List KeptTransaction → Type 0
IsNoSession session rs = AllByRecursion (λ (r : KeptTransaction). nat_eq r.session session ≡ false) rs

-- no two transactions are of one session
abbrev pub HaveOwnSessions : List KeptTransaction → Type 0
HaveOwnSessions [] = Unit {0}
HaveOwnSessions (r ∷ rs) = IsNoSession r.session rs × HaveOwnSessions rs

-- the units of the rows' tables
abbrev pub units_of_rows : List MarkedRow → List ConflictUnit
units_of_rows rows = units_of_marks (marks_of rows)

-- the catalogue's rows write one of the units
abbrev pub rows_share : List CatRow → List ConflictUnit → Bool
rows_share rows us = list_any (λ r. share_unit (units_of_row r) us) rows

-- what a row of the catalogue says, as of this commit
abbrev pub stamped : ℕ → CatRow → CatRow
stamped seq r = record r { seq = seq }

-- what is made for the commit of a transaction that removed these rows
pub record IsRoomFor (removed : List MarkedRow) (room : Room) : Type 0 where
  pub used : vec_len room.used ≡ length removed
  pub names : NamesTables room.marks removed
  pub marks : (us : List ConflictUnit) → share_unit (units_of_marks room.marks) us ≡ share_unit (units_of_rows removed) us
  pub rows : (us : List ConflictUnit) → rows_share room.rows.items us ≡ share_unit (units_of_rows removed) us

abbrev pub RoomFits : KeptTransaction → Type 0
RoomFits r = IfSome r.room (IsRoomFor r.removed.items)

-- the sum of what the transactions weigh
abbrev pub total : (KeptTransaction → ℕ) → List KeptTransaction → ℕ
total g [] = 0
total g (r ∷ rs) = g r + total g rs

-- what is reserved for a transaction: an entry, rows of the catalogue, and rows of a table

abbrev pub entries_for : KeptTransaction → ℕ
entries_for r = if is_some r.room then 1 else 0

abbrev pub catalog_rows_for : KeptTransaction → ℕ
catalog_rows_for r = option_map_or (λ room. vec_len room.rows) r.room 0

abbrev pub table_rows_for : List ℕ → KeptTransaction → ℕ
table_rows_for name r = if is_some r.room then rows_for name r.added.items else 0

-- the rows of a table that are reserved, and those that these parts add to it
abbrev pub rows_needed : List KeptTransaction → List Added → List Added → List ℕ → ℕ
rows_needed rs added more name = total (table_rows_for name) rs + (rows_for name added + rows_for name more)

-- the sessions for which room is reserved
abbrev pub rooms_of : List KeptTransaction → List ℕ
rooms_of rs = map (λ r. r.session) (filter (λ r. is_some r.room) rs)

-- what a further statement changes, with memory for what its transaction changed before
pub record IsPartChange (before : KeptTransaction) (change : Change) (more : PartChange) : Type 0 where
  pub removed : more.removed.items ≡ committed change.removed
  pub own : more.own.items ≡ own change.removed
  pub added : more.added.items ≡ change.added
  pub none : more.parts.items ≡ []
  pub removed_room : vec_len before.removed + vec_len more.removed ≤ vec_capacity more.removed
  pub parts_room : vec_len before.added + vec_len more.added ≤ vec_capacity more.parts

-- what is pending after a further statement
pub record IsPended (old new : KeptTransaction) (change : Change) : Type 0 where
  pub session : new.session ≡ old.session
  pub explicit : new.explicit ≡ old.explicit
  pub number : new.number ≡ old.number
  pub snapshot : new.snapshot ≡ old.snapshot
  pub removed : SameBag new.removed.items (old.removed.items ++ committed change.removed)
  pub ascending : IsAscending new.removed.items
  pub added : new.added.items ≡ additions_left (own change.removed) old.added.items ++ change.added

-- what the catalogue says of the units that each commit wrote is what the versions say
pub record IsWritten (st : State) (rows : List CatRow) : Type 0 where
  pub units : (n : ℕ) (us : List ConflictUnit)
      → list_any (λ r. nat_eq r.seq n && share_unit (units_of_row r) us) rows
      ≡ share_unit (wrote (version_at st n)) us
  pub within : AllByRecursion (λ r. r.seq + 1 ≤ length st.versions) rows

-- room is reserved for the session
abbrev pub in_rooms : ℕ → List KeptTransaction → Bool
in_rooms session rs = list_any (λ n. nat_eq n session) (rooms_of rs)

-- the session has a transaction
abbrev pub has_open : ℕ → List KeptTransaction → Bool
has_open session rs = list_any (λ r. nat_eq r.session session) rs

-- a weight of what is reserved: a transaction for which no room is reserved weighs nothing, and parts don't count
pub record IsReservedWeight (g : KeptTransaction → ℕ) : Type 0 where
  pub none : (r : KeptTransaction) → r.room ≡ None → g r ≡ 0
  pub parts : (r : KeptTransaction) (n : ℕ) → g (record r { parts = n }) ≡ g r

-- the session keeps its room as long as it has a transaction, and every other session has its own
pub record KeepsRooms (session : ℕ) (old new : List KeptTransaction) : Type 0 where
  pub own : HaveOwnSessions new
  pub kept : in_rooms session new ≡ (in_rooms session old && has_open session new)
  pub others : (other : ℕ) → other ≢ session → in_rooms other new ≡ in_rooms other old

-- rooms are kept, and no more is reserved than before
pub record LeavesRooms (session : ℕ) (old new : List KeptTransaction) : Type 0 where
  pub keeps : KeepsRooms session old new
  pub fit : AllByRecursion RoomFits old → AllByRecursion RoomFits new
  pub less : (g : KeptTransaction → ℕ) → IsReservedWeight g → total g new ≤ total g old

-- the transactions, with room that is kept for the one at a place
abbrev pub with_room : Room → List KeptTransaction → ℕ → List KeptTransaction
with_room room [] place = []
with_room room (r ∷ rs) zero = record r { room = Some room } ∷ rs
with_room room (r ∷ rs) (suc place) = r ∷ with_room room rs place

-- a table of this name without rows
abbrev pub empty_table : List ℕ → TableColumns → Table
empty_table name schema = record { name = name; schema = schema; rows = [] }
