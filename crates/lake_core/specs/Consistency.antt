-- What a lake keeps beside its chronicle.
use Rattle.std.specs.Prelude.{◌≡◌, ◌≤◌, ◌<◌, ℕ, ◌+◌, true, false, List, map, length}
use Rattle.std.specs.List.{AllByRecursion}
use Rattle.lake_model.specs.declared.entries.Entry.{Entry}
use Rattle.lake_model.specs.Allowed.{IsLegal}
use Rattle.lake_model.specs.State.{State, Noted, state, version_at}
use Rattle.table_history.specs.Histories.{History, has_spare_rows, tables_in}
use Rattle.lake_core.specs.Catalogs.{Catalogued}
use Rattle.lake_core.specs.declared.transactions.KeptTransaction.{KeptTransaction}
use Rattle.lake_core.specs.Rooms.{AreOpen, HaveOwnSessions, RoomFits, IsWritten, catalog_rows_for, entries_for, table_rows_for, total}

-- an entry that doesn't end an explicit transaction: no statement fails so far
abbrev pub noted_entry : Entry → Noted
noted_entry e = record { entry = e; ends = false }

-- the chronicle of entries that a lake keeps
abbrev pub chronicle_of : List Entry → List Noted
chronicle_of entries = map noted_entry entries

-- the tables of the versions from the first that is kept on; no open transaction has an older snapshot
pub record IsHistory (st : State) (h : History) : Type 0 where
  pub some : 0 < length h.tables
  pub counted : h.first + length h.tables ≡ length st.versions
  pub tables : (n : ℕ) → h.first ≤ n → n < length st.versions → tables_in h n ≡ (version_at st n).tables
  pub snapshots : AllByRecursion (λ o. h.first ≤ o.1.snapshot) st.running

-- there is room for what is reserved
pub record HasRooms (running : List KeptTransaction) (h : History) (catalog : Catalogued) (spare : ℕ) : Type 0 where
  pub fit : AllByRecursion RoomFits running
  pub entries : total entries_for running ≤ spare
  pub catalog_rows : total catalog_rows_for running ≤ catalog.spare
  pub table_rows : (name : List ℕ) → has_spare_rows h.spares name (total (table_rows_for name) running) ≡ true

-- what is kept is what the state after so many entries says
pub record StandsFor (st : State) (count : ℕ) (h : History) (running : List KeptTransaction) (catalog : Catalogued) (spare number : ℕ) : Type 0 where
  pub history : IsHistory st h
  pub open_ones : AreOpen st.running running
  pub own_sessions : HaveOwnSessions running
  pub written : IsWritten st catalog.rows
  pub numbered : st.last_number ≡ number
  pub rooms : HasRooms running h catalog spare
  pub few_versions : length st.versions ≤ count + 1
  pub few_numbers : number ≤ count

-- the chronicle is legal, and what is kept is what its state says
pub record IsConsistent (entries : List Noted) (h : History) (running : List KeptTransaction) (catalog : Catalogued) (spare number : ℕ) : Type 0 where
  pub legal : IsLegal true entries
  pub stands : StandsFor (state entries) (length entries) h running catalog spare number
