-- That a catalogue stands for a chronicle.
use Rattle.std.specs.Prelude.{◌≡◌, ℕ, ◌==◌, ◌&&◌, ◌≤◌, Bool, List, Ok, IfSome, IsTrue, filter}
use Rattle.std.specs.Prelude.{map, nat_le}
use Rattle.std.specs.List.{AllByRecursion, list_any}
use Rattle.lake_values.specs.Schemas.{TableColumns}
use Rattle.sql_model.specs.Versions.{Tables}
use Rattle.lake_model.specs.State.{State, last, version_at}
use Rattle.manifest_block.specs.Reading.{manifest_of}
use Rattle.write_set_catalog.specs.Catalogs.{Catalogue, ToldCommit}
use Rattle.write_set_catalog.specs.declared.running.RunningTxn.{RunningTxn}
use Rattle.write_set_catalog.specs.declared.tables.CatTable.{CatTable}
use Rattle.file_laws.specs.Collector.{open_of}
use Rattle.file_laws.specs.Kept.{IsKept}
use Rattle.file_laws.specs.Noting.{IsNoted}
use Rattle.lake_laws.specs.Books.{book}
use Rattle.lake_laws.specs.Chronicles.{Beside, chronicle, state_of}

-- the names of tables, with their schemas
abbrev pub schemas_in : Tables → List (List ℕ × TableColumns)
schemas_in tables = map (λ t. (t.name, t.schema)) tables

-- those of the catalogue's tables that a version has
abbrev pub tables_at : Catalogue → ℕ → List CatTable
tables_at c version = filter (λ t. nat_le t.since version) c.tables

-- each version has the catalogue's tables that were created up to it
abbrev pub TablesAgree : Catalogue → State → Type 0
TablesAgree c st =
    (version : ℕ) → version ≤ last st
    → schemas_in (version_at st version).tables
    ≡ map (λ t. (t.name, t.schema)) (tables_at c version)

-- a transaction is this one
abbrev pub is_open_as : RunningTxn → RunningTxn → Bool
is_open_as o p = (o.number == p.number) && (o.snapshot == p.snapshot)

-- the catalogue's open transactions are those of the chronicle
abbrev pub RunningAgrees : Catalogue → State → Type 0
RunningAgrees c st =
    (o : RunningTxn) → list_any (is_open_as o) c.running
    ≡ list_any (is_open_as o) (map open_of st.running)

-- the bytes of the commit's manifest spell its items
abbrev pub SpellsItems : ToldCommit → Type 0
SpellsItems c = IfSome c.manifest (λ m. manifest_of m.bytes ≡ Ok c.blocks)

-- What a catalogue has to do with a chronicle. The chronicle is legal, as far as is told. Over
-- every
-- port the catalogue has its tables, open transactions, numbers and checkpoints, the names of each
-- version from the floor on, and the marks that each commit struck. Where the port tells, the bytes
-- of manifests spell the items of their commits, and the files that these give, with what their
-- blobs hold, are the rows of the versions and of what the open transactions see.
pub record IsStanding (told : Bool) (c : Catalogue) (entries : List Beside) : Type 0 where
  pub noted : IsNoted told (book c entries) (chronicle entries)
  pub kept : IsTrue told → IsKept (book c entries) (chronicle entries)
  pub spelled : IsTrue told → AllByRecursion SpellsItems c.commits
  pub tables : TablesAgree c (state_of entries)
  pub since : AllByRecursion (λ t. t.since ≤ c.last) c.tables
  pub running : RunningAgrees c (state_of entries)
  pub last : c.last ≡ last (state_of entries)
  pub number : c.last_number ≡ (state_of entries).last_number
  pub floor : c.floor ≡ (state_of entries).floor
