-- What a catalogue holds. A blob is its name and the bytes that its port tells.
use Rattle.std.specs.Prelude.{ℕ, ◌==◌, ◌<◌, ◌≤◌, not, List, [], ◌∷◌, ◌++◌, Option, filter}
use Rattle.std.specs.List.{AllByRecursion}
use Rattle.lake_outside.specs.Ports.{ToldBlob}
use Rattle.manifest_block.specs.declared.items.Item.{Item}
use Rattle.write_set_catalog.specs.declared.rows.CatRow.{CatRow}
use Rattle.write_set_catalog.specs.declared.running.RunningTxn.{RunningTxn}
use Rattle.write_set_catalog.specs.declared.tables.CatTable.{CatTable}

-- a commit: its manifest, the items of that in their blocks, and what it did to each table
pub record ToldCommit : Type 0 where
  pub seq : ℕ
  pub manifest : Option ToldBlob
  pub blocks : List (List Item)
  pub rows : List CatRow

-- a checkpoint of a table at a version, and the number of the last transaction before its own
pub record ToldCheck : Type 0 where
  pub table : List ℕ
  pub at : ℕ
  pub begun : ℕ
  pub blob : ToldBlob

pub record Catalogue : Type 0 where
  pub tables : List CatTable
  pub commits : List ToldCommit
  pub checks : List ToldCheck
  pub blobs : List ToldBlob
  pub running : List RunningTxn
  pub last : ℕ
  pub last_number : ℕ
  pub floor : ℕ

-- of a lake without commits
abbrev pub empty : Catalogue
empty = record {
  tables = [];
  commits = [];
  checks = [];
  blobs = [];
  running = [];
  last = 0;
  last_number = 0;
  floor = 0;
}

-- a catalogue, and how many commits and blobs more it has room for
pub record Catalogued : Type 0 where
  pub catalogue : Catalogue
  pub spare_commits : ℕ
  pub spare_blobs : ℕ

-- each commit is later than those before it
abbrev pub AreInOrder : List ToldCommit → Type 0
AreInOrder [] = Unit {0}
AreInOrder (c ∷ cs) = AllByRecursion (λ d. c.seq < d.seq) cs × AreInOrder cs

-- none is later than this one
abbrev pub AreUpTo : ℕ → List ToldCommit → Type 0
AreUpTo last commits = AllByRecursion (λ c. c.seq ≤ last) commits

-- each call gives one of these

abbrev pub with_table : CatTable → Catalogue → Catalogue
with_table table c = record c { tables = c.tables ++ table ∷ []; last = table.since }

abbrev pub with_commit : ToldCommit → Catalogue → Catalogue
with_commit commit c = record c { commits = c.commits ++ commit ∷ []; last = commit.seq }

abbrev pub with_check : ToldCheck → Catalogue → Catalogue
with_check check c = record c { checks = c.checks ++ check ∷ [] }

abbrev pub with_blob : ToldBlob → Catalogue → Catalogue
with_blob blob c = record c { blobs = c.blobs ++ blob ∷ [] }

abbrev pub with_running : RunningTxn → Catalogue → Catalogue
with_running txn c = record c { running = c.running ++ txn ∷ []; last_number = txn.number }

abbrev pub without_running : ℕ → Catalogue → Catalogue
without_running number c =
    record c { running = filter (λ t. not (t.number == number)) c.running }

abbrev pub with_floor : ℕ → Catalogue → Catalogue
with_floor floor c = record c { floor = floor }
