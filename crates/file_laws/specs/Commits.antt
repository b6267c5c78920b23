-- What a commit appends to a catalogue, and that the names of the versions stand afterwards.
use Rattle.std.specs.Prelude.{◌≡◌, ℕ, ◌+◌, ◌≤◌, ◌<◌, Bool, true, ◌&&◌, ◌||◌, not, List, ◌++◌}
use Rattle.std.specs.Prelude.{length}
use Rattle.std.specs.List.{AllByRecursion, list_any}
use Rattle.lake_values.specs.declared.names.Name.{Name}
use Rattle.lake_values.specs.Names.{is_among}
use Rattle.sql_model.specs.Versions.{Version}
use Rattle.lake_values.specs.Texts.{same_text}
use Rattle.lake_model.specs.State.{State, with_version, last}
use Rattle.file_laws.specs.Catalogues.{Catalogue, gives, has_name}
use Rattle.write_set_catalog.specs.Names.{NamesRow}
use Rattle.file_laws.specs.Collector.{names_at}

-- one of the rows drops the name from the table
abbrev pub is_dropped : List NamesRow → List ℕ → Name → Bool
is_dropped more table name = list_any (λ s. same_text s.table table && is_among name s.dropped) more

-- a table that has the name at the last version keeps it
abbrev pub is_left : Catalogue → List NamesRow → Name → Bool
is_left k more name =
    list_any (λ r. gives k k.last name r && not (is_dropped more r.table name)) k.rows

-- The rows of the next commit, which adds and drops these names: what a table keeps or adds is what
-- was there and isn't dropped, or is added.
pub record IsCommit (k : Catalogue) (more : List NamesRow) (gained lost : List Name) : Type 0 where
  pub behind : AllByRecursion (λ r. r.seq ≤ k.last) k.rows
  pub next : AllByRecursion (λ r. r.seq ≡ k.last + 1) more
  pub names :
      (name : Name)
      → (is_left k more name || list_any (λ r. is_among name r.added) more)
      ≡ ((has_name k k.last name && not (is_among name lost)) || is_among name gained)

-- the catalogue with the rows of the next commit
abbrev pub with_commit : Catalogue → List NamesRow → Catalogue
with_commit k more = record k { rows = k.rows ++ more; last = k.last + 1 }

-- the versions from the floor on have by the catalogue the names that they have
abbrev pub HaveNames : State → Catalogue → Type 0
HaveNames st k =
    (version : ℕ) (name : Name) → k.floor ≤ version → version ≤ k.last
    → has_name k version name ≡ is_among name (names_at st version)

-- After a commit too the versions have by the catalogue the names that they have.
abbrev pub CommitsStand : Type 0
CommitsStand =
    (st : State) (k : Catalogue) (more : List NamesRow) (version : Version)
    (added dropped : List Name)
    → length st.names ≡ length st.versions → 0 < length st.versions → k.last ≡ last st
    → k.floor ≤ k.last → IsCommit k more added dropped → HaveNames st k
    → HaveNames (with_version version dropped added st) (with_commit k more)

-- each name is of one table, and what the rows add and drop together is what the commit adds and
-- drops
pub record IsOwnedCommit
    (k : Catalogue) (more : List NamesRow) (gained lost : List Name) (owner : Name → List ℕ)
    : Type 0 where
  pub behind : AllByRecursion (λ r. r.seq ≤ k.last) k.rows
  pub next : AllByRecursion (λ r. r.seq ≡ k.last + 1) more
  pub added : (name : Name) → list_any (λ r. is_among name r.added) more ≡ is_among name gained
  pub dropped : (name : Name) → list_any (λ r. is_among name r.dropped) more ≡ is_among name lost
  pub adds_own :
      AllByRecursion (λ r. (name : Name) → is_among name r.added ≡ true → r.table ≡ owner name)
      k.rows
  pub drops_own :
      AllByRecursion (λ r. (name : Name) → is_among name r.dropped ≡ true → r.table ≡ owner name)
      more

-- Where each name is of one table, the rows are those of the commit.
abbrev pub OwnedCommits : Type 0
OwnedCommits =
    (k : Catalogue) (more : List NamesRow) (gained lost : List Name) (owner : Name → List ℕ)
    → IsOwnedCommit k more gained lost owner → IsCommit k more gained lost
