-- Which names the rows of a catalogue give to the tables of a version.
use Rattle.std.specs.Prelude.{ℕ, Bool, ◌&&◌, map, not, List, Option, nat_le, nat_lt}
use Rattle.std.specs.List.{list_any}
use Rattle.std.specs.Option.{option_map}
use Rattle.lake_values.specs.declared.names.Name.{Name}
use Rattle.lake_values.specs.Names.{is_among}
use Rattle.lake_values.specs.Texts.{same_text}
use Rattle.write_set_catalog.specs.Catalogs.{ToldCommit}
use Rattle.write_set_catalog.specs.declared.rows.CatRow.{CatRow}

-- a row's commit and table, its manifest's name, and the names that the table gained and lost
pub record NamesRow : Type 0 where
  pub seq : ℕ
  pub table : List ℕ
  pub manifest : Option Name
  pub added : List Name
  pub dropped : List Name

-- those of a commit
abbrev pub names_of_row : ℕ → Option Name → CatRow → NamesRow
names_of_row seq manifest r = record {
  seq = seq;
  table = r.table;
  manifest = manifest;
  added = r.added;
  dropped = r.dropped;
}

abbrev pub names_of : ToldCommit → List NamesRow
names_of commit = map (names_of_row commit.seq (option_map (λ b. b.name) commit.manifest)) commit.rows

-- up to this version a later row of the table than the one of this commit drops the name
abbrev pub drops : ℕ → NamesRow → Name → NamesRow → Bool
drops version r name s =
    same_text s.table r.table && nat_lt r.seq s.seq && nat_le s.seq version
    && is_among name s.dropped

-- the row gives its table the name, and the table still has it at the version
abbrev pub gives : List NamesRow → ℕ → Name → NamesRow → Bool
gives rows version name r =
    nat_le r.seq version && is_among name r.added && not (list_any (drops version r name) rows)

-- the version has the name
abbrev pub has_name : List NamesRow → ℕ → Name → Bool
has_name rows version name = list_any (gives rows version name) rows

-- the table has the name at the version
abbrev pub table_has : List NamesRow → ℕ → List ℕ → Name → Bool
table_has rows version table name =
    list_any (λ r. same_text r.table table && gives rows version name r) rows
