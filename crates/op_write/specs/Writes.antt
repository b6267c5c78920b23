-- What one attempt of a task writes: a blob, and the items that say what it makes of the table's
-- files.
use Rattle.std.specs.Prelude.{◌==◌, ◌||◌, ◌∷◌, [], ℕ, Bool, List, Option, Some, None, length, map}
use Rattle.std.specs.Prelude.{filter, if◌then◌else◌}
use Rattle.std.specs.List.{list_all, range_with_len}
use Rattle.lake_values.specs.Schemas.{TableColumns}
use Rattle.lake_values.specs.declared.names.Kind.{Kind}
use Rattle.lake_values.specs.declared.names.Kind.TheVariants.{File, Vector}
use Rattle.lake_values.specs.declared.names.Name.{Name}
use Rattle.lake_values.specs.declared.values.Value.{Value}
use Rattle.lake_outside.specs.Ports.{ToldBlob}
use Rattle.column_file.specs.Spelling.{spelling_of}
use Rattle.deletion_vector.specs.Positions.{has}
use Rattle.deletion_vector.specs.Spelling.{vector_spelling}
use Rattle.manifest_block.specs.declared.items.Item.{Item}
use Rattle.manifest_block.specs.declared.items.Item.TheVariants.{Add, Remove, SetVector}
use Rattle.op_write.specs.declared.keys.WriteKey.{WriteKey}

-- a blob with its bytes, if the attempt writes one, and its items
pub record Output : Type 0 where
  pub blob : Option ToldBlob
  pub items : List Item

abbrev pub nothing : Output
nothing = record { blob = None; items = [] }

-- the name of what the attempt writes
abbrev pub name_of : Kind → WriteKey → Name
name_of kind key =
    record { kind = kind; txn = key.txn; part = key.part; task = key.task; attempt = key.attempt }

-- the attempt's file of rows, and the item that adds it

abbrev pub file_blob : WriteKey → TableColumns → List (List Value) → ToldBlob
file_blob key schema rows = record { name = name_of File key; bytes = spelling_of schema rows }

abbrev pub add_item : WriteKey → List (List Value) → Item
add_item key rows = Add key.table key.cell key.part (name_of File key) (length rows)

-- A task that adds rows to a cell writes a file of them. Where it has none, it writes nothing.
abbrev pub file_output : WriteKey → TableColumns → List (List Value) → Output
file_output key schema [] = nothing
file_output key schema (row ∷ rows) =
    record {
      blob = Some (file_blob key schema (row ∷ rows));
      items = add_item key (row ∷ rows) ∷ [];
    }

-- the positions of so many rows that are gone: those that were, and those of new ones
abbrev pub gone_with : ℕ → List ℕ → List ℕ → List ℕ
gone_with rows before gone = filter (λ p. has p before || has p gone) (range_with_len 0 rows)

-- each of the positions was gone before
abbrev pub were_gone : List ℕ → List ℕ → Bool
were_gone before gone = list_all (λ p. has p before) gone

-- the attempt's vector of positions, with the count of all of them
abbrev pub vector_of : WriteKey → Name → List ℕ → Output
vector_of key file positions =
    record {
      blob = Some (record { name = name_of Vector key; bytes = vector_spelling positions });
      items = SetVector key.table file (name_of Vector key) (length positions) ∷ [];
    }

abbrev pub removal_of : WriteKey → Name → Output
removal_of key file = record { blob = None; items = Remove key.table file ∷ [] }

-- A task that removes rows of a file gives it a vector of all positions that are gone then. Where
-- no row is left, it removes the file and writes no blob; where it removes none, it writes nothing.
abbrev pub vector_output : WriteKey → Name → ℕ → List ℕ → List ℕ → Output
vector_output key file rows before gone =
    let positions = gone_with rows before gone in
    if were_gone before gone then nothing else
    if length positions == rows then removal_of key file else
    vector_of key file positions

-- A task that merges files writes one of the rows that are left, in place of them.
abbrev pub merge_output : WriteKey → TableColumns → List (List Value) → List Name → Output
merge_output key schema rows replaced =
    record {
      blob = Some (file_blob key schema rows);
      items = add_item key rows ∷ map (Remove key.table) replaced;
    }
