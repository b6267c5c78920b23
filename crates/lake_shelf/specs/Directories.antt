-- The directory of a store: its blobs with their names, ascending.
use Rattle.std.specs.Prelude.{◌≡◌, ℕ, List, length, sum_by, Option, IsSome, unwrap_or}
use Rattle.std.specs.Option.{option_map}
use Rattle.std.specs.List.Sorted.{IsStrictlySortedBy}
use Rattle.std.specs.Map.{keys_of, lookup, remove_entry, values_of}
use Rattle.std.specs.BTreeMap.{is_at, insert_entry}
use Rattle.std.specs.declared.cmp.Ordering.{Ordering}
use Rattle.lake_values.specs.declared.names.Name.{Name}
use Rattle.lake_values.specs.contracts.names.NameOrd.TheImpl as order

-- the order of names: by their fields, one after another
abbrev pub name_cmp : Name → Name → Ordering
name_cmp = order.ghosts.cmp

-- the bytes listed under a name, if there are any
abbrev pub bytes_at : Name → List (Name × List ℕ) → Option (List ℕ)
bytes_at name blobs = lookup (is_at (name_cmp name)) blobs

-- the store lists the name
abbrev pub IsListed : Name → List (Name × List ℕ) → Type 0
IsListed name blobs = IsSome (bytes_at name blobs)

-- the store with these bytes under the name, and what it lists under other names
abbrev pub with_blob : Name → List ℕ → List (Name × List ℕ) → List (Name × List ℕ)
with_blob name bytes blobs = insert_entry name_cmp blobs name bytes

-- the store without the name
abbrev pub without_blob : Name → List (Name × List ℕ) → List (Name × List ℕ)
without_blob name blobs = remove_entry (is_at (name_cmp name)) blobs

-- how many bytes are listed under a name
abbrev pub len_at : Name → List (Name × List ℕ) → ℕ
len_at name blobs = unwrap_or (option_map length (bytes_at name blobs)) 0

-- how many bytes the blobs have together
abbrev pub total_of : List (Name × List ℕ) → ℕ
total_of blobs = sum_by length (values_of blobs)

-- what the directory keeps: its names ascend, so no two are equal, and the total is that of the blobs
pub record IsDirectory (blobs : List (Name × List ℕ)) (total : ℕ) : Type 0 where
  pub ascending : IsStrictlySortedBy name_cmp (keys_of blobs)
  pub counted : total ≡ total_of blobs
