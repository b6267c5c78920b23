-- How many bytes the blobs have together, after a change of the directory.
use Rattle.std.proofs.Common.{ℕ, ◌≡◌, ◌+◌, ◌≤◌, List, length, arith}
use Rattle.std.specs.List.Sorted.{IsStrictlySortedBy}
use Rattle.std.specs.Map.{keys_of}
use Rattle.std.specs.BTreeMap.{is_at}
use Rattle.std.proofs.lemmas.Map.Entries.{sum_by-remove_entry, sum_by-insert_entry}
use Rattle.lake_values.specs.declared.names.Name.{Name}
use Rattle.lake_values.specs.contracts.names.NameOrd.TheImpl.Laws as laws
use Rattle.lake_shelf.specs.Directories.{name_cmp, len_at, with_blob, without_blob, total_of}

pub total_of_without : (name : Name) (blobs : List (Name × List ℕ)) → total_of (without_blob name blobs) + len_at name blobs ≡ total_of blobs
total_of_without name blobs = sum_by-remove_entry length (is_at (name_cmp name)) blobs

pub len_at_le : (name : Name) (blobs : List (Name × List ℕ)) → len_at name blobs ≤ total_of blobs
len_at_le name blobs = omega (arith, total_of_without name blobs)

pub total_of_with : (name : Name) (bytes : List ℕ) (blobs : List (Name × List ℕ)) → IsStrictlySortedBy name_cmp (keys_of blobs)
    → total_of (with_blob name bytes blobs) + len_at name blobs ≡ total_of blobs + length bytes
total_of_with name bytes blobs ascending = sum_by-insert_entry length laws.total-law blobs name bytes ascending
