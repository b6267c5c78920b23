-- The hash of bytes that stand one behind the other.
use Rattle.std.proofs.Common.{◌≡◌, ℕ, List, ◌++◌}
use Rattle.std.proofs.lemmas.List.Sums.{fold-append}
use Rattle.lake_values.specs.Cells.{hash_step, hash_from}

pub hash_from_append : (hash : ℕ) (a b : List ℕ) → hash_from hash (a ++ b) ≡ hash_from (hash_from hash a) b
hash_from_append hash a b = fold-append hash_step hash a b
