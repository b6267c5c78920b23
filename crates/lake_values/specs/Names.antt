-- The order of names of blobs.
use Rattle.std.specs.Prelude.{ℕ, Bool, true, ◌&&◌, List, [], ◌∷◌}
use Rattle.std.specs.List.{list_all, list_any}
use Rattle.std.specs.Ordering.{nat_cmp, on, then_cmp, is_eq, is_lt}
use Rattle.std.specs.declared.cmp.Ordering.{Ordering}
use Rattle.lake_values.specs.declared.names.Kind.{Kind}
use Rattle.lake_values.specs.declared.names.Kind.TheVariants.{File, Vector, Manifest, Checkpoint}
use Rattle.lake_values.specs.declared.names.Name.{Name}

abbrev pub kind_rank : Kind → ℕ
kind_rank File = 0
kind_rank Vector = 1
kind_rank Manifest = 2
kind_rank Checkpoint = 3

-- by kind, transaction, part, task and attempt
abbrev pub name_cmp : Name → Name → Ordering
name_cmp =
    then_cmp (on (λ n. kind_rank n.kind) nat_cmp)
    (then_cmp (on (λ n. n.txn) nat_cmp)
    (then_cmp (on (λ n. n.part) nat_cmp) (then_cmp (on (λ n. n.task) nat_cmp) (on (λ n. n.attempt) nat_cmp))))

abbrev pub same_name : Name → Name → Bool
same_name m n = is_eq (name_cmp m n)

abbrev pub is_among : Name → List Name → Bool
is_among name names = list_any (same_name name) names

-- each name stands before the next
abbrev pub is_ascending : List Name → Bool
is_ascending [] = true
is_ascending (m ∷ ms) = list_all (λ n. is_lt (name_cmp m n)) ms && is_ascending ms
