-- Printed names are short enough to be texts.
use Rattle.std.proofs.Common.{◌≡◌, ℕ, ◌≤◌, ◌<◌, ◌^◌, List, ◌++◌, length, codes, IsTrue, arith, length-append, sym, subst}
use Rattle.std.proofs.lemmas.Bool.Decides.{nat_tests}
use Rattle.std.proofs.lemmas.Fmt.{length-decimal-le}
use Rattle.std.specs.Fmt.{decimal}
use Rattle.sql_model.specs.Form.{is_name}

name_short : (name : List ℕ) → IsTrue (is_name name) → length name ≤ 64
name_short name h = grind (arith, nat_tests)

dotted_length : (table column : List ℕ) → length table ≤ 64 → length column ≤ 64 → length (table ++ codes "." ++ column) ≤ 4096
dotted_length table column t c = omega (arith, length-append (table ++ codes ".") column, length-append table (codes "."))

pub dotted_short : (text table column : List ℕ) → IsTrue (is_name table) → IsTrue (is_name column) → text ≡ table ++ codes "." ++ column → length text ≤ 4096
dotted_short text table column t c e = subst (λ (x : List ℕ). length x ≤ 4096) (sym e) (dotted_length table column (name_short table t) (name_short column c))

pub number_short : (text : List ℕ) (n : ℕ) → n < 2 ^ 64 → text ≡ decimal n → length text ≤ 4096
number_short text n h e = subst (λ (x : List ℕ). length x ≤ 4096) (sym e) (omega (arith, length-decimal-le 20 n (omega arith) (omega arith) h))
