-- What bounds the calls of the functions that read expressions.
use Rattle.std.proofs.Common.{ℕ}
use Rattle.sql_parser.specs.declared.expressions.Chain.{Chain}
use Rattle.sql_parser.specs.declared.expressions.Chain.TheVariants.{Product, Sum, Conjunction, Disjunction}

-- how many calls lead from a chain to a factor at most, at one level
abbrev pub rank : Chain → ℕ
rank Product = 3
rank Sum = 5
rank Conjunction = 11
rank Disjunction = 13
