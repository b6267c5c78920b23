use Rattle.std.proofs.Common.{◌≡◌, ◌≤◌, min, drop}
use Rattle.std.specs.List.{fold}
use Rattle.sql_tokens.specs.Tokens.{number_value, with_digit}
use Rattle.sql_tokens.proofs.numbers.value_of.Given as goal

abbrev pub invariant-loop-digit : goal.invariant-loop-digit
invariant-loop-digit l = record {
  bound : l.value ≤ 9223372036854775809;
  same : number_value l.digits ≡ min (fold with_digit l.value (drop l.digit-index l.digits)) 9223372036854775809;
}
