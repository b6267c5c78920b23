use Rattle.std.proofs.Common.{◌≡◌, ◌<◌, true, false, drop}
use Rattle.sql_tokens.specs.Tokens.{closing}
use Rattle.sql_tokens.proofs.texts.closing.Given as goal

abbrev pub invariant-loop-place : goal.invariant-loop-place
invariant-loop-place l = record {
  behind : l.behind_quote ≡ true → 0 < l.place;
  same : closing 0 false l.bytes ≡ closing l.place l.behind_quote (drop l.place l.bytes);
}
