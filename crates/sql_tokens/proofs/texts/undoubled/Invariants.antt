use Rattle.std.proofs.Common.{◌≡◌, ◌++◌, false, drop}
use Rattle.sql_tokens.specs.Tokens.{undoubled}
use Rattle.sql_tokens.proofs.texts.undoubled.Given as goal

abbrev pub invariant-loop-byte : goal.invariant-loop-byte
invariant-loop-byte l = undoubled false l.bytes ≡ l.value.items ++ undoubled l.behind_quote (drop l.byte-index l.bytes)
