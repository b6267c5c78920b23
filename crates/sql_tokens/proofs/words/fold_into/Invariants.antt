use Rattle.std.proofs.Common.{◌≡◌, map, take}
use Rattle.sql_tokens.specs.Tokens.{folded}
use Rattle.sql_tokens.proofs.words.fold_into.Given as goal

abbrev pub invariant-loop-place : goal.invariant-loop-place
invariant-loop-place l = take l.place l.name ≡ map folded (take l.place l.word)
