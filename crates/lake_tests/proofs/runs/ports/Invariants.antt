use Rattle.std.proofs.Common.{◌≡◌, vec_len}
use Rattle.lake_tests.proofs.runs.ports.Given as goal

abbrev pub invariant-loop : goal.invariant-loop
invariant-loop l = vec_len l.ports ≡ l.counter
