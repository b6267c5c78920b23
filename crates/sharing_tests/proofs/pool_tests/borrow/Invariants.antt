use Rattle.sharing_tests.specs.Borrowers.{HoldsNone}
use Rattle.sharing_tests.proofs.pool_tests.borrow.Given as goal

abbrev pub invariant-loop : goal.invariant-loop
invariant-loop g l = HoldsNone l.pool 1 l.pass
