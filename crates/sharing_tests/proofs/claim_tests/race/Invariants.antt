use Rattle.sharing_tests.specs.Racers.{IsReady}
use Rattle.sharing_tests.proofs.claim_tests.race.Given as goal

abbrev pub invariant-loop-task : goal.invariant-loop-task
invariant-loop-task l = IsReady l.claims l.racer.seat l.racer.attempt
