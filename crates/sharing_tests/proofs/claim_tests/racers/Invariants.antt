use Rattle.std.proofs.Common.{All}
use Rattle.race_claim.specs.Seats.{IsSeatOf}
use Rattle.sharing_tests.specs.Racers.{IsReady}
use Rattle.sharing_tests.proofs.claim_tests.racers.Given as goal

abbrev pub invariant-loop-attempt : goal.invariant-loop-attempt
invariant-loop-attempt l =
    IsSeatOf l.claims l.seat × All (λ r. IsReady l.claims r.seat r.attempt) l.racers.items
