use Rattle.std.proofs.Common.{rules}
use Rattle.race_claim.proofs.Keeps.{joins, agree, one_holder_each}
use Rattle.race_claim.proofs.claims.Claims.join.Goals as goal

pub join_seat-requires : goal.join_seat-requires
join_seat-requires c = (search rules, search rules, search rules, search rules, joins _ _ _ _ _)

pub load-requires : goal.load-requires
load-requires c = (search rules, search rules, agree _ _ _ _ _)

pub returns-clause-agreed : goal.returns-clause-agreed
returns-clause-agreed c = one_holder_each _ (search rules)
