use Rattle.std.proofs.Common.{rules}
use Rattle.race_claim.proofs.Keeps.{looks}
use Rattle.race_claim.proofs.claims.Claims.holder.Goals as goal

pub load-found-requires : goal.load-found-requires
load-found-requires c = (search rules, search rules, looks _ _ _ _ _)
