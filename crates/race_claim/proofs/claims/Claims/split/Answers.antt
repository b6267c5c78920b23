use Rattle.std.proofs.Common.{rules}
use Rattle.race_claim.proofs.Keeps.{splits}
use Rattle.race_claim.proofs.claims.Claims.split.Goals as goal

pub split_seat-requires : goal.split_seat-requires
split_seat-requires c = (search rules, search rules, splits _ _ _)
