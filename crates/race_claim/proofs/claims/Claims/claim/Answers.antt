use Rattle.std.proofs.Common.{rules, arith}
use Rattle.race_claim.proofs.Keeps.{claims}
use Rattle.race_claim.proofs.claims.Claims.claim.Goals as goal

pub compare_exchange-found-requires : goal.compare_exchange-found-requires
compare_exchange-found-requires c =
    let key = c.args.self.now.one_word_each.1 in
    let task = c.requires.task in
    (search rules, search rules, claims _ _ _ _ _ _ (omega arith) c.requires.attempt (omega arith))
