use Rattle.std.proofs.Common.{rules, arith}
use Rattle.server_pool.proofs.Places.{placed_begins, placed_all, closed_sum, closed_last}
use Rattle.server_pool.proofs.Places.{closed_deletions}
use Rattle.server_pool.proofs.pool.Pool.close.Goals as goal

pub place_all-requires-clause-placed : goal.place_all-requires-clause-placed
place_all-requires-clause-placed g c κs within =
    placed_begins _ _ _ _ c.requires.all.1 (search rules) c.room_of-places.ensures.empty

pub listed-requires-clause-full : goal.listed-requires-clause-full
listed-requires-clause-full g c =
    placed_all _ _ _ _ c.place_all.ensures.placed c.place_all.ensures.all

pub returns-clause-sum : goal.returns-clause-sum
returns-clause-sum g c =
    let sum = closed_sum _ _ _ _ _ c.listed.ensures c.place_all.ensures.placed
    c.place_all.ensures.all in search (rules, sum)

pub returns-clause-last : goal.returns-clause-last
returns-clause-last g c last =
    let lasts = c.place_all.ensures.rise.1 in closed_last _ _ _ _ _ c.listed.ensures
    c.place_all.ensures.placed c.place_all.ensures.all (omega arith)

pub returns-clause-deletions : goal.returns-clause-deletions
returns-clause-deletions g c =
    let same = closed_deletions _ _ _ _ _ c.listed.ensures c.place_all.ensures.placed
    c.place_all.ensures.all in search (rules, same)
