use Rattle.deletion_vector.proofs.Ascending.{placed, present, absent, inside}
use Rattle.deletion_vector.proofs.merge.place_of.Goals as goal

pub returns-clause-found : goal.returns-clause-found
returns-clause-found c = (placed c.args.position c.args.positions.now c.binary_search.result c.requires c.binary_search.ensures.position).0

pub returns-clause-below : goal.returns-clause-below
returns-clause-below c = (absent c.args.position c.args.positions.now c.binary_search.result (placed c.args.position c.args.positions.now c.binary_search.result c.requires c.binary_search.ensures.position).1).0

pub returns-clause-above : goal.returns-clause-above
returns-clause-above c = (absent c.args.position c.args.positions.now c.binary_search.result (placed c.args.position c.args.positions.now c.binary_search.result c.requires c.binary_search.ensures.position).1).1

pub returns-clause-place : goal.returns-clause-place
returns-clause-place c = present c.args.position c.args.positions.now c.binary_search.result c.requires c.binary_search.ensures.position

pub returns-clause-inside : goal.returns-clause-inside
returns-clause-inside c = inside c.args.position c.args.positions.now c.binary_search.result c.requires c.binary_search.ensures.position
