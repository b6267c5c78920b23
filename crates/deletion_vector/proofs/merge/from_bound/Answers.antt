use Rattle.std.proofs.Common.{◌∙◌}
use Rattle.deletion_vector.proofs.Ascending.{IsPlace, IsPlace-found, IsPlace-absent, drop-from_place}
use Rattle.deletion_vector.proofs.merge.from_bound.Goals as goal
use Rattle.deletion_vector.proofs.merge.from_bound.Goals.{in-Ok, in-Ok-2}

pub returns-clause-list : goal.returns-clause-list
returns-clause-list c =
    let positions = c.args.positions.now in
    let place : IsPlace c.args.bound positions c.match-place_of.place =
    elim c.match-place_of.branch [
      | in-Ok w ↦ rw w.place-is (IsPlace-found c.args.bound positions w.in-Ok.place c.requires w.in-Ok.ensures.inside w.in-Ok.ensures.place)
      | in-Ok-2 w ↦ rw w.place-is (IsPlace-absent c.args.bound positions w.in-Ok.place w.in-Ok.ensures.within w.in-Ok.ensures.below w.in-Ok.ensures.above)
    ] in
    c.split_at.ensures.back ∙ drop-from_place c.args.bound positions c.match-place_of.place place
