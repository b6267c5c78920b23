use Rattle.std.proofs.Common.{◌≡◌, ◌-◌, length}
use Rattle.crossbeam_queue.specs.Passes.{IsPassOf}
use Rattle.server_pool.specs.Passes.{knows}
use Rattle.server_pool.specs.Placed.{Placed}
use Rattle.server_pool.proofs.closing.place_all.Given as goal

abbrev pub invariant-loop-server : goal.invariant-loop-server
invariant-loop-server g l = record {
  pass : IsPassOf l.queue l.pass.pass;
  parts : (knows l.pass).parts ≡ 17;
  placed : Placed g.P.Port.faults g.P.Port.deletions (knows l.pass) l.places.items;
  rise : (knows l.pass).rise ≡ (knows l.fn.pass).rise;
  lasts : (knows l.pass).lasts ≡ (knows l.fn.pass).lasts;
  starts : (knows l.pass).starts ≡ (knows l.fn.pass).starts;
}

abbrev pub decreases-loop-server : goal.decreases-loop-server
decreases-loop-server g l = length (knows l.pass).starts - length (knows l.pass).held
