use Rattle.std.proofs.Common.{◌≡◌, ◌+◌, ◌≤◌, vec_len, vec_capacity}
use Rattle.std.specs.Vec.{vec_ptr}
use Rattle.lake_script.specs.Sessions.{AreSeated, ports_of, with_lent}
use Rattle.lake_script.proofs.sessions.take_sessions.Given as goal

abbrev pub invariant-loop-taken : goal.invariant-loop-taken
invariant-loop-taken g l = record {
  seated : AreSeated 1 l.sessions.items;
  len : vec_len l.sessions ≡ l.taken;
  room : 16 ≤ vec_capacity l.sessions;
  lent : with_lent l.ports.items (ports_of l.sessions.items) ≡ l.fn.ports.items;
  left : vec_len l.ports + l.taken ≡ vec_len l.fn.ports;
  in_place : vec_ptr l.ports ≡ vec_ptr l.fn.ports;
  capacity : vec_capacity l.ports ≡ vec_capacity l.fn.ports;
}
