use Rattle.std.proofs.Common.{◌≡◌, ◌+◌, ◌≤◌, vec_len, vec_capacity}
use Rattle.std.specs.Vec.{vec_ptr}
use Rattle.lake_script.specs.Sessions.{ports_of, with_lent}
use Rattle.lake_script.proofs.sessions.return_ports.Given as goal

abbrev pub invariant-loop-session : goal.invariant-loop-session
invariant-loop-session g l = record {
  whole : with_lent l.ports.items (ports_of l.sessions.items) ≡ with_lent l.fn.ports.items (ports_of l.fn.sessions.items);
  first : 1 ≤ vec_len l.ports;
  room : vec_len l.ports + vec_len l.sessions ≤ vec_capacity l.ports;
  in_place : vec_ptr l.ports ≡ vec_ptr l.fn.ports;
  capacity : vec_capacity l.ports ≡ vec_capacity l.fn.ports;
}

abbrev pub decreases-loop-session : goal.decreases-loop-session
decreases-loop-session g l = goal.left-loop-session g l
