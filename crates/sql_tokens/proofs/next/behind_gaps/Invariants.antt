use Rattle.std.proofs.Common.{◌≡◌, ◌≤◌, ◌-◌, length}
use Rattle.sql_tokens.specs.Scans.{scan_at}
use Rattle.sql_tokens.proofs.next.behind_gaps.Given as goal

abbrev pub invariant-loop-size : goal.invariant-loop-size
invariant-loop-size l = record {
  behind : l.fn.from ≤ l.place;
  within : l.place ≤ length l.bytes;
  same : scan_at l.fn.from l.bytes ≡ scan_at l.place l.bytes;
}

abbrev pub decreases-loop-size : goal.decreases-loop-size
decreases-loop-size l = length l.bytes - l.place
