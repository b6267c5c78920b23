use Rattle.std.proofs.Common.{◌-◌, ◌≤◌, ◌<◌, vec_len}
use Rattle.std.specs.Io.KnownBytes.{Consumes}
use Rattle.lake_script.proofs.reading.read_all.Given as goal

abbrev pub invariant-loop-src : goal.invariant-loop-src
invariant-loop-src g l = record {
  read : Consumes (g.S.Source.left l.fn.src) (g.S.Source.left l.src) l.bytes.items;
  faults : g.S.Source.faults l.fn.src ≤ g.S.Source.faults l.src;
  room : 0 < vec_len l.buffer;
}

abbrev pub decreases-loop-src : goal.decreases-loop-src
decreases-loop-src g l = 16777217 - vec_len l.bytes
