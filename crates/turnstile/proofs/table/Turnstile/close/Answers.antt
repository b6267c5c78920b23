use Rattle.std.proofs.Common.{arith}
use Rattle.turnstile.proofs.Closes.{ends, ends_at}
use Rattle.turnstile.proofs.table.Turnstile.close.Goals as goal

pub unreachable-requires : goal.unreachable-requires
unreachable-requires g c =
    let span = c.requires.pass.1 in
    let final = c.close_with-closed.ensures.values.2 in
    let end = ends _ _ _ _ c.take-slot.result c.requires.idle.0 (omega (arith, span))
    c.requires.all final c.take-slot.ensures.value in
    c.in_default.not-Some end.0 end.1

pub returns : goal.returns
returns g c =
    let span = c.requires.pass.1 in
    let final = c.close_with-closed.ensures.values.2 in
    let end = ends_at _ _ _ _ c.take-slot.result c.in-Some.value c.requires.idle.0
    (omega (arith, span)) c.requires.all final c.take-slot.ensures.value c.in-Some.is in
    record {
      opening = end.0;
      seen = end.1;
      own = end.2;
      no_others = end.3;
      once = end.4;
    }
