use Rattle.std.proofs.Common.{rules, arith}
use Rattle.turnstile.proofs.Places.{short_fits}
use Rattle.turnstile.proofs.Meets.{meets, met_came, tell}
use Rattle.turnstile.proofs.table.Turnstile.meet.Goals as goal

pub join_seat-requires : goal.join_seat-requires
join_seat-requires g c =
    let span = c.requires.pass.1 in
    let other_span = c.requires.other.1 in (
      search rules,
      search rules,
      search rules,
      search rules,
      meets _ _ _ _ c.requires.idle.0 c.requires.other_idle.0 (omega (arith, span))
          (omega (arith, other_span)),
    )

pub load-requires : goal.load-requires
load-requires g c = (search rules, search rules, tell _ _ _)

pub returns : goal.returns
returns g c =
    let v = c.args.pass.now.seat.me.0 in
    let w = c.args.other.seat.me.0 in
    let told = c.load.ensures.2 in
    let span = c.requires.pass.1 in
    let joined = c.join_seat.new.seat.me.0 in
    let after = c.load.new.seat.me.0 in
    let came = met_came g.T.Chronicled.session v w joined after (search rules) told.0
    (omega (arith, span)) (short_fits v.seen w.seen) told.2 told.3 told.4 in record {
      pass = search rules;
      idle = search rules;
      seen = search rules;
      own = search rules;
      left = search rules;
      taken = search rules;
      sessions = search rules;
      since = came.0;
      since_other = came.1;
    }
