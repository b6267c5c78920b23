use Rattle.std.proofs.Common.{rules, arith, ap, sym, ◌∙◌}
use Rattle.turnstile.specs.Views.{ticket}
use Rattle.turnstile.proofs.Draws.{draws}
use Rattle.turnstile.proofs.Looks.{came, looks, turn_got}
use Rattle.turnstile.proofs.Slots.{slot_first}
use Rattle.turnstile.proofs.table.Turnstile.enter.Goals as goal

pub fetch_add-ticket-requires : goal.fetch_add-ticket-requires
fetch_add-ticket-requires g c =
    (search rules, search rules, draws _ _ _ (search rules) (search rules))

pub load-serving-requires : goal.load-serving-requires
load-serving-requires g c =
    let waits = ap (λ m. m.0.stage) c.loop.invariant.1 in
    (search rules, search rules, looks _ _ _ c.fetch_add-ticket.result waits)

pub exchange-found-requires : goal.exchange-found-requires
exchange-found-requires g c =
    let waits = ap (λ m. ticket m.0.stage) c.loop.invariant.1 in
    let turn = c.load-serving.ensures.2.1 (c.if-serving-ticket.true ∙ sym waits) in
    (search rules, slot_first _ _ _ _ turn.1)

pub returns-then-serving-ticket : goal.returns-then-serving-ticket
returns-then-serving-ticket g c =
    let x = c.exchange-found.ensures in
    let session = g.T.Chronicled.session in
    let old = c.args.pass.now.seat.me.0 in
    let t = turn_got g.T.Chronicled.entries session g.T.Chronicled.has_room old
    c.fetch_add-ticket.result c.load-serving.result
    c.args.self.now.table.shared.table_id.slots _ _ _ _ _ c.loop.invariant.1
    c.load-serving.ensures.2 c.if-serving-ticket.true c.requires.left x.2 x.3
    c.in-Some-found.is in
    let after = t.0 in
    let told = t.1 in
    let span = c.requires.pass.1 in
    let some_left = c.requires.left in
    let left = ap (λ m. m.0.left) after in record {
      pass = (search rules, ap (λ m. m.0.span) after ∙ span);
      turn = ((_, ap (λ m. m.0.stage) after), ap (λ m. m.1) after);
      others = came session old.sessions old.seen (g.T.Chronicled.entries c.in-Some-found.value)
          told.0 told.1 (told.5 (omega arith));
      rooms = told.2;
      few = told.3;
      seen = ap (λ m. m.0.seen) after;
      own = ap (λ m. m.0.own) after;
      left = omega arith;
      taken = ap (λ m. m.0.taken) after;
      sessions = ap (λ m. m.0.sessions) after;
      alone = λ every. told.4 (omega arith);
    }
