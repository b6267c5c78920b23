use Rattle.std.proofs.Common.{rules, ap, refl, ◌∙◌}
use mathlib.Core.Option.{none}
use Rattle.atomic_table.specs.Table.{step}
use Rattle.turnstile.specs.Views.{closed, told}
use Rattle.turnstile.proofs.Publishes.{publishes, told_view}
use Rattle.turnstile.proofs.Serves.{left_view, serves}
use Rattle.turnstile.proofs.Slots.{slot_set}
use Rattle.turnstile.proofs.table.Turnstile.leave.Goals as goal

pub store-requires : goal.store-requires
store-requires g c =
    let turn = c.requires.turn in
    let m = slot_set _ _ _ _ _ c.exchange-found.ensures.3 turn.1.1 in
    let keeps_rule = publishes _ _ _ turn.1.0.0 c.length-front.result turn.0
    c.args.value turn.1.0.1 refl c.requires.entries c.length-front.ensures in
    (search rules, search rules, rw m keeps_rule)

pub fetch_add-requires : goal.fetch_add-requires
fetch_add-requires g c =
    let turn = c.requires.turn in
    let m = slot_set _ _ _ _ _ c.exchange-found.ensures.3 turn.1.1 in
    let shared = c.args.self.now.table.shared in
    let publish = step shared.table_id.slots 0 c.length-front.result 0 none in
    let n = told_view g.T.Chronicled.entries g.T.Chronicled.session g.T.Chronicled.has_room
    publish c.length-front.result
    c.args.pass.now.seat.me.0 c.args.value _ _ c.store.ensures.2 m in
    let keeps_rule = serves _ _ _ turn.1.0.0 turn.0 c.args.value
    (ap closed turn.1.0.1) refl refl (c.requires.rooms turn.0 turn.1) in
    (search rules, search rules, rw n keeps_rule)

pub returns : goal.returns
returns g c =
    let turn = c.requires.turn in
    let m = slot_set _ _ _ _ _ c.exchange-found.ensures.3 turn.1.1 in
    let shared = c.args.self.now.table.shared in
    let old = c.args.pass.now.seat.me.0 in
    let publish = step shared.table_id.slots 0 c.length-front.result 0 none in
    let serve = step shared.table_id.slots 2 1 0 none in
    let n = told_view g.T.Chronicled.entries g.T.Chronicled.session g.T.Chronicled.has_room
    publish c.length-front.result old
    c.args.value _ _ c.store.ensures.2 m in
    let after = left_view g.T.Chronicled.entries g.T.Chronicled.session g.T.Chronicled.has_room
    serve c.fetch_add.result
    (told g.T.Chronicled.entries old c.args.value) c.args.value _ _ c.fetch_add.ensures.2 n in
    record {
      pass = (search rules, ap (λ m. m.0.span) after ∙ c.requires.pass.1);
      idle = (ap (λ m. m.0.stage) after, ap (λ m. m.1) after);
      seen = ap (λ m. m.0.seen) after;
      own = ap (λ m. m.0.own) after;
      left = ap (λ m. m.0.left) after;
      taken = ap (λ m. m.0.taken) after;
      sessions = ap (λ m. m.0.sessions) after;
    }
