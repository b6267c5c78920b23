use Rattle.std.proofs.Common.{◌≡◌, true, sym, subst, arith, length}
use Rattle.deletion_vector.specs.Positions.{has}
use Rattle.data_cell.specs.Live.{CellRows}
use Rattle.data_cell.proofs.Walks.{IsRest, IsRest-from, taken, kept, has_below, live_if_left}
use Rattle.data_cell.proofs.cells.CellView.next_live.Goals as goal

pub loop-more-init : goal.loop-more-init
loop-more-init c =
    let rest = c.positions_from-rest.ensures in (
      omega arith,
      subst (λ (s : CellRows). IsRest c.args.from s.gone c.positions_from-rest.result.now) c.self.view_is (IsRest-from c.args.from c.self.inside.gone.now c.positions_from-rest.result.now rest.list rest.ascending),
      λ position le lt. absurd (omega (arith, le, lt)),
    )

pub overflow_add-position : goal.overflow_add-position
overflow_add-position c =
    let t = taken c.loop-more.position c.args.self.now.gone c.loop-more.rest.now c.in-Some.more.now (sym c.in-Some.ensures) c.loop-more.invariant.1 in
    let is_gone = subst (λ (s : CellRows). has c.loop-more.position s.gone ≡ true) (sym c.self.view_is) t.is_gone in
    let below = has_below (length c.self.inside.rows.now) c.loop-more.position c.self.inside.gone.now c.self.invariant.positions is_gone in
    omega (arith, below)

pub returns-clause-live : goal.returns-clause-live
returns-clause-live c =
    let k = kept c.loop-more.position c.args.self.now.gone c.loop-more.rest.now (sym c.in_default.ensures) c.loop-more.invariant.1 in
    live_if_left _ c.args.self.now.gone c.loop-more.position c.then_some.result c.then_some.ensures k.is_left
