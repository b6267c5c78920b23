use Rattle.std.proofs.Common.{◌≡◌, ◌<◌, ◌++◌, [], ◌∷◌, ◌∙◌, sym, ap, subst, List, ℕ, true, false, length, get_or}
use Rattle.std.proofs.lemmas.List.{append-nil}
use Rattle.lake_values.specs.declared.values.Value.{Value}
use Rattle.row_packet.specs.Packets.{PacketRows}
use Rattle.data_cell.specs.Live.{CellRows}
use Rattle.data_cell.proofs.Walks.{IsRest, IsRest-all, taken, kept, live_rows-more}
use Rattle.data_cell.proofs.cells.CellView.packet.Goals as goal
use Rattle.data_cell.proofs.cells.CellView.packet.Goals.{in-Some, in-None+in_ok-copy-in-None+in_ok-push-in-None}

pub loop-place-init : goal.loop-place-init
loop-place-init c =
    let rest = c.positions-rest.ensures in (
      c.empty-packet.ensures.width ∙ ap (λ p. p.width) c.self.view_is,
      c.empty-packet.ensures.rows,
      subst (λ (g : List ℕ). IsRest 0 g c.positions-rest.result.now) (rest.list ∙ ap (λ p. p.gone) c.self.view_is) (IsRest-all c.positions-rest.result.now rest.ascending),
    )

pub loop-place-preserved : goal.loop-place-preserved
loop-place-preserved c =
    let gone = c.args.self.now.gone in
    let rows = c.args.self.now.rows in
    let place = c.loop-place.place in
    let row = c.index-rows-place.result in
    let before = c.loop-place.invariant in
    let within : place < length rows = subst (λ (s : CellRows). place < length s.rows) c.self.view_is c.loop-place-test.true in
    let is_row : row ≡ get_or rows place row = subst (λ (s : CellRows). row ≡ get_or s.rows place row) c.self.view_is c.index-rows-place.is in
    elim c.match-behind.branch [
      | in-Some w ↦
          let t = taken place gone c.loop-place.rest.now w.in-Some.more.now (sym w.in-Some.ensures) before.2 in (
            ap (λ (p : PacketRows). p.width) w.packet-is ∙ before.0,
            ap (λ (p : PacketRows). p.rows) w.packet-is ∙ before.1 ∙ sym (live_rows-more gone rows place row true within is_row t.is_gone ∙ append-nil _),
            rw w.rest-is t.then,
          )
      | in-None+in_ok-copy-in-None+in_ok-push-in-None w ↦
          let k = kept place gone c.loop-place.rest.now (sym w.in-None.ensures) before.2 in
          let packet = w.packet-is ∙ w.in_ok-push-in-None.ensures.ok in (
            ap (λ (p : PacketRows). p.width) packet ∙ before.0,
            ap (λ (p : PacketRows). p.rows) packet ∙ ap (λ (r : List Value). c.loop-place.packet.rows ++ r ∷ []) w.in_ok-copy-in-None.ensures ∙ ap (λ (l : List (List Value)). l ++ row ∷ []) before.1 ∙ sym (live_rows-more gone rows place row false within is_row k.is_left),
            rw w.rest-is k.then,
          )
    ]
