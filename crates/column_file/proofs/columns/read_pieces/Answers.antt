use Rattle.std.proofs.Common.{◌≡◌, ◌+◌, ◌-◌, ◌++◌, ◌∷◌, [], false, get_or, map, drop}
use Rattle.std.proofs.lemmas.List.{map_push}
use Rattle.lake_values.proofs.Loops.{goes_on_first}
use Rattle.column_file.specs.Lent.{owned}
use Rattle.column_file.specs.Reading.{piece_at, pieces_at, pieces_from}
use Rattle.column_file.proofs.LentColumns.{pieces_here}
use Rattle.column_file.proofs.columns.read_pieces.Goals as goal

pub loop-i-preserved : goal.loop-i-preserved
loop-i-preserved c =
    let v = c.in_ok-value.value in
    let e : map owned c.push.new.self.items ≡ map owned c.loop-i.values.items ++ owned v ∷ [] = rw c.in_ok-push.ensures.items (map_push owned c.loop-i.values.items v) in
    let here = pieces_here c.loop-i.before c.loop-i.i c.args.flags.now c.args.ends.now c.loop-i-test.true c.requires.count in
    let read = rw c.saturating_sub-size.ensures at c.in_ok-value.ensures.exact in
    record {
      so_far = rw e (goes_on_first (λ piece. piece_at piece) (map owned c.loop-i.values.items) (get_or c.args.flags.now c.loop-i.i false, get_or c.args.ends.now c.loop-i.i 0 - c.loop-i.before)
          (pieces_from (get_or c.args.ends.now c.loop-i.i 0) (drop (c.loop-i.i + 1) c.args.flags.now) (drop (c.loop-i.i + 1) c.args.ends.now))
          c.loop-i.next (drop c.loop-i.next c.args.bytes.now) (owned v) c.in_ok-value.behind (drop c.in_ok-value.behind c.args.bytes.now) (pieces_at c.args.flags.now c.args.ends.now c.args.at (drop c.args.at c.args.bytes.now)) read
          (rw here at c.loop-i.invariant.so_far));
      within = c.in_ok-value.ensures.within;
    }
