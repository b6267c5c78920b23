use Rattle.std.proofs.Common.{◌≡◌, ◌++◌, ◌∷◌, [], get_or, false, map, drop}
use Rattle.std.proofs.lemmas.List.{map_push, get_or_default}
use Rattle.lake_values.proofs.Loops.{goes_on_alike}
use Rattle.column_file.specs.Lent.{owned}
use Rattle.column_file.specs.Reading.{number_cell_at, numbers_at}
use Rattle.column_file.proofs.columns.read_numbers.Goals as goal

pub loop-null-preserved : goal.loop-null-preserved
loop-null-preserved c =
    let v = c.in_ok-value.value in
    let e : map owned c.push.new.self.items ≡ map owned c.loop-null.values.items ++ owned v ∷ [] = rw c.in_ok-push.ensures.items (map_push owned c.loop-null.values.items v) in
    record {
      so_far = rw e (goes_on_alike (λ null. number_cell_at null) (map owned c.loop-null.values.items) c.args.flags.now c.loop-null.null-index (get_or c.args.flags.now c.loop-null.null-index false) c.loop-null.next (drop c.loop-null.next c.args.bytes.now) (owned v) c.in_ok-value.behind (drop c.in_ok-value.behind c.args.bytes.now) (numbers_at c.args.flags.now c.args.at (drop c.args.at c.args.bytes.now)) c.loop-null-test.true (get_or_default c.args.flags.now c.loop-null.null-index false (get_or c.args.flags.now c.loop-null.null-index false) c.loop-null-test.true) c.in_ok-value.ensures.exact c.loop-null.invariant.so_far);
      within = c.in_ok-value.ensures.within;
    }
