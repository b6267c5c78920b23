use Rattle.std.proofs.Common.{◌≡◌, ◌<◌, ◌++◌, ◌∷◌, [], length, map, drop, replicate, refl, arith}
use Rattle.std.proofs.lemmas.List.{length-replicate, map_push}
use Rattle.std.proofs.lemmas.Result.{err_from_is_err_and}
use Rattle.lake_values.specs.Reading.{repeated_at}
use Rattle.lake_values.proofs.Loops.{goes_on_alike, fails_alike}
use Rattle.column_file.specs.Lent.{lent_column}
use Rattle.column_file.specs.Reading.{column_at}
use Rattle.column_file.proofs.columns.read_columns.Goals as goal

pub returns-in_err-column-clause-exact : goal.returns-in_err-column-clause-exact
returns-in_err-column-clause-exact c =
    let p = err_from_is_err_and c.from_residual-in_err-column.result c.from_residual-in_err-column.ensures.1 in
    let lt : c.loop.counter < length (replicate c.args.count (tt {0})) = omega (arith, length-replicate c.args.count (tt {0})) in
    rw (p.1, p.2) (fails_alike (λ place. column_at c.args.rows) _ (map lent_column c.loop.columns.items) (replicate c.args.count (tt {0})) c.loop.counter (tt {0}) c.loop.next (drop c.loop.next c.args.bytes.now) (repeated_at c.args.count (column_at c.args.rows) c.args.at (drop c.args.at c.args.bytes.now)) lt refl c.in_err-column.ensures.exact c.loop.invariant.so_far)

pub loop-preserved : goal.loop-preserved
loop-preserved c =
    let lt : c.loop.counter < length (replicate c.args.count (tt {0})) = omega (arith, length-replicate c.args.count (tt {0})) in
    let k = c.in_ok-column.column in
    let e : map lent_column c.push.new.self.items ≡ map lent_column c.loop.columns.items ++ lent_column k ∷ [] = rw c.in_ok-push.ensures.items (map_push lent_column c.loop.columns.items k) in
    record {
      so_far = rw e (goes_on_alike (λ place. column_at c.args.rows) (map lent_column c.loop.columns.items) (replicate c.args.count (tt {0})) c.loop.counter (tt {0}) c.loop.next (drop c.loop.next c.args.bytes.now) (lent_column k) c.in_ok-column.behind (drop c.in_ok-column.behind c.args.bytes.now) (repeated_at c.args.count (column_at c.args.rows) c.args.at (drop c.args.at c.args.bytes.now)) lt refl c.in_ok-column.ensures.exact c.loop.invariant.so_far);
      within = c.in_ok-column.ensures.within;
    }
