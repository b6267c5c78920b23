use Rattle.std.proofs.Common.{◌<◌, ◌^◌, arith, IfOk, Result, Ok, Err, List, length}
use Rattle.sql_parser.specs.declared.scripts.Line.{Line}
use Rattle.sql_parser.specs.declared.stops.Stop.{Stop}
use Rattle.sql_parser.specs.Ahead.{Ahead, Gives, reading, most_levels}
use Rattle.sql_parser.specs.Grammar.{lines}
use Rattle.sql_parser.proofs.Judging.{few_lines}
use Rattle.sql_parser.proofs.scripts.lines.Goals as goal

few : (before after : Ahead) (result : Result (List Line) Stop) → Gives (λ x. x) result after (reading most_levels lines before) → IfOk result (λ xs. length xs < 2 ^ 32)
few before after (Ok xs) reads = let within = few_lines before after xs reads in omega (arith, within)
few before after (Err s) reads = tt

pub returns-clause-few : goal.returns-clause-few
unfolding lines
returns-clause-few c = few c.args.parser.now c.run.new.parser c.run.result c.run.ensures.reads
