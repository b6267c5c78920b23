use Rattle.sql_parser.proofs.ScriptLaws
use Rattle.sql_parser.proofs.laws.one_answer.Goals as goal

pub returns : goal.returns
returns c = ScriptLaws.one_answer
