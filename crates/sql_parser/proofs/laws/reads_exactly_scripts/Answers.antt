use Rattle.sql_parser.proofs.ScriptLaws
use Rattle.sql_parser.proofs.laws.reads_exactly_scripts.Goals as goal

pub returns : goal.returns
returns c = ScriptLaws.reads_exactly
