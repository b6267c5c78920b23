use Rattle.sql_parser.proofs.ScriptLaws
use Rattle.sql_parser.proofs.laws.refuses_first_place.Goals as goal

pub returns : goal.returns
returns c = ScriptLaws.refuses_first
