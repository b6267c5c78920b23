use Rattle.sql_parser.proofs.ScriptsReady.{script_numbered}
use Rattle.sql_parser.proofs.laws.numbers_scripts.Goals as goal

pub returns : goal.returns
returns c = script_numbered
