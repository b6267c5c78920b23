use Rattle.lake_script.proofs.ReadScripts.{in_turn}
use Rattle.lake_script.proofs.scripts.read_script.Goals as goal

pub returns-in-Ok-parse_script-clause-in_turn : goal.returns-in-Ok-parse_script-clause-in_turn
returns-in-Ok-parse_script-clause-in_turn g c = in_turn c.in-Ok-parse_script.script c.in-Ok-parse_script.ensures.numbered c.in-Ok-parse_script.ensures.kinds c.in-Ok-parse_script.ensures.in_form
