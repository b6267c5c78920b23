use Rattle.sql_model.proofs.BagLaw.{same_plain}
use Rattle.sql_model.proofs.laws.same_bags_same_answer.Goals as goal

-- src/laws.rt:7:1
pub returns : goal.returns
returns c = same_plain
