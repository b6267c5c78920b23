use Rattle.std.proofs.Common.{append_assoc}
use Rattle.lake_model.proofs.reply_texts.numbered.Goals as goal

pub returns : goal.returns
returns c = simp append_assoc (c.in_ok-format.ensures.ok)
