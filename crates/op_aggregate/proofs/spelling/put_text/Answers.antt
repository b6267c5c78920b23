use Rattle.std.proofs.lemmas.Str.{is_utf8-from_IsUtf8}
use Rattle.op_aggregate.proofs.spelling.put_text.Goals as goal

pub returns-clause-text : goal.returns-clause-text
returns-clause-text c = record { short = c.requires; utf8 = is_utf8-from_IsUtf8 c.args.text.now c.utf8.text }
