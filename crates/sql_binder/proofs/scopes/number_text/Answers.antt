use Rattle.std.proofs.Common.{◌∙◌, rules}
use Rattle.sql_binder.proofs.ShortTexts.{number_short}
use Rattle.sql_binder.proofs.scopes.number_text.Goals as goal

pub short_text-requires : goal.short_text-requires
short_text-requires c = number_short _ c.args.number (search (rules, c.ranges.number)) (c.as_str.ensures.value ∙ c.in_ok-text.ensures.ok)
