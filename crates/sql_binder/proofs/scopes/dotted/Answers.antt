use Rattle.sql_binder.proofs.ShortTexts.{dotted_short}
use Rattle.sql_binder.proofs.scopes.dotted.Goals as goal

pub short_text-requires : goal.short_text-requires
short_text-requires c = dotted_short _ c.args.table.now c.args.column.now c.requires.short_table c.requires.short_column (cc (c.in_ok-text.ensures))
