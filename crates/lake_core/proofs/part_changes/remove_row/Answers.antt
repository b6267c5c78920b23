use Rattle.std.proofs.Common.{◌∙◌, sym}
use Rattle.lake_values.specs.Order.{row_cmp}
use Rattle.lake_core.proofs.PartChangeLemmas.{removed_first, removed_none}
use Rattle.lake_core.proofs.part_changes.remove_row.Goals as goal

pub returns-in-Some : goal.returns-in-Some
returns-in-Some c = c.remove.ensures.items ∙ removed_first row_cmp c.args.row.now c.args.rows.now.items _ _ c.in-Some.place c.as_slice.ensures.value c.place_of.ensures c.in-Some.is

pub returns-in_default : goal.returns-in_default
returns-in_default c = sym (removed_none row_cmp c.args.row.now c.args.rows.now.items _ _ c.as_slice.ensures.value c.place_of.ensures c.in_default.is)
