use Rattle.std.proofs.Common.{rules, map}
use Rattle.plain_query.proofs.Grouping.{all_members}
use Rattle.plain_query.proofs.groups.one_group.Goals as goal

pub returns-in_err-group_row-clause-overflow : goal.returns-in_err-group_row-clause-overflow
returns-in_err-group_row-clause-overflow g c = rw (all_members (map g.C.Cells.cells c.args.rows.now)) (search rules)

pub returns-clause-made : goal.returns-clause-made
returns-clause-made g c = rw (all_members (map g.C.Cells.cells c.args.rows.now)) (search rules)

pub returns-clause-fits : goal.returns-clause-fits
returns-clause-fits g c = rw (all_members (map g.C.Cells.cells c.args.rows.now)) (search rules)
