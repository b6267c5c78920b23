use Rattle.sql_binder.proofs.SelectNames.{noted_select}
use Rattle.sql_binder.proofs.names.Names.select.Goals as goal

pub returns : goal.returns
returns c =
    noted_select c.args.self.now.schemas.now c.args.query.now c.args.scope.now c.as_slice.result.now c.as_slice-2.result.now c.as_slice-3.result.now c.as_slice-4.result.now
    c.args.faults.now c.items.new.faults c.sources.new.faults c.filter.new.faults c.references.new.faults c.order.new.faults
    c.requires.scope c.as_slice.ensures c.as_slice-2.ensures c.as_slice-3.ensures c.as_slice-4.ensures
    c.in_ok-items.ensures c.in_ok-sources.ensures c.in_ok-filter.ensures c.in_ok-references.ensures c.in_ok-order.ensures
