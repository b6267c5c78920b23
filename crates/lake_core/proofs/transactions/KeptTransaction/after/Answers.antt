use Rattle.std.proofs.Common.{◌∙◌, refl}
use Rattle.lake_core.proofs.PartChangeLemmas.{parts_join, rows_ascend, rows_join}
use Rattle.lake_core.proofs.transactions.KeptTransaction.after.Goals as goal

pub returns-clause-pended : goal.returns-clause-pended
returns-clause-pended c = λ change further.
    let rows = rw c.unwrap.ensures at c.append.ensures.items in
    let parts = rw c.unwrap-2.ensures at c.append-2.ensures.items in
    record {
      session = refl;
      explicit = refl;
      number = refl;
      snapshot = refl;
      removed = rows_join _ c.append.new.self.items _ c.args.self.removed.items _ c.sort_by_mark.ensures rows further.removed;
      ascending = rows_ascend _ c.append.new.self.items c.sort_by_mark.ensures;
      added = parts_join _ c.put_left.new.left.items _ _ c.args.self.added.items _ _ _ parts c.put_left.ensures.parts further.none (c.as_slice.ensures.value ∙ further.own) further.added;
    }
