use Rattle.std.proofs.Common.{sym, subst, List}
use Rattle.lake_model.specs.declared.entries.Entry.{Entry}
use Rattle.lake_core.specs.Consistency.{IsConsistent, chronicle_of}
use Rattle.lake_core.proofs.ConsistencyLemmas.{consistent_new}
use Rattle.lake_core.proofs.lakes.LakeState.new.Goals as goal

pub invariant_of-result : goal.invariant_of-result
invariant_of-result g c =
    let P : List Entry → Type 0 = λ es. IsConsistent (chronicle_of es) c.new.result c.new-2.result.items c.empty-2.result c.empty.result.spare 0 in
    subst P (sym c.empty.ensures) (consistent_new c.new.result c.empty-2.result c.empty.result.spare c.new-2.result.items c.new.ensures c.empty-2.ensures c.new-2.ensures.items)
