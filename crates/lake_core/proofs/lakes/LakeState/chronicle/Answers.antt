use Rattle.std.proofs.Common.{◌∙◌, ap, sym, subst, map, true}
use Rattle.lake_model.specs.Allowed.{IsLegal}
use Rattle.lake_model.specs.State.{Noted}
use Rattle.lake_core.specs.Lakes.{Lake}
use Rattle.lake_core.proofs.ConsistencyLemmas.{entries_back}
use Rattle.lake_core.proofs.lakes.LakeState.chronicle.Goals as goal

pub returns-clause-entries : goal.returns-clause-entries
returns-clause-entries g c = sym (entries_back c.self.inside.chronicle.entries) ∙ ap (λ (lake : Lake). map (λ (e : Noted). e.entry) lake.entries) c.self.view_is

pub returns-clause-legal : goal.returns-clause-legal
returns-clause-legal g c =
    let P : Lake → Type 0 = λ lake. IsLegal true lake.entries in
    subst P c.self.view_is c.self.invariant.legal
