use Rattle.std.proofs.Common.{◌∙◌, ap}
use Rattle.lake_model.specs.State.{newest, state}
use Rattle.sql_model.specs.Versions.{Tables, has_table}
use Rattle.lake_core.specs.Consistency.{chronicle_of}
use Rattle.lake_core.specs.Lakes.{Lake, state_of}
use Rattle.lake_core.proofs.ConsistencyLemmas.{newest_same}
use Rattle.lake_core.proofs.lakes.LakeState.has_table.Goals as goal

pub returns : goal.returns
returns g c =
    let l = c.self.inside in
    let name = c.args.table.now in
    c.has_table.ensures
    ∙ ap (λ (ts : Tables). has_table name ts) (newest_same (state (chronicle_of l.chronicle.entries)) l.history c.self.invariant.stands.history)
    ∙ ap (λ (lake : Lake). has_table name (newest (state_of lake)).tables) c.self.view_is
