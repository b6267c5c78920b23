use Rattle.std.proofs.Common.{◌∙◌, ap, sym, subst}
use Rattle.std.specs.Prelude.{IsSome}
use Rattle.lake_model.specs.State.{state, transaction, view}
use Rattle.lake_core.specs.Consistency.{chronicle_of}
use Rattle.lake_core.specs.Lakes.{Lake, state_of}
use Rattle.lake_core.proofs.OpenLemmas.{found_at, open_at}
use Rattle.lake_core.proofs.ReserveLemmas.{open_found}
use Rattle.lake_core.proofs.SnapshotLemmas.{seen_version, tables_seen}
use Rattle.lake_core.proofs.lakes.LakeState.lend.Goals as goal

pub unwrap-place-requires : goal.unwrap-place-requires
unwrap-place-requires g c =
    let l = c.self.inside in
    let P : Lake → Type 0 = λ lake. IsSome (transaction (state_of lake) c.args.session) in
    open_found c.args.session (state (chronicle_of l.chronicle.entries)) l.running.items _ _ c.as_slice.ensures.value c.place_of.ensures c.self.invariant.stands.open_ones (subst P (sym c.self.view_is) c.requires)

pub of-requires-clause-kept : goal.of-requires-clause-kept
of-requires-clause-kept g c =
    let l = c.self.inside in
    let es = chronicle_of l.chronicle.entries in
    let at = found_at c.args.session l.running.items _ _ c.unwrap-place.result c.as_slice.ensures.value c.place_of.ensures c.unwrap-place.ensures in
    let there = open_at c.args.session (state es).running l.running.items c.unwrap-place.result c.index.result.now c.self.invariant.stands.open_ones at c.index.ensures in
    (seen_version c.args.session es l.history l.running.items l.catalog l.chronicle.spare l.last_number c.index.result.now there c.self.invariant).0

pub of-requires-clause-ascending : goal.of-requires-clause-ascending
of-requires-clause-ascending g c =
    let l = c.self.inside in
    let es = chronicle_of l.chronicle.entries in
    let at = found_at c.args.session l.running.items _ _ c.unwrap-place.result c.as_slice.ensures.value c.place_of.ensures c.unwrap-place.ensures in
    let there = open_at c.args.session (state es).running l.running.items c.unwrap-place.result c.index.result.now c.self.invariant.stands.open_ones at c.index.ensures in
    there.is.ascending

pub returns : goal.returns
returns g c =
    let l = c.self.inside in
    let es = chronicle_of l.chronicle.entries in
    let at = found_at c.args.session l.running.items _ _ c.unwrap-place.result c.as_slice.ensures.value c.place_of.ensures c.unwrap-place.ensures in
    let there = open_at c.args.session (state es).running l.running.items c.unwrap-place.result c.index.result.now c.self.invariant.stands.open_ones at c.index.ensures in
    c.of.ensures ∙ tables_seen c.args.session es l.history l.running.items l.catalog l.chronicle.spare l.last_number c.index.result.now there c.self.invariant
    ∙ ap (λ (lake : Lake). (view (state_of lake) c.args.session).tables) c.self.view_is
