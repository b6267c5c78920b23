use Rattle.std.proofs.Common.{◌≡◌, ◌∙◌, ap, arith, true}
use Rattle.lake_model.specs.declared.entries.Fact.TheVariants as fact
use Rattle.lake_model.specs.State.{is_inside, state}
use Rattle.lake_core.specs.Consistency.{chronicle_of}
use Rattle.lake_core.specs.Lakes.{Lake, is_reserved, state_of}
use Rattle.lake_core.specs.Rooms.{in_rooms}
use Rattle.lake_core.proofs.ConsistencyLemmas.{adds_at, ended_stands, consistent_at, consistent_more}
use Rattle.lake_core.proofs.OpenLemmas.{some_room}
use Rattle.lake_core.proofs.lakes.LakeState.roll_back.Goals as goal

pub push-requires : goal.push-requires
push-requires g c =
    let l = c.self.inside in
    let reserved : in_rooms c.args.who.session l.running.items ≡ true = ap (λ (lake : Lake). is_reserved lake c.args.who.session) c.self.view_is ∙ c.requires.reserved in
    omega (arith, some_room c.args.who.session l.running.items reserved, c.self.invariant.stands.rooms.entries)

pub invariant_of-self : goal.invariant_of-self
invariant_of-self g c =
    let l = c.self.inside in
    let st = state (chronicle_of l.chronicle.entries) in
    let consistent = c.self.invariant in
    let reserved : in_rooms c.args.who.session l.running.items ≡ true = ap (λ (lake : Lake). is_reserved lake c.args.who.session) c.self.view_is ∙ c.requires.reserved in
    let inside : is_inside st c.args.who.session ≡ true = ap (λ (lake : Lake). is_inside (state_of lake) c.args.who.session) c.self.view_is ∙ c.requires.inside in
    consistent_at c.args.who fact.RolledBack l.chronicle.entries c.push.new.self.entries c.entry.result c.push.ensures.entries c.entry.ensures _ _ _ _ _
    (consistent_more _ _ _ _ _ _ _ consistent.legal inside
    (ended_stands st _ c.args.who.session l.history l.running.items c.end.new.running.items l.catalog l.chronicle.spare c.push.new.self.spare l.last_number consistent.stands (c.end.ensures.ended st consistent.stands.open_ones) c.end.ensures.rooms
    (omega (arith, c.end.ensures.freed reserved, consistent.stands.rooms.entries, c.push.ensures.room))))

pub returns-clause-entry : goal.returns-clause-entry
returns-clause-entry g c =
    let l = c.self.inside in
    adds_at c.args.who fact.RolledBack l.chronicle.entries c.push.new.self.entries c.entry.result c.push.ensures.entries c.entry.ensures
    l.running.items c.end.new.running.items c.end.ensures.rooms.keeps (invariant_of-self g c) c.args.self.now c.self.view_is
