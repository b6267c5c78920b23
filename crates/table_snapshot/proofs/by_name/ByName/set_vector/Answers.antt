use Rattle.std.proofs.Common.{◌≡◌, Some, map, ap, ◌∙◌}
use Rattle.std.specs.Map.{values_of}
use Rattle.table_snapshot.specs.declared.files.FileRow.{FileRow}
use Rattle.table_snapshot.specs.Files.{with_vector}
use Rattle.table_snapshot.specs.NamedFiles.{named}
use Rattle.table_snapshot.proofs.MapChanges.{with_one_set, with_none_set, values_are}
use Rattle.table_snapshot.proofs.MapChanges.{are_with_vector}
use Rattle.table_snapshot.proofs.by_name.ByName.set_vector.Goals as goal

pub returns-in_default : goal.returns-in_default
returns-in_default c =
    ap (λ m. values_of m.entries) c.get_mut.follows.holds-at-none
    ∙ with_none_set c.self.inside.files.entries c.args.name.now c.args.vector c.args.removed
    c.self.invariant c.in_default.ensures.value
    ∙ ap (map (with_vector c.args.name.now c.args.vector c.args.removed)) c.self.view_is

abbrev changed : (c : goal.After-self-2-1) → FileRow
changed c = record c.in-Some.file.now { vector = Some (c.args.vector, c.args.removed) }

lists : (c : goal.After-self-2-1) → (c.get_mut.follows.lender (changed c)).entries ≡ named
    (map (with_vector c.args.name.now c.args.vector c.args.removed) c.args.self.now)
lists c =
    with_one_set c.self.inside.files.entries _ c.args.name.now c.args.vector c.args.removed
    c.in-Some.file.now c.self.invariant c.in-Some.ensures.value
    (c.get_mut.follows.holds (changed c)).0
    ∙ ap (λ files. named (map (with_vector c.args.name.now c.args.vector c.args.removed) files))
    c.self.view_is

pub invariant_of-self-2 : goal.invariant_of-self-2
invariant_of-self-2 c =
    are_with_vector _ c.args.name.now c.args.vector c.args.removed c.args.self.now
    (rw (← c.self.view_is) c.self.invariant.order) (lists c)

pub returns : goal.returns
returns c =
    values_are _ (map (with_vector c.args.name.now c.args.vector c.args.removed) c.args.self.now)
    (lists c)
