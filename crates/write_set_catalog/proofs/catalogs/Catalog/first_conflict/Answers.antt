use Rattle.std.proofs.Common.{◌∙◌, List, ap, filter, nat_lt, subst}
use Rattle.std.specs.Prelude.{IfNone, IfSome}
use Rattle.write_set_catalog.specs.Catalogs.{ToldCommit}
use Rattle.write_set_catalog.specs.Catalogs.{Catalogued}
use Rattle.write_set_catalog.specs.Conflicts.{HasNoConflict, IsFirstConflict}
use Rattle.write_set_catalog.proofs.ConflictLemmas.{found_among, none_among}
use Rattle.write_set_catalog.proofs.catalogs.Catalog.first_conflict.Goals as goal

pub returns-clause-found : goal.returns-clause-found
returns-clause-found g c =
    let P : List ToldCommit → Type 0 = λ commits. IfSome c.first_writer.result
    (IsFirstConflict c.args.snapshot c.args.marks.now commits) in
    subst P (ap (λ (seen : Catalogued). seen.catalogue.commits) c.self.view_is)
    (found_among c.args.snapshot c.args.marks.now c.self.inside.commits.items c.later_commits.result.now
    c.first_writer.result c.self.invariant.0
    (c.later_commits.ensures ∙ ap (filter (λ (commit : ToldCommit). nat_lt c.args.snapshot commit.seq))
    c.as_slice.ensures.value) c.first_writer.ensures)

pub returns-clause-none : goal.returns-clause-none
returns-clause-none g c =
    let P : List ToldCommit → Type 0 = λ commits. IfNone c.first_writer.result
    (HasNoConflict c.args.snapshot c.args.marks.now commits) in
    subst P (ap (λ (seen : Catalogued). seen.catalogue.commits) c.self.view_is)
    (none_among c.args.snapshot c.args.marks.now c.self.inside.commits.items c.later_commits.result.now
    c.first_writer.result c.self.invariant.0
    (c.later_commits.ensures ∙ ap (filter (λ (commit : ToldCommit). nat_lt c.args.snapshot commit.seq))
    c.as_slice.ensures.value) c.first_writer.ensures)
