use Rattle.std.proofs.Common.{◌≡◌, ◌+◌, ap, subst, sym, ℕ}
use Rattle.write_set_catalog.specs.Catalogs.{AreInOrder, AreUpTo, Catalogued, ToldCommit}
use Rattle.write_set_catalog.proofs.ConflictLemmas.{appended}
use Rattle.write_set_catalog.proofs.catalogs.Catalog.append.Goals as goal

pub invariant_of-self : goal.invariant_of-self
invariant_of-self g c =
    let last = ap (λ (seen : Catalogued). seen.catalogue.last) c.self.view_is in
    let next = subst (λ (l : ℕ). c.args.commit.seq ≡ l + 1) (sym last) c.requires.next in
    let more = c.push_reserved.new.self.items in
    subst (λ (seq : ℕ). AreInOrder more × AreUpTo seq more)
    (sym (ap (λ (commit : ToldCommit). commit.seq) c.commit.view_is))
    (appended c.self.inside.commits.items more c.args.commit _ c.push_reserved.ensures.items
    c.self.invariant next)
