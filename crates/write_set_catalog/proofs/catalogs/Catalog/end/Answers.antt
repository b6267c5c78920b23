use Rattle.std.proofs.Common.{rules, ◌≡◌, ap, ◌∙◌, ◌==◌, List, filter, not}
use Rattle.std.proofs.lemmas.Fn.{filter_same}
use Rattle.write_set_catalog.specs.declared.running.RunningTxn.{RunningTxn}
use Rattle.write_set_catalog.specs.Catalogs.{Catalogued}
use Rattle.write_set_catalog.proofs.catalogs.Catalog.end.Goals as goal

pub returns : goal.returns
returns g c =
    let stays = λ (t : RunningTxn). not (t.number == c.args.number) in
    let left : c.retain.new.self.items ≡ filter stays c.self.inside.running.items =
    filter_same _ stays _ (λ x b q called. search rules) _ _ c.retain.ensures.filtered in
    let now = left ∙ ap (λ (s : Catalogued). filter stays s.catalogue.running) c.self.view_is in
    let with : List RunningTxn → Catalogued → Catalogued = λ running s. record s
    { catalogue = record s.catalogue { running = running } } in
    record { same = λ i. with (now i) (c.self.view_is i) }
