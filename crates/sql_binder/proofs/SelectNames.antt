-- The faults noted behind the parts of a query are those noted behind the query.
use Rattle.std.proofs.Common.{◌≡◌, List, ◌∙◌}
use Rattle.sql_model.specs.declared.expressions.Item.{Item}
use Rattle.sql_model.specs.declared.expressions.Ref.{Ref}
use Rattle.sql_model.specs.declared.scopes.Heading.{Heading}
use Rattle.sql_model.specs.declared.statements.Select.{Select}
use Rattle.sql_model.specs.declared.statements.SourceRef.{SourceRef}
use Rattle.sql_model.specs.Mentions.{each, in_item, in_sources, in_filter, in_ref, in_order, in_select}
use Rattle.sql_model.specs.Scopes.{TableSchemas, scope_of}
use Rattle.sql_binder.specs.declared.faults.NameFaults.{NameFaults}
use Rattle.sql_binder.specs.Noting.{noted}

pub noted_select : (s : TableSchemas) (q : Select) (scope : List Heading) (items : List Item) (sources : List SourceRef) (ons : List (List (Ref × Ref))) (groups : List Ref) (f f1 f2 f3 f4 f5 : NameFaults)
    → scope ≡ scope_of s q.sources → items ≡ q.items → sources ≡ q.sources → ons ≡ q.ons → groups ≡ q.groups
    → f1 ≡ noted s f (each (in_item scope) items) → f2 ≡ noted s f1 (in_sources s sources ons) → f3 ≡ noted s f2 (in_filter scope q.filter)
    → f4 ≡ noted s f3 (each (in_ref scope) groups) → f5 ≡ noted s f4 (in_order scope q) → f5 ≡ noted s f (in_select s q)
noted_select s q scope items sources ons groups f f1 f2 f3 f4 f5 e is ss os gs h1 h2 h3 h4 h5 =
    let whole = scope_of s q.sources in
    let a : f1 ≡ noted s f (each (in_item whole) q.items) = h1 ∙ (λ i. noted s f (each (in_item (e i)) (is i))) in
    let b : f2 ≡ noted s (noted s f (each (in_item whole) q.items)) (in_sources s q.sources q.ons) = h2 ∙ (λ i. noted s (a i) (in_sources s (ss i) (os i))) in
    let c : f3 ≡ noted s (noted s (noted s f (each (in_item whole) q.items)) (in_sources s q.sources q.ons)) (in_filter whole q.filter) = h3 ∙ (λ i. noted s (b i) (in_filter (e i) q.filter)) in
    let d : f4 ≡ noted s (noted s (noted s (noted s f (each (in_item whole) q.items)) (in_sources s q.sources q.ons)) (in_filter whole q.filter)) (each (in_ref whole) q.groups) = h4 ∙ (λ i. noted s (c i) (each (in_ref (e i)) (gs i))) in
    h5 ∙ (λ i. noted s (d i) (in_order (e i) q))
