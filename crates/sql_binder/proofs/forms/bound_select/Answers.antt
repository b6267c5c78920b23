use Rattle.std.proofs.Common.{◌∙◌, ap, length, map, refl}
use Rattle.sql_model.specs.BoundForms.{guards_of, computed_of, answered_by, is_grouped, order_key, pairs_of, stage_guards}
use Rattle.sql_model.specs.Mentions.{output_names}
use Rattle.sql_model.specs.Scopes.{source_headings}
use Rattle.sql_binder.proofs.Queries.{same_query}
use Rattle.sql_binder.proofs.forms.bound_select.Goals as goal

pub returns : goal.returns
returns c =
    let schemas = c.args.schemas.now in
    let q = c.args.query.now in
    let scope = c.requires.scope in
    let sources = c.as_slice-sources.ensures in
    let ons = c.as_slice.ensures in
    let guards = c.in_ok-guards.ensures.guards ∙ ap (λ s. guards_of s q.filter) scope in
    same_query _ _
    (c.from_list.ensures ∙ c.in_ok-tables.ensures ∙ ap (map (λ s. s.table)) sources)
    (c.from_list-2.ensures ∙ c.in_ok-widths.ensures ∙ ap (map (λ s. length (source_headings schemas s))) sources)
    (c.from_list-3.ensures ∙ c.in_ok-stages.ensures.pairs ∙ (λ i. pairs_of schemas (sources i) (ons i)))
    (c.from_list-4.ensures ∙ c.in_ok-stages.ensures.guards ∙ (λ i. stage_guards schemas (sources i) (ons i) (guards i)))
    (c.from_list-5.ensures ∙ c.in_ok-guards.ensures.computed ∙ ap (λ s. computed_of s q.filter) scope)
    (c.from_list-6.ensures ∙ c.in_ok-answer.ensures.items ∙ ap (λ s. (answered_by (is_grouped q) s q).items) scope)
    (c.from_list-7.ensures ∙ c.in_ok-answer.ensures.keys ∙ ap (λ s. (answered_by (is_grouped q) s q).keys) scope)
    (c.from_list-8.ensures ∙ c.in_ok-answer.ensures.aggs ∙ ap (λ s. (answered_by (is_grouped q) s q).aggs) scope)
    (c.from_list-9.ensures ∙ c.in_ok-answer.ensures.outputs ∙ ap (λ s. (answered_by (is_grouped q) s q).outputs) scope)
    (c.from_list-10.ensures ∙ c.in_ok-order.ensures ∙ ap (λ s. map (order_key (output_names s q)) q.order) scope)
    refl
