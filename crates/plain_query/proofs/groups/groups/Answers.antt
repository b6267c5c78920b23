use Rattle.std.proofs.Common.{rules, map, sym, subst, ◌∙◌}
use Rattle.std.specs.List.Sorted.{IsSortedByKey}
use Rattle.std.proofs.lemmas.Result.{IfOk-weaker}
use Rattle.lake_values.specs.Order.{row_cmp}
use Rattle.sql_model.specs.Groups.{key_of}
use Rattle.sql_model.proofs.GroupBags.{same_groups_fit}
use Rattle.plain_query.proofs.SameGroups.{sorted_by_key, same_rows, made_without_keys, made_alike, no_columns}
use Rattle.plain_query.proofs.groups.groups.Goals as goal

pub returns-then-is_empty-clause-made : goal.returns-then-is_empty-clause-made
returns-then-is_empty-clause-made g c =
    let rows = map g.C.Cells.cells c.args.rows.now in
    IfOk-weaker c.one_group.result _ _ (λ made is. made_without_keys c.args.keys.now c.args.aggs.now rows made.items (no_columns c.args.keys.now c.if-is_empty.ensures) is) c.one_group.ensures.made

pub groups_of_sorted-requires-clause-sorted : goal.groups_of_sorted-requires-clause-sorted
groups_of_sorted-requires-clause-sorted g c =
    subst (IsSortedByKey (λ row. key_of c.args.keys.now (g.C.Cells.cells row.now)) row_cmp) (sym c.as_slice.ensures.value)
    (sorted_by_key (λ row. key_of c.args.keys.now (g.C.Cells.cells row.now)) _ c.sort_unstable_by.ensures.sorted (λ a r f k. search rules))

pub returns : goal.returns
returns g c =
    let columns = c.args.keys.now in
    let aggs = c.args.aggs.now in
    let rows = map g.C.Cells.cells c.args.rows.now in
    let sorted = map (λ row. g.C.Cells.cells row.now) c.as_slice.result.now in
    let same = same_rows (λ row. g.C.Cells.cells row.now) rows _ _ _ c.in_ok-sorted.ensures c.sort_unstable_by.ensures.permutation c.as_slice.ensures.value in
    let alike = same_groups_fit columns aggs rows sorted same in
    record {
      made = IfOk-weaker c.groups_of_sorted.result _ _ (λ made is. made_alike columns aggs rows sorted made.items same is) c.groups_of_sorted.ensures.made;
      fits = IfOk-weaker c.groups_of_sorted.result _ _ (λ made fit. alike ∙ fit) c.groups_of_sorted.ensures.fits;
      overflow = λ err. alike ∙ c.groups_of_sorted.ensures.overflow err;
    }
