use Rattle.std.proofs.Common.{◌≡◌, ℕ, List, [], ◌∷◌, ◌++◌, ◌+◌, map, drop, sym, ap, refl, ◌∙◌, append_assoc}
use Rattle.std.specs.Global.{Vec}
use Rattle.std.proofs.lemmas.List.{at_drop_more, map_push}
use Rattle.lake_values.specs.declared.values.Value.{Value}
use Rattle.sql_model.specs.Versions.{rows_of}
use Rattle.table_history.specs.declared.kept.ViewRow.{ViewRow}
use Rattle.table_history.specs.Stores.{marked_of}
use Rattle.lake_session.specs.Lending.{rows_seen}
use Rattle.lake_session.proofs.lending.tables_lent.Goals as goal

-- the rows without the marks that they had
rows_marked : (table : List ℕ) (rows : List ViewRow) → rows_seen rows ≡ map (λ m. m.row) (map (marked_of table) rows)
rows_marked table [] = refl
rows_marked table (r ∷ rs) = ap (λ (vs : List (List Value)). r.row.now ∷ vs) (rows_marked table rs)

pub loop-name-preserved : goal.loop-name-preserved
loop-name-preserved c =
    let names = c.args.names.now in
    let i = c.loop-name.name-index in
    let name = c.name-item.result in
    let rows = rows_of c.args.lent.now in
    let seen : Vec ViewRow → List (List Value) = λ t. rows_seen t.items in
    let before = c.loop-name.tables.items in
    let next = c.in_ok-rows.field-0 in
    let behind = map rows (drop (i + 1) names) in
    let same : seen next ≡ rows name = rows_marked name next.items ∙ ap (map (λ m. m.row)) c.in_ok-rows.ensures in
    ap (λ ts. map seen ts ++ behind) c.in_ok-push.ensures.items
    ∙ ap (λ rs. rs ++ behind) (map_push seen before next)
    ∙ append_assoc (map seen before) (seen next ∷ []) behind
    ∙ ap (λ rs. map seen before ++ (rs ∷ behind)) same
    ∙ ap (λ rs. map seen before ++ rs) (sym (at_drop_more (map rows) names i name c.loop-name-test.true ∙ ap (λ n. rows n ∷ behind) (sym c.name-item.is)))
    ∙ c.loop-name.invariant
