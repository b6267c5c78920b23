-- The bound form of a statement in form is ready to be evaluated.
use Rattle.std.proofs.Common.{◌≡◌, ℕ, ◌≤◌, ◌-◌, ◌==◌, Bool, true, false, not, ◌&&◌, ◌||◌, cond, nat_lt, nat_le, leb-true, List, [], ◌∷◌, ◌++◌, length, filter, Option, None, Some, Ok, refl, sym, ap, ◌∙◌, subst, arith}
use Rattle.std.proofs.lemmas.List.{length-map}
use Rattle.std.proofs.lemmas.List.Folds.{list_all-append}
use Rattle.std.specs.Cmp.{first_so, second_so}
use Rattle.std.specs.Cmp.Derive.{both_true}
use Rattle.std.specs.List.{list_all, filter_map, cons_option}
use Rattle.sql_model.specs.declared.bound.Bound.{Bound}
use Rattle.sql_model.specs.declared.bound.BoundExpr.{BoundExpr, fold-roll-BoundExpr}
use Rattle.sql_model.specs.declared.bound.BoundExpr.TheOpen.{BoundExpr-F}
use Rattle.sql_model.specs.declared.bound.BoundExpr.TheVariants.{Column, rolls-Column}
use Rattle.sql_model.specs.declared.expressions.CmpOp.TheVariants.{Eq}
use Rattle.sql_model.specs.declared.expressions.Expr.{Expr}
use Rattle.sql_model.specs.declared.expressions.Ref.{Ref}
use Rattle.sql_model.specs.declared.replies.Refusal.{Refusal}
use Rattle.sql_model.specs.declared.scopes.Heading.{Heading}
use Rattle.sql_model.specs.declared.statements.Select.{Select as Written}
use Rattle.sql_model.specs.declared.statements.SourceRef.{SourceRef}
use Rattle.sql_model.specs.declared.statements.Statement.{Statement}
use Rattle.sql_model.specs.declared.statements.Statement.TheVariants.{Select, Update, Delete}
use Rattle.sql_model.specs.Binding.{refused, answered, IsBound}
use Rattle.sql_model.specs.BoundForms.{has_arithmetic, arithmetic_step, is_within, conjuncts, guards_of, equality, guard_by, guard_of, own_guards, guards_left, join_guards, stage_guards, bound_form}
use Rattle.sql_model.specs.Form.{is_between, is_filter, is_item, is_source, is_on, is_key, are_names, has_item_count, groups_one_table, has_bounds, is_select, IsInForm}
use Rattle.sql_model.specs.Scopes.{TableSchemas, source_headings, scope_of, table_scope, column_of}
use Rattle.row_evaluation.specs.Conditions.{is_guard, AreGuards}
use Rattle.plain_query.specs.Databases.{AreAllGuards, IsEvaluable}
use Rattle.row_evaluation.proofs.Parts.{compare_arithmetic}

-- which members pass among those that a filter keeps

filter_passes_test : {X : Type 0} (p : X → Bool) (xs : List X) → list_all p (filter p xs) ≡ true
filter_passes_test p [] = refl
filter_passes_test p (x ∷ xs) =
    elim (p x) as (λ b. p x ≡ b → list_all p (cond b (x ∷ filter p xs) (filter p xs)) ≡ true) [
      | true ↦ λ e. both_true e (filter_passes_test p xs)
      | false ↦ λ e. filter_passes_test p xs
    ] refl

filter_keeps_test : {X : Type 0} (p q : X → Bool) (xs : List X) → list_all p xs ≡ true → list_all p (filter q xs) ≡ true
filter_keeps_test p q [] all = refl
filter_keeps_test p q (x ∷ xs) all =
    let rest = filter_keeps_test p q xs (second_so (p x) (list_all p xs) all) in
    elim (q x) as (λ b. list_all p (cond b (x ∷ filter q xs) (filter q xs)) ≡ true) [
      | true ↦ both_true (first_so (p x) (list_all p xs) all) rest
      | false ↦ rest
    ]

-- the conditions of a WHERE without + - * are guards
where_guards : (scope : List Heading) (condition : Option Expr) → AreGuards (guards_of scope condition)
where_guards scope condition = filter_passes_test is_guard (conjuncts scope condition)

-- the equality of two columns is a guard

column_arithmetic : (place : ℕ) → has_arithmetic (Column place) ≡ false
column_arithmetic place = ap has_arithmetic (sym (rolls-Column place)) ∙ fold-roll-BoundExpr Bool arithmetic_step (BoundExpr-F.Column place)

equality_guard : (x y : ℕ) → is_guard (equality x y) ≡ true
equality_guard x y =
    ap not (compare_arithmetic Eq (Column x) (Column y) ∙ (λ i. column_arithmetic x i || column_arithmetic y i))

guard_by_more : (p q : Bool) (x y : ℕ) (guards : List BoundExpr) → AreGuards guards → AreGuards (cons_option (guard_by p q x y) guards)
guard_by_more true false x y guards all = all
guard_by_more false true x y guards all = all
guard_by_more true true x y guards all = both_true (equality_guard x y) all
guard_by_more false false x y guards all = both_true (equality_guard x y) all

on_guards : (scope : List Heading) (start : ℕ) (on : List (Ref × Ref)) → AreGuards (filter_map (guard_of scope start) on)
on_guards scope start [] = refl
on_guards scope start (p ∷ ps) =
    let x = column_of scope p.0 in
    let y = column_of scope p.1 in
    guard_by_more (nat_lt x start) (nat_lt y start) x y (filter_map (guard_of scope start) ps) (on_guards scope start ps)

-- the guards of each stage

module _ (schemas : TableSchemas) where
  own_ready : (before : List Heading) (source : SourceRef) (on : List (Ref × Ref)) (guards : List BoundExpr) → AreGuards guards → AreGuards (own_guards schemas before source on guards)
  unfolding own_guards
  own_ready before source on guards all =
      let joined = before ++ source_headings schemas source in
      list_all-append is_guard (filter_map (guard_of joined (length before)) on) (filter (is_within (length joined)) guards)
      ∙ both_true (on_guards joined (length before) on) (filter_keeps_test is_guard (is_within (length joined)) guards all)

  left_ready : (before : List Heading) (source : SourceRef) (guards : List BoundExpr) → AreGuards guards → AreGuards (guards_left schemas before source guards)
  unfolding guards_left
  left_ready before source guards all = filter_keeps_test is_guard _ guards all

  join_ready : (before : List Heading) (sources : List SourceRef) (ons : List (List (Ref × Ref))) (guards : List BoundExpr) → AreGuards guards → AreAllGuards (join_guards schemas before sources ons guards)
  join_ready before [] ons guards all = refl
  join_ready before (source ∷ sources) [] guards all = refl
  join_ready before (source ∷ sources) (on ∷ ons) guards all =
      both_true (own_ready before source on guards all)
      (join_ready (before ++ source_headings schemas source) sources ons (guards_left schemas before source guards) (left_ready before source guards all))

  stages_ready : (sources : List SourceRef) (ons : List (List (Ref × Ref))) (guards : List BoundExpr) → AreGuards guards → AreAllGuards (stage_guards schemas sources ons guards)
  stages_ready [] ons guards all = refl
  stages_ready (source ∷ sources) ons guards all =
      both_true (own_ready [] source [] guards all)
      (join_ready (source_headings schemas source) sources ons (guards_left schemas [] source guards) (left_ready [] source guards all))

-- a query in form has 1 to 4 tables
between : (least most n : ℕ) → is_between least most n ≡ true → (least ≤ n) × (n ≤ most)
between least most n h = (leb-true least n (first_so (nat_le least n) (nat_le n most) h), leb-true n most (second_so (nat_le least n) (nat_le n most) h))

source_count : (q : Written) → is_select q ≡ true → (1 ≤ length q.sources) × (length q.sources ≤ 4)
source_count q h = between 1 4 (length q.sources) (counted bounded)
  where
    bounded : has_bounds q ≡ true
    bounded =
        elim (has_bounds q) as (λ b. b && list_all is_item q.items && list_all is_source q.sources && list_all is_on q.ons && is_filter q.filter && list_all are_names q.groups && list_all is_key q.order ≡ true → b ≡ true) [
          | true ↦ λ e. refl
          | false ↦ λ e. e
        ] h

    counted : has_bounds q ≡ true → is_between 1 4 (length q.sources) ≡ true
    counted =
        elim (is_between 1 4 (length q.sources)) as (λ b. b && length q.ons == length q.sources - 1 && has_item_count q && nat_le (length q.groups) 64 && nat_le (length q.order) 64 && groups_one_table q ≡ true → b ≡ true) [
          | true ↦ λ e. refl
          | false ↦ λ e. e
        ]

-- a statement that no refusal holds of is bound to its bound form, which is ready

form_ready : (x : Statement) (schemas : TableSchemas) → IsInForm x → IsEvaluable (bound_form schemas x)
form_ready (Select q) schemas in_form =
    let (least, most) = source_count q in_form in
    let same = length-map q.sources (λ (s : SourceRef). s.table) in
    (omega (arith, least, same), omega (arith, most, same), stages_ready schemas q.sources q.ons (guards_of (scope_of schemas q.sources) q.filter) (where_guards (scope_of schemas q.sources) q.filter))
form_ready (Update table sets condition) schemas in_form = where_guards (table_scope schemas table) condition
form_ready (Delete table condition) schemas in_form = where_guards (table_scope schemas table) condition
form_ready x schemas in_form = tt

answered_form : (cause : Option Refusal) (form answer : Bound) → answered cause form ≡ Ok answer → form ≡ answer
answered_form None form answer e = cc
answered_form (Some refusal) form answer e = absurd cc

pub bound_ready : (x : Statement) (schemas : TableSchemas) (form : Bound) → IsInForm x → IsBound x schemas form → IsEvaluable form
bound_ready x schemas form in_form is_bound =
    subst (λ (f : Bound). IsEvaluable f) (answered_form (refused schemas x) (bound_form schemas x) form is_bound) (form_ready x schemas in_form)
