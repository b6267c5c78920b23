-- The tables that a query is evaluated over.
use Rattle.std.specs.Prelude.{◌≡◌, ◌≤◌, ℕ, true, false, List, Result, length, map}
use Rattle.std.specs.Borrow.{Bor}
use Rattle.std.specs.List.{list_all}
use Rattle.lake_values.specs.declared.values.Value.{Value}
use Rattle.sql_model.specs.declared.bound.Bound.{Bound}
use Rattle.sql_model.specs.declared.bound.Bound.TheVariants.{Select, Insert, Update, Delete, Named}
use Rattle.sql_model.specs.declared.bound.BoundExpr.{BoundExpr}
use Rattle.sql_model.specs.declared.bound.Query.{Query}
use Rattle.sql_model.specs.declared.replies.Refusal.{Refusal}
use Rattle.sql_model.specs.Query.{Database, stage, too_many, plain}
use Rattle.row_evaluation.specs.Conditions.{is_guard, AreGuards}

-- no guard of any stage has + - *
abbrev pub AreAllGuards : List (List BoundExpr) → Type 0
AreAllGuards stages = list_all (λ guards. list_all is_guard guards) stages ≡ true

-- the rows of the tables that are lent
abbrev pub rows_lent : {R : Type 0} → (R → List Value) → List (Bor (List R)) → List (List (List Value))
rows_lent cells tables = map (λ table. map cells table.now) tables

-- the database has the rows of these tables, each for the table of the query in its place
abbrev pub IsDatabaseOf : {R : Type 0} → (R → List Value) → Query → List (Bor (List R)) → Database → Type 0
IsDatabaseOf cells q tables db = map db q.tables ≡ rows_lent cells tables

-- over each database of these tables a stage has these rows, and no stage up to it has too many
pub record IsStage {R : Type 0} (cells : R → List Value) (q : Query) (tables : List (Bor (List R))) (j : ℕ) (rows : List (List Value)) : Type 0 where
  pub rows_are : (db : Database) → IsDatabaseOf cells q tables db → stage q db j ≡ rows
  pub few : (db : Database) → IsDatabaseOf cells q tables db → too_many q db j ≡ false

-- over each database of these tables the query answers this
abbrev pub Answers : {R : Type 0} → (R → List Value) → Query → List (Bor (List R)) → Result (List (List Value)) Refusal → Type 0
Answers cells q tables answer = (db : Database) → IsDatabaseOf cells q tables db → plain q db ≡ answer

-- what holds of the bound form of a statement in form: guards have no + - *, and a query has 1 to 4 tables
abbrev pub IsEvaluable : Bound → Type 0
IsEvaluable (Select q) = (1 ≤ length q.tables) × (length q.tables ≤ 4) × AreAllGuards q.guards
IsEvaluable (Update table guards computed items column) = AreGuards guards
IsEvaluable (Delete table guards computed) = AreGuards guards
IsEvaluable (Insert table rows column) = Unit {0}
IsEvaluable (Named table) = Unit {0}
