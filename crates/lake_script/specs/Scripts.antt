-- The statements of a script as sessions run them.
use Rattle.std.specs.Prelude.{◌≡◌, ◌≤◌, ℕ, ◌+◌, true, List, [], ◌∷◌}
use Rattle.sql_model.specs.declared.scripts.Numbered.{Numbered}
use Rattle.sql_model.specs.declared.scripts.Step.{Step}
use Rattle.sql_model.specs.declared.scripts.Step.TheVariants.{One, Parallel}
use Rattle.sql_model.specs.Form.{is_form}
use Rattle.sql_model.specs.ScriptStatements.{is_script_statement}

-- a statement that a session from 1 to 16 runs
pub record IsRunnable (n : Numbered) : Type 0 where
  pub some : 1 ≤ n.session
  pub at_most : n.session ≤ 16
  pub kind : is_script_statement n.statement ≡ true
  pub form : is_form n.statement ≡ true

-- each step is such a statement, and their places follow each other
abbrev pub AreInTurn : ℕ → List Step → Type 0
AreInTurn place [] = Unit {0}
AreInTurn place (One n ∷ steps) = (n.place ≡ place) × IsRunnable n × AreInTurn (place + 1) steps
AreInTurn place (Parallel group ∷ steps) = ⊥
