-- The statements of a script that was read, as they run.
use Rattle.std.proofs.Common.{◌≡◌, ℕ, ◌+◌, true, List, [], ◌∷◌, refl}
use Rattle.std.specs.Prelude.{Bool, false, ◌&&◌}
use Rattle.std.specs.List.{list_all}
use Rattle.sql_model.specs.declared.scripts.Step.{Step}
use Rattle.sql_model.specs.declared.scripts.Step.TheVariants.{One, Parallel}
use Rattle.sql_model.specs.Form.{is_form}
use Rattle.sql_model.specs.ScriptStatements.{is_script_statement}
use Rattle.sql_parser.specs.Scripts.{AreNumbered, AreNumberedFrom, AllStatements, all_of_step}
use Rattle.lake_script.specs.Scripts.{AreInTurn}

both_true : (a b : Bool) → a && b ≡ true → (a ≡ true) × (b ≡ true)
both_true true b h = (refl, h)
both_true false b h = absurd cc

in_turn_from : (place : ℕ) (steps : List Step) → AreNumberedFrom place steps → AllStatements is_script_statement steps → AllStatements is_form steps → AreInTurn place steps
in_turn_from place [] numbered kinds forms = tt
in_turn_from place (One n ∷ steps) numbered kinds forms =
    let (kind, kinds') = both_true (is_script_statement n.statement) (list_all (all_of_step is_script_statement) steps) kinds in
    let (form, forms') = both_true (is_form n.statement) (list_all (all_of_step is_form) steps) forms in
    (numbered.0, record { some = numbered.1; at_most = numbered.2; kind = kind; form = form }, in_turn_from (place + 1) steps numbered.3 kinds' forms')
in_turn_from place (Parallel group ∷ steps) numbered kinds forms = absurd numbered

-- its steps are statements that run, numbered from 1
pub in_turn : (steps : List Step) → AreNumbered steps → AllStatements is_script_statement steps → AllStatements is_form steps → AreInTurn 1 steps
in_turn steps numbered kinds forms = in_turn_from 1 steps numbered.in_turn kinds forms
