-- What is printed for a script follows from its bytes.
use Rattle.std.proofs.Common.{◌≡◌, ℕ, ◌+◌, ◌≤◌, true, List, [], ◌∷◌, Ok, arith}
use Rattle.std.specs.List.{AllByRecursion, list_all}
use Rattle.sql_model.specs.declared.scripts.Numbered.{Numbered}
use Rattle.sql_model.specs.declared.scripts.Step.{Step}
use Rattle.sql_model.specs.declared.scripts.Step.TheVariants.{One, Parallel}
use Rattle.lake_model.specs.State.{Noted}
use Rattle.lake_model.specs.Following.{statements}
use Rattle.lake_model.specs.Laws.{HaveAscendingPlaces, IsSuccess, is_one}
use Rattle.lake_model.specs.Text.{text}
use Rattle.sql_model.proofs.Lists.{all_weaker}
use Rattle.lake_model.proofs.OneText.{one_text}
use Rattle.sql_parser.specs.Scripts.{AreNumberedFrom, script_of}
use Rattle.sql_parser.proofs.ScriptsReady.{script_numbered}

-- steps that are numbered from a place on stand there or behind it
none_before : (place : ℕ) (steps : List Step) → AreNumberedFrom place steps → AllByRecursion (λ n. place ≤ n.place) (statements steps)
none_before place [] numbered = tt
none_before place (One n ∷ steps) numbered =
    let here = numbered.0 in
    (omega (arith, here), all_weaker (statements steps) (λ (m : Numbered) (at : place + 1 ≤ m.place). omega (arith, at)) (none_before (place + 1) steps numbered.3))
none_before place (Parallel group ∷ steps) numbered = absurd numbered

ascend : (place : ℕ) (steps : List Step) → AreNumberedFrom place steps → HaveAscendingPlaces (statements steps)
ascend place [] numbered = tt
ascend place (One n ∷ steps) numbered =
    let here = numbered.0 in
    (all_weaker (statements steps) (λ (m : Numbered) (at : place + 1 ≤ m.place). omega (arith, here, at)) (none_before (place + 1) steps numbered.3), ascend (place + 1) steps numbered.3)
ascend place (Parallel group ∷ steps) numbered = absurd numbered

pub places_ascend : (bytes : List ℕ) (steps : List Step) → script_of bytes ≡ Ok steps → HaveAscendingPlaces (statements steps)
places_ascend bytes steps is = ascend 1 steps (script_numbered bytes steps is).in_turn

pub bytes_have_one_text : (bytes : List ℕ) (steps : List Step) (entries entries' : List Noted) → script_of bytes ≡ Ok steps → list_all is_one steps ≡ true
    → IsSuccess steps entries → IsSuccess steps entries' → text entries steps ≡ text entries' steps
bytes_have_one_text bytes steps entries entries' is single one other =
    one_text steps entries entries' (record { single = single; places = places_ascend bytes steps is }) one other
