-- What holds of every script.
use Rattle.std.specs.Prelude.{◌≡◌, ℕ, true, List, Ok}
use Rattle.std.specs.List.{list_all}
use Rattle.sql_model.specs.declared.scripts.Step.{Step}
use Rattle.lake_model.specs.State.{Noted}
use Rattle.lake_model.specs.Following.{statements}
use Rattle.lake_model.specs.Laws.{HaveAscendingPlaces, IsSuccess, is_one}
use Rattle.lake_model.specs.Text.{text}
use Rattle.sql_parser.specs.Scripts.{script_of}

-- the places of the statements of a script ascend
abbrev pub PlacesAscend : Type 0
PlacesAscend = (bytes : List ℕ) (steps : List Step) → script_of bytes ≡ Ok steps → HaveAscendingPlaces (statements steps)

-- What is printed for bytes that are a script without PARALLEL follows from the bytes, where nothing fails: all legal
-- chronicles that follow the script and in which nothing failed have one text.
abbrev pub BytesHaveOneText : Type 0
BytesHaveOneText =
    (bytes : List ℕ) (steps : List Step) (entries entries' : List Noted)
    → script_of bytes ≡ Ok steps → list_all is_one steps ≡ true
    → IsSuccess steps entries → IsSuccess steps entries' → text entries steps ≡ text entries' steps
