-- What the check of a script has done when it ends.
use Rattle.std.specs.Prelude.{ℕ, ◌<◌, ◌≤◌, ◌⊎◌, List, [], ◌++◌, Option, length, take, codes}
use Rattle.std.specs.Fmt.{decimal}
use Rattle.std.specs.Io.KnownBytes.{Appends}
use Rattle.lake_outside.specs.Counts.{Rises}
use Rattle.sql_model.specs.declared.scripts.Step.{Step}
use Rattle.lake_model.specs.Following.{statements}
use Rattle.lake_script.specs.declared.status.Status.{Status}
use Rattle.lake_script.specs.declared.status.Status.TheVariants.{Done, Usage, ScriptRefused, TooLong, ReadFault, WriteFault, NoMemory}
use Rattle.lake_script.specs.Commands.{IsCheck}
use Rattle.lake_script.specs.Headline.{HasRead, Outside, ReadsRefused, ReadsScript}

abbrev pub line_of_count : ℕ → List ℕ
line_of_count count = codes "ok: " ++ decimal count ++ codes " statements\n"

-- how many statements the script has
abbrev pub check_text : List Step → List ℕ
check_text steps = line_of_count (length (statements steps))

-- fewer bytes than all of them were written
abbrev pub WritesFewer : Option (List ℕ) → Option (List ℕ) → List ℕ → Type 0
WritesFewer before after text = (n : ℕ) × (n < length text) × Appends before after (take n text)

-- what each status says of a check
abbrev pub ChecksAs : Outside → List (List ℕ) → Status → Type 0
ChecksAs o words Done = IsCheck words × ReadsScript (λ steps. Appends o.written_before o.written_after (check_text steps)) o.left_before o.left_after
ChecksAs o words Usage = ¬ IsCheck words
ChecksAs o words (ScriptRefused bad) = IsCheck words × ReadsRefused bad o.left_before o.left_after
ChecksAs o words TooLong = IsCheck words × HasRead (λ n. 16777216 < n) o.left_before o.left_after
ChecksAs o words ReadFault = IsCheck words × Rises o.source_before o.source_after × HasRead (λ n. n ≤ 16777216) o.left_before o.left_after
ChecksAs o words WriteFault = IsCheck words × ReadsScript (λ steps. WritesFewer o.written_before o.written_after (check_text steps)) o.left_before o.left_after
    × (Rises o.sink_before o.sink_after ⊎ Rises o.idle_before o.idle_after)
ChecksAs o words NoMemory = IsCheck words × (Appends o.written_before o.written_after [] ⊎ ReadsScript (λ steps. WritesFewer o.written_before o.written_after (check_text steps)) o.left_before o.left_after)
