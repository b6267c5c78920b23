-- What a run of a script has done when it ends.
use Rattle.std.specs.Prelude.{◌≡◌, ◌<◌, ◌≤◌, ◌⊎◌, ℕ, true, List, [], ◌∷◌, ◌++◌, Option, None, Ok, Err, length, IsSomeAnd}
use Rattle.std.specs.Io.KnownBytes.{Consumes, IsAtEnd, Appends}
use Rattle.lake_outside.specs.Counts.{Rises}
use Rattle.sql_model.specs.declared.scripts.Step.{Step}
use Rattle.lake_model.specs.Allowed.{IsLegal}
use Rattle.lake_model.specs.Following.{Follows}
use Rattle.lake_model.specs.State.{Noted}
use Rattle.lake_model.specs.Text.{text}
use Rattle.sql_tokens.specs.declared.faults.ScriptBad.{ScriptBad}
use Rattle.lake_script.specs.declared.status.Status.{Status}
use Rattle.lake_script.specs.declared.status.Status.TheVariants.{Done, Usage, ScriptRefused, TooLong, ReadFault, WriteFault, NoMemory}
use Rattle.lake_core.specs.Lakes.{Lake}
use Rattle.lake_script.specs.Commands.{IsCommand}
use Rattle.sql_parser.specs.Scripts.{script_of}

-- a source that had the bytes `old` gave some bytes, so many as `P` says, and has the bytes `new`
abbrev pub HasRead : (ℕ → Type 0) → Option (List ℕ) → Option (List ℕ) → Type 0
HasRead P old new = (bytes : List ℕ) × Consumes old new bytes × P (length bytes)

-- the source was read to its end, and its bytes were no more than a script may have
pub record IsWhole (old new : Option (List ℕ)) (bytes : List ℕ) : Type 0 where
  pub read : Consumes old new bytes
  pub at_end : IsAtEnd new
  pub within : length bytes ≤ 16777216

-- the source was read to its end, and its bytes are a script of which `P` holds
pub record ReadsScript (P : List Step → Type 0) (old new : Option (List ℕ)) : Type 0 where
  pub bytes : List ℕ
  pub steps : List Step
  pub whole : IsWhole old new bytes
  pub is_script : script_of bytes ≡ Ok steps
  pub holds : P steps

-- the source was read to its end, and its bytes are refused so
abbrev pub ReadsRefused : ScriptBad → Option (List ℕ) → Option (List ℕ) → Type 0
ReadsRefused bad old new = (bytes : List ℕ) × IsWhole old new bytes × (script_of bytes ≡ Err bad)

-- the run ended before its first statement, since the script couldn't be read
abbrev pub EndsReading : Option (List ℕ) → Option (List ℕ) → ℕ → ℕ → Status → Type 0
EndsReading left_before left_after before after Done = ⊥
EndsReading left_before left_after before after Usage = ⊥
EndsReading left_before left_after before after (ScriptRefused bad) = ReadsRefused bad left_before left_after
EndsReading left_before left_after before after TooLong = HasRead (λ n. 16777216 < n) left_before left_after
EndsReading left_before left_after before after ReadFault = Rises before after × HasRead (λ n. n ≤ 16777216) left_before left_after
EndsReading left_before left_after before after WriteFault = ⊥
EndsReading left_before left_after before after NoMemory = Unit {0}

abbrev pub IsPrefix : List ℕ → List ℕ → Type 0
IsPrefix xs ys = (rest : List ℕ) × (ys ≡ xs ++ rest)

-- ys has more than xs
abbrev pub IsProperPrefix : List ℕ → List ℕ → Type 0
IsProperPrefix xs ys = (y : ℕ) × (rest : List ℕ) × (ys ≡ xs ++ y ∷ rest)

-- the chronicle is legal and follows the steps, and its text was written
pub record HasRun (before after : Option (List ℕ)) (entries : List Noted) (steps : List Step) : Type 0 where
  pub legal : IsLegal true entries
  pub follows : Follows true entries steps
  pub text : Appends before after (text entries steps)

-- the chronicle is legal and follows the steps up to one whose text was written in part: what was written
-- begins with the text of the steps before it, and is less than the text with it
pub record HasHalted (before after : Option (List ℕ)) (entries : List Noted) (steps : List Step) : Type 0 where
  pub done : List Step
  pub last : Step
  pub rest : List Step
  pub first : steps ≡ done ++ last ∷ rest
  pub legal : IsLegal true entries
  pub follows : Follows true entries (done ++ last ∷ [])
  pub written : List ℕ
  pub appended : Appends before after written
  pub at_least : IsPrefix (text entries done) written
  pub less : IsProperPrefix written (text entries (done ++ last ∷ []))

-- what was written is a prefix of the text of a legal chronicle that follows first steps
pub record HasBegun (before after : Option (List ℕ)) (steps : List Step) : Type 0 where
  pub done : List Step
  pub rest : List Step
  pub first : steps ≡ done ++ rest
  pub entries : List Noted
  pub legal : IsLegal true entries
  pub follows : Follows true entries done
  pub written : List ℕ
  pub appended : Appends before after written
  pub part : IsPrefix written (text entries done)

-- nothing was written, or a script was read and begun
abbrev pub WritesPart : Option (List ℕ) → Option (List ℕ) → Option (List ℕ) → Option (List ℕ) → Type 0
WritesPart left_old left_new before after = Appends before after [] ⊎ ReadsScript (HasBegun before after) left_old left_new

-- what was known of the source and the sink before a run and after it: bytes, and counts of faults
pub record Outside : Type 0 where
  pub left_before : Option (List ℕ)
  pub left_after : Option (List ℕ)
  pub source_before : ℕ
  pub source_after : ℕ
  pub written_before : Option (List ℕ)
  pub written_after : Option (List ℕ)
  pub sink_before : ℕ
  pub sink_after : ℕ
  pub idle_before : ℕ
  pub idle_after : ℕ

-- what each status says of a run
abbrev pub EndsAs : Outside → List (List ℕ) → Status → Option Lake → Type 0
EndsAs o words Done lake = IsCommand words × IsSomeAnd lake (λ l. ReadsScript (HasRun o.written_before o.written_after l.entries) o.left_before o.left_after)
EndsAs o words Usage lake = (¬ IsCommand words) × (lake ≡ None)
EndsAs o words (ScriptRefused bad) lake = IsCommand words × (lake ≡ None) × ReadsRefused bad o.left_before o.left_after
EndsAs o words TooLong lake = IsCommand words × (lake ≡ None) × HasRead (λ n. 16777216 < n) o.left_before o.left_after
EndsAs o words ReadFault lake = IsCommand words × (lake ≡ None) × Rises o.source_before o.source_after × HasRead (λ n. n ≤ 16777216) o.left_before o.left_after
EndsAs o words WriteFault lake = IsCommand words × IsSomeAnd lake (λ l. ReadsScript (HasHalted o.written_before o.written_after l.entries) o.left_before o.left_after)
    × (Rises o.sink_before o.sink_after ⊎ Rises o.idle_before o.idle_after)
EndsAs o words NoMemory lake = IsCommand words × (lake ≡ None) × WritesPart o.left_before o.left_after o.written_before o.written_after

-- the run ended before its first statement, by a status that says so
abbrev pub IsQuiet : Status → Type 0
IsQuiet Done = ⊥
IsQuiet Usage = Unit {0}
IsQuiet (ScriptRefused bad) = Unit {0}
IsQuiet TooLong = Unit {0}
IsQuiet ReadFault = Unit {0}
IsQuiet WriteFault = ⊥
IsQuiet NoMemory = ⊥
