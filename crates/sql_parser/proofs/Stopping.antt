-- A part that was stopped stops what it is a part of.
use Rattle.std.proofs.Common.{◌≡◌, Err}
use Rattle.grammar_laws.specs.Reading.{Answer, Refused}
use Rattle.sql_tokens.specs.declared.lexemes.Lexed.{Lexed}
use Rattle.sql_parser.specs.declared.stops.Stop.{Stop}
use Rattle.sql_parser.specs.declared.stops.Stop.TheVariants as stop
use Rattle.sql_parser.specs.Ahead.{Ahead, Stops}

pub stops_by : {A B : Type 0} (part : Answer Lexed A) (whole : Answer Lexed B) → ((e : Refused Lexed) → part ≡ Err e → whole ≡ Err e) → (s : Stop) (after : Ahead)
    → Stops s after part → Stops s after whole
stops_by part whole refused (stop.Refused kind) after is = refused _ is
stops_by part whole refused stop.NoMemory after is = tt
