-- The faults that are noted as the names of a statement are gone through in the order of the text.
use Rattle.std.specs.Prelude.{Bool, List, ℕ, Option, None, Some}
use Rattle.std.specs.Option.{option_or}
use Rattle.sql_model.specs.declared.replies.Refusal.{Refusal}
use Rattle.sql_model.specs.declared.replies.Refusal.TheVariants.{Ambiguous}
use Rattle.sql_model.specs.Scopes.{TableSchemas}
use Rattle.sql_model.specs.Mentions.{Mention, Mentions, nothing, one, both, refused_if, unknown_table, unknown_column, ambiguous_name}
use Rattle.sql_binder.specs.declared.faults.NameFaults.{NameFaults}

abbrev pub no_faults : NameFaults
no_faults = record { table = None; column = None; ambiguous = None }

-- a refusal is kept, unless one was noted before
abbrev pub kept : Option Refusal → Option Refusal → Option Refusal
kept None noted = noted
kept (Some refusal) noted = option_or noted (Some refusal)

-- what is noted behind a mention
abbrev pub noted_one : TableSchemas → NameFaults → Mention → NameFaults
noted_one schemas faults m = record {
  table = kept (unknown_table schemas m) faults.table;
  column = kept (unknown_column m) faults.column;
  ambiguous = kept (ambiguous_name m) faults.ambiguous;
}

-- what is noted behind mentions, in their order
abbrev pub noted : TableSchemas → NameFaults → Mentions → NameFaults
noted schemas faults nothing = faults
noted schemas faults (one m) = noted_one schemas faults m
noted schemas faults (both before behind) = noted schemas (noted schemas faults before) behind

-- what is noted behind a name that is given, which may be given again
abbrev pub noted_given : NameFaults → List ℕ → Bool → NameFaults
noted_given faults name again =
    record faults { ambiguous = kept (refused_if again (Ambiguous name)) faults.ambiguous }

-- the least of the faults: an unknown table, an unknown column, an ambiguous name
abbrev pub least : NameFaults → Option Refusal
least faults = option_or faults.table (option_or faults.column faults.ambiguous)
