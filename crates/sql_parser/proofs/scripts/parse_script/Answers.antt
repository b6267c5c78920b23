use Rattle.std.proofs.Common.{◌≡◌, ◌∙◌, sym, ap, List, Result, Err}
use Rattle.sql_model.specs.declared.scripts.Step.{Step}
use Rattle.sql_tokens.specs.declared.faults.ParseFault.{ParseFault}
use Rattle.sql_tokens.specs.declared.faults.ParseFault.TheVariants.{Refused}
use Rattle.sql_tokens.specs.declared.faults.ScriptBad.{ScriptBad}
use Rattle.sql_tokens.specs.Places.{bad_of}
use Rattle.grammar_laws.specs.Reading.{Syntax}
use Rattle.sql_parser.specs.Refusals.{refused_next}
use Rattle.sql_parser.proofs.ReadLines.{steps_ready}
use Rattle.sql_parser.proofs.Judging.{AtFirst, all_read, left_over, stopped}
use Rattle.sql_parser.proofs.scripts.parse_script.Goals as goal

pub returns-in-Ok-clause-script : goal.returns-in-Ok-clause-script
returns-in-Ok-clause-script c =
    let at : AtFirst c.args.bytes.now c.in_ok-parser.parser = record {
      tokens = c.in_ok-parser.ensures.tokens;
      refused = c.in_ok-parser.ensures.refused;
      bytes_are = c.in_ok-parser.ensures.bytes;
      operators = c.in_ok-parser.ensures.operators;
    } in
    rw c.in_ok-steps_of-in-Ok.ensures
    (all_read c.args.bytes.now c.in_ok-parser.parser c.lines.new.parser c.in-Ok.lines at c.in-Ok.ensures.reads c.in-Ok.ensures.ending (sym c.is_at_end.ensures ∙ c.if-is_at_end.true))

pub returns-in-Ok-clause-numbered : goal.returns-in-Ok-clause-numbered
returns-in-Ok-clause-numbered c =
    (steps_ready c.args.bytes.now c.in_ok-parser.parser c.lines.new.parser c.in-Ok.lines _ c.in_ok-parser.ensures.tokens c.in-Ok.ensures.reads c.in-Ok.ensures.few c.in_ok-steps_of-in-Ok.ensures).numbered

pub returns-in-Ok-clause-kinds : goal.returns-in-Ok-clause-kinds
returns-in-Ok-clause-kinds c =
    (steps_ready c.args.bytes.now c.in_ok-parser.parser c.lines.new.parser c.in-Ok.lines _ c.in_ok-parser.ensures.tokens c.in-Ok.ensures.reads c.in-Ok.ensures.few c.in_ok-steps_of-in-Ok.ensures).kinds

pub returns-in-Ok-clause-in_form : goal.returns-in-Ok-clause-in_form
returns-in-Ok-clause-in_form c =
    (steps_ready c.args.bytes.now c.in_ok-parser.parser c.lines.new.parser c.in-Ok.lines _ c.in_ok-parser.ensures.tokens c.in-Ok.ensures.reads c.in-Ok.ensures.few c.in_ok-steps_of-in-Ok.ensures).forms

same_place : (fault : ParseFault) (place bad : ScriptBad) → fault ≡ Refused place → ◌≡◌ {A = Result (List Step) ParseFault} (Err fault) (Err (Refused bad)) → place ≡ bad
same_place fault place bad is same = cc

pub returns-in-Ok-2-clause-refused : goal.returns-in-Ok-2-clause-refused
returns-in-Ok-2-clause-refused c bad is =
    let at : AtFirst c.args.bytes.now c.in_ok-parser.parser = record {
      tokens = c.in_ok-parser.ensures.tokens;
      refused = c.in_ok-parser.ensures.refused;
      bytes_are = c.in_ok-parser.ensures.bytes;
      operators = c.in_ok-parser.ensures.operators;
    } in
    left_over c.args.bytes.now c.in_ok-parser.parser c.lines.new.parser c.in-Ok-2.field-0 at c.in-Ok-2.ensures.reads c.in-Ok-2.ensures.ending
    (sym c.is_at_end.ensures ∙ c.if-is_at_end.false)
    ∙ ap Err (same_place c.refusal.result (bad_of c.args.bytes.now (refused_next Syntax c.lines.new.parser)) bad c.refusal.ensures is)

pub returns-clause-refused : goal.returns-clause-refused
returns-clause-refused c bad is =
    let at : AtFirst c.args.bytes.now c.in_ok-parser.parser = record {
      tokens = c.in_ok-parser.ensures.tokens;
      refused = c.in_ok-parser.ensures.refused;
      bytes_are = c.in_ok-parser.ensures.bytes;
      operators = c.in_ok-parser.ensures.operators;
    } in
    let same = ap Err (sym c.fault_of.ensures) ∙ is in
    stopped c.args.bytes.now c.in_ok-parser.parser c.lines.new.parser c.in-Err.stop bad at c.in-Err.ensures.reads c.in-Err.ensures.ending same
