use Rattle.std.proofs.Common.{sym, ◌∙◌, ◌<◌, arith, length}
use Rattle.std.proofs.lemmas.Result.{err_from_is_err_and}
use Rattle.grammar_laws.specs.Grammars.{listed}
use Rattle.grammar_laws.specs.Phrases.{has_room}
use Rattle.grammar_laws.specs.Prediction.{begins, first_of}
use Rattle.grammar_laws.specs.Reading.{read, read_member}
use Rattle.sql_parser.specs.Ahead.{reading, most_levels}
use Rattle.sql_parser.specs.Classes.{words}
use Rattle.sql_parser.specs.Grammar.{rules}
use Rattle.sql_parser.specs.Separators.{separator_class}
use Rattle.sql_parser.proofs.ListLoops.{list_goes_on, list_stops, member_shrinks, passes}
use Rattle.sql_parser.proofs.Stopping.{stops_by}
use Rattle.sql_parser.proofs.lists.list_with_capacity.Goals as goal

pub loop-separator-smaller : goal.loop-separator-smaller
loop-separator-smaller g c =
    let p = passes (separator_class c.args.separator) c.loop-separator.parser c.pass_separator.new.parser c.in_ok-pass_separator.ensures.reads in
    let first : length c.pass_separator.new.parser.tokens < length c.loop-separator.parser.tokens = p.shrinks in
    let second =
    member_shrinks g.M.Member.form g.M.Member.decided g.M.Member.has_token (has_room c.loop-separator.room) c.pass_separator.new.parser c.next_member.new.parser c.in_ok-member.member
    c.in_ok-member.ensures.reads in
    omega (arith, first, second)

pub loop-separator-preserved : goal.loop-separator-preserved
loop-separator-preserved g c =
    rw (c.less_one-room-in-loop-separator.ensures, c.in_ok-push-2.ensures.items)
    (list_goes_on g.M.Member.form g.M.Member.decided g.M.Member.has_token c.loop-separator.room (separator_class c.args.separator)
    (reading most_levels (listed c.args.most (separator_class c.args.separator) g.M.Member.form) c.args.parser.now) c.args.parser.now c.loop-separator.parser c.pass_separator.new.parser
    c.next_member.new.parser c.loop-separator.members.items c.in_ok-member.member c.loop-separator.invariant (sym c.is_at_separator.ensures ∙ c.loop-separator-test.true)
    c.in_ok-pass_separator.ensures.reads c.in_ok-member.ensures.reads (c.in_ok-member.ensures.ending ∙ c.in_ok-pass_separator.ensures.ending))

pub returns-in_err-member-clause-reads : goal.returns-in_err-member-clause-reads
returns-in_err-member-clause-reads g c =
    let p = err_from_is_err_and c.from_residual-in_err-member.result c.from_residual-in_err-member.ensures.1 in
    let whole = reading most_levels (listed c.args.most (separator_class c.args.separator) g.M.Member.form) c.args.parser.now in
    rw (p.1, p.2)
    (stops_by
    (read_member (has_room c.loop-separator.room) (begins words (first_of g.M.Member.form)) (read rules most_levels g.M.Member.form) c.pass_separator.new.parser.operators
    c.pass_separator.new.parser.tokens) whole
    (λ e. list_stops g.M.Member.form g.M.Member.decided g.M.Member.has_token c.loop-separator.room (separator_class c.args.separator) whole c.args.parser.now c.loop-separator.parser
    c.pass_separator.new.parser c.loop-separator.members.items e c.loop-separator.invariant (sym c.is_at_separator.ensures ∙ c.loop-separator-test.true) c.in_ok-pass_separator.ensures.reads)
    c.in_err-member.field-0.0 c.next_member.new.parser c.in_err-member.ensures.reads)
