use Rattle.std.proofs.Common.{sym, ◌∙◌, None, Some}
use Rattle.grammar_laws.specs.Grammars.{many}
use Rattle.grammar_laws.specs.Phrases.{has_room}
use Rattle.sql_parser.specs.Ahead.{reading, most_levels}
use Rattle.sql_parser.proofs.ListLoops.{run_goes_on, member_shrinks}
use Rattle.sql_parser.proofs.lists.run.Goals as goal

pub loop-room-smaller : goal.loop-room-smaller
loop-room-smaller g c =
    member_shrinks g.M.Member.form g.M.Member.decided g.M.Member.has_token (has_room c.loop-room.room) c.loop-room.parser c.next_member.new.parser c.in_ok-member.member c.in_ok-member.ensures.reads

pub loop-room-preserved : goal.loop-room-preserved
loop-room-preserved g c =
    rw (c.less_one-room.ensures, c.in_ok-push.ensures.items)
    (run_goes_on g.M.Member.form g.M.Member.decided g.M.Member.has_token c.loop-room.room (reading most_levels (many (Some c.args.most) None g.M.Member.form) c.args.parser.now)
    c.args.parser.now c.loop-room.parser c.next_member.new.parser c.loop-room.members.items c.in_ok-member.member c.loop-room.invariant (sym c.is_next.ensures ∙ c.loop-room-test.true)
    c.in_ok-member.ensures.reads c.in_ok-member.ensures.ending)
