use Rattle.std.proofs.Common.{rules, ◌≡◌, ◌++◌, [], ◌∷◌, ◌∙◌, arith}
use Rattle.lake_script.proofs.Lending.{lends_one}
use Rattle.lake_script.proofs.Seats.{seats_one}
use Rattle.lake_script.proofs.sessions.take_sessions.Goals as goal

pub loop-taken-preserved : goal.loop-taken-preserved
loop-taken-preserved g c =
    let pushed : c.push.new.self.items ≡ c.loop-taken.sessions.items ++ c.new-session.result ∷ [] = search rules in record {
      seated = seats_one c.loop-taken.sessions.items c.push.new.self.items c.new-session.result c.loop-taken.invariant.seated
          (omega (arith, c.new-session.ensures.number, c.loop-taken.invariant.len, c.loop-taken.sessions.ok.0)) c.new-session.ensures.unspent pushed;
      len = search rules;
      room = omega (arith, c.loop-taken.invariant.room, c.push.ensures.capacity);
      lent = lends_one c.loop-taken.ports.items c.remove.new.self.items c.loop-taken.sessions.items c.push.new.self.items c.new-session.result c.remove.result (omega (arith, c.loop-taken.invariant.left, c.loop-taken-test.true, c.requires, c.loop-taken.ports.ok.0)) c.remove.ensures.items c.remove.ensures.value c.new-session.ensures.port pushed ∙ c.loop-taken.invariant.lent;
      left = omega (arith, c.loop-taken.invariant.left, c.remove.ensures.len);
      in_place = c.remove.ensures.in_place ∙ c.loop-taken.invariant.in_place;
      capacity = c.remove.ensures.capacity ∙ c.loop-taken.invariant.capacity;
    }
