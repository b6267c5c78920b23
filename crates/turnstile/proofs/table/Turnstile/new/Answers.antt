use Rattle.std.proofs.Common.{rules, arith}
use Rattle.std.proofs.lemmas.Grind.{common_steps}
use Rattle.turnstile.proofs.Opens.{begins}
use Rattle.turnstile.proofs.table.Turnstile.new.Goals as goal

pub new-requires : goal.new-requires
new-requires g c =
    let slots = c.push.new.self.items in
    begins (search rules) c.length-front.result (search rules) slots
    (grind (arith, common_steps))
