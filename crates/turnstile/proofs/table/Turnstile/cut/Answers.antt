use Rattle.std.proofs.Common.{rules}
use Rattle.turnstile.proofs.Cuts.{cuts}
use Rattle.turnstile.proofs.table.Turnstile.cut.Goals as goal

pub split_seat-requires : goal.split_seat-requires
split_seat-requires g c = (
  search rules,
  search rules,
  cuts _ _ _ _ c.requires.pass.1.0 c.requires.left c.requires.session.0 c.requires.session.1,
)
