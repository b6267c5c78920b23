use Rattle.std.proofs.Common.{rules}
use Rattle.server_pool.proofs.Keeps.{keeps_room}
use Rattle.server_pool.proofs.room.kept.Goals as goal

pub new-requires : goal.new-requires
new-requires g c = keeps_room _ _ _ c.in_ok-room_for.field-0 (search rules) c.in_ok-room_for.ensures
