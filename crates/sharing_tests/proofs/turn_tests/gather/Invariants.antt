use Rattle.std.proofs.Common.{◌+◌, ◌*◌, ◌≡◌, length, All}
use Rattle.std.specs.Vec.Iter.{into_iter_items}
use Rattle.sharing_tests.specs.Writers.{IsResting, IsWriter, all_turns}
use Rattle.sharing_tests.proofs.turn_tests.gather.Given as goal

abbrev pub invariant-loop-writer : goal.invariant-loop-writer
invariant-loop-writer l = IsResting l.turnstile l.pass
    × (all_turns l.pass + length (into_iter_items l.writer-iterator) * 1000 ≡ 16000)
    × All (λ w. IsWriter l.turnstile w.pass w.session) (into_iter_items l.writer-iterator)
