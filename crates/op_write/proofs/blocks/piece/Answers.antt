use Rattle.std.proofs.Common.{ℕ, List, ◌*◌, ◌-◌, take, drop, length, ap, ◌∙◌, arith}
use Rattle.std.proofs.lemmas.List.{length-drop, take_all, take_min}
use Rattle.op_write.specs.Staging.{block_size}
use Rattle.op_write.proofs.blocks.piece.Goals as goal

pub returns : goal.returns
returns c =
    let bytes = c.args.bytes.now in
    let start = c.args.place * block_size in
    let rest = drop start bytes in
    let whole = take_all (length bytes - start) rest (omega (arith, length-drop start bytes)) in
    rw c.min.ensures (take_min block_size (take (length bytes - start) rest) ∙ ap
    (λ (l : List ℕ). take block_size l) whole)
