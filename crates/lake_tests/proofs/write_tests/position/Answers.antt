use Rattle.std.proofs.Common.{◌≡◌, ℕ, ◌+◌, ◌<◌, ◌||◌, Bool, true, List, sym, ap, ◌∙◌, arith}
use Rattle.std.specs.Prelude.{◌==◌}
use Rattle.std.proofs.lemmas.Bool.{eqb-true}
use Rattle.deletion_vector.specs.Positions.{has}
use Rattle.op_write.proofs.Unions.{all_below}
use Rattle.lake_tests.proofs.write_tests.position.Goals as goal

pub returns : goal.returns
returns c = all_below (c.args.position + 1) c.add.new.self below
  where
    below : (p : ℕ) → has p c.add.new.self ≡ true → p < c.args.position + 1
    below p there =
        let added = c.in_ok-add.ensures.ok p ∙ ap (λ (xs : List ℕ). has p xs || (c.args.position == p)) c.empty-vector.ensures in
        let same = eqb-true c.args.position p (sym added ∙ there) in
        omega (arith, same)
