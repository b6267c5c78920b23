use Rattle.std.proofs.Common.{◌≡◌, drop}
use Rattle.std.specs.List.{position_from}
use Rattle.std.specs.Prelude.{nat_eq}
use Rattle.sql_binder.proofs.outputs.place_in.Given as goal

abbrev pub invariant-loop-place : goal.invariant-loop-place
invariant-loop-place l = position_from (nat_eq l.number) l.place (drop l.place l.numbers) ≡ position_from (nat_eq l.number) 0 l.numbers
