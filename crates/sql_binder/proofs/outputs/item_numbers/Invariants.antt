use Rattle.std.proofs.Common.{◌≡◌, ◌++◌, drop}
use Rattle.sql_model.specs.BoundForms as form
use Rattle.sql_binder.proofs.outputs.item_numbers.Given as goal

abbrev pub invariant-loop-number : goal.invariant-loop-number
invariant-loop-number l = l.numbers.items ++ form.numbers_from l.number (drop l.number l.items) ≡ form.numbers_from 0 l.items
