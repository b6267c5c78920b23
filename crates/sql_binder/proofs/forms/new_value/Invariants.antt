use Rattle.std.proofs.Common.{◌≡◌, drop}
use Rattle.sql_model.specs.BoundForms.{new_value}
use Rattle.sql_binder.proofs.forms.new_value.Given as goal

abbrev pub invariant-loop-set : goal.invariant-loop-set
invariant-loop-set l = new_value l.scope (drop l.set-index l.sets) l.place l.name ≡ new_value l.scope l.sets l.place l.name
