use Rattle.std.proofs.Common.{sym, ap, ◌∙◌, is_some}
use Rattle.sql_model.specs.Binding.{is_of_group}
use Rattle.sql_binder.proofs.KeyPlaces.{key_found}
use Rattle.sql_binder.proofs.groups.is_of_group.Goals as goal

pub returns-in-Plain : goal.returns-in-Plain
returns-in-Plain c =
    c.is_some.ensures ∙ ap is_some c.key_place.ensures ∙ key_found c.args.scope.now c.args.keys.now c.in-Plain.expression
    ∙ ap (is_of_group c.args.scope.now c.args.keys.now) (sym c.in-Plain.is)
