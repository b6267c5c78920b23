use Rattle.std.proofs.Common.{◌≡◌, drop, map}
use Rattle.std.specs.List.{list_any}
use Rattle.lake_values.specs.Texts.{same_text}
use Rattle.sql_binder.proofs.names.is_set_among.Given as goal

abbrev pub invariant-loop-set : goal.invariant-loop-set
invariant-loop-set l = list_any (same_text l.name) (map (λ s. s.column) (drop l.set-index l.sets)) ≡ list_any (same_text l.name) (map (λ s. s.column) l.sets)
