use Rattle.std.proofs.Common.{◌≡◌, drop, map}
use Rattle.std.specs.List.{list_any}
use Rattle.lake_values.specs.Texts.{same_text}
use Rattle.sql_binder.proofs.names.is_source_among.Given as goal

abbrev pub invariant-loop-source : goal.invariant-loop-source
invariant-loop-source l = list_any (same_text l.name) (map (λ s. s.name) (drop l.source-index l.sources)) ≡ list_any (same_text l.name) (map (λ s. s.name) l.sources)
