use Rattle.std.proofs.Common.{◌≡◌, ◌∷◌, map}
use Rattle.sql_parser.proofs.queries.sources_of.Given as goal

abbrev pub invariant-loop-join : goal.invariant-loop-join
invariant-loop-join l = (l.sources.items ≡ l.fn.first ∷ map (λ j. j.source) l.yielded) × (l.ons.items ≡ map (λ j. j.on) l.yielded)
