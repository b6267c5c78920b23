-- What a source and a sink in memory are seen as.
use Rattle.std.specs.Prelude.{ℕ, List}
use Rattle.lake_outside.specs.Counts.{Calls}

-- the bytes that a source still has, and its calls
pub record SourceState : Type 0 where
  pub left : List ℕ
  pub calls : Calls

-- the bytes that a sink took, and its calls
pub record SinkState : Type 0 where
  pub written : List ℕ
  pub calls : Calls
