-- Values that are lent by what keeps them.
use Rattle.std.specs.Prelude.{◌≤◌, length}
use Rattle.lake_values.specs.declared.values.Value.{Value}
use Rattle.lake_values.specs.declared.values.Value.TheVariants as value
use Rattle.lake_values.specs.declared.values.ValueRef.{ValueRef}
use Rattle.lake_values.specs.declared.values.ValueRef.TheVariants.{Null, Int, Text}

-- the value that is lent
abbrev pub owned : ValueRef → Value
owned Null = value.Null
owned (Int n) = value.Int n
owned (Text t) = value.Text t.now

-- a text is no longer than a value's text may be
abbrev pub IsShort : ValueRef → Type 0
IsShort Null = Unit {0}
IsShort (Int n) = Unit {0}
IsShort (Text t) = length t.now ≤ 4096
