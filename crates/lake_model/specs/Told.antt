-- What rests on bytes that are read. A port tells the bytes that it reads, or tells nothing of
-- them, and then nobody knows what a blob holds. So the first argument of a definition, `told`, is
-- whether ports tell their bytes, and what rests on bytes stands under `WhereTold`: rows, and what
-- is computed from rows. All else holds over every port.
use Rattle.std.specs.Prelude.{Bool, true, false}

-- the claim holds where ports tell their bytes; where they don't, nothing is said
abbrev pub WhereTold : Bool → Type 0 → Type 0
WhereTold true claim = claim
WhereTold false claim = Unit {0}
