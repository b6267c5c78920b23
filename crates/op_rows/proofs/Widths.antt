-- The width of rows that are put in order.
use Rattle.std.proofs.Common.{◌≡◌, ℕ, List, length, IsPermutation}
use Rattle.std.specs.Prelude.{Option, None, Some}
use Rattle.std.proofs.lemmas.List.Elements.{All-take}
use Rattle.std.proofs.lemmas.List.Sorted.{All-permutation}
use Rattle.lake_values.specs.declared.values.Value.{Value}
use Rattle.sql_model.specs.Query.{limited}
use Rattle.row_packet.specs.Packets.{HaveWidth}

-- rows in another order, cut off at a limit, have the width still
pub limited_width : (width : ℕ) (limit : Option ℕ) (rows moved : List (List Value)) → HaveWidth width rows → IsPermutation rows moved → HaveWidth width (limited limit moved)
limited_width width None rows moved widths same = All-permutation (λ (r : List Value). length r ≡ width) rows moved same widths
limited_width width (Some n) rows moved widths same = All-take (λ (r : List Value). length r ≡ width) n moved (All-permutation (λ (r : List Value). length r ≡ width) rows moved same widths)
