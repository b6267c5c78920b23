use Rattle.std.proofs.Common.{◌≡◌, ◌≤◌, ◌-◌, ◌++◌, length, map}
use Rattle.sql_tokens.specs.Listing.{AreInOrder, token_of}
use Rattle.sql_tokens.specs.Scans.{scan, scan_at}
use Rattle.sql_tokens.proofs.listing.tokens.Given as goal

abbrev pub invariant-tokens : goal.invariant-tokens
invariant-tokens l = record {
  within : l.from ≤ length l.bytes;
  tokens : map token_of (scan 0 l.bytes).tokens ≡ l.list.items ++ map token_of (scan_at l.from l.bytes).tokens;
  refused : (scan 0 l.bytes).refused ≡ (scan_at l.from l.bytes).refused;
  in_order : AreInOrder 0 l.from l.list.items;
}

abbrev pub decreases-tokens : goal.decreases-tokens
decreases-tokens l = length l.bytes - l.from
