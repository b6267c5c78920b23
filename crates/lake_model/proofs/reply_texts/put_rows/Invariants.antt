use Rattle.std.proofs.Common.{◌≡◌, ◌++◌, length, take, drop}
use Rattle.std.specs.List.{flat_map}
use Rattle.lake_model.specs.Replies.{row_line}
use Rattle.lake_model.proofs.reply_texts.put_rows.Given as goal

abbrev pub invariant-loop-row : goal.invariant-loop-row
invariant-loop-row l = record {
  printed : l.out.items ++ flat_map row_line (drop l.row-index l.rows) ≡ l.fn.out.items ++ flat_map row_line l.rows;
  kept : take (length l.fn.out.items) l.out.items ≡ l.fn.out.items;
}
