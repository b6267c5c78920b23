use Rattle.column_file.proofs.Rows.{all_wide}
use Rattle.column_file.proofs.write.encode_rows.Goals as goal

pub put_columns-requires : goal.put_columns-requires
put_columns-requires c = let h = all_wide (λ k. k.kind) c.args.schema.now.columns c.args.rows.now c.requires in rw c.columns-columns.ensures.list h
