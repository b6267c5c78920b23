use Rattle.std.proofs.Common.{◌≡◌, ◌&&◌, map, filter, drop, nat_eq}
use Rattle.lake_values.specs.Order.{row_cmp}
use Rattle.sql_model.specs.Changes.{without}
use Rattle.lake_values.specs.Texts.{same_text}
use Rattle.lake_core.proofs.part_changes.remove_of_part.Given as goal

abbrev pub invariant-loop-marked : goal.invariant-loop-marked
invariant-loop-marked l = without row_cmp l.rows.items (map (λ m. m.row) (filter (λ m. same_text m.mark.table l.table && nat_eq m.mark.part l.part) (drop l.marked-index l.own)))
    ≡ without row_cmp l.fn.rows.items (map (λ m. m.row) (filter (λ m. same_text m.mark.table l.table && nat_eq m.mark.part l.part) l.own))
