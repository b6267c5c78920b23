use Rattle.std.proofs.Common.{◌≡◌, ◌&&◌, Bool, List, not, filter, rules, sym, ap, ◌∙◌}
use Rattle.std.proofs.iter.runs.Made.{chains}
use Rattle.std.specs.BTreeSet.{contains, difference, keys}
use Rattle.lake_values.specs.declared.names.Name.{Name}
use Rattle.lake_values.specs.contracts.names.NameOrd.TheImpl as order
use Rattle.lake_values.specs.Names.{is_among, is_ascending}
use Rattle.table_snapshot.specs.Files.{names_in}
use Rattle.table_snapshot.proofs.MapChanges.{ascend}
use Rattle.table_snapshot.proofs.NameSets.{among_keys, among_passed}
use Rattle.table_snapshot.proofs.names.names_beyond.Goals as goal

listed : (c : goal.After-drop-has-2) → c.from_list.result ≡ difference order.ghosts.cmp c.in_ok-has.has c.in_ok-lacks.lacks
listed c = search (rules, chains)

pub returns-clause-names : goal.returns-clause-names
returns-clause-names c = λ q.
    let lacks = c.in_ok-lacks.lacks in
    ap (is_among q) (listed c)
    ∙ among_passed (λ k. not (contains order.ghosts.cmp lacks k)) q (keys c.in_ok-has.has)
    ∙ ap (λ (b : Bool). b && not (contains order.ghosts.cmp lacks q)) (c.in_ok-has.ensures q)
    ∙ ap (λ (b : Bool). is_among q (names_in c.args.files.now) && not b)
    (among_keys q (keys lacks) ∙ c.in_ok-lacks.ensures q)

pub returns-clause-order : goal.returns-clause-order
returns-clause-order c =
    ap is_ascending (listed c ∙ sym c.difference.ensures.rest)
    ∙ ascend c.difference.result c.difference.ensures.ordered
