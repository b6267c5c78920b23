use Rattle.lake_script.proofs.FirstExample.{query_result, seen}
use Rattle.std.proofs.Common.{◌≡◌, ℕ, List, [], length, Ok, Err, Result, take, refl, ap, inl, inr, arith}
use Rattle.std.specs.Prelude.{codes}
use Rattle.std.proofs.lemmas.List.Elements.{All-nil}
use Rattle.sql_model.specs.declared.replies.Reply.{Reply}
use Rattle.sql_model.specs.declared.replies.Reply.TheVariants.{Rows}
use Rattle.sql_model.specs.declared.statements.Statement.TheVariants.{Select}
use Rattle.sql_model.specs.Listing.{IsPartOf}
use Rattle.sql_model.specs.declared.replies.Refusal.{Refusal}
use Rattle.sql_model.specs.Writing.{Effect, result_over}
use Rattle.lake_model.specs.State.{state, view}
use Rattle.sql_model.specs.Versions.{all_rows}
use Rattle.lake_script.specs.Examples.{entries, query_of}
use Rattle.sql_tokens.specs.Tokens.{keyword_of, word, number, closed_text, text, session, double_sign, single_sign, sign_front, front, gap}
use Rattle.sql_tokens.specs.Scans.{scan, scan_behind}
use Rattle.sql_parser.specs.Ahead.{most_levels}
use Rattle.sql_parser.specs.Grammar.{literal, reference, parenthesized, factor, binary_op, product, sum, null_check, tested, predicate, negated, negation, conjunction, disjunction, expression, where_clause, column_type, column, columns, distribution, create, tuple, insert, alias, counted_rows, count, argument, aggregate, item, second_name, source, same, join, group_clause, items, head, grouped, ungrouped, joins, body_behind_aggregate, body, order_by, direction, order_key, order_clause, limit_clause, tail, select, set, update, delete, begin, commit, roll_back, transaction, statement, session_of_line, line, lines, script}
use Rattle.sql_parser.specs.Scripts.{script_of}
use Rattle.lake_script.proofs.examples.first_example.Goals as goal

pub returns-clause-script : goal.returns-clause-script
unfolding script_of most_levels scan scan_behind keyword_of word number closed_text text session double_sign single_sign sign_front front gap literal reference parenthesized factor binary_op product sum null_check tested predicate negated negation conjunction disjunction expression where_clause column_type column columns distribution create tuple insert alias counted_rows count argument aggregate item second_name source same join group_clause items head grouped ungrouped joins body_behind_aggregate body order_by direction order_key order_clause limit_clause tail select set update delete begin commit roll_back transaction statement session_of_line line lines script
returns-clause-script c = refl

-- no rows are part of all rows
nothing : {X : Type 0} (ys : List X) → IsPartOf [] ys
nothing ys = (ys, λ g. refl)

-- a statement removes nothing of what session 1 sees behind so many entries
unseen : (count : ℕ) → IsPartOf [] (all_rows (view (state (take count entries)) 1).tables)
unseen count = nothing (all_rows (view (state (take count entries)) 1).tables)

pub returns-clause-legal : goal.returns-clause-legal
returns-clause-legal c = (
  (refl, refl, refl),
  (
    (refl, refl, refl),
    (
      record { removes = unseen 2; adds = (refl, tt); once = (All-nil _, tt); filled = (refl, tt); replies = tt },
      (
        record { changed = refl; free = refl; next = refl; renames = refl; drops = refl },
        (
          (refl, refl, refl),
          (
            record { removes = unseen 5; adds = tt; once = tt; filled = tt; replies = refl },
            (refl, tt),
          ),
        ),
      ),
    ),
  ),
)

pub returns-clause-follows : goal.returns-clause-follows
returns-clause-follows c = record {
  runs = (
    record { kinds = inl refl; answers = (record { session = refl; right = ((refl, refl), refl); ends = tt }, tt) },
    (
      record {
        kinds = inr (inr (inr (inl refl)));
        answers = (
          record { session = refl; right = refl; ends = tt },
          (record { session = refl; right = (refl, refl); ends = tt }, (record { session = refl; right = refl; ends = tt }, tt)),
        );
      },
      (
        record {
          kinds = inr (inr (inl refl));
          answers = (
            record { session = refl; right = refl; ends = tt },
            (record { session = refl; right = (refl, query_result); ends = tt }, (record { session = refl; right = refl; ends = tt }, tt)),
          );
        },
        tt,
      ),
    ),
  );
  no_others = (inl refl, (inr (inl refl), (inr (inl refl), (inr (inl refl), (inr (inr (inl refl)), (inr (inr (inl refl)), (inr (inr (inl refl)), tt)))))));
  order = ((inl (omega arith), (inl (omega arith), (inl (omega arith), (inl (omega arith), (inl (omega arith), (inl (omega arith), tt)))))), ((inl (omega arith), (inl (omega arith), (inl (omega arith), (inl (omega arith), (inl (omega arith), tt))))), ((inl (omega arith), (inl (omega arith), (inl (omega arith), (inl (omega arith), tt)))), ((inl (omega arith), (inl (omega arith), (inl (omega arith), tt))), ((inl (omega arith), (inl (omega arith), tt)), ((inl (omega arith), tt), (tt, tt)))))));
}

-- how many rows a statement answered
abbrev rows_in : Reply → ℕ
rows_in (Rows rows) = length rows
rows_in reply = 0

abbrev row_count : Result Effect Refusal → ℕ
row_count (Ok effect) = rows_in effect.0
row_count (Err refusal) = 0

three_rows : row_count (result_over seen 1 (Select (query_of (codes "t")))) ≡ 2 → ⊥
three_rows two = let three : row_count (result_over seen 1 (Select (query_of (codes "t")))) ≡ 3 = ap row_count query_result in absurd (omega (arith, two, three))

pub returns-clause-row_left_out : goal.returns-clause-row_left_out
returns-clause-row_left_out c = λ f. three_rows (ap row_count f.runs.1.1.0.answers.1.0.right.1)

pub returns-clause-unended : goal.returns-clause-unended
unfolding script_of most_levels scan scan_behind keyword_of word number closed_text text session double_sign single_sign sign_front front gap literal reference parenthesized factor binary_op product sum null_check tested predicate negated negation conjunction disjunction expression where_clause column_type column columns distribution create tuple insert alias counted_rows count argument aggregate item second_name source same join group_clause items head grouped ungrouped joins body_behind_aggregate body order_by direction order_key order_clause limit_clause tail select set update delete begin commit roll_back transaction statement session_of_line line lines script
returns-clause-unended c = refl

pub returns-clause-other_query : goal.returns-clause-other_query
unfolding script_of most_levels scan scan_behind keyword_of word number closed_text text session double_sign single_sign sign_front front gap literal reference parenthesized factor binary_op product sum null_check tested predicate negated negation conjunction disjunction expression where_clause column_type column columns distribution create tuple insert alias counted_rows count argument aggregate item second_name source same join group_clause items head grouped ungrouped joins body_behind_aggregate body order_by direction order_key order_clause limit_clause tail select set update delete begin commit roll_back transaction statement session_of_line line lines script
returns-clause-other_query c = refl
