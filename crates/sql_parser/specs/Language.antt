-- The language of scripts: one token always tells how to go on.
use Rattle.std.specs.Prelude.{◌≡◌, true, List, [], ◌∷◌, ◌++◌, refl}
use Rattle.grammar_laws.specs.Definitions.{Definition, IsPredictive}
use Rattle.grammar_laws.specs.Prediction.{is_predictive, is_predictive_sort}
use Rattle.sql_model.specs.declared.scripts.Step.{Step}
use Rattle.sql_tokens.specs.declared.keywords.Keyword.TheVariants as keyword
use Rattle.sql_tokens.specs.declared.signs.Sign.TheVariants as sign
use Rattle.sql_parser.specs.Classes.{Class, the_keyword, the_sign, a_comparison, Sort, an_expression, a_negation, words}
use Rattle.sql_parser.specs.ClassLaws.{classes}
use Rattle.sql_parser.specs.Grammar.{literal, reference, parenthesized, factor, binary_op, product, sum, null_check, tested, predicate, negated, negation, conjunction, disjunction, rules, expression, where_clause, column_type, column, columns, distribution, create, tuple, insert, alias, counted_rows, count, argument, aggregate, item, second_name, source, same, join, group_clause, items, head, grouped, ungrouped, joins, body_behind_aggregate, body, order_by, direction, order_key, order_clause, limit_clause, tail, select, set, update, delete, begin, commit, roll_back, transaction, statement, session_of_line, line, lines, script}

-- what NOT may go on with, and what an expression may
abbrev pub test_ends : List Class
test_ends = the_sign sign.Dot ∷ the_sign sign.Star ∷ the_sign sign.Plus ∷ the_sign sign.Minus ∷ a_comparison ∷ the_keyword keyword.Is ∷ []

abbrev pub ends : Sort → List Class
ends a_negation = test_ends
ends an_expression = test_ends ++ (the_keyword keyword.And ∷ the_keyword keyword.Or ∷ [])

abbrev pub sql : Definition
sql = record { words = words; classes = classes; rules = rules; ends = ends; Value = List Step; grammar = script }

whole_predictive : is_predictive classes rules ends script ≡ true
unfolding literal reference parenthesized factor binary_op product sum null_check tested predicate negated negation conjunction disjunction expression where_clause column_type column columns distribution create tuple insert alias counted_rows count argument aggregate item second_name source same join group_clause items head grouped ungrouped joins body_behind_aggregate body order_by direction order_key order_clause limit_clause tail select set update delete begin commit roll_back transaction statement session_of_line line lines script
whole_predictive = refl

each_predictive : (sort : Sort) → is_predictive_sort classes rules ends sort ≡ true
unfolding literal reference parenthesized factor binary_op product sum null_check tested predicate negated negation conjunction disjunction expression
each_predictive an_expression = refl
each_predictive a_negation = refl

pub sql_predictive : IsPredictive sql
sql_predictive = record { whole = whole_predictive; each = each_predictive }
