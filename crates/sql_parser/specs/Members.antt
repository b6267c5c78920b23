-- The parts of statements that stand in lists: one token tells how to go on in them, and each has a token.
use Rattle.std.specs.Prelude.{◌≡◌, true, None, refl}
use Rattle.grammar_laws.specs.Prediction.{decides, empty_of}
use Rattle.sql_parser.specs.ClassLaws.{classes}
use Rattle.sql_parser.specs.Grammar.{literal, reference, parenthesized, factor, binary_op, product, sum, null_check, tested, predicate, negated, negation, conjunction, disjunction, expression, where_clause, column_type, column, columns, distribution, create, tuple, insert, alias, counted_rows, count, argument, aggregate, item, second_name, source, same, join, group_clause, items, head, grouped, ungrouped, joins, body_behind_aggregate, body, order_by, direction, order_key, order_clause, limit_clause, tail, select, set, update, delete, begin, commit, roll_back, transaction, statement, session_of_line, line}
use Rattle.sql_parser.specs.Language.{ends}

pub column_decided : decides classes ends column ≡ true
unfolding column column_type
column_decided = refl

pub column_has_token : empty_of column ≡ None
unfolding column column_type
column_has_token = refl

pub literal_decided : decides classes ends literal ≡ true
unfolding literal
literal_decided = refl

pub literal_has_token : empty_of literal ≡ None
unfolding literal
literal_has_token = refl

pub tuple_decided : decides classes ends tuple ≡ true
unfolding tuple literal
tuple_decided = refl

pub tuple_has_token : empty_of tuple ≡ None
unfolding tuple literal
tuple_has_token = refl

pub item_decided : decides classes ends item ≡ true
unfolding item aggregate count argument alias counted_rows literal reference parenthesized factor binary_op product sum null_check tested predicate negated negation conjunction disjunction expression
item_decided = refl

pub item_has_token : empty_of item ≡ None
unfolding item aggregate count argument alias counted_rows literal reference parenthesized factor binary_op product sum null_check tested predicate negated negation conjunction disjunction expression
item_has_token = refl

pub same_decided : decides classes ends same ≡ true
unfolding same reference
same_decided = refl

pub same_has_token : empty_of same ≡ None
unfolding same reference
same_has_token = refl

pub join_decided : decides classes ends join ≡ true
unfolding join second_name source same reference
join_decided = refl

pub join_has_token : empty_of join ≡ None
unfolding join second_name source same reference
join_has_token = refl

pub reference_decided : decides classes ends reference ≡ true
unfolding reference
reference_decided = refl

pub reference_has_token : empty_of reference ≡ None
unfolding reference
reference_has_token = refl

pub order_key_decided : decides classes ends order_key ≡ true
unfolding order_key order_by direction
order_key_decided = refl

pub order_key_has_token : empty_of order_key ≡ None
unfolding order_key order_by direction
order_key_has_token = refl

pub set_decided : decides classes ends set ≡ true
unfolding set literal reference parenthesized factor binary_op product sum null_check tested predicate negated negation conjunction disjunction expression
set_decided = refl

pub set_has_token : empty_of set ≡ None
unfolding set literal reference parenthesized factor binary_op product sum null_check tested predicate negated negation conjunction disjunction expression
set_has_token = refl

pub line_decided : decides classes ends line ≡ true
unfolding literal reference parenthesized factor binary_op product sum null_check tested predicate negated negation conjunction disjunction expression where_clause column_type column columns distribution create tuple insert alias counted_rows count argument aggregate item second_name source same join group_clause items head grouped ungrouped joins body_behind_aggregate body order_by direction order_key order_clause limit_clause tail select set update delete begin commit roll_back transaction statement session_of_line line
line_decided = refl

pub line_has_token : empty_of line ≡ None
unfolding literal reference parenthesized factor binary_op product sum null_check tested predicate negated negation conjunction disjunction expression where_clause column_type column columns distribution create tuple insert alias counted_rows count argument aggregate item second_name source same join group_clause items head grouped ungrouped joins body_behind_aggregate body order_by direction order_key order_clause limit_clause tail select set update delete begin commit roll_back transaction statement session_of_line line
line_has_token = refl
