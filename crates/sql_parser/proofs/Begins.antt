-- What items and lines begin with.
use Rattle.std.proofs.Common.{◌≡◌, refl, ap, ◌∙◌, Bool, true, false, ◌||◌, List, [], ◌∷◌, ◌++◌}
use Rattle.grammar_laws.specs.Prediction.{begins, is_among, first_of}
use Rattle.sql_tokens.specs.declared.lexemes.Lexed.{Lexed}
use Rattle.sql_parser.specs.Classes.{Class, a_session, is_of, words}
use Rattle.sql_parser.specs.Grammar.{literal, reference, parenthesized, factor, binary_op, product, sum, null_check, tested, predicate, negated, negation, conjunction, disjunction, expression, where_clause, column_type, column, columns, distribution, create, tuple, insert, alias, counted_rows, count, argument, aggregate, item, second_name, source, same, join, group_clause, items, head, grouped, ungrouped, joins, body_behind_aggregate, body, order_by, direction, order_key, order_clause, limit_clause, tail, select, set, update, delete, begin, commit, roll_back, transaction, statement, session_of_line, line}
use Rattle.sql_parser.specs.Ahead.{Ahead, is_at}

or_assoc : (a b c : Bool) → (a || (b || c)) ≡ ((a || b) || c)
or_assoc true b c = refl
or_assoc false b c = refl

among-append : (cs ds : List Class) (t : Lexed) → is_among words (cs ++ ds) t ≡ (is_among words cs t || is_among words ds t)
among-append [] ds t = refl
among-append (c ∷ cs) ds t = ap (λ b. is_of c t || b) (among-append cs ds t) ∙ or_assoc (is_of c t) (is_among words cs t) (is_among words ds t)

begins-append : (cs ds : List Class) (ts : List Lexed) → begins words (cs ++ ds) ts ≡ (begins words cs ts || begins words ds ts)
begins-append cs ds [] = refl
begins-append cs ds (t ∷ ts) = among-append cs ds t

item_firsts : first_of item ≡ first_of aggregate ++ first_of expression
unfolding item aggregate count argument counted_rows alias literal reference parenthesized factor binary_op product sum null_check tested predicate negated negation conjunction disjunction expression
item_firsts = refl

pub item_begins : (now : Ahead) → is_at (first_of item) now ≡ (is_at (first_of aggregate) now || is_at (first_of expression) now)
item_begins now = ap (λ cs. is_at cs now) item_firsts ∙ begins-append (first_of aggregate) (first_of expression) now.tokens

line_firsts : first_of line ≡ (a_session ∷ []) ++ first_of statement
unfolding literal reference parenthesized factor binary_op product sum null_check tested predicate negated negation conjunction disjunction expression where_clause column_type column columns distribution create tuple insert alias counted_rows count argument aggregate item second_name source same join group_clause items head grouped ungrouped joins body_behind_aggregate body order_by direction order_key order_clause limit_clause tail select set update delete begin commit roll_back transaction statement session_of_line line
line_firsts = refl

-- a line begins with the mark of a session or as its statement does
pub line_begins : (now : Ahead) → is_at (first_of line) now ≡ (is_at (a_session ∷ []) now || is_at (first_of statement) now)
line_begins now = ap (λ cs. is_at cs now) line_firsts ∙ begins-append (a_session ∷ []) (first_of statement) now.tokens
