-- The grammar of scripts. Each production says which tokens it is of and which part of a statement they are.
use Rattle.std.specs.Prelude.{ℕ, ◌+◌, Bool, true, false, List, [], ◌∷◌, Option, Some, None, map, fold, is_none, is_some, unwrap_or, pos, ◌-ℤ◌}
use Rattle.std.specs.List.{list_any}
use Rattle.grammar_laws.specs.Grammars.{Grammar, Rules, nothing, either, many, as_, down, afresh, fork, plain, counted, mark, counted_mark, maybe, listed, ◌<<◌, ◌>>◌, ◌&◌}
use Rattle.lake_values.specs.declared.schemas.ColType.{ColType}
use Rattle.lake_values.specs.declared.schemas.ColType.TheVariants as type
use Rattle.lake_values.specs.declared.schemas.Column.{Column}
use Rattle.lake_values.specs.declared.values.Value.{Value}
use Rattle.lake_values.specs.declared.values.Value.TheVariants.{Null, Int, Text}
use Rattle.sql_model.specs.declared.expressions.Agg.{Agg}
use Rattle.sql_model.specs.declared.expressions.Agg.TheVariants.{CountAll, Count, Sum as Total, Min, Max}
use Rattle.sql_model.specs.declared.expressions.ArithOp.TheVariants.{Add, Sub, Mul}
use Rattle.sql_model.specs.declared.expressions.CmpOp.{CmpOp}
use Rattle.sql_model.specs.declared.expressions.Expr.{Expr}
use Rattle.sql_model.specs.declared.expressions.Expr.TheVariants as expr
use Rattle.sql_model.specs.declared.expressions.Item.{Item}
use Rattle.sql_model.specs.declared.expressions.Item.TheVariants.{Plain, Agg as Aggregate}
use Rattle.sql_model.specs.declared.expressions.Ref.{Ref}
use Rattle.sql_model.specs.declared.scripts.Step.{Step}
use Rattle.sql_model.specs.declared.scripts.Step.TheVariants.{One}
use Rattle.sql_model.specs.declared.statements.OrderBy.{OrderBy}
use Rattle.sql_model.specs.declared.statements.OrderBy.TheVariants.{Name as ByName, Number as ByNumber}
use Rattle.sql_model.specs.declared.statements.OrderKey.{OrderKey}
use Rattle.sql_model.specs.declared.statements.Select.{Select as Query}
use Rattle.sql_model.specs.declared.statements.Set.{Set}
use Rattle.sql_model.specs.declared.statements.SourceRef.{SourceRef}
use Rattle.sql_model.specs.declared.statements.Statement.{Statement}
use Rattle.sql_model.specs.declared.statements.Statement.TheVariants.{Create, Begin, Commit, RollBack, Insert, Select, Update, Delete}
use Rattle.sql_model.specs.BoundForms.{is_aggregate}
use Rattle.sql_tokens.specs.declared.keywords.Keyword.{Keyword}
use Rattle.sql_tokens.specs.declared.keywords.Keyword.TheVariants as keyword
use Rattle.sql_tokens.specs.declared.signs.Sign.{Sign}
use Rattle.sql_tokens.specs.declared.signs.Sign.TheVariants as sign
use Rattle.sql_parser.specs.declared.expressions.Chain.{Chain}
use Rattle.sql_parser.specs.declared.expressions.Chain.TheVariants.{Product, Sum, Conjunction, Disjunction}
use Rattle.sql_parser.specs.declared.expressions.BinaryOp.{BinaryOp}
use Rattle.sql_parser.specs.declared.expressions.BinaryOp.TheVariants as binary
use Rattle.sql_parser.specs.declared.scripts.Line.{Line}
use Rattle.sql_parser.specs.declared.selects.Join.{Join}
use Rattle.sql_parser.specs.declared.selects.Head.{Head}
use Rattle.sql_parser.specs.declared.selects.Body.{Body}
use Rattle.sql_parser.specs.declared.selects.Tail.{Tail}
use Rattle.sql_parser.specs.Classes.{a_name, a_text, a_number, a_session, the_keyword, the_sign, a_comparison, an_expression, a_negation, words, name_in, text_in, number_in, session_in, comparison_in}

abbrev pub Form : Type 0 → Type 1
Form A = Grammar words A

-- a production or another
infixr 10 ◌<|>◌
abbrev pub ◌<|>◌ : {A : Type 0} → Form A → Form A → Form A
g <|> h = either g h

abbrev pub key : Keyword → Form (Unit {0})
key k = mark (the_keyword k)

abbrev pub the : Sign → Form (Unit {0})
the s = mark (the_sign s)

-- the same, where it is an operator of an expression
abbrev pub operator : Sign → Form (Unit {0})
operator s = counted_mark (the_sign s)

abbrev pub key_operator : Keyword → Form (Unit {0})
key_operator k = counted_mark (the_keyword k)

-- one to 64 members with commas between them
abbrev pub up_to_64 : {A : Type 0} → Form A → Form (List A)
up_to_64 g = listed (Some 64) (the_sign sign.Comma) g

abbrev pub in_parentheses : {A : Type 0} → Form A → Form A
in_parentheses g = the sign.OpenParenthesis >> g << the sign.CloseParenthesis

-- a list that may be left out
abbrev pub optional : {A : Type 0} → Form (List A) → Form (List A)
optional g = g <|> nothing []

-- the largest number of 64 bits with a sign, and the one above it, which may stand behind a minus
abbrev pub most_number : ℕ
most_number = 9223372036854775807

abbrev pub name : Form (List ℕ)
name = plain a_name name_in

abbrev pub text : Form (List ℕ)
text = plain a_text text_in

abbrev pub number_up_to : ℕ → Form ℕ
number_up_to most = plain (a_number most) number_in

abbrev pub number : Form ℕ
number = number_up_to most_number

-- the mark of a session
abbrev pub session : Form ℕ
session = plain a_session session_in

-- the sign of a comparison, which is an operator
abbrev pub comparison : Form CmpOp
comparison = counted a_comparison comparison_in

-- values

unfoldable pub literal : Form Value
literal =
    as_ (λ n. Int (pos n)) number
    <|> as_ (λ n. Int (pos 0 -ℤ pos n)) (the sign.Minus >> number_up_to (most_number + 1))
    <|> as_ Text text
    <|> as_ (λ _. Null) (key keyword.Null)

-- expressions; chains of operators group to the left

abbrev pub joined : BinaryOp → Expr → Expr → Expr
joined (binary.Arith op) left right = expr.Arith op left right
joined binary.And left right = expr.And left right
joined binary.Or left right = expr.Or left right

abbrev pub ref_of : List ℕ → Option (List ℕ) → Ref
ref_of column None = record { table = None; column = column }
ref_of table (Some column) = record { table = Some table; column = column }

unfoldable pub reference : Form Ref
reference = as_ (λ x. ref_of x.0 x.1) (name & maybe (the sign.Dot >> name))

-- an expression in parentheses, one level deeper
unfoldable pub parenthesized : Form Expr
parenthesized = down 0 (the_sign sign.OpenParenthesis) an_expression << the sign.CloseParenthesis

unfoldable pub factor : Form Expr
factor =
    as_ expr.Literal literal
    <|> as_ expr.Column reference
    <|> parenthesized

-- operands with operators between them
abbrev pub chain_of : Form BinaryOp → Form Expr → Form Expr
chain_of binary_op operand = as_ (λ x. fold (λ left right. joined right.0 left right.1) x.0 x.1) (operand & many None None (binary_op & operand))

unfoldable pub binary_op : Chain → Form BinaryOp
binary_op Product = as_ (λ _. binary.Arith Mul) (operator sign.Star)
binary_op Sum = as_ (λ _. binary.Arith Add) (operator sign.Plus) <|> as_ (λ _. binary.Arith Sub) (operator sign.Minus)
binary_op Conjunction = as_ (λ _. binary.And) (key_operator keyword.And)
binary_op Disjunction = as_ (λ _. binary.Or) (key_operator keyword.Or)

unfoldable pub product : Form Expr
product = chain_of (binary_op Product) factor

unfoldable pub sum : Form Expr
sum = chain_of (binary_op Sum) product

-- whether the value isn't NULL, or is
abbrev pub null_test : Bool → Expr → Expr
null_test true e = expr.Not (expr.IsNull e)
null_test false e = expr.IsNull e

-- true where NOT stands
unfoldable pub null_check : Form Bool
null_check = as_ is_some (key_operator keyword.Is >> maybe (key_operator keyword.Not) << key keyword.Null)

abbrev pub compared : CmpOp → Expr → Expr → Expr
compared op right left = expr.Compare op left right

-- what stands behind the left side of a predicate
unfoldable pub tested : Form (Expr → Expr)
tested = as_ (λ x. compared x.0 x.1) (comparison & sum) <|> as_ null_test null_check

abbrev pub applied : Expr → Option (Expr → Expr) → Expr
applied e None = e
applied e (Some f) = f e

unfoldable pub predicate : Form Expr
predicate = as_ (λ x. applied x.0 x.1) (sum & maybe tested)

-- what NOT turns, one level deeper
unfoldable pub negated : Form Expr
negated = as_ expr.Not (down 1 (the_keyword keyword.Not) a_negation)

unfoldable pub negation : Form Expr
negation = negated <|> predicate

unfoldable pub conjunction : Form Expr
conjunction = chain_of (binary_op Conjunction) negation

unfoldable pub disjunction : Form Expr
disjunction = chain_of (binary_op Disjunction) conjunction

-- what the operators of a chain join
unfoldable pub operand : Chain → Form Expr
operand Product = factor
operand Sum = product
operand Conjunction = negation
operand Disjunction = conjunction

abbrev pub chain : Chain → Form Expr
chain kind = chain_of (binary_op kind) (operand kind)

abbrev pub rules : Rules words
rules an_expression = disjunction
rules a_negation = negation

-- a whole expression: it has at most 1,000 operators
unfoldable pub expression : Form Expr
expression = afresh 1000 disjunction

unfoldable pub where_clause : Form (Option Expr)
where_clause = maybe (key keyword.Where >> expression)

-- CREATE

unfoldable pub column_type : Form ColType
column_type = as_ (λ _. type.Int) (key keyword.Int) <|> as_ (λ _. type.Text) (key keyword.Text)

abbrev pub column_of : List ℕ → ColType → Column
column_of name kind = record { name = name; kind = kind }

unfoldable pub column : Form Column
column = as_ (λ x. column_of x.0 x.1) (name & column_type)

unfoldable pub columns : Form (List Column)
columns = in_parentheses (up_to_64 column)

unfoldable pub distribution : Form (Option (List ℕ))
distribution = maybe (key keyword.Distribute >> key keyword.By >> name)

unfoldable pub create : Form Statement
create =
    as_ (λ x. Create x.0 x.1.0 x.1.1)
    (key keyword.Create >> key keyword.Table >> name & columns & distribution)

-- INSERT

unfoldable pub tuple : Form (List Value)
tuple = in_parentheses (up_to_64 literal)

unfoldable pub insert : Form Statement
insert =
    as_ (λ x. Insert x.0 x.1)
    (key keyword.Insert >> key keyword.Into >> name << key keyword.Values & listed None (the_sign sign.Comma) tuple)

-- SELECT

-- the name that AS gives
unfoldable pub alias : Form (Option (List ℕ))
alias = maybe (key keyword.As >> name)

unfoldable pub counted_rows : Form Agg
counted_rows = as_ (λ _. CountAll) (the sign.Star) <|> as_ Count expression

unfoldable pub count : Form Agg
count = key keyword.Count >> in_parentheses counted_rows

unfoldable pub argument : Form Expr
argument = in_parentheses expression

unfoldable pub aggregate : Form Agg
aggregate =
    count
    <|> as_ Total (key keyword.Sum >> argument)
    <|> as_ Min (key keyword.Min >> argument)
    <|> as_ Max (key keyword.Max >> argument)

unfoldable pub item : Form Item
item = as_ (λ x. Aggregate x.0 x.1) (aggregate & alias) <|> as_ (λ x. Plain x.0 x.1) (expression & alias)

abbrev pub source_of : List ℕ → Option (List ℕ) → SourceRef
source_of table None = record { table = table; name = table }
source_of table (Some name) = record { table = table; name = name }

-- a second name of a table, behind AS or not
unfoldable pub second_name : Form (Option (List ℕ))
second_name = as_ Some (key keyword.As >> name) <|> maybe name

unfoldable pub source : Form SourceRef
source = as_ (λ x. source_of x.0 x.1) (name & second_name)

unfoldable pub same : Form (Ref × Ref)
same = reference << the sign.Equal & reference

abbrev pub join_of : SourceRef → List (Ref × Ref) → Join
join_of source on = record { source = source; on = on }

unfoldable pub join : Form Join
join =
    as_ (λ x. join_of x.0 x.1)
    (maybe (key keyword.Inner) >> key keyword.Join >> source << key keyword.On & listed None (the_keyword keyword.And) same)

unfoldable pub group_clause : Form (List Ref)
group_clause = optional (key keyword.Group >> key keyword.By >> up_to_64 reference)

abbrev pub head_of : Option (List Item) → SourceRef → Head
head_of items source = record { items = items; source = source }

-- all columns where there are no items
unfoldable pub items : Form (Option (List Item))
items = as_ (λ _. None) (the sign.Star) <|> as_ Some (up_to_64 item)

-- what is selected, and from which table
unfoldable pub head : Form Head
head =
    as_ (λ x. head_of x.0 x.1)
    (key keyword.Select >> items << key keyword.From & source)

abbrev pub has_aggregate : Option (List Item) → Bool
has_aggregate None = false
has_aggregate (Some items) = list_any is_aggregate items

abbrev pub body_of : List Join → Option Expr → List Ref → Body
body_of joins filter groups = record { joins = joins; filter = filter; groups = groups }

-- the condition and the groups of a query over one table
unfoldable pub grouped : Form (Option Expr × List Ref)
grouped = where_clause & group_clause

unfoldable pub ungrouped : Form (Option Expr × List Ref)
ungrouped = as_ (λ filter. (filter, [])) where_clause

unfoldable pub joins : Form (List Join)
joins = many (Some 3) None join

abbrev pub no_joins : List Join → Bool
no_joins [] = true
no_joins (j ∷ js) = false

-- behind an aggregate comes no JOIN
unfoldable pub body_behind_aggregate : Form Body
body_behind_aggregate = as_ (λ x. body_of [] x.0 x.1) grouped

-- and behind a JOIN no GROUP
unfoldable pub body : Form Body
body = as_ (λ x. body_of x.0 x.1.0 x.1.1) (fork joins no_joins grouped ungrouped)

-- the same, by whether an aggregate is selected
abbrev pub body_behind : Bool → Form Body
body_behind true = body_behind_aggregate
body_behind false = body

unfoldable pub order_by : Form OrderBy
order_by = as_ ByNumber number <|> as_ ByName name

abbrev pub order_key_of : OrderBy → Bool → OrderKey
order_key_of by descending = record { by = by; descending = descending }

unfoldable pub direction : Form Bool
direction = as_ (λ _. false) (key keyword.Asc) <|> as_ (λ _. true) (key keyword.Desc) <|> nothing false

unfoldable pub order_key : Form OrderKey
order_key = as_ (λ x. order_key_of x.0 x.1) (order_by & direction)

unfoldable pub order_clause : Form (List OrderKey)
order_clause = optional (key keyword.Order >> key keyword.By >> up_to_64 order_key)

unfoldable pub limit_clause : Form (Option ℕ)
limit_clause = maybe (key keyword.Limit >> number)

abbrev pub tail_of : List OrderKey → Option ℕ → Tail
tail_of order limit = record { order = order; limit = limit }

unfoldable pub tail : Form Tail
tail = as_ (λ x. tail_of x.0 x.1) (order_clause & limit_clause)

abbrev pub items_of : Option (List Item) → List Item
items_of None = []
items_of (Some items) = items

abbrev pub query_of : Head → Body → Tail → Query
query_of head body tail = record {
  star = is_none head.items;
  items = items_of head.items;
  sources = head.source ∷ map (λ j. j.source) body.joins;
  ons = map (λ j. j.on) body.joins;
  filter = body.filter;
  groups = body.groups;
  order = tail.order;
  limit = tail.limit;
}

unfoldable pub select : Form Statement
select =
    as_ (λ x. Select (query_of x.0.0 x.0.1 x.1))
    (fork head (λ h. has_aggregate h.items) body_behind_aggregate body & tail)

-- UPDATE and DELETE

abbrev pub set_of : List ℕ → Expr → Set
set_of column value = record { column = column; value = value }

unfoldable pub set : Form Set
set = as_ (λ x. set_of x.0 x.1) (name << the sign.Equal & expression)

unfoldable pub update : Form Statement
update =
    as_ (λ x. Update x.0 x.1.0 x.1.1)
    (key keyword.Update >> name << key keyword.Set & up_to_64 set & where_clause)

unfoldable pub delete : Form Statement
delete = as_ (λ x. Delete x.0 x.1) (key keyword.Delete >> key keyword.From >> name & where_clause)

-- transactions

unfoldable pub begin : Form Statement
begin = as_ (λ _. Begin) (key keyword.Begin >> maybe (key keyword.Transaction))

unfoldable pub commit : Form Statement
commit = as_ (λ _. Commit) (key keyword.Commit)

unfoldable pub roll_back : Form Statement
roll_back = as_ (λ _. RollBack) (key keyword.Rollback)

unfoldable pub transaction : Form Statement
transaction = begin <|> commit <|> roll_back

-- scripts

unfoldable pub statement : Form Statement
statement = create <|> insert <|> select <|> update <|> delete <|> transaction

-- the session that runs a statement: that of its mark, and without one the first
unfoldable pub session_of_line : Form ℕ
session_of_line = as_ (λ mark. unwrap_or mark 1) (maybe session)

abbrev pub line_of : ℕ → Statement → Line
line_of session x = record { session = session; statement = x }

unfoldable pub line : Form Line
line = as_ (λ x. line_of x.0 x.1) (session_of_line & statement << the sign.Semicolon)

-- a line as a step of its own
abbrev pub step_of : ℕ → Line → Step
step_of place x = One (record { place = place; session = x.session; statement = x.statement })

-- the lines as steps, the first of them at this place
abbrev pub steps_from : ℕ → List Line → List Step
steps_from place [] = []
steps_from place (x ∷ xs) = step_of place x ∷ steps_from (place + 1) xs

-- places have 32 bits, and so no script has more statements
abbrev pub most_statements : ℕ
most_statements = 4294967295

unfoldable pub lines : Form (List Line)
lines = many (Some most_statements) None line

unfoldable pub script : Form (List Step)
script = as_ (steps_from 1) lines
