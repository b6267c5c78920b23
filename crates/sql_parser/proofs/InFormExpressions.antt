-- What is read as an expression is in form: its names are short, and it has no more operators than it may.
use Rattle.std.proofs.Common.{◌≡◌, refl, sym, ap, ◌∙◌, arith, ℕ, zero, suc, ◌+◌, ◌-◌, ◌<◌, ◌≤◌, nat_le, Bool, true, false, ◌&&◌, List, [], ◌∷◌, Option, Some, None, fold, is_some, le-leb}
use Rattle.std.specs.List.{list_all}
use Rattle.grammar_laws.specs.Grammars.{one, nothing, both, either, fork, many, as_, down, maybe, plain, counted, ◌&◌, ◌>>◌, ◌<<◌}
use Rattle.grammar_laws.specs.Phrases.{has_room, less_one}
use Rattle.grammar_laws.specs.Reading.{read}
use Rattle.lake_values.specs.declared.values.Value.{Value}
use Rattle.sql_model.specs.declared.expressions.ArithOp.{ArithOp}
use Rattle.sql_model.specs.declared.expressions.CmpOp.{CmpOp}
use Rattle.sql_model.specs.declared.expressions.Expr.{Expr}
use Rattle.sql_model.specs.declared.expressions.Expr.TheFolds.{fold-roll-Expr}
use Rattle.sql_model.specs.declared.expressions.Expr.TheOpen.{Expr-F}
use Rattle.sql_model.specs.declared.expressions.Expr.TheVariants as expr
use Rattle.sql_model.specs.declared.expressions.Ref.{Ref}
use Rattle.sql_model.specs.Form.{is_between, is_name, are_names, names_step, has_names, operators_step, operators, is_expr}
use Rattle.sql_tokens.specs.declared.keywords.Keyword.TheVariants as keyword
use Rattle.sql_tokens.specs.declared.lexemes.Lexed.{Lexed}
use Rattle.sql_tokens.specs.declared.lexemes.Lexeme.{Lexeme}
use Rattle.sql_tokens.specs.declared.lexemes.Lexeme.TheVariants as lexeme
use Rattle.sql_parser.specs.declared.expressions.BinaryOp.{BinaryOp}
use Rattle.sql_parser.specs.declared.expressions.BinaryOp.TheVariants as binary
use Rattle.sql_parser.specs.declared.expressions.Chain.{Chain}
use Rattle.sql_parser.specs.declared.expressions.Chain.TheVariants.{Product, Sum, Conjunction, Disjunction}
use Rattle.sql_parser.specs.Classes.{Class, Sort, a_name, the_keyword, an_expression, a_negation, is_of, fits, name_in}
use Rattle.sql_parser.specs.Grammar.{Form, rules, key_operator, name, literal, joined, ref_of, reference, parenthesized, factor, chain_of, binary_op, product, sum, null_test, null_check, comparison, compared, tested, applied, predicate, negated, negation, conjunction, disjunction, expression}
use Rattle.sql_parser.proofs.Yields.{Says, Yields, yields_one, yields_nothing, yields_as, yields_both, yields_either, yields_fork, yields_many, yields_afresh, yields_down}

abbrev pub is_session : ℕ → Bool
is_session = is_between 1 16

-- a name among the tokens has at most 64 bytes, and a session mark is of a session from 1 to 16
abbrev pub is_bounded : Lexeme → Bool
is_bounded (lexeme.Name w) = is_name w
is_bounded (lexeme.Session n) = is_session n
is_bounded _ = true

abbrev pub bounded : Lexed → Bool
bounded t = is_bounded t.lexeme

-- each value that is read of the part is as P says
pub record Reads {A : Type 0} (levels : ℕ) (g : Form A) (P : Says A) : Type 0 where
  pub holds : Yields bounded (read rules levels g) P

-- a value that passes a test, and no more operators than before
abbrev pub Passes : {A : Type 0} → (A → Bool) → Says A
Passes is b x l = (is x ≡ true) × (l ≤ b)

-- no more operators than before
abbrev pub Any : {A : Type 0} → Says A
Any b x l = l ≤ b

-- an expression with short names, whose operators were taken
abbrev pub Takes : Says Expr
Takes b e l = (has_names e ≡ true) × (operators e + l ≤ b)

-- one operator was taken
abbrev pub TakesOne : {A : Type 0} → Says A
TakesOne b x l = l + 1 ≤ b

-- what the definitions say of each form of expression

names_Column : (r : Ref) → has_names (expr.Column r) ≡ (are_names r)
names_Column r = ap has_names (sym (expr.rolls-Column r)) ∙ fold-roll-Expr Bool names_step (Expr-F.Column r)

operators_Column : (r : Ref) → operators (expr.Column r) ≡ 0
operators_Column r = ap operators (sym (expr.rolls-Column r)) ∙ fold-roll-Expr ℕ operators_step (Expr-F.Column r)

names_Literal : (v : Value) → has_names (expr.Literal v) ≡ (true)
names_Literal v = ap has_names (sym (expr.rolls-Literal v)) ∙ fold-roll-Expr Bool names_step (Expr-F.Literal v)

operators_Literal : (v : Value) → operators (expr.Literal v) ≡ 0
operators_Literal v = ap operators (sym (expr.rolls-Literal v)) ∙ fold-roll-Expr ℕ operators_step (Expr-F.Literal v)

names_Arith : (o : ArithOp) (a c : Expr) → has_names (expr.Arith o a c) ≡ (has_names a && has_names c)
names_Arith o a c = ap has_names (sym (expr.rolls-Arith o a c)) ∙ fold-roll-Expr Bool names_step (Expr-F.Arith o a c)

operators_Arith : (o : ArithOp) (a c : Expr) → operators (expr.Arith o a c) ≡ operators a + operators c + 1
operators_Arith o a c = ap operators (sym (expr.rolls-Arith o a c)) ∙ fold-roll-Expr ℕ operators_step (Expr-F.Arith o a c)

names_Compare : (o : CmpOp) (a c : Expr) → has_names (expr.Compare o a c) ≡ (has_names a && has_names c)
names_Compare o a c = ap has_names (sym (expr.rolls-Compare o a c)) ∙ fold-roll-Expr Bool names_step (Expr-F.Compare o a c)

operators_Compare : (o : CmpOp) (a c : Expr) → operators (expr.Compare o a c) ≡ operators a + operators c + 1
operators_Compare o a c = ap operators (sym (expr.rolls-Compare o a c)) ∙ fold-roll-Expr ℕ operators_step (Expr-F.Compare o a c)

names_IsNull : (a : Expr) → has_names (expr.IsNull a) ≡ (has_names a)
names_IsNull a = ap has_names (sym (expr.rolls-IsNull a)) ∙ fold-roll-Expr Bool names_step (Expr-F.IsNull a)

operators_IsNull : (a : Expr) → operators (expr.IsNull a) ≡ operators a + 1
operators_IsNull a = ap operators (sym (expr.rolls-IsNull a)) ∙ fold-roll-Expr ℕ operators_step (Expr-F.IsNull a)

names_Not : (a : Expr) → has_names (expr.Not a) ≡ (has_names a)
names_Not a = ap has_names (sym (expr.rolls-Not a)) ∙ fold-roll-Expr Bool names_step (Expr-F.Not a)

operators_Not : (a : Expr) → operators (expr.Not a) ≡ operators a + 1
operators_Not a = ap operators (sym (expr.rolls-Not a)) ∙ fold-roll-Expr ℕ operators_step (Expr-F.Not a)

names_And : (a c : Expr) → has_names (expr.And a c) ≡ (has_names a && has_names c)
names_And a c = ap has_names (sym (expr.rolls-And a c)) ∙ fold-roll-Expr Bool names_step (Expr-F.And a c)

operators_And : (a c : Expr) → operators (expr.And a c) ≡ operators a + operators c + 1
operators_And a c = ap operators (sym (expr.rolls-And a c)) ∙ fold-roll-Expr ℕ operators_step (Expr-F.And a c)

names_Or : (a c : Expr) → has_names (expr.Or a c) ≡ (has_names a && has_names c)
names_Or a c = ap has_names (sym (expr.rolls-Or a c)) ∙ fold-roll-Expr Bool names_step (Expr-F.Or a c)

operators_Or : (a c : Expr) → operators (expr.Or a c) ≡ operators a + operators c + 1
operators_Or a c = ap operators (sym (expr.rolls-Or a c)) ∙ fold-roll-Expr ℕ operators_step (Expr-F.Or a c)

pub both_parts : (a b : Bool) → a && b ≡ true → (a ≡ true) × (b ≡ true)
both_parts true b e = (refl, e)
both_parts false b e = absurd cc

pub both_true : (a b : Bool) → a ≡ true → b ≡ true → a && b ≡ true
both_true true b p q = q
both_true false b p q = absurd cc

-- the ways in which parts are put together

pub reads_token : {A : Type 0} {levels : ℕ} {cost : ℕ} {c : Class} {f : Lexed → A} (P : Says A)
    → ((t : Lexed) (b : ℕ) → is_of c t ≡ true → cost ≤ b → bounded t ≡ true → P b (f t) (b - cost)) → Reads levels (one cost c f) P
reads_token {A} {levels} {cost} {c} {f} P h = record { holds = yields_one bounded cost c f P rules levels h }

pub reads_as : {A B : Type 0} {levels : ℕ} {f : A → B} {g : Form A} {P : Says A} (Q : Says B) → Reads levels g P → ((b : ℕ) (x : A) (l : ℕ) → P b x l → Q b (f x) l)
    → Reads levels (as_ f g) Q
reads_as {A} {B} {levels} {f} {g} {P} Q part h = record { holds = yields_as bounded f g P Q rules levels part.holds h }

pub reads_both : {A B : Type 0} {levels : ℕ} {g : Form A} {k : Form B} {P : Says A} {Q : Says B} (R : Says (A × B)) → Reads levels g P → Reads levels k Q
    → ((b : ℕ) (x : A) (m : ℕ) (y : B) (l : ℕ) → P b x m → Q m y l → R b (x, y) l) → Reads levels (both g k) R
reads_both {A} {B} {levels} {g} {k} {P} {Q} R first second h = record { holds = yields_both bounded g k P Q R rules levels first.holds second.holds h }

pub reads_either : {A : Type 0} {levels : ℕ} {g k : Form A} {P : Says A} → Reads levels g P → Reads levels k P → Reads levels (either g k) P
reads_either {A} {levels} {g} {k} {P} first second = record { holds = yields_either bounded g k P rules levels first.holds second.holds }

pub reads_nothing : {A : Type 0} {levels : ℕ} {v : A} (P : Says A) → ((b : ℕ) → P b v b) → Reads levels (nothing v) P
reads_nothing {A} {levels} {v} P h = record { holds = yields_nothing bounded v P rules levels h }

pub reads_many : {A : Type 0} {levels : ℕ} {room : Option ℕ} {lead : Option Class} {g : Form A} {P : Says A} (R : Option ℕ → Says (List A)) → Reads levels g P
    → ((room : Option ℕ) (b : ℕ) → R room b [] b)
    → ((room : Option ℕ) (b : ℕ) (x : A) (m : ℕ) (xs : List A) (l : ℕ) → has_room room ≡ true → P b x m → R (less_one room) m xs l → R room b (x ∷ xs) l)
    → Reads levels (many room lead g) (R room)
reads_many {A} {levels} {room} {lead} {g} {P} R part none more = record { holds = yields_many bounded room lead g P R rules levels part.holds none more }

pub reads_forked : {A B : Type 0} {levels : ℕ} {g : Form A} {choice : A → Bool} {k j : Form B} {P : Says A} (Q : A → Says B) (R : Says (A × B)) → Reads levels g P
    → ((x : A) → choice x ≡ true → Reads levels k (Q x)) → ((x : A) → choice x ≡ false → Reads levels j (Q x))
    → ((b : ℕ) (x : A) (m : ℕ) (y : B) (l : ℕ) → P b x m → Q x m y l → R b (x, y) l) → Reads levels (fork g choice k j) R
reads_forked {A} {B} {levels} {g} {choice} {k} {j} {P} Q R first second third h = record {
  holds = yields_fork bounded g choice k j P Q R rules levels first.holds (λ x is. (second x is).holds) (λ x is. (third x is).holds) h;
}

pub reads_any : {A : Type 0} {levels : ℕ} {c : Class} {f : Lexed → A} → Reads levels (plain c f) Any
reads_any = reads_token Any (λ t b fits enough is. omega arith)

reads_one : {A : Type 0} {levels : ℕ} {c : Class} {f : Lexed → A} → Reads levels (counted c f) TakesOne
reads_one = reads_token TakesOne (λ t b fits enough is. omega arith)

name_short : (x : Lexeme) → fits a_name x ≡ true → is_bounded x ≡ true → is_name (name_in (record { start = 0; end = 0; lexeme = x })) ≡ true
name_short (lexeme.Name w) fit is = is
name_short (lexeme.Keyword k) fit is = absurd cc
name_short (lexeme.Number n) fit is = absurd cc
name_short (lexeme.Text w) fit is = absurd cc
name_short (lexeme.Session n) fit is = absurd cc
name_short (lexeme.Sign s) fit is = absurd cc

pub reads_name : {levels : ℕ} → Reads levels name (Passes is_name)
reads_name = reads_token (Passes is_name) (λ t b fit enough is. (name_short t.lexeme fit is, omega arith))

-- the second of two parts has the value
pub reads_behind : {A B : Type 0} {levels : ℕ} {g : Form A} {k : Form B} {P : Says B} → ((b m : ℕ) (y : B) (l : ℕ) → m ≤ b → P m y l → P b y l) → Reads levels g Any → Reads levels k P
    → Reads levels (g >> k) P
reads_behind {A} {B} {levels} {g} {k} {P} grows first second = reads_as P (reads_both (λ b z l. P b z.1 l) first second (λ b x m y l p q. grows b m y l p q)) (λ b z l p. p)

-- and here the first
pub reads_before : {A B : Type 0} {levels : ℕ} {g : Form A} {k : Form B} {P : Says A} → ((b : ℕ) (x : A) (m l : ℕ) → l ≤ m → P b x m → P b x l) → Reads levels g P → Reads levels k Any
    → Reads levels (g << k) P
reads_before {A} {B} {levels} {g} {k} {P} grows first second = reads_as P (reads_both (λ b z l. P b z.0 l) first second (λ b x m y l p q. grows b x m l q p)) (λ b z l p. p)

-- a bound on the budget at its start may be larger, and at its end smaller
pub passes_earlier : {A : Type 0} (is : A → Bool) (b m : ℕ) (y : A) (l : ℕ) → m ≤ b → Passes is m y l → Passes is b y l
passes_earlier is b m y l more p = (p.0, omega (arith, p.1))

pub passes_later : {A : Type 0} (is : A → Bool) (b : ℕ) (x : A) (m l : ℕ) → l ≤ m → Passes is b x m → Passes is b x l
passes_later is b x m l less p = (p.0, omega (arith, p.1))

any_earlier : {A : Type 0} (b m : ℕ) (y : A) (l : ℕ) → m ≤ b → Any m y l → Any b y l
any_earlier b m y l more p = omega arith

-- an action changes nothing of the budget
as_any : {A B : Type 0} {levels : ℕ} {f : A → B} {g : Form A} → Reads levels g Any → Reads levels (as_ f g) Any
as_any part = reads_as Any part (λ b x l p. p)

pub reads_literal : {levels : ℕ} → Reads levels literal Any
unfolding literal
reads_literal = reads_either (as_any reads_any) (reads_either (as_any (reads_behind any_earlier reads_any reads_any)) (reads_either (as_any reads_any) (as_any reads_any)))

-- a part that may be left out
abbrev pub if_any : {A : Type 0} → (A → Bool) → Option A → Bool
if_any is None = true
if_any is (Some x) = is x

pub reads_maybe : {A : Type 0} {levels : ℕ} {g : Form A} {is : A → Bool} → Reads levels g (Passes is) → Reads levels (maybe g) (Passes (if_any is))
reads_maybe {A} {levels} {g} {is} part = reads_either (reads_as (Passes (if_any is)) part (λ b x l p. p)) (reads_nothing (Passes (if_any is)) (λ b. (refl, omega arith)))

-- two parts in turn
pub passes_both : {A B : Type 0} {levels : ℕ} {g : Form A} {k : Form B} {is : A → Bool} {goes : B → Bool} → Reads levels g (Passes is) → Reads levels k (Passes goes)
    → Reads levels (g & k) (Passes (λ x. is x.0 && goes x.1))
passes_both {A} {B} {levels} {g} {k} {is} {goes} first second =
    reads_both (Passes (λ x. is x.0 && goes x.1)) first second (λ b x m y l p q. (both_true (is x) (goes y) p.0 q.0, omega (arith, p.1, q.1)))

ref_named : (table : List ℕ) (column : Option (List ℕ)) → is_name table && if_any is_name column ≡ true → are_names (ref_of table column) ≡ true
ref_named table None e = (both_parts (is_name table) true e).0
ref_named table (Some c) e = e

pub reads_reference : {levels : ℕ} → Reads levels reference (Passes are_names)
unfolding reference
reads_reference =
    reads_as (Passes are_names) (passes_both reads_name (reads_maybe (reads_behind (passes_earlier is_name) reads_any reads_name)))
    (λ b x l p. (ref_named x.0 x.1 p.0, p.1))

-- the expressions of the levels below
abbrev pub Below : ℕ → Type 0
Below levels = (n : ℕ) → n < levels → (Reads n disjunction Takes) × (Reads n negation Takes)

reads_down : {levels cost : ℕ} {c : Class} {sort : Sort} (P Q : Says Expr) → ((n : ℕ) → n < levels → Reads n (rules sort) P) → ((b : ℕ) (x : Expr) (l : ℕ) → cost ≤ b → P (b - cost) x l → Q b x l)
    → Reads levels (down cost c sort) Q
reads_down {levels} {cost} {c} {sort} P Q part h = record { holds = yields_down bounded cost c sort P Q rules levels (λ n lt. (part n lt).holds) h }

reads_parenthesized : {levels : ℕ} → Below levels → Reads levels parenthesized Takes
unfolding parenthesized
reads_parenthesized below =
    reads_before (λ b x m l less p. (p.0, omega (arith, p.1)))
    (reads_down {sort = an_expression} Takes Takes (λ n lt. (below n lt).0) (λ b x l enough p. (p.0, omega (arith, p.1))))
    reads_any

reads_factor : {levels : ℕ} → Below levels → Reads levels factor Takes
unfolding factor
reads_factor below =
    reads_either (reads_as {f = expr.Literal} Takes reads_literal (λ b x l p. (names_Literal x, omega (arith, operators_Literal x, p))))
    (reads_either (reads_as {f = expr.Column} Takes reads_reference (λ b x l p. (names_Column x ∙ p.0, omega (arith, operators_Column x, p.1)))) (reads_parenthesized below))

-- chains

joined_names : (op : BinaryOp) (a b : Expr) → has_names a ≡ true → has_names b ≡ true → has_names (joined op a b) ≡ true
joined_names (binary.Arith o) a b p q = names_Arith o a b ∙ both_true (has_names a) (has_names b) p q
joined_names binary.And a b p q = names_And a b ∙ both_true (has_names a) (has_names b) p q
joined_names binary.Or a b p q = names_Or a b ∙ both_true (has_names a) (has_names b) p q

joined_operators : (op : BinaryOp) (a b : Expr) → operators (joined op a b) ≡ operators a + operators b + 1
joined_operators (binary.Arith o) a b = operators_Arith o a b
joined_operators binary.And a b = operators_And a b
joined_operators binary.Or a b = operators_Or a b

abbrev Step : Type 0
Step = BinaryOp × Expr

-- the operators of steps and of their operands
abbrev taken : List Step → ℕ
taken [] = 0
taken (s ∷ ss) = operators s.1 + 1 + taken ss

abbrev named : Step → Bool
named s = has_names s.1

abbrev TakesStep : Says Step
TakesStep b s l = (named s ≡ true) × (operators s.1 + 1 + l ≤ b)

abbrev TakesSteps : Option ℕ → Says (List Step)
TakesSteps room b ss l = (list_all named ss ≡ true) × (taken ss + l ≤ b)

grouped_takes : (e : Expr) (ss : List Step) → has_names e ≡ true → list_all named ss ≡ true
    → (has_names (fold (λ left right. joined right.0 left right.1) e ss) ≡ true)
    × (operators (fold (λ left right. joined right.0 left right.1) e ss) ≡ operators e + taken ss)
grouped_takes e [] p q = (p, omega arith)
grouped_takes e (s ∷ ss) p q =
    let (is, all) = both_parts (named s) (list_all named ss) q in
    let rest = grouped_takes (joined s.0 e s.1) ss (joined_names s.0 e s.1 p is) all in
    let one = joined_operators s.0 e s.1 in
    (rest.0, omega (arith, rest.1, one))

abbrev TakesChain : Says (Expr × List Step)
TakesChain b x l = (has_names x.0 ≡ true) × (list_all named x.1 ≡ true) × (operators x.0 + taken x.1 + l ≤ b)

reads_chain : {levels : ℕ} {op : Form BinaryOp} {operand : Form Expr} → Reads levels op TakesOne → Reads levels operand Takes → Reads levels (chain_of op operand) Takes
reads_chain {levels} {op} {operand} is_op is_operand =
    let step : Reads levels (op & operand) TakesStep = reads_both TakesStep is_op is_operand (λ b x m y l p q. (q.0, omega (arith, p, q.1))) in
    let more : Reads levels (many None None (op & operand)) (TakesSteps None) =
    reads_many TakesSteps step (λ room b. (refl, omega arith)) (λ room b x m xs l has p q. (both_true (named x) (list_all named xs) p.0 q.0, omega (arith, p.1, q.1))) in
    reads_as Takes (reads_both TakesChain is_operand more (λ b x m y l p q. (p.0, q.0, omega (arith, p.1, q.1))))
    (λ b x l p. let g = grouped_takes x.0 x.1 p.0 p.1 in (g.0, omega (arith, g.1, p.2)))

as_one : {A B : Type 0} {levels : ℕ} {f : A → B} {g : Form A} → Reads levels g TakesOne → Reads levels (as_ f g) TakesOne
as_one part = reads_as TakesOne part (λ b x l p. p)

reads_op : {levels : ℕ} (k : Chain) → Reads levels (binary_op k) TakesOne
unfolding binary_op
reads_op Product = as_one reads_one
reads_op Sum = reads_either (as_one reads_one) (as_one reads_one)
reads_op Conjunction = as_one reads_one
reads_op Disjunction = as_one reads_one

reads_sum : {levels : ℕ} → Below levels → Reads levels sum Takes
unfolding sum product
reads_sum below = reads_chain (reads_op Sum) (reads_chain (reads_op Product) (reads_factor below))

-- what turns a left side into a test
abbrev Turns : Says (Expr → Expr)
Turns b f l = (e : Expr) → has_names e ≡ true → (has_names (f e) ≡ true) × (operators (f e) + l ≤ b + operators e)

abbrev check_cost : Bool → ℕ
check_cost true = 2
check_cost false = 1

abbrev TakesCheck : Says Bool
TakesCheck b negated l = check_cost negated + l ≤ b

abbrev TakesNot : Says (Option (Unit {0}))
TakesNot b x l = check_cost (is_some x) + l ≤ b + 1

reads_null_check : {levels : ℕ} → Reads levels null_check TakesCheck
unfolding null_check
reads_null_check {levels} =
    let is : Reads levels (key_operator keyword.Is) TakesOne = reads_one in
    let not : Reads levels (maybe (key_operator keyword.Not)) TakesNot =
    reads_either (reads_as TakesNot reads_one (λ b x l p. omega (arith, p))) (reads_nothing TakesNot (λ b. omega arith)) in
    let both_of : Reads levels (key_operator keyword.Is >> maybe (key_operator keyword.Not)) (λ b x l. check_cost (is_some x) + l ≤ b) =
    reads_as (λ b x l. check_cost (is_some x) + l ≤ b)
    (reads_both (λ b z l. check_cost (is_some z.1) + l ≤ b) is not (λ b x m y l p q. omega (arith, p, q))) (λ b z l p. p) in
    reads_as TakesCheck (reads_before (λ b x m l less p. omega (arith, p)) both_of reads_any) (λ b x l p. p)

null_test_takes : (negated : Bool) (e : Expr) → has_names e ≡ true → (has_names (null_test negated e) ≡ true) × (operators (null_test negated e) ≡ check_cost negated + operators e)
null_test_takes true e p =
    let names : has_names (null_test true e) ≡ true = names_Not (expr.IsNull e) ∙ names_IsNull e ∙ p in
    (names, omega (arith, operators_Not (expr.IsNull e), operators_IsNull e))
null_test_takes false e p = (names_IsNull e ∙ p, omega (arith, operators_IsNull e))

reads_tested : {levels : ℕ} → Below levels → Reads levels tested Turns
unfolding tested
reads_tested {levels} below =
    reads_either
    (reads_as {f = λ x. compared x.0 x.1} Turns
    (reads_both {g = comparison} {k = sum} (λ b x l. (has_names x.1 ≡ true) × (operators x.1 + 1 + l ≤ b)) reads_one (reads_sum below) (λ b x m y l p q. (q.0, omega (arith, p, q.1))))
    (λ b x l p e short_e. (names_Compare x.0 e x.1 ∙ both_true (has_names e) (has_names x.1) short_e p.0, omega (arith, operators_Compare x.0 e x.1, p.1))))
    (reads_as {f = null_test} Turns reads_null_check
    (λ b x l p e short_e. let t = null_test_takes x e short_e in (t.0, omega (arith, t.1, p))))

abbrev MayTurn : Says (Option (Expr → Expr))
MayTurn b f l = (e : Expr) → has_names e ≡ true → (has_names (applied e f) ≡ true) × (operators (applied e f) + l ≤ b + operators e)

reads_predicate : {levels : ℕ} → Below levels → Reads levels predicate Takes
unfolding predicate
reads_predicate {levels} below =
    let behind : Reads levels (maybe tested) MayTurn =
    reads_either (reads_as {f = Some} MayTurn (reads_tested below) (λ b f l p. p)) (reads_nothing MayTurn (λ b e p. (p, omega arith))) in
    reads_as {f = λ x. applied x.0 x.1} Takes
    (reads_both {g = sum} {k = maybe tested} (λ b x l. (has_names (applied x.0 x.1) ≡ true) × (operators (applied x.0 x.1) + l ≤ b)) (reads_sum below) behind
    (λ b x m y l p q. let t = q x p.0 in (t.0, omega (arith, t.1, p.1))))
    (λ b x l p. p)

reads_negation : {levels : ℕ} → Below levels → Reads levels negation Takes
unfolding negation negated
reads_negation below =
    reads_either
    (reads_as {f = expr.Not} Takes
    (reads_down {cost = 1} {c = the_keyword keyword.Not} {sort = a_negation} Takes (λ b x l. (has_names x ≡ true) × (operators x + 1 + l ≤ b)) (λ n lt. (below n lt).1)
    (λ b x l enough p. (p.0, omega (arith, p.1))))
    (λ b x l p. (names_Not x ∙ p.0, omega (arith, operators_Not x, p.1))))
    (reads_predicate below)

reads_disjunction : {levels : ℕ} → Below levels → Reads levels disjunction Takes
unfolding disjunction conjunction
reads_disjunction below = reads_chain (reads_op Disjunction) (reads_chain (reads_op Conjunction) (reads_negation below))

below_all : (levels : ℕ) → Below levels
below_all zero n lt = absurd (omega arith)
below_all (suc m) n lt = let below : Below n = λ k less. below_all m k (omega arith) in (reads_disjunction below, reads_negation below)

-- an expression that is read is in form
pub reads_expression : {levels : ℕ} → Reads levels expression (Passes is_expr)
unfolding expression
reads_expression {levels} = record {
  holds =
      yields_afresh bounded 1000 disjunction Takes (Passes is_expr) rules levels (reads_disjunction {levels = levels} (below_all levels)).holds
      (λ b x l p. (both_true (has_names x) (nat_le (operators x) 1000) p.0 (le-leb (operators x) 1000 (omega (arith, p.1))), omega arith));
}
