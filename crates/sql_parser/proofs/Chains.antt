-- How a loop reads a chain of operands.
use Rattle.std.proofs.Common.{◌≡◌, refl, ap, ◌∙◌, ℕ, ◌<◌, true, false, List, None, Ok, Err, length, fold}
use Rattle.grammar_laws.specs.Grammars.{many, ◌&◌}
use Rattle.grammar_laws.specs.Prediction.{empty_of, first_of, decides, begins}
use Rattle.grammar_laws.specs.Reading.{Answer, Refused, mapped}
use Rattle.grammar_laws.proofs.Lists.{list_ends, list_goes_on, list_refused, takes_token}
use Rattle.sql_model.specs.declared.expressions.Expr.{Expr}
use Rattle.sql_tokens.specs.declared.lexemes.Lexed.{Lexed}
use Rattle.sql_parser.specs.declared.expressions.BinaryOp.{BinaryOp}
use Rattle.sql_parser.specs.declared.expressions.Chain.{Chain}
use Rattle.sql_parser.specs.declared.expressions.Chain.TheVariants.{Product, Sum, Conjunction, Disjunction}
use Rattle.sql_parser.specs.Classes.{words}
use Rattle.sql_parser.specs.ClassLaws.{classes}
use Rattle.sql_parser.specs.Language.{ends}
use Rattle.sql_parser.specs.Grammar.{Form, rules, joined, chain, binary_op, operand, literal, reference, parenthesized, factor, product, sum, null_check, tested, predicate, negated, negation, conjunction, disjunction}
use Rattle.sql_parser.specs.Ahead.{Ahead, reading, is_at}

abbrev pub Step : Type 0
Step = BinaryOp × Expr

abbrev pub step : Chain → Form Step
step k = binary_op k & operand k

-- what stands behind the first operand
abbrev pub more : Chain → Form (List Step)
more k = many None None (step k)

abbrev pub grouped : Expr → List Step → Expr
grouped left steps = fold (λ left right. joined right.0 left right.1) left steps

-- Behind `left`, what is now ahead completes the chain that was ahead before.
pub record Completes (levels : ℕ) (k : Chain) (before : Ahead) (left : Expr) (now : Ahead) : Type 0 where
  pub reads : reading levels (chain k) before ≡ mapped (grouped left) (reading levels (more k) now)
  pub ending : now.ending ≡ before.ending

step_decides : (k : Chain) → decides classes ends (step k) ≡ true
unfolding literal reference parenthesized factor binary_op operand product sum null_check tested predicate negated negation conjunction disjunction
step_decides Product = refl
step_decides Sum = refl
step_decides Conjunction = refl
step_decides Disjunction = refl

step_not_empty : (k : Chain) → empty_of (step k) ≡ None
unfolding binary_op
step_not_empty Product = refl
step_not_empty Sum = refl
step_not_empty Conjunction = refl
step_not_empty Disjunction = refl

step_begins : (k : Chain) → first_of (step k) ≡ first_of (binary_op k)
unfolding binary_op
step_begins Product = refl
step_begins Sum = refl
step_begins Conjunction = refl
step_begins Disjunction = refl

at_any_level : (levels : ℕ) (k : Chain) (now : Ahead) → reading levels (binary_op k) now ≡ reading 0 (binary_op k) now
unfolding binary_op
at_any_level levels Product now = refl
at_any_level levels Sum now = refl
at_any_level levels Conjunction now = refl
at_any_level levels Disjunction now = refl

mapped_twice : {X A B C : Type 0} (f : B → C) (g : A → B) (h : A → C) → ((x : A) → f (g x) ≡ h x) → (r : Answer X A) → mapped f (mapped g r) ≡ mapped h r
mapped_twice f g h same (Ok x) = ap (λ y. Ok (y, x.1, x.2)) (same x.0)
mapped_twice f g h same (Err e) = refl

pub chain_begins : (levels : ℕ) (k : Chain) (before : Ahead) (left : Expr) (now : Ahead) → reading levels (operand k) before ≡ Ok (left, now.operators, now.tokens)
    → now.ending ≡ before.ending → Completes levels k before left now
chain_begins levels k before left now reads refused = record {
  reads = rw reads (mapped_twice _ _ (grouped left) (λ x. refl) (reading levels (more k) now));
  ending = refused;
}

step_reads : (levels : ℕ) (k : Chain) (now mid after : Ahead) (op : BinaryOp) (right : Expr) → reading 0 (binary_op k) now ≡ Ok (op, mid.operators, mid.tokens)
    → reading levels (operand k) mid ≡ Ok (right, after.operators, after.tokens) → reading levels (step k) now ≡ Ok ((op, right), after.operators, after.tokens)
step_reads levels k now mid after op right first second = rw (at_any_level levels k now ∙ first, second) refl

step_comes : (k : Chain) (now : Ahead) → is_at (first_of (binary_op k)) now ≡ true → begins words (first_of (step k)) now.tokens ≡ true
step_comes k now comes = rw (step_begins k) comes

step_stays : (k : Chain) (now : Ahead) → is_at (first_of (binary_op k)) now ≡ false → begins words (first_of (step k)) now.tokens ≡ false
step_stays k now none = rw (step_begins k) none

-- a step more
pub chain_goes_on : (levels : ℕ) (k : Chain) (before now mid after : Ahead) (left : Expr) (op : BinaryOp) (right : Expr) → Completes levels k before left now
    → is_at (first_of (binary_op k)) now ≡ true → reading 0 (binary_op k) now ≡ Ok (op, mid.operators, mid.tokens)
    → reading levels (operand k) mid ≡ Ok (right, after.operators, after.tokens) → after.ending ≡ now.ending
    → Completes levels k before (joined op left right) after
chain_goes_on levels k before now mid after left op right whole comes first second refused =
    let goes = list_goes_on classes rules ends (step k) (step_decides k) (step_not_empty k) levels now.operators None None now.tokens ((op, right), after.operators, after.tokens)
    (step_comes k now comes) refl (step_reads levels k now mid after op right first second) in
    record {
      reads = whole.reads ∙ ap (mapped (grouped left)) goes ∙ mapped_twice _ _ (grouped (joined op left right)) (λ x. refl) (reading levels (more k) after);
      ending = refused ∙ whole.ending;
    }

-- each step takes a token
pub chain_shrinks : (levels : ℕ) (k : Chain) (now mid after : Ahead) (op : BinaryOp) (right : Expr) → reading 0 (binary_op k) now ≡ Ok (op, mid.operators, mid.tokens)
    → reading levels (operand k) mid ≡ Ok (right, after.operators, after.tokens) → length after.tokens < length now.tokens
chain_shrinks levels k now mid after op right first second =
    takes_token classes rules ends (step k) (step_decides k) (step_not_empty k) levels now.operators now.tokens ((op, right), after.operators, after.tokens)
    (step_reads levels k now mid after op right first second)

-- no step more
pub chain_ends : (levels : ℕ) (k : Chain) (before now : Ahead) (left : Expr) → Completes levels k before left now → is_at (first_of (binary_op k)) now ≡ false
    → reading levels (chain k) before ≡ Ok (left, now.operators, now.tokens)
chain_ends levels k before now left whole none =
    whole.reads ∙ ap (mapped (grouped left)) (list_ends rules (step k) levels now.operators None None now.tokens (step_stays k now none))

-- a step that is refused
pub chain_stops : (levels : ℕ) (k : Chain) (before now : Ahead) (left : Expr) (e : Refused Lexed) → Completes levels k before left now
    → is_at (first_of (binary_op k)) now ≡ true → reading levels (step k) now ≡ Err e → reading levels (chain k) before ≡ Err e
chain_stops levels k before now left e whole comes refused =
    whole.reads
    ∙ ap (mapped (grouped left)) (list_refused classes rules ends (step k) (step_decides k) (step_not_empty k) levels now.operators None None now.tokens e (step_comes k now comes) refused)

pub operator_stops : (levels : ℕ) (k : Chain) (before now : Ahead) (left : Expr) (e : Refused Lexed) → Completes levels k before left now
    → is_at (first_of (binary_op k)) now ≡ true → reading 0 (binary_op k) now ≡ Err e → reading levels (chain k) before ≡ Err e
operator_stops levels k before now left e whole comes refused = chain_stops levels k before now left e whole comes (rw (at_any_level levels k now ∙ refused) refl)

pub operand_stops : (levels : ℕ) (k : Chain) (before now mid : Ahead) (left : Expr) (op : BinaryOp) (e : Refused Lexed) → Completes levels k before left now
    → is_at (first_of (binary_op k)) now ≡ true → reading 0 (binary_op k) now ≡ Ok (op, mid.operators, mid.tokens) → reading levels (operand k) mid ≡ Err e
    → reading levels (chain k) before ≡ Err e
operand_stops levels k before now mid left op e whole comes first refused =
    chain_stops levels k before now left e whole comes (rw (at_any_level levels k now ∙ first, refused) refl)
