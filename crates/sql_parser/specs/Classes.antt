-- The classes of tokens that the grammar speaks of, and which of them have no token in common.
use Rattle.std.specs.Prelude.{ℕ, ◌==◌, nat_le, not, Bool, true, false, List, [], Option, Some, None, is_some, unwrap_or}
use denote.Enum.Bare.{sameb}
use Rattle.grammar_laws.specs.Grammars.{Words}
use Rattle.sql_model.specs.declared.expressions.CmpOp.{CmpOp}
use Rattle.sql_model.specs.declared.expressions.CmpOp.TheVariants.{Eq, Ne, Lt, Le, Gt, Ge}
use Rattle.sql_model.specs.declared.expressions.Expr.{Expr}
use Rattle.sql_tokens.specs.contracts.keywords.Keyword.{the_type as keyword_type}
use Rattle.sql_tokens.specs.contracts.signs.Sign.{the_type as sign_type}
use Rattle.sql_tokens.specs.declared.keywords.Keyword.{Keyword}
use Rattle.sql_tokens.specs.declared.signs.Sign.{Sign}
use Rattle.sql_tokens.specs.declared.signs.Sign.TheVariants.{Equal, NotEqual, LessOrEqual, GreaterOrEqual, Less, Greater}
use Rattle.sql_tokens.specs.declared.lexemes.Lexed.{Lexed}
use Rattle.sql_tokens.specs.declared.lexemes.Lexeme.{Lexeme}
use Rattle.sql_tokens.specs.declared.lexemes.Lexeme.TheVariants.{Name, Keyword as Word, Number, Text, Session, Sign as Mark}

pub data Class : Type 0 where
  a_name : Class
  a_text : Class
  -- a number of at most this much
  a_number : ℕ → Class
  a_session : Class
  the_keyword : Keyword → Class
  the_sign : Sign → Class
  a_comparison : Class

-- what may stand inside itself: an expression, and what NOT turns
pub data Sort : Type 0 where
  an_expression : Sort
  a_negation : Sort

abbrev pub same_keyword : Keyword → Keyword → Bool
same_keyword = sameb keyword_type

abbrev pub same_sign : Sign → Sign → Bool
same_sign = sameb sign_type

-- the comparison that a sign stands for
abbrev pub comparison_of : Sign → Option CmpOp
comparison_of Equal = Some Eq
comparison_of NotEqual = Some Ne
comparison_of Less = Some Lt
comparison_of LessOrEqual = Some Le
comparison_of Greater = Some Gt
comparison_of GreaterOrEqual = Some Ge
comparison_of _ = None

abbrev pub fits : Class → Lexeme → Bool
fits a_name (Name w) = true
fits a_text (Text w) = true
fits (a_number most) (Number n) = nat_le n most
fits a_session (Session n) = true
fits (the_keyword k) (Word l) = same_keyword l k
fits (the_sign s) (Mark t) = same_sign t s
fits a_comparison (Mark t) = is_some (comparison_of t)
fits _ _ = false

abbrev pub is_of : Class → Lexed → Bool
is_of c t = fits c t.lexeme

abbrev pub words : Words
words = record { Token = Lexed; Class = Class; Sort = Sort; Tree = λ _. Expr; is_of = is_of }

-- what a token of a class says

abbrev pub name_in : Lexed → List ℕ
name_in t = elim t.lexeme [ Name w ↦ w | _ ↦ [] ]

abbrev pub text_in : Lexed → List ℕ
text_in t = elim t.lexeme [ Text w ↦ w | _ ↦ [] ]

abbrev pub number_in : Lexed → ℕ
number_in t = elim t.lexeme [ Number n ↦ n | _ ↦ 0 ]

abbrev pub session_in : Lexed → ℕ
session_in t = elim t.lexeme [ Session n ↦ n | _ ↦ 0 ]

abbrev pub comparison_in : Lexed → CmpOp
comparison_in t = elim t.lexeme [ Mark s ↦ unwrap_or (comparison_of s) Eq | _ ↦ Eq ]

-- Classes that have no token in common. Two bounds on numbers always share a number.
abbrev pub apart : Class → Class → Bool
apart a_name a_name = false
apart a_text a_text = false
apart (a_number m) (a_number n) = false
apart a_session a_session = false
apart (the_keyword k) (the_keyword l) = not (same_keyword k l)
apart (the_sign s) (the_sign t) = not (same_sign s t)
apart (the_sign s) a_comparison = not (is_some (comparison_of s))
apart a_comparison (the_sign s) = not (is_some (comparison_of s))
apart a_comparison a_comparison = false
apart _ _ = true

abbrev pub same : Class → Class → Bool
same a_name a_name = true
same a_text a_text = true
same (a_number m) (a_number n) = m == n
same a_session a_session = true
same (the_keyword k) (the_keyword l) = same_keyword k l
same (the_sign s) (the_sign t) = same_sign s t
same a_comparison a_comparison = true
same _ _ = false

abbrev pub lexeme_of : Class → Lexeme
lexeme_of a_name = Name []
lexeme_of a_text = Text []
lexeme_of (a_number most) = Number 0
lexeme_of a_session = Session 1
lexeme_of (the_keyword k) = Word k
lexeme_of (the_sign s) = Mark s
lexeme_of a_comparison = Mark Equal

abbrev pub a_token : Class → Lexed
a_token c = record { start = 0; end = 1; lexeme = lexeme_of c }
