-- What shows that the classes are told apart rightly.
use Rattle.std.specs.Prelude.{◌≡◌, not, Bool, true, false, is_some, refl}
use Rattle.std.proofs.Common.{sym, ap, ◌∙◌, eqb-true, le-leb, arith}
use denote.Enum.Bare.{same_true, true_same}
use Rattle.grammar_laws.specs.Prediction.{Classes}
use Rattle.sql_tokens.specs.contracts.keywords.Keyword.{the_type as keyword_type}
use Rattle.sql_tokens.specs.contracts.signs.Sign.{the_type as sign_type}
use Rattle.sql_tokens.specs.declared.keywords.Keyword.{Keyword}
use Rattle.sql_tokens.specs.declared.signs.Sign.{Sign}
use Rattle.sql_tokens.specs.declared.lexemes.Lexed.{Lexed}
use Rattle.sql_tokens.specs.declared.lexemes.Lexeme.{Lexeme}
use Rattle.sql_tokens.specs.declared.lexemes.Lexeme.TheVariants.{Name, Keyword as Word, Number, Text, Session, Sign as Mark}
use Rattle.sql_parser.specs.Classes.{Class, a_name, a_text, a_number, a_session, the_keyword, the_sign, a_comparison, words, same_keyword, same_sign, comparison_of, fits, is_of, apart, same, a_token}

not_true : (b : Bool) → not b ≡ true → b ≡ false
not_true true h = absurd cc
not_true false h = refl

not_both : (b : Bool) → not b ≡ true → b ≡ true → ⊥
not_both true h e = absurd cc
not_both false h e = absurd cc

-- another keyword than that of a token
other_keyword : (k l w : Keyword) → not (same_keyword k l) ≡ true → same_keyword w k ≡ true → same_keyword w l ≡ false
other_keyword k l w a h = let e : w ≡ k = same_true keyword_type tt w k h in ap (λ x. same_keyword x l) e ∙ not_true (same_keyword k l) a

other_sign : (s t m : Sign) → not (same_sign s t) ≡ true → same_sign m s ≡ true → same_sign m t ≡ false
other_sign s t m a h = let e : m ≡ s = same_true sign_type tt m s h in ap (λ x. same_sign x t) e ∙ not_true (same_sign s t) a

no_comparison : (s m : Sign) → not (is_some (comparison_of s)) ≡ true → same_sign m s ≡ true → is_some (comparison_of m) ≡ false
no_comparison s m a h = let e : m ≡ s = same_true sign_type tt m s h in ap (λ x. is_some (comparison_of x)) e ∙ not_true (is_some (comparison_of s)) a

no_such_sign : (s m : Sign) → not (is_some (comparison_of s)) ≡ true → is_some (comparison_of m) ≡ true → same_sign m s ≡ false
no_such_sign s m a h = elim (same_sign m s) as (λ b. same_sign m s ≡ b → same_sign m s ≡ false) [
  | true ↦ λ e. let same_sign_is : m ≡ s = same_true sign_type tt m s e in absurd (not_both (is_some (comparison_of s)) a (ap (λ x. is_some (comparison_of x)) (sym same_sign_is) ∙ h))
  | false ↦ λ e. e
] refl

lexeme_apart : (c d : Class) (x : Lexeme) → apart c d ≡ true → fits c x ≡ true → fits d x ≡ false
lexeme_apart a_name a_name (Name w) a h = absurd cc
lexeme_apart a_name a_text (Name w) a h = refl
lexeme_apart a_name (a_number n) (Name w) a h = refl
lexeme_apart a_name a_session (Name w) a h = refl
lexeme_apart a_name (the_keyword l) (Name w) a h = refl
lexeme_apart a_name (the_sign t) (Name w) a h = refl
lexeme_apart a_name a_comparison (Name w) a h = refl
lexeme_apart a_name d (Text w) a h = absurd cc
lexeme_apart a_name d (Number w) a h = absurd cc
lexeme_apart a_name d (Word w) a h = absurd cc
lexeme_apart a_name d (Mark m) a h = absurd cc
lexeme_apart a_name d (Session m) a h = absurd cc
lexeme_apart a_text d (Name w) a h = absurd cc
lexeme_apart a_text a_name (Text w) a h = refl
lexeme_apart a_text a_text (Text w) a h = absurd cc
lexeme_apart a_text (a_number n) (Text w) a h = refl
lexeme_apart a_text a_session (Text w) a h = refl
lexeme_apart a_text (the_keyword l) (Text w) a h = refl
lexeme_apart a_text (the_sign t) (Text w) a h = refl
lexeme_apart a_text a_comparison (Text w) a h = refl
lexeme_apart a_text d (Number w) a h = absurd cc
lexeme_apart a_text d (Word w) a h = absurd cc
lexeme_apart a_text d (Mark m) a h = absurd cc
lexeme_apart a_text d (Session m) a h = absurd cc
lexeme_apart (a_number k) d (Name w) a h = absurd cc
lexeme_apart (a_number k) d (Text w) a h = absurd cc
lexeme_apart (a_number k) a_name (Number w) a h = refl
lexeme_apart (a_number k) a_text (Number w) a h = refl
lexeme_apart (a_number k) (a_number n) (Number w) a h = absurd cc
lexeme_apart (a_number k) a_session (Number w) a h = refl
lexeme_apart (a_number k) (the_keyword l) (Number w) a h = refl
lexeme_apart (a_number k) (the_sign t) (Number w) a h = refl
lexeme_apart (a_number k) a_comparison (Number w) a h = refl
lexeme_apart (a_number k) d (Word w) a h = absurd cc
lexeme_apart (a_number k) d (Mark m) a h = absurd cc
lexeme_apart (a_number k) d (Session m) a h = absurd cc
lexeme_apart a_session d (Name w) a h = absurd cc
lexeme_apart a_session d (Text w) a h = absurd cc
lexeme_apart a_session d (Number w) a h = absurd cc
lexeme_apart a_session d (Word w) a h = absurd cc
lexeme_apart a_session d (Mark m) a h = absurd cc
lexeme_apart a_session a_name (Session m) a h = refl
lexeme_apart a_session a_text (Session m) a h = refl
lexeme_apart a_session (a_number n) (Session m) a h = refl
lexeme_apart a_session a_session (Session m) a h = absurd cc
lexeme_apart a_session (the_keyword l) (Session m) a h = refl
lexeme_apart a_session (the_sign t) (Session m) a h = refl
lexeme_apart a_session a_comparison (Session m) a h = refl
lexeme_apart (the_keyword k) d (Name w) a h = absurd cc
lexeme_apart (the_keyword k) d (Text w) a h = absurd cc
lexeme_apart (the_keyword k) d (Number w) a h = absurd cc
lexeme_apart (the_keyword k) a_name (Word w) a h = refl
lexeme_apart (the_keyword k) a_text (Word w) a h = refl
lexeme_apart (the_keyword k) (a_number n) (Word w) a h = refl
lexeme_apart (the_keyword k) a_session (Word w) a h = refl
lexeme_apart (the_keyword k) (the_keyword l) (Word w) a h = other_keyword k l w a h
lexeme_apart (the_keyword k) (the_sign t) (Word w) a h = refl
lexeme_apart (the_keyword k) a_comparison (Word w) a h = refl
lexeme_apart (the_keyword k) d (Mark m) a h = absurd cc
lexeme_apart (the_keyword k) d (Session m) a h = absurd cc
lexeme_apart (the_sign s) d (Name w) a h = absurd cc
lexeme_apart (the_sign s) d (Text w) a h = absurd cc
lexeme_apart (the_sign s) d (Number w) a h = absurd cc
lexeme_apart (the_sign s) d (Word w) a h = absurd cc
lexeme_apart (the_sign s) a_name (Mark m) a h = refl
lexeme_apart (the_sign s) a_text (Mark m) a h = refl
lexeme_apart (the_sign s) (a_number n) (Mark m) a h = refl
lexeme_apart (the_sign s) a_session (Mark m) a h = refl
lexeme_apart (the_sign s) (the_keyword l) (Mark m) a h = refl
lexeme_apart (the_sign s) (the_sign t) (Mark m) a h = other_sign s t m a h
lexeme_apart (the_sign s) a_comparison (Mark m) a h = no_comparison s m a h
lexeme_apart (the_sign s) d (Session m) a h = absurd cc
lexeme_apart a_comparison d (Name w) a h = absurd cc
lexeme_apart a_comparison d (Text w) a h = absurd cc
lexeme_apart a_comparison d (Number w) a h = absurd cc
lexeme_apart a_comparison d (Word w) a h = absurd cc
lexeme_apart a_comparison a_name (Mark m) a h = refl
lexeme_apart a_comparison a_text (Mark m) a h = refl
lexeme_apart a_comparison (a_number n) (Mark m) a h = refl
lexeme_apart a_comparison a_session (Mark m) a h = refl
lexeme_apart a_comparison (the_keyword l) (Mark m) a h = refl
lexeme_apart a_comparison (the_sign t) (Mark m) a h = no_such_sign t m a h
lexeme_apart a_comparison a_comparison (Mark m) a h = absurd cc
lexeme_apart a_comparison d (Session m) a h = absurd cc

pub apart_is : (c d : Class) (t : Lexed) → apart c d ≡ true → is_of c t ≡ true → is_of d t ≡ false
apart_is c d t a h = lexeme_apart c d t.lexeme a h

pub same_is : (c d : Class) → same c d ≡ true → c ≡ d
same_is a_name a_name h = refl
same_is a_name a_text h = absurd cc
same_is a_name (a_number n) h = absurd cc
same_is a_name a_session h = absurd cc
same_is a_name (the_keyword l) h = absurd cc
same_is a_name (the_sign t) h = absurd cc
same_is a_name a_comparison h = absurd cc
same_is a_text a_name h = absurd cc
same_is a_text a_text h = refl
same_is a_text (a_number n) h = absurd cc
same_is a_text a_session h = absurd cc
same_is a_text (the_keyword l) h = absurd cc
same_is a_text (the_sign t) h = absurd cc
same_is a_text a_comparison h = absurd cc
same_is (a_number k) a_name h = absurd cc
same_is (a_number k) a_text h = absurd cc
same_is (a_number k) (a_number n) h = ap a_number (eqb-true k n h)
same_is (a_number k) a_session h = absurd cc
same_is (a_number k) (the_keyword l) h = absurd cc
same_is (a_number k) (the_sign t) h = absurd cc
same_is (a_number k) a_comparison h = absurd cc
same_is a_session a_name h = absurd cc
same_is a_session a_text h = absurd cc
same_is a_session (a_number n) h = absurd cc
same_is a_session a_session h = refl
same_is a_session (the_keyword l) h = absurd cc
same_is a_session (the_sign t) h = absurd cc
same_is a_session a_comparison h = absurd cc
same_is (the_keyword k) a_name h = absurd cc
same_is (the_keyword k) a_text h = absurd cc
same_is (the_keyword k) (a_number n) h = absurd cc
same_is (the_keyword k) a_session h = absurd cc
same_is (the_keyword k) (the_keyword l) h = ap the_keyword (same_true keyword_type tt k l h)
same_is (the_keyword k) (the_sign t) h = absurd cc
same_is (the_keyword k) a_comparison h = absurd cc
same_is (the_sign s) a_name h = absurd cc
same_is (the_sign s) a_text h = absurd cc
same_is (the_sign s) (a_number n) h = absurd cc
same_is (the_sign s) a_session h = absurd cc
same_is (the_sign s) (the_keyword l) h = absurd cc
same_is (the_sign s) (the_sign t) h = ap the_sign (same_true sign_type tt s t h)
same_is (the_sign s) a_comparison h = absurd cc
same_is a_comparison a_name h = absurd cc
same_is a_comparison a_text h = absurd cc
same_is a_comparison (a_number n) h = absurd cc
same_is a_comparison a_session h = absurd cc
same_is a_comparison (the_keyword l) h = absurd cc
same_is a_comparison (the_sign t) h = absurd cc
same_is a_comparison a_comparison h = refl

pub token_is : (c : Class) → is_of c (a_token c) ≡ true
token_is a_name = refl
token_is a_text = refl
token_is (a_number most) = le-leb 0 most (omega arith)
token_is a_session = refl
token_is (the_keyword k) = true_same keyword_type k k refl
token_is (the_sign s) = true_same sign_type s s refl
token_is a_comparison = refl

abbrev pub classes : Classes words
classes = record { apart = apart; same = same; a_token = a_token; apart_is = apart_is; same_is = same_is; token_is = token_is }
