-- Each name among a script's tokens has at most 64 bytes, and each session mark is of a session from 1 to 16.
use Rattle.std.proofs.Common.{◌≡◌, refl, arith, ℕ, zero, suc, ◌+◌, ◌-◌, ◌≤◌, ◌==◌, nat_le, leb-true, le-leb, Bool, true, false, not, ◌&&◌, List, [], ◌∷◌, Option, Some, None, length, map, take, drop, is_some, if◌then◌else◌}
use Rattle.std.specs.List.{list_all, prefix_len}
use Rattle.std.specs.Str.{is_utf8}
use Rattle.sql_tokens.specs.declared.fronts.Front.{Front}
use Rattle.sql_tokens.specs.declared.fronts.Front.TheVariants.{Token, Bad}
use Rattle.sql_tokens.specs.declared.faults.ParseKind.TheVariants.{NotUtf8, LongText, LongName, BadChar}
use Rattle.sql_tokens.specs.declared.keywords.Keyword.{Keyword}
use Rattle.sql_tokens.specs.declared.lexemes.Lexeme.TheVariants as lexeme
use Rattle.sql_tokens.specs.declared.signs.Sign.{Sign}
use Rattle.sql_tokens.specs.Tokens.{front, word, name_or, keyword_of, number, text, text_to, closing, closed_text, undoubled, session, sign_front, sign_or_bad, single_sign, double_sign, begins_with, is_letter, is_digit, is_word, is_between, folded, gap}
use Rattle.sql_tokens.specs.Scans.{Scan, scan_next, scan_behind, scan}
use Rattle.sql_parser.proofs.Yields.{All}
use Rattle.sql_parser.proofs.InFormExpressions.{bounded, is_bounded, is_session, both_true, both_parts}

abbrev is_bounded_front : Front → Bool
is_bounded_front (Token x size) = is_bounded x
is_bounded_front (Bad kind) = true

either_front : (c : Bool) (a b : Front) → is_bounded_front a ≡ true → is_bounded_front b ≡ true → is_bounded_front (if c then a else b) ≡ true
either_front true a b p q = p
either_front false a b p q = q

taken_most : (n : ℕ) (bytes : List ℕ) → length (map folded (take n bytes)) ≤ n
taken_most zero bytes = omega arith
taken_most (suc n) [] = omega arith
taken_most (suc n) (b ∷ bytes) = let most = taken_most n bytes in omega (arith, most)

word_bounded : (size : ℕ) (name : List ℕ) (key : Option Keyword) (fits : Bool) → (fits ≡ true → length name ≤ 64)
    → is_bounded_front (if fits then Token (name_or name key) size else Bad LongName) ≡ true
word_bounded size name None true few = le-leb (length name) 64 (few refl)
word_bounded size name (Some key) true few = refl
word_bounded size name key false few = refl

fits_64 : (size : ℕ) (bytes : List ℕ) → nat_le size 64 ≡ true → length (map folded (take size bytes)) ≤ 64
fits_64 size bytes fits =
    let most = taken_most size bytes in
    let few = leb-true size 64 fits in
    omega (arith, most, few)

words_bounded : (bytes : List ℕ) → is_bounded_front (word bytes) ≡ true
unfolding word
words_bounded bytes =
    let size = prefix_len is_word bytes in
    let name = map folded (take size bytes) in
    word_bounded size name (keyword_of name) (nat_le size 64) (fits_64 size bytes)

numbers_bounded : (bytes : List ℕ) → is_bounded_front (number bytes) ≡ true
unfolding number
numbers_bounded bytes = refl

closed_bounded : (value : List ℕ) (size : ℕ) → is_bounded_front (closed_text value size) ≡ true
unfolding closed_text
closed_bounded value size =
    either_front (not (is_utf8 value)) (Bad NotUtf8) (if nat_le (length value) 4096 then Token (lexeme.Text value) size else Bad LongText) refl
    (either_front (nat_le (length value) 4096) (Token (lexeme.Text value) size) (Bad LongText) refl refl)

text_to_bounded : (rest : List ℕ) (quote : Option ℕ) → is_bounded_front (text_to rest quote) ≡ true
text_to_bounded rest None = refl
text_to_bounded rest (Some quote) = closed_bounded (undoubled false (take quote rest)) (quote + 2)

texts_bounded : (rest : List ℕ) → is_bounded_front (text rest) ≡ true
unfolding text
texts_bounded rest = text_to_bounded rest (closing 0 false rest)

-- a letter from a to p
letter_bounded : (b : ℕ) → is_between 97 112 b ≡ true → is_session (b - 96) ≡ true
letter_bounded b is =
    let (from, to) = both_parts (nat_le 97 b) (nat_le b 112) is in
    let low = leb-true 97 b from in
    let high = leb-true b 112 to in
    both_true (nat_le 1 (b - 96)) (nat_le (b - 96) 16) (le-leb 1 (b - 96) (omega (arith, low))) (le-leb (b - 96) 16 (omega (arith, high)))

mark_bounded : (b : ℕ) (is_letter ends : Bool) → (is_letter ≡ true → is_between 97 112 b ≡ true)
    → is_bounded_front (if is_letter && ends then Token (lexeme.Session (b - 96)) 2 else Bad BadChar) ≡ true
mark_bounded b true true is = letter_bounded b (is refl)
mark_bounded b true false is = refl
mark_bounded b false ends is = refl

sessions_bounded : (rest : List ℕ) → is_bounded_front (session rest) ≡ true
unfolding session
sessions_bounded [] = refl
sessions_bounded (b ∷ rest) = mark_bounded b (is_between 97 112 b) (not (begins_with is_word rest)) (λ is. is)

sign_bounded : (size : ℕ) (sign : Option Sign) → is_bounded_front (sign_or_bad size sign) ≡ true
sign_bounded size None = refl
sign_bounded size (Some s) = refl

signs_bounded : (bytes : List ℕ) → is_bounded_front (sign_front bytes) ≡ true
unfolding sign_front
signs_bounded [] = refl
signs_bounded (b ∷ []) = sign_bounded 1 (single_sign b)
signs_bounded (b ∷ c ∷ rest) =
    either_front (is_some (double_sign b c)) (sign_or_bad 2 (double_sign b c)) (sign_or_bad 1 (single_sign b)) (sign_bounded 2 (double_sign b c)) (sign_bounded 1 (single_sign b))

fronts_bounded : (bytes : List ℕ) → is_bounded_front (front bytes) ≡ true
unfolding front
fronts_bounded bytes =
    either_front (begins_with is_letter bytes) _ _ (words_bounded bytes)
    (either_front (begins_with is_digit bytes) _ _ (numbers_bounded bytes)
    (either_front (begins_with (λ b. b == 39) bytes) _ _ (texts_bounded (drop 1 bytes))
    (either_front (begins_with (λ b. b == 64) bytes) _ _ (sessions_bounded (drop 1 bytes)) (signs_bounded bytes))))

next_bounded : (place : ℕ) (size : Option ℕ) (x : Front) (behind : ℕ → Scan) → is_bounded_front x ≡ true → ((size : ℕ) → All bounded (behind size).tokens)
    → All bounded (scan_next place size x behind).tokens
next_bounded place (Some size) x behind this those = those size
next_bounded place None (Token x size) behind this those = both_true (is_bounded x) (list_all bounded (behind size).tokens) this (those size)
next_bounded place None (Bad kind) behind this those = refl

behind_bounded : (place passed : ℕ) (bytes : List ℕ) → All bounded (scan_behind place passed bytes).tokens
unfolding scan_behind
behind_bounded place passed [] = refl
behind_bounded place (suc passed) (b ∷ rest) = behind_bounded (place + 1) passed rest
behind_bounded place zero (b ∷ rest) =
    next_bounded place (gap (b ∷ rest)) (front (b ∷ rest)) (λ size. scan_behind (place + 1) (size - 1) rest) (fronts_bounded (b ∷ rest)) (λ size. behind_bounded (place + 1) (size - 1) rest)

pub tokens_bounded : (place : ℕ) (bytes : List ℕ) → All bounded (scan place bytes).tokens
unfolding scan
tokens_bounded place bytes = behind_bounded place 0 bytes
