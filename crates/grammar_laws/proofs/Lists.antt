-- Lists as a loop reads them.
use Rattle.std.proofs.Common.{◌≡◌, refl, ◌∙◌, ap, ℕ, true, false, List, [], ◌∷◌, Option, None, is_none, Ok, Err, length}
use Rattle.grammar_laws.specs.Grammars.{Words, Grammar, Rules, many}
use Rattle.grammar_laws.specs.Phrases.{has_room, less_one, PhraseIn, Deeper}
use Rattle.grammar_laws.specs.Prediction.{Classes, begins, openers, empty_of, first_of, decides}
use Rattle.grammar_laws.specs.Reading.{Found, Refused, mapped, read, read_member, read_more, behind, read_deeper}
use Rattle.grammar_laws.specs.Definitions.{Definition, IsPredictive}
use Rattle.grammar_laws.specs.Laws.{ReadsMembersInTurn, TakesToken}
use Rattle.grammar_laws.proofs.Sound.{sound_in, sound_deeper}
use Rattle.grammar_laws.proofs.Firsts.{never_empty, empty_only}
use Rattle.grammar_laws.proofs.Whole.{members_end, more_of, more_refused}
use Rattle.grammar_laws.proofs.Local.{ReadsOn, reads_on, members_in_turn}
use Rattle.grammar_laws.proofs.Theorems.{decides_all}

-- where no phrase is empty, what is read takes a token
pub takes_token : {W : Words} (K : Classes W) (rules : Rules W) (ends : W.Sort → List W.Class) {A : Type 0} (g : Grammar W A) → decides K ends g ≡ true
    → empty_of g ≡ None → (levels : ℕ) → ReadsOn (read rules levels g)
takes_token K rules ends g d none levels =
    reads_on (read rules levels g) (PhraseIn (Deeper rules 0 levels) g) (sound_in (read_deeper rules levels) (Deeper rules 0 levels) (sound_deeper rules 0 levels) g)
    (never_empty (PhraseIn (Deeper rules 0 levels) g) (empty_of g) (empty_only K ends (Deeper rules 0 levels) g d) (ap is_none none))

-- a list is read a member at a time
pub many_in_turn : {W : Words} (K : Classes W) (rules : Rules W) (ends : W.Sort → List W.Class) {A : Type 0} (g : Grammar W A) → decides K ends g ≡ true
    → empty_of g ≡ None → (levels budget : ℕ) (limit : Option ℕ) (lead : Option W.Class) (tokens : List W.Token)
    → read rules levels (many limit lead g) budget tokens
    ≡ read_more W lead (first_of g) (read rules levels g) (has_room limit) (read rules levels (many (less_one limit) lead g)) budget tokens
many_in_turn {W} K rules ends g d none levels budget limit lead tokens =
    members_in_turn W lead (first_of g) (read rules levels g) (takes_token K rules ends g d none levels) limit budget tokens

-- it ends where no member comes
pub list_ends : {W : Words} (rules : Rules W) {A : Type 0} (g : Grammar W A) (levels budget : ℕ) (limit : Option ℕ) (lead : Option W.Class) (tokens : List W.Token)
    → begins W (openers lead (first_of g)) tokens ≡ false → read rules levels (many limit lead g) budget tokens ≡ Ok ([], budget, tokens)
list_ends {W} rules g levels budget limit lead tokens none = members_end W lead (first_of g) (read rules levels g) (length tokens) limit budget tokens none

-- it goes on behind a member
pub list_goes_on : {W : Words} (K : Classes W) (rules : Rules W) (ends : W.Sort → List W.Class) {A : Type 0} (g : Grammar W A) → decides K ends g ≡ true
    → empty_of g ≡ None → (levels budget : ℕ) (limit : Option ℕ) (lead : Option W.Class) (tokens : List W.Token) (x : Found W.Token A)
    → begins W (openers lead (first_of g)) tokens ≡ true → has_room limit ≡ true → read rules levels g budget (behind lead tokens) ≡ Ok x
    → read rules levels (many limit lead g) budget tokens ≡ mapped (λ xs. x.0 ∷ xs) (read rules levels (many (less_one limit) lead g) x.1 x.2)
list_goes_on {W} K rules ends g d none levels budget limit lead tokens x comes room reads =
    many_in_turn K rules ends g d none levels budget limit lead tokens
    ∙ more_of W lead (first_of g) (read rules levels g) (has_room limit) (read rules levels (many (less_one limit) lead g)) budget tokens (behind lead tokens) x
    (read rules levels (many (less_one limit) lead g) x.1 x.2) comes refl room reads refl

-- it is refused where a member is, by its reader or for want of room
pub list_refused : {W : Words} (K : Classes W) (rules : Rules W) (ends : W.Sort → List W.Class) {A : Type 0} (g : Grammar W A) → decides K ends g ≡ true
    → empty_of g ≡ None → (levels budget : ℕ) (limit : Option ℕ) (lead : Option W.Class) (tokens : List W.Token) (f : Refused W.Token)
    → begins W (openers lead (first_of g)) tokens ≡ true → read_member (has_room limit) (begins W (first_of g)) (read rules levels g) budget (behind lead tokens) ≡ Err f
    → read rules levels (many limit lead g) budget tokens ≡ Err f
list_refused {W} K rules ends g d none levels budget limit lead tokens f comes refused =
    many_in_turn K rules ends g d none levels budget limit lead tokens
    ∙ more_refused W lead (first_of g) (read rules levels g) (has_room limit) (read rules levels (many (less_one limit) lead g)) budget tokens (behind lead tokens) f
    comes refl refused

pub reads_members_in_turn : (D : Definition) → IsPredictive D → ReadsMembersInTurn D
reads_members_in_turn D h none levels budget limit lead tokens =
    many_in_turn D.classes D.rules D.ends D.grammar (decides_all D h).0 none levels budget limit lead tokens

pub takes_a_token : (D : Definition) → IsPredictive D → TakesToken D
takes_a_token D h none levels budget tokens value left rest e =
    takes_token D.classes D.rules D.ends D.grammar (decides_all D h).0 none levels budget tokens (value, left, rest) e
