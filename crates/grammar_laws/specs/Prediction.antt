-- What the next token tells: how phrases begin and go on, and whether one token always decides.
use Rattle.std.specs.Prelude.{◌≡◌, ◌&&◌, ◌||◌, Bool, true, false, cond, List, [], ◌∷◌, ◌++◌, Option, Some, None, option_map, is_none}
use Rattle.std.specs.List.{list_any, list_all}
use Rattle.grammar_laws.specs.Grammars.{Words, Grammar, Rules, one, nothing, both, fork, either, many, as_, down, afresh}

-- the token is of one of the classes
abbrev pub is_among : (W : Words) → List W.Class → W.Token → Bool
is_among W cs t = list_any (λ c. W.is_of c t) cs

-- the tokens begin with one of these classes
abbrev pub begins : (W : Words) → List W.Class → List W.Token → Bool
begins W cs [] = false
begins W cs (t ∷ ts) = is_among W cs t

-- the value of two parts in turn, where both have one
abbrev pub empty_in_turn : {A B : Type 0} → Option A → (A → Option B) → Option (A × B)
empty_in_turn None f = None
empty_in_turn (Some x) f = option_map (λ y. (x, y)) (f x)

-- a list that hangs on a value, and nothing where there is none
abbrev pub where_some : {A C : Type 0} → Option A → (A → List C) → List C
where_some None f = []
where_some (Some x) f = f x

-- the value of the phrase of no tokens, where there is one; an `either` has it in its second part alone
abbrev pub empty_of : {W : Words} {A : Type 0} → Grammar W A → Option A
empty_of (one cost c f) = None
empty_of (nothing v) = Some v
empty_of (both g h) = empty_in_turn (empty_of g) (λ _. empty_of h)
empty_of (fork g test h i) = empty_in_turn (empty_of g) (λ x. cond (test x) (empty_of h) (empty_of i))
empty_of (either g h) = empty_of h
empty_of (many limit lead g) = Some []
empty_of (as_ f g) = option_map f (empty_of g)
empty_of (down cost c sort) = None
empty_of (afresh own g) = empty_of g

-- what the members of a list begin with
abbrev pub openers : {C : Type 0} → Option C → List C → List C
openers None firsts = firsts
openers (Some c) firsts = c ∷ []

-- the classes that a phrase may begin with
abbrev pub first_of : {W : Words} {A : Type 0} → Grammar W A → List W.Class
first_of (one cost c f) = c ∷ []
first_of (nothing v) = []
first_of (both g h) = first_of g ++ where_some (empty_of g) (λ _. first_of h)
first_of (fork g test h i) = first_of g ++ where_some (empty_of g) (λ x. cond (test x) (first_of h) (first_of i))
first_of (either g h) = first_of g ++ first_of h
first_of (many limit lead g) = openers lead (first_of g)
first_of (as_ f g) = first_of g
first_of (down cost c sort) = c ∷ []
first_of (afresh own g) = first_of g

-- the classes that a phrase may go on with where it could end; `ends` has them for each sort
abbrev pub goes_on : {W : Words} → (W.Sort → List W.Class) → {A : Type 0} → Grammar W A → List W.Class
goes_on ends (one cost c f) = []
goes_on ends (nothing v) = []
goes_on ends (both g h) = goes_on ends h ++ where_some (empty_of h) (λ _. goes_on ends g)
goes_on ends (fork g test h i) = (goes_on ends h ++ where_some (empty_of h) (λ _. goes_on ends g)) ++ (goes_on ends i ++ where_some (empty_of i) (λ _. goes_on ends g))
goes_on ends (either g h) = goes_on ends g ++ (goes_on ends h ++ where_some (empty_of h) (λ _. first_of g))
goes_on ends (many limit lead g) = openers lead (first_of g) ++ goes_on ends g
goes_on ends (as_ f g) = goes_on ends g
goes_on ends (down cost c sort) = ends sort
goes_on ends (afresh own g) = goes_on ends g

-- what tells of the classes: which have no token in common, which are the same, and a token of each
pub record Classes (W : Words) : Type 0 where
  pub apart : W.Class → W.Class → Bool
  pub same : W.Class → W.Class → Bool
  pub a_token : W.Class → W.Token
  pub apart_is : (c d : W.Class) (t : W.Token) → apart c d ≡ true → W.is_of c t ≡ true → W.is_of d t ≡ false
  pub same_is : (c d : W.Class) → same c d ≡ true → c ≡ d
  pub token_is : (c : W.Class) → W.is_of c (a_token c) ≡ true

-- no token is of a class of both lists
abbrev pub all_apart : {W : Words} → Classes W → List W.Class → List W.Class → Bool
all_apart K cs ds = list_all (λ c. list_all (λ d. K.apart c d) ds) cs

-- each class of the first list stands in the second
abbrev pub all_in : {W : Words} → Classes W → List W.Class → List W.Class → Bool
all_in K cs ds = list_all (λ c. list_any (λ d. K.same c d) ds) cs

-- whether a grammar surely has a phrase, where `sort_has` says the same of each sort
abbrev pub has_phrase : {W : Words} → (sort_has : W.Sort → Bool) → {A : Type 0} → Grammar W A → Bool
has_phrase sort_has (one cost c f) = true
has_phrase sort_has (nothing v) = true
has_phrase sort_has (both g h) = has_phrase sort_has g && has_phrase sort_has h
has_phrase sort_has (fork g test h i) = has_phrase sort_has g && (has_phrase sort_has h && has_phrase sort_has i)
has_phrase sort_has (either g h) = has_phrase sort_has g || has_phrase sort_has h
has_phrase sort_has (many limit lead g) = true
has_phrase sort_has (as_ f g) = has_phrase sort_has g
has_phrase sort_has (down cost c sort) = sort_has sort
has_phrase sort_has (afresh own g) = has_phrase sort_has g

-- whether a sort has a phrase that goes no level deeper
abbrev pub has_flat : {W : Words} → Rules W → W.Sort → Bool
has_flat rules sort = has_phrase (λ _. false) (rules sort)

-- One token decides: the parts to choose from begin apart, and where a part may go on, nothing that may follow it begins so.
abbrev pub decides : {W : Words} → Classes W → (W.Sort → List W.Class) → {A : Type 0} → Grammar W A → Bool
decides K ends (one cost c f) = true
decides K ends (nothing v) = true
decides K ends (both g h) = (decides K ends g && decides K ends h) && all_apart K (goes_on ends g) (first_of h)
decides K ends (fork g test h i) =
    (decides K ends g && (decides K ends h && decides K ends i)) && (all_apart K (goes_on ends g) (first_of h) && all_apart K (goes_on ends g) (first_of i))
decides K ends (either g h) = (decides K ends g && decides K ends h) && (is_none (empty_of g) && all_apart K (first_of g) (first_of h))
decides K ends (many limit lead g) = decides K ends g && (is_none (empty_of g) && all_apart K (goes_on ends g) (openers lead (first_of g)))
decides K ends (as_ f g) = decides K ends g
decides K ends (down cost c sort) = true
decides K ends (afresh own g) = decides K ends g

-- Each part that stands behind a token or another part has a phrase, so that what is begun can be completed.
abbrev pub completes : {W : Words} → (sort_has : W.Sort → Bool) → {A : Type 0} → Grammar W A → Bool
completes sort_has (one cost c f) = true
completes sort_has (nothing v) = true
completes sort_has (both g h) = (completes sort_has g && completes sort_has h) && has_phrase sort_has h
completes sort_has (fork g test h i) = (completes sort_has g && (completes sort_has h && completes sort_has i)) && (has_phrase sort_has h && has_phrase sort_has i)
completes sort_has (either g h) = completes sort_has g && completes sort_has h
completes sort_has (many limit lead g) = completes sort_has g && has_phrase sort_has g
completes sort_has (as_ f g) = completes sort_has g
completes sort_has (down cost c sort) = sort_has sort
completes sort_has (afresh own g) = completes sort_has g

-- a grammar of which one token tells how to go on
abbrev pub is_predictive : {W : Words} → Classes W → Rules W → (W.Sort → List W.Class) → {A : Type 0} → Grammar W A → Bool
is_predictive K rules ends g = decides K ends g && completes (has_flat rules) g

-- the same of the grammar of a sort, whose phrases go on as `ends` says
abbrev pub is_predictive_sort : {W : Words} → Classes W → Rules W → (W.Sort → List W.Class) → W.Sort → Bool
is_predictive_sort K rules ends sort = is_predictive K rules ends (rules sort) && all_in K (goes_on ends (rules sort)) (ends sort)
