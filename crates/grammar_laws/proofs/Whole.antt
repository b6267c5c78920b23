-- Where one token decides, each phrase is read whole, or meets a limit behind the tokens that keep the bounds.
use Rattle.std.proofs.Common.{◌≡◌, ◌⊎◌, inl, inr, refl, sym, ◌∙◌, ap, ap₂, subst, append_assoc, length-append, arith, ℕ, zero, suc, ◌+◌, ◌-◌, ◌<◌, ◌≤◌, nat_le, leb-false, Bool, true, false, List, [], ◌∷◌, ◌++◌, Option, Some, None, Ok, Err, length}
use Rattle.grammar_laws.specs.Grammars.{Words, Grammar, Rules, one, nothing, both, fork, either, many, as_, down, afresh}
use Rattle.grammar_laws.specs.Phrases.{Relation, InTurn, Chosen, IsLead, has_room, less_one, PhraseIn, Deeper}
use Rattle.grammar_laws.specs.Prediction.{Classes, begins, openers, where_some, empty_of, first_of, goes_on, decides, all_apart, all_in}
use Rattle.grammar_laws.specs.Reading.{Found, Refused, Limit, Answer, Reader, mapped, with_budget, choose, read_token, read_in_turn, read_member, read_more, read_members, behind, read_in, read_deeper}
use Rattle.grammar_laws.proofs.ClassLemmas.{both_hold, is_true_or_false, not_both, begins_none, begins_none_in, none_of_both, one_among}
use Rattle.grammar_laws.proofs.Sound.{MembersOf}
use Rattle.grammar_laws.proofs.Steps.{choose_first, choose_second, in_turn_of, in_turn_refused}
use Rattle.grammar_laws.proofs.ListLemmas.{none_kept}
use Rattle.grammar_laws.proofs.Firsts.{EmptyOnly, NeverEmpty, never_empty, empty_members, empty_only, BeginsIn, first_members, first_is, member_front}

-- a limit is met at one of n tokens, behind the kept ones
abbrev pub MeetsLimit : {X A : Type 0} → Answer X A → (kept n : ℕ) → List X → Type 0
MeetsLimit {X} o kept n more = (rest : List X) × (o ≡ Err (Limit, rest)) × (kept + length rest ≤ n + length more) × (length more < length rest)

-- n tokens are read as a value, or a limit is met at one of them
abbrev pub WholeOrLimit : {X A : Type 0} → Answer X A → (kept n : ℕ) → List X → A → ℕ → Type 0
WholeOrLimit o kept n more x left = (o ≡ Ok (x, left, more)) ⊎ MeetsLimit o kept n more

-- phrases before tokens that begin with none of the classes are read whole, or a limit is met
abbrev pub ReadsWhole : (W : Words) {A : Type 0} → Reader W.Token A → Relation W.Token A → List W.Class → Type 0
ReadsWhole W {A} r P cs =
    (kept budget : ℕ) (ts more : List W.Token) (x : A) (left : ℕ) → P kept budget ts x left → begins W cs more ≡ false → WholeOrLimit (r budget (ts ++ more))
    kept (length ts) more x left

-- the same of an equal answer
whole_along : {X A : Type 0} (kept n : ℕ) (more : List X) (x : A) (left : ℕ) (o p : Answer X A) → o ≡ p → WholeOrLimit p kept n more x left
    → WholeOrLimit o kept n more x left
whole_along kept n more x left o p same h = subst (λ q. WholeOrLimit q kept n more x left) (sym same) h

-- what follows a part begins with none of the classes that it goes on with
follows : {W : Words} (K : Classes W) {B : Type 0} (Q : Relation W.Token B) (o : Option B) (firsts cs ds : List W.Class) → EmptyOnly Q o → BeginsIn W Q firsts
    → all_apart K cs firsts ≡ true
    → (kept budget : ℕ) (ts more : List W.Token) (y : B) (left : ℕ) → Q kept budget ts y left → begins W (ds ++ where_some o (λ _. cs)) more ≡ false
    → begins W cs (ts ++ more) ≡ false
follows {W} K Q o firsts cs ds only h apart kept budget [] more y left q none =
    let (no_ds, rest) = begins_none W ds (where_some o (λ _. cs)) more none in
    subst (λ p. begins W (where_some p (λ _. cs)) more ≡ false) (only kept budget y left q) rest
follows {W} K Q o firsts cs ds only h apart kept budget (t ∷ ts) more y left q none = none_of_both K cs firsts t apart (h kept budget t ts y left q)

whole_turns : (W : Words) {A B : Type 0} (r : Reader W.Token A) (s : A → Reader W.Token B) (P : Relation W.Token A) (Q : A → Relation W.Token B) (cs ds : List W.Class)
    → ReadsWhole W r P cs → ((x : A) → ReadsWhole W (s x) (Q x) ds)
    → ((x : A) (kept budget : ℕ) (ts more : List W.Token) (y : B) (left : ℕ) → Q x kept budget ts y left → begins W ds more ≡ false → begins W cs (ts ++ more) ≡ false)
    → ReadsWhole W (read_in_turn r s) (InTurn P Q) ds
whole_turns W {A} {B} r s P Q cs ds h k follow kept budget ts more z left turn none =
    let at : ts ++ more ≡ turn.front ++ (turn.back ++ more) = ap (λ a. a ++ more) turn.joined ∙ append_assoc turn.front turn.back more in
    let size : length ts ≡ length turn.front + length turn.back = ap length turn.joined ∙ length-append turn.front turn.back in
    let rest_size : length (turn.back ++ more) ≡ length turn.back + length more = length-append turn.back more in
    whole_along kept (length ts) more z left (read_in_turn r s budget (ts ++ more)) (read_in_turn r s budget (turn.front ++ (turn.back ++ more)))
    (ap (read_in_turn r s budget) at)
    (elim (h kept budget turn.front (turn.back ++ more) z.0 turn.between turn.first (follow z.0 (kept - length turn.front) turn.between turn.back more z.1 left turn.second none)) [
      | inl read_x ↦ elim (k z.0 (kept - length turn.front) turn.between turn.back more z.1 left turn.second none) [
        | inl read_y ↦ inl (in_turn_of r s budget (turn.front ++ (turn.back ++ more)) (z.0, turn.between, turn.back ++ more) (Ok (z.1, left, more)) read_x read_y)
        | inr (rest, refused, within, inside) ↦ inr (rest, in_turn_of r s budget (turn.front ++ (turn.back ++ more)) (z.0, turn.between, turn.back ++ more) (Err (Limit, rest)) read_x refused, omega arith, inside)
      ]
      | inr (rest, refused, within, inside) ↦ inr (rest, in_turn_refused r s budget (turn.front ++ (turn.back ++ more)) (Limit, rest) refused, omega arith, omega arith)
    ])

whole_chosen : (W : Words) {A : Type 0} (b : Bool) (r s : Reader W.Token A) (P Q : Relation W.Token A) (cs : List W.Class) → ReadsWhole W r P cs
    → ReadsWhole W s Q cs → ReadsWhole W (λ left rest. choose b (λ _. r left rest) (λ _. s left rest)) (Chosen b P Q) cs
whole_chosen W true r s P Q cs h k kept budget ts more x left p none = h kept budget ts more x left p none
whole_chosen W false r s P Q cs h k kept budget ts more x left p none = k kept budget ts more x left p none

follows_chosen : (W : Words) {A : Type 0} (b : Bool) (P Q : Relation W.Token A) (cs ds : List W.Class)
    → ((kept budget : ℕ) (ts more : List W.Token) (x : A) (left : ℕ) → P kept budget ts x left → begins W ds more ≡ false → begins W cs (ts ++ more) ≡ false)
    → ((kept budget : ℕ) (ts more : List W.Token) (x : A) (left : ℕ) → Q kept budget ts x left → begins W ds more ≡ false → begins W cs (ts ++ more) ≡ false)
    → (kept budget : ℕ) (ts more : List W.Token) (x : A) (left : ℕ) → Chosen b P Q kept budget ts x left → begins W ds more ≡ false → begins W cs (ts ++ more) ≡ false
follows_chosen W true P Q cs ds h k kept budget ts more x left p none = h kept budget ts more x left p none
follows_chosen W false P Q cs ds h k kept budget ts more x left p none = k kept budget ts more x left p none

-- fewer classes ask for less
whole_less : (W : Words) {A : Type 0} (r : Reader W.Token A) (P : Relation W.Token A) (cs ds : List W.Class)
    → ((more : List W.Token) → begins W ds more ≡ false → begins W cs more ≡ false) → ReadsWhole W r P cs → ReadsWhole W r P ds
whole_less W r P cs ds less h kept budget ts more x left p none = h kept budget ts more x left p (less more none)

-- a phrase with tokens begins so
begins_so : (W : Words) {A : Type 0} (P : Relation W.Token A) (cs : List W.Class) → NeverEmpty P → BeginsIn W P cs
    → (kept budget : ℕ) (ts more : List W.Token) (x : A) (left : ℕ) → P kept budget ts x left → begins W cs (ts ++ more) ≡ true
begins_so W P cs never h kept budget [] more x left p = absurd (never kept budget x left p)
begins_so W P cs never h kept budget (t ∷ ts) more x left p = h kept budget t ts x left p

whole_token : {X A : Type 0} (is : X → Bool) (cost : ℕ) (go : X → Reader X A) (kept budget : ℕ) (ts more : List X) (x : A) (left : ℕ) (t : X) (us : List X)
    → ts ≡ t ∷ us → is t ≡ true → (0 < kept → cost ≤ budget)
    → WholeOrLimit (go t (budget - cost) (us ++ more)) kept (length ts) more x left
    → WholeOrLimit (read_token is cost go budget (ts ++ more)) kept (length ts) more x left
whole_token {X} is cost go kept budget ts more x left t us joined fits affordable h =
    let size : length ts ≡ suc (length us) = ap length joined in
    let rest_size : length (us ++ more) ≡ length us + length more = length-append us more in
    let begun = ap (λ a. read_token is cost go budget (a ++ more)) joined ∙ choose_first (is t) _ _ fits in
    whole_along kept (length ts) more x left _ _ begun (elim (is_true_or_false (nat_le cost budget)) [
      | inl enough ↦ whole_along kept (length ts) more x left _ _ (choose_first (nat_le cost budget) _ _ enough) h
      | inr too_dear ↦ let dear : budget < cost = leb-false _ _ too_dear in let passed : kept ≡ 0 = none_kept kept affordable (λ h. omega arith) in inr (t ∷ (us ++ more), choose_second (nat_le cost budget) _ _ too_dear, omega arith, omega arith)
    ])

-- no member comes, and no more are read
pub members_end : (W : Words) {A : Type 0} (lead : Option W.Class) (firsts : List W.Class) (r : Reader W.Token A) (n : ℕ) (room : Option ℕ) (budget : ℕ) (ts : List W.Token)
    → begins W (openers lead firsts) ts ≡ false
    → read_members W lead firsts r n room budget ts ≡ Ok ([], budget, ts)
members_end W lead firsts r zero room budget ts none = refl
members_end W lead firsts r (suc n) room budget ts none = choose_second (begins W (openers lead firsts) ts) _ _ none

behind_lead : (W : Words) (lead : Option W.Class) (l us : List W.Token) → IsLead W.is_of lead l → behind lead (l ++ us) ≡ us
behind_lead W None l us leads = ap (λ a. a ++ us) leads
behind_lead W (Some c) l us (t, same, fits) = ap (λ a. behind (Some c) (a ++ us)) same

comes_so : (W : Words) (lead : Option W.Class) (firsts : List W.Class) (l us : List W.Token) → IsLead W.is_of lead l → begins W firsts us ≡ true
    → begins W (openers lead firsts) (l ++ us) ≡ true
comes_so W None firsts l us leads begun = ap (λ a. begins W firsts (a ++ us)) leads ∙ begun
comes_so W (Some c) firsts l us (t, same, fits) begun = ap (λ a. begins W (c ∷ []) (a ++ us)) same ∙ one_among W c t fits

mapped_twice : {X A : Type 0} (o : Answer X (List A)) (x : A) → mapped (λ (z : A × List A). z.0 ∷ z.1) (mapped (λ y. (x, y)) o) ≡ mapped (λ xs. x ∷ xs) o
mapped_twice (Ok y) x = refl
mapped_twice (Err f) x = refl

-- a member came and was read, and this is what stands behind it
pub more_of : (W : Words) {A : Type 0} (lead : Option W.Class) (firsts : List W.Class) (r : Reader W.Token A) (room : Bool) (more : Reader W.Token (List A))
    (budget : ℕ) (ts us : List W.Token) (x : Found W.Token A) (o : Answer W.Token (List A))
    → begins W (openers lead firsts) ts ≡ true → behind lead ts ≡ us → room ≡ true → r budget us ≡ Ok x → more x.1 x.2 ≡ o
    → read_more W lead firsts r room more budget ts ≡ mapped (λ xs. x.0 ∷ xs) o
more_of W {A} lead firsts r room more budget ts us x o comes same has reads rest =
    let join : Answer W.Token (A × List A) → Answer W.Token (List A) = mapped (λ z. z.0 ∷ z.1) in
    let m : Reader W.Token A = read_member room (begins W firsts) r in
    choose_first (begins W (openers lead firsts) ts) _ _ comes ∙ ap (λ a. join (read_in_turn m (λ _. more) budget a)) same
    ∙ ap join (in_turn_of m (λ _. more) budget us x o (ap (λ b. read_member b (begins W firsts) r budget us) has ∙ reads) rest) ∙ mapped_twice o x.0

-- a member came and was refused
pub more_refused : (W : Words) {A : Type 0} (lead : Option W.Class) (firsts : List W.Class) (r : Reader W.Token A) (room : Bool) (more : Reader W.Token (List A))
    (budget : ℕ) (ts us : List W.Token) (f : Refused W.Token)
    → begins W (openers lead firsts) ts ≡ true → behind lead ts ≡ us → read_member room (begins W firsts) r budget us ≡ Err f
    → read_more W lead firsts r room more budget ts ≡ Err f
more_refused W {A} lead firsts r room more budget ts us f comes same refused =
    let join : Answer W.Token (A × List A) → Answer W.Token (List A) = mapped (λ z. z.0 ∷ z.1) in
    choose_first (begins W (openers lead firsts) ts) _ _ comes ∙ ap (λ a. join (read_in_turn (read_member room (begins W firsts) r) (λ _. more) budget a)) same
    ∙ ap join (in_turn_refused (read_member room (begins W firsts) r) (λ _. more) budget us f refused)

member_reads : {X A : Type 0} (room : Bool) (is_begun : List X → Bool) (r : Reader X A) (budget : ℕ) (us : List X) → room ≡ true
    → read_member room is_begun r budget us ≡ r budget us
member_reads room is_begun r budget us has = ap (λ b. read_member b is_begun r budget us) has

pub member_beyond : {X A : Type 0} (room : Bool) (is_begun : List X → Bool) (r : Reader X A) (budget : ℕ) (us : List X) → room ≡ false → is_begun us ≡ true
    → read_member room is_begun r budget us ≡ Err (Limit, us)
member_beyond room is_begun r budget us full begun = ap (λ b. read_member b is_begun r budget us) full ∙ choose_first (is_begun us) _ _ begun

whole_members : {W : Words} (K : Classes W) {A : Type 0} (lead : Option W.Class) (firsts cs : List W.Class) (r : Reader W.Token A) (P : Relation W.Token A)
    → NeverEmpty P → BeginsIn W P firsts → ReadsWhole W r P cs → all_apart K cs (openers lead firsts) ≡ true
    → (xs : List A) (n : ℕ) (room : Option ℕ) (kept budget : ℕ) (ts more : List W.Token) (left : ℕ) → length ts + length more ≤ n
    → MembersOf W lead P room kept budget ts xs left → begins W (openers lead firsts ++ cs) more ≡ false
    → WholeOrLimit (read_members W lead firsts r n room budget (ts ++ more)) kept (length ts) more xs left
whole_members {W} K {A} lead firsts cs r P never h whole apart [] n room kept budget ts more left long p none =
    inl (ap (λ a. read_members W lead firsts r n room budget (a ++ more)) p.0
    ∙ members_end W lead firsts r n room budget more (begins_none W (openers lead firsts) cs more none).0 ∙ ap (λ l. Ok ([], l, more)) (sym p.1))
whole_members {W} K {A} lead firsts cs r P never h whole apart (x ∷ xs) zero room kept budget ts more left long p none =
    let (t, us, is_front) = member_front P never _ budget p.front x p.between p.member in
    let size : length ts ≡ length p.lead + length (p.front ++ p.back) = ap length p.joined ∙ length-append p.lead (p.front ++ p.back) in
    let some : length (p.front ++ p.back) ≡ length p.front + length p.back = length-append p.front p.back in
    let one_at_least : length p.front ≡ suc (length us) = ap length is_front in
    absurd (omega arith)
whole_members {W} K {A} lead firsts cs r P never h whole apart (x ∷ xs) (suc n) room kept budget ts more left long p none =
    let (t, us, is_front) = member_front P never _ budget p.front x p.between p.member in
    let size : length ts ≡ length p.lead + length (p.front ++ p.back) = ap length p.joined ∙ length-append p.lead (p.front ++ p.back) in
    let both_sizes : length (p.front ++ p.back) ≡ length p.front + length p.back = length-append p.front p.back in
    let one_at_least : length p.front ≡ suc (length us) = ap length is_front in
    let rest_size : length (p.back ++ more) ≡ length p.back + length more = length-append p.back more in
    let all_size : length (p.front ++ (p.back ++ more)) ≡ length p.front + length (p.back ++ more) = length-append p.front (p.back ++ more) in
    let at : ts ++ more ≡ p.lead ++ (p.front ++ (p.back ++ more)) = ap (λ a. a ++ more) p.joined ∙ append_assoc p.lead (p.front ++ p.back) more ∙ ap (λ a. p.lead ++ a) (append_assoc p.front p.back more) in
    let begun : begins W firsts (p.front ++ (p.back ++ more)) ≡ true = begins_so W P firsts never h _ budget p.front (p.back ++ more) x p.between p.member in
    let yes_comes : begins W (openers lead firsts) (p.lead ++ (p.front ++ (p.back ++ more))) ≡ true = comes_so W lead firsts p.lead _ p.leads begun in
    let same : behind lead (p.lead ++ (p.front ++ (p.back ++ more))) ≡ p.front ++ (p.back ++ more) = behind_lead W lead p.lead _ p.leads in
    let rest : Reader W.Token (List A) = λ l us'. read_members W lead firsts r n (less_one room) l us' in
    let after : begins W cs (p.back ++ more) ≡ false = follows K (MembersOf W lead P (less_one room)) (Some []) (openers lead firsts) cs (openers lead firsts) (empty_members W lead P (less_one room) never) (first_members W lead P firsts (less_one room) never h) apart _ p.between p.back more xs left p.rest none in
    whole_along kept (length ts) more (x ∷ xs) left (read_members W lead firsts r (suc n) room budget (ts ++ more))
    (read_members W lead firsts r (suc n) room budget (p.lead ++ (p.front ++ (p.back ++ more))))
    (ap (read_members W lead firsts r (suc n) room budget) at)
    (elim (is_true_or_false (has_room room)) [
      | inl has ↦ elim (whole (kept - length p.lead) budget p.front (p.back ++ more) x p.between p.member after) [
        | inl reads ↦ elim (whole_members K lead firsts cs r P never h whole apart xs n (less_one room) (kept - length p.lead - length p.front) p.between p.back more left (omega arith) p.rest none) [
          | inl reads_rest ↦ inl (more_of W lead firsts r (has_room room) rest budget _ _ (x, p.between, p.back ++ more) (Ok (xs, left, more)) yes_comes same has reads reads_rest)
          | inr (us', refused, within, inside) ↦ inr (us', more_of W lead firsts r (has_room room) rest budget _ _ (x, p.between, p.back ++ more) (Err (Limit, us')) yes_comes same has reads refused, omega arith, inside)
        ]
        | inr (us', refused, within, inside) ↦ inr (us', more_refused W lead firsts r (has_room room) rest budget _ _ (Limit, us') yes_comes same (member_reads (has_room room) (begins W firsts) r budget _ has ∙ refused), omega arith, omega arith)
      ]
      | inr full ↦
          let passed : kept - length p.lead ≡ 0 = none_kept (kept - length p.lead) p.in_limit (λ e. not_both (has_room room) e full) in
          inr (p.front ++ (p.back ++ more), more_refused W lead firsts r (has_room room) rest budget _ _ (Limit, p.front ++ (p.back ++ more)) yes_comes same (member_beyond (has_room room) (begins W firsts) r budget _ full begun), omega arith, omega arith)
    ])

-- behind the token that opens a level, phrases of a sort are read whole, or a limit is met at one of the tokens
abbrev pub DeeperWhole : (W : Words) → (W.Sort → List W.Class) → ((sort : W.Sort) → W.Token → Reader W.Token (W.Tree sort))
    → ((sort : W.Sort) → Relation W.Token (W.Tree sort)) → Type 0
DeeperWhole W ends deeper Inner =
    (sort : W.Sort) (t : W.Token) (kept budget : ℕ) (ts more : List W.Token) (x : W.Tree sort) (left : ℕ) → Inner sort kept budget ts x left → begins W
    (ends sort) more ≡ false
    → WholeOrLimit (deeper sort t budget (ts ++ more)) kept (suc (length ts)) more x left

whole_map : {X A B : Type 0} (f : A → B) (o : Answer X A) (kept n : ℕ) (more : List X) (x : A) (left : ℕ) → WholeOrLimit o kept n more x left
    → WholeOrLimit (mapped f o) kept n more (f x) left
whole_map f o kept n more x left h =
    elim h [ inl reads ↦ inl (ap (mapped f) reads) | inr (rest, refused, within, inside) ↦ inr (rest, ap (mapped f) refused, within, inside) ]

whole_budget : {X A : Type 0} (budget : ℕ) (o : Answer X A) (kept n : ℕ) (more : List X) (x : A) (left : ℕ) → WholeOrLimit o kept n more x left
    → WholeOrLimit (with_budget budget o) kept n more x budget
whole_budget budget o kept n more x left h =
    elim h [ inl reads ↦ inl (ap (with_budget budget) reads) | inr (rest, refused, within, inside) ↦ inr (rest, ap (with_budget budget) refused, within, inside) ]

pub whole_in : {W : Words} (K : Classes W) (ends : W.Sort → List W.Class) (deeper : (sort : W.Sort) → W.Token → Reader W.Token (W.Tree sort))
    (Inner : (sort : W.Sort) → Relation W.Token (W.Tree sort))
    → DeeperWhole W ends deeper Inner
    → {A : Type 0} (g : Grammar W A) → decides K ends g ≡ true → ReadsWhole W (read_in deeper g) (PhraseIn Inner g) (goes_on ends g)
whole_in {W} K ends deeper Inner inner (one {A = A} cost c f) d kept budget ts more x left p none =
    let found : ◌≡◌ {A = Answer W.Token A} (Ok (f p.token, budget - cost, more)) (Ok (x, left, more)) = ap₂ {C = Answer W.Token A} (λ y l. Ok (y, l, more)) (sym p.value_is) (sym p.left_is) in
    whole_token (W.is_of c) cost (λ t l rest. Ok (f t, l, rest)) kept budget ts more x left p.token [] p.alone p.fits p.affordable (inl found)
whole_in {W} K ends deeper Inner inner (nothing {A = A} v) d kept budget ts more x left p none =
    let found : ◌≡◌ {A = Answer W.Token A} (Ok (v, budget, more)) (Ok (x, left, more)) = ap₂ {C = Answer W.Token A} (λ y l. Ok (y, l, more)) (sym p.1) (sym p.2) in
    inl (ap {B = Answer W.Token A} (λ a. Ok (v, budget, a ++ more)) p.0 ∙ found)
whole_in {W} K ends deeper Inner inner (both g h) d kept budget ts more x left p none =
    let (parts, apart) = both_hold _ _ d in let (dg, dh) = both_hold _ _ parts in
    whole_turns W (read_in deeper g) (λ _. read_in deeper h) (PhraseIn Inner g) (λ _. PhraseIn Inner h) (goes_on ends g) (goes_on ends (both g h))
    (whole_in K ends deeper Inner inner g dg)
    (λ _. whole_less W (read_in deeper h) (PhraseIn Inner h) (goes_on ends h) (goes_on ends (both g h)) (λ m e. (begins_none W (goes_on ends h) (where_some (empty_of h) (λ _. goes_on ends g)) m e).0) (whole_in K ends deeper Inner inner h dh))
    (λ _ kept' budget' ts' more' y left'. follows K (PhraseIn Inner h) (empty_of h) (first_of h) (goes_on ends g) (goes_on ends h) (empty_only K ends Inner h dh) (first_is K ends Inner h dh) apart kept' budget' ts' more' y left')
    kept budget ts more x left p none
whole_in {W} K ends deeper Inner inner (fork g test h i) d kept budget ts more x left p none =
    let (parts, aparts) = both_hold _ _ d in let (dg, ds) = both_hold _ _ parts in let (dh, di) = both_hold _ _ ds in let (apart_h, apart_i) = both_hold _ _ aparts in
    let cs : List W.Class = goes_on ends h ++ where_some (empty_of h) (λ _. goes_on ends g) in
    let ds : List W.Class = goes_on ends i ++ where_some (empty_of i) (λ _. goes_on ends g) in
    whole_turns W (read_in deeper g) (λ y left' rest'. choose (test y) (λ _. read_in deeper h left' rest') (λ _. read_in deeper i left' rest'))
    (PhraseIn Inner g) (λ y. Chosen (test y) (PhraseIn Inner h) (PhraseIn Inner i)) (goes_on ends g) (cs ++ ds) (whole_in K ends deeper Inner inner g dg)
    (λ y. whole_chosen W (test y) (read_in deeper h) (read_in deeper i) (PhraseIn Inner h) (PhraseIn Inner i) (cs ++ ds)
    (whole_less W (read_in deeper h) (PhraseIn Inner h) (goes_on ends h) (cs ++ ds) (λ m e. (begins_none W (goes_on ends h) _ m (begins_none W cs ds m e).0).0) (whole_in K ends deeper Inner inner h dh))
    (whole_less W (read_in deeper i) (PhraseIn Inner i) (goes_on ends i) (cs ++ ds) (λ m e. (begins_none W (goes_on ends i) _ m (begins_none W cs ds m e).1).0) (whole_in K ends deeper Inner inner i di)))
    (λ y. follows_chosen W (test y) (PhraseIn Inner h) (PhraseIn Inner i) (goes_on ends g) (cs ++ ds)
    (λ kept' budget' ts' more' z left' q e. follows K (PhraseIn Inner h) (empty_of h) (first_of h) (goes_on ends g) (goes_on ends h) (empty_only K ends Inner h dh) (first_is K ends Inner h dh) apart_h kept' budget' ts' more' z left' q (begins_none W cs ds more' e).0)
    (λ kept' budget' ts' more' z left' q e. follows K (PhraseIn Inner i) (empty_of i) (first_of i) (goes_on ends g) (goes_on ends i) (empty_only K ends Inner i di) (first_is K ends Inner i di) apart_i kept' budget' ts' more' z left' q (begins_none W cs ds more' e).1))
    kept budget ts more x left p none
whole_in {W} K ends deeper Inner inner (either g h) d kept budget ts more x left p none =
    let (parts, rest) = both_hold _ _ d in let (dg, dh) = both_hold _ _ parts in let (no_empty, apart) = both_hold _ _ rest in
    let (no_g, no_rest) = begins_none W (goes_on ends g) (goes_on ends h ++ where_some (empty_of h) (λ _. first_of g)) more none in
    elim p [
      | inl q ↦ whole_along kept (length ts) more x left (read_in deeper (either g h) budget (ts ++ more)) (read_in deeper g budget (ts ++ more))
          (choose_first (begins W (first_of g) (ts ++ more)) _ _ (begins_so W (PhraseIn Inner g) (first_of g) (never_empty (PhraseIn Inner g) (empty_of g) (empty_only K ends Inner g dg) no_empty) (first_is K ends Inner g dg) kept budget ts more x left q))
          (whole_in K ends deeper Inner inner g dg kept budget ts more x left q no_g)
      | inr q ↦ whole_along kept (length ts) more x left (read_in deeper (either g h) budget (ts ++ more)) (read_in deeper h budget (ts ++ more))
          (choose_second (begins W (first_of g) (ts ++ more)) _ _ (follows K (PhraseIn Inner h) (empty_of h) (first_of h) (first_of g) (goes_on ends h) (empty_only K ends Inner h dh) (first_is K ends Inner h dh) apart kept budget ts more x left q no_rest))
          (whole_in K ends deeper Inner inner h dh kept budget ts more x left q (begins_none W (goes_on ends h) (where_some (empty_of h) (λ _. first_of g)) more no_rest).0)
    ]
whole_in {W} K ends deeper Inner inner (many limit lead g) d kept budget ts more x left p none =
    let (dg, rest) = both_hold _ _ d in let (no_empty, apart) = both_hold _ _ rest in
    whole_members K lead (first_of g) (goes_on ends g) (read_in deeper g) (PhraseIn Inner g)
    (never_empty (PhraseIn Inner g) (empty_of g) (empty_only K ends Inner g dg) no_empty) (first_is K ends Inner g dg)
    (whole_in K ends deeper Inner inner g dg) apart
    x (length (ts ++ more)) limit kept budget ts more left (omega (arith, length-append ts more)) p none
whole_in {W} K ends deeper Inner inner (as_ f g) d kept budget ts more x left (y, p, same) none =
    subst (λ z. WholeOrLimit (read_in deeper (as_ f g) budget (ts ++ more)) kept (length ts) more z left) (sym same)
    (whole_map f (read_in deeper g budget (ts ++ more)) kept (length ts) more y left (whole_in K ends deeper Inner inner g d kept budget ts more y left p none))
whole_in {W} K ends deeper Inner inner (down cost c sort) d kept budget ts more x left p none =
    let size : length ts ≡ suc (length p.inner) = ap length p.joined in
    whole_token (W.is_of c) cost (deeper sort) kept budget ts more x left p.token p.inner p.joined p.fits p.affordable
    (subst (λ n. WholeOrLimit (deeper sort p.token (budget - cost) (p.inner ++ more)) kept n more x left) (sym size) (inner sort p.token kept (budget - cost) p.inner more x left p.part none))
whole_in {W} K ends deeper Inner inner (afresh own g) d kept budget ts more x left (rest, p, same) none =
    subst (λ l. WholeOrLimit (read_in deeper (afresh own g) budget (ts ++ more)) kept (length ts) more x l) (sym same)
    (whole_budget budget (read_in deeper g own (ts ++ more)) kept (length ts) more x rest (whole_in K ends deeper Inner inner g d kept own ts more x rest p none))

pub whole_deeper : {W : Words} (K : Classes W) (rules : Rules W) (ends : W.Sort → List W.Class) → ((sort : W.Sort) → decides K ends (rules sort) ≡ true)
    → ((sort : W.Sort) → all_in K (goes_on ends (rules sort)) (ends sort) ≡ true)
    → (spare levels : ℕ) → DeeperWhole W ends (read_deeper rules levels) (Deeper rules spare levels)
whole_deeper K rules ends d i zero zero sort t kept budget ts more x left p none = absurd p
whole_deeper K rules ends d i (suc spare) zero sort t kept budget ts more x left p none =
    let size : length (ts ++ more) ≡ length ts + length more = length-append ts more in
    inr (t ∷ (ts ++ more), refl, (let passed : kept ≡ 0 = p.0 in omega arith), omega arith)
whole_deeper {W} K rules ends d i spare (suc levels) sort t kept budget ts more x left p none =
    elim (whole_in K ends (read_deeper rules levels) (Deeper rules spare levels) (whole_deeper K rules ends d i spare levels) (rules sort) (d sort) (kept - 1) budget ts more x left p (begins_none_in K (goes_on ends (rules sort)) (ends sort) more (i sort) none)) [
      | inl reads ↦ inl reads
      | inr (rest, refused, within, inside) ↦ inr (rest, refused, omega arith, inside)
    ]
