-- An answer hangs on no token behind the first of its rest.
use Rattle.std.proofs.Common.{◌≡◌, inl, inr, refl, sym, ◌∙◌, ap, append_assoc, length-append, arith, ℕ, zero, suc, ◌+◌, ◌-◌, ◌<◌, ◌≤◌, le_refl, nat_le, Bool, true, false, List, [], ◌∷◌, ◌++◌, Option, Some, None, Result, Ok, Err, length}
use Rattle.std.proofs.lemmas.List.{append_cancel_right}
use Rattle.grammar_laws.specs.Grammars.{Words, Grammar, Rules, one, nothing, both, fork, either, many, as_, down, afresh}
use Rattle.grammar_laws.specs.Phrases.{Relation, has_room, less_one, PhraseIn, Deeper}
use Rattle.grammar_laws.specs.Prediction.{Classes, begins, openers, empty_of, first_of, decides, has_flat}
use Rattle.grammar_laws.specs.Reading.{Found, Refusal, Syntax, Limit, Answer, Reader, and_then, mapped, with_budget, choose, read_token, read_in_turn, read_member, read_next, read_more, read_members, behind, read_in, read_deeper, read}
use Rattle.grammar_laws.proofs.ClassLemmas.{both_hold}
use Rattle.grammar_laws.proofs.Sound.{IsSound, sound_in, sound_deeper}
use Rattle.grammar_laws.proofs.Steps.{ok_is, err_is, chosen_one, choose_first, choose_second, in_turn_ok, in_turn_err, in_turn_of, in_turn_refused, mapped_ok, mapped_err, with_budget_ok, with_budget_err, member_ok}
use Rattle.grammar_laws.proofs.Firsts.{NeverEmpty, never_empty, empty_only, member_front}
use Rattle.grammar_laws.proofs.Refused.{IsRefused, refused_in, refused_deeper, sample_deeper}

-- an outcome with the tokens behind it
abbrev pub placed : {X A : Type 0} → Result (A × ℕ) Refusal → List X → Answer X A
placed (Ok x) rest = Ok (x.0, x.1, rest)
placed (Err kind) rest = Err (kind, rest)

-- tokens behind one that the answer leaves in its rest may be others
abbrev pub IsLocal : {X A : Type 0} → Reader X A → Type 0
IsLocal {X} {A} r =
    (o : Result (A × ℕ) Refusal) (budget : ℕ) (a b : List X) (t : X) (us vs : List X) → r budget (a ++ (t ∷ us)) ≡ placed o (b ++ (t ∷ us)) → r budget
    (a ++ (t ∷ vs)) ≡ placed o (b ++ (t ∷ vs))

-- the rest stands at the end of the tokens
abbrev pub LeavesRest : {X A : Type 0} → Reader X A → Type 0
LeavesRest {X} {A} r = (o : Result (A × ℕ) Refusal) (budget : ℕ) (ts rest : List X) → r budget ts ≡ placed o rest → (front : List X) × (ts ≡ front ++ rest)

pub leaves_rest : {X A : Type 0} (r : Reader X A) (P : Relation X A) (C : Type 0) → IsSound r P → IsRefused r P C → LeavesRest r
leaves_rest r P C h k (Ok x) budget ts rest e = let (front, joined, p) = h budget ts (x.0, x.1, rest) e in (front, joined)
leaves_rest r P C h k (Err kind) budget ts rest e = let (front, joined, p) = k budget ts (kind, rest) e in (front, joined)

local_turns : {X A B : Type 0} (r : Reader X A) (s : A → Reader X B) → IsLocal r → ((x : A) → IsLocal (s x)) → ((x : A) → LeavesRest (s x)) → IsLocal (read_in_turn r s)
local_turns {X} {A} {B} r s h k leaves (Ok z) budget a b t us vs e =
    let (x, y, reads_x, reads_y, same) = in_turn_ok r s budget (a ++ (t ∷ us)) (z.0, z.1, b ++ (t ∷ us)) e in
    let rest_is : y.2 ≡ b ++ (t ∷ us) = ap (λ w. w.2) same in
    let reads_rest : s x.0 x.1 x.2 ≡ Ok (y.0, y.1, b ++ (t ∷ us)) = reads_y ∙ ap {B = Answer X B} (λ w. Ok (y.0, y.1, w)) rest_is in
    let (c, joined) = leaves x.0 (Ok (y.0, y.1)) x.1 x.2 (b ++ (t ∷ us)) reads_rest in
    let regrouped : x.2 ≡ (c ++ b) ++ (t ∷ us) = joined ∙ sym (append_assoc c b (t ∷ us)) in
    let first : r budget (a ++ (t ∷ vs)) ≡ Ok (x.0, x.1, (c ++ b) ++ (t ∷ vs)) = h (Ok (x.0, x.1)) budget a (c ++ b) t us vs (reads_x ∙ ap {B = Answer X A} (λ w. Ok (x.0, x.1, w)) regrouped) in
    let second : s x.0 x.1 ((c ++ b) ++ (t ∷ vs)) ≡ Ok (y.0, y.1, b ++ (t ∷ vs)) = k x.0 (Ok (y.0, y.1)) x.1 (c ++ b) b t us vs (ap (s x.0 x.1) (sym regrouped) ∙ reads_rest) in
    in_turn_of r s budget (a ++ (t ∷ vs)) (x.0, x.1, (c ++ b) ++ (t ∷ vs)) (Ok (y.0, y.1, b ++ (t ∷ vs))) first second ∙ ap {B = Answer X (A × B)} (λ w. Ok (w.0, w.1, b ++ (t ∷ vs))) same
local_turns {X} {A} {B} r s h k leaves (Err kind) budget a b t us vs e = elim (in_turn_err r s budget (a ++ (t ∷ us)) (kind, b ++ (t ∷ us)) e) [
  | inl refused ↦ in_turn_refused r s budget (a ++ (t ∷ vs)) (kind, b ++ (t ∷ vs)) (h (Err kind) budget a b t us vs refused)
  | inr (x, reads_x, refused) ↦
      let (c, joined) = leaves x.0 (Err kind) x.1 x.2 (b ++ (t ∷ us)) refused in
      let regrouped : x.2 ≡ (c ++ b) ++ (t ∷ us) = joined ∙ sym (append_assoc c b (t ∷ us)) in
      let first : r budget (a ++ (t ∷ vs)) ≡ Ok (x.0, x.1, (c ++ b) ++ (t ∷ vs)) = h (Ok (x.0, x.1)) budget a (c ++ b) t us vs (reads_x ∙ ap {B = Answer X A} (λ w. Ok (x.0, x.1, w)) regrouped) in
      let second : s x.0 x.1 ((c ++ b) ++ (t ∷ vs)) ≡ Err (kind, b ++ (t ∷ vs)) = k x.0 (Err kind) x.1 (c ++ b) b t us vs (ap (s x.0 x.1) (sym regrouped) ∙ refused) in
      in_turn_of r s budget (a ++ (t ∷ vs)) (x.0, x.1, (c ++ b) ++ (t ∷ vs)) (Err (kind, b ++ (t ∷ vs))) first second
]

local_mapped : {X A B : Type 0} (f : A → B) (r : Reader X A) → IsLocal r → IsLocal (λ budget ts. mapped f (r budget ts))
local_mapped {X} {A} {B} f r h (Ok z) budget a b t us vs e =
    let (x, reads, same) = mapped_ok f (r budget (a ++ (t ∷ us))) (z.0, z.1, b ++ (t ∷ us)) e in
    let rest_is : x.2 ≡ b ++ (t ∷ us) = ap (λ w. w.2) same in
    ap (mapped f) (h (Ok (x.0, x.1)) budget a b t us vs (reads ∙ ap {B = Answer X A} (λ w. Ok (x.0, x.1, w)) rest_is)) ∙ ap {B = Answer X B} (λ w. Ok (w.0, w.1, b ++ (t ∷ vs))) same
local_mapped f r h (Err kind) budget a b t us vs e = ap (mapped f) (h (Err kind) budget a b t us vs (mapped_err f (r budget (a ++ (t ∷ us))) (kind, b ++ (t ∷ us)) e))

local_budget : {X A : Type 0} (own : ℕ) (r : Reader X A) → IsLocal r → IsLocal (λ budget ts. with_budget budget (r own ts))
local_budget {X} {A} own r h (Ok z) budget a b t us vs e =
    let (x, reads, same) = with_budget_ok budget (r own (a ++ (t ∷ us))) (z.0, z.1, b ++ (t ∷ us)) e in
    let rest_is : x.2 ≡ b ++ (t ∷ us) = ap (λ w. w.2) same in
    ap (with_budget budget) (h (Ok (x.0, x.1)) own a b t us vs (reads ∙ ap {B = Answer X A} (λ w. Ok (x.0, x.1, w)) rest_is)) ∙ ap {B = Answer X A} (λ w. Ok (w.0, w.1, b ++ (t ∷ vs))) same
local_budget own r h (Err kind) budget a b t us vs e =
    ap (with_budget budget) (h (Err kind) own a b t us vs (with_budget_err budget (r own (a ++ (t ∷ us))) (kind, b ++ (t ∷ us)) e))

-- a rest does not stand behind its own first token
shorter : {X : Type 0} (t : X) (us a b : List X) → us ≡ a ++ (b ++ (t ∷ us)) → ⊥
shorter t us a b e =
    let size : length us ≡ length a + length (b ++ (t ∷ us)) = ap length e ∙ length-append a (b ++ (t ∷ us)) in
    let inner : length (b ++ (t ∷ us)) ≡ length b + suc (length us) = length-append b (t ∷ us) in
    omega arith

found_here : {X A : Type 0} (o : Result (A × ℕ) Refusal) (x : A) (left : ℕ) (a b : List X) (t : X) (us vs : List X)
    → ◌≡◌ {A = Answer X A} (Ok (x, left, a ++ (t ∷ us))) (placed o (b ++ (t ∷ us)))
    → ◌≡◌ {A = Answer X A} (Ok (x, left, a ++ (t ∷ vs))) (placed o (b ++ (t ∷ vs)))
found_here {X} {A} (Ok z) x left a b t us vs e =
    let same : (x, left, a ++ (t ∷ us)) ≡ (z.0, z.1, b ++ (t ∷ us)) = ok_is _ _ e in
    let rest_is : a ≡ b = append_cancel_right a b (t ∷ us) (ap (λ w. w.2) same) in
    ap {B = Answer X A} (λ w. Ok (x, left, w ++ (t ∷ vs))) rest_is ∙ ap {B = Answer X A} (λ w. Ok (w.0, w.1, b ++ (t ∷ vs))) same
found_here (Err kind) x left a b t us vs e = absurd cc

refused_here : {X A : Type 0} (o : Result (A × ℕ) Refusal) (kind : Refusal) (a b : List X) (t : X) (us vs : List X)
    → ◌≡◌ {A = Answer X A} (Err (kind, a ++ (t ∷ us))) (placed o (b ++ (t ∷ us))) → ◌≡◌ {A = Answer X A} (Err (kind, a ++ (t ∷ vs))) (placed o (b ++ (t ∷ vs)))
refused_here (Ok z) kind a b t us vs e = absurd cc
refused_here {X} {A} (Err other) kind a b t us vs e =
    let same : (kind, a ++ (t ∷ us)) ≡ (other, b ++ (t ∷ us)) = err_is {A = A} _ _ e in
    let rest_is : a ≡ b = append_cancel_right a b (t ∷ us) (ap (λ w. w.1) same) in
    ap {B = Answer X A} (λ w. Err (kind, w ++ (t ∷ vs))) rest_is ∙ ap {B = Answer X A} (λ w. Err (w.0, b ++ (t ∷ vs))) same

leaves_found : {X A : Type 0} (value : A) → LeavesRest {X = X} (λ budget ts. Ok (value, budget, ts))
leaves_found value (Ok z) budget ts rest e = ([], ap (λ w. w.2) (ok_is _ _ e))
leaves_found value (Err kind) budget ts rest e = absurd cc

-- the same of a reader behind a token which the rest may begin with
abbrev pub IsLocalBehind : {X A : Type 0} → X → Reader X A → Type 0
IsLocalBehind {X} {A} t r = (o : Result (A × ℕ) Refusal) (budget : ℕ) (b us vs : List X) → r budget us ≡ placed o (b ++ (t ∷ us)) → r budget vs ≡ placed o (b ++ (t ∷ vs))

behind_rest : {X A : Type 0} (t : X) (r : Reader X A) → LeavesRest r → IsLocalBehind t r
behind_rest t r leaves o budget b us vs e = absurd (let (front, joined) = leaves o budget us (b ++ (t ∷ us)) e in shorter t us front b joined)

local_token : {X A : Type 0} (is : X → Bool) (cost : ℕ) (go : X → Reader X A) → ((t : X) → IsLocal (go t)) → ((t : X) → IsLocalBehind t (go t))
    → IsLocal (read_token is cost go)
local_token is cost go h k o budget [] b t us vs e = elim (chosen_one (is t) _ _ _ e) [
  | inl (fits, e') ↦ choose_first (is t) _ _ fits ∙ elim (chosen_one (nat_le cost budget) _ _ _ e') [
    | inl (room, reads) ↦ choose_first (nat_le cost budget) _ _ room ∙ k t o (budget - cost) b us vs reads
    | inr (dear, refused) ↦ choose_second (nat_le cost budget) _ _ dear ∙ refused_here o Limit [] b t us vs refused
  ]
  | inr (other, refused) ↦ choose_second (is t) _ _ other ∙ refused_here o Syntax [] b t us vs refused
]
local_token is cost go h k o budget (c ∷ a) b t us vs e = elim (chosen_one (is c) _ _ _ e) [
  | inl (fits, e') ↦ choose_first (is c) _ _ fits ∙ elim (chosen_one (nat_le cost budget) _ _ _ e') [
    | inl (room, reads) ↦ choose_first (nat_le cost budget) _ _ room ∙ h c o (budget - cost) a b t us vs reads
    | inr (dear, refused) ↦ choose_second (nat_le cost budget) _ _ dear ∙ refused_here o Limit (c ∷ a) b t us vs refused
  ]
  | inr (other, refused) ↦ choose_second (is c) _ _ other ∙ refused_here o Syntax (c ∷ a) b t us vs refused
]

-- a test of the first token
abbrev pub LooksAhead : {X : Type 0} → (List X → Bool) → Type 0
LooksAhead {X} test = (a : List X) (t : X) (us vs : List X) → test (a ++ (t ∷ us)) ≡ test (a ++ (t ∷ vs))

begins_ahead : (W : Words) (cs : List W.Class) → LooksAhead (begins W cs)
begins_ahead W cs [] t us vs = refl
begins_ahead W cs (c ∷ a) t us vs = refl

local_choose : {X A : Type 0} (test : List X → Bool) (r s : Reader X A) → LooksAhead test → IsLocal r → IsLocal s
    → IsLocal (λ budget ts. choose (test ts) (λ _. r budget ts) (λ _. s budget ts))
local_choose test r s ahead h k o budget a b t us vs e = elim (chosen_one (test (a ++ (t ∷ us))) _ _ _ e) [
  | inl (passes, e') ↦ choose_first (test (a ++ (t ∷ vs))) _ _ (sym (ahead a t us vs) ∙ passes) ∙ h o budget a b t us vs e'
  | inr (fails, e') ↦ choose_second (test (a ++ (t ∷ vs))) _ _ (sym (ahead a t us vs) ∙ fails) ∙ k o budget a b t us vs e'
]

local_chosen : {X A : Type 0} (b : Bool) (r s : Reader X A) → IsLocal r → IsLocal s → IsLocal (λ left rest. choose b (λ _. r left rest) (λ _. s left rest))
local_chosen b r s h k = local_choose (λ _. b) r s (λ _ _ _ _. refl) h k

local_member : {X A : Type 0} (room : Bool) (is_begun : List X → Bool) (r : Reader X A) → LooksAhead is_begun → IsLocal r → IsLocal (read_member room is_begun r)
local_member room is_begun r ahead h = local_chosen room r (λ budget ts. choose (is_begun ts) (λ _. Err (Limit, ts)) (λ _. Err (Syntax, ts))) h
    (local_choose is_begun (λ budget ts. Err (Limit, ts)) (λ budget ts. Err (Syntax, ts)) ahead (λ o budget a b t us vs. refused_here o Limit a b t us vs) (λ o budget a b t us vs. refused_here o Syntax a b t us vs))

behind_is : {X C : Type 0} (lead : Option C) (ts : List X) → (front : List X) × (ts ≡ front ++ behind lead ts)
behind_is None ts = ([], refl)
behind_is (Some c) [] = ([], refl)
behind_is (Some c) (t ∷ ts) = (t ∷ [], refl)

local_behind : {X C A : Type 0} (lead : Option C) (r : Reader X A) → IsLocal r → LeavesRest r → IsLocal (λ budget ts. r budget (behind lead ts))
local_behind None r h leaves o budget a b t us vs e = h o budget a b t us vs e
local_behind (Some c) r h leaves o budget [] b t us vs e = absurd (let (front, joined) = leaves o budget us (b ++ (t ∷ us)) e in shorter t us front b joined)
local_behind (Some c) r h leaves o budget (d ∷ a) b t us vs e = h o budget a b t us vs e

leaves_turns : {X A B : Type 0} (r : Reader X A) (s : A → Reader X B) → LeavesRest r → ((x : A) → LeavesRest (s x)) → LeavesRest (read_in_turn r s)
leaves_turns {X} {A} {B} r s h k (Ok z) budget ts rest e =
    let (x, y, reads_x, reads_y, same) = in_turn_ok r s budget ts (z.0, z.1, rest) e in
    let rest_is : y.2 ≡ rest = ap (λ w. w.2) same in
    let (a, joined_a) = h (Ok (x.0, x.1)) budget ts x.2 reads_x in
    let (b, joined_b) = k x.0 (Ok (y.0, y.1)) x.1 x.2 y.2 reads_y in
    (a ++ b, joined_a ∙ ap (λ us. a ++ us) (joined_b ∙ ap (λ us. b ++ us) rest_is) ∙ sym (append_assoc a b rest))
leaves_turns r s h k (Err kind) budget ts rest e = elim (in_turn_err r s budget ts (kind, rest) e) [
  | inl refused ↦ h (Err kind) budget ts rest refused
  | inr (x, reads_x, refused) ↦
      let (a, joined_a) = h (Ok (x.0, x.1)) budget ts x.2 reads_x in
      let (b, joined_b) = k x.0 (Err kind) x.1 x.2 rest refused in
      (a ++ b, joined_a ∙ ap (λ us. a ++ us) joined_b ∙ sym (append_assoc a b rest))
]

leaves_mapped : {X A B : Type 0} (f : A → B) (r : Reader X A) → LeavesRest r → LeavesRest (λ budget ts. mapped f (r budget ts))
leaves_mapped f r h (Ok z) budget ts rest e =
    let (x, reads, same) = mapped_ok f (r budget ts) (z.0, z.1, rest) e in
    let rest_is : x.2 ≡ rest = ap (λ w. w.2) same in
    let (a, joined) = h (Ok (x.0, x.1)) budget ts x.2 reads in
    (a, joined ∙ ap (λ us. a ++ us) rest_is)
leaves_mapped f r h (Err kind) budget ts rest e = h (Err kind) budget ts rest (mapped_err f (r budget ts) (kind, rest) e)

leaves_choose : {X A : Type 0} (test : List X → Bool) (r s : Reader X A) → LeavesRest r → LeavesRest s
    → LeavesRest (λ budget ts. choose (test ts) (λ _. r budget ts) (λ _. s budget ts))
leaves_choose test r s h k o budget ts rest e = elim (chosen_one (test ts) _ _ _ e) [ inl p ↦ h o budget ts rest p.1 | inr p ↦ k o budget ts rest p.1 ]

leaves_refused : {X A : Type 0} (kind : Refusal) → LeavesRest {X = X} {A = A} (λ budget ts. Err (kind, ts))
leaves_refused kind (Ok z) budget ts rest e = absurd cc
leaves_refused {X} {A} kind (Err other) budget ts rest e = ([], ap (λ w. w.1) (err_is {A = A} _ _ e))

leaves_member : {X A : Type 0} (room : Bool) (is_begun : List X → Bool) (r : Reader X A) → LeavesRest r → LeavesRest (read_member room is_begun r)
leaves_member room is_begun r h = leaves_choose (λ _. room) r (λ budget ts. choose (is_begun ts) (λ _. Err (Limit, ts)) (λ _. Err (Syntax, ts))) h
    (leaves_choose is_begun (λ budget ts. Err (Limit, ts)) (λ budget ts. Err (Syntax, ts)) (leaves_refused Limit) (leaves_refused Syntax))

leaves_behind : {X C A : Type 0} (lead : Option C) (r : Reader X A) → LeavesRest r → LeavesRest (λ budget ts. r budget (behind lead ts))
leaves_behind lead r h o budget ts rest e =
    let (l, joined_l) = behind_is lead ts in
    let (a, joined_a) = h o budget (behind lead ts) rest e in
    (l ++ a, joined_l ∙ ap (λ us. l ++ us) joined_a ∙ sym (append_assoc l a rest))

leaves_next : {X A : Type 0} (room : Bool) (is_begun : List X → Bool) (r : Reader X A) (more : Reader X (List A)) → LeavesRest r → LeavesRest more
    → LeavesRest (read_next room is_begun r more)
leaves_next room is_begun r more h k =
    leaves_mapped (λ z. z.0 ∷ z.1) (read_in_turn (read_member room is_begun r) (λ _. more))
    (leaves_turns (read_member room is_begun r) (λ _. more) (leaves_member room is_begun r h) (λ _. k))

local_next : {X A : Type 0} (room : Bool) (is_begun : List X → Bool) (r : Reader X A) (more : Reader X (List A)) → LooksAhead is_begun → IsLocal r
    → IsLocal more → LeavesRest more → IsLocal (read_next room is_begun r more)
local_next room is_begun r more ahead h k leaves =
    local_mapped (λ z. z.0 ∷ z.1) (read_in_turn (read_member room is_begun r) (λ _. more))
    (local_turns (read_member room is_begun r) (λ _. more) (local_member room is_begun r ahead h) (λ _. k) (λ _. leaves))

leaves_members : (W : Words) {A : Type 0} (lead : Option W.Class) (firsts : List W.Class) (r : Reader W.Token A) → LeavesRest r → (n : ℕ) (room : Option ℕ)
    → LeavesRest (read_members W lead firsts r n room)
leaves_members W lead firsts r h zero room = leaves_found []
leaves_members W lead firsts r h (suc n) room =
    leaves_choose (begins W (openers lead firsts))
    (λ budget ts. read_next (has_room room) (begins W firsts) r (read_members W lead firsts r n (less_one room)) budget (behind lead ts))
    (λ budget ts. Ok ([], budget, ts))
    (leaves_behind lead (read_next (has_room room) (begins W firsts) r (read_members W lead firsts r n (less_one room))) (leaves_next (has_room room) (begins W firsts) r (read_members W lead firsts r n (less_one room)) h (leaves_members W lead firsts r h n (less_one room))))
    (leaves_found [])

local_members : (W : Words) {A : Type 0} (lead : Option W.Class) (firsts : List W.Class) (r : Reader W.Token A) → IsLocal r → LeavesRest r
    → (n : ℕ) (room : Option ℕ) → IsLocal (read_members W lead firsts r n room)
local_members W lead firsts r h leaves zero room o budget a b t us vs e = found_here o [] budget a b t us vs e
local_members W lead firsts r h leaves (suc n) room o budget a b t us vs e =
    local_choose (begins W (openers lead firsts))
    (λ own ts. read_next (has_room room) (begins W firsts) r (read_members W lead firsts r n (less_one room)) own (behind lead ts))
    (λ own ts. Ok ([], own, ts)) (begins_ahead W (openers lead firsts))
    (local_behind lead (read_next (has_room room) (begins W firsts) r (read_members W lead firsts r n (less_one room)))
    (local_next (has_room room) (begins W firsts) r (read_members W lead firsts r n (less_one room)) (begins_ahead W firsts) h (local_members W lead firsts r h leaves n (less_one room)) (leaves_members W lead firsts r leaves n (less_one room)))
    (leaves_next (has_room room) (begins W firsts) r (read_members W lead firsts r n (less_one room)) leaves (leaves_members W lead firsts r leaves n (less_one room))))
    (λ o own a b t us vs. found_here o [] own a b t us vs) o budget a b t us vs e

-- each answer takes a token
abbrev pub ReadsOn : {X A : Type 0} → Reader X A → Type 0
ReadsOn {X} {A} r = (budget : ℕ) (ts : List X) (y : Found X A) → r budget ts ≡ Ok y → length y.2 < length ts

pub reads_on : {X A : Type 0} (r : Reader X A) (P : Relation X A) → IsSound r P → NeverEmpty P → ReadsOn r
reads_on r P h never budget ts y e =
    let (front, joined, p) = h budget ts y e in
    let (t, us, is_front) = member_front P never 0 budget front y.0 y.1 (p 0) in
    let size : length ts ≡ length front + length y.2 = ap length joined ∙ length-append front y.2 in
    let one_at_least : length front ≡ suc (length us) = ap length is_front in
    omega arith

same_behind : {X A B : Type 0} (o : Answer X A) (go next : A → Reader X B) → ((x : Found X A) → o ≡ Ok x → go x.0 x.1 x.2 ≡ next x.0 x.1 x.2)
    → and_then o go ≡ and_then o next
same_behind (Ok x) go next h = h x refl
same_behind (Err f) go next h = refl

same_first : {A : Type 0} (b : Bool) (f g h : Unit {0} → A) → f tt ≡ g tt → choose b f h ≡ choose b g h
same_first true f g h e = e
same_first false f g h e = refl

-- what reads more members is asked of fewer tokens alone
pub same_more : (W : Words) {A : Type 0} (lead : Option W.Class) (firsts : List W.Class) (r : Reader W.Token A) → ReadsOn r
    → (room : Bool) (more others : Reader W.Token (List A)) (budget : ℕ) (ts : List W.Token)
    → ((left : ℕ) (rest : List W.Token) → length rest < length ts → more left rest ≡ others left rest)
    → read_more W lead firsts r room more budget ts ≡ read_more W lead firsts r room others budget ts
same_more W {A} lead firsts r on room more others budget ts same =
    let member : Reader W.Token A = read_member room (begins W firsts) r in
    let (l, joined) = behind_is lead ts in
    let size : length ts ≡ length l + length (behind lead ts) = ap length joined ∙ length-append l (behind lead ts) in
    same_first (begins W (openers lead firsts) ts) (λ _. read_next room (begins W firsts) r more budget (behind lead ts))
    (λ _. read_next room (begins W firsts) r others budget (behind lead ts)) (λ _. Ok ([], budget, ts))
    (ap (mapped (λ (z : A × List A). z.0 ∷ z.1)) (same_behind (member budget (behind lead ts)) _ _ (λ x reads.
    let found : r budget (behind lead ts) ≡ Ok x = (member_ok room (begins W firsts) r budget (behind lead ts) x reads).1 in
    let fewer : length x.2 < length (behind lead ts) = on budget (behind lead ts) x found in
    ap (mapped (λ xs. (x.0, xs))) (same x.1 x.2 (omega arith)))))

-- any number of tokens that is enough gives the same members
pub enough_tokens : (W : Words) {A : Type 0} (lead : Option W.Class) (firsts : List W.Class) (r : Reader W.Token A) → ReadsOn r
    → (n m : ℕ) (room : Option ℕ) (budget : ℕ) (ts : List W.Token) → length ts ≤ n → length ts ≤ m
    → read_members W lead firsts r n room budget ts ≡ read_members W lead firsts r m room budget ts
enough_tokens W lead firsts r on zero zero room budget ts le me = refl
enough_tokens W lead firsts r on zero (suc m) room budget [] le me = refl
enough_tokens W lead firsts r on zero (suc m) room budget (t ∷ ts) le me = absurd (omega arith)
enough_tokens W lead firsts r on (suc n) zero room budget [] le me = refl
enough_tokens W lead firsts r on (suc n) zero room budget (t ∷ ts) le me = absurd (omega arith)
enough_tokens W {A} lead firsts r on (suc n) (suc m) room budget ts le me =
    same_more W lead firsts r on (has_room room) (read_members W lead firsts r n (less_one room)) (read_members W lead firsts r m (less_one room)) budget ts
    (λ left rest fewer. enough_tokens W lead firsts r on n m (less_one room) left rest (omega arith) (omega arith))

-- members are read in turn, each where the tokens are those that are left
pub members_in_turn : (W : Words) {A : Type 0} (lead : Option W.Class) (firsts : List W.Class) (r : Reader W.Token A) → ReadsOn r
    → (room : Option ℕ) (budget : ℕ) (ts : List W.Token)
    → read_members W lead firsts r (length ts) room budget ts ≡ read_more W lead firsts r (has_room room)
    (λ left rest. read_members W lead firsts r (length rest) (less_one room) left rest) budget ts
members_in_turn W lead firsts r on room budget ts =
    enough_tokens W lead firsts r on (length ts) (suc (length ts)) room budget ts (le_refl _) (omega arith)
    ∙ same_more W lead firsts r on (has_room room) (read_members W lead firsts r (length ts) (less_one room)) (λ left rest. read_members W lead firsts r (length rest) (less_one room) left rest) budget ts
    (λ left rest fewer. enough_tokens W lead firsts r on (length ts) (length rest) (less_one room) left rest (omega arith) (le_refl _))

local_many : (W : Words) {A : Type 0} (lead : Option W.Class) (firsts : List W.Class) (r : Reader W.Token A) → IsLocal r → LeavesRest r → ReadsOn r
    → (room : Option ℕ) → IsLocal (λ budget ts. read_members W lead firsts r (length ts) room budget ts)
local_many W lead firsts r h leaves on room o budget a b t us vs e =
    let n : ℕ = length (a ++ (t ∷ us)) + length (a ++ (t ∷ vs)) in
    enough_tokens W lead firsts r on (length (a ++ (t ∷ vs))) n room budget (a ++ (t ∷ vs)) (le_refl _) (omega arith)
    ∙ local_members W lead firsts r h leaves n room o budget a b t us vs (enough_tokens W lead firsts r on n (length (a ++ (t ∷ us))) room budget (a ++ (t ∷ us)) (omega arith) (le_refl _) ∙ e)

-- where one token decides, an answer hangs on no token behind the first of its rest
pub local_in : {W : Words} (K : Classes W) (ends : W.Sort → List W.Class) (deeper : (sort : W.Sort) → W.Token → Reader W.Token (W.Tree sort))
    (Inner : (sort : W.Sort) → Relation W.Token (W.Tree sort))
    → ((sort : W.Sort) (t : W.Token) → IsLocal (deeper sort t)) → ((sort : W.Sort) (t : W.Token) → IsLocalBehind t (deeper sort t))
    → ((sort : W.Sort) (t : W.Token) → IsSound (deeper sort t) (Inner sort))
    → ((A : Type 0) (g : Grammar W A) → LeavesRest (read_in deeper g)) → {A : Type 0} (g : Grammar W A) → decides K ends g ≡ true → IsLocal (read_in deeper g)
local_in {W} K ends deeper Inner inner inner_behind sound rests (one cost c f) d o budget a b t us vs e =
    local_token (W.is_of c) cost (λ u left rest. Ok (f u, left, rest)) (λ u o' left. found_here o' (f u) left)
    (λ u. behind_rest u (λ left rest. Ok (f u, left, rest)) (leaves_found (f u))) o budget a b t us vs e
local_in {W} K ends deeper Inner inner inner_behind sound rests (nothing v) d o budget a b t us vs e = found_here o v budget a b t us vs e
local_in {W} K ends deeper Inner inner inner_behind sound rests (both g h) d o budget a b t us vs e =
    let (parts, apart) = both_hold _ _ d in let (dg, dh) = both_hold _ _ parts in
    local_turns (read_in deeper g) (λ _. read_in deeper h) (local_in K ends deeper Inner inner inner_behind sound rests g dg)
    (λ _. local_in K ends deeper Inner inner inner_behind sound rests h dh) (λ _. rests _ h) o budget a b t us vs e
local_in {W} K ends deeper Inner inner inner_behind sound rests (fork g test h i) d o budget a b t us vs e =
    let (parts, aparts) = both_hold _ _ d in let (dg, ds) = both_hold _ _ parts in let (dh, di) = both_hold _ _ ds in
    local_turns (read_in deeper g) (λ y left rest. choose (test y) (λ _. read_in deeper h left rest) (λ _. read_in deeper i left rest))
    (local_in K ends deeper Inner inner inner_behind sound rests g dg)
    (λ y. local_chosen (test y) (read_in deeper h) (read_in deeper i) (local_in K ends deeper Inner inner inner_behind sound rests h dh) (local_in K ends deeper Inner inner inner_behind sound rests i di))
    (λ y. leaves_choose (λ _. test y) (read_in deeper h) (read_in deeper i) (rests _ h) (rests _ i)) o budget a b t us vs e
local_in {W} K ends deeper Inner inner inner_behind sound rests (either g h) d o budget a b t us vs e =
    let (parts, rest) = both_hold _ _ d in let (dg, dh) = both_hold _ _ parts in
    local_choose (begins W (first_of g)) (read_in deeper g) (read_in deeper h) (begins_ahead W (first_of g))
    (local_in K ends deeper Inner inner inner_behind sound rests g dg) (local_in K ends deeper Inner inner inner_behind sound rests h dh) o budget a b t us
    vs e
local_in {W} K ends deeper Inner inner inner_behind sound rests (many limit lead g) d o budget a b t us vs e =
    let (dg, rest) = both_hold _ _ d in let (no_empty, apart) = both_hold _ _ rest in
    local_many W lead (first_of g) (read_in deeper g) (local_in K ends deeper Inner inner inner_behind sound rests g dg) (rests _ g)
    (reads_on (read_in deeper g) (PhraseIn Inner g) (sound_in deeper Inner sound g) (never_empty (PhraseIn Inner g) (empty_of g) (empty_only K ends Inner g dg) no_empty))
    limit o budget a b t us vs e
local_in {W} K ends deeper Inner inner inner_behind sound rests (as_ f g) d o budget a b t us vs e =
    local_mapped f (read_in deeper g) (local_in K ends deeper Inner inner inner_behind sound rests g d) o budget a b t us vs e
local_in {W} K ends deeper Inner inner inner_behind sound rests (down cost c sort) d o budget a b t us vs e =
    local_token (W.is_of c) cost (deeper sort) (inner sort) (inner_behind sort) o budget a b t us vs e
local_in {W} K ends deeper Inner inner inner_behind sound rests (afresh own g) d o budget a b t us vs e =
    local_budget own (read_in deeper g) (local_in K ends deeper Inner inner inner_behind sound rests g d) o budget a b t us vs e

-- whatever is read, the rest stands at the end of the tokens
pub rests_of : {W : Words} (K : Classes W) (rules : Rules W) (levels : ℕ) (A : Type 0) (g : Grammar W A) → LeavesRest (read_in (read_deeper rules levels) g)
rests_of K rules levels A g =
    leaves_rest (read_in (read_deeper rules levels) g) (PhraseIn (Deeper rules 1 levels) g) _
    (sound_in (read_deeper rules levels) (Deeper rules 1 levels) (sound_deeper rules 1 levels) g)
    (refused_in K (has_flat rules) _ (read_deeper rules levels) (Deeper rules 1 levels) (sound_deeper rules 1 levels) (λ _. sample_deeper K rules levels) (refused_deeper K rules levels) g)

local_behind_deeper : {W : Words} (K : Classes W) (rules : Rules W) (levels : ℕ) (sort : W.Sort) (t : W.Token) → IsLocalBehind t (read_deeper rules levels sort t)
local_behind_deeper K rules zero sort t o budget b us vs e = refused_here o Limit [] b t us vs e
local_behind_deeper K rules (suc levels) sort t o budget b us vs e =
    behind_rest t (read_deeper rules (suc levels) sort t) (rests_of K rules levels _ (rules sort)) o budget b us vs e

pub local_deeper : {W : Words} (K : Classes W) (rules : Rules W) (ends : W.Sort → List W.Class) → ((sort : W.Sort) → decides K ends (rules sort) ≡ true)
    → (levels : ℕ) (sort : W.Sort) (t : W.Token) → IsLocal (read_deeper rules levels sort t)
local_deeper K rules ends d zero sort t o budget a b u us vs e = refused_here o Limit (t ∷ a) b u us vs e
local_deeper K rules ends d (suc levels) sort t o budget a b u us vs e =
    local_in K ends (read_deeper rules levels) (Deeper rules 1 levels) (local_deeper K rules ends d levels) (local_behind_deeper K rules levels)
    (sound_deeper rules 1 levels) (rests_of K rules levels) (rules sort) (d sort) o budget a b u us vs e

-- an answer of a grammar with its rules
pub local_read : {W : Words} (K : Classes W) (rules : Rules W) (ends : W.Sort → List W.Class) → ((sort : W.Sort) → decides K ends (rules sort) ≡ true)
    → (levels : ℕ) {A : Type 0} (g : Grammar W A) → decides K ends g ≡ true → IsLocal (read rules levels g)
local_read K rules ends ds levels g d =
    local_in K ends (read_deeper rules levels) (Deeper rules 1 levels) (local_deeper K rules ends ds levels) (local_behind_deeper K rules levels)
    (sound_deeper rules 1 levels) (rests_of K rules levels) g d
