-- What the number of tokens that keep the bounds comes to.
use Rattle.std.proofs.Common.{◌≡◌, inl, inr, ◌∙◌, ap, length-append, arith, ℕ, zero, suc, ◌+◌, ◌-◌, ◌<◌, ◌≤◌, Bool, true, false, List, [], ◌∷◌, ◌++◌, Option, Some, length}
use Rattle.grammar_laws.specs.Grammars.{Words, Grammar, Rules, one, nothing, both, fork, either, many, as_, down, afresh}
use Rattle.grammar_laws.specs.Phrases.{Relation, InTurn, Chosen, less_one, PhraseIn, Past, Deeper}
use Rattle.grammar_laws.proofs.Sound.{MembersOf}

-- what keeps the bounds in some tokens keeps them in fewer
abbrev pub LessKept : {X A : Type 0} → Relation X A → Type 0
LessKept {X} {A} P = (kept fewer budget : ℕ) (ts : List X) (x : A) (left : ℕ) → fewer ≤ kept → P kept budget ts x left → P fewer budget ts x left

less_turns : {X A B : Type 0} (P : Relation X A) (Q : A → Relation X B) → LessKept P → ((x : A) → LessKept (Q x)) → LessKept (InTurn P Q)
less_turns P Q h k kept fewer budget ts z left le turn = record {
  front = turn.front;
  back = turn.back;
  between = turn.between;
  joined = turn.joined;
  first = h kept fewer budget turn.front z.0 turn.between le turn.first;
  second = k z.0 (kept - length turn.front) (fewer - length turn.front) turn.between turn.back z.1 left (omega arith) turn.second;
}

less_chosen : {X A : Type 0} (b : Bool) (P Q : Relation X A) → LessKept P → LessKept Q → LessKept (Chosen b P Q)
less_chosen true P Q h k kept fewer budget ts x left le p = h kept fewer budget ts x left le p
less_chosen false P Q h k kept fewer budget ts x left le p = k kept fewer budget ts x left le p

less_members : (W : Words) {A : Type 0} (lead : Option W.Class) (P : Relation W.Token A) → LessKept P
    → (room : Option ℕ) (kept fewer budget : ℕ) (ts : List W.Token) (xs : List A) (left : ℕ) → fewer ≤ kept → MembersOf W lead P room kept budget ts xs left
    → MembersOf W lead P room fewer budget ts xs left
less_members W lead P h room kept fewer budget ts [] left le p = p
less_members W lead P h room kept fewer budget ts (x ∷ xs) left le p = record {
  lead = p.lead;
  front = p.front;
  back = p.back;
  between = p.between;
  joined = p.joined;
  leads = p.leads;
  in_limit = λ some. p.in_limit (omega arith);
  member = h (kept - length p.lead) (fewer - length p.lead) budget p.front x p.between (omega arith) p.member;
  rest = less_members W lead P h (less_one room) (kept - length p.lead - length p.front) (fewer - length p.lead - length p.front) p.between p.back xs left
      (omega arith) p.rest;
}

pub less_in : {W : Words} (Inner : (sort : W.Sort) → Relation W.Token (W.Tree sort)) → ((sort : W.Sort) → LessKept (Inner sort))
    → {A : Type 0} (g : Grammar W A) → LessKept (PhraseIn Inner g)
less_in Inner inner (one cost c f) kept fewer budget ts x left le p =
    record { token = p.token; alone = p.alone; fits = p.fits; affordable = λ some. p.affordable (omega arith); value_is = p.value_is; left_is = p.left_is }
less_in Inner inner (nothing v) kept fewer budget ts x left le p = p
less_in Inner inner (both g h) kept fewer budget ts x left le p =
    less_turns (PhraseIn Inner g) (λ _. PhraseIn Inner h) (less_in Inner inner g) (λ _. less_in Inner inner h) kept fewer budget ts x left le p
less_in Inner inner (fork g test h i) kept fewer budget ts x left le p =
    less_turns (PhraseIn Inner g) (λ y. Chosen (test y) (PhraseIn Inner h) (PhraseIn Inner i)) (less_in Inner inner g)
    (λ y. less_chosen (test y) (PhraseIn Inner h) (PhraseIn Inner i) (less_in Inner inner h) (less_in Inner inner i)) kept fewer budget ts x left le p
less_in Inner inner (either g h) kept fewer budget ts x left le p =
    elim p [ inl q ↦ inl (less_in Inner inner g kept fewer budget ts x left le q) | inr q ↦ inr (less_in Inner inner h kept fewer budget ts x left le q) ]
less_in {W} Inner inner (many limit lead g) kept fewer budget ts x left le p =
    less_members W lead (PhraseIn Inner g) (less_in Inner inner g) limit kept fewer budget ts x left le p
less_in Inner inner (as_ f g) kept fewer budget ts x left le (y, p, same) = (y, less_in Inner inner g kept fewer budget ts y left le p, same)
less_in Inner inner (down cost c sort) kept fewer budget ts x left le p = record {
  token = p.token;
  inner = p.inner;
  joined = p.joined;
  fits = p.fits;
  affordable = λ some. p.affordable (omega arith);
  part = inner sort kept fewer (budget - cost) p.inner x left le p.part;
}
less_in Inner inner (afresh own g) kept fewer budget ts x left le (rest, p, same) = (rest, less_in Inner inner g kept fewer own ts x rest le p, same)

less_past : {W : Words} (rules : Rules W) (spare : ℕ) (sort : W.Sort) → LessKept (Past rules spare sort)
less_past rules zero sort kept fewer budget ts x left le p = p
less_past rules (suc spare) sort kept fewer budget ts x left le (none, p) = (omega arith, p)

pub less_deeper : {W : Words} (rules : Rules W) (spare levels : ℕ) (sort : W.Sort) → LessKept (Deeper rules spare levels sort)
less_deeper rules spare zero sort kept fewer budget ts x left le p = less_past rules spare sort kept fewer budget ts x left le p
less_deeper rules spare (suc levels) sort kept fewer budget ts x left le p =
    less_in (Deeper rules spare levels) (less_deeper rules spare levels) (rules sort) (kept - 1) (fewer - 1) budget ts x left (omega arith) p

-- where more tokens keep the bounds than there are, there are no more members than the limit
pub members_in_limit : (W : Words) {A : Type 0} (lead : Option W.Class) (P : Relation W.Token A) (limit kept budget : ℕ) (ts : List W.Token) (xs : List A) (left : ℕ)
    → length ts < kept → MembersOf W lead P (Some limit) kept budget ts xs left → length xs ≤ limit
members_in_limit W lead P limit kept budget ts [] left more p = omega arith
members_in_limit W lead P zero kept budget ts (x ∷ xs) left more p =
    let size : length ts ≡ length p.lead + length (p.front ++ p.back) = ap length p.joined ∙ length-append p.lead (p.front ++ p.back) in
    absurd (let full : false ≡ true = p.in_limit (omega arith) in cc)
members_in_limit W lead P (suc limit) kept budget ts (x ∷ xs) left more p =
    let size : length ts ≡ length p.lead + length (p.front ++ p.back) = ap length p.joined ∙ length-append p.lead (p.front ++ p.back) in
    let inner : length (p.front ++ p.back) ≡ length p.front + length p.back = length-append p.front p.back in
    let rest : length xs ≤ limit = members_in_limit W lead P limit (kept - length p.lead - length p.front) p.between p.back xs left (omega arith) p.rest in
    omega arith
