-- The refused place is the first, and the first place is the refused one.
use Rattle.std.proofs.Common.{◌≡◌, ◌⊎◌, inl, inr, refl, sym, ◌∙◌, ap, ap₂, subst, append_assoc, append-nil, length-append, arith, ℕ, suc, ◌+◌, ◌<◌, ◌≤◌, List, [], ◌∷◌, ◌++◌, Result, Ok, Err, length}
use Rattle.grammar_laws.specs.Phrases.{PhraseIn, Deeper}
use Rattle.grammar_laws.specs.Prediction.{has_flat}
use Rattle.grammar_laws.specs.Reading.{Found, Refused, Refusal, Syntax, Limit, Answer, of_all, read_deeper}
use Rattle.grammar_laws.specs.Definitions.{Definition, IsPredictive, IsSentence, IsSentenceIn, Tokens, read_sentence, read_sentence_alone}
use Rattle.grammar_laws.specs.Laws.{BeginsAs, refuted_by, IsFirstPlace, IsFirstRefused, RefusesFirstPlace, ReadsExactlySentences, RefusesExactlyFirstPlace}
use Rattle.grammar_laws.proofs.Sound.{sound_in, sound_deeper}
use Rattle.grammar_laws.proofs.Steps.{ok_is, err_is}
use Rattle.grammar_laws.proofs.Whole.{WholeOrLimit}
use Rattle.grammar_laws.proofs.Refused.{refused_in, refused_deeper, sample_deeper}
use Rattle.grammar_laws.proofs.Theorems.{completes_all, whole, reads_sentences, reads_each_sentence, finds_one_ahead, refuses_one_ahead, keeps_in_fewer}

-- a refusal beside a phrase is a limit at one of its tokens, behind the kept ones
refused_limit : {X A : Type 0} (o : Answer X A) (kind : Refusal) (rest : List X) (kept n : ℕ) (x : A) (left : ℕ) → o ≡ Err (kind, rest)
    → WholeOrLimit o kept n [] x left → (kind ≡ Limit) × (kept + length rest ≤ n) × (0 < length rest)
refused_limit {X} {A} o kind rest kept n x left e h = elim h [
  | inl reads ↦ absurd (let both : ◌≡◌ {A = Answer X A} (Err (kind, rest)) (Ok (x, left, [])) = sym e ∙ reads in cc)
  | inr (other, refused, within, inside) ↦
      let same : ◌≡◌ {A = Refused X} (kind, rest) (Limit, other) = err_is {A = A} (kind, rest) (Limit, other) (sym e ∙ refused) in
      let size : length rest ≡ length other = ap (λ (w : Refused X). length w.1) same in
      (ap (λ (w : Refused X). w.0) same, omega arith, omega arith)
]

stopped : (D : Definition) → IsPredictive D → (levels budget : ℕ) (front : Tokens D) (kind : Refusal) (rest : Tokens D)
    → read_sentence D levels budget (front ++ rest) ≡ Err (kind, rest)
    → (more : Tokens D) (value : D.Value) → BeginsAs rest more → IsSentenceIn D levels budget (refuted_by kind (length front)) (front ++ more) value → ⊥
stopped D h levels budget front kind [] e more value begins (spare, left, p) =
    let r : Tokens D → Answer D.words.Token D.Value = read_sentence D levels budget in
    let at : (front ++ more) ++ [] ≡ front ++ [] = append-nil (front ++ more) ∙ ap (λ us. front ++ us) begins in
    let (is_limit, within, inside) = refused_limit (r ((front ++ more) ++ [])) kind [] (refuted_by kind (length front)) (length (front ++ more)) value left (ap r at ∙ e) (whole D h spare levels (refuted_by kind (length front)) budget (front ++ more) [] value left p refl) in
    absurd (omega arith)
stopped D h levels budget front Syntax (t ∷ us) e more value (vs, begins) (spare, left, p) =
    let r : Tokens D → Answer D.words.Token D.Value = read_sentence D levels budget in
    let same : r (front ++ (t ∷ vs)) ≡ Err (Syntax, t ∷ vs) = refuses_one_ahead D h levels budget front [] t us vs Syntax e in
    let at : (front ++ more) ++ [] ≡ front ++ (t ∷ vs) = append-nil (front ++ more) ∙ ap (λ us. front ++ us) begins in
    let (is_limit, within, inside) = refused_limit (r ((front ++ more) ++ [])) Syntax (t ∷ vs) 0 (length (front ++ more)) value left (ap r at ∙ same) (whole D h spare levels 0 budget (front ++ more) [] value left p refl) in
    absurd cc
stopped D h levels budget front Limit (t ∷ us) e more value (vs, begins) (spare, left, p) =
    let r : Tokens D → Answer D.words.Token D.Value = read_sentence D levels budget in
    let same : r (front ++ (t ∷ vs)) ≡ Err (Limit, t ∷ vs) = refuses_one_ahead D h levels budget front [] t us vs Limit e in
    let at : (front ++ more) ++ [] ≡ front ++ (t ∷ vs) = append-nil (front ++ more) ∙ ap (λ us. front ++ us) begins in
    let (is_limit, within, inside) = refused_limit (r ((front ++ more) ++ [])) Limit (t ∷ vs) (suc (length front)) (length (front ++ more)) value left (ap r at ∙ same) (whole D h spare levels (suc (length front)) budget (front ++ more) [] value left p refl) in
    let size : length (front ++ more) ≡ length front + suc (length vs) = length-append front more ∙ ap (λ us. length front + length us) begins in
    omega arith

pub refuses_first_place : (D : Definition) → IsPredictive D → RefusesFirstPlace D
refuses_first_place D h levels budget tokens kind rest e =
    let (front, joined, begun) = refused_in D.classes (has_flat D.rules) _ (read_deeper D.rules levels) (Deeper D.rules 1 levels) (sound_deeper D.rules 1 levels) (λ _. sample_deeper D.classes D.rules levels) (refused_deeper D.classes D.rules levels) D.grammar budget tokens (kind, rest) e in
    let (more, value, left, continues, p) = begun (completes_all D h) in
    (front, joined, record { begun = (more, value, continues, (1, left, p)); stopped = stopped D h levels budget front kind rest (ap (read_sentence D levels budget) (sym joined) ∙ e) })

of_all_ok : {X A : Type 0} (o : Answer X A) (x : A) → of_all o ≡ Ok x → (left : ℕ) × (o ≡ Ok (x, left, []))
of_all_ok {X} {A} (Ok (y, left, [])) x e = let same : y ≡ x = cc in (left, ap {B = Answer X A} (λ z. Ok (z, left, [])) same)
of_all_ok (Ok (y, left, t ∷ ts)) x e = absurd cc
of_all_ok (Err f) x e = absurd cc

-- refused by the reader, or behind a value that ends too early
of_all_err : {X A : Type 0} (o : Answer X A) (f : Refused X) → of_all o ≡ Err f
    → (o ≡ Err f) ⊎ ((x : A) × (left : ℕ) × (t : X) × (us : List X) × (o ≡ Ok (x, left, t ∷ us)) × (f ≡ (Syntax, t ∷ us)))
of_all_err (Ok (y, left, [])) f e = absurd cc
of_all_err (Ok (y, left, t ∷ ts)) f e = inr (y, left, t, ts, refl, cc)
of_all_err {X} {A} (Err g) f e = let same : g ≡ f = cc in inl (ap {B = Answer X A} (λ h. Err h) same)

pub reads_exactly_sentences : (D : Definition) → IsPredictive D → ReadsExactlySentences D
reads_exactly_sentences D h levels budget tokens value = (
  (λ e.
      let (left, reads) = of_all_ok (read_sentence D levels budget tokens) value e in
      let (front, joined, is) = reads_sentences D levels budget tokens value left [] reads in
      subst (λ ts. IsSentence D levels budget ts value) (sym (append-nil front) ∙ sym joined) is),
  (λ p.
      let (left, reads) = reads_each_sentence D h levels budget tokens value p [] refl in
      ap of_all (ap (read_sentence D levels budget) (sym (append-nil tokens)) ∙ reads)),
)

-- a value that ends before the tokens: the next is refused
ended_early : (D : Definition) → IsPredictive D → (levels budget : ℕ) (tokens : Tokens D) (x : D.Value) (left : ℕ) (t : D.words.Token) (us : Tokens D)
    → read_sentence D levels budget tokens ≡ Ok (x, left, t ∷ us) → IsFirstRefused D levels budget tokens Syntax (t ∷ us)
ended_early D h levels budget tokens x left t us reads =
    let r : Tokens D → Answer D.words.Token D.Value = read_sentence D levels budget in
    let (front, joined, is) = sound_in (read_deeper D.rules levels) (Deeper D.rules 0 levels) (sound_deeper D.rules 0 levels) D.grammar budget tokens (x, left, t ∷ us) reads in (
      front,
      joined,
      record {
        begun =
            ([], x, tt, (0, left, subst (λ ts. PhraseIn (Deeper D.rules 0 levels) D.grammar (length front) budget ts x left) (sym (append-nil front)) (is (length front))));
        stopped = λ more y (vs, begins) (spare, other, p).
            let same : r (front ++ (t ∷ vs)) ≡ Ok (x, left, t ∷ vs) = finds_one_ahead D h levels budget front [] t us vs x left (ap r (sym joined) ∙ reads) in
            let at : (front ++ more) ++ [] ≡ front ++ (t ∷ vs) = append-nil (front ++ more) ∙ ap (λ us. front ++ us) begins in
            not_both_read (r ((front ++ more) ++ [])) x y left other t vs (length (front ++ more)) (ap r at ∙ same) (whole D h spare levels 0 budget (front ++ more) [] y other p refl);
      },
    )
  where
    not_both_read : {X A : Type 0} (o : Answer X A) (x y : A) (left other : ℕ) (t : X) (vs : List X) (n : ℕ) → o ≡ Ok (x, left, t ∷ vs) → WholeOrLimit o 0 n []
        y other → ⊥
    not_both_read {X} {A} o x y left other t vs n e w = elim w [
      | inl reads ↦ let both : ◌≡◌ {A = Found X A} (x, left, t ∷ vs) (y, other, []) = ok_is (x, left, t ∷ vs) (y, other, []) (sym e ∙ reads) in let rests : t ∷ vs ≡ [] = ap (λ (z : Found X A). z.2) both in cc
      | inr (rest, refused, within, inside) ↦ let both : ◌≡◌ {A = Answer X A} (Ok (x, left, t ∷ vs)) (Err (Limit, rest)) = sym e ∙ refused in cc
    ]

all_refused : (D : Definition) → IsPredictive D → (levels budget : ℕ) (tokens : Tokens D) (kind : Refusal) (rest : Tokens D)
    → read_sentence_alone D levels budget tokens ≡ Err (kind, rest) → IsFirstRefused D levels budget tokens kind rest
all_refused D h levels budget tokens kind rest e = elim (of_all_err (read_sentence D levels budget tokens) (kind, rest) e) [
  | inl refused ↦ refuses_first_place D h levels budget tokens kind rest refused
  | inr (x, left, t, us, reads, same) ↦ subst (λ (f : Refused D.words.Token). IsFirstRefused D levels budget tokens f.0 f.1) (sym same) (ended_early D h levels budget tokens x left t us reads)
]

-- two splits of one list: alike, or the one lies before the other
splits : {X : Type 0} (a b c d : List X) → a ++ b ≡ c ++ d
    → ((a ≡ c) × (b ≡ d)) ⊎ (((t : X) × (us : List X) × (c ≡ a ++ (t ∷ us)) × (b ≡ t ∷ (us ++ d))) ⊎ ((t : X) × (us : List X) × (a ≡ c ++ (t ∷ us)) × (d ≡ t ∷ (us ++ b))))
splits [] b [] d e = inl (refl, e)
splits [] b (t ∷ c) d e = inr (inl (t, c, refl, e))
splits (t ∷ a) b [] d e = inr (inr (t, a, refl, sym e))
splits {X} (s ∷ a) b (t ∷ c) d e =
    let heads : s ≡ t = cc in
    let tails : a ++ b ≡ c ++ d = cc in
    elim (splits a b c d tails) [
      | inl (same, rests) ↦ inl (ap₂ (λ (x : X) (xs : List X). x ∷ xs) heads same, rests)
      | inr (inl (u, us, longer, rests)) ↦ inr (inl (u, us, ap₂ (λ (x : X) (xs : List X). x ∷ xs) (sym heads) longer, rests))
      | inr (inr (u, us, longer, rests)) ↦ inr (inr (u, us, ap₂ (λ (x : X) (xs : List X). x ∷ xs) heads longer, rests))
    ]

kept_enough : (kind : Refusal) (n m : ℕ) → suc n ≤ m → refuted_by kind n ≤ m
kept_enough Syntax n m le = omega arith
kept_enough Limit n m le = le

-- what is refused at one place is not begun behind it
not_behind : (D : Definition) (levels budget : ℕ) (a c : Tokens D) (kind other : Refusal) (r s : Tokens D) (t : D.words.Token) (us : Tokens D)
    → c ≡ a ++ (t ∷ us) → r ≡ t ∷ (us ++ s) → IsFirstPlace D levels budget a kind r → IsFirstPlace D levels budget c other s → ⊥
not_behind D levels budget a c kind other r s t us longer rests p q =
    let (more, value, continues, keeps) = q.begun in
    let at : c ++ more ≡ a ++ (t ∷ (us ++ more)) = ap (λ b. b ++ more) longer ∙ append_assoc a (t ∷ us) more in
    let size : length c ≡ length a + suc (length us) = ap length longer ∙ length-append a (t ∷ us) in
    let fewer : IsSentenceIn D levels budget (refuted_by kind (length a)) (c ++ more) value = keeps_in_fewer D levels budget (length c) (refuted_by kind (length a)) (c ++ more) value (kept_enough kind (length a) (length c) (omega arith)) keeps in
    p.stopped (t ∷ (us ++ more)) value (subst (λ b. BeginsAs b (t ∷ (us ++ more))) (sym rests) (us ++ more, refl))
    (subst (λ b. IsSentenceIn D levels budget (refuted_by kind (length a)) b value) at fewer)

syntax_or_limit : (D : Definition) (levels budget : ℕ) (a r : Tokens D) → IsFirstPlace D levels budget a Syntax r → IsFirstPlace D levels budget a Limit r → ⊥
syntax_or_limit D levels budget a r p q =
    let (more, value, (t, us, vs, rest_is, more_is), keeps) = q.begun in
    p.stopped more value (subst (λ b. BeginsAs b more) (sym rest_is) (vs, more_is)) (keeps_in_fewer D levels budget (length a) 0 (a ++ more) value (omega arith) keeps)

-- at one place there is one kind
one_kind : (D : Definition) (levels budget : ℕ) (a : Tokens D) (kind other : Refusal) (r : Tokens D) → IsFirstPlace D levels budget a kind r
    → IsFirstPlace D levels budget a other r → kind ≡ other
one_kind D levels budget a Syntax Syntax r p q = refl
one_kind D levels budget a Limit Limit r p q = refl
one_kind D levels budget a Syntax Limit r p q = absurd (syntax_or_limit D levels budget a r p q)
one_kind D levels budget a Limit Syntax r p q = absurd (syntax_or_limit D levels budget a r q p)

begins_as_itself : {X : Type 0} (rest : List X) → BeginsAs rest rest
begins_as_itself [] = refl
begins_as_itself (t ∷ us) = (us, refl)

-- what is a phrase is refused nowhere
not_refused : (D : Definition) → IsPredictive D → (levels budget : ℕ) (tokens front : Tokens D) (kind : Refusal) (rest : Tokens D) (value : D.Value)
    → tokens ≡ front ++ rest → IsSentence D levels budget tokens value → IsFirstPlace D levels budget front kind rest → ⊥
not_refused D h levels budget tokens front kind rest value joined (left, is) p =
    let size : length tokens ≡ length front + length rest = ap length joined ∙ length-append front rest in
    let keeps : IsSentenceIn D levels budget (refuted_by kind (length front)) tokens value = keeps_in_fewer D levels budget (suc (length tokens)) (refuted_by kind (length front)) tokens value (kept_enough kind (length front) (suc (length tokens)) (omega arith)) (0, left, is) in
    p.stopped rest value (begins_as_itself rest) (subst (λ ts. IsSentenceIn D levels budget (refuted_by kind (length front)) ts value) joined keeps)

-- two first places of one list are one
one_place : (D : Definition) (levels budget : ℕ) (a b c d : Tokens D) (kind other : Refusal) → a ++ b ≡ c ++ d → IsFirstPlace D levels budget a kind b
    → IsFirstPlace D levels budget c other d → ◌≡◌ {A = Refused D.words.Token} (kind, b) (other, d)
one_place D levels budget a b c d kind other joined p q = elim (splits a b c d joined) [
  | inl (same, rests) ↦ ap₂ {C = Refused D.words.Token} (λ k r. (k, r))
      (one_kind D levels budget c kind other d (subst (λ r. IsFirstPlace D levels budget c kind r) rests (subst (λ f. IsFirstPlace D levels budget f kind b) same p)) q)
      rests
  | inr (inl (t, us, longer, rests)) ↦ absurd (not_behind D levels budget a c kind other b d t us longer rests p q)
  | inr (inr (t, us, longer, rests)) ↦ absurd (not_behind D levels budget c a other kind d b t us longer rests q p)
]

pub refuses_exactly_first_place : (D : Definition) → IsPredictive D → RefusesExactlyFirstPlace D
refuses_exactly_first_place D h levels budget tokens kind rest =
    (all_refused D h levels budget tokens kind rest, λ f. go f.0 f.1 f.2 (read_sentence_alone D levels budget tokens) refl)
  where
    go : (front : Tokens D) → tokens ≡ front ++ rest → IsFirstPlace D levels budget front kind rest → (o : Result D.Value (Refused D.words.Token)) →
        read_sentence_alone D levels budget tokens ≡ o → read_sentence_alone D levels budget tokens ≡ Err (kind, rest)
    go front joined p (Ok value) e = absurd
        (not_refused D h levels budget tokens front kind rest value joined ((reads_exactly_sentences D h levels budget tokens value).0 e) p)
    go front joined p (Err (other, behind)) e =
        let (first, splits_so, q) = all_refused D h levels budget tokens other behind e in
        e ∙ ap {B = Result D.Value (Refused D.words.Token)} (λ f. Err f) (one_place D levels budget first behind front rest other kind (sym splits_so ∙ joined) q p)
