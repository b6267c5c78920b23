-- The laws, of any definition of which one token tells how to go on.
use Rattle.std.proofs.Common.{◌≡◌, inl, inr, refl, sym, ◌∙◌, ap, subst, append-nil, arith, ℕ, suc, le_refl, true, [], ◌++◌, Ok, Err, length}
use Rattle.grammar_laws.specs.Phrases.{PhraseIn, Deeper}
use Rattle.grammar_laws.specs.Prediction.{goes_on, decides, completes, has_flat}
use Rattle.grammar_laws.specs.Reading.{Found, read, read_deeper}
use Rattle.grammar_laws.specs.Definitions.{Definition, IsPredictive}
use Rattle.grammar_laws.specs.Laws.{ReadsSentences, ReadsEachSentence, ReadsOrMeetsLimit, HasOneValue, FindsOneAhead, RefusesOneAhead, KeepsThroughout, KeepsInFewer, KeepsLimit}
use Rattle.grammar_laws.proofs.ClassLemmas.{both_hold}
use Rattle.grammar_laws.proofs.Sound.{sound_in, sound_deeper}
use Rattle.grammar_laws.proofs.Steps.{ok_is}
use Rattle.grammar_laws.proofs.Whole.{ReadsWhole, whole_in, whole_deeper}
use Rattle.grammar_laws.proofs.Kept.{less_in, less_deeper, members_in_limit}
use Rattle.grammar_laws.proofs.Local.{local_read}

pub decides_all : (D : Definition) → IsPredictive D
    → (decides D.classes D.ends D.grammar ≡ true) × ((sort : D.words.Sort) → decides D.classes D.ends (D.rules sort) ≡ true)
decides_all D h = ((both_hold _ _ h.whole).0, λ sort. (both_hold _ _ (both_hold _ _ (h.each sort)).0).0)

pub completes_all : (D : Definition) → IsPredictive D
    → (completes (has_flat D.rules) D.grammar ≡ true) × ((sort : D.words.Sort) → completes (has_flat D.rules) (D.rules sort) ≡ true)
completes_all D h = ((both_hold _ _ h.whole).1, λ sort. (both_hold _ _ (both_hold _ _ (h.each sort)).0).1)

pub reads_sentences : (D : Definition) → ReadsSentences D
reads_sentences D levels budget tokens value left rest e =
    let (front, joined, p) = sound_in (read_deeper D.rules levels) (Deeper D.rules 0 levels) (sound_deeper D.rules 0 levels) D.grammar budget tokens (value, left, rest) e in
    (front, joined, (left, p (suc (length front))))

-- a phrase is read whole, or meets a limit
pub whole : (D : Definition) → IsPredictive D → (spare levels : ℕ)
    → ReadsWhole D.words (read D.rules levels D.grammar) (PhraseIn (Deeper D.rules spare levels) D.grammar) (goes_on D.ends D.grammar)
whole D h spare levels =
    let (d, ds) = decides_all D h in
    whole_in D.classes D.ends (read_deeper D.rules levels) (Deeper D.rules spare levels)
    (whole_deeper D.classes D.rules D.ends ds (λ sort. (both_hold _ _ (h.each sort)).1) spare levels) D.grammar d

pub reads_or_meets_limit : (D : Definition) → IsPredictive D → ReadsOrMeetsLimit D
reads_or_meets_limit D h levels budget kept tokens value (spare, left, p) more none =
    elim (whole D h spare levels kept budget tokens more value left p none) [ inl reads ↦ inl (left, reads) | inr limit ↦ inr limit ]

pub reads_each_sentence : (D : Definition) → IsPredictive D → ReadsEachSentence D
reads_each_sentence D h levels budget tokens value (left, p) more none = elim (whole D h 0 levels (suc (length tokens)) budget tokens more value left p none) [
  | inl reads ↦ (left, reads)
  | inr (rest, refused, within, inside) ↦ absurd (omega arith)
]

pub has_one_value : (D : Definition) → IsPredictive D → HasOneValue D
has_one_value D h levels budget tokens x y p q =
    let (left, reads_x) = reads_each_sentence D h levels budget tokens x p [] refl in
    let (other, reads_y) = reads_each_sentence D h levels budget tokens y q [] refl in
    ap (λ (w : Found D.words.Token D.Value). w.0) (ok_is (x, left, []) (y, other, []) (sym reads_x ∙ reads_y))

pub finds_one_ahead : (D : Definition) → IsPredictive D → FindsOneAhead D
finds_one_ahead D h levels budget front back t us vs value left =
    let (d, ds) = decides_all D h in local_read D.classes D.rules D.ends ds levels D.grammar d (Ok (value, left)) budget front back t us vs

pub refuses_one_ahead : (D : Definition) → IsPredictive D → RefusesOneAhead D
refuses_one_ahead D h levels budget front back t us vs kind =
    let (d, ds) = decides_all D h in local_read D.classes D.rules D.ends ds levels D.grammar d (Err kind) budget front back t us vs

pub keeps_in_fewer : (D : Definition) → KeepsInFewer D
keeps_in_fewer D levels budget kept fewer tokens value le (spare, left, p) =
    (spare, left, less_in (Deeper D.rules spare levels) (less_deeper D.rules spare levels) D.grammar kept fewer budget tokens value left le p)

pub keeps_throughout : (D : Definition) → IsPredictive D → KeepsThroughout D
keeps_throughout D h levels budget tokens value (spare, left, p) = elim (whole D h spare levels (length tokens) budget tokens [] value left p refl) [
  | inl reads ↦
      let (front, joined, is) = sound_in (read_deeper D.rules levels) (Deeper D.rules 0 levels) (sound_deeper D.rules 0 levels) D.grammar budget (tokens ++ []) (value, left, []) reads in
      let same : front ≡ tokens = sym (append-nil front) ∙ sym joined ∙ append-nil tokens in
      (left, subst (λ ts. PhraseIn (Deeper D.rules 0 levels) D.grammar (suc (length tokens)) budget ts value left) same (is (suc (length tokens))))
  | inr (rest, refused, within, inside) ↦ absurd (omega arith)
]

pub keeps_limit : (D : Definition) → KeepsLimit D
keeps_limit D levels budget limit lead tokens values (left, p) =
    members_in_limit D.words lead (PhraseIn (Deeper D.rules 0 levels) D.grammar) limit (suc (length tokens)) budget tokens values left (le_refl _) p
