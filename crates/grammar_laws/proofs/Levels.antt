-- What is read behind a token that opens a level, by the levels that are left.
use Rattle.std.proofs.Common.{◌≡◌, refl, sym, ap, ◌∙◌, arith, ℕ, zero, suc, ◌-◌, ◌<◌, ◌≤◌, nat_le, le-leb, true, List, ◌∷◌, Err}
use Rattle.grammar_laws.specs.Grammars.{Words, Rules, down}
use Rattle.grammar_laws.specs.Reading.{Limit, read, read_deeper}
use Rattle.grammar_laws.specs.Definitions.{Definition}
use Rattle.grammar_laws.specs.Laws.{OpensLevels}
use Rattle.grammar_laws.proofs.Steps.{choose_first}

no_level : {W : Words} (rules : Rules W) (levels : ℕ) (sort : W.Sort) (t : W.Token) (budget : ℕ) (ts : List W.Token) → levels ≡ 0
    → read_deeper rules levels sort t budget ts ≡ Err (Limit, t ∷ ts)
no_level rules zero sort t budget ts none = refl
no_level rules (suc levels) sort t budget ts none = absurd (omega arith)

one_level : {W : Words} (rules : Rules W) (levels : ℕ) (sort : W.Sort) (t : W.Token) (budget : ℕ) (ts : List W.Token) → 0 < levels
    → read_deeper rules levels sort t budget ts ≡ read rules (levels - 1) (rules sort) budget ts
one_level rules zero sort t budget ts some = absurd (omega arith)
one_level rules (suc levels) sort t budget ts some =
    let one_fewer : levels ≡ suc levels - 1 = omega arith in
    ap (λ n. read rules n (rules sort) budget ts) one_fewer

opens : {W : Words} (rules : Rules W) (levels budget cost : ℕ) (c : W.Class) (sort : W.Sort) (tokens : List W.Token) (t : W.Token) (ts : List W.Token)
    → tokens ≡ t ∷ ts → W.is_of c t ≡ true → cost ≤ budget → read rules levels (down cost c sort) budget tokens ≡ read_deeper rules levels sort t (budget - cost) ts
opens {W} rules levels budget cost c sort tokens t ts joined fits enough =
    ap (read rules levels (down cost c sort) budget) joined ∙ choose_first (W.is_of c t) _ _ fits ∙ choose_first (nat_le cost budget) _ _ (le-leb cost budget enough)

-- with no level left the token is refused
pub down_refused : {W : Words} (rules : Rules W) (levels budget cost : ℕ) (c : W.Class) (sort : W.Sort) (tokens : List W.Token) (t : W.Token) (ts : List W.Token)
    → tokens ≡ t ∷ ts → W.is_of c t ≡ true → cost ≤ budget → levels ≡ 0 → read rules levels (down cost c sort) budget tokens ≡ Err (Limit, tokens)
down_refused {W} rules levels budget cost c sort tokens t ts joined fits enough none =
    opens rules levels budget cost c sort tokens t ts joined fits enough ∙ no_level rules levels sort t (budget - cost) ts none
    ∙ ap (λ (us : List W.Token). Err (Limit, us)) (sym joined)

-- with some left the sort is read with one fewer
pub down_read : {W : Words} (rules : Rules W) (levels budget cost left : ℕ) (c : W.Class) (sort : W.Sort) (tokens : List W.Token) (t : W.Token) (ts : List W.Token)
    → tokens ≡ t ∷ ts → W.is_of c t ≡ true → cost ≤ budget → left ≡ budget - cost → 0 < levels
    → read rules levels (down cost c sort) budget tokens ≡ read rules (levels - 1) (rules sort) left ts
down_read rules levels budget cost left c sort tokens t ts joined fits enough left_is some =
    opens rules levels budget cost c sort tokens t ts joined fits enough ∙ one_level rules levels sort t (budget - cost) ts some
    ∙ ap (λ l. read rules (levels - 1) (rules sort) l ts) (sym left_is)

pub opens_levels : (D : Definition) → OpensLevels D
opens_levels D levels budget cost c sort t tokens fits enough = (
  down_refused D.rules levels budget cost c sort (t ∷ tokens) t tokens refl fits enough,
  down_read D.rules levels budget cost (budget - cost) c sort (t ∷ tokens) t tokens refl fits enough refl,
)
