-- What a scan is from a place on, by what stands there.
use Rattle.std.proofs.Common.{◌≡◌, ℕ, zero, suc, ◌+◌, ◌-◌, ◌<◌, ◌≤◌, List, [], ◌∷◌, length, drop, Option, None, Some, refl, sym, ap, ◌∙◌, arith}
use Rattle.std.proofs.lemmas.List.{drop-drop}
use Rattle.sql_tokens.specs.declared.faults.ParseKind.{ParseKind}
use Rattle.sql_tokens.specs.declared.fronts.Front.{Front}
use Rattle.sql_tokens.specs.declared.fronts.Front.TheVariants.{Token, Bad}
use Rattle.sql_tokens.specs.declared.lexemes.Lexeme.{Lexeme}
use Rattle.sql_tokens.specs.Tokens.{gap, front}
use Rattle.sql_tokens.specs.Scans.{Scan, scan, scan_at, scan_behind, scan_next, scan_end, scan_refused, token_before}

pub scan_behind-passed : (place passed : ℕ) (bytes : List ℕ) → scan_behind place passed bytes ≡ scan (place + passed) (drop passed bytes)
unfolding scan scan_behind
scan_behind-passed place zero bytes = let e : place ≡ place + 0 = omega arith in ap (λ (p : ℕ). scan_behind p 0 bytes) e
scan_behind-passed place (suc passed) [] = refl
scan_behind-passed place (suc passed) (b ∷ rest) =
    let e : place + 1 + passed ≡ place + suc passed = omega arith in
    scan_behind-passed (place + 1) passed rest ∙ ap (λ (p : ℕ). scan p (drop passed rest)) e

scan-next : (place : ℕ) (b : ℕ) (rest : List ℕ) → scan place (b ∷ rest) ≡ scan_next place (gap (b ∷ rest)) (front (b ∷ rest)) (λ size. scan_behind (place + 1) (size - 1) rest)
unfolding scan scan_behind
scan-next place b rest = refl

sized : (place size b : ℕ) (rest : List ℕ) → 0 < size → scan_behind (place + 1) (size - 1) rest ≡ scan (place + size) (drop size (b ∷ rest))
sized place zero b rest some = absurd (omega arith)
sized place (suc more) b rest some =
    let less : suc more - 1 ≡ more = omega arith in
    let e : place + 1 + more ≡ place + suc more = omega arith in
    ap (λ (n : ℕ). scan_behind (place + 1) n rest) less ∙ scan_behind-passed (place + 1) more rest ∙ ap (λ (p : ℕ). scan p (drop more rest)) e

over_gap : (place size : ℕ) (bytes : List ℕ) → gap bytes ≡ Some size → 0 < size → size ≤ length bytes → scan place bytes ≡ scan (place + size) (drop size bytes)
over_gap place size [] e some within = absurd (omega arith)
over_gap place size (b ∷ rest) e some within =
    scan-next place b rest
    ∙ ap (λ (g : Option ℕ). scan_next place g (front (b ∷ rest)) (λ n. scan_behind (place + 1) (n - 1) rest)) e
    ∙ sized place size b rest some

over_token : (place size : ℕ) (x : Lexeme) (bytes : List ℕ) → gap bytes ≡ None → front bytes ≡ Token x size → 0 < size → size ≤ length bytes →
    scan place bytes ≡ token_before (record { start = place; end = place + size; lexeme = x }) (scan (place + size) (drop size bytes))
over_token place size x [] none e some within = absurd (omega arith)
over_token place size x (b ∷ rest) none e some within =
    scan-next place b rest
    ∙ ap (λ (g : Option ℕ). scan_next place g (front (b ∷ rest)) (λ n. scan_behind (place + 1) (n - 1) rest)) none
    ∙ ap (λ (f : Front). scan_next place None f (λ n. scan_behind (place + 1) (n - 1) rest)) e
    ∙ ap (λ (more : Scan). token_before (record { start = place; end = place + size; lexeme = x }) more) (sized place size b rest some)

over_bad : (place : ℕ) (kind : ParseKind) (bytes : List ℕ) → 0 < length bytes → gap bytes ≡ None → front bytes ≡ Bad kind → scan place bytes ≡ scan_refused (record { place = place; kind = kind })
over_bad place kind [] some none e = absurd (omega arith)
over_bad place kind (b ∷ rest) some none e =
    scan-next place b rest
    ∙ ap (λ (g : Option ℕ). scan_next place g (front (b ∷ rest)) (λ n. scan_behind (place + 1) (n - 1) rest)) none
    ∙ ap (λ (f : Front). scan_next place None f (λ n. scan_behind (place + 1) (n - 1) rest)) e

over_end : (place : ℕ) (bytes : List ℕ) → length bytes ≡ 0 → scan place bytes ≡ scan_end
unfolding scan scan_behind
over_end place [] e = refl
over_end place (b ∷ rest) e = absurd (omega arith)

-- the same at a place of the whole bytes, of which `rest` are those from there on

pub scan_at-gap : (place size : ℕ) (bytes rest : List ℕ) → rest ≡ drop place bytes → gap rest ≡ Some size → 0 < size → size ≤ length rest → scan_at place bytes ≡ scan_at (place + size) bytes
scan_at-gap place size bytes rest same e some within =
    ap (λ (xs : List ℕ). scan place xs) (sym same)
    ∙ over_gap place size rest e some within
    ∙ ap (λ (xs : List ℕ). scan (place + size) xs) (ap (λ (xs : List ℕ). drop size xs) same ∙ drop-drop size place bytes)

pub scan_at-token : (place size : ℕ) (x : Lexeme) (bytes rest : List ℕ) → rest ≡ drop place bytes → gap rest ≡ None → front rest ≡ Token x size → 0 < size → size ≤ length rest →
    scan_at place bytes ≡ token_before (record { start = place; end = place + size; lexeme = x }) (scan_at (place + size) bytes)
scan_at-token place size x bytes rest same none e some within =
    ap (λ (xs : List ℕ). scan place xs) (sym same)
    ∙ over_token place size x rest none e some within
    ∙ ap (λ (xs : List ℕ). token_before (record { start = place; end = place + size; lexeme = x }) (scan (place + size) xs)) (ap (λ (xs : List ℕ). drop size xs) same ∙ drop-drop size place bytes)

pub scan_at-bad : (place : ℕ) (kind : ParseKind) (bytes rest : List ℕ) → rest ≡ drop place bytes → 0 < length rest → gap rest ≡ None → front rest ≡ Bad kind →
    scan_at place bytes ≡ scan_refused (record { place = place; kind = kind })
scan_at-bad place kind bytes rest same some none e = ap (λ (xs : List ℕ). scan place xs) (sym same) ∙ over_bad place kind rest some none e

pub scan_at-end : (bytes : List ℕ) (place : ℕ) → length (drop place bytes) ≡ 0 → scan_at place bytes ≡ scan_end
scan_at-end bytes place = over_end place (drop place bytes)
