-- The values of a TEXT column are tied to their ends and bytes.
use Rattle.std.proofs.Common.{◌≡◌, ℕ, suc, ◌+◌, ◌-◌, ◌*◌, Bool, true, false, leb, List, [], ◌∷◌, ◌++◌, length, map, Option, Some, None, refl, sym, ap, subst, ◌∙◌, arith}
use Rattle.std.specs.Prelude.{unwrap_or}
use Rattle.std.specs.List.{flat_map, AllByRecursion}
use Rattle.std.specs.Str.{is_utf8}
use Rattle.std.proofs.lemmas.Bool.{eqb-true, eq-eqb, leb-true, le-leb, and_parts, and_from}
use Rattle.std.proofs.lemmas.List.{length-append}
use Rattle.lake_values.specs.declared.faults.BadKind.TheVariants.{NotCanonical}
use Rattle.lake_values.specs.declared.schemas.ColType.TheVariants as kinds
use Rattle.lake_values.specs.declared.values.Value.{Value}
use Rattle.lake_values.specs.declared.values.Value.TheVariants.{Null, Int, Text}
use Rattle.lake_values.specs.Order.{bytes_of}
use Rattle.lake_values.specs.Spelling.{u64_spelling, IsU64}
use Rattle.lake_values.specs.Reading.{◌>>=◌}
use Rattle.lake_values.proofs.Ties.{Ties, Ties-made, Ties-then, Ties-as, Ties-map, Ties-checked, Ties-array, EachFits}
use Rattle.lake_values.proofs.FieldTies.{u64_tie, utf8_tie, length-u64}
use Rattle.column_file.specs.Spelling.{is_null, ends_from, IsCell}
use Rattle.column_file.specs.Reading.{is_end, text_end_at, ends_at, last_of, pieces_from, piece_at, pieces_at}

-- ---- ends

abbrev IsTextEnd : Option ℕ → Bool → ℕ → Type 0
IsTextEnd before null end = (is_end (unwrap_or before 0) null end ≡ true) × IsU64 end

length-ends : (before : Option ℕ) (flags : List Bool) (ends : List ℕ) → EachFits IsTextEnd before flags ends → length ends ≡ length flags
length-ends before [] [] h = refl
length-ends before [] (end ∷ ends) h = absurd h
length-ends before (null ∷ flags) [] h = absurd h
length-ends before (null ∷ flags) (end ∷ ends) h = ap suc (length-ends (Some end) flags ends h.1)

length-spelled : (ends : List ℕ) → length (flat_map u64_spelling ends) ≡ length ends * 8
length-spelled [] = refl
length-spelled (end ∷ ends) = omega (arith, length-append (u64_spelling end) (flat_map u64_spelling ends), length-u64 end, length-spelled ends)

ends_tie : (flags : List Bool) → Ties (EachFits IsTextEnd None flags) (flat_map u64_spelling) (ends_at flags)
ends_tie flags =
    Ties-array IsTextEnd u64_spelling text_end_at (length flags * 8) flags (λ before null. Ties-checked (is_end (unwrap_or before 0) null) NotCanonical u64_tie)
    (λ ends h. length-spelled ends ∙ ap (λ (n : ℕ). n * 8) (length-ends None flags ends h))

-- the last end, by recursion

last_from : ℕ → List ℕ → ℕ
last_from before [] = before
last_from before (end ∷ ends) = last_from end ends

last_is : (end : ℕ) (ends : List ℕ) → last_of (end ∷ ends) ≡ last_from end ends
unfolding last_from
last_is end [] = refl
last_is end (next ∷ ends) =
    let here : suc (suc (length ends)) - 1 ≡ suc (length ends) = omega arith in
    let there : suc (length ends) - 1 ≡ length ends = omega arith in
    rw here (rw there at (last_is next ends))

last_of_is : (ends : List ℕ) → last_of ends ≡ last_from 0 ends
unfolding last_from
last_of_is [] = refl
last_of_is (end ∷ ends) = last_is end ends

last_fits : (before : Option ℕ) (flags : List Bool) (ends : List ℕ) → IsU64 (unwrap_or before 0) → EachFits IsTextEnd before flags ends → IsU64 (last_from (unwrap_or before 0) ends)
unfolding last_from
last_fits before [] [] wide h = wide
last_fits before [] (end ∷ ends) wide h = absurd h
last_fits before (null ∷ flags) [] wide h = absurd h
last_fits before (null ∷ flags) (end ∷ ends) wide h = last_fits (Some end) flags ends h.0.1 h.1

-- the last end of values is the number of their bytes
last-ends_from : (before : ℕ) (vs : List Value) → last_from before (ends_from before vs) ≡ before + length (flat_map bytes_of vs)
unfolding last_from
last-ends_from before [] = omega arith
last-ends_from before (v ∷ vs) = omega (arith, last-ends_from (before + length (bytes_of v)) vs, length-append (bytes_of v) (flat_map bytes_of vs))

-- ---- pieces

IsPiece : Bool × ℕ → Value → Type 0
IsPiece piece Null = piece.0 ≡ true
IsPiece piece (Int n) = ⊥
IsPiece piece (Text t) = (piece.0 ≡ false) × (is_utf8 t ≡ true) × (length t ≡ piece.1)

null_is : (size : ℕ) (v : Value) → IsPiece (true, size) v → Null ≡ v
unfolding IsPiece
null_is size Null h = refl
null_is size (Int n) h = absurd h
null_is size (Text t) h = absurd (let e = h.0 in cc)

text_parts : (size : ℕ) (v : Value) → IsPiece (false, size) v → (is_utf8 (bytes_of v) ≡ true) × (length (bytes_of v) ≡ size)
unfolding IsPiece
text_parts size Null h = absurd cc
text_parts size (Int n) h = absurd h
text_parts size (Text t) h = (h.1, h.2)

text_back : (size : ℕ) (v : Value) → IsPiece (false, size) v → Text (bytes_of v) ≡ v
unfolding IsPiece
text_back size Null h = absurd cc
text_back size (Int n) h = absurd h
text_back size (Text t) h = refl

piece_by : (null : Bool) (size : ℕ) → Ties (IsPiece (null, size)) bytes_of (piece_at (null, size))
unfolding piece_at IsPiece
piece_by true size =
    Ties-as (IsPiece (true, size)) bytes_of (λ v e. ap bytes_of e) (λ v e. subst (λ (x : Value). IsPiece (true, size) x) e refl) (null_is size) (Ties-made Null)
piece_by false size =
    Ties-map (IsPiece (false, size)) bytes_of (λ t. Text t) (utf8_tie size) (text_parts size) (λ t h. (refl, (refl, h.0, h.1))) (text_back size)

piece_tie : (piece : Bool × ℕ) → Ties (IsPiece piece) bytes_of (piece_at piece)
piece_tie piece = piece_by piece.0 piece.1

-- ---- values by their ends

abbrev pub AreTexts : List Bool → List Value → Type 0
AreTexts flags vs = (map is_null vs ≡ flags) × AllByRecursion (IsCell kinds.Text) vs

-- one value more, by its flag and its end
record Fits (before : ℕ) (null : Bool) (end : ℕ) (v : Value) : Type 0 where
  flag : is_null v ≡ null
  cell : IsCell kinds.Text v
  end_is : end ≡ before + length (bytes_of v)

fits_here : (before : ℕ) (null : Bool) (end : ℕ) (v : Value) → is_end before null end ≡ true → IsPiece (null, end - before) v → Fits before null end v
unfolding IsPiece
fits_here before true end Null e h = record { flag = refl; cell = tt; end_is = omega (arith, eqb-true end before e) }
fits_here before false end Null e h = absurd cc
fits_here before null end (Int n) e h = absurd h
fits_here before true end (Text t) e h = absurd (let f = h.0 in cc)
fits_here before false end (Text t) e h =
    let both = and_parts (leb before end) (leb end (before + 4096)) e in
    record {
      flag = refl;
      cell = (refl, record { short = omega (arith, leb-true _ _ both.1, h.2); utf8 = h.1 });
      end_is = omega (arith, leb-true _ _ both.0, h.2);
    }

here_fits : (before : ℕ) (v : Value) → IsCell kinds.Text v → (is_end before (is_null v) (before + length (bytes_of v)) ≡ true) × IsPiece (is_null v, (before + length (bytes_of v)) - before) v
unfolding IsPiece
here_fits before Null cell = (eq-eqb _ _ (omega arith), refl)
here_fits before (Int n) cell = absurd (let e = cell.0 in cc)
here_fits before (Text t) cell = (
  and_from (leb before (before + length t)) (leb (before + length t) (before + 4096)) (le-leb _ _ (omega arith)) (le-leb _ _ (omega (arith, cell.1.short))),
  (refl, cell.1.utf8, omega arith),
)

texts_fit : (before : Option ℕ) (other : Option Value) (flags : List Bool) (ends : List ℕ) (vs : List Value) → EachFits IsTextEnd before flags ends
    → EachFits (λ b piece v. IsPiece piece v) other (pieces_from (unwrap_or before 0) flags ends) vs → (ends ≡ ends_from (unwrap_or before 0) vs) × AreTexts flags vs
texts_fit before other [] [] [] e h = (refl, (refl, tt))
texts_fit before other [] [] (v ∷ vs) e h = absurd h
texts_fit before other [] (end ∷ ends) vs e h = absurd e
texts_fit before other (null ∷ flags) [] vs e h = absurd e
texts_fit before other (null ∷ flags) (end ∷ ends) [] e h = absurd h
texts_fit before other (null ∷ flags) (end ∷ ends) (v ∷ vs) e h =
    let one = fits_here (unwrap_or before 0) null end v e.0.0 h.0 in
    let others = texts_fit (Some end) (Some v) flags ends vs e.1 h.1 in
    let f = one.flag in let g = others.1.0 in let k = one.end_is in
    (ap (λ (es : List ℕ). end ∷ es) others.0 ∙ ap (λ (n : ℕ). n ∷ ends_from n vs) k, (cc, (one.cell, others.1.1)))

fit_ends : (before : Option ℕ) (vs : List Value) → AllByRecursion (IsCell kinds.Text) vs → IsU64 (unwrap_or before 0 + length (flat_map bytes_of vs)) → EachFits IsTextEnd before (map is_null vs) (ends_from (unwrap_or before 0) vs)
fit_ends before [] cells wide = tt
fit_ends before (v ∷ vs) cells wide =
    let size = length-append (bytes_of v) (flat_map bytes_of vs) in (
      ((here_fits (unwrap_or before 0) v cells.0).0, omega (arith, size, wide)),
      fit_ends (Some (unwrap_or before 0 + length (bytes_of v))) vs cells.1 (omega (arith, size, wide)),
    )

fit_texts : (before : ℕ) (other : Option Value) (vs : List Value) → AllByRecursion (IsCell kinds.Text) vs → EachFits (λ b piece v. IsPiece piece v) other (pieces_from before (map is_null vs) (ends_from before vs)) vs
fit_texts before other [] cells = tt
fit_texts before other (v ∷ vs) cells = ((here_fits before v cells.0).1, fit_texts (before + length (bytes_of v)) (Some v) vs cells.1)

abbrev pub TextsFit : List Bool → List Value → Type 0
TextsFit flags vs = AreTexts flags vs × IsU64 (length (flat_map bytes_of vs))

text_bytes : (flags : List Bool) (ends : List ℕ) (vs : List Value) → EachFits IsTextEnd None flags ends → EachFits (λ b piece v. IsPiece piece v) None (pieces_from 0 flags ends) vs
    → length (flat_map bytes_of vs) ≡ last_of ends
text_bytes flags ends vs fits h =
    let is = (texts_fit None None flags ends vs fits h).0 in
    sym (last_of_is ends ∙ ap (last_from 0) is ∙ last-ends_from 0 vs ∙ zero_front)
  where
    zero_front : 0 + length (flat_map bytes_of vs) ≡ length (flat_map bytes_of vs)
    zero_front = omega arith

pub texts_tie : (flags : List Bool) → Ties (TextsFit flags) (λ vs. flat_map u64_spelling (ends_from 0 vs) ++ flat_map bytes_of vs) (λ at bytes. ends_at flags at bytes >>= λ ends. pieces_at flags ends.0 ends.1 ends.2)
texts_tie flags =
    Ties-then (TextsFit flags) (flat_map bytes_of) (ends_from 0) (pieces_at flags) (ends_tie flags)
    (λ vs h. subst (λ (fs : List Bool). EachFits IsTextEnd None fs (ends_from 0 vs)) h.0.0 (fit_ends None vs h.0.1 (omega (arith, h.1))))
    (λ ends fits. Ties-as (λ vs. (ends ≡ ends_from 0 vs) × TextsFit flags vs) (flat_map bytes_of) (λ vs h. refl)
    (λ vs h. let all = texts_fit None None flags ends vs fits h in
    (all.0, (all.1, subst (λ (n : ℕ). IsU64 n) (sym (text_bytes flags ends vs fits h ∙ last_of_is ends)) (last_fits None flags ends (omega arith) fits))))
    (λ vs h. subst (λ (es : List ℕ). EachFits (λ b piece v. IsPiece piece v) None (pieces_from 0 flags es) vs) (sym h.0)
    (subst (λ (fs : List Bool). EachFits (λ b piece v. IsPiece piece v) None (pieces_from 0 fs (ends_from 0 vs)) vs) h.1.0.0 (fit_texts 0 None vs h.1.0.1)))
    (Ties-array (λ b piece v. IsPiece piece v) bytes_of (λ before piece. piece_at piece) (last_of ends) (pieces_from 0 flags ends) (λ b piece. piece_tie piece)
    (λ vs h. text_bytes flags ends vs fits h)))
