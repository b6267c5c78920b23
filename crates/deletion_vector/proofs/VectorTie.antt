-- Vectors are tied to their spelling.
use Rattle.std.proofs.Common.{◌≡◌, ℕ, zero, suc, ◌*◌, true, List, [], ◌∷◌, ◌++◌, length, Option, Some, None, replicate, refl, sym, ap, append_assoc, arith}
use Rattle.std.specs.Prelude.{codes}
use Rattle.std.specs.List.{flat_map, AllByRecursion}
use Rattle.std.proofs.lemmas.List.{length-append}
use Rattle.std.proofs.lemmas.List.Elements.{All-from_recursion, recursion_from_All}
use Rattle.lake_values.specs.declared.faults.BadKind.TheVariants.{NotCanonical}
use Rattle.lake_values.specs.Spelling.{u64_spelling, IsU64}
use Rattle.lake_values.specs.Reading.{◌>>=◌, u64_at}
use Rattle.lake_values.proofs.Ties.{Ties, Ties-then, Ties-as, Ties-checked, Ties-array, EachFits}
use Rattle.lake_values.proofs.FieldTies.{u64_tie, magic_tie, length-u64}
use Rattle.deletion_vector.specs.Positions.{IsVector}
use Rattle.deletion_vector.specs.Spelling.{vector_spelling, vector_at, positions_at, position_at, is_above}
use Rattle.deletion_vector.proofs.Ascending.{Ascends, Ascends-from_increasing, IsStrictlyIncreasing-from_ascends}

abbrev IsPosition : Option ℕ → Unit {0} → ℕ → Type 0
IsPosition before place p = (is_above before p ≡ true) × IsU64 p

position_tie : (before : Option ℕ) (place : Unit {0}) → Ties (IsPosition before place) u64_spelling (position_at before place)
position_tie before place = Ties-checked (is_above before) NotCanonical u64_tie

-- positions of which there are so many
abbrev ArePositions : Option ℕ → ℕ → List ℕ → Type 0
ArePositions before count ps = (length ps ≡ count) × Ascends before ps × AllByRecursion IsU64 ps

each_fits : (before : Option ℕ) (count : ℕ) (ps : List ℕ) → ArePositions before count ps → EachFits IsPosition before (replicate count (tt {0})) ps
each_fits before zero [] h = tt
each_fits before zero (p ∷ ps) h = absurd (omega (arith, h.0))
each_fits before (suc count) [] h = absurd (omega (arith, h.0))
each_fits before (suc count) (p ∷ ps) h = ((h.1.0, h.2.0), each_fits (Some p) count ps (omega (arith, h.0), h.1.1, h.2.1))

are_positions : (before : Option ℕ) (count : ℕ) (ps : List ℕ) → EachFits IsPosition before (replicate count (tt {0})) ps → ArePositions before count ps
are_positions before zero [] h = (refl, tt, tt)
are_positions before zero (p ∷ ps) h = absurd h
are_positions before (suc count) [] h = absurd h
are_positions before (suc count) (p ∷ ps) h =
    let others = are_positions (Some p) count ps h.1 in
    (ap suc others.0, (h.0.0, others.1), (h.0.1, others.2))

length-positions : (ps : List ℕ) → length (flat_map u64_spelling ps) ≡ length ps * 8
length-positions [] = refl
length-positions (p ∷ ps) = omega (arith, length-append (u64_spelling p) (flat_map u64_spelling ps), length-u64 p, length-positions ps)

positions_tie : (count : ℕ) → Ties (ArePositions None count) (flat_map u64_spelling) (positions_at count)
positions_tie count =
    Ties-as (ArePositions None count) (flat_map u64_spelling) (λ ps h. refl) (are_positions None count) (each_fits None count)
    (Ties-array IsPosition u64_spelling position_at (count * 8) (replicate count tt) position_tie
    (λ ps h. let n = (are_positions None count ps h).0 in rw (length-positions ps, n) refl))

pub vector_tie : Ties IsVector vector_spelling vector_at
unfolding vector_at
vector_tie =
    Ties-as IsVector vector_spelling (λ ps h. sym (append_assoc (codes "LDV1") (u64_spelling (length ps)) (flat_map u64_spelling ps))) (λ ps h. h) (λ ps h. h)
    (magic_tie (codes "LDV1") IsVector (λ ps. u64_spelling (length ps) ++ flat_map u64_spelling ps) (λ at bytes. u64_at at bytes >>= λ count. positions_at count.0 count.1 count.2)
    (Ties-then IsVector (flat_map u64_spelling) length positions_at u64_tie (λ ps h. h.count)
    (λ count wide. Ties-as (λ ps. (count ≡ length ps) × IsVector ps) (flat_map u64_spelling) (λ ps h. refl)
    (λ ps h. (sym h.0, record { ascending = IsStrictlyIncreasing-from_ascends ps h.1; wide = All-from_recursion IsU64 ps h.2; count = omega (arith, h.0) }))
    (λ ps h. (sym h.0, Ascends-from_increasing ps h.1.ascending, recursion_from_All IsU64 ps h.1.wide))
    (positions_tie count))))
