-- The first row of a group has its key.
use Rattle.std.proofs.Common.{◌≡◌, ℕ, Bool, true, false, ◌||◌, cond, List, [], ◌∷◌, ◌++◌, length, map, refl, sym, ap, ◌∙◌, arith}
use Rattle.std.specs.Prelude.{◌==◌}
use Rattle.std.specs.List.{AllByRecursion}
use Rattle.std.proofs.lemmas.Bool.{eqb-true}
use Rattle.sql_model.specs.Groups.{same_row, distinct, key_of, group_keys, members}
use Rattle.op_aggregate.specs.Grouping.{first_key}
use Rattle.op_aggregate.proofs.Distinct.{Row, same_itself, same_tells, among}
use Rattle.op_aggregate.proofs.Kept.{Rows, map_of_map}
use Rattle.op_aggregate.proofs.Parts.{all_members, all_distinct, map_agrees_on, wide_keys_of}

-- ---- with and without group columns

pub one_group_alone : (columns : List ℕ) (rows : Rows) → true ≡ (length columns == 0) → map (λ k. members columns k rows) (group_keys columns rows) ≡ rows ∷ []
one_group_alone [] rows e = ap (λ (g : Rows). g ∷ []) (all_members rows)
one_group_alone (c ∷ cs) rows e =
    let empty : length (c ∷ cs) ≡ 0 = eqb-true (length (c ∷ cs)) 0 (sym e) in
    absurd (omega arith)

pub groups_by_key : (columns : List ℕ) (rows : Rows) → false ≡ (length columns == 0) → map (λ k. members columns k rows) (group_keys columns rows) ≡ map (λ k. members columns k rows) (distinct (map (key_of columns) rows))
groups_by_key [] rows e =
    let never : false ≡ true = e in
    absurd (cc)
groups_by_key (c ∷ cs) rows e = refl

-- ---- rows among others

or_true : (a b : Bool) → b ≡ true → (a || b) ≡ true
or_true true b e = refl
or_true false b e = e

each_among : (xs ys : Rows) → ((k : Row) → among ys k ≡ true → among xs k ≡ true) → AllByRecursion (λ k. among xs k ≡ true) ys
each_among xs [] within = tt
each_among xs (y ∷ ys) within = (within y (ap (λ b. b || among ys y) (same_itself y)), each_among xs ys (λ k e. within k (or_true (same_row y k) (among ys k) e)))

module _ (columns : List ℕ) where
  lead_step : (k r : Row) (rest : Rows) (b c : Bool) → same_row k (key_of columns r) ≡ b → same_row (key_of columns r) k ≡ c → (c || among (map (key_of columns) rest) k) ≡ true
      → (among (map (key_of columns) rest) k ≡ true → first_key columns (members columns k rest) ≡ k) → first_key columns (cond b (r ∷ members columns k rest) (members columns k rest)) ≡ k
  lead_step k r rest true c e f here behind = sym (same_tells k (key_of columns r) e)
  lead_step k r rest false true e f here behind =
      let same : key_of columns r ≡ k = same_tells (key_of columns r) k f in
      let both : same_row k (key_of columns r) ≡ true = ap (same_row k) same ∙ same_itself k in
      let never : false ≡ true = sym e ∙ both in
      absurd (cc)
  lead_step k r rest false false e f here behind = behind here

  lead : (k : Row) (rows : Rows) → among (map (key_of columns) rows) k ≡ true → first_key columns (members columns k rows) ≡ k
  lead k [] e = absurd (cc)
  lead k (r ∷ rows) e = lead_step k r rows (same_row k (key_of columns r)) (same_row (key_of columns r) k) refl refl e (lead k rows)

  -- the first rows of a group have its key
  abbrev pub Leads : Rows → Row → Type 0
  Leads rows k = first_key columns (members columns k rows) ≡ k

  leads_from : (rows : Rows) (ks : Rows) → AllByRecursion (λ k. among (map (key_of columns) rows) k ≡ true) ks → AllByRecursion (Leads rows) ks
  leads_from rows [] all = tt
  leads_from rows (k ∷ ks) all = (lead k rows all.0, leads_from rows ks all.1)

no_columns_lead : (group : Rows) → first_key [] group ≡ []
no_columns_lead [] = refl
no_columns_lead (r ∷ group) = refl

pub keys_lead : (columns : List ℕ) (rows : Rows) → AllByRecursion (Leads columns rows) (group_keys columns rows)
keys_lead [] rows = (no_columns_lead (members [] [] rows), tt)
keys_lead (c ∷ cs) rows =
    all_distinct (Leads (c ∷ cs) rows) (map (key_of (c ∷ cs)) rows) (leads_from (c ∷ cs) rows (map (key_of (c ∷ cs)) rows) (each_among (map (key_of (c ∷ cs)) rows) (map (key_of (c ∷ cs)) rows) (λ k e. e)))

pub keys_wide : (columns : List ℕ) (rows : Rows) → AllByRecursion (λ k. length k ≡ length columns) (group_keys columns rows)
keys_wide [] rows = (refl, tt)
keys_wide (c ∷ cs) rows = all_distinct (λ k. length k ≡ length (c ∷ cs)) (map (key_of (c ∷ cs)) rows) (wide_keys_of (c ∷ cs) rows)

-- the groups by the keys
abbrev pub groups_of : List ℕ → Rows → List Rows
groups_of columns rows = map (λ k. members columns k rows) (group_keys columns rows)

-- what stands behind the keys, of each group
pub keyed_rows : (columns : List ℕ) (rows : Rows) (tail : Rows → Row) → map (λ k. k ++ tail (members columns k rows)) (group_keys columns rows) ≡ map (λ g. first_key columns g ++ tail g) (groups_of columns rows)
keyed_rows columns rows tail =
    map_agrees_on (Leads columns rows) (λ k. k ++ tail (members columns k rows)) (λ k. first_key columns (members columns k rows) ++ tail (members columns k rows)) (λ k leads. ap (λ (l : Row). l ++ tail (members columns k rows)) (sym leads)) (group_keys columns rows) (keys_lead columns rows)
    ∙ sym (map_of_map (λ g. first_key columns g ++ tail g) (λ k. members columns k rows) (group_keys columns rows))

-- the first keys have the width of the columns
wide_from : (columns : List ℕ) (rows ks : Rows) → AllByRecursion (Leads columns rows) ks → AllByRecursion (λ k. length k ≡ length columns) ks → AllByRecursion (λ g. length (first_key columns g) ≡ length columns) (map (λ k. members columns k rows) ks)
wide_from columns rows [] leads wide = tt
wide_from columns rows (k ∷ ks) leads wide = (ap length leads.0 ∙ wide.0, wide_from columns rows ks leads.1 wide.1)

pub first_keys_wide : (columns : List ℕ) (rows : Rows) → AllByRecursion (λ g. length (first_key columns g) ≡ length columns) (groups_of columns rows)
first_keys_wide columns rows = wide_from columns rows (group_keys columns rows) (keys_lead columns rows) (keys_wide columns rows)
