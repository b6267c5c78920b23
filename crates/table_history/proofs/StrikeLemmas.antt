-- Striking rows off one after the other is what the definition of a change says.
use Rattle.std.proofs.Common.{◌≡◌, ℕ, zero, suc, ◌+◌, ◌-◌, ◌<◌, ◌≤◌, true, false, List, [], ◌∷◌, length, get_or, set, replicate, ◌≢◌, None, Some, nat_eq, eq-eqb, refl, sym, ap, ◌∙◌, subst, arith, nat_lt, if◌then◌else◌}
use Rattle.std.proofs.lemmas.Cmp.{tied_itself, upto}
use Rattle.std.proofs.lemmas.List.{get_or-set_same, get_or-set_other}
use Rattle.std.specs.Cmp.{Equal-is}
use Rattle.std.specs.List.{AllByRecursion}
use Rattle.std.specs.Ordering.{is_eq, is_gt, is_lt, ordering_reverse}
use Rattle.std.specs.declared.cmp.Ordering.{Ordering}
use Rattle.std.specs.declared.cmp.Ordering.TheVariants.{Less, Equal, Greater}
use Rattle.std.specs.Prelude.{slice_get, slice_index_or}
use Rattle.std.specs.List.Sorted.{IsPartitionedBy}
use Rattle.std.specs.Option.{option_map_or}
use Rattle.sql_model.specs.declared.changes.MarkedRow.{MarkedRow}
use Rattle.sql_model.specs.Changes.{marked_cmp, without_one, without}
use Rattle.sql_model.proofs.MarkOrder.{marked_total, marked_tells}
use Rattle.table_history.specs.Strikes.{same_marked, times, less, struck, IsAscending, below, is_at, remaining}

pub same_itself : (x : MarkedRow) → same_marked x x ≡ true
same_itself x = ap is_eq (tied_itself marked_total x)

pub not_above_itself : (x : MarkedRow) → is_gt (marked_cmp x x) ≡ false
not_above_itself x = ap is_gt (tied_itself marked_total x)

pub same_tells : (x y : MarkedRow) → same_marked x y ≡ true → x ≡ y
same_tells x y e = marked_tells x y ((Equal-is (marked_cmp x y)).0 e)

-- one time more for a row
abbrev pub more : MarkedRow → (MarkedRow → ℕ) → MarkedRow → ℕ
more x count y = if same_marked x y then count y + 1 else count y

less_more : (x : MarkedRow) (count : MarkedRow → ℕ) (y : MarkedRow) → less x (more x count) y ≡ count y
less_more x count y =
    elim (same_marked x y) as (λ b. (if b then (if b then count y + 1 else count y) - 1 else (if b then count y + 1 else count y)) ≡ count y) [
      | true ↦ omega arith
      | false ↦ refl
    ]

-- to strike one row and to have one more of another may change places
less_other : (r x : MarkedRow) (count : MarkedRow → ℕ) → same_marked r x ≡ false → (y : MarkedRow) → less x (more r count) y ≡ more r (less x count) y
less_other r x count differ y =
    elim (same_marked x y) as (λ b. same_marked x y ≡ b → (if b then (if same_marked r y then count y + 1 else count y) - 1 else (if same_marked r y then count y + 1 else count y))
    ≡ (if same_marked r y then (if b then count y - 1 else count y) + 1 else (if b then count y - 1 else count y))) [
      | true ↦ λ e.
          let same : same_marked r y ≡ false = ap (same_marked r) (sym (same_tells x y e)) ∙ differ in
          rw same refl
      | false ↦ λ e. refl
    ] refl

positive : (n : ℕ) → nat_lt 0 (n + 1) ≡ true
positive n = grind arith

struck_more : (r : MarkedRow) (xs : List MarkedRow) (count : MarkedRow → ℕ) → struck (more r count) xs ≡ struck count (without_one marked_cmp xs r)
struck_more r [] count = refl
struck_more r (x ∷ xs) count =
    elim (same_marked r x) as (λ b. same_marked r x ≡ b → (if nat_lt 0 (if b then count x + 1 else count x) then struck (less x (more r count)) xs else x ∷ struck (more r count) xs)
    ≡ struck count (if b then xs else x ∷ without_one marked_cmp xs r)) [
      | true ↦ λ e.
          let is : r ≡ x = same_tells r x e in
          let same : less x (more r count) ≡ count = subst (λ (z : MarkedRow). less x (more z count) ≡ count) (sym is) (λ i y. less_more x count y i) in
          rw (positive (count x)) (ap (λ (c : MarkedRow → ℕ). struck c xs) same)
      | false ↦ λ e.
          let swap : less x (more r count) ≡ more r (less x count) = λ i y. less_other r x count e y i in
          elim (nat_lt 0 (count x)) as (λ b. (if b then struck (less x (more r count)) xs else x ∷ struck (more r count) xs)
          ≡ (if b then struck (less x count) (without_one marked_cmp xs r) else x ∷ struck count (without_one marked_cmp xs r))) [
            | true ↦ ap (λ (c : MarkedRow → ℕ). struck c xs) swap ∙ struck_more r xs (less x count)
            | false ↦ ap (λ (ms : List MarkedRow). x ∷ ms) (struck_more r xs count)
          ]
    ] refl

struck_none : (xs : List MarkedRow) → struck (times []) xs ≡ xs
struck_none [] = refl
struck_none (x ∷ xs) = ap (λ (ms : List MarkedRow). x ∷ ms) (struck_none xs)

-- what is left after all the removed rows are struck off
pub struck_all : (removed xs : List MarkedRow) → struck (times removed) xs ≡ without marked_cmp xs removed
struck_all [] xs = struck_none xs
struck_all (r ∷ rs) xs = struck_more r xs (times rs) ∙ struck_all rs (without_one marked_cmp xs r)

-- Where rows ascend, those that equal one stand behind those that are below it, one after the other.

none_times : (x : MarkedRow) (rows : List MarkedRow) → AllByRecursion (λ r. same_marked r x ≡ false) rows → times rows x ≡ 0
none_times x [] all = refl
none_times x (r ∷ rs) all = rw all.0 (none_times x rs all.1)

none_at : (x : MarkedRow) (rows : List MarkedRow) → AllByRecursion (λ r. same_marked r x ≡ false) rows → (place : ℕ) → is_at x rows place ≡ false
none_at x [] all zero = refl
none_at x [] all (suc place) = refl
none_at x (r ∷ rs) all zero = all.0
none_at x (r ∷ rs) all (suc place) = none_at x rs all.1 place

lt_is : (o : Ordering) → is_lt o ≡ true → o ≡ Less
lt_is Less e = refl
lt_is Equal e = absurd cc
lt_is Greater e = absurd cc

not_both : (o : Ordering) → is_gt o ≡ false → is_lt (ordering_reverse o) ≡ false
not_both Less e = refl
not_both Equal e = refl
not_both Greater e = absurd cc

apart : (o : Ordering) → is_gt o ≡ true → is_eq o ≡ false
apart Less e = absurd cc
apart Equal e = absurd cc
apart Greater e = refl

-- what isn't above what is below x is below x
lt_before : (r m x : MarkedRow) → is_gt (marked_cmp r m) ≡ false → is_lt (marked_cmp m x) ≡ true → is_lt (marked_cmp r x) ≡ true
lt_before r m x up e =
    let less : marked_cmp m x ≡ Less = lt_is (marked_cmp m x) e in
    elim (marked_cmp r m) as (λ o. marked_cmp r m ≡ o → is_gt o ≡ false → is_lt (marked_cmp r x) ≡ true) [
      | Less ↦ λ s up. ap is_lt (marked_total.trans r m x s less)
      | Equal ↦ λ s up. ap is_lt (marked_total.congr r m x s ∙ less)
      | Greater ↦ λ s up. absurd cc
    ] refl up

gt_behind : (r m x : MarkedRow) → is_gt (marked_cmp r x) ≡ true → is_gt (marked_cmp r m) ≡ false → is_gt (marked_cmp m x) ≡ true
gt_behind r m x above up =
    elim (is_gt (marked_cmp m x)) as (λ b. is_gt (marked_cmp m x) ≡ b → b ≡ true) [
      | true ↦ λ e. refl
      | false ↦ λ e. let not : is_gt (marked_cmp r x) ≡ false = upto marked_total r m x up e in absurd cc
    ] refl

all_differ : (r x : MarkedRow) → is_gt (marked_cmp r x) ≡ true → (rs : List MarkedRow) → AllByRecursion (λ m. is_gt (marked_cmp r m) ≡ false) rs → AllByRecursion (λ m. same_marked m x ≡ false) rs
all_differ r x above [] all = tt
all_differ r x above (m ∷ ms) all = (apart (marked_cmp m x) (gt_behind r m x above all.0), all_differ r x above ms all.1)

none_below : (x : MarkedRow) (rs : List MarkedRow) → AllByRecursion (λ m. is_gt (marked_cmp x m) ≡ false) rs → below x rs ≡ 0
none_below x [] all = refl
none_below x (m ∷ ms) all = let not : is_lt (marked_cmp m x) ≡ false = ap is_lt (marked_total.antisymm m x) ∙ not_both (marked_cmp x m) all.0 in rw not refl

below_more : (n j : ℕ) → (n + 1) + j ≡ suc (n + j)
below_more n j = omega arith

zero_more : (j : ℕ) → 0 + j ≡ j
zero_more j = omega arith

nat_lt_more : (j n : ℕ) → nat_lt (suc j) (n + 1) ≡ nat_lt j n
nat_lt_more j n = grind arith

nat_lt_none : (j : ℕ) → false ≡ nat_lt j 0
nat_lt_none j = grind arith

at_equal : (x r : MarkedRow) (rs : List MarkedRow) → marked_cmp r x ≡ Equal → below x rs ≡ 0 → ((j : ℕ) → is_at x rs (below x rs + j) ≡ nat_lt j (times rs x)) →
    (j : ℕ) → is_at x (r ∷ rs) j ≡ nat_lt j (times rs x + 1)
at_equal x r rs e none rest zero = ap is_eq e ∙ sym (positive (times rs x))
at_equal x r rs e none rest (suc j) = ap (is_at x rs) (sym (zero_more j)) ∙ ap (λ (n : ℕ). is_at x rs (n + j)) (sym none) ∙ rest j ∙ sym (nat_lt_more j (times rs x))

-- from the first place that isn't below x on, so many places have it as it stands in the list
pub fills : (x : MarkedRow) (rows : List MarkedRow) → IsAscending rows → (j : ℕ) → is_at x rows (below x rows + j) ≡ nat_lt j (times rows x)
fills x [] up j = none_at x [] tt (0 + j) ∙ nat_lt_none j
fills x (r ∷ rs) up j =
    elim (marked_cmp r x) as (λ o. marked_cmp r x ≡ o → is_at x (r ∷ rs) ((if is_lt o then below x rs + 1 else 0) + j) ≡ nat_lt j (if is_eq o then times rs x + 1 else times rs x)) [
      | Less ↦ λ e. ap (is_at x (r ∷ rs)) (below_more (below x rs) j) ∙ fills x rs up.1 j
      | Equal ↦ λ e.
          let is : r ≡ x = marked_tells r x e in
          let rest : AllByRecursion (λ m. is_gt (marked_cmp x m) ≡ false) rs = subst (λ (z : MarkedRow). AllByRecursion (λ m. is_gt (marked_cmp z m) ≡ false) rs) is up.0 in
          ap (is_at x (r ∷ rs)) (zero_more j) ∙ at_equal x r rs e (none_below x rs rest) (fills x rs up.1) j
      | Greater ↦ λ e.
          let above : is_gt (marked_cmp r x) ≡ true = ap is_gt e in
          let differ : AllByRecursion (λ m. same_marked m x ≡ false) (r ∷ rs) = (ap is_eq e, all_differ r x above rs up.0) in
          let none : times rs x ≡ 0 = none_times x rs differ.1 in
          none_at x (r ∷ rs) differ (0 + j) ∙ nat_lt_none j ∙ ap (nat_lt j) (sym none)
    ] refl

-- the place at which the rows change from those below x to the others
pub point_below : (x : MarkedRow) (rows : List MarkedRow) (n : ℕ) → n ≤ length rows → ((k : ℕ) (d : MarkedRow) → k < n → is_lt (marked_cmp (slice_index_or rows k d) x) ≡ true) →
    ((k : ℕ) (d : MarkedRow) → n ≤ k → k < length rows → is_lt (marked_cmp (slice_index_or rows k d) x) ≡ false) → n ≡ below x rows
point_below x [] n within front rest = omega arith
point_below x (r ∷ rs) zero within front rest = let not : is_lt (marked_cmp r x) ≡ false = rest 0 r (omega arith) (omega arith) in rw not refl
point_below x (r ∷ rs) (suc n) within front rest =
    let first : is_lt (marked_cmp r x) ≡ true = front 0 r (omega arith) in
    let more : n ≡ below x rs = point_below x rs n (omega arith) (λ k d h. front (suc k) d (omega arith)) (λ k d h less. rest (suc k) d (omega arith) (omega arith)) in
    rw first (omega (arith, more))

up_from : (r : MarkedRow) (rs : List MarkedRow) → AllByRecursion (λ m. is_gt (marked_cmp r m) ≡ false) rs → (j : ℕ) (d : MarkedRow) → j < length rs → is_gt (marked_cmp r (slice_index_or rs j d)) ≡ false
up_from r [] all j d less = absurd (omega arith)
up_from r (m ∷ ms) all zero d less = all.0
up_from r (m ∷ ms) all (suc j) d less = up_from r ms all.1 j d (omega arith)

-- no row below x stands behind one that isn't
pub parted : (x : MarkedRow) (rows : List MarkedRow) → IsAscending rows → IsPartitionedBy (λ m. is_lt (marked_cmp m x)) rows
parted x [] up i j d le less e = absurd (omega arith)
parted x (r ∷ rs) up zero zero d le less e = e
parted x (r ∷ rs) up zero (suc j) d le less e = lt_before r (slice_index_or rs j d) x (up_from r rs up.0 j d (omega arith)) e
parted x (r ∷ rs) up (suc i) zero d le less e = absurd (omega arith)
parted x (r ∷ rs) up (suc i) (suc j) d le less e = parted x rs up.1 i j d (omega arith) (omega arith) e

-- how often a row is still to be struck off, at the place of the first that equals it

pub none_remaining : (x : MarkedRow) (rows : List MarkedRow) (used : List ℕ) → IsAscending rows → is_at x rows (below x rows + get_or used (below x rows) 0) ≡ false → nat_lt 0 (remaining rows used x) ≡ false
none_remaining x rows used up not =
    let fill : is_at x rows (below x rows + get_or used (below x rows) 0) ≡ nat_lt (get_or used (below x rows) 0) (times rows x) = fills x rows up (get_or used (below x rows) 0) in
    rest (times rows x) (get_or used (below x rows) 0) (sym fill ∙ not)
  where
    rest : (n u : ℕ) → nat_lt u n ≡ false → nat_lt 0 (n - u) ≡ false
    rest n u e = grind arith

pub some_remaining : (x : MarkedRow) (rows : List MarkedRow) (used : List ℕ) → IsAscending rows → is_at x rows (below x rows + get_or used (below x rows) 0) ≡ true → nat_lt 0 (remaining rows used x) ≡ true
some_remaining x rows used up here =
    let fill : is_at x rows (below x rows + get_or used (below x rows) 0) ≡ nat_lt (get_or used (below x rows) 0) (times rows x) = fills x rows up (get_or used (below x rows) 0) in
    rest (times rows x) (get_or used (below x rows) 0) (sym fill ∙ here)
  where
    rest : (n u : ℕ) → nat_lt u n ≡ true → nat_lt 0 (n - u) ≡ true
    rest n u e = grind arith

-- two rows that stand at one place are one
one_place : (x y : MarkedRow) (rows : List MarkedRow) (place : ℕ) → is_at x rows place ≡ true → is_at y rows place ≡ true → same_marked x y ≡ true
one_place x y rows place at_x at_y =
    elim (slice_get rows place) as (λ o. option_map_or (λ r. same_marked r x) o false ≡ true → option_map_or (λ r. same_marked r y) o false ≡ true → same_marked x y ≡ true) [
      | None ↦ λ p q. absurd cc
      | Some r ↦ λ p q. ap (λ (z : MarkedRow). same_marked z y) (sym (same_tells r x p)) ∙ q
    ] at_x at_y

some_of : (n u : ℕ) → nat_lt u n ≡ true → nat_lt 0 n ≡ true
some_of n u e = grind arith

same_number : (m n : ℕ) → nat_eq m n ≡ true → m ≡ n
same_number m n e = grind arith

zero_of : (n : ℕ) → nat_lt 0 n ≡ false → n ≡ 0
zero_of n e = grind arith

-- one more row is struck off
pub remaining_less : (x : MarkedRow) (rows : List MarkedRow) (used : List ℕ) → IsAscending rows → below x rows < length used → is_at x rows (below x rows + get_or used (below x rows) 0) ≡ true → (y : MarkedRow) →
    remaining rows (set used (below x rows) (get_or used (below x rows) 0 + 1)) y ≡ less x (remaining rows used) y
remaining_less x rows used up within here y =
    let at = below x rows in
    let u = get_or used at 0 in
    elim (same_marked x y) as (λ b. same_marked x y ≡ b → remaining rows (set used at (u + 1)) y ≡ (if b then remaining rows used y - 1 else remaining rows used y)) [
      | true ↦ λ e. subst (λ (z : MarkedRow). remaining rows (set used at (u + 1)) z ≡ remaining rows used z - 1) (same_tells x y e)
          (let same = get_or-set_same used at (u + 1) 0 within in rw same (omega arith))
      | false ↦ λ e.
          elim (nat_eq (below y rows) at) as (λ b. nat_eq (below y rows) at ≡ b → remaining rows (set used at (u + 1)) y ≡ remaining rows used y) [
            | true ↦ λ q.
                let where_y : below y rows ≡ at = same_number (below y rows) at q in
                let none : times rows y ≡ 0 = none_there where_y e in
                rw none (omega arith)
            | false ↦ λ q.
                let other : below y rows ≢ at = λ same. absurd (let t : nat_eq (below y rows) at ≡ true = eq-eqb (below y rows) at same in cc) in
                ap (λ (n : ℕ). times rows y - n) (get_or-set_other used at (below y rows) (u + 1) 0 other)
          ] refl
    ] refl
  where
    none_there : below y rows ≡ below x rows → same_marked x y ≡ false → times rows y ≡ 0
    none_there same differ =
        let first_x : is_at x rows (below x rows + 0) ≡ nat_lt 0 (times rows x) = fills x rows up 0 in
        let there : nat_lt (get_or used (below x rows) 0) (times rows x) ≡ true = sym (fills x rows up (get_or used (below x rows) 0)) ∙ here in
        let first_y : is_at y rows (below x rows + 0) ≡ nat_lt 0 (times rows y) = ap (λ (n : ℕ). is_at y rows (n + 0)) (sym same) ∙ fills y rows up 0 in
        elim (nat_lt 0 (times rows y)) as (λ b. nat_lt 0 (times rows y) ≡ b → times rows y ≡ 0) [
          | true ↦ λ some.
              let one : same_marked x y ≡ true = one_place x y rows (below x rows + 0) (first_x ∙ some_of (times rows x) (get_or used (below x rows) 0) there) (first_y ∙ some) in
              absurd cc
          | false ↦ λ none. zero_of (times rows y) none
        ] refl

-- past the last row none is
pub past_remaining : (x : MarkedRow) (rows : List MarkedRow) (used : List ℕ) → IsAscending rows → below x rows ≡ length rows → nat_lt 0 (remaining rows used x) ≡ false
past_remaining x rows used up past = none_remaining x rows used up (beyond rows (below x rows + get_or used (below x rows) 0) (omega (arith, past)))
  where
    beyond : (rs : List MarkedRow) (place : ℕ) → length rs ≤ place → is_at x rs place ≡ false
    beyond [] zero le = refl
    beyond [] (suc place) le = refl
    beyond (r ∷ rs) zero le = absurd (omega arith)
    beyond (r ∷ rs) (suc place) le = beyond rs place (omega arith)

-- so often it was struck off at most

pub within_set : (n : ℕ) (used : List ℕ) (place m : ℕ) → AllByRecursion (λ k. k ≤ n) used → m ≤ n → AllByRecursion (λ k. k ≤ n) (set used place m)
within_set n [] zero m all le = tt
within_set n [] (suc place) m all le = tt
within_set n (k ∷ ks) zero m all le = (le, all.1)
within_set n (k ∷ ks) (suc place) m all le = (all.0, within_set n ks place m all.1 le)

pub less_than_all : (x : MarkedRow) (rows : List MarkedRow) (used : List ℕ) → IsAscending rows → is_at x rows (below x rows + get_or used (below x rows) 0) ≡ true → get_or used (below x rows) 0 + 1 ≤ length rows
less_than_all x rows used up here =
    let there : nat_lt (get_or used (below x rows) 0) (times rows x) ≡ true = sym (fills x rows up (get_or used (below x rows) 0)) ∙ here in
    let most : times rows x ≤ length rows = at_most rows in
    counted (get_or used (below x rows) 0) (times rows x) (length rows) there most
  where
    at_most : (rs : List MarkedRow) → times rs x ≤ length rs
    at_most [] = omega arith
    at_most (r ∷ rs) = elim (same_marked r x) as (λ b. (if b then times rs x + 1 else times rs x) ≤ suc (length rs)) [
      | true ↦ omega (arith, at_most rs)
      | false ↦ omega (arith, at_most rs)
    ]

    counted : (u t n : ℕ) → nat_lt u t ≡ true → t ≤ n → u + 1 ≤ n
    counted u t n e le = grind arith

-- before the first row is struck off

pub unused_all : (n m : ℕ) → AllByRecursion (λ k. k ≤ n) (replicate m 0)
unused_all n zero = tt
unused_all n (suc m) = (omega arith, unused_all n m)

pub unused_remaining : (rows : List MarkedRow) (n : ℕ) → remaining rows (replicate n 0) ≡ times rows
unused_remaining rows n = λ i x. each x i
  where
    at_zero : (n place : ℕ) → ◌≡◌ {A = ℕ} (get_or (replicate n 0) place 0) 0
    at_zero zero zero = refl
    at_zero zero (suc place) = refl
    at_zero (suc n) zero = refl
    at_zero (suc n) (suc place) = at_zero n place

    each : (x : MarkedRow) → remaining rows (replicate n 0) x ≡ times rows x
    each x = let none = at_zero n (below x rows) in omega (arith, none)

pub same_place : (x : MarkedRow) (rows : List MarkedRow) (used : List ℕ) (place u : ℕ) → place ≡ below x rows → u ≡ get_or used place 0 →
    is_at x rows (place + u) ≡ is_at x rows (below x rows + get_or used (below x rows) 0)
same_place x rows used place u is used_is =
    ap (λ (n : ℕ). is_at x rows (place + n)) used_is ∙ ap (λ (n : ℕ). is_at x rows (n + get_or used n 0)) is
