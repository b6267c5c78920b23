-- The rows of a catalogue up to a version, and the files that they give.
use Rattle.std.proofs.Common.{◌≡◌, ℕ, ◌+◌, ◌≤◌, Bool, true, false, ◌&&◌, cond, List, [], ◌∷◌, ◌++◌}
use Rattle.std.proofs.Common.{Option, None, Some, filter, refl, sym, ap, ◌∙◌, arith, if◌then◌else◌}
use Rattle.std.proofs.lemmas.Bool.{leb-true}
use Rattle.std.specs.Prelude.{nat_le, nat_lt, IfSome}
use Rattle.std.specs.List.{AllByRecursion}
use Rattle.std.specs.Option.{option_map_or}
use Rattle.lake_values.specs.Texts.{same_text}
use Rattle.sql_model.proofs.Lists.{all_weaker, all_filter}
use Rattle.sql_model.proofs.Removal.{filter_all, filter_none}
use Rattle.lake_values.proofs.SameTexts.{same_text_is}
use Rattle.table_snapshot.specs.declared.files.FileRow.{FileRow}
use Rattle.table_snapshot.specs.Files.{items_of, replay}
use Rattle.file_laws.specs.Stands.{AreInOrder, Checkpoint, files_at, is_base, newer, newest_check}
use Rattle.file_laws.specs.Stands.{rows_of, rows_to, rows_behind}
use Rattle.file_laws.specs.StandsLaws.{ChecksGiveFiles}
use Rattle.file_laws.specs.Touching.{Row, TouchInTurn, replay_rows}
use Rattle.file_laws.proofs.TouchLaw.{both_true}

pub rows_one_by_one : (xs ys : List Row) (files : List FileRow) → replay_rows (xs ++ ys) files ≡
    replay_rows ys (replay_rows xs files)
rows_one_by_one [] ys files = refl
rows_one_by_one (r ∷ rs) ys files =
    rows_one_by_one rs ys (replay r.seq (items_of r.table r.items) files)

-- in turn

pub turns_append : (table : List ℕ) (xs ys : List Row) (files : List FileRow) → TouchInTurn table
    files xs → TouchInTurn table (replay_rows xs files) ys → TouchInTurn table files (xs ++ ys)
turns_append table [] ys files turns more = more
turns_append table (r ∷ rs) ys files turns more =
    (turns.0, turns_append table rs ys (replay r.seq (items_of r.table r.items) files) turns.1 more)

pub turns_behind : (table : List ℕ) (xs ys : List Row) (files : List FileRow) → TouchInTurn table
    files (xs ++ ys) → TouchInTurn table (replay_rows xs files) ys
turns_behind table [] ys files turns = turns
turns_behind table (r ∷ rs) ys files turns =
    turns_behind table rs ys (replay r.seq (items_of r.table r.items) files) turns.1

-- order

pub order_filter : (q : Row → Bool) (rows : List Row) → AreInOrder rows → AreInOrder (filter q rows)
order_filter q [] order = tt
order_filter q (r ∷ rs) order =
    elim (q r) as (λ b. AreInOrder (cond b (r ∷ filter q rs) (filter q rs))) [
      | true ↦ (all_filter (λ s. r.seq ≤ s.seq) q rs order.0, order_filter q rs order.1)
      | false ↦ order_filter q rs order.1
    ]

pub order_append : (n : ℕ) (rows more : List Row) → AreInOrder rows → AllByRecursion
    (λ r. r.seq ≤ n) rows → AllByRecursion (λ r. r.seq ≡ n + 1) more → AreInOrder (rows ++ more)
order_append n [] [] order within new = tt
order_append n [] (r ∷ rs) order within new =
    (all_weaker rs (λ s e. omega (arith, e, new.0)) new.1, order_append n [] rs tt tt new.1)
order_append n (r ∷ rs) more order within new =
    (both rs order.0, order_append n rs more order.1 within.1 new)
  where
    later : (xs : List Row) → AllByRecursion (λ s. s.seq ≡ n + 1) xs → AllByRecursion
        (λ s. r.seq ≤ s.seq) xs
    later xs all = all_weaker xs (λ s e. omega (arith, e, within.0)) all

    both : (xs : List Row) → AllByRecursion (λ s. r.seq ≤ s.seq) xs → AllByRecursion
        (λ s. r.seq ≤ s.seq) (xs ++ more)
    both [] all = later more new
    both (x ∷ xs) all = (all.0, both xs all.1)

-- rows in order stand first up to a version, and then behind it
pub in_two : (version : ℕ) (rows : List Row) → AreInOrder rows → rows_to version rows ++ rows_behind
    version rows ≡ rows
in_two version [] order = refl
in_two version (r ∷ rs) order =
    elim (nat_le r.seq version) as (λ b. nat_le r.seq version ≡ b → cond b (r ∷ rows_to version rs)
    (rows_to version rs) ++ cond (nat_lt version r.seq) (r ∷ rows_behind version rs)
    (rows_behind version rs) ≡ r ∷ rs) [
      | true ↦ λ e.
          let not_behind : nat_lt version r.seq ≡ false = no_less r.seq version e in
          rw not_behind (ap (λ (xs : List Row). r ∷ xs) (in_two version rs order.1))
      | false ↦ λ e.
          let behind : nat_lt version r.seq ≡ true = less r.seq version e in
          let none : rows_to version rs ≡ [] = filter_none (λ s. nat_le s.seq version) rs
          (all_weaker rs (λ s up. above r.seq s.seq version e up) order.0) in
          let all : rows_behind version rs ≡ rs = filter_all (λ s. nat_lt version s.seq) rs
          (all_weaker rs (λ s up. beyond r.seq s.seq version e up) order.0) in
          rw behind (λ i. none i ++ r ∷ all i)
    ] refl
  where
    no_less : (m n : ℕ) → nat_le m n ≡ true → nat_lt n m ≡ false
    no_less m n e = grind arith

    less : (m n : ℕ) → nat_le m n ≡ false → nat_lt n m ≡ true
    less m n e = grind arith

    above : (m k n : ℕ) → nat_le m n ≡ false → m ≤ k → nat_le k n ≡ false
    above m k n e up = grind arith

    beyond : (m k n : ℕ) → nat_le m n ≡ false → m ≤ k → nat_lt n k ≡ true
    beyond m k n e up = grind arith

-- up to the lower of two versions
pub lower_first : (low high : ℕ) (rows : List Row) → low ≤ high → rows_to low (rows_to high rows) ≡
    rows_to low rows
lower_first low high [] le = refl
lower_first low high (r ∷ rs) le =
    elim (nat_le r.seq high) as (λ b. nat_le r.seq high ≡ b → rows_to low
    (cond b (r ∷ rows_to high rs) (rows_to high rs)) ≡ cond (nat_le r.seq low)
    (r ∷ rows_to low rs) (rows_to low rs)) [
      | true ↦ λ e. ap (λ (xs : List Row). cond (nat_le r.seq low) (r ∷ xs) xs)
          (lower_first low high rs le)
      | false ↦ λ e. let not_low : nat_le r.seq low ≡ false = above r.seq low high le e in rw
          not_low (lower_first low high rs le)
    ] refl
  where
    above : (m l h : ℕ) → l ≤ h → nat_le m h ≡ false → nat_le m l ≡ false
    above m l h le e = grind arith

-- the files at a version are those at a lower one, with the rows between replayed over them
pub files_between : (rows : List Row) (low high : ℕ) (table : List ℕ) → AreInOrder rows → low ≤ high
    → replay_rows (rows_behind low (rows_to high (rows_of table rows))) (files_at rows low table) ≡
    files_at rows high table
files_between rows low high table order le =
    let mine = rows_of table rows in
    let first : rows_to low mine ≡ rows_to low (rows_to high mine) = sym
    (lower_first low high mine le) in
    ap (λ (xs : List Row). replay_rows (rows_behind low (rows_to high mine)) (replay_rows xs []))
    first
    ∙ sym
    (rows_one_by_one (rows_to low (rows_to high mine)) (rows_behind low (rows_to high mine)) [])
    ∙ ap (λ (xs : List Row). replay_rows xs []) (in_two low (rows_to high mine) (order_filter
    (λ r. nat_le r.seq high) mine (order_filter (λ r. same_text r.table table) rows order)))

-- checkpoints

abbrev IsBase : List Row → ℕ → List ℕ → Checkpoint → Type 0
IsBase rows version table k =
    (k.files ≡ files_at rows k.check.at k.check.table) × (is_base version table k ≡ true)

newest_is : (rows : List Row) (version : ℕ) (table : List ℕ) (best : Option Checkpoint)
    (checks : List Checkpoint) → IfSome best (IsBase rows version table) → AllByRecursion
    (λ k. k.files ≡ files_at rows k.check.at k.check.table) checks
    → IfSome (newest_check version table best checks) (IsBase rows version table)
newest_is rows version table best [] is all = is
newest_is rows version table best (k ∷ ks) is all =
    newest_is rows version table (newer version table best k) ks next all.1
  where
    next : IfSome (newer version table best k) (IsBase rows version table)
    next =
        elim (is_base version table k) as (λ b. is_base version table k ≡ b → IfSome (if b &&
        option_map_or (λ b. nat_le b.check.at k.check.at) best true then Some k else best)
        (λ k. (k.files ≡ files_at rows k.check.at k.check.table) ×
        (is_base version table k ≡ true))) [
          | true ↦ λ e. elim (option_map_or (λ b. nat_le b.check.at k.check.at) best true) as (λ b.
              IfSome (if b then Some k else best) (λ k.
              (k.files ≡ files_at rows k.check.at k.check.table) ×
              (is_base version table k ≡ true))) [ true ↦ (all.0, e) | false ↦ is ]
          | false ↦ λ e. is
        ] refl

pub checks_give_files : ChecksGiveFiles
checks_give_files rows checks order all version table =
    elim (newest_check version table None checks) as (λ o. IfSome o (λ k.
    (k.files ≡ files_at rows k.check.at k.check.table) × (is_base version table k ≡ true))
    → option_map_or (λ k. replay_rows
    (rows_behind k.check.at (rows_to version (rows_of table rows))) k.files) o
    (files_at rows version table) ≡ files_at rows version table) [
      | None ↦ λ is. refl
      | Some k ↦ λ is.
          let both = both_true (same_text k.check.table table) (nat_le k.check.at version) is.1 in
          let files : k.files ≡ files_at rows k.check.at table = is.0 ∙ ap
          (files_at rows k.check.at) (same_text_is k.check.table table both.0) in
          ap (replay_rows (rows_behind k.check.at (rows_to version (rows_of table rows)))) files ∙
          files_between rows k.check.at version table order (leb-true k.check.at version both.1)
    ] (newest_is rows version table None checks tt all)
