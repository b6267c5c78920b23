-- How often a name stands in the files of a table: no more often than items wrote it.
use Rattle.std.proofs.Common.{◌≡◌, ℕ, ◌+◌, ◌≤◌, Bool, true, false, not, ◌&&◌, ◌||◌}
use Rattle.std.proofs.Common.{List, [], ◌∷◌, ◌++◌, Some, map, refl}
use Rattle.std.proofs.Common.{sym, ap, ◌∙◌, arith, if◌then◌else◌, nat_eq}
use Rattle.std.specs.List.{AllByRecursion}
use Rattle.lake_values.specs.declared.names.Name.{Name}
use Rattle.lake_values.specs.Names.{is_among, same_name}
use Rattle.sql_model.specs.Listing.{weight}
use Rattle.sql_model.proofs.Bags.{weight_append}
use Rattle.sql_model.proofs.Lists.{all_weaker}
use Rattle.manifest_block.specs.declared.items.Item.{Item}
use Rattle.manifest_block.specs.declared.items.Item.TheVariants.{Add, Remove, SetVector}
use Rattle.table_snapshot.specs.declared.files.FileRow.{FileRow}
use Rattle.table_snapshot.specs.Files.{after_item, file_cmp, is_file, items_of, names_in}
use Rattle.table_snapshot.specs.Files.{new_file, replay, vector_names, with_vector, without_file}
use Rattle.file_laws.specs.Contents.{file_as}
use Rattle.file_laws.specs.Kept.{writes}
use Rattle.file_laws.specs.Laws.{named}
use Rattle.file_laws.specs.Marking.{HaveOwnNames}
use Rattle.file_laws.specs.Noting.{table_items, times_written}
use Rattle.file_laws.specs.Touching.{Row, is_touched, replay_rows}
use Rattle.file_laws.proofs.RanLemmas.{replay_names}
use Rattle.file_laws.proofs.ReplayLemmas.{committed_as, name_tells, replay_as}
use Rattle.file_laws.proofs.ReplayLemmas.{replay_elsewhere, replay_same}
use Rattle.file_laws.proofs.TouchLaw.{touched_self}
use Rattle.file_laws.proofs.Weights.{weight_flat_map, weight_halves, weight_map, weight_placed}

-- how often a file bears the name, as itself and by its vector
abbrev is_it : Name → Name → ℕ
is_it name n = if same_name name n then 1 else 0

abbrev bears : Name → FileRow → ℕ
bears name f = weight (is_it name) (f.file ∷ vector_names f.vector)

abbrev pub times : Name → List FileRow → ℕ
times name files = weight (bears name) files

among_weighs : (name : Name) (ns : List Name) → is_among name ns ≡ true → 1 ≤ weight (is_it name) ns
among_weighs name [] e = absurd cc
among_weighs name (n ∷ ns) e =
    elim (same_name name n) as
    (λ b. (b || is_among name ns) ≡ true → 1 ≤ (if b then 1 else 0) + weight (is_it name) ns) [
      | true ↦ λ e. omega arith
      | false ↦ λ e. omega (arith, among_weighs name ns e)
    ] e

weighs_among : (name : Name) (ns : List Name) → is_among name ns ≡ false → weight (is_it name) ns ≡
    0
weighs_among name [] e = refl
weighs_among name (n ∷ ns) e =
    elim (same_name name n) as
    (λ b. (b || is_among name ns) ≡ false → (if b then 1 else 0) + weight (is_it name) ns ≡ 0) [
      | true ↦ λ e. absurd cc
      | false ↦ λ e. omega (arith, weighs_among name ns e)
    ] e

times_flat : (name : Name) (files : List FileRow) → weight (is_it name) (names_in files) ≡ times
    name files
times_flat name files = weight_flat_map (λ f. f.file ∷ vector_names f.vector) (is_it name) files

pub there_times : (name : Name) (files : List FileRow) → is_among name (names_in files) ≡ true → 1 ≤
    times name files
there_times name files e =
    omega (arith, among_weighs name (names_in files) e, times_flat name files)

pub gone_times : (name : Name) (files : List FileRow) → is_among name (names_in files) ≡ false →
    times name files ≡ 0
gone_times name files e = sym (times_flat name files) ∙ weighs_among name (names_in files) e

-- files apart

times_halves : (name : Name) (among : Name → Bool) (files : List FileRow) → times name
    (named among files) + times name (named (λ n. not (among n)) files) ≡ times name files
times_halves name among files = weight_halves (λ (f : FileRow). among f.file) (bears name) files

times_as : (name : Name) (seq : ℕ) (files : List FileRow) → times name (map (file_as seq) files) ≡
    times name files
times_as name seq files = weight_map (file_as seq) (bears name) files

-- what items make of it

none_named : (name file vector : Name) (removed : ℕ) (fs : List FileRow) → AllByRecursion
    (λ g. is_file file g ≡ false) fs → times name (map (with_vector file vector removed) fs) ≡ times
    name fs
none_named name file vector removed [] all = refl
none_named name file vector removed (f ∷ fs) all =
    let one : bears name (with_vector file vector removed f) ≡ bears name f = ap
    (λ (b : Bool). bears name (if b then record f { vector = Some (vector, removed) } else f)) all.0
    in
    omega (arith, one, none_named name file vector removed fs all.1)

vector_times : (name file vector : Name) (removed : ℕ) (fs : List FileRow) → HaveOwnNames fs →
    times name (map (with_vector file vector removed) fs) ≤ times name fs + is_it name vector
vector_times name file vector removed [] own = omega arith
vector_times name file vector removed (f ∷ fs) own =
    elim (is_file file f) as (λ b. is_file file f ≡ b → bears name
    (if b then record f { vector = Some (vector, removed) } else f) + times name
    (map (with_vector file vector removed) fs) ≤ bears name f + times name fs + is_it name vector) [
      | true ↦ λ e.
          let same = name_tells file f.file e in
          let rest = none_named name file vector removed fs
          (all_weaker fs (λ g off. ap (λ (n : Name). is_file n g) same ∙ off) own.0) in
          omega (arith, rest)
      | false ↦ λ e. omega (arith, vector_times name file vector removed fs own.1)
    ] refl

item_times : (name : Name) (seq : ℕ) (files : List FileRow) (i : Item) → HaveOwnNames files → times
    name (after_item seq files i) ≤ times name files + (if writes name i then 1 else 0)
item_times name seq files (Add table cell part file rows) own = omega (
  arith,
  weight_placed file_cmp (bears name) (new_file seq cell part file rows) (without_file file files),
  weight_halves (λ (f : FileRow). not (is_file file f)) (bears name) files,
)
item_times name seq files (Remove table file) own =
    omega (arith, weight_halves (λ (f : FileRow). not (is_file file f)) (bears name) files)
item_times name seq files (SetVector table file vector removed) own =
    vector_times name file vector removed files own

replay_times : (name : Name) (seq : ℕ) (items : List Item) (files : List FileRow) → HaveOwnNames
    files → times name (replay seq items files) ≤ times name files + times_written name items
replay_times name seq [] files own = omega arith
replay_times name seq (i ∷ is) files own = omega (
  arith,
  replay_times name seq is (after_item seq files i) (replay_names seq (i ∷ []) files own),
  item_times name seq files i own,
)

pub rows_times : (name : Name) (rows : List Row) (files : List FileRow) → HaveOwnNames files → times
    name (replay_rows rows files) ≤ times name files + times_written name (table_items rows)
rows_times name [] files own = omega arith
rows_times name (r ∷ rs) files own = omega (
  arith,
  rows_times name rs (replay r.seq (items_of r.table r.items) files)
      (replay_names r.seq (items_of r.table r.items) files own),
  replay_times name r.seq (items_of r.table r.items) files own,
  weight_append (λ (i : Item). if writes name i then 1 else 0) (items_of r.table r.items)
      (table_items rs),
)

-- What items change of the names of some files they change of those of other files, where the files
-- that they name are the same, and no name is borne or written twice.
module _ (items : List Item) (files later : List FileRow) (name : Name)
    (own_files : HaveOwnNames files)
    (same : named (is_touched items) later ≡ named (is_touched items) files)
    (once : times name files + times_written name items ≤ 1)
    (once_later : times name later + times_written name items ≤ 1) where
  abbrev rest : List FileRow → ℕ
  rest fs = times name (named (λ n. not (is_touched items n)) fs)

  abbrev touched : List FileRow → ℕ
  touched fs = times name (named (is_touched items) fs)

  apart : (fs : List FileRow) → touched fs + rest fs ≡ times name fs
  apart fs = times_halves name (is_touched items) fs

  rest_stays : (fs : List FileRow) → rest (replay 0 items fs) ≡ rest fs
  rest_stays fs = ap (times name) (replay_elsewhere (λ n. not (is_touched items n)) 0 items fs
      (all_weaker items (λ i e. ap not e) (touched_self items)))

  touched_same : touched later ≡ touched files
  touched_same = ap (times name) same

  replayed_same : touched (replay 0 items later) ≡ touched (replay 0 items files)
  replayed_same = replay_same (is_touched items) 0 items later files
      (λ g. ap (weight g) same) (bears name)

  -- the numbers that decide it
  abbrev a : ℕ
  a = touched files

  abbrev b : ℕ
  b = touched (replay 0 items files)

  abbrev u : ℕ
  u = rest files

  abbrev v : ℕ
  v = rest later

  abbrev w : ℕ
  w = times_written name items

  was : times name files ≡ a + u
  was = sym (apart files)

  is : times name (replay 0 items files) ≡ b + u
  is = sym (apart (replay 0 items files)) ∙ ap
      (λ (n : ℕ). touched (replay 0 items files) + n) (rest_stays files)

  was_later : times name later ≡ a + v
  was_later = sym (apart later) ∙ ap (λ (n : ℕ). n + rest later) touched_same

  is_later : times name (replay 0 items later) ≡ b + v
  is_later = sym (apart (replay 0 items later)) ∙
      (λ i. replayed_same i + rest_stays later i)

  grown : b ≤ a + w
  grown = omega (arith, is, was, replay_times name 0 items files own_files)

  few : a + u + w ≤ 1
  few = omega (arith, was, once)

  few_later : a + v + w ≤ 1
  few_later = omega (arith, was_later, once_later)

  -- whether the name is borne
  abbrev Tells : Bool → ℕ → Type 0
  Tells c n = (c ≡ true → 1 ≤ n) × (c ≡ false → n ≡ 0)

  tells : (fs : List FileRow) (n : ℕ) → times name fs ≡ n → Tells (is_among name (names_in fs)) n
  tells fs n e = (
    (λ so. omega (arith, there_times name fs so, e)),
    (λ no. sym e ∙ gone_times name fs no),
  )

  gain_cases : (p q r s : Bool) → Tells p (b + u) → Tells q (a + u) → Tells r (b + v) → Tells s
      (a + v) → (p && not q) ≡ (r && not s)
  gain_cases true false true false hp hq hr hs = refl
  gain_cases true false true true hp hq hr hs = absurd
      (omega (arith, hp.0 refl, hq.1 refl, hs.0 refl, grown, few_later))
  gain_cases true false false s hp hq hr hs = absurd
      (omega (arith, hp.0 refl, hq.1 refl, hr.1 refl))
  gain_cases false q true false hp hq hr hs = absurd
      (omega (arith, hp.1 refl, hr.0 refl, hs.1 refl))
  gain_cases true true true false hp hq hr hs = absurd
      (omega (arith, hq.0 refl, hr.0 refl, hs.1 refl, grown, few))
  gain_cases false q false s hp hq hr hs = refl
  gain_cases false q true true hp hq hr hs = refl
  gain_cases true true false s hp hq hr hs = refl
  gain_cases true true true true hp hq hr hs = refl

  lose_cases : (p q r s : Bool) → Tells p (a + u) → Tells q (b + u) → Tells r (a + v) → Tells s
      (b + v) → (p && not q) ≡ (r && not s)
  lose_cases true false true false hp hq hr hs = refl
  lose_cases true false true true hp hq hr hs = absurd
      (omega (arith, hp.0 refl, hq.1 refl, hs.0 refl, few_later))
  lose_cases true false false s hp hq hr hs = absurd
      (omega (arith, hp.0 refl, hq.1 refl, hr.1 refl))
  lose_cases false q true false hp hq hr hs = absurd
      (omega (arith, hp.1 refl, hr.0 refl, hs.1 refl))
  lose_cases true true true false hp hq hr hs = absurd
      (omega (arith, hq.0 refl, hr.0 refl, hs.1 refl, few))
  lose_cases false q false s hp hq hr hs = refl
  lose_cases false q true true hp hq hr hs = refl
  lose_cases true true false s hp hq hr hs = refl
  lose_cases true true true true hp hq hr hs = refl

  pub gained_alike : (is_among name (names_in (replay 0 items files)) && not
      (is_among name (names_in files))) ≡
      (is_among name (names_in (replay 0 items later)) && not (is_among name (names_in later)))
  gained_alike = gain_cases (is_among name (names_in (replay 0 items files)))
      (is_among name (names_in files)) (is_among name (names_in (replay 0 items later)))
      (is_among name (names_in later)) (tells (replay 0 items files) (b + u) is)
      (tells files (a + u) was) (tells (replay 0 items later) (b + v) is_later)
      (tells later (a + v) was_later)

  pub lost_alike : (is_among name (names_in files) && not
      (is_among name (names_in (replay 0 items files)))) ≡
      (is_among name (names_in later) && not (is_among name (names_in (replay 0 items later))))
  lost_alike = lose_cases (is_among name (names_in files))
      (is_among name (names_in (replay 0 items files))) (is_among name (names_in later))
      (is_among name (names_in (replay 0 items later))) (tells files (a + u) was)
      (tells (replay 0 items files) (b + u) is) (tells later (a + v) was_later)
      (tells (replay 0 items later) (b + v) is_later)

-- the number of the commit changes no name
names_as : (seq : ℕ) (files : List FileRow) → names_in (map (file_as seq) files) ≡ names_in files
names_as seq [] = refl
names_as seq (f ∷ fs) =
    ap (λ (ns : List Name). (f.file ∷ vector_names f.vector) ++ ns) (names_as seq fs)

pub names_of_commit : (seq : ℕ) (items : List Item) (files : List FileRow) → AllByRecursion
    (λ f. nat_eq f.seq 0 ≡ false) files → names_in (replay seq items files) ≡ names_in
    (replay 0 items files)
names_of_commit seq items files committed =
    ap (λ (fs : List FileRow). names_in (replay seq items fs))
    (sym (committed_as seq files committed))
    ∙ ap names_in (sym (replay_as seq items files)) ∙ names_as seq (replay 0 items files)
