-- The files that a transaction's items name stay as they are, where nothing conflicts.
use Rattle.std.proofs.Common.{◌≡◌, ℕ, Bool, true, false, ◌&&◌, ◌||◌, not, cond, nat_eq, List, []}
use Rattle.std.proofs.Common.{◌∷◌, map, refl, sym, ap, ◌∙◌}
use Rattle.std.proofs.lemmas.Bool.{eqb-true}
use Rattle.std.specs.List.{AllByRecursion, list_any, list_all}
use Rattle.lake_values.specs.declared.names.Name.{Name}
use Rattle.sql_model.specs.declared.changes.Mark.{Mark}
use Rattle.sql_model.specs.Changes.{same_mark}
use Rattle.lake_values.specs.Names.{same_name}
use Rattle.sql_model.specs.Units.{ConflictUnit, same_unit, share_unit}
use Rattle.sql_model.proofs.Lists.{all_weaker, all_both}
use Rattle.manifest_block.specs.declared.items.Item.{Item}
use Rattle.table_snapshot.specs.declared.files.FileRow.{FileRow}
use Rattle.table_snapshot.specs.Files.{is_file, item_file, items_of, replay}
use Rattle.file_laws.specs.Contents.{mark_of}
use Rattle.file_laws.specs.Laws.{named, KeepsWhatIsFree}
use Rattle.file_laws.specs.Touching.{Row, is_marked, is_name_of, is_there, all_marked, may_name}
use Rattle.file_laws.specs.Touching.{MayTouch, is_touched, replay_rows, TouchInTurn, HasNone}
use Rattle.file_laws.specs.Touching.{IsApart}
use Rattle.file_laws.proofs.ReplayLemmas.{name_tells, name_self, mark_tells, replay_elsewhere}

-- tests over lists

pub all_there : {X : Type 0} (p : X → Bool) (xs : List X) → list_all p xs ≡ true → AllByRecursion
    (λ x. p x ≡ true) xs
all_there p [] e = tt
all_there p (x ∷ xs) e =
    elim (p x) as
    (λ b. b && list_all p xs ≡ true → (b ≡ true) × AllByRecursion (λ x. p x ≡ true) xs) [
      | true ↦ λ e. (refl, all_there p xs e)
      | false ↦ λ e. absurd cc
    ] e

pub none_with : {X : Type 0} (p : X → Bool) (xs : List X) → AllByRecursion (λ x. p x ≡ false) xs →
    list_any p xs ≡ false
none_with p [] all = refl
none_with p (x ∷ xs) all = rw all.0 (none_with p xs all.1)

-- what only named files can pass, they alone decide
any_named : (among : Name → Bool) (p : FileRow → Bool) (files : List FileRow) →
    ((f : FileRow) → p f ≡ true → among f.file ≡ true) → list_any p files ≡ list_any p
    (named among files)
any_named among p [] only = refl
any_named among p (f ∷ fs) only =
    elim (among f.file) as (λ b. among f.file ≡ b → p f || list_any p fs ≡ list_any p
    (cond b (f ∷ named among fs) (named among fs))) [
      | true ↦ λ e. ap (λ (b : Bool). p f || b) (any_named among p fs only)
      | false ↦ λ e. elim (p f) as
          (λ b. p f ≡ b → b || list_any p fs ≡ list_any p (named among fs)) [
            | true ↦ λ h. let both : true ≡ false = sym (only f h) ∙ e in absurd cc
            | false ↦ λ h. any_named among p fs only
          ] refl
    ] refl

all_named : (among : Name → Bool) (p : FileRow → Bool) (files : List FileRow) →
    ((f : FileRow) → among f.file ≡ false → p f ≡ true) → list_all p files ≡ list_all p
    (named among files)
all_named among p [] only = refl
all_named among p (f ∷ fs) only =
    elim (among f.file) as (λ b. among f.file ≡ b → p f && list_all p fs ≡ list_all p
    (cond b (f ∷ named among fs) (named among fs))) [
      | true ↦ λ e. ap (λ (b : Bool). p f && b) (all_named among p fs only)
      | false ↦ λ e. rw (only f e) (all_named among p fs only)
    ] refl

pub both_true : (a b : Bool) → a && b ≡ true → (a ≡ true) × (b ≡ true)
both_true true b e = (refl, e)
both_true false b e = absurd cc

-- the items name what they name
pub touched_self : (is : List Item) → AllByRecursion (λ i. is_touched is (item_file i) ≡ true) is
touched_self [] = tt
touched_self (i ∷ is) = (
  rw (name_self (item_file i)) refl,
  all_weaker is
      (λ j e. or_true (same_name (item_file i) (item_file j)) e) (touched_self is),
)
  where
    or_true : (a : Bool) {b : Bool} → b ≡ true → (a || b) ≡ true
    or_true true e = refl
    or_true false e = e

-- what an item of the transaction names, it may name
pub may_touched : (txn : ℕ) (table : List ℕ) (marks : List Mark) (files : List FileRow)
    (is : List Item) → MayTouch txn table marks files is → (name : Name) → is_touched is name ≡ true
    → may_name txn table marks files name ≡ true
may_touched txn table marks files [] all name e = absurd cc
may_touched txn table marks files (i ∷ is) all name e =
    elim (same_name (item_file i) name) as (λ b. same_name (item_file i) name ≡ b → b || is_touched
    is name ≡ true → may_name txn table marks files name ≡ true) [
      | true ↦ λ h e. ap (may_name txn table marks files) (sym (name_tells (item_file i) name h)) ∙
          all.0
      | false ↦ λ h e. may_touched txn table marks files is all.1 name e
    ] refl e

-- marks in common are units in common

module _ (unit : Mark → ConflictUnit) (unit_self : (u : ConflictUnit) → same_unit u u ≡ true) where
  unit_there : (mark : Mark) (ns : List Mark) → is_marked ns mark ≡ true → list_any
      (same_unit (unit mark)) (map unit ns) ≡ true
  unit_there mark [] e = absurd cc
  unit_there mark (n ∷ ns) e =
      elim (same_mark mark n) as (λ b. same_mark mark n ≡ b → b || is_marked ns mark ≡ true →
      same_unit (unit mark) (unit n) || list_any (same_unit (unit mark)) (map unit ns) ≡ true) [
        | true ↦ λ h e. let same : same_unit (unit mark) (unit n) ≡ true = ap
            (λ (m : Mark). same_unit (unit mark) (unit m)) (sym (mark_tells mark n h)) ∙ unit_self
            (unit mark) in rw same refl
        | false ↦ λ h e. or_right (same_unit (unit mark) (unit n)) (unit_there mark ns e)
      ] refl e
    where
      or_right : (a : Bool) {b : Bool} → b ≡ true → (a || b) ≡ true
      or_right true e = refl
      or_right false e = e

  unit_shared : (mark : Mark) (ms ns : List Mark) → is_marked ms mark ≡ true → is_marked ns mark ≡
      true → share_unit (map unit ms) (map unit ns) ≡ true
  unit_shared mark [] ns e f = absurd cc
  unit_shared mark (m ∷ ms) ns e f =
      elim (same_mark mark m) as (λ b. same_mark mark m ≡ b → b || is_marked ms mark ≡ true →
      list_any (same_unit (unit m)) (map unit ns) || share_unit (map unit ms) (map unit ns) ≡
      true) [
        | true ↦ λ h e. let first : list_any (same_unit (unit m)) (map unit ns) ≡ true = ap
            (λ (x : Mark). list_any (same_unit (unit x)) (map unit ns)) (sym (mark_tells mark m h))
            ∙ unit_there mark ns f in rw first refl
        | false ↦ λ h e. or_right (list_any (same_unit (unit m)) (map unit ns))
            (unit_shared mark ms ns e f)
      ] refl e
    where
      or_right : (a : Bool) {b : Bool} → b ≡ true → (a || b) ≡ true
      or_right true e = refl
      or_right false e = e

  -- a file that both may name shares a unit
  file_shared : (table : List ℕ) (ms ns : List Mark) (name : Name) (files : List FileRow) → is_there
      name files ≡ true → all_marked table ms name files ≡ true → all_marked table ns name files ≡
      true
      → share_unit (map unit ms) (map unit ns) ≡ true
  file_shared table ms ns name [] there all more = absurd cc
  file_shared table ms ns name (f ∷ fs) there all more =
      elim (is_file name f) as (λ b. b || is_there name fs ≡ true →
      (not b || is_marked ms (mark_of table f)) && all_marked table ms name fs ≡ true →
      (not b || is_marked ns (mark_of table f)) && all_marked table ns name fs ≡ true
      → share_unit (map unit ms) (map unit ns) ≡ true) [
        | true ↦ λ there all more. unit_shared (mark_of table f) ms ns
            (both_true (is_marked ms (mark_of table f)) (all_marked table ms name fs) all).0
            (both_true (is_marked ns (mark_of table f)) (all_marked table ns name fs) more).0
        | false ↦ λ there all more. file_shared table ms ns name fs there all more
      ] there all more

  module _ (table : List ℕ) (txn : ℕ) (marks : List Mark) (items : List Item) (files : List FileRow)
      (may : MayTouch txn table marks files items) (none : HasNone txn files) where
    among : Name → Bool
    among = is_touched items

    -- what may be named is told by the named files
    may_same : (name : Name) (x : ℕ) (ms : List Mark) (later : List FileRow) → is_touched items name
        ≡ true → named (is_touched items) later ≡ named (is_touched items) files → may_name x table
        ms later name ≡ may_name x table ms files name
    may_same name x ms later touched same =
        let among = is_touched items in
        let here : (f : FileRow) → is_file name f ≡ true → among f.file ≡ true = λ f e. ap among
        (sym (name_tells name f.file e)) ∙ touched in
        let p = λ (f : FileRow). not (is_file name f) || is_marked ms (mark_of table f) in
        let not_here : (f : FileRow) → among f.file ≡ false → p f ≡ true = λ f e.
        elim (is_file name f) as
        (λ b. is_file name f ≡ b → (not b || is_marked ms (mark_of table f)) ≡ true) [
          | true ↦ λ h. let both : true ≡ false = sym (here f h) ∙ e in absurd cc
          | false ↦ λ h. refl
        ] refl in
        let there = any_named among (is_file name) later here ∙ ap (list_any (is_file name)) same ∙
        sym (any_named among (is_file name) files here) in
        let all = all_named among p later not_here ∙ ap (list_all p) same ∙ sym
        (all_named among p files not_here) in
        λ i. is_name_of x name || there i && all i

    none_there : (x : ℕ) (name : Name) → is_name_of x name ≡ true → HasNone x files → is_there name
        files ≡ false
    none_there x name is has =
        none_with (is_file name) files (all_weaker files (λ f other. elim (is_file name f) as
        (λ b. is_file name f ≡ b → b ≡ false) [
          | true ↦ λ h. sym is ∙ ap (is_name_of x) (name_tells name f.file h) ∙ other
          | false ↦ λ h. refl
        ] refl) has)

    no_clash : (r : Row) (name : Name) → IsApart unit txn marks files r → may_name txn table marks
        files name ≡ true → may_name r.txn table r.marks files name ≡ true → ⊥
    no_clash r name apart mine theirs =
        elim (is_name_of txn name) as (λ b. is_name_of txn name ≡ b → b || is_there name files &&
        all_marked table marks name files ≡ true → ⊥) [
          | true ↦ λ own mine.
              let gone = none_there txn name own none in
              elim (is_name_of r.txn name) as (λ b. is_name_of r.txn name ≡ b → b || is_there name
              files && all_marked table r.marks name files ≡ true → ⊥) [
                | true ↦ λ other theirs. one_owner r name apart own other
                | false ↦ λ other theirs. let there = both_true (is_there name files)
                    (all_marked table r.marks name files) theirs in let no : true ≡ false = sym
                    there.0 ∙ gone in absurd cc
              ] refl theirs
          | false ↦ λ own mine.
              let there = both_true (is_there name files) (all_marked table marks name files) mine
              in
              elim (is_name_of r.txn name) as (λ b. is_name_of r.txn name ≡ b → b || is_there name
              files && all_marked table r.marks name files ≡ true → ⊥) [
                | true ↦ λ other theirs. let no : true ≡ false = sym there.0 ∙ none_there r.txn name
                    other apart.none in absurd cc
                | false ↦ λ other theirs. let no : true ≡ false = sym (file_shared table marks
                    r.marks name files there.0 there.1 (both_true (is_there name files)
                    (all_marked table r.marks name files) theirs).1) ∙ apart.free in absurd cc
              ] refl theirs
        ] refl mine
      where
        one_owner : (r : Row) (name : Name) → IsApart unit txn marks files r → is_name_of txn name ≡
            true → is_name_of r.txn name ≡ true → ⊥
        one_owner r name apart own other =
            let same : r.txn ≡ txn = sym (eqb-true name.txn r.txn other) ∙ eqb-true name.txn txn own
            in
            let is : nat_eq name.txn txn ≡ nat_eq r.txn txn = ap (λ (n : ℕ). nat_eq n txn)
            (eqb-true name.txn r.txn other) in
            let no : true ≡ false = sym own ∙ is ∙ apart.other in
            absurd cc

    untouched : (r : Row) (later : List FileRow) (is : List Item) → IsApart unit txn marks files r →
        named (is_touched items) later ≡ named (is_touched items) files → MayTouch r.txn table
        r.marks later is
        → AllByRecursion (λ i. is_touched items (item_file i) ≡ false) is
    untouched r later is apart same all =
        all_weaker is (λ i theirs. elim (is_touched items (item_file i)) as
        (λ b. is_touched items (item_file i) ≡ b → b ≡ false) [
          | true ↦ λ touched. absurd (no_clash r (item_file i) apart
              (may_touched txn table marks files items may (item_file i) touched)
              (sym (may_same (item_file i) r.txn r.marks later touched same) ∙ theirs))
          | false ↦ λ touched. refl
        ] refl) all

    rows_kept : (rows : List Row) (later : List FileRow) → named (is_touched items) later ≡ named
        (is_touched items) files → TouchInTurn table later rows → AllByRecursion
        (IsApart unit txn marks files) rows
        → named (is_touched items) (replay_rows rows later) ≡ named (is_touched items) files
    rows_kept [] later same turns apart = same
    rows_kept (r ∷ rs) later same turns apart =
        let mine = items_of r.table r.items in
        rows_kept rs (replay r.seq mine later) (replay_elsewhere (is_touched items) r.seq mine
        later (untouched r later mine apart.0 same turns.0) ∙ same) turns.1 apart.1

    kept : (rows : List Row) → TouchInTurn table files rows → AllByRecursion
        (IsApart unit txn marks files) rows
        → (named (is_touched items) (replay_rows rows files) ≡ named (is_touched items) files) ×
        MayTouch txn table marks (replay_rows rows files) items
    kept rows turns apart =
        let same = rows_kept rows files refl turns apart in (
          same,
          all_both items (λ i touched mine. may_same (item_file i) txn marks
              (replay_rows rows files) touched same ∙ mine) (touched_self items) may,
        )

pub keeps_what_is_free : KeepsWhatIsFree
keeps_what_is_free unit unit_self table txn marks items files rows may none turns apart =
    kept unit unit_self table txn marks items files may none rows turns apart
