-- What removed rows write, and what the marks and the catalogue's rows say of them that are made for their commit.
use Rattle.std.proofs.Common.{◌≡◌, ℕ, zero, suc, ◌<◌, Bool, true, false, ◌||◌, List, [], ◌∷◌, ◌++◌, Some, map, length, refl, sym, ap, ◌∙◌, subst, arith}
use Rattle.std.specs.Prelude.{slice_get, slice_index_or}
use Rattle.std.specs.List.{AllByRecursion, list_any, slice_set}
use Rattle.std.proofs.Math.Bool.{or_assoc, or-false}
use Rattle.sql_model.specs.declared.changes.Mark.{Mark}
use Rattle.sql_model.specs.declared.changes.MarkedRow.{MarkedRow}
use Rattle.sql_model.specs.Units.{ConflictUnit, whole_table, same_unit, share_unit, units_of_marks}
use Rattle.lake_values.specs.Texts.{same_text}
use Rattle.lake_values.proofs.SameTexts.{same_text_self}
use Rattle.table_history.specs.Histories.{NamesTables}
use Rattle.lake_core.specs.declared.rows.CatRow.{CatRow}
use Rattle.lake_core.specs.Rows.{units_of_row}
use Rattle.lake_core.specs.Rooms.{rows_share, units_of_rows}

-- the table is one of the units
abbrev pub is_written : List ℕ → List ConflictUnit → Bool
is_written table us = share_unit (whole_table table ∷ []) us

-- the units of rows and of further rows
pub units_append : (xs ys : List MarkedRow) (us : List ConflictUnit) → share_unit (units_of_rows (xs ++ ys)) us ≡ (share_unit (units_of_rows xs) us || share_unit (units_of_rows ys) us)
units_append [] ys us = refl
units_append (x ∷ xs) ys us =
    let a = list_any (same_unit (whole_table x.mark.table)) us in
    ap (λ (b : Bool). a || b) (units_append xs ys us) ∙ sym (or_assoc a (share_unit (units_of_rows xs) us) (share_unit (units_of_rows ys) us))

-- what writes nothing at first writes what rows and then further rows write
pub both_write : (none some all : List ConflictUnit → Bool) (xs ys : List MarkedRow) → ((us : List ConflictUnit) → none us ≡ false) → ((us : List ConflictUnit) → some us ≡ (none us || share_unit (units_of_rows xs) us)) →
    ((us : List ConflictUnit) → all us ≡ (some us || share_unit (units_of_rows ys) us)) → (us : List ConflictUnit) → all us ≡ share_unit (units_of_rows (xs ++ ys)) us
both_write none some all xs ys nothing first second us =
    let x = share_unit (units_of_rows xs) us in
    let y = share_unit (units_of_rows ys) us in
    let only : some us ≡ x = first us ∙ ap (λ (b : Bool). b || x) (nothing us) in
    second us ∙ ap (λ (b : Bool). b || y) only ∙ sym (units_append xs ys us)

-- the marks of a table that has one already

known : (a s : Bool) → (a || s) ≡ ((a || s) || (a || false))
known true s = refl
known false s = sym (or-false s)

pub marks_know : (marks : List Mark) (i : ℕ) (m : Mark) (table : List ℕ) → slice_get marks i ≡ Some m → m.table ≡ table → (us : List ConflictUnit) →
    share_unit (units_of_marks marks) us ≡ (share_unit (units_of_marks marks) us || is_written table us)
marks_know [] i m table at named us = absurd cc
marks_know (x ∷ xs) zero m table at named us =
    let first : x ≡ m = cc in
    let P : List ℕ → Type 0 = λ t. share_unit (units_of_marks (x ∷ xs)) us ≡ (share_unit (units_of_marks (x ∷ xs)) us || is_written t us) in
    subst P (ap (λ (y : Mark). y.table) first ∙ named) (known (list_any (same_unit (whole_table x.table)) us) (share_unit (units_of_marks xs) us))
marks_know (x ∷ xs) (suc i) m table at named us =
    let a = list_any (same_unit (whole_table x.table)) us in
    ap (λ (b : Bool). a || b) (marks_know xs i m table at named us) ∙ sym (or_assoc a (share_unit (units_of_marks xs) us) (is_written table us))

-- a row of the catalogue that has a mark writes its table

less : (a s : Bool) → (s || (a || false)) ≡ (a || false) → ((a || s) || (a || false)) ≡ (a || false)
less true s h = refl
less false s h = h

at_most_table : (table : List ℕ) (marks : List Mark) (us : List ConflictUnit) → (share_unit (map (λ (m : Mark). whole_table table) marks) us || is_written table us) ≡ is_written table us
at_most_table table [] us = refl
at_most_table table (m ∷ ms) us = less (list_any (same_unit (whole_table table)) us) (share_unit (map (λ (m : Mark). whole_table table) ms) us) (at_most_table table ms us)

one : (a s : Bool) → (s || (a || false)) ≡ (a || false) → (a || s) ≡ (a || false)
one true s h = refl
one false s h = sym (or-false s) ∙ h

some_write : (table : List ℕ) (m : Mark) (ms : List Mark) (us : List ConflictUnit) → share_unit (map (λ (m : Mark). whole_table table) (m ∷ ms)) us ≡ is_written table us
some_write table m ms us = one (list_any (same_unit (whole_table table)) us) (share_unit (map (λ (m : Mark). whole_table table) ms) us) (at_most_table table ms us)

pub there_write : (table : List ℕ) (marks : List Mark) (i : ℕ) (m : Mark) → slice_get marks i ≡ Some m → (us : List ConflictUnit) → share_unit (map (λ (m : Mark). whole_table table) marks) us ≡ is_written table us
there_write table [] i m at us = absurd cc
there_write table (x ∷ xs) i m at us = some_write table x xs us

pub more_write : (table : List ℕ) (marks : List Mark) (m : Mark) (us : List ConflictUnit) → share_unit (map (λ (m : Mark). whole_table table) (marks ++ m ∷ [])) us ≡ is_written table us
more_write table [] m us = refl
more_write table (x ∷ xs) m us = some_write table x (xs ++ m ∷ []) us

-- the catalogue's rows where one of a table has a mark more

put : (b r w : Bool) → (b || w) ≡ w → (w || r) ≡ ((b || r) || w)
put true true true h = refl
put true true false h = absurd cc
put true false true h = refl
put true false false h = absurd cc
put false true true h = refl
put false true false h = refl
put false false true h = refl
put false false false h = refl

pub rows_put : (rows : List CatRow) (i : ℕ) (old new : CatRow) (table : List ℕ) → i < length rows → old ≡ slice_index_or rows i old → old.table ≡ table → (us : List ConflictUnit) →
    share_unit (units_of_row new) us ≡ is_written table us → rows_share (slice_set rows i new) us ≡ (rows_share rows us || is_written table us)
rows_put [] i old new table within at named us writes = absurd (omega arith)
rows_put (x ∷ xs) zero old new table within at named us writes =
    let is : x.table ≡ table = ap (λ (y : CatRow). y.table) (sym at) ∙ named in
    let P : List ℕ → Type 0 = λ t. (share_unit (units_of_row x) us || is_written t us) ≡ is_written t us in
    ap (λ (b : Bool). b || rows_share xs us) writes ∙ put (share_unit (units_of_row x) us) (rows_share xs us) (is_written table us) (subst P is (at_most_table x.table x.marks us))
rows_put (x ∷ xs) (suc i) old new table within at named us writes =
    let a = share_unit (units_of_row x) us in
    ap (λ (b : Bool). a || b) (rows_put xs i old new table (omega arith) at named us writes) ∙ sym (or_assoc a (rows_share xs us) (is_written table us))

-- marks that write what the rows write name their tables

one_named : (marks : List Mark) (table : List ℕ) → share_unit (units_of_marks marks) (whole_table table ∷ []) ≡ list_any (λ mark. same_text mark.table table) marks
one_named [] table = refl
one_named (m ∷ ms) table =
    ap (λ (b : Bool). b || share_unit (units_of_marks ms) (whole_table table ∷ [])) (or-false (same_text m.table table)) ∙ ap (λ (b : Bool). same_text m.table table || b) (one_named ms table)

wrote : (p : List ℕ → Bool) (rows : List MarkedRow) → ((table : List ℕ) → share_unit (units_of_rows rows) (whole_table table ∷ []) ≡ true → p table ≡ true) → AllByRecursion (λ m. p m.mark.table ≡ true) rows
wrote p [] all = tt
wrote p (r ∷ rs) all = (all r.mark.table (rw (same_text_self r.mark.table) refl), wrote p rs (λ table h. all table (later (list_any (same_unit (whole_table r.mark.table)) (whole_table table ∷ [])) (share_unit (units_of_rows rs) (whole_table table ∷ [])) h)))
  where
    later : (a b : Bool) → b ≡ true → (a || b) ≡ true
    later true b h = refl
    later false b h = h

pub names_all : (marks : List Mark) (removed : List MarkedRow) → ((us : List ConflictUnit) → share_unit (units_of_marks marks) us ≡ share_unit (units_of_rows removed) us) → NamesTables marks removed
names_all marks removed same = wrote (λ table. list_any (λ mark. same_text mark.table table) marks) removed (λ table h. sym (one_named marks table) ∙ same (whole_table table ∷ []) ∙ h)
