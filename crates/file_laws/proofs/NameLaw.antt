-- The names of a table's files, by the rows of the catalogue.
use Rattle.std.proofs.Common.{◌≡◌, Bool, true, false, ◌&&◌, ◌||◌, not, List, [], ◌∷◌, refl, sym}
use Rattle.std.proofs.Common.{◌∙◌}
use Rattle.lake_values.specs.declared.names.Name.{Name}
use Rattle.lake_values.specs.Names.{is_among}
use Rattle.table_snapshot.specs.declared.files.FileRow.{FileRow}
use Rattle.table_snapshot.specs.Files.{items_of, replay}
use Rattle.table_snapshot.specs.Files.{names_in}
use Rattle.file_laws.specs.NameLaws.{NamesAreByRows, NamesInTurn, drops, has_name}
use Rattle.file_laws.specs.Touching.{Row, replay_rows}

step : (h n f d : Bool) → (h || n && not d) ≡
    ((h || (n && not f) && not d) || f && not ((f && not n) || d))
step true n f d = refl
step false true true true = refl
step false true true false = refl
step false true false d = elim d as (λ d. not d ≡ (not d || false)) [ true ↦ refl | false ↦ refl ]
step false false true d = refl
step false false false d = refl

by_rows : (rows : List Row) (files : List FileRow) → NamesInTurn files rows → (name : Name) →
    is_among name (names_in (replay_rows rows files)) ≡
    (has_name name rows || is_among name (names_in files) && not (drops name rows))
by_rows [] files turns name = and_true (is_among name (names_in files))
  where
    and_true : (a : Bool) → a ≡ (a && true)
    and_true true = refl
    and_true false = refl
by_rows (r ∷ rs) files turns name =
    let new = replay r.seq (items_of r.table r.items) files in
    by_rows rs new turns.1 name
    ∙ step (has_name name rs) (is_among name (names_in new)) (is_among name (names_in files))
    (drops name rs)
    ∙ (λ i. (has_name name rs || gains i && not (drops name rs)) || is_among name (names_in files)
    && not (loses i || drops name rs))
  where
    gains : (is_among name (names_in (replay r.seq (items_of r.table r.items) files)) && not
        (is_among name (names_in files))) ≡ is_among name r.added
    gains = sym (turns.0.gains name)

    loses : (is_among name (names_in files) && not
        (is_among name (names_in (replay r.seq (items_of r.table r.items) files)))) ≡ is_among
        name r.dropped
    loses = sym (turns.0.loses name)

pub names_are_by_rows : NamesAreByRows
names_are_by_rows rows turns name = by_rows rows [] turns name ∙ or_false (has_name name rows)
  where
    or_false : (a : Bool) → (a || false) ≡ a
    or_false true = refl
    or_false false = refl
