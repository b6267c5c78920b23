-- What a transaction sees of a table.
use Rattle.std.proofs.Common.{◌≡◌, ℕ, true, false, List, [], ◌∷◌, ◌++◌, None, Some, filter, flat_map, refl, sym, if◌then◌else◌}
use Rattle.std.specs.Option.{option_map, option_map_or}
use Rattle.lake_values.specs.Schemas.{TableColumns}
use Rattle.sql_model.specs.declared.changes.Change.{Change}
use Rattle.sql_model.specs.declared.changes.MarkedRow.{MarkedRow}
use Rattle.sql_model.specs.Changes.{added_to, applied, changed_table, marked_cmp, without}
use Rattle.sql_model.specs.Versions.{Table, Tables, marked_rows_of, table_of}
use Rattle.lake_values.specs.Texts.{same_text}
use Rattle.lake_values.proofs.SameTexts.{same_text_is}
use Rattle.lake_core.specs.Rooms.{empty_table}

-- the rows of a table of this name and schema after a change
abbrev pub changed_rows : List ℕ → TableColumns → Change → List MarkedRow → List MarkedRow
changed_rows name schema change rows = without marked_cmp rows (filter (λ m. same_text m.mark.table name) change.removed) ++ flat_map (added_to (empty_table name schema) 0) change.added

pub rows_changed : (name : List ℕ) (schema : TableColumns) (change : Change) (tables : Tables) → option_map (λ t. t.schema) (table_of name tables) ≡ Some schema → changed_rows name schema change (marked_rows_of name tables) ≡ marked_rows_of name (applied 0 change tables)
rows_changed name schema change [] some = absurd cc
rows_changed name schema change (t ∷ ts) some =
    elim (same_text t.name name) as (λ b. same_text t.name name ≡ b → option_map (λ (u : Table). u.schema) (if b then Some t else table_of name ts) ≡ Some schema →
    changed_rows name schema change (option_map_or (λ (u : Table). u.rows) (if b then Some t else table_of name ts) []) ≡ option_map_or (λ (u : Table). u.rows) (if b then Some (changed_table 0 change t) else table_of name (applied 0 change ts)) []) [
      | true ↦ λ e s.
          let named : t.name ≡ name = same_text_is t.name name e in
          let typed : t.schema ≡ schema = cc in
          λ i. without marked_cmp t.rows (filter (λ (m : MarkedRow). same_text m.mark.table (sym named i)) change.removed) ++ flat_map (added_to (empty_table (sym named i) (sym typed i)) 0) change.added
      | false ↦ λ e s. rows_changed name schema change ts s
    ] refl some

pub no_rows_changed : (name : List ℕ) (change : Change) (tables : Tables) → option_map (λ t. t.schema) (table_of name tables) ≡ None → [] ≡ marked_rows_of name (applied 0 change tables)
no_rows_changed name change [] none = refl
no_rows_changed name change (t ∷ ts) none =
    elim (same_text t.name name) as (λ b. option_map (λ (u : Table). u.schema) (if b then Some t else table_of name ts) ≡ None → [] ≡ option_map_or (λ (u : Table). u.rows) (if b then Some (changed_table 0 change t) else table_of name (applied 0 change ts)) []) [
      | true ↦ λ n. absurd cc
      | false ↦ λ n. no_rows_changed name change ts n
    ] none
