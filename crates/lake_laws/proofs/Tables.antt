-- The tables of a catalogue and of a chronicle's versions.
use Rattle.std.proofs.Common.{◌≡◌, ℕ, ◌+◌, ◌-◌, ◌<◌, ◌≤◌, Bool, true, false, cond, List, [], ◌∷◌}
use Rattle.std.proofs.Common.{◌++◌, filter, length, map, unwrap_or, refl, sym, ap, ◌∙◌, subst}
use Rattle.std.proofs.Common.{arith}
use Rattle.std.proofs.Common.{length-append}
use Rattle.std.proofs.lemmas.Bool.{leb-true}
use Rattle.std.proofs.lemmas.List.{append-nil}
use Rattle.std.proofs.lemmas.List.Elements.{filter-append}
use Rattle.std.specs.Prelude.{nat_le, slice_get}
use Rattle.std.specs.List.{AllByRecursion}
use Rattle.lake_values.specs.Schemas.{TableColumns}
use Rattle.lake_values.specs.declared.names.Name.{Name}
use Rattle.sql_model.specs.declared.changes.Change.{Change}
use Rattle.sql_model.specs.Changes.{changed_table}
use Rattle.sql_model.specs.Versions.{Table, Tables, Version, empty_version}
use Rattle.lake_model.specs.State.{State, last, newest, version_at, with_version}
use Rattle.lake_model.proofs.Growth.{version_kept, version_made}
use Rattle.write_set_catalog.specs.Catalogs.{Catalogue, with_table}
use Rattle.write_set_catalog.specs.declared.tables.CatTable.{CatTable}
use Rattle.file_laws.proofs.NameKept.{map_append}
use Rattle.lake_laws.specs.Standing.{TablesAgree, schemas_in, tables_at}

abbrev pub Shown : Type 0
Shown = List ℕ × TableColumns

abbrev pub shown_table : CatTable → Shown
shown_table t = (t.name, t.schema)

-- no version more
pub tables_stay : (c c' : Catalogue) (st st' : State) → c'.tables ≡ c.tables → st'.versions ≡
    st.versions → TablesAgree c st → TablesAgree c' st'
tables_stay c c' st st' tables versions was version within =
    let old : last st' ≡ last st = ap (λ (vs : List Version). length vs - 1) versions in
    ap (λ (vs : List Version). schemas_in (unwrap_or (slice_get vs version) empty_version).tables)
    versions ∙ was version (omega (arith, within, old)) ∙ ap
    (λ (ts : List CatTable). map shown_table (filter (λ t. nat_le t.since version) ts)) (sym tables)

-- all are there from the last version on
all_there : (c : Catalogue) (version : ℕ) (ts : List CatTable) → c.last ≤ version → AllByRecursion
    (λ t. t.since ≤ c.last) ts → filter (λ t. nat_le t.since version) ts ≡ ts
all_there c version [] le all = refl
all_there c version (t ∷ ts) le all =
    ap (λ (b : Bool). cond b (t ∷ filter (λ t. nat_le t.since version) ts)
    (filter (λ t. nat_le t.since version) ts)) (there t.since c.last version all.0 le)
    ∙ ap (λ (us : List CatTable). t ∷ us) (all_there c version ts le all.1)
  where
    there : (s l v : ℕ) → s ≤ l → l ≤ v → nat_le s v ≡ true
    there s l v le le' = grind arith

module _ (c : Catalogue) (st : State) (v : Version) (dropped added : List Name)
    (some : 0 < length st.versions) (last_is : c.last ≡ last st)
    (since : AllByRecursion (λ t. t.since ≤ c.last) c.tables) (was : TablesAgree c st) where
  abbrev st' : State
  st' = with_version v dropped added st

  longer : last st' ≡ last st + 1
  longer = omega (arith, length-append st.versions (v ∷ []), some)

  old : (n : ℕ) → n ≤ last st → version_at st' n ≡ version_at st n
  old n le = version_kept st st' (v ∷ [], refl) n (omega (arith, le, some))

  new_one : version_at st' (last st + 1) ≡ v
  new_one = let place : length st.versions ≡ last st + 1 = omega (arith, some) in ap
      (version_at st') (sym place) ∙ version_made st st' v []
      (sym (append-nil (st.versions ++ v ∷ [])))

  next : (n l : ℕ) → nat_le n l ≡ false → n ≤ l + 1 → l + 1 ≡ n
  next n l e le = grind arith

  -- the tables that a later version has too
  newest_shown : schemas_in (newest st).tables ≡ map shown_table c.tables
  newest_shown = was (last st) (omega arith) ∙ ap (map shown_table)
      (all_there c (last st) c.tables (omega (arith, last_is)) since)

  -- a version more that has the tables of the last one
  pub tables_same : schemas_in v.tables ≡ schemas_in (newest st).tables → TablesAgree c st'
  tables_same same version within =
      elim (nat_le version (last st)) as (λ b. nat_le version (last st) ≡ b → schemas_in
      (version_at st' version).tables ≡ map shown_table (tables_at c version)) [
        | true ↦ λ e.
            let le = leb-true version (last st) e in
            ap (λ (w : Version). schemas_in w.tables) (old version le) ∙ was version le
        | false ↦ λ e.
            let at = next version (last st) e (omega (arith, within, longer)) in
            subst (λ (n : ℕ). schemas_in (version_at st' n).tables ≡ map shown_table
            (tables_at c n))
            at (ap (λ (w : Version). schemas_in w.tables) new_one ∙ same ∙ newest_shown ∙ ap
            (map shown_table)
            (sym (all_there c (last st + 1) c.tables (omega (arith, last_is)) since)))
      ] refl

  -- one with a further table
  pub tables_created : (t : Table) → v.tables ≡ (newest st).tables ++ t ∷ [] → TablesAgree
      (with_table (record { name = t.name; schema = t.schema; since = c.last + 1 }) c) st'
  tables_created t is version within =
      let new : CatTable = record { name = t.name; schema = t.schema; since = c.last + 1 } in
      let parted = λ (n : ℕ). filter-append (λ (u : CatTable). nat_le u.since n) c.tables (new ∷ [])
      in
      elim (nat_le version (last st)) as (λ b. nat_le version (last st) ≡ b → schemas_in
      (version_at st' version).tables ≡ map shown_table
      (filter (λ u. nat_le u.since version) (c.tables ++ new ∷ []))) [
        | true ↦ λ e.
            let le = leb-true version (last st) e in
            let none : filter (λ (u : CatTable). nat_le u.since version) (new ∷ []) ≡ [] = ap
            (λ (b : Bool). cond b (new ∷ []) []) (later c.last version (omega (arith, le, last_is)))
            in
            ap (λ (w : Version). schemas_in w.tables) (old version le) ∙ was version le ∙ ap
            (map shown_table) (sym (parted version ∙ ap
            (λ (us : List CatTable). tables_at c version ++ us) none ∙ append-nil
            (tables_at c version)))
        | false ↦ λ e.
            let at = next version (last st) e (omega (arith, within, longer)) in
            let whole : filter (λ (u : CatTable). nat_le u.since (last st + 1)) (new ∷ []) ≡ new ∷
            []
            = ap (λ (b : Bool). cond b (new ∷ []) []) (now c.last (last st) last_is) in
            subst (λ (n : ℕ). schemas_in (version_at st' n).tables ≡ map shown_table
            (filter (λ u. nat_le u.since n) (c.tables ++ new ∷ []))) at
            (ap (λ (w : Version). schemas_in w.tables) new_one ∙ ap schemas_in is ∙ map_append
            (λ (u : Table). (u.name, u.schema)) (newest st).tables (t ∷ [])
            ∙ ap (λ (us : List Shown). us ++ (t.name, t.schema) ∷ []) newest_shown
            ∙ sym (map_append shown_table c.tables (new ∷ [])) ∙ ap (map shown_table)
            (sym (parted (last st + 1) ∙ (λ i. all_there c (last st + 1) c.tables
            (omega (arith, last_is)) since i ++ whole i))))
      ] refl
    where
      later : (l n : ℕ) → n ≤ l → nat_le (l + 1) n ≡ false
      later l n le = grind arith

      now : (l m : ℕ) → l ≡ m → nat_le (l + 1) (m + 1) ≡ true
      now l m e = grind arith

-- a commit leaves the schemas
pub schemas_changed : (seq : ℕ) (change : Change) (ts : Tables) → schemas_in
    (map (changed_table seq change) ts) ≡ schemas_in ts
schemas_changed seq change [] = refl
schemas_changed seq change (t ∷ ts) =
    ap (λ (us : List Shown). (t.name, t.schema) ∷ us) (schemas_changed seq change ts)
