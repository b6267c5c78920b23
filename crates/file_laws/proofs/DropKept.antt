-- What the rows of a commit drop, the last version has.
use Rattle.std.proofs.Common.{◌≡◌, ℕ, ◌≤◌, Bool, true, ◌&&◌, not, List, [], ◌∷◌, map, sym, ◌∙◌}
use Rattle.std.proofs.Common.{arith, refl}
use Rattle.std.specs.List.{AllByRecursion, list_all}
use Rattle.lake_values.specs.declared.names.Name.{Name}
use Rattle.lake_values.specs.Names.{is_among}
use Rattle.lake_values.specs.Texts.{same_text}
use Rattle.lake_model.specs.Allowed.{has_names}
use Rattle.lake_model.specs.State.{State, last, last_names, state}
use Rattle.sql_model.proofs.Lists.{all_weaker}
use Rattle.sql_model.specs.declared.changes.Mark.{Mark}
use Rattle.lake_model.proofs.Sound.{states_are_sound}
use Rattle.manifest_block.specs.declared.items.Item.{Item}
use Rattle.table_snapshot.specs.Files.{items_of, replay}
use Rattle.file_laws.specs.Catalogues.{gives}
use Rattle.file_laws.specs.Kept.{Agrees, Book, shown, shown_row}
use Rattle.file_laws.specs.KeptLaws.{AreRows, IsRowOf, KeptDrops}
use Rattle.table_snapshot.specs.Files.{names_in}
use Rattle.file_laws.specs.Stands.{files_at}
use Rattle.file_laws.specs.Touching.{Row}
use Rattle.file_laws.proofs.NameKept.{among_self}
use Rattle.file_laws.proofs.Some.{and_both, any_known, any_weaker}
use Rattle.file_laws.proofs.TellKept.{files_have_names}

all_true : {X : Type 0} (p : X → Bool) (xs : List X) → AllByRecursion (λ x. p x ≡ true) xs →
    list_all p xs ≡ true
all_true p [] all = refl
all_true p (x ∷ xs) all = rw all.0 (all_true p xs all.1)

module _ (k : Book) (st : State) (number : ℕ) (mine : List Item) (struck : List Mark)
    (agrees : Agrees k st) (floor : st.floor ≤ last st) where
  last_has : (n : Name) (r : Row) → IsRowOf k st number mine struck r → is_among n r.dropped ≡ true
      → is_among n (last_names st) ≡ true
  last_has n r is drops =
      let old = files_at k.rows (last st) r.table in
      let new = replay r.seq (items_of r.table r.items) old in
      let was = (and_both (is_among n (names_in old)) (not (is_among n (names_in new)))
      (sym (is.names.loses n) ∙ drops)).0 in
      let by_table = sym (files_have_names k st (last st) r.table n agrees) ∙ was in
      let has = any_weaker (λ s. same_text s.table r.table && gives (shown k st) (last st) n s)
      (gives (shown k st) (last st) n) (map shown_row k.rows)
      (λ s e. (and_both (same_text s.table r.table) (gives (shown k st) (last st) n s) e).1)
      by_table in
      sym (agrees.names.versions (last st) n floor (omega arith)) ∙ has

  drops_there : (gained lost : List Name) (more : List Row) → AreRows k st number mine struck gained
      lost more → has_names st lost ≡ true
  drops_there gained lost more rows =
      all_true (λ n. is_among n (last_names st)) lost
      (all_weaker lost (λ n is. any_known (IsRowOf k st number mine struck)
      (λ r. is_among n r.dropped) (is_among n (last_names st) ≡ true) more rows.rows
      (λ r. last_has n r) (rows.dropped n ∙ is)) (among_self lost))

pub kept_drops : KeptDrops
kept_drops k entries number mine struck gained lost more kept rows =
    drops_there k (state entries) number mine struck kept.agrees
    (states_are_sound entries kept.legal).floor gained lost more rows
