-- Which other entries keep it that the catalogue stands.
use Rattle.std.proofs.Common.{◌≡◌, ℕ, ◌+◌, ◌≤◌, Bool, true, false, not, ◌&&◌, cond, nat_eq, List}
use Rattle.std.proofs.Common.{[], ◌∷◌, ◌++◌, Option, None, Some, filter, length, refl, sym, ap, ◌∙◌}
use Rattle.std.proofs.Common.{arith, subst, length-append, if◌then◌else◌}
use Rattle.std.proofs.lemmas.Bool.{eqb-true, le-leb, leb-true}
use Rattle.std.proofs.lemmas.List.{append-nil}
use Rattle.std.specs.Prelude.{nat_le}
use Rattle.std.specs.List.{AllByRecursion}
use Rattle.std.specs.Option.{option_map_or}
use Rattle.sql_model.specs.declared.changes.Mark.{Mark}
use Rattle.sql_model.specs.declared.changes.MarkedRow.{MarkedRow}
use Rattle.sql_model.specs.Changes.{no_change}
use Rattle.lake_model.specs.State.{State, Transaction, after_created, ended, last, newest}
use Rattle.lake_model.specs.State.{opened_by, transaction, turned, version_at}
use Rattle.sql_model.specs.Versions.{Table, Tables, Version, has_table, marked_rows_of, table_of}
use Rattle.lake_values.specs.Texts.{same_text}
use Rattle.lake_model.proofs.Growth.{version_kept, version_made}
use Rattle.sql_model.proofs.Lists.{all_weaker, all_filter}
use Rattle.sql_model.proofs.Removal.{filter_all}
use Rattle.manifest_block.specs.declared.items.Item.{Item}
use Rattle.table_snapshot.specs.declared.files.FileRow.{FileRow}
use Rattle.table_snapshot.specs.Files.{items_of}
use Rattle.file_laws.specs.Contents.{Contents, mark_of}
use Rattle.file_laws.specs.Stands.{OpenStands, Stands, VersionStands, added_of, files_at}
use Rattle.file_laws.specs.Stands.{removed_of, rows_of, rows_to}
use Rattle.file_laws.specs.StandsLaws.{StandsBegan, StandsCollected, StandsCreated, StandsEnded}
use Rattle.file_laws.specs.StandsLaws.{StandsStopped, with_items}
use Rattle.file_laws.specs.Standing.{AreUpTo, FilesStand, IsSeenBy}
use Rattle.file_laws.specs.Touching.{Row, is_marked, replay_rows}
use Rattle.file_laws.proofs.ChangeLemmas.{still_open}
use Rattle.file_laws.proofs.StandsLaw.{stand_again}

-- what is open over the same versions

pub stands_ended : StandsEnded
stands_ended c rows items st session stands = record {
  some = stands.some;
  order = stands.order;
  within = stands.within;
  touching = stands.touching;
  versions = stands.versions;
  open_ones = λ other t is.
      let was = stands.open_ones other t (still_open session other st.running t is) in
      record { known = was.known; snapshot = was.snapshot; each = was.each };
}

pub stands_collected : StandsCollected
stands_collected c rows items st floor stands up open_above = record {
  some = stands.some;
  order = stands.order;
  within = stands.within;
  touching = stands.touching;
  versions = λ n low high. stands.versions n (omega (arith, up, low)) high;
  open_ones = λ session t is.
      let was = stands.open_ones session t is in
      record {
        known = was.known;
        snapshot = (open_above session t is, was.snapshot.1);
        each =
            was.each;
      };
}

-- a session with another transaction, and the others as they were
pub turned_stands : (c : Contents) (rows : List Row) (items items' : ℕ → List Item) (st : State)
    (session : ℕ) (t : Transaction) → Stands c rows items st → OpenStands c rows st (items' session)
    t
    → ((other : ℕ) → nat_eq other session ≡ false → items' other ≡ items other) → Stands c rows
    items' (turned session t st)
turned_stands c rows items items' st session t stands mine others = record {
  some = stands.some;
  order = stands.order;
  within = stands.within;
  touching = stands.touching;
  versions = stands.versions;
  open_ones = λ other u is. at other u is;
}
  where
    again : (other : ℕ) (u : Transaction) (own : List Item) → OpenStands c rows st own u →
        OpenStands c rows (turned session t st) own u
    again other u own was = record { known = was.known; snapshot = was.snapshot; each = was.each }

    flip : (other : ℕ) → nat_eq session other ≡ false → nat_eq other session ≡ false
    flip other e = elim (nat_eq other session) as (λ b. nat_eq other session ≡ b → b ≡ false) [
      | true ↦ λ h. let same : other ≡ session = eqb-true other session h in let back : nat_eq
          session other ≡ nat_eq other session = λ i. nat_eq (sym same i) (same i) in sym h ∙ sym
          back ∙ e
      | false ↦ λ h. refl
    ] refl

    some_same : {x y : Transaction} → ◌≡◌ {A = Option Transaction} (Some x) (Some y) → x ≡ y
    some_same e = cc

    at : (other : ℕ) (u : Transaction) → transaction (turned session t st) other ≡ Some u →
        OpenStands c rows (turned session t st) (items' other) u
    at other u is =
        elim (nat_eq session other) as (λ b. nat_eq session other ≡ b → (if b then Some t else
        opened_by other (filter (λ o. not (nat_eq o.0 session)) st.running)) ≡ Some u →
        OpenStands c rows (turned session t st) (items' other) u) [
          | true ↦ λ e is.
              let here = again session t (items' session) mine in
              subst (λ (n : ℕ). OpenStands c rows (turned session t st) (items' n) u)
              (eqb-true session other e) (subst (λ (x : Transaction). OpenStands c rows
              (turned session t st) (items' session) x) (some_same is) here)
          | false ↦ λ e is.
              let was = stands.open_ones other u (still_open session other st.running u is) in
              again other u (items' other) (subst (λ (own : List Item). OpenStands c rows st own u)
              (sym (others other (flip other e))) was)
        ] refl is

pub stands_stopped : StandsStopped
stands_stopped c rows items st session ends stands =
    elim (transaction st session) as (λ o. transaction st session ≡ o → Stands c rows items
    (option_map_or (λ t. if t.explicit && not ends then turned session
    (record t { parts = t.parts + 1 }) st else ended session st) o st)) [
      | None ↦ λ e. stands
      | Some t ↦ λ e. elim (t.explicit && not ends) as (λ b. Stands c rows items
          (if b then turned session (record t { parts = t.parts + 1 }) st else ended session st)) [
            | true ↦
                let was = stands.open_ones session t e in
                turned_stands c rows items items st session (record t { parts = t.parts + 1 })
                stands
                (record {
                  known = was.known;
                  snapshot = was.snapshot;
                  each = λ table. let seen =
                      was.each table in record {
                        may = seen.may;
                        none = seen.none;
                        part = seen.part;
                        own_rows = seen.own_rows;
                        own_marks = seen.own_marks;
                        stands = seen.stands;
                      };
                })
                (λ other differ. refl)
            | false ↦ stands_ended c rows items st session stands
          ]
    ] refl

-- a transaction that begins

nothing_added : (table : List ℕ) (tables : Tables) → added_of table tables 0 [] ≡ []
nothing_added table tables =
    elim (table_of table tables) as (λ o. option_map_or {U = List MarkedRow} (λ t. []) o [] ≡ [])
    [ None ↦ refl | Some t ↦ refl ]

pub stands_began : StandsBegan
stands_began c rows items st session explicit number stands floor none =
    let t : Transaction = record {
      explicit = explicit;
      number = number;
      snapshot = last st;
      pending = no_change;
      worn = [];
      parts = 0;
    } in
    let at_last = stands.versions (last st) floor (omega arith) in
    let seen : (table : List ℕ) → IsSeenBy c table number (files_at rows (last st) table)
    (marked_rows_of table (newest st).tables) (newest st).worn [] []
    (added_of table (newest st).tables 0 []) [] = λ table.
    let nothing = nothing_added table (newest st).tables in
    let here = at_last.each table in
    let all = marked_rows_of table (newest st).tables in
    record {
      may = tt;
      none = none table;
      part = (all, λ g. refl);
      own_rows = subst
          (λ (ms : List MarkedRow). AllByRecursion (λ m. nat_eq m.mark.seq 0 ≡ true) ms)
          (sym nothing) tt;
      own_marks = tt;
      stands = stand_again c table (files_at rows (last st) table) all
          (all ++ added_of table (newest st).tables 0 []) (newest st).worn
          ((newest st).worn ++ [] ++ []) here
          (sym (append-nil all) ∙ ap (λ (ms : List MarkedRow). all ++ ms) (sym nothing))
          (all_weaker (files_at rows (last st) table) (λ f _. ap
          (λ (ms : List Mark). is_marked ms (mark_of table f))
          (sym (append-nil ((newest st).worn ++ []) ∙ append-nil (newest st).worn)))
          here.vectors);
    } in
    let items' = with_items session [] items in
    let mine : items' session ≡ [] = ap (λ (b : Bool). if b then [] else items session)
    (same session) in
    let before : Stands c rows items' (turned session t st) = turned_stands c rows items items' st
    session t stands
    (subst (λ (own : List Item). OpenStands c rows st own t) (sym mine)
    (record { known = tt; snapshot = (floor, omega arith); each = seen }))
    (λ other differ. ap (λ (b : Bool). if b then [] else items other) differ) in
    record {
      some = before.some;
      order = before.order;
      within = before.within;
      touching =
          before.touching;
      versions = before.versions;
      open_ones = λ other u is. let was =
          before.open_ones other u is in record
          { known = was.known; snapshot = was.snapshot; each = was.each };
    }
  where
    same : (n : ℕ) → nat_eq n n ≡ true
    same n = grind arith

-- a new table

rows_with : (table : List ℕ) (tables : Tables) (t : Table) → t.rows ≡ [] → marked_rows_of table
    (tables ++ t ∷ []) ≡ marked_rows_of table tables
rows_with table [] t none =
    elim (same_text t.name table) as
    (λ b. option_map_or (λ t. t.rows) (cond b (Some t) None) [] ≡ [])
    [ true ↦ none | false ↦ refl ]
rows_with table (x ∷ xs) t none =
    elim (same_text x.name table) as (λ b. option_map_or (λ t. t.rows)
    (cond b (Some x) (table_of table (xs ++ t ∷ []))) [] ≡ option_map_or (λ t. t.rows)
    (cond b (Some x) (table_of table xs)) []) [
      | true ↦ refl
      | false ↦ rows_with table xs t none
    ]

pub stands_created : StandsCreated
stands_created c rows items st t stands floor none = record {
  some = omega (arith, length-append st.versions (v ∷ []));
  order = stands.order;
  within = all_weaker rows (λ r le. omega (arith, le, longer)) stands.within;
  touching = stands.touching;
  versions = λ n low high. at n low (omega (arith, high, longer));
  open_ones = λ session u is.
      let was = stands.open_ones session u is in
      let same = old_version u.snapshot was.snapshot.1 in
      record {
        known = subst (λ (w : Version). AllByRecursion (λ a. has_table a.table w.tables ≡ true)
            u.pending.added) (sym same) was.known;
        snapshot = (was.snapshot.0, omega (arith, was.snapshot.1, longer));
        each = λ table. subst (λ (w : Version). IsSeenBy c table u.number
            (files_at rows u.snapshot table) (marked_rows_of table w.tables) w.worn
            (items_of table (items session)) (removed_of table u.pending.removed)
            (added_of table w.tables 0 u.pending.added) u.worn) (sym same) (was.each table);
      };
}
  where
    v : Version
    v = record (newest st) { tables = (newest st).tables ++ t ∷ []; struck = [] }

    st' : State
    st' = after_created t st

    longer : last st' ≡ last st + 1
    longer = omega (arith, length-append st.versions (v ∷ []), stands.some)

    old_version : (n : ℕ) → n ≤ last st → version_at st' n ≡ version_at st n
    old_version n le = version_kept st st' (v ∷ [], refl) n (omega (arith, le, stands.some))

    new_version : version_at st' (last st + 1) ≡ v
    new_version = let place : length st.versions ≡ last st + 1 = omega (arith, stands.some) in ap
        (version_at st') (sym place) ∙ version_made st st' v []
        (sym (append-nil (st.versions ++ v ∷ [])))

    all_to : (n : ℕ) (table : List ℕ) → last st ≤ n → rows_to n (rows_of table rows) ≡ rows_of table
        rows
    all_to n table le = filter_all (λ r. nat_le r.seq n) (rows_of table rows) (all_filter
        (λ r. nat_le r.seq n ≡ true) (λ r. same_text r.table table) rows
        (all_weaker rows (λ r up. le-leb r.seq n (omega (arith, up, le))) stands.within))

    same_files : (table : List ℕ) → files_at rows (last st + 1) table ≡ files_at rows (last st)
        table
    same_files table = ap (λ (rs : List Row). replay_rows rs [])
        (all_to (last st + 1) table (omega arith) ∙ sym (all_to (last st) table (omega arith)))

    new_stands : VersionStands c rows (last st + 1) v
    new_stands =
        let was = stands.versions (last st) floor (omega arith) in
        record {
          each = λ table. subst
              (λ (fs : List FileRow). FilesStand c table fs (marked_rows_of table v.tables) v.worn)
              (sym (same_files table)) (subst (λ (ms : List MarkedRow). FilesStand c table
              (files_at rows (last st) table) ms v.worn)
              (sym (rows_with table (newest st).tables t none)) (was.each table));
          up_to = λ table. let up = was.up_to table in subst
              (λ (fs : List FileRow). AreUpTo (last st + 1) fs v.worn) (sym (same_files table))
              (record {
                of_files = all_weaker (files_at rows (last st) table)
                    (λ f both. (both.0, omega (arith, both.1))) up.of_files;
                of_worn = all_weaker (newest st).worn (λ m both. (both.0, omega (arith, both.1)))
                    up.of_worn;
              });
        }

    at : (n : ℕ) → st.floor ≤ n → n ≤ last st + 1 → VersionStands c rows n (version_at st' n)
    at n low high =
        elim (nat_le n (last st)) as
        (λ b. nat_le n (last st) ≡ b → VersionStands c rows n (version_at st' n)) [
          | true ↦ λ e. let le = leb-true n (last st) e in subst
              (λ (w : Version). VersionStands c rows n w) (sym (old_version n le))
              (stands.versions n low le)
          | false ↦ λ e. let is : last st + 1 ≡ n = next n (last st) e high in subst
              (λ (k : ℕ). VersionStands c rows k (version_at st' k)) is (subst
              (λ (w : Version). VersionStands c rows (last st + 1) w) (sym new_version)
              new_stands)
        ] refl
      where
        next : (n l : ℕ) → nat_le n l ≡ false → n ≤ l + 1 → l + 1 ≡ n
        next n l e le = grind arith
