-- A further version, over the rows of its commit.
use Rattle.std.proofs.Common.{◌≡◌, ℕ, ◌+◌, ◌≤◌, true, false, List, [], ◌∷◌, ◌++◌, Some, length}
use Rattle.std.proofs.Common.{refl, sym, ap, ◌∙◌, subst, arith, length-append}
use Rattle.std.proofs.lemmas.Bool.{leb-true}
use Rattle.std.proofs.lemmas.List.{append-nil}
use Rattle.std.proofs.lemmas.List.Elements.{filter-append}
use Rattle.std.specs.Prelude.{nat_le}
use Rattle.std.specs.List.{AllByRecursion}
use Rattle.lake_model.specs.State.{State, Transaction, last, transaction, version_at}
use Rattle.sql_model.specs.Versions.{Version, has_table, marked_rows_of}
use Rattle.lake_values.specs.Texts.{same_text}
use Rattle.lake_model.proofs.Growth.{version_kept, version_made}
use Rattle.sql_model.proofs.Lists.{all_append, all_weaker}
use Rattle.manifest_block.specs.declared.items.Item.{Item}
use Rattle.table_snapshot.specs.declared.files.FileRow.{FileRow}
use Rattle.file_laws.specs.Contents.{Contents}
use Rattle.table_snapshot.specs.Files.{items_of}
use Rattle.file_laws.specs.Standing.{AreUpTo, FilesStand, IsSeenBy}
use Rattle.file_laws.specs.Stands.{Stands, VersionStands, added_of, files_at, removed_of, rows_of}
use Rattle.file_laws.specs.Touching.{Row, TouchInTurn, replay_rows}
use Rattle.file_laws.proofs.CloseLemmas.{files_before}
use Rattle.file_laws.proofs.RowLemmas.{order_append, turns_append}

pub stands_grown : (c : Contents) (rows more : List Row) (items : ℕ → List Item) (st st' : State)
    (v : Version) → Stands c rows items st → st'.versions ≡ st.versions ++ v ∷ [] → st'.floor ≡
    st.floor
    → ((session : ℕ) (t : Transaction) → transaction st' session ≡ Some t → transaction st session
    ≡ Some t) → AllByRecursion (λ r. r.seq ≡ last st + 1) more → VersionStands c
    (rows ++ more) (last st + 1) v
    → ((table : List ℕ) → TouchInTurn table (replay_rows (rows_of table rows) [])
    (rows_of table more)) → Stands c (rows ++ more) items st'
stands_grown c rows more items st st' v stands made floor from new now turns = record {
  some = omega (arith, stands.some, longer);
  order = order_append (last st) rows more stands.order stands.within new;
  within = all_append (λ r. r.seq ≤ last st') rows more
      (all_weaker rows (λ r le. omega (arith, le, longer)) stands.within)
      (all_weaker more (λ r e. omega (arith, e, longer)) new);
  touching = λ table. subst (λ (rs : List Row). TouchInTurn table [] rs)
      (sym (filter-append (λ r. same_text r.table table) rows more)) (turns_append table
      (rows_of table rows) (rows_of table more) [] (stands.touching table) (turns table));
  versions = λ n low high. at_version n (omega (arith, low, floor)) (omega (arith, high, longer));
  open_ones = λ session t is.
      let was = stands.open_ones session t (from session t is) in
      let le = was.snapshot.1 in
      record {
        known = subst (λ (w : Version). AllByRecursion (λ a. has_table a.table w.tables ≡ true)
            t.pending.added) (sym (old t.snapshot le)) was.known;
        snapshot = (omega (arith, was.snapshot.0, floor), omega (arith, le, longer));
        each = λ table.
            subst (λ (fs : List FileRow). IsSeenBy c table t.number fs
            (marked_rows_of table (version_at st' t.snapshot).tables)
            (version_at st' t.snapshot).worn (items_of table (items session))
            (removed_of table t.pending.removed)
            (added_of table (version_at st' t.snapshot).tables 0 t.pending.added) t.worn)
            (sym (files_before rows more t.snapshot (last st) table le new))
            (subst (λ (w : Version). IsSeenBy c table t.number (files_at rows t.snapshot table)
            (marked_rows_of table w.tables) w.worn (items_of table (items session))
            (removed_of table t.pending.removed)
            (added_of table w.tables 0 t.pending.added) t.worn) (sym (old t.snapshot le))
            (was.each table));
      };
}
  where
    longer : last st' ≡ last st + 1
    longer = omega (
      arith,
      ap (λ (vs : List Version). length vs) made,
      length-append st.versions
          (v ∷ []),
      stands.some,
    )

    old : (n : ℕ) → n ≤ last st → version_at st' n ≡ version_at st n
    old n le = version_kept st st' (v ∷ [], made) n (omega (arith, le, stands.some))

    new_one : version_at st' (last st + 1) ≡ v
    new_one = let place : length st.versions ≡ last st + 1 = omega (arith, stands.some) in ap
        (version_at st') (sym place) ∙ version_made st st' v []
        (made ∙ sym (append-nil (st.versions ++ v ∷ [])))

    still : (n : ℕ) → n ≤ last st → VersionStands c rows n (version_at st n) → VersionStands c
        (rows ++ more) n (version_at st n)
    still n le was = record {
      each = λ table. subst (λ (fs : List FileRow). FilesStand c table fs
          (marked_rows_of table (version_at st n).tables) (version_at st n).worn)
          (sym (files_before rows more n (last st) table le new)) (was.each table);
      up_to = λ table. subst (λ (fs : List FileRow). AreUpTo n fs (version_at st n).worn)
          (sym (files_before rows more n (last st) table le new)) (was.up_to table);
    }

    next : (n l : ℕ) → nat_le n l ≡ false → n ≤ l + 1 → l + 1 ≡ n
    next n l e le = grind arith

    at_version : (n : ℕ) → st.floor ≤ n → n ≤ last st + 1 → VersionStands c (rows ++ more) n
        (version_at st' n)
    at_version n low high =
        elim (nat_le n (last st)) as
        (λ b. nat_le n (last st) ≡ b → VersionStands c (rows ++ more) n (version_at st' n)) [
          | true ↦ λ e. let le = leb-true n (last st) e in subst
              (λ (w : Version). VersionStands c (rows ++ more) n w) (sym (old n le))
              (still n le (stands.versions n low le))
          | false ↦ λ e.
              let is : last st + 1 ≡ n = next n (last st) e high in
              subst (λ (k : ℕ). VersionStands c (rows ++ more) k (version_at st' k)) is (subst
              (λ (w : Version). VersionStands c (rows ++ more) (last st + 1) w) (sym new_one)
              now)
        ] refl
