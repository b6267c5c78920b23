-- What the rows of a store say of its versions.
use Rattle.std.proofs.Common.{◌≡◌, ℕ, ◌+◌, ◌<◌, Bool, true, false, ◌&&◌, List, [], ◌∷◌, ◌++◌, map, length, take, drop, get_or, set, refl, sym, ap, ◌∙◌, subst, arith, nat_lt, if◌then◌else◌}
use Rattle.std.specs.List.{AllByRecursion, list_any}
use Rattle.std.proofs.lemmas.List.{append-nil, map_push, append_assoc, drop-set-lt, drop_more, take_more_set}
use Rattle.sql_model.specs.declared.changes.Added.{Added}
use Rattle.sql_model.specs.declared.changes.Mark.{Mark}
use Rattle.sql_model.specs.declared.changes.MarkedRow.{MarkedRow}
use Rattle.lake_values.specs.Texts.{same_text}
use Rattle.lake_values.proofs.SameTexts.{same_text_is, same_text_self, same_text_sym}
use Rattle.table_history.specs.declared.kept.Kept.{Kept}
use Rattle.table_history.specs.declared.kept.ViewRow.{ViewRow}
use Rattle.table_history.specs.Strikes.{less, same_marked, struck, times}
use Rattle.table_history.specs.Histories.{NamesTables, rows_for}
use Rattle.table_history.proofs.StrikeLemmas.{same_tells}
use Rattle.table_history.specs.Stores.{Stored, HaveOwnNames, IsNewName, grown_store, kept_by, marked_as, marked_of, stands, rows_at, gone, stamped, stamped_store}

-- a row that stands in the version, or doesn't, before the others

pub out_one : (version : ℕ) (table : List ℕ) (k : Kept) (ks : List Kept) → stands version k ≡ false → rows_at version table (k ∷ ks) ≡ rows_at version table ks
out_one version table k ks out = rw out refl

pub in_one : (version : ℕ) (table : List ℕ) (k : Kept) (ks : List Kept) → stands version k ≡ true → rows_at version table (k ∷ ks) ≡ marked_as table k ∷ rows_at version table ks
in_one version table k ks in_ = rw in_ refl

pub struck_one : (count : MarkedRow → ℕ) (x : MarkedRow) (xs : List MarkedRow) → nat_lt 0 (count x) ≡ true → struck count (x ∷ xs) ≡ struck (less x count) xs
struck_one count x xs some = rw some refl

pub left_one : (count : MarkedRow → ℕ) (x : MarkedRow) (xs : List MarkedRow) → nat_lt 0 (count x) ≡ false → struck count (x ∷ xs) ≡ x ∷ struck count xs
left_one count x xs none = rw none refl

-- one row is put behind the others, or struck off

module _ (version : ℕ) (table : List ℕ) (k : Kept) (count : MarkedRow → ℕ) where
  pub put_struck : stands version k ≡ true → nat_lt 0 (count (marked_as table k)) ≡ true → (after : MarkedRow → ℕ) → after ≡ less (marked_as table k) count → (ks : List Kept) →
      struck after (rows_at version table ks) ≡ struck count (rows_at version table (k ∷ ks))
  put_struck in_ some after is ks =
      ap (λ (c : MarkedRow → ℕ). struck c (rows_at version table ks)) is ∙ sym (struck_one count (marked_as table k) (rows_at version table ks) some) ∙ ap (struck count) (sym (in_one version table k ks in_))

  pub put_left : stands version k ≡ true → nat_lt 0 (count (marked_as table k)) ≡ false → (after : MarkedRow → ℕ) → after ≡ count → (rows new : List ViewRow) (r : ViewRow) → new ≡ rows ++ r ∷ [] →
      marked_of table r ≡ marked_as table k → (ks : List Kept) →
      map (marked_of table) new ++ struck after (rows_at version table ks) ≡ map (marked_of table) rows ++ struck count (rows_at version table (k ∷ ks))
  put_left in_ none after is rows new r pushed lent ks =
      let rest = struck count (rows_at version table ks) in
      ap (λ (c : MarkedRow → ℕ). map (marked_of table) new ++ struck c (rows_at version table ks)) is
      ∙ ap (λ (rs : List ViewRow). map (marked_of table) rs ++ rest) pushed
      ∙ ap (λ (ms : List MarkedRow). ms ++ rest) (map_push (marked_of table) rows r)
      ∙ append_assoc (map (marked_of table) rows) (marked_of table r ∷ []) rest
      ∙ ap (λ (m : MarkedRow). map (marked_of table) rows ++ m ∷ rest) lent
      ∙ ap (λ (ms : List MarkedRow). map (marked_of table) rows ++ ms) (sym (left_one count (marked_as table k) (rows_at version table ks) none) ∙ ap (struck count) (sym (in_one version table k ks in_)))

  -- one row is stamped, or stays

  pub stamp_gone : (seq : ℕ) → stands version k ≡ true → nat_lt 0 (count (marked_as table k)) ≡ true → (after : MarkedRow → ℕ) → after ≡ less (marked_as table k) count → (ks : List Kept) →
      gone seq k ∷ stamped table version seq after ks ≡ stamped table version seq count (k ∷ ks)
  stamp_gone seq in_ some after is ks = rw (in_, some) (ap (λ (c : MarkedRow → ℕ). gone seq k ∷ stamped table version seq c ks) is)

  pub stamp_left : (seq : ℕ) → nat_lt 0 (count (marked_as table k)) ≡ false → (after : MarkedRow → ℕ) → after ≡ count → (ks : List Kept) → k ∷ stamped table version seq after ks ≡ stamped table version seq count (k ∷ ks)
  stamp_left seq none after is ks =
      let not : (stands version k && nat_lt 0 (count (marked_as table k))) ≡ false = ap (λ (b : Bool). stands version k && b) none ∙ and_false (stands version k) in
      rw not (ap (λ (c : MarkedRow → ℕ). k ∷ stamped table version seq c ks) is)
    where
      and_false : (b : Bool) → (b && false) ≡ false
      and_false true = refl
      and_false false = refl

  pub stamp_out : (seq : ℕ) → stands version k ≡ false → (ks : List Kept) → k ∷ stamped table version seq count ks ≡ stamped table version seq count (k ∷ ks)
  stamp_out seq out ks = rw out refl

-- the rows up to a place are done, and so is one more
pub stamped_more : (table : List ℕ) (version seq : ℕ) (before after : MarkedRow → ℕ) (rows : List Kept) (i : ℕ) (old new : Kept) (all : List Kept) → i < length rows → old ≡ get_or rows i old →
    ((ks : List Kept) → new ∷ stamped table version seq after ks ≡ stamped table version seq before (old ∷ ks)) →
    take i rows ++ stamped table version seq before (drop i rows) ≡ all → take (i + 1) (set rows i new) ++ stamped table version seq after (drop (i + 1) (set rows i new)) ≡ all
stamped_more table version seq before after rows i old new all within is step done =
    let rest = drop (i + 1) rows in
    ap (λ (ks : List Kept). ks ++ stamped table version seq after (drop (i + 1) (set rows i new))) (take_more_set rows i new within)
    ∙ append_assoc (take i rows) (new ∷ []) (stamped table version seq after (drop (i + 1) (set rows i new)))
    ∙ ap (λ (ks : List Kept). take i rows ++ new ∷ stamped table version seq after ks) (drop-set-lt (i + 1) rows i new (omega arith))
    ∙ ap (λ (ks : List Kept). take i rows ++ ks) (step rest ∙ ap (λ (k : Kept). stamped table version seq before (k ∷ rest)) is ∙ ap (stamped table version seq before) (sym (drop_more rows i old within)))
    ∙ done

-- a table from which no row is removed

not_named : (marks : List Mark) (name : List ℕ) → list_any (λ mark. same_text mark.table name) marks ≡ false → (removed : List MarkedRow) → NamesTables marks removed → AllByRecursion (λ r. same_text r.mark.table name ≡ false) removed
not_named marks name none [] all = tt
not_named marks name none (r ∷ rs) all = (
  elim (same_text r.mark.table name) as (λ b. same_text r.mark.table name ≡ b → b ≡ false) [
    | true ↦ λ e. let same : list_any (λ mark. same_text mark.table name) marks ≡ true = ap (λ (n : List ℕ). list_any (λ mark. same_text mark.table n) marks) (sym (same_text_is r.mark.table name e)) ∙ all.0 in absurd cc
    | false ↦ λ e. refl
  ] refl,
  not_named marks name none rs all.1,
)

not_removed : (name : List ℕ) (k : Kept) (removed : List MarkedRow) → AllByRecursion (λ r. same_text r.mark.table name ≡ false) removed → times removed (marked_as name k) ≡ 0
not_removed name k [] all = refl
not_removed name k (r ∷ rs) all =
    elim (same_marked r (marked_as name k)) as (λ b. same_marked r (marked_as name k) ≡ b → (if b then times rs (marked_as name k) + 1 else times rs (marked_as name k)) ≡ 0) [
      | true ↦ λ e.
          let same : same_text r.mark.table name ≡ true = ap (λ (m : MarkedRow). same_text m.mark.table name) (same_tells r (marked_as name k) e) ∙ same_text_self name in
          let not : same_text r.mark.table name ≡ false = all.0 in
          absurd cc
      | false ↦ λ e. not_removed name k rs all.1
    ] refl

none_stamped : (name : List ℕ) (version seq : ℕ) (count : MarkedRow → ℕ) → ((k : Kept) → count (marked_as name k) ≡ 0) → (rows : List Kept) → rows ≡ stamped name version seq count rows
none_stamped name version seq count none [] = refl
none_stamped name version seq count none (k ∷ ks) =
    let zero_here : count (marked_as name k) ≡ 0 = none k in
    let not : nat_lt 0 (count (marked_as name k)) ≡ false = nothing (count (marked_as name k)) zero_here in
    ap (λ (rows : List Kept). k ∷ rows) (none_stamped name version seq count none ks) ∙ stamp_left version name k count seq not count refl ks
  where
    nothing : (n : ℕ) → n ≡ 0 → nat_lt 0 n ≡ false
    nothing n e = grind arith

-- where no mark names the table, the store stays
pub unnamed_stays : (version seq : ℕ) (marks : List Mark) (removed : List MarkedRow) (s : Stored) → NamesTables marks removed → list_any (λ mark. same_text mark.table s.name) marks ≡ false → s ≡ stamped_store version seq removed s
unnamed_stays version seq marks removed s names none =
    let rows = none_stamped s.name version seq (times removed) (λ k. not_removed s.name k removed (not_named marks s.name none removed names)) s.rows in
    λ i. record s { rows = rows i }

-- a part whose table has another name adds nothing
pub other_stays : (seq : ℕ) (a : Added) (s : Stored) → same_text s.name a.table ≡ false → grown_store seq a s ≡ s
other_stays seq a s differ =
    let not : same_text a.table s.name ≡ false = same_text_sym a.table s.name ∙ differ in
    rw not (ap (λ (rows : List Kept). record s { rows = rows }) (append-nil s.rows))

pub own_grows : (seq : ℕ) (a : Added) (s : Stored) → s.name ≡ a.table → grown_store seq a s ≡ record s { rows = s.rows ++ map (kept_by s.schema seq a.part) a.rows }
own_grows seq a s named =
    let same : same_text a.table s.name ≡ true = ap (same_text a.table) named ∙ same_text_self a.table in
    rw same refl

-- how many rows a part and those behind it add

pub rows_more : (name : List ℕ) (a : Added) (more : List Added) → rows_for name (a ∷ more) ≡ rows_for name more + rows_for name (a ∷ [])
rows_more name a more =
    elim (same_text a.table name) as (λ b. (if b then length a.rows + rows_for name more else rows_for name more) ≡ rows_for name more + (if b then length a.rows + 0 else 0)) [
      | true ↦ omega arith
      | false ↦ omega arith
    ]

-- stores whose names stay have names of their own

new_kept : (f : Stored → Stored) → ((s : Stored) → (f s).name ≡ s.name) → (name : List ℕ) (ss : List Stored) → IsNewName name ss → IsNewName name (map f ss)
new_kept f same name [] new = tt
new_kept f same name (s ∷ ss) new = (ap (λ (n : List ℕ). same_text n name) (same s) ∙ new.0, new_kept f same name ss new.1)

pub own_kept : (f : Stored → Stored) → ((s : Stored) → (f s).name ≡ s.name) → (ss : List Stored) → HaveOwnNames ss → HaveOwnNames (map f ss)
own_kept f same [] own = tt
own_kept f same (s ∷ ss) own = (subst (λ (n : List ℕ). IsNewName n (map f ss)) (sym (same s)) (new_kept f same s.name ss own.0), own_kept f same ss own.1)
