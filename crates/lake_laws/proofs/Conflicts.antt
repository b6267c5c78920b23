-- What a catalogue says of conflicts.
use Rattle.std.proofs.Common.{◌≡◌, ℕ, zero, suc, ◌+◌, ◌-◌, ◌<◌, ◌≤◌, Bool, true, false, ◌&&◌}
use Rattle.std.proofs.Common.{nat_eq, nat_lt, cond, List, [], ◌∷◌, None, Some, map, flat_map}
use Rattle.std.proofs.Common.{refl, sym, ap, ◌∙◌, ⊎_elim, subst, arith}
use Rattle.std.proofs.lemmas.Bool.{eqb-true, ltb-true}
use Rattle.std.specs.Prelude.{find}
use Rattle.std.specs.List.{AllByRecursion, list_any}
use Rattle.lake_values.specs.Texts.{same_text}
use Rattle.lake_values.proofs.SameTexts.{same_text_is, same_text_self}
use Rattle.sql_model.specs.declared.changes.Mark.{Mark}
use Rattle.sql_model.specs.Listing.{numbers}
use Rattle.sql_model.specs.Units.{same_unit, share_unit, units_of_marks, whole_table}
use Rattle.lake_model.specs.Conflicts.{wrote_one}
use Rattle.lake_model.specs.State.{State, last, version_at}
use Rattle.write_set_catalog.specs.Catalogs.{ToldCommit}
use Rattle.write_set_catalog.specs.Conflicts.{HasNoConflict, is_conflict}
use Rattle.write_set_catalog.specs.Conflicts.{row_writes_one, writes_one}
use Rattle.write_set_catalog.specs.declared.rows.CatRow.{CatRow}
use Rattle.file_laws.specs.Kept.{TellsMarks, has_row_at, marks_of_table}
use Rattle.file_laws.specs.Noting.{NotesAgree}
use Rattle.file_laws.specs.Touching.{Row, is_marked}
use Rattle.file_laws.proofs.Some.{and_both, and_made, any_known, any_map, any_parts, any_weaker}
use Rattle.file_laws.proofs.Some.{not_true, or_either, or_left, or_right}
use Rattle.file_laws.proofs.StandLemmas.{mark_self}
use Rattle.sql_model.proofs.Lists.{all_parts, all_weaker}
use Rattle.sql_model.specs.Changes.{same_mark}
use Rattle.lake_laws.specs.Books.{book, row_of, rows_of_commit}
use Rattle.lake_laws.specs.Chronicles.{state_of}
use Rattle.lake_laws.specs.Laws.{StandsForConflicts}

-- units of marks

-- a mark of the table is among these
abbrev names : List ℕ → List Mark → Bool
names table marks = list_any (λ m. same_text table m.table) marks

units_named : (table : List ℕ) (marks : List Mark) → list_any (same_unit (whole_table table))
    (units_of_marks marks) ≡ names table marks
units_named table marks = any_map (same_unit (whole_table table)) (λ m. whole_table m.table) marks

named_self : (marks : List Mark) → AllByRecursion (λ m. names m.table marks ≡ true) marks
named_self [] = tt
named_self (m ∷ ms) = (
  or_left (same_text m.table m.table) (names m.table ms) (same_text_self m.table),
  all_weaker ms (λ n is. or_right (same_text n.table m.table) (names n.table ms) is)
      (named_self ms),
)

marked_self : (marks : List Mark) → AllByRecursion (λ m. is_marked marks m ≡ true) marks
marked_self [] = tt
marked_self (m ∷ ms) = (
  or_left (same_mark m m) (is_marked ms m) (mark_self m),
  all_weaker ms (λ n is. or_right (same_mark n m) (is_marked ms n) is) (marked_self ms),
)

-- marks of one table share it
shared : (table : List ℕ) (marks struck : List Mark) → names table marks ≡ true → names table struck
    ≡ true → share_unit (units_of_marks marks) (units_of_marks struck) ≡ true
shared table [] struck e f = absurd cc
shared table (m ∷ ms) struck e f =
    ⊎_elim (λ here. or_left (list_any (same_unit (whole_table m.table)) (units_of_marks struck))
    (share_unit (units_of_marks ms) (units_of_marks struck))
    (units_named m.table struck ∙ ap (λ (t : List ℕ). names t struck)
    (sym (same_text_is table m.table here)) ∙ f))
    (λ rest. or_right (list_any (same_unit (whole_table m.table)) (units_of_marks struck))
    (share_unit (units_of_marks ms) (units_of_marks struck)) (shared table ms struck rest f))
    (or_either (same_text table m.table) (names table ms) e)

-- a row writes one of the marks where it has a mark and they name its table
abbrev some_marks : List Mark → Bool
some_marks [] = false
some_marks (m ∷ ms) = true

row_writes : (marks : List Mark) (r : CatRow) (ms : List Mark) → some_marks ms ≡ true → names
    r.table
    marks ≡ true → share_unit (map (λ m. whole_table r.table) ms) (units_of_marks marks) ≡ true
row_writes marks r [] some e = absurd cc
row_writes marks r (m ∷ ms) some e =
    or_left (list_any (same_unit (whole_table r.table)) (units_of_marks marks))
    (share_unit (map (λ m. whole_table r.table) ms) (units_of_marks marks))
    (units_named r.table marks ∙ e)

row_wrote : (marks : List Mark) (r : CatRow) (ms : List Mark) → share_unit
    (map (λ m. whole_table r.table) ms) (units_of_marks marks) ≡ true → (some_marks ms ≡ true) ×
    (names r.table marks ≡ true)
row_wrote marks r [] e = absurd cc
row_wrote marks r (m ∷ ms) e = (refl, sym (units_named r.table marks) ∙ each (m ∷ ms) e)
  where
    each : (ns : List Mark) → share_unit (map (λ m. whole_table r.table) ns) (units_of_marks marks)
        ≡
        true → list_any (same_unit (whole_table r.table)) (units_of_marks marks) ≡ true
    each [] e = absurd cc
    each (n ∷ ns) e = ⊎_elim (λ here. here) (λ rest. each ns rest)
        (or_either (list_any (same_unit (whole_table r.table)) (units_of_marks marks))
        (share_unit (map (λ m. whole_table r.table) ns) (units_of_marks marks)) e)

-- the marks of a table are some where they name it
of_table : (table : List ℕ) (struck : List Mark) → names table struck ≡ true → some_marks
    (marks_of_table table struck) ≡ true
of_table table [] e = absurd cc
of_table table (m ∷ ms) e =
    elim (same_text m.table table) as (λ b. same_text m.table table ≡ b → some_marks
    (cond b (m ∷ marks_of_table table ms) (marks_of_table table ms)) ≡ true) [
      | true ↦ λ is. refl
      | false ↦ λ off. ⊎_elim
          (λ here. absurd (let no : false ≡ true = sym off ∙ ap (same_text m.table)
          (same_text_is table m.table here) ∙ same_text_self m.table in cc))
          (λ rest. of_table table ms rest) (or_either (same_text table m.table) (names table ms) e)
    ] refl

named_of_table : (table : List ℕ) (struck : List Mark) → some_marks (marks_of_table table struck) ≡
    true → names table struck ≡ true
named_of_table table [] e = absurd cc
named_of_table table (m ∷ ms) e =
    elim (same_text m.table table) as (λ b. same_text m.table table ≡ b → some_marks
    (cond b (m ∷ marks_of_table table ms) (marks_of_table table ms)) ≡ true → names table (m ∷ ms) ≡
    true) [
      | true ↦ λ is e. or_left (same_text table m.table) (names table ms)
          (ap (λ (t : List ℕ). same_text t m.table) (sym (same_text_is m.table table is)) ∙
          same_text_self m.table)
      | false ↦ λ off e. or_right (same_text table m.table) (names table ms)
          (named_of_table table ms e)
    ] refl e

-- the first number that passes
first_found : (p : ℕ → Bool) (from count seq : ℕ) → from ≤ seq → seq < from + count → p seq ≡ true →
    ((n : ℕ) → from ≤ n → n < seq → p n ≡ false) → find p (numbers from count) ≡ Some seq
first_found p from zero seq low high is before = absurd (omega (arith, low, high))
first_found p from (suc count) seq low high is before =
    elim (nat_eq from seq) as (λ b. nat_eq from seq ≡ b → cond (p from) (Some from)
    (find p (numbers (from + 1) count)) ≡ Some seq) [
      | true ↦ λ e. let same = eqb-true from seq e in ap (λ (b : Bool). cond b (Some from)
          (find p (numbers (from + 1) count))) (ap p same ∙ is) ∙ ap (λ (n : ℕ). Some n) same
      | false ↦ λ e. ap (λ (b : Bool). cond b (Some from) (find p (numbers (from + 1) count)))
          (before from (omega arith) (below from seq low e)) ∙ first_found p (from + 1) count seq
          (above from seq low e) (omega (arith, high)) is
          (λ n le less. before n (omega (arith, le)) less)
    ] refl
  where
    below : (a b : ℕ) → a ≤ b → nat_eq a b ≡ false → a < b
    below a b le off = grind arith

    above : (a b : ℕ) → a ≤ b → nat_eq a b ≡ false → a + 1 ≤ b
    above a b le off = grind arith

none_passes : (p : ℕ → Bool) (from count : ℕ) → ((n : ℕ) → from ≤ n → n < from + count → p n ≡
    false) → find p (numbers from count) ≡ None
none_passes p from zero all = refl
none_passes p from (suc count) all =
    ap (λ (b : Bool). cond b (Some from) (find p (numbers (from + 1) count)))
    (all from (omega arith) (omega arith))
    ∙ none_passes p (from + 1) count
    (λ n low high. all n (omega (arith, low)) (omega (arith, high)))

module _ (st : State) (marks : List Mark) where
  abbrev struck_at : ℕ → List Mark
  struck_at n = (version_at st n).struck

  -- what a commit's rows say
  abbrev Tells : Row → Type 0
  Tells r = TellsMarks st r

  -- a commit that wrote one of the marks struck such a mark
  commit_struck : (c : ToldCommit) (rs : List CatRow) → AllByRecursion Tells (map (row_of c) rs) →
      list_any (row_writes_one marks) rs ≡ true → wrote_one st (units_of_marks marks) c.seq ≡ true
  commit_struck c [] tells e = absurd cc
  commit_struck c (r ∷ rs) tells e =
      ⊎_elim
      (λ here.
      let both = row_wrote marks r r.marks here in
      shared r.table marks (struck_at c.seq) both.1 (named_of_table r.table (struck_at c.seq)
      (ap some_marks (sym tells.0) ∙ both.0)))
      (λ rest. commit_struck c rs tells.1 rest)
      (or_either (row_writes_one marks r) (list_any (row_writes_one marks) rs) e)

  -- where a commit struck a mark of a table that they name, the commit with the row wrote one
  row_told : (table : List ℕ) (n : ℕ) → names table marks ≡ true → names table (struck_at n) ≡ true
      →
      (c : ToldCommit) (rs : List CatRow) → AllByRecursion Tells (map (row_of c) rs) → has_row_at
      (map (row_of c) rs) n table ≡ true → (nat_eq c.seq n ≡ true) ×
      (list_any (row_writes_one marks) rs ≡ true)
  row_told table n named struck c [] tells e = absurd cc
  row_told table n named struck c (r ∷ rs) tells e =
      ⊎_elim
      (λ here.
      let both = and_both (same_text r.table table) (nat_eq c.seq n) here in
      let same = same_text_is r.table table both.0 in
      let some : some_marks r.marks ≡ true = ap some_marks tells.0 ∙ of_table r.table
      (struck_at c.seq) (ap (λ (t : List ℕ). names t (struck_at c.seq)) same ∙ ap
      (λ (k : ℕ). names table (struck_at k)) (eqb-true c.seq n both.1) ∙ struck) in (
        both.1,
        or_left (row_writes_one marks r) (list_any (row_writes_one marks) rs)
            (row_writes marks r r.marks some
            (ap (λ (t : List ℕ). names t marks) same ∙ named)),
      ))
      (λ rest.
      let later = row_told table n named struck c rs tells.1 rest in
      (later.0, or_right (row_writes_one marks r) (list_any (row_writes_one marks) rs) later.1))
      (or_either (same_text r.table table && nat_eq c.seq n)
      (has_row_at (map (row_of c) rs) n table) e)

  -- a commit of this number that wrote one of the marks
  abbrev writes_at : ℕ → ToldCommit → Bool
  writes_at n c = nat_eq c.seq n && writes_one marks c

  commit_told : (table : List ℕ) (n : ℕ) → names table marks ≡ true → names table (struck_at n) ≡
      true → (cs : List ToldCommit) → AllByRecursion Tells (flat_map rows_of_commit cs) → has_row_at
      (flat_map rows_of_commit cs) n table ≡ true → list_any (writes_at n) cs ≡ true
  commit_told table n named struck [] tells e = absurd cc
  commit_told table n named struck (c ∷ cs) tells e =
      let both = all_parts Tells (rows_of_commit c) (flat_map rows_of_commit cs) tells in
      ⊎_elim
      (λ here.
      let told = row_told table n named struck c c.rows both.0 here in
      or_left (writes_at n c) (list_any (writes_at n) cs)
      (and_made (nat_eq c.seq n) (writes_one marks c) told.0 told.1))
      (λ rest. or_right (writes_at n c) (list_any (writes_at n) cs)
      (commit_told table n named struck cs both.1 rest))
      (any_parts (λ r. same_text r.table table && nat_eq r.seq n) (rows_of_commit c)
      (flat_map rows_of_commit cs) e)

  -- so a version that wrote one has such a commit
  version_told : (cs : List ToldCommit) (n : ℕ) → AllByRecursion Tells (flat_map rows_of_commit cs)
      →
      ((m : Mark) → is_marked (struck_at n) m ≡ true → has_row_at (flat_map rows_of_commit cs) n
      m.table ≡ true) → wrote_one st (units_of_marks marks) n ≡ true → list_any (writes_at n) cs ≡
      true
  version_told cs n tells rows e =
      any_known (λ m. names m.table marks ≡ true)
      (λ m. list_any (same_unit (whole_table m.table)) (units_of_marks (struck_at n)))
      (list_any (writes_at n) cs ≡ true) marks (named_self marks)
      (λ m named here.
      let struck = sym (units_named m.table (struck_at n)) ∙ here in
      let row : has_row_at (flat_map rows_of_commit cs) n m.table ≡ true = any_known
      (λ x. is_marked (struck_at n) x ≡ true) (λ x. same_text m.table x.table)
      (has_row_at (flat_map rows_of_commit cs) n m.table ≡ true) (struck_at n)
      (marked_self (struck_at n))
      (λ x is same. subst
      (λ (t : List ℕ). has_row_at (flat_map rows_of_commit cs) n t ≡ true)
      (sym (same_text_is m.table x.table same)) (rows x is)) struck in
      commit_told m.table n named struck cs tells row)
      (sym (any_map (λ u. list_any (same_unit u) (units_of_marks (struck_at n)))
      (λ m. whole_table m.table) marks) ∙ e)

commits_up : (last : ℕ) (cs : List ToldCommit) → AllByRecursion (λ (r : Row). r.seq ≤ last)
    (flat_map rows_of_commit cs) → (snapshot seq : ℕ) (marks : List Mark) → list_any
    (λ c. is_conflict snapshot marks c && nat_eq c.seq seq) cs ≡ true → (snapshot < seq) ×
    (seq ≤ last)
commits_up last [] up snapshot seq marks e = absurd cc
commits_up last (c ∷ cs) up snapshot seq marks e =
    let both = all_parts (λ (r : Row). r.seq ≤ last) (rows_of_commit c) (flat_map rows_of_commit cs)
    up in
    ⊎_elim
    (λ here.
    let parts = and_both (is_conflict snapshot marks c) (nat_eq c.seq seq) here in
    let more = and_both (nat_lt snapshot c.seq) (writes_one marks c) parts.0 in
    let same = eqb-true c.seq seq parts.1 in (
      omega (arith, ltb-true snapshot c.seq more.0, same),
      omega
          (arith, one c.rows both.0 more.1, same),
    ))
    (λ rest. commits_up last cs both.1 snapshot seq marks rest)
    (or_either (is_conflict snapshot marks c && nat_eq c.seq seq)
    (list_any (λ c. is_conflict snapshot marks c && nat_eq c.seq seq) cs) e)
  where
    one : (rs : List CatRow) → AllByRecursion (λ (r : Row). r.seq ≤ last) (map (row_of c) rs) →
        list_any (row_writes_one marks) rs ≡ true → c.seq ≤ last
    one [] up e = absurd cc
    one (r ∷ rs) up e = up.0

struck_found : (st : State) (marks : List Mark) (snapshot seq : ℕ) (cs : List ToldCommit) →
    AllByRecursion (TellsMarks st) (flat_map rows_of_commit cs) → list_any
    (λ c. is_conflict snapshot marks c && nat_eq c.seq seq) cs ≡ true → wrote_one st
    (units_of_marks marks) seq ≡ true
struck_found st marks snapshot seq [] tells e = absurd cc
struck_found st marks snapshot seq (c ∷ cs) tells e =
    let both = all_parts (TellsMarks st) (rows_of_commit c) (flat_map rows_of_commit cs) tells in
    ⊎_elim
    (λ here.
    let parts = and_both (is_conflict snapshot marks c) (nat_eq c.seq seq) here in
    let more = and_both (nat_lt snapshot c.seq) (writes_one marks c) parts.0 in
    ap (wrote_one st (units_of_marks marks)) (sym (eqb-true c.seq seq parts.1)) ∙ commit_struck st
    marks c c.rows both.0 more.1)
    (λ rest. struck_found st marks snapshot seq cs both.1 rest)
    (or_either (is_conflict snapshot marks c && nat_eq c.seq seq)
    (list_any (λ c. is_conflict snapshot marks c && nat_eq c.seq seq) cs) e)

pub stands_for_conflicts : StandsForConflicts
stands_for_conflicts told c entries snapshot marks stands = record {
  found = λ seq first.
      let between = commits_up (last st) c.commits notes.within snapshot seq marks first.there in
      first_found wrote_it (snapshot + 1) (last st - snapshot) seq (omega (arith, between.0))
      (omega (arith, between.0, between.1))
      (struck_found st marks snapshot seq c.commits notes.marks first.there)
      (λ n low less. not_true (wrote_it n) (λ is. earlier seq n first.least low less
      (told_by n (omega (arith, less, between.1)) is)));
  none = λ none. none_passes wrote_it (snapshot + 1) (last st - snapshot)
      (λ n low high. not_true (wrote_it n) (λ is. nothing none n low
      (told_by n (omega (arith, low, high)) is)));
}
  where
    st : State
    st = state_of entries

    notes : NotesAgree (book c entries) (state_of entries)
    notes = stands.noted.agrees

    wrote_it : ℕ → Bool
    wrote_it n = wrote_one (state_of entries) (units_of_marks marks) n

    told_by : (n : ℕ) → n ≤ last (state_of entries) → wrote_one (state_of entries)
        (units_of_marks marks) n ≡ true → list_any (writes_at (state_of entries) marks n) c.commits
        ≡
        true
    told_by n le is = version_told (state_of entries) marks c.commits n
        stands.noted.agrees.marks (λ m marked. stands.noted.agrees.struck n m le marked) is

    above : (s a n : ℕ) → a ≡ n → s + 1 ≤ n → nat_lt s a ≡ true
    above s a n e le = grind arith

    earlier : (seq n : ℕ) → AllByRecursion (λ d. is_conflict snapshot marks d ≡ true → seq ≤ d.seq)
        c.commits → snapshot + 1 ≤ n → n < seq → list_any (writes_at (state_of entries) marks n)
        c.commits ≡ true → ⊥
    earlier seq n least low less is = any_known
        (λ d. is_conflict snapshot marks d ≡ true → seq ≤ d.seq)
        (writes_at (state_of entries) marks n) ⊥ c.commits least
        (λ d at here.
        let both = and_both (nat_eq d.seq n) (writes_one marks d) here in
        let same = eqb-true d.seq n both.0 in
        absurd (omega (
          arith,
          at (and_made (nat_lt snapshot d.seq) (writes_one marks d)
              (above snapshot d.seq n same low) both.1),
          same,
          less,
        ))) is

    nothing : HasNoConflict snapshot marks c.commits → (n : ℕ) → snapshot + 1 ≤ n → list_any
        (writes_at (state_of entries) marks n) c.commits ≡ true → ⊥
    nothing none n low is =
        let some : list_any (is_conflict snapshot marks) c.commits ≡ true = any_weaker
        (writes_at (state_of entries) marks n) (is_conflict snapshot marks) c.commits
        (λ d here.
        let both = and_both (nat_eq d.seq n) (writes_one marks d) here in
        and_made (nat_lt snapshot d.seq) (writes_one marks d)
        (above snapshot d.seq n (eqb-true d.seq n both.0) low) both.1) is in
        let no : true ≡ false = sym some ∙ none in
        absurd cc
