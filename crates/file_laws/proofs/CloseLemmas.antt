-- What stays with later commits.
use Rattle.std.proofs.Common.{◌≡◌, ℕ, ◌+◌, ◌≤◌, true, false, not, nat_eq, List, [], ◌++◌, None}
use Rattle.std.proofs.Common.{Some, filter, refl, sym, ap, ◌∙◌, arith, subst}
use Rattle.std.proofs.lemmas.List.{append-nil}
use Rattle.std.proofs.lemmas.List.Elements.{filter-append}
use Rattle.std.specs.Prelude.{nat_le}
use Rattle.std.specs.List.{AllByRecursion}
use Rattle.lake_model.specs.State.{State, Transaction, ended, last, opened_by, transaction}
use Rattle.lake_values.specs.Texts.{same_text}
use Rattle.sql_model.proofs.Lists.{all_append, all_both, all_filter, all_weaker}
use Rattle.sql_model.proofs.Removal.{filter_none}
use Rattle.manifest_block.specs.declared.items.Item.{Item}
use Rattle.file_laws.specs.Stands.{files_at, rows_of, rows_to}
use Rattle.file_laws.specs.StandsLaws.{ChecksStay, NumbersCommitted}
use Rattle.file_laws.specs.Touching.{AddsOwn, Row, replay_rows}
use Rattle.file_laws.proofs.ChangeLemmas.{none_left, still_open}

pub files_before : (rows more : List Row) (n last : ℕ) (table : List ℕ) → n ≤ last → AllByRecursion
    (λ r. r.seq ≡ last + 1) more → files_at (rows ++ more) n table ≡ files_at rows n table
files_before rows more n last table le new =
    let none : rows_to n (rows_of table more) ≡ [] = filter_none (λ r. nat_le r.seq n)
    (rows_of table more) (all_filter (λ r. nat_le r.seq n ≡ false)
    (λ r. same_text r.table table) more
    (all_weaker more (λ r e. above r.seq last n e le) new)) in
    ap (λ (rs : List Row). replay_rows rs [])
    (ap (rows_to n) (filter-append (λ r. same_text r.table table) rows more) ∙ filter-append
    (λ r. nat_le r.seq n) (rows_of table rows) (rows_of table more)
    ∙ (λ i. rows_to n (rows_of table rows) ++ none i) ∙ append-nil (rows_to n (rows_of table rows)))
  where
    above : (m l n : ℕ) → m ≡ l + 1 → n ≤ l → nat_le m n ≡ false
    above m l n e le = grind arith

pub checks_stay : ChecksStay
checks_stay rows more checks last at new stands =
    all_both checks
    (λ k le is. is ∙ sym (files_before rows more k.check.at last k.check.table le new)) at
    stands

number_sym : (m n : ℕ) → nat_eq m n ≡ true → nat_eq n m ≡ true
number_sym m n e = grind arith

-- a session that ended has no transaction
pub not_ended : (session other : ℕ) (st : State) (u : Transaction) → transaction (ended session st)
    other ≡ Some u → session ≡ other → ⊥
not_ended session other st u is same =
    let none : transaction (ended session st) other ≡ None = ap (opened_by other)
    (ap (λ (n : ℕ). filter (λ o. not (nat_eq o.0 n)) st.running) same) ∙ none_left other st.running
    in
    absurd cc

pub numbers_committed : NumbersCommitted
numbers_committed rows more items st session t numbers opened own adds new = record {
  apart = all_append
      (λ r. AllByRecursion (λ s. nat_eq r.txn s.txn ≡ true → r.seq ≡ s.seq) (rows ++ more)) rows
      more
      (all_both rows (λ r apart mine. all_append (λ s. nat_eq r.txn s.txn ≡ true → r.seq ≡ s.seq)
      rows more apart
      (all_weaker more (λ s is e. absurd (clash r.txn s.txn t.number e is.1 mine)) new))
      numbers.apart (numbers.open_ones session t opened))
      (all_weaker more (λ r is. all_append (λ s. nat_eq r.txn s.txn ≡ true → r.seq ≡ s.seq) rows
      more
      (all_weaker rows
      (λ s mine e. absurd (clash s.txn r.txn t.number (number_sym r.txn s.txn e) is.1 mine))
      (numbers.open_ones session t opened))
      (all_weaker more (λ s same e. is.0 ∙ sym same.0) new)) new);
  open_ones = λ other u is.
      let was = still_open session other st.running u is in
      all_append (λ r. nat_eq r.txn u.number ≡ false) rows more (numbers.open_ones other u was)
      (all_weaker more (λ r mine. differ r.txn t.number u.number mine.1
      (λ same. not_ended session other st u is (own session other t u opened was same))) new);
  own_adds = all_append (λ r. AddsOwn r.txn r.items) rows more numbers.own_adds (all_weaker more (λ
      r mine. subst (λ (n : ℕ). AddsOwn n r.items) (sym mine.1)
      (subst (λ (is : List Item). AddsOwn t.number is) (sym mine.2) adds)) new);
}
  where
    clash : (a b n : ℕ) → nat_eq a b ≡ true → b ≡ n → nat_eq a n ≡ false → ⊥
    clash a b n e is off = let no : true ≡ false = sym e ∙ ap (nat_eq a) is ∙ off in absurd cc

    differ : (a n m : ℕ) → a ≡ n → (nat_eq n m ≡ true → ⊥) → nat_eq a m ≡ false
    differ a n m is off = ap (λ (k : ℕ). nat_eq k m) is ∙ elim (nat_eq n m) as
        (λ b. nat_eq n m ≡ b → b ≡ false) [ true ↦ λ e. absurd (off e) | false ↦ λ e. refl ] refl
