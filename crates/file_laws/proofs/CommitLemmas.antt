-- What the versions have by a catalogue after a commit.
use Rattle.std.proofs.Common.{◌≡◌, ℕ, zero, suc, ◌+◌, ◌<◌, ◌≤◌, Bool, true, false, cond, not, ◌&&◌}
use Rattle.std.proofs.Common.{◌||◌, nat_le, nat_lt, List, [], ◌∷◌, ◌++◌, filter, length, refl, sym}
use Rattle.std.proofs.Common.{ap, ◌∙◌, subst, ◌⊎◌, ⊎_elim, arith, unwrap_or}
use Rattle.std.proofs.lemmas.List.Folds.{list_any-append}
use Rattle.std.specs.Prelude.{slice_get}
use Rattle.std.specs.Cmp.Lexicographic.{nat_list_eq_equiv}
use Rattle.std.specs.List.{AllByRecursion, list_any}
use Rattle.lake_values.specs.declared.names.Name.{Name}
use Rattle.lake_values.specs.Names.{same_name, is_among}
use Rattle.lake_model.specs.Names.{names_after}
use Rattle.sql_model.specs.Versions.{Version}
use Rattle.lake_values.specs.Texts.{same_text}
use Rattle.lake_model.specs.State.{State, with_version, last, last_names}
use Rattle.file_laws.specs.Catalogues.{Catalogue, gives, has_name}
use Rattle.write_set_catalog.specs.Names.{NamesRow, drops}
use Rattle.file_laws.specs.Commits.{is_dropped, is_left, IsCommit, IsOwnedCommit, with_commit}
use Rattle.file_laws.specs.Commits.{HaveNames, CommitsStand, OwnedCommits}
use Rattle.file_laws.specs.Collector.{names_at}
use Rattle.file_laws.proofs.ReplayLemmas.{name_tells as equal_names}

-- members of which something is known pass alike
any_alike : {X : Type 0} (P : X → Type 0) (p q : X → Bool) (xs : List X) → AllByRecursion P xs →
    ((x : X) → P x → p x ≡ q x) → list_any p xs ≡ list_any q xs
any_alike P p q [] all f = refl
any_alike P p q (x ∷ xs) all f =
    ap (λ (b : Bool). b || list_any p xs) (f x all.0) ∙ ap (λ (b : Bool). q x || b)
    (any_alike P p q xs all.1 f)

any_false : {X : Type 0} (xs : List X) → list_any (λ x. false) xs ≡ false
any_false [] = refl
any_false (x ∷ xs) = any_false xs

or_false : (b : Bool) → (b || false) ≡ b
or_false true = refl
or_false false = refl

and_false : (b c : Bool) → (b && false && c) ≡ false
and_false true c = refl
and_false false c = refl

later_not : (m n : ℕ) → n < m → nat_le m n ≡ false
later_not m n less = grind arith

later_is : (m n : ℕ) → m ≤ n → nat_le m n ≡ true
later_is m n le = grind arith

less_is : (m n : ℕ) → m < n → nat_lt m n ≡ true
less_is m n less = grind arith

less_not : (m n : ℕ) → n ≤ m → nat_lt m n ≡ false
less_not m n le = grind arith

module _ (k : Catalogue) (more : List NamesRow) (added dropped : List Name)
    (commit : IsCommit k more added dropped) (name : Name) where
  -- no row of the commit drops a name from a version before it
  before_drops : (version : ℕ) (r : NamesRow) → version ≤ k.last → list_any (drops version r name)
      more ≡ false
  before_drops version r old =
      any_alike (λ s. s.seq ≡ k.last + 1) (drops version r name) (λ s. false) more commit.next
      (λ s next. ap (λ (b : Bool). same_text s.table r.table && nat_lt r.seq s.seq && b && is_among
      name s.dropped) (later_not s.seq version (omega (arith, next, old)))
      ∙ and_false (same_text s.table r.table && nat_lt r.seq s.seq) (is_among name s.dropped))
      ∙ any_false more

  before_gives : (version : ℕ) (r : NamesRow) → version ≤ k.last → gives (with_commit k more)
      version name r ≡ gives k version name r
  before_gives version r old =
      ap (λ (b : Bool). nat_le r.seq version && is_among name r.added && not b)
      (list_any-append (drops version r name) k.rows more ∙ ap
      (λ (b : Bool). list_any (drops version r name) k.rows || b)
      (before_drops version r old) ∙ or_false (list_any (drops version r name) k.rows))

  -- what a version before the commit has is as it was
  pub before_same : (version : ℕ) → version ≤ k.last → has_name (with_commit k more) version name ≡
      has_name k version name
  before_same version old =
      list_any-append (gives (with_commit k more) version name) k.rows more
      ∙ ap (λ (b : Bool). list_any (gives (with_commit k more) version name) k.rows || b)
      (any_alike (λ r. r.seq ≡ k.last + 1) (gives (with_commit k more) version name) (λ r. false)
      more commit.next
      (λ r next. ap (λ (b : Bool). b && is_among name r.added && not
      (list_any (drops version r name) (k.rows ++ more)))
      (later_not r.seq version (omega (arith, next, old))))
      ∙ any_false more)
      ∙ or_false (list_any (gives (with_commit k more) version name) k.rows)
      ∙ any_alike (λ r. r.seq ≤ k.last) (gives (with_commit k more) version name)
      (gives k version name) k.rows commit.behind (λ r _. before_gives version r old)

  -- the rows of earlier commits drop from the new version what they drop from the last one
  old_drops : (r : NamesRow) → list_any (drops (k.last + 1) r name) k.rows ≡ list_any
      (drops k.last r name) k.rows
  old_drops r =
      any_alike (λ s. s.seq ≤ k.last) (drops (k.last + 1) r name) (drops k.last r name) k.rows
      commit.behind
      (λ s old. ap (λ (b : Bool). same_text s.table r.table && nat_lt r.seq s.seq && b && is_among
      name s.dropped)
      (later_is s.seq (k.last + 1) (omega (arith, old)) ∙ sym (later_is s.seq k.last old)))

  new_drops : (r : NamesRow) → r.seq ≤ k.last → list_any (drops (k.last + 1) r name) more ≡
      is_dropped more r.table name
  new_drops r old =
      any_alike (λ s. s.seq ≡ k.last + 1) (drops (k.last + 1) r name)
      (λ s. same_text s.table r.table && is_among name s.dropped) more commit.next
      (λ s next.
      ap (λ (b : Bool). same_text s.table r.table && b && nat_le s.seq (k.last + 1) && is_among
      name s.dropped) (less_is r.seq s.seq (omega (arith, next, old)))
      ∙ ap (λ (b : Bool). same_text s.table r.table && true && b && is_among name s.dropped)
      (later_is s.seq (k.last + 1) (omega (arith, next)))
      ∙ and_true (same_text s.table r.table) (is_among name s.dropped))
    where
      and_true : (b c : Bool) → (b && true && true && c) ≡ (b && c)
      and_true true c = refl
      and_true false c = refl

  old_gives : (r : NamesRow) → r.seq ≤ k.last → gives (with_commit k more) (k.last + 1) name r ≡
      (gives k k.last name r && not (is_dropped more r.table name))
  old_gives r old =
      ap (λ (b : Bool). b && is_among name r.added && not
      (list_any (drops (k.last + 1) r name) (k.rows ++ more)))
      (later_is r.seq (k.last + 1) (omega (arith, old)) ∙ sym (later_is r.seq k.last old))
      ∙ ap (λ (b : Bool). nat_le r.seq k.last && is_among name r.added && not b)
      (list_any-append (drops (k.last + 1) r name) k.rows more ∙ ap
      (λ (b : Bool). b || list_any (drops (k.last + 1) r name) more) (old_drops r)
      ∙ ap (λ (b : Bool). list_any (drops k.last r name) k.rows || b) (new_drops r old))
      ∙ parted (nat_le r.seq k.last && is_among name r.added)
      (list_any (drops k.last r name) k.rows) (is_dropped more r.table name)
    where
      parted : (a b c : Bool) → (a && not (b || c)) ≡ (a && not b && not c)
      parted true true c = refl
      parted true false c = refl
      parted false b c = refl

  new_gives : (r : NamesRow) → r.seq ≡ k.last + 1 → gives (with_commit k more) (k.last + 1) name r ≡
      is_among name r.added
  new_gives r next =
      ap (λ (b : Bool). b && is_among name r.added && not
      (list_any (drops (k.last + 1) r name) (k.rows ++ more)))
      (later_is r.seq (k.last + 1) (omega (arith, next)))
      ∙ ap (λ (b : Bool). is_among name r.added && not b)
      (none (k.rows ++ more) (all_within k.rows commit.behind))
      ∙ and_last (is_among name r.added)
    where
      and_last : (b : Bool) → (b && true) ≡ b
      and_last true = refl
      and_last false = refl

      next_within : (ss : List NamesRow) → AllByRecursion (λ s. s.seq ≡ k.last + 1) ss →
          AllByRecursion (λ s. s.seq ≤ r.seq) ss
      next_within [] all = tt
      next_within (s ∷ ss) all = (omega (arith, all.0, next), next_within ss all.1)

      all_within : (ss : List NamesRow) → AllByRecursion (λ s. s.seq ≤ k.last) ss → AllByRecursion
          (λ s. s.seq ≤ r.seq) (ss ++ more)
      all_within [] all = next_within more commit.next
      all_within (s ∷ ss) all = (omega (arith, all.0, next), all_within ss all.1)

      none : (ss : List NamesRow) → AllByRecursion (λ s. s.seq ≤ r.seq) ss → list_any
          (drops (k.last + 1) r name) ss ≡ false
      none ss all =
          any_alike (λ s. s.seq ≤ r.seq) (drops (k.last + 1) r name) (λ s. false) ss all
          (λ s within. ap (λ (b : Bool). same_text s.table r.table && b && nat_le s.seq
          (k.last + 1) && is_among name s.dropped) (less_not r.seq s.seq within)
          ∙ never (same_text s.table r.table) (nat_le s.seq (k.last + 1)) (is_among name s.dropped))
          ∙ any_false ss
        where
          never : (a b c : Bool) → (a && false && b && c) ≡ false
          never true b c = refl
          never false b c = refl

  -- what the new version has: what is left, and what is added
  pub new_same : has_name (with_commit k more) (k.last + 1) name ≡
      ((has_name k k.last name && not (is_among name dropped)) || is_among name added)
  new_same =
      list_any-append (gives (with_commit k more) (k.last + 1) name) k.rows more
      ∙ ap (λ (b : Bool). b || list_any (gives (with_commit k more) (k.last + 1) name) more)
      (any_alike (λ r. r.seq ≤ k.last) (gives (with_commit k more) (k.last + 1) name)
      (λ r. gives k k.last name r && not (is_dropped more r.table name)) k.rows commit.behind
      old_gives)
      ∙ ap (λ (b : Bool). is_left k more name || b)
      (any_alike (λ r. r.seq ≡ k.last + 1) (gives (with_commit k more) (k.last + 1) name)
      (λ r. is_among name r.added) more commit.next new_gives)
      ∙ commit.names name

-- the names of the new version

and_nothing : (b : Bool) → (b && false) ≡ false
and_nothing true = refl
and_nothing false = refl

left_names : (name : Name) (dropped names : List Name) → is_among name
    (filter (λ n. not (is_among n dropped)) names) ≡
    (is_among name names && not (is_among name dropped))
left_names name dropped [] = refl
left_names name dropped (n ∷ ns) =
    elim (same_name name n) as (λ b. same_name name n ≡ b → is_among name
    (filter (λ n. not (is_among n dropped)) (n ∷ ns)) ≡
    ((b || is_among name ns) && not (is_among name dropped))) [
      | true ↦ λ same. let is : name ≡ n = equal_names name n same in
          subst (λ (m : Name). is_among name (filter (λ n. not (is_among n dropped)) (m ∷ ns)) ≡
          not (is_among name dropped)) is (own is same (left_names name dropped ns))
      | false ↦ λ other. elim (not (is_among n dropped)) as (λ b. is_among name (cond b
          (n ∷ filter (λ n. not (is_among n dropped)) ns)
          (filter (λ n. not (is_among n dropped)) ns)) ≡
          (is_among name ns && not (is_among name dropped))) [
            | true ↦ ap
                (λ (b : Bool). b || is_among name (filter (λ n. not (is_among n dropped)) ns))
                other ∙ left_names name dropped ns
            | false ↦ left_names name dropped ns
          ]
    ] refl
  where
    own : name ≡ n → same_name name n ≡ true → is_among name
        (filter (λ n. not (is_among n dropped)) ns) ≡
        (is_among name ns && not (is_among name dropped)) → is_among name
        (filter (λ n. not (is_among n dropped)) (name ∷ ns)) ≡ not (is_among name dropped)
    own is same rest =
        let itself : same_name name name ≡ true = subst (λ (m : Name). same_name name m ≡ true)
        (sym is) same in
        elim (is_among name dropped) as (λ b. is_among name dropped ≡ b → is_among name (cond
        (not b) (name ∷ filter (λ n. not (is_among n dropped)) ns)
        (filter (λ n. not (is_among n dropped)) ns)) ≡ not b) [
          | true ↦ λ lost. rest ∙ ap (λ (b : Bool). is_among name ns && not b) lost ∙ and_nothing
              (is_among name ns)
          | false ↦ λ kept. ap
              (λ (b : Bool). b || is_among name (filter (λ n. not (is_among n dropped)) ns)) itself
        ] refl

module _ (st : State) (k : Catalogue) (more : List NamesRow) (version : Version)
    (added dropped : List Name) (as_many : length st.names ≡ length st.versions)
    (some : 0 < length st.versions)
    (last_is : k.last ≡ last st) (low : k.floor ≤ k.last) (commit : IsCommit k more added dropped)
    (have : HaveNames st k) where
  lookup_old : {X : Type 0} (xs : List X) (x d : X) (n : ℕ) → n < length xs → unwrap_or
      (slice_get (xs ++ x ∷ []) n) d ≡ unwrap_or (slice_get xs n) d
  lookup_old [] x d n less = absurd (omega arith)
  lookup_old (y ∷ ys) x d zero less = refl
  lookup_old (y ∷ ys) x d (suc n) less = lookup_old ys x d n (omega arith)

  lookup_new : {X : Type 0} (xs : List X) (x d : X) → unwrap_or
      (slice_get (xs ++ x ∷ []) (length xs)) d ≡ x
  lookup_new [] x d = refl
  lookup_new (y ∷ ys) x d = lookup_new ys x d

  next_is : k.last + 1 ≡ length st.names
  next_is = omega arith

  pub commit_have : HaveNames (with_version version dropped added st) (with_commit k more)
  commit_have v name from to =
      ⊎_elim (λ (old : v ≤ k.last).
      before_same k more added dropped commit name v old ∙ have v name from old
      ∙ ap (λ (ns : List Name). is_among name ns) (sym (lookup_old st.names
      (names_after dropped added (last_names st)) [] v (omega (arith, next_is, old)))))
      (λ (new : v ≡ k.last + 1).
      ap (λ (n : ℕ). has_name (with_commit k more) n name) new
      ∙ new_same k more added dropped commit name
      ∙ ap (λ (b : Bool). (b && not (is_among name dropped)) || is_among name added) (have k.last
      name low (omega arith) ∙ ap (λ (n : ℕ). is_among name (names_at st n)) last_is)
      ∙ ap (λ (b : Bool). b || is_among name added) (sym (left_names name dropped (last_names st)))
      ∙ sym (list_any-append (same_name name)
      (filter (λ n. not (is_among n dropped)) (last_names st)) added)
      ∙ ap (λ (ns : List Name). is_among name ns)
      (sym (lookup_new st.names (names_after dropped added (last_names st)) []))
      ∙ ap (λ (n : ℕ). is_among name (names_at (with_version version dropped added st) n))
      (sym (new ∙ next_is)))
      (old_or_new v k.last to)
    where
      old_or_new : (v n : ℕ) → v ≤ n + 1 → (v ≤ n) ⊎ (v ≡ n + 1)
      old_or_new v n le = grind arith

pub commits_stand : CommitsStand
commits_stand st k more version added dropped as_many some last_is low commit have =
    commit_have st k more version added dropped as_many some last_is low commit have

-- names of one table each

any_and : {X : Type 0} (p : X → Bool) (b : Bool) (xs : List X) → list_any (λ x. p x && b) xs ≡
    (list_any p xs && b)
any_and p b [] = refl
any_and p b (x ∷ xs) =
    ap (λ (c : Bool). (p x && b) || c) (any_and p b xs) ∙ joined (p x) (list_any p xs) b
  where
    joined : (a c b : Bool) → ((a && b) || (c && b)) ≡ ((a || c) && b)
    joined true true true = refl
    joined true false true = refl
    joined true true false = refl
    joined true false false = refl
    joined false c b = refl

module _ (k : Catalogue) (more : List NamesRow) (gained lost : List Name) (owner : Name → List ℕ)
    (commit : IsOwnedCommit k more gained lost owner) (name : Name) where
  drops_alike : (table : List ℕ) → table ≡ owner name → is_dropped more table name ≡ list_any
      (λ s. is_among name s.dropped) more
  drops_alike table own =
      any_alike (λ s. (n : Name) → is_among n s.dropped ≡ true → s.table ≡ owner n)
      (λ s. same_text s.table table && is_among name s.dropped) (λ s. is_among name s.dropped)
      more commit.drops_own
      (λ s owns. elim (is_among name s.dropped) as
      (λ b. is_among name s.dropped ≡ b → (same_text s.table table && b) ≡ b) [
        | true ↦ λ among. let same : s.table ≡ table = owns name among ∙ sym own in ap
            (λ (b : Bool). b && true) (ap (λ (text : List ℕ). same_text s.table text) (sym same) ∙
            nat_list_eq_equiv.refl s.table)
        | false ↦ λ _. and_nothing (same_text s.table table)
      ] refl)

  left_alike : (r : NamesRow) → ((n : Name) → is_among n r.added ≡ true → r.table ≡ owner n) →
      (gives k k.last name r && not (is_dropped more r.table name)) ≡
      (gives k k.last name r && not (is_among name lost))
  left_alike r owns =
      elim (is_among name r.added) as (λ b. is_among name r.added ≡ b → (
      (nat_le r.seq k.last && b && not (list_any (drops k.last r name) k.rows)) && not
      (is_dropped more r.table name)) ≡ (
      (nat_le r.seq k.last && b && not (list_any (drops k.last r name) k.rows)) && not
      (is_among name lost))) [
        | true ↦ λ among. ap (λ (b : Bool).
            (nat_le r.seq k.last && true && not (list_any (drops k.last r name) k.rows)) && not b)
            (drops_alike r.table (owns name among) ∙ commit.dropped name)
        | false ↦ λ _. none (nat_le r.seq k.last) (not (list_any (drops k.last r name) k.rows))
            (not (is_dropped more r.table name)) (not (is_among name lost))
      ] refl
    where
      none : (a b c d : Bool) → ((a && false && b) && c) ≡ ((a && false && b) && d)
      none true b c d = refl
      none false b c d = refl

  pub left_owned : is_left k more name ≡ (has_name k k.last name && not (is_among name lost))
  left_owned =
      any_alike (λ r. (n : Name) → is_among n r.added ≡ true → r.table ≡ owner n)
      (λ r. gives k k.last name r && not (is_dropped more r.table name))
      (λ r. gives k k.last name r && not (is_among name lost)) k.rows commit.adds_own left_alike
      ∙ any_and (gives k k.last name) (not (is_among name lost)) k.rows

pub owned_commits : OwnedCommits
owned_commits k more gained lost owner commit = record {
  behind = commit.behind;
  next = commit.next;
  names = λ name.
      ap (λ (b : Bool). b || list_any (λ r. is_among name r.added) more)
      (left_owned k more gained lost owner commit name)
      ∙ ap (λ (b : Bool). (has_name k k.last name && not (is_among name lost)) || b)
      (commit.added name);
}
