-- What legality alone says of a state.
use Rattle.std.proofs.Common.{◌≡◌, ◌≢◌, ℕ, ◌+◌, ◌<◌, ◌≤◌, ◌⊎◌, Bool, true, false, not, ◌&&◌, nat_eq, eq-eqb, cond, List, [], ◌∷◌, ◌++◌, None, Some, Option, filter, length, map, refl, sym, ap, ◌∙◌, subst, inl, inr, arith, length-append, if◌then◌else◌}
use Rattle.std.proofs.lemmas.Bool.{cases_lt}
use Rattle.std.proofs.lemmas.List.{append-nil}
use Rattle.std.proofs.lemmas.List.Elements.{All-from_recursion, recursion_from_All}
use Rattle.std.specs.Prelude.{find}
use Rattle.std.specs.List.{AllByRecursion}
use Rattle.std.specs.Option.{option_map, option_map_or}
use Rattle.lake_values.specs.declared.names.Name.{Name}
use Rattle.lake_values.specs.Schemas.{AllDistinct, TableColumns}
use Rattle.lake_values.specs.Texts.{same_text}
use Rattle.sql_model.specs.declared.changes.Change.{Change}
use Rattle.sql_model.specs.declared.changes.Mark.{Mark}
use Rattle.sql_model.specs.declared.replies.Reply.{Reply}
use Rattle.sql_model.specs.Changes.{applied, changed_table, version_after}
use Rattle.sql_model.specs.Versions.{Table, Tables, Version}
use Rattle.sql_model.proofs.Lists.{all_filter, all_weaker}
use Rattle.lake_model.specs.declared.entries.Fact.{Fact}
use Rattle.lake_model.specs.declared.entries.Fact.TheVariants.{Created, Began, Ran, Committed, Conflict, Ended, RolledBack, Refused, Failed, Compacted, Checkpointed, Collected}
use Rattle.lake_model.specs.Allowed.{IsAllowed, IsAllowedFact, IsLegalFrom, MayCollect}
use Rattle.lake_model.specs.Compactions.{compacted_table, replaced, version_compacted}
use Rattle.lake_model.specs.Laws.{IsSound, StatesAreSound, TablesStay, schema_in}
use Rattle.lake_model.specs.Names.{names_after}
use Rattle.lake_model.specs.State.{State, Noted, Transaction, opening, last, newest, last_names, with_version, version_at, opened_by, transaction, with_part, turned, ended, with_check, after_began, after_fact, after, state_from}
use Rattle.lake_model.proofs.Growth.{version_kept, version_made}

-- what holds of each open transaction holds of a session's

pub opened_all : (P : Transaction → Type 0) (session : ℕ) (os : List (ℕ × Transaction)) (t : Transaction) → AllByRecursion (λ o. P o.1) os → opened_by session os ≡ Some t → P t
opened_all P session [] t all e = absurd cc
opened_all P session (o ∷ os) t all e =
    elim (nat_eq o.0 session) as (λ b. (if b then Some o.1 else opened_by session os) ≡ Some t → P t) [
      | true ↦ λ same. let first : o.1 ≡ t = cc in subst P first all.0
      | false ↦ λ same. opened_all P session os t all.1 same
    ] e

pub snapshot_below : (st : State) (session : ℕ) (t : Transaction) → IsSound st → transaction st session ≡ Some t → t.snapshot < length st.versions
snapshot_below st session t sound opened =
    omega (arith, opened_all (λ u. u.snapshot ≤ last st) session st.running t sound.made opened, sound.some_version)

-- members that differ in what a function says of them

all_mapped : {X Y : Type 0} (P : Y → Type 0) (f : X → Y) (xs : List X) → AllByRecursion (λ x. P (f x)) xs → AllByRecursion P (map f xs)
all_mapped P f [] all = tt
all_mapped P f (x ∷ xs) all = (all.0, all_mapped P f xs all.1)

all_before : {X Y : Type 0} (P : Y → Type 0) (f : X → Y) (xs : List X) → AllByRecursion P (map f xs) → AllByRecursion (λ x. P (f x)) xs
all_before P f [] all = tt
all_before P f (x ∷ xs) all = (all.0, all_before P f xs all.1)

module _ {X Y : Type 0} (f : X → Y) where
  distinct_more : (x : X) (xs : List X) → AllByRecursion (λ z. f z ≢ f x) xs → AllDistinct (map f xs) → AllDistinct (map f (x ∷ xs))
  distinct_more x xs others all = (All-from_recursion (λ y. y ≢ f x) (map f xs) (all_mapped (λ y. y ≢ f x) f xs others), all)

  distinct_first : (x : X) (xs : List X) → AllDistinct (map f (x ∷ xs)) → AllByRecursion (λ z. f z ≢ f x) xs
  distinct_first x xs all = all_before (λ y. y ≢ f x) f xs (recursion_from_All (λ y. y ≢ f x) (map f xs) all.0)

  distinct_filter : (q : X → Bool) (xs : List X) → AllDistinct (map f xs) → AllDistinct (map f (filter q xs))
  distinct_filter q [] all = tt
  distinct_filter q (x ∷ xs) all =
      elim (q x) as (λ b. AllDistinct (map f (cond b (x ∷ filter q xs) (filter q xs)))) [
        | true ↦ distinct_more x (filter q xs) (all_filter _ q xs (distinct_first x xs all)) (distinct_filter q xs all.1)
        | false ↦ distinct_filter q xs all.1
      ]

-- the transactions of other sessions
abbrev pub others : ℕ → List (ℕ × Transaction) → List (ℕ × Transaction)
others session os = filter (λ o. not (nat_eq o.0 session)) os

other_sessions : (session : ℕ) (os : List (ℕ × Transaction)) → AllByRecursion (λ o. o.0 ≢ session) (others session os)
other_sessions session [] = tt
other_sessions session (o ∷ os) =
    elim (nat_eq o.0 session) as (λ b. nat_eq o.0 session ≡ b → AllByRecursion (λ o. o.0 ≢ session) (cond (not b) (o ∷ others session os) (others session os))) [
      | true ↦ λ is. other_sessions session os
      | false ↦ λ is. ((λ same. let other : true ≡ false = sym (eq-eqb o.0 session same) ∙ is in cc), other_sessions session os)
    ] refl

pub other_numbers : (session : ℕ) (os : List (ℕ × Transaction)) (t : Transaction) → AllDistinct (map (λ o. o.1.number) os) → opened_by session os ≡ Some t → AllByRecursion (λ o. o.1.number ≢ t.number) (others session os)
other_numbers session [] t all opened = absurd cc
other_numbers session (o ∷ os) t all opened =
    elim (nat_eq o.0 session) as (λ b. (if b then Some o.1 else opened_by session os) ≡ Some t → AllByRecursion (λ p. p.1.number ≢ t.number) (cond (not b) (o ∷ others session os) (others session os))) [
      | true ↦ λ is.
          let first : o.1 ≡ t = cc in
          subst (λ (u : Transaction). AllByRecursion (λ p. p.1.number ≢ u.number) (others session os)) first
          (all_filter _ _ os (distinct_first (λ (p : ℕ × Transaction). p.1.number) o os all))
      | false ↦ λ is.
          let differ : t.number ≢ o.1.number = opened_all (λ u. u.number ≢ o.1.number) session os t (distinct_first (λ (p : ℕ × Transaction). p.1.number) o os all) is in
          ((λ same. differ (sym same)), other_numbers session os t all.1 is)
    ] opened

-- a table stays

mapped_schema : (f : Table → Table) → ((t : Table) → (f t).name ≡ t.name) → ((t : Table) → (f t).schema ≡ t.schema) → (name : List ℕ) (ts : Tables) → schema_in name (map f ts) ≡ schema_in name ts
mapped_schema f names schemas name [] = refl
mapped_schema f names schemas name (t ∷ ts) =
    ap (λ (n : List ℕ). option_map (λ u. u.schema) (cond (same_text n name) (Some (f t)) (find (λ u. same_text u.name name) (map f ts)))) (names t)
    ∙ elim (same_text t.name name) as (λ b. option_map (λ u. u.schema) (cond b (Some (f t)) (find (λ u. same_text u.name name) (map f ts))) ≡ option_map (λ u. u.schema) (cond b (Some t) (find (λ u. same_text u.name name) ts))) [
      | true ↦ ap (λ (s : TableColumns). Some s) (schemas t)
      | false ↦ mapped_schema f names schemas name ts
    ]

applied_schema : (seq : ℕ) (change : Change) (name : List ℕ) (ts : Tables) → schema_in name (applied seq change ts) ≡ schema_in name ts
applied_schema seq change name ts = mapped_schema (changed_table seq change) (λ t. refl) (λ t. refl) name ts

compacted_name : (table : List ℕ) (seq : ℕ) (marks : List Mark) (t : Table) → (compacted_table table seq marks t).name ≡ t.name
compacted_name table seq marks t =
    elim (same_text t.name table) as (λ b. (if b then record t { rows = map (replaced seq marks) t.rows } else t).name ≡ t.name) [ true ↦ refl | false ↦ refl ]

compacted_schema : (table : List ℕ) (seq : ℕ) (marks : List Mark) (t : Table) → (compacted_table table seq marks t).schema ≡ t.schema
compacted_schema table seq marks t =
    elim (same_text t.name table) as (λ b. (if b then record t { rows = map (replaced seq marks) t.rows } else t).schema ≡ t.schema) [ true ↦ refl | false ↦ refl ]

behind_schema : (t : Table) (name : List ℕ) (schema : TableColumns) (ts : Tables) → schema_in name ts ≡ Some schema → schema_in name (ts ++ t ∷ []) ≡ Some schema
behind_schema t name schema [] has = absurd cc
behind_schema t name schema (u ∷ us) has =
    elim (same_text u.name name) as (λ b. option_map (λ v. v.schema) (cond b (Some u) (find (λ v. same_text v.name name) us)) ≡ Some schema → option_map (λ v. v.schema) (cond b (Some u) (find (λ v. same_text v.name name) (us ++ t ∷ []))) ≡ Some schema) [
      | true ↦ λ is. is
      | false ↦ λ is. behind_schema t name schema us is
    ] has

-- the tables of one version are there in the other, with their schemas
abbrev KeepsTables : Tables → Tables → Type 0
KeepsTables ts us = (name : List ℕ) (schema : TableColumns) → schema_in name ts ≡ Some schema → schema_in name us ≡ Some schema

module _ (st : State) (v : Version) (dropped added : List Name) (sound : IsSound st) (keeps : KeepsTables (newest st).tables v.tables) where
  more : State
  more = with_version v dropped added st

  longer : length more.versions ≡ length st.versions + 1
  unfolding more
  longer = length-append st.versions (v ∷ [])

  old_kept : (n : ℕ) → n < length st.versions → version_at more n ≡ version_at st n
  unfolding more
  old_kept n less = version_kept st (with_version v dropped added st) (v ∷ [], refl) n less

  new_made : version_at more (length st.versions) ≡ v
  unfolding more
  new_made = version_made st (with_version v dropped added st) v [] (sym (append-nil (st.versions ++ v ∷ [])))

  -- of a table in one of the old versions
  from_old : (m n : ℕ) (name : List ℕ) (schema : TableColumns) → m ≤ n → n ≤ last more → m < length st.versions → schema_in name (version_at st m).tables ≡ Some schema →
      (n < length st.versions) ⊎ (length st.versions ≤ n) → schema_in name (version_at more n).tables ≡ Some schema
  from_old m n name schema up within old has (inl less) =
      ap (λ (w : Version). schema_in name w.tables) (old_kept n less) ∙ sound.tables m n name schema up (omega (arith, less)) has
  from_old m n name schema up within old has (inr above) =
      let is_last : n ≡ length st.versions = omega (arith, above, within, longer) in
      ap (λ (k : ℕ). schema_in name (version_at more k).tables) is_last ∙ ap (λ (w : Version). schema_in name w.tables) new_made
      ∙ keeps name schema (sound.tables m (last st) name schema (omega (arith, old)) (omega arith) has)

  from_any : (m n : ℕ) (name : List ℕ) (schema : TableColumns) → m ≤ n → n ≤ last more → schema_in name (version_at more m).tables ≡ Some schema →
      (m < length st.versions) ⊎ (length st.versions ≤ m) → schema_in name (version_at more n).tables ≡ Some schema
  from_any m n name schema up within has (inl less) =
      from_old m n name schema up within less (sym (ap (λ (w : Version). schema_in name w.tables) (old_kept m less)) ∙ has) (cases_lt n (length st.versions))
  from_any m n name schema up within has (inr above) =
      let same : m ≡ n = omega (arith, above, up, within, longer) in
      subst (λ (k : ℕ). schema_in name (version_at more k).tables ≡ Some schema) same has

  more_stay : TablesStay more
  more_stay m n name schema up within has = from_any m n name schema up within has (cases_lt m (length st.versions))

  -- one version more
  sound_version : IsSound (with_version v dropped added st)
  unfolding more
  sound_version = record {
    some_version = omega (arith, longer);
    counted = omega (arith, longer, length-append st.names (names_after dropped added (last_names st) ∷ []), sound.counted);
    floor = omega (arith, longer, sound.floor);
    sessions = sound.sessions;
    numbers = sound.numbers;
    given = sound.given;
    made = all_weaker st.running (λ o below. omega (arith, longer, below)) sound.made;
    kept = sound.kept;
    tables = more_stay;
  }

-- a transaction ends

sound_ended : (session : ℕ) (st : State) → IsSound st → IsSound (ended session st)
sound_ended session st sound = record {
  some_version = sound.some_version;
  counted = sound.counted;
  floor = sound.floor;
  sessions = distinct_filter (λ o. o.0) _ st.running sound.sessions;
  numbers = distinct_filter (λ o. o.1.number) _ st.running sound.numbers;
  given = all_filter _ _ st.running sound.given;
  made = all_filter _ _ st.running sound.made;
  kept = all_filter _ _ st.running sound.kept;
  tables = sound.tables;
}

-- a session has this transaction
sound_with : (session : ℕ) (t : Transaction) (st : State) → IsSound st → AllByRecursion (λ o. o.1.number ≢ t.number) (others session st.running) → t.number ≤ st.last_number →
    t.snapshot ≤ last st → st.floor ≤ t.snapshot → IsSound (turned session t st)
sound_with session t st sound differ given made kept =
    let rest = sound_ended session st sound in
    record {
      some_version = sound.some_version;
      counted = sound.counted;
      floor = sound.floor;
      sessions = distinct_more (λ o. o.0) (session, t) (others session st.running) (other_sessions session st.running) rest.sessions;
      numbers = distinct_more (λ o. o.1.number) (session, t) (others session st.running) differ rest.numbers;
      given = (given, rest.given);
      made = (made, rest.made);
      kept = (kept, rest.kept);
      tables = sound.tables;
    }

-- the session's transaction goes on
sound_again : (session : ℕ) (t t' : Transaction) (st : State) → IsSound st → transaction st session ≡ Some t → t'.number ≡ t.number → t'.snapshot ≡ t.snapshot → IsSound (turned session t' st)
sound_again session t t' st sound opened number snapshot =
    let differ = other_numbers session st.running t sound.numbers opened in
    let given = opened_all (λ u. u.number ≤ st.last_number) session st.running t sound.given opened in
    let made = opened_all (λ u. u.snapshot ≤ last st) session st.running t sound.made opened in
    let kept = opened_all (λ u. st.floor ≤ u.snapshot) session st.running t sound.kept opened in
    sound_with session t' st sound (subst (λ (n : ℕ). AllByRecursion (λ o. o.1.number ≢ n) (others session st.running)) (sym number) differ)
    (omega (arith, given, number)) (omega (arith, made, snapshot)) (omega (arith, kept, snapshot))

-- a further number is given
sound_numbered : (number : ℕ) (st : State) → IsSound st → st.last_number ≤ number → IsSound (record st { last_number = number })
sound_numbered number st sound up = record {
  some_version = sound.some_version;
  counted = sound.counted;
  floor = sound.floor;
  sessions = sound.sessions;
  numbers = sound.numbers;
  given = all_weaker st.running (λ o below. omega (arith, up, below)) sound.given;
  made = sound.made;
  kept = sound.kept;
  tables = sound.tables;
}

-- a transaction begins
sound_began : (session : ℕ) (explicit : Bool) (number snapshot : ℕ) (st : State) → IsSound st → number ≡ st.last_number + 1 → snapshot ≡ last st → IsSound (after_began session explicit number snapshot st)
sound_began session explicit number snapshot st sound next newest_one =
    let numbered = record st { last_number = number } in
    sound_with session _ numbered (sound_numbered number st sound (omega (arith, next)))
    (all_filter _ _ st.running (all_weaker st.running (λ o below same. omega (arith, next, below, same)) sound.given))
    (omega arith) (omega (arith, newest_one)) (omega (arith, newest_one, sound.floor))

-- a checkpoint is written
sound_checked : (table : List ℕ) (at : ℕ) (name : Name) (st : State) → IsSound st
    → IsSound (with_check table at name st)
sound_checked table at name st sound = record {
  some_version = sound.some_version;
  counted = sound.counted;
  floor = sound.floor;
  sessions = sound.sessions;
  numbers = sound.numbers;
  given = sound.given;
  made = sound.made;
  kept = sound.kept;
  tables = sound.tables;
}

-- the floor is raised
sound_collected : (floor : ℕ) (names : List Name) (st : State) → IsSound st → MayCollect st names floor → IsSound (record st { floor = floor })
sound_collected floor names st sound may = record {
  some_version = sound.some_version;
  counted = sound.counted;
  floor = may.1;
  sessions = sound.sessions;
  numbers = sound.numbers;
  given = sound.given;
  made = sound.made;
  kept = may.2;
  tables = sound.tables;
}

-- an entry that is allowed leaves a sound state sound

ran_sound : (session : ℕ) (reply : Reply) (change : Change) (st : State) (o : Option Transaction) → IsSound st → transaction st session ≡ o
    → IsSound (option_map_or (λ t. turned session (with_part reply change t) st) o st)
ran_sound session reply change st None sound is = sound
ran_sound session reply change st (Some t) sound is = sound_again session t (with_part reply change t) st sound is refl refl

commit_sound : (session : ℕ) (dropped added : List Name) (st : State) (o : Option Transaction) → IsSound st
    → IsSound (option_map_or (λ t. ended session (with_version (version_after (last st + 1) t.pending t.worn (newest st)) dropped added st)) o st)
commit_sound session dropped added st None sound = sound
commit_sound session dropped added st (Some t) sound =
    sound_ended session _
    (sound_version st (version_after (last st + 1) t.pending t.worn (newest st)) dropped added sound
    (λ name schema has. applied_schema (last st + 1) t.pending name (newest st).tables ∙ has))

part_sound : (session : ℕ) (t : Transaction) (st : State) (stays : Bool) → IsSound st → transaction st session ≡ Some t
    → IsSound (if stays then turned session (record t { parts = t.parts + 1 }) st else ended session st)
part_sound session t st true sound is = sound_again session t (record t { parts = t.parts + 1 }) st sound is refl refl
part_sound session t st false sound is = sound_ended session st sound

stop_sound : (session : ℕ) (ends : Bool) (st : State) (o : Option Transaction) → IsSound st → transaction st session ≡ o
    → IsSound (option_map_or (λ t. if t.explicit && not ends then turned session (record t { parts = t.parts + 1 }) st else ended session st) o st)
stop_sound session ends st None sound is = sound
stop_sound session ends st (Some t) sound is = part_sound session t st (t.explicit && not ends) sound is

fact_sound : (told : Bool) (session : ℕ) (ends : Bool) (f : Fact) (st : State) → IsSound st
    → IsAllowedFact told st session f → IsSound (after_fact session ends f st)
fact_sound told session ends (Created table schema seq) st sound allowed =
    let made : Table = record { name = table; schema = schema; rows = [] } in
    sound_version st _ [] [] sound (λ name columns has. behind_schema made name columns (newest st).tables has)
fact_sound told session ends (Began explicit txn snapshot) st sound allowed =
    sound_began session explicit txn snapshot st sound allowed.1 allowed.2
fact_sound told session ends (Ran reply change) st sound allowed =
    ran_sound session reply change st (transaction st session) sound refl
fact_sound told session ends (Committed seq added dropped) st sound allowed =
    commit_sound session dropped added st (transaction st session) sound
fact_sound told session ends (Conflict seq) st sound allowed = sound_ended session st sound
fact_sound told session ends Ended st sound allowed = sound_ended session st sound
fact_sound told session ends RolledBack st sound allowed = sound_ended session st sound
fact_sound told session ends (Refused cause) st sound allowed =
    stop_sound session false st (transaction st session) sound refl
fact_sound told session ends (Failed cause) st sound allowed =
    stop_sound session ends st (transaction st session) sound refl
fact_sound told session ends (Compacted table cells marks seq added dropped) st sound allowed =
    sound_ended session _
    (sound_version st (version_compacted table (last st + 1) marks (newest st)) dropped added sound
    (λ name schema has.
    mapped_schema (compacted_table table (last st + 1) marks) (compacted_name table (last st + 1) marks) (compacted_schema table (last st + 1) marks) name (newest st).tables ∙ has))
fact_sound told session ends (Checkpointed table at name) st sound allowed =
    sound_ended session _ (sound_checked table at name st sound)
fact_sound told session ends (Collected names floor) st sound allowed =
    sound_collected floor names st sound allowed.1

pub sound_after : (told : Bool) (st : State) (e : Noted) → IsSound st → IsAllowed told st e
    → IsSound (after st e)
sound_after told st e sound allowed =
    fact_sound told e.entry.session e.ends e.entry.fact st sound allowed

pub sound_from : (told : Bool) (st : State) (entries : List Noted) → IsSound st
    → IsLegalFrom told st entries → IsSound (state_from st entries)
sound_from told st [] sound legal = sound
sound_from told st (e ∷ es) sound legal =
    sound_from told (after st e) es (sound_after told st e sound legal.0) legal.1

opening_stays : TablesStay opening
opening_stays m n name schema up within has =
    let same : m ≡ n = omega (arith, up, within) in
    subst (λ (k : ℕ). schema_in name (version_at opening k).tables ≡ Some schema) same has

pub sound_opening : IsSound opening
sound_opening = record {
  some_version = omega arith;
  counted = refl;
  floor = omega arith;
  sessions = tt;
  numbers = tt;
  given = tt;
  made = tt;
  kept = tt;
  tables = opening_stays;
}

pub states_are_sound : StatesAreSound
states_are_sound entries legal = sound_from true opening entries sound_opening legal
