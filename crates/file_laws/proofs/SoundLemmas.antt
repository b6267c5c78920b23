-- What the soundness of a state says of its open transactions and its tables.
use Rattle.std.proofs.Common.{◌≡◌, ◌≢◌, ℕ, Bool, true, false, nat_eq, List, [], ◌∷◌, ◌++◌, Option}
use Rattle.std.proofs.Common.{None}
use Rattle.std.proofs.Common.{Some, map, refl, sym, ap, ◌∙◌, if◌then◌else◌}
use Rattle.std.proofs.lemmas.Bool.{eqb-true}
use Rattle.std.proofs.lemmas.List.Elements.{recursion_from_All}
use Rattle.std.specs.Prelude.{is_some}
use Rattle.std.specs.Option.{option_map}
use Rattle.std.specs.List.{AllByRecursion}
use Rattle.lake_values.specs.Schemas.{AllDistinct, TableColumns}
use Rattle.sql_model.specs.Versions.{Table, Tables, table_of}
use Rattle.lake_model.specs.Allowed.{IsLegalFrom}
use Rattle.lake_model.specs.Laws.{schema_in}
use Rattle.lake_model.specs.State.{State, Noted, Transaction, after, opened_by, opening, state}
use Rattle.lake_model.specs.State.{state_from}
use Rattle.lake_model.proofs.Sound.{opened_all}
use Rattle.lake_model.proofs.Steps.{state_append}
use Rattle.file_laws.specs.Stands.{KeepsTables}
use Rattle.file_laws.proofs.ChangeLemmas.{found_name}

all_before : {X Y : Type 0} (P : Y → Type 0) (f : X → Y) (xs : List X) → AllByRecursion P (map f xs)
    → AllByRecursion (λ x. P (f x)) xs
all_before P f [] all = tt
all_before P f (x ∷ xs) all = (all.0, all_before P f xs all.1)

-- open transactions of one number are of one session
pub one_session : (one other : ℕ) (os : List (ℕ × Transaction)) (t u : Transaction) → AllDistinct
    (map (λ o. o.1.number) os) → opened_by one os ≡ Some t → opened_by other os ≡ Some u → nat_eq
    t.number u.number ≡ true → one ≡ other
one_session one other [] t u apart is is' same = absurd cc
one_session one other (o ∷ os) t u apart is is' same =
    let numbers : List ℕ = map (λ (p : ℕ × Transaction). p.1.number) os in
    let others = all_before (λ n. n ≢ o.1.number) (λ (p : ℕ × Transaction). p.1.number) os
    (recursion_from_All (λ n. n ≢ o.1.number) numbers apart.0) in
    let equal : t.number ≡ u.number = eqb-true t.number u.number same in
    elim (nat_eq o.0 one) as (λ b. nat_eq o.0 one ≡ b → (if b then Some o.1 else opened_by one os)
    ≡ Some t → one ≡ other) [
      | true ↦ λ h is. elim (nat_eq o.0 other) as (λ b. nat_eq o.0 other ≡ b →
          (if b then Some o.1 else opened_by other os) ≡ Some u → one ≡ other) [
            | true ↦ λ g is'. sym (eqb-true o.0 one h) ∙ eqb-true o.0 other g
            | false ↦ λ g is'.
                let first : o.1 ≡ t = cc in
                let off = opened_all (λ v. v.number ≢ o.1.number) other os u others is' in
                absurd (off (sym equal ∙ ap (λ (v : Transaction). v.number) (sym first)))
          ] refl is'
      | false ↦ λ h is. elim (nat_eq o.0 other) as (λ b. nat_eq o.0 other ≡ b →
          (if b then Some o.1 else opened_by other os) ≡ Some u → one ≡ other) [
            | true ↦ λ g is'.
                let first : o.1 ≡ u = cc in
                let off = opened_all (λ v. v.number ≢ o.1.number) one os t others is in
                absurd (off (equal ∙ ap (λ (v : Transaction). v.number) (sym first)))
            | false ↦ λ g is'. one_session one other os t u apart.1 is is' same
          ] refl is'
    ] refl is

-- the name and the schema of a table, if there is one
abbrev named : Option Table → Option (List ℕ × TableColumns)
named o = option_map (λ t. (t.name, t.schema)) o

-- tables that stay with their schemas
pub keeps_tables : (old new : Tables) → ((name : List ℕ) (schema : TableColumns) → schema_in name
    old ≡ Some schema → schema_in name new ≡ Some schema) → KeepsTables old new
keeps_tables old new stays table known =
    elim (table_of table old) as
    (λ o. table_of table old ≡ o → is_some o ≡ true → named (table_of table new) ≡ named o) [
      | None ↦ λ gone known. absurd cc
      | Some s ↦ λ is known.
          let has : schema_in table new ≡ Some s.schema = stays table s.schema
          (ap (λ (o : Option Table). option_map (λ t. t.schema) o) is) in
          elim (table_of table new) as (λ o. table_of table new ≡ o → option_map (λ t. t.schema) o
          ≡ Some s.schema → named o ≡ named (Some s)) [
            | None ↦ λ gone has. absurd cc
            | Some t ↦ λ there has.
                let schema : t.schema ≡ s.schema = cc in
                let name : t.name ≡ s.name = found_name table new t there ∙ sym
                (found_name table old s is) in
                (λ i. Some (name i, schema i))
          ] refl has
    ] refl known

-- a legal chronicle and one entry more, as far as is told
pub told_parts : (told : Bool) (st : State) (xs ys : List Noted) → IsLegalFrom told st (xs ++ ys) →
    IsLegalFrom told st xs × IsLegalFrom told (state_from st xs) ys
told_parts told st [] ys legal = (tt, legal)
told_parts told st (x ∷ xs) ys legal =
    let rest = told_parts told (after st x) xs ys legal.1 in ((legal.0, rest.0), rest.1)

pub legal_parts : (st : State) (xs ys : List Noted) → IsLegalFrom true st (xs ++ ys) → IsLegalFrom
    true st xs × IsLegalFrom true (state_from st xs) ys
legal_parts st xs ys legal = told_parts true st xs ys legal

pub state_next : (entries : List Noted) (e : Noted) → state (entries ++ e ∷ []) ≡ after
    (state entries) e
state_next entries e = state_append opening entries (e ∷ [])
