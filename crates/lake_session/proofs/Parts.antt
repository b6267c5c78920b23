-- What a lake says of a session's open transaction.
use Rattle.std.proofs.Common.{◌≡◌, ℕ, ◌+◌, Bool, true, false, not, None, Some, Option, Ok, refl, sym, ap, ◌∙◌, subst}
use Rattle.std.specs.Prelude.{is_some}
use Rattle.std.specs.Option.{option_map, option_map_or}
use Rattle.lake_model.specs.State.{State, Transaction, next_part, transaction, view}
use Rattle.sql_model.specs.declared.statements.Statement.{Statement}
use Rattle.sql_model.specs.Versions.{Tables}
use Rattle.sql_model.specs.Writing.{Effect, effect_of}
use Rattle.lake_core.specs.declared.opened.OpenTxn.{OpenTxn}
use Rattle.lake_core.specs.Lakes.{IsStatementEffect}
use Rattle.lake_core.specs.Opened.{opened}
use Rattle.lake_session.specs.Effects.{IsEffectOf}

next_of : (o : Option Transaction) (seen : OpenTxn) → ◌≡◌ {A = Option OpenTxn} (option_map opened o) (Some seen) → seen.parts + 1 ≡ option_map_or (λ t. t.parts + 1) o 1
next_of None seen is = absurd cc
next_of (Some t) seen is = ap (λ (found : Option OpenTxn). option_map_or (λ s. s.parts + 1) found 1) (sym is)

pub next_is : (st : State) (session : ℕ) (found : Option OpenTxn) (seen : OpenTxn) → found ≡ option_map opened (transaction st session) → found ≡ Some seen → seen.parts + 1 ≡ next_part st session
next_is st session found seen is there = next_of (transaction st session) seen (sym is ∙ there)

-- what holds over what is lent, as this part, holds over what the session sees, as its next part
pub as_next_part : (P : Tables → ℕ → Type 0) (st : State) (session : ℕ) (lent : Tables) (part : ℕ)
    → lent ≡ (view st session).tables → part ≡ next_part st session → P lent part
    → P (view st session).tables (next_part st session)
as_next_part P st session lent part seen next holds =
    let Q : Tables → Type 0 = λ tables. P tables part in
    let R : ℕ → Type 0 = λ n. P (view st session).tables n in
    subst R next (subst Q seen holds)

-- so what a statement does over what is lent, as this part, is what it does in its transaction
pub effect_inside : (x : Statement) (st : State) (session : ℕ) (lent : Tables) (part : ℕ)
    (effect : Effect) → lent ≡ (view st session).tables → part ≡ next_part st session
    → IsEffectOf x lent part effect → IsStatementEffect st session effect
effect_inside x st session lent part effect seen next is =
    let P : Tables → ℕ → Type 0 = λ tables n. effect_of is.form tables n ≡ Ok effect in
    record { form = is.form; reads = is.reads; does = as_next_part P st session lent part seen next is.does }

-- whether there is one

pub found_none : (o : Option Transaction) (found : Option OpenTxn) (none : Bool) → found ≡ option_map opened o → is_some found ≡ not none → none ≡ true → o ≡ None
found_none None found none is told holds = refl
found_none (Some t) found none is told holds = let other : true ≡ false = ap is_some (sym is) ∙ told ∙ ap not holds in absurd cc

pub found_some : (o : Option Transaction) (found : Option OpenTxn) (none : Bool) → found ≡ option_map opened o → is_some found ≡ not none → none ≡ false → (t : Transaction) × (o ≡ Some t)
found_some None found none is told holds = let other : false ≡ true = ap is_some (sym is) ∙ told ∙ ap not holds in absurd cc
found_some (Some t) found none is told holds = (t, refl)
