-- Which refusals a statement meets over what its session sees.
use Rattle.std.proofs.Common.{◌≡◌, ℕ, Bool, true, false, not, List, Option, None, Some, Err, refl, sym, ap, ◌∙◌, subst}
use Rattle.std.specs.Prelude.{Result, is_some}
use Rattle.std.specs.Option.{option_or}
use Rattle.lake_values.specs.declared.values.Value.{Value}
use Rattle.sql_model.specs.declared.bound.Bound.{Bound}
use Rattle.sql_model.specs.declared.bound.Bound.TheVariants as bound
use Rattle.sql_model.specs.declared.replies.Refusal.{Refusal}
use Rattle.sql_model.specs.declared.replies.Refusal.TheVariants.{InTransaction, NoTransaction, TableExists, UnknownTable, UnknownColumn, Ambiguous, TypeMismatch, ColumnCount, NotGrouped}
use Rattle.sql_model.specs.declared.statements.OrderBy.TheVariants.{Name, Number}
use Rattle.sql_model.specs.declared.statements.Statement.{Statement}
use Rattle.lake_model.specs.Allowed.{IsAllowedRefusal}
use Rattle.sql_model.specs.Binding.{refused, answered, mistyped, miscounted, misgrouped}
use Rattle.sql_model.specs.BoundForms.{bound_form}
use Rattle.sql_model.specs.Mentions.{Mention, Mentions, nothing, one, both, first, mentions, refused_if, unknown_table, unknown_column, ambiguous_name}
use Rattle.sql_model.specs.Mentions as mention
use Rattle.sql_model.specs.Query as query
use Rattle.sql_model.specs.Scopes.{TableSchemas, schema_named}
use Rattle.lake_model.specs.State.{State}
use Rattle.sql_model.specs.Versions.{Tables, rows_of}
use Rattle.sql_model.specs.Writing as writing

-- a refusal that says nothing of the transactions or of a table that is there

abbrev pub plain_cause : Refusal → Bool
plain_cause InTransaction = false
plain_cause NoTransaction = false
plain_cause (TableExists table) = false
plain_cause cause = true

abbrev IsPlain : Option Refusal → Type 0
IsPlain None = Unit {0}
IsPlain (Some cause) = plain_cause cause ≡ true

pub allowed_plain : (st : State) (session : ℕ) (cause : Refusal) → plain_cause cause ≡ true → IsAllowedRefusal st session cause
allowed_plain st session InTransaction is = absurd cc
allowed_plain st session NoTransaction is = absurd cc
allowed_plain st session (TableExists table) is = absurd cc
allowed_plain st session cause is = tt

-- the refusals of binding

or_plain : (first later : Option Refusal) → IsPlain first → IsPlain later → IsPlain (option_or first later)
or_plain None later p q = q
or_plain (Some cause) later p q = p

if_plain : (holds : Bool) (cause : Refusal) → plain_cause cause ≡ true → IsPlain (refused_if holds cause)
if_plain true cause p = p
if_plain false cause p = tt

first_plain : (judge : Mention → Option Refusal) → ((m : Mention) → IsPlain (judge m)) → (ms : Mentions) → IsPlain (first judge ms)
first_plain judge each nothing = tt
first_plain judge each (one m) = each m
first_plain judge each (both before behind) = or_plain (first judge before) (first judge behind) (first_plain judge each before) (first_plain judge each behind)

table_plain : (schemas : TableSchemas) (m : Mention) → IsPlain (unknown_table schemas m)
table_plain schemas (mention.table name) = if_plain (not (is_some (schema_named name schemas))) (UnknownTable name) refl
table_plain schemas m = tt

column_plain : (m : Mention) → IsPlain (unknown_column m)
column_plain (mention.reference scope t c) = if_plain _ (UnknownColumn _) refl
column_plain (mention.key outputs (Name name)) = if_plain _ (UnknownColumn name) refl
column_plain (mention.key outputs (Number n)) = if_plain _ (UnknownColumn _) refl
column_plain m = tt

name_plain : (m : Mention) → IsPlain (ambiguous_name m)
name_plain (mention.reference scope t c) = if_plain _ (Ambiguous _) refl
name_plain (mention.given name later) = if_plain _ (Ambiguous name) refl
name_plain (mention.key outputs (Name name)) = if_plain _ (Ambiguous name) refl
name_plain m = tt

binding_plain : (schemas : TableSchemas) (x : Statement) → IsPlain (refused schemas x)
binding_plain schemas x =
    or_plain _ _ (first_plain (unknown_table schemas) (table_plain schemas) (mentions schemas x))
    (or_plain _ _ (first_plain unknown_column column_plain (mentions schemas x))
    (or_plain _ _ (first_plain ambiguous_name name_plain (mentions schemas x))
    (or_plain (mistyped schemas x) (option_or (miscounted schemas x) (misgrouped schemas x)) (if_plain _ TypeMismatch refl)
    (or_plain (miscounted schemas x) (misgrouped schemas x) (if_plain _ ColumnCount refl) (if_plain _ NotGrouped refl)))))

pub refused_plain : (schemas : TableSchemas) (x : Statement) (cause : Refusal) → refused schemas x ≡ Some cause → plain_cause cause ≡ true
refused_plain schemas x cause is = subst (λ (o : Option Refusal). IsPlain o) is (binding_plain schemas x)

-- the refusals of a statement that is bound

err_same : {X : Type 0} {x y : Refusal} → ◌≡◌ {A = Result X Refusal} (Err x) (Err y) → x ≡ y
err_same e = cc

fits_plain : (fits : Bool) (made : writing.Effect) (cause : Refusal) → writing.if_fits fits made ≡ Err cause → plain_cause cause ≡ true
fits_plain true made cause is = absurd cc
fits_plain false made cause is = ap plain_cause (sym (err_same is))

query_plain : (many fits : Bool) (rows : List (List Value)) (cause : Refusal) → writing.queried (query.checked many fits rows) ≡ Err cause → plain_cause cause ≡ true
query_plain true fits rows cause is = ap plain_cause (sym (err_same is))
query_plain false false rows cause is = ap plain_cause (sym (err_same is))
query_plain false true rows cause is = absurd cc

effect_plain : (form : Bound) (version : Tables) (part : ℕ) (cause : Refusal) → writing.effect_of form version part ≡ Err cause → plain_cause cause ≡ true
effect_plain (bound.Select q) version part cause is =
    let db = rows_of version in
    let rows = query.stage q db (query.last_stage q) in
    query_plain (query.too_many q db (query.last_stage q)) (query.answer_fits q rows) (query.answer q rows) cause is
effect_plain (bound.Insert table rows column) version part cause is = absurd cc
effect_plain (bound.Update table guards computed items column) version part cause is = fits_plain _ _ cause is
effect_plain (bound.Delete table guards computed) version part cause is = fits_plain _ _ cause is
effect_plain (bound.Named table) version part cause is = absurd cc

answered_plain : (judged : Option Refusal) (form : Bound) (version : Tables) (part : ℕ) (cause : Refusal) → IsPlain judged → writing.effect_if_bound (answered judged form) version part ≡ Err cause → plain_cause cause ≡ true
answered_plain None form version part cause p is = effect_plain form version part cause is
answered_plain (Some judged) form version part cause p is = ap plain_cause (sym (err_same is)) ∙ p

pub result_plain : (version : Tables) (part : ℕ) (x : Statement) (cause : Refusal) → writing.result_over version part x ≡ Err cause → plain_cause cause ≡ true
result_plain version part x cause is =
    answered_plain (refused (writing.schemas_of version) x) (bound_form (writing.schemas_of version) x) version part cause (binding_plain (writing.schemas_of version) x) is
