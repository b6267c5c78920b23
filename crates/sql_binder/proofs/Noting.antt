-- The faults noted behind the names of a statement are its least refusals.
use Rattle.std.proofs.Common.{◌≡◌, Option, None, Some, Err, refl, sym, ◌∙◌, ap}
use Rattle.std.specs.Option.{option_or}
use Rattle.sql_model.specs.declared.replies.Refusal.{Refusal}
use Rattle.sql_model.specs.declared.statements.Statement.{Statement}
use Rattle.sql_model.specs.Binding.{refused, mistyped, miscounted, misgrouped}
use Rattle.sql_model.specs.Mentions.{Mentions, nothing, one, both, first, unknown_table, unknown_column, ambiguous_name, mentions}
use Rattle.sql_model.specs.Scopes.{TableSchemas}
use Rattle.sql_binder.specs.declared.faults.BindFault.{BindFault}
use Rattle.sql_binder.specs.declared.faults.BindFault.TheVariants.{Refused, NoMemory}
use Rattle.sql_binder.specs.declared.faults.NameFaults.{NameFaults}
use Rattle.sql_binder.specs.Judging.{Judges}
use Rattle.sql_binder.specs.Noting.{no_faults, kept, noted, least}

or_none : (o : Option Refusal) → option_or o None ≡ o
or_none None = refl
or_none (Some r) = refl

or_both : (a b c : Option Refusal) → option_or (option_or a b) c ≡ option_or a (option_or b c)
or_both None b c = refl
or_both (Some r) b c = refl

kept_or : (new old : Option Refusal) → kept new old ≡ option_or old new
kept_or None old = sym (or_none old)
kept_or (Some r) old = refl

-- each kind is noted apart from the others
table_noted : (s : TableSchemas) (m : Mentions) (f : NameFaults) → (noted s f m).table ≡ option_or f.table (first (unknown_table s) m)
table_noted s nothing f = sym (or_none f.table)
table_noted s (one m) f = kept_or (unknown_table s m) f.table
table_noted s (both a b) f = table_noted s b (noted s f a) ∙ ap (λ (o : Option Refusal). option_or o (first (unknown_table s) b)) (table_noted s a f) ∙ or_both f.table (first (unknown_table s) a) (first (unknown_table s) b)

column_noted : (s : TableSchemas) (m : Mentions) (f : NameFaults) → (noted s f m).column ≡ option_or f.column (first unknown_column m)
column_noted s nothing f = sym (or_none f.column)
column_noted s (one m) f = kept_or (unknown_column m) f.column
column_noted s (both a b) f = column_noted s b (noted s f a) ∙ ap (λ (o : Option Refusal). option_or o (first unknown_column b)) (column_noted s a f) ∙ or_both f.column (first unknown_column a) (first unknown_column b)

ambiguous_noted : (s : TableSchemas) (m : Mentions) (f : NameFaults) → (noted s f m).ambiguous ≡ option_or f.ambiguous (first ambiguous_name m)
ambiguous_noted s nothing f = sym (or_none f.ambiguous)
ambiguous_noted s (one m) f = kept_or (ambiguous_name m) f.ambiguous
ambiguous_noted s (both a b) f = ambiguous_noted s b (noted s f a) ∙ ap (λ (o : Option Refusal). option_or o (first ambiguous_name b)) (ambiguous_noted s a f) ∙ or_both f.ambiguous (first ambiguous_name a) (first ambiguous_name b)

-- the least fault of the names, and otherwise what is judged behind them
pub refused_by_names : (s : TableSchemas) (x : Statement) → option_or (least (noted s no_faults (mentions s x))) (option_or (mistyped s x) (option_or (miscounted s x) (misgrouped s x))) ≡ refused s x
refused_by_names s x =
    let m = mentions s x in
    let rest : Option Refusal = option_or (mistyped s x) (option_or (miscounted s x) (misgrouped s x)) in
    (λ i. option_or (option_or (table_noted s m no_faults i) (option_or (column_noted s m no_faults i) (ambiguous_noted s m no_faults i))) rest)
    ∙ or_both (first (unknown_table s) m) (option_or (first unknown_column m) (first ambiguous_name m)) rest
    ∙ ap (option_or (first (unknown_table s) m)) (or_both (first unknown_column m) (first ambiguous_name m) rest)

-- a refusal of the names is that of the statement
pub judged_by_names : (s : TableSchemas) (x : Statement) (fault : BindFault) → Judges {X = Unit {0}} (Err fault) (least (noted s no_faults (mentions s x))) → Judges {X = Unit {0}} (Err fault) (refused s x)
judged_by_names s x NoMemory judged = tt
judged_by_names s x (Refused r) judged =
    sym (refused_by_names s x) ∙ ap (λ (o : Option Refusal). option_or o (option_or (mistyped s x) (option_or (miscounted s x) (misgrouped s x)))) judged
