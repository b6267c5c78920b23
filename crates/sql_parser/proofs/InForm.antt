-- Each statement that is read is in form.
use Rattle.std.proofs.Common.{◌≡◌, refl, sym, ap, ◌∙◌, arith, ℕ, zero, suc, pred, ◌-◌, ◌<◌, ◌≤◌, ◌==◌, nat_le, le-leb, eq-eqb, leb-true, Bool, true, false, not, ◌&&◌, ◌||◌, List, [], ◌∷◌, Option, Some, None, option_map, is_none, length, map, if◌then◌else◌}
use Rattle.std.specs.List.{list_all, list_any}
use Rattle.grammar_laws.specs.Grammars.{many, as_, listed}
use Rattle.grammar_laws.specs.Phrases.{has_room, less_one}
use Rattle.lake_values.specs.declared.schemas.Column.{Column}
use Rattle.lake_values.specs.declared.values.Value.{Value}
use Rattle.sql_model.specs.declared.expressions.Agg.TheVariants.{CountAll, Count, Sum, Min, Max}
use Rattle.sql_model.specs.declared.expressions.Expr.{Expr}
use Rattle.sql_model.specs.declared.expressions.Item.{Item}
use Rattle.sql_model.specs.declared.expressions.Item.TheVariants.{Plain, Agg as Aggregate}
use Rattle.sql_model.specs.declared.expressions.Ref.{Ref}
use Rattle.sql_model.specs.declared.statements.OrderBy.TheVariants.{Name as ByName, Number as ByNumber}
use Rattle.sql_model.specs.declared.statements.Set.{Set}
use Rattle.sql_model.specs.declared.statements.Statement.{Statement}
use Rattle.sql_model.specs.declared.statements.Statement.TheVariants.{Create, Begin, Commit, RollBack, Insert, Select, Update, Delete}
use Rattle.sql_model.specs.BoundForms.{is_empty, is_aggregate}
use Rattle.sql_model.specs.Form.{is_between, is_name, is_name_or_none, are_names, is_expr, is_filter, is_agg, is_item, is_source, is_pair, is_on, is_key_by, is_key, is_set, is_tuple, is_select, has_bounds, has_item_count, groups_one_table, is_form}
use Rattle.sql_parser.specs.declared.selects.Body.{Body}
use Rattle.sql_parser.specs.declared.selects.Head.{Head}
use Rattle.sql_parser.specs.declared.selects.Join.{Join}
use Rattle.sql_parser.specs.declared.selects.Tail.{Tail}
use Rattle.sql_parser.specs.Classes.{Class}
use Rattle.sql_parser.specs.Grammar
use Rattle.sql_parser.specs.Grammar.{Form, up_to_64, in_parentheses, optional, steps_from}
use Rattle.sql_model.specs.ScriptStatements.{is_script_statement}
use Rattle.sql_parser.proofs.Yields.{Says}
use Rattle.sql_parser.proofs.InFormExpressions.{Reads, Passes, Any, reads_as, reads_both, reads_either, reads_nothing, reads_many, reads_any, reads_name, reads_behind, reads_before, reads_maybe, reads_reference, reads_expression, reads_literal, passes_both, passes_earlier, passes_later, if_any, both_true, both_parts, reads_forked}

-- lists

abbrev pub Within : Option ℕ → ℕ → Type 0
Within None n = Unit {0}
Within (Some most) n = n ≤ most

within_more : (room : Option ℕ) (n : ℕ) → has_room room ≡ true → Within (less_one room) n → Within room (suc n)
within_more None n has p = tt
within_more (Some zero) n has p = absurd cc
within_more (Some (suc m)) n has p = omega arith

within_listed : (most : Option ℕ) (n : ℕ) → has_room most ≡ true → Within (option_map pred most) n → Within most (suc n)
within_listed None n has p = tt
within_listed (Some zero) n has p = absurd cc
within_listed (Some (suc m)) n has p = omega arith

-- members that pass a test, and as many as there is room for
abbrev pub Members : {A : Type 0} → (A → Bool) → Option ℕ → Says (List A)
Members is room b xs l = (list_all is xs ≡ true) × Within room (length xs) × (l ≤ b)

within_none : (room : Option ℕ) → Within room 0
within_none None = tt
within_none (Some n) = omega arith

pub reads_members : {A : Type 0} {levels : ℕ} {room : Option ℕ} {lead : Option Class} {g : Form A} {is : A → Bool} → Reads levels g (Passes is) → Reads levels (many room lead g) (Members is room)
reads_members {A} {levels} {room} {lead} {g} {is} part =
    reads_many (Members is) part (λ room b. (refl, within_none room, omega arith))
    (λ room b x m xs l has p q. (both_true (is x) (list_all is xs) p.0 q.0, within_more room (length xs) has q.1, omega (arith, p.1, q.2)))

-- the same, and at least one
abbrev Some_of : {A : Type 0} → (A → Bool) → Option ℕ → Says (List A)
Some_of is most b xs l = (list_all is xs ≡ true) × Within most (length xs) × (0 < length xs) × (l ≤ b)

reads_listed : {A : Type 0} {levels : ℕ} {c : Class} {g : Form A} {is : A → Bool} (most : Option ℕ) → has_room most ≡ true → Reads levels g (Passes is)
    → Reads levels (listed most c g) (Some_of is most)
reads_listed {A} {levels} {c} {g} {is} most has part =
    reads_as {f = λ x. x.0 ∷ x.1} (Some_of is most)
    (reads_both {k = many (option_map pred most) (Some c) g} (λ b x l. (is x.0 && list_all is x.1 ≡ true) × Within most (suc (length x.1)) × (l ≤ b)) part (reads_members part)
    (λ b x m y l p q. (both_true (is x) (list_all is y) p.0 q.0, within_listed most (length y) has q.1, omega (arith, p.1, q.2))))
    (λ b x l p. (p.0, p.1, omega arith, p.2))

-- one to 64 members
abbrev are_64 : {A : Type 0} → (A → Bool) → List A → Bool
are_64 is xs = is_between 1 64 (length xs) && list_all is xs

reads_64 : {A : Type 0} {levels : ℕ} {g : Form A} {is : A → Bool} → Reads levels g (Passes is) → Reads levels (up_to_64 g) (Passes (are_64 is))
reads_64 {A} {levels} {g} {is} part = let some : Reads levels (up_to_64 g) (Some_of is (Some 64)) = reads_listed (Some 64) refl part in record {
  holds = λ b ts x l rest all e.
      let (p, more) = some.holds b ts x l rest all e in
      ((both_true (is_between 1 64 (length x)) (list_all is x) (both_true (nat_le 1 (length x)) (nat_le (length x) 64) (le-leb 1 (length x) p.2) (le-leb (length x) 64 p.1)) p.0, p.3), more);
}

reads_in_parentheses : {A : Type 0} {levels : ℕ} {g : Form A} {is : A → Bool} → Reads levels g (Passes is) → Reads levels (in_parentheses g) (Passes is)
reads_in_parentheses {A} {levels} {g} {is} part = reads_before (passes_later is) (reads_behind (passes_earlier is) reads_any part) reads_any

or_none : (name : Option (List ℕ)) → if_any is_name name ≡ is_name_or_none name
or_none None = refl
or_none (Some n) = refl

-- an optional name behind a keyword or two
along : {A : Type 0} {levels : ℕ} {g : Form A} {is goes : A → Bool} → ((x : A) → is x ≡ goes x) → Reads levels g (Passes is) → Reads levels g (Passes goes)
along {A} {levels} {g} {is} {goes} same part = record {
  holds = λ b ts x l rest all e. let (p, more) = part.holds b ts x l rest all e in ((sym (same x) ∙ p.0, p.1), more);
}

pub as_passes : {A B : Type 0} {levels : ℕ} {f : A → B} {g : Form A} {is : A → Bool} (goes : B → Bool) → ((x : A) → is x ≡ true → goes (f x) ≡ true) → Reads levels g (Passes is)
    → Reads levels (as_ f g) (Passes goes)
as_passes {A} {B} {levels} {f} {g} {is} goes h part = reads_as {f = f} (Passes goes) part (λ b x l p. (h x p.0, p.1))

-- a part that any value may have
anything : {A : Type 0} {levels : ℕ} {g : Form A} → Reads levels g Any → Reads levels g (Passes (λ _. true))
anything {A} {levels} {g} part = record { holds = λ b ts x l rest all e. let (p, more) = part.holds b ts x l rest all e in ((refl, p), more) }

-- a weaker test
weaker : {A : Type 0} {levels : ℕ} {g : Form A} {is goes : A → Bool} → ((x : A) → is x ≡ true → goes x ≡ true) → Reads levels g (Passes is) → Reads levels g (Passes goes)
weaker {A} {levels} {g} {is} {goes} h part = record {
  holds = λ b ts x l rest all e. let (p, more) = part.holds b ts x l rest all e in ((h x p.0, p.1), more);
}

anything_at : {A : Type 0} {levels : ℕ} {g : Form A} {is : A → Bool} → Reads levels g (Passes is) → Reads levels g Any
anything_at {A} {levels} {g} {is} part = record { holds = λ b ts x l rest all e. let (p, more) = part.holds b ts x l rest all e in (p.1, more) }

filter_or_none : (condition : Option Expr) → if_any is_expr condition ≡ is_filter condition
filter_or_none None = refl
filter_or_none (Some e) = refl

-- CREATE

reads_column_type : {levels : ℕ} → Reads levels Grammar.column_type (Passes (λ _. true))
unfolding Grammar.column_type
reads_column_type = reads_either (anything (reads_as Any reads_any (λ b x l p. p))) (anything (reads_as Any reads_any (λ b x l p. p)))

reads_column : {levels : ℕ} → Reads levels Grammar.column (Passes (λ c. is_name c.name))
unfolding Grammar.column
reads_column = as_passes {f = λ x. Grammar.column_of x.0 x.1} (λ c. is_name c.name) (λ x p. (both_parts (is_name x.0) true p).0) (passes_both reads_name reads_column_type)

reads_columns : {levels : ℕ} → Reads levels Grammar.columns (Passes (are_64 (λ c. is_name c.name)))
unfolding Grammar.columns
reads_columns = reads_in_parentheses (reads_64 reads_column)

reads_distribution : {levels : ℕ} → Reads levels Grammar.distribution (Passes is_name_or_none)
unfolding Grammar.distribution
reads_distribution = along or_none (reads_maybe (reads_behind (passes_earlier is_name) (reads_behind (λ b m y l more p. omega arith) reads_any reads_any) reads_name))

create_form : (table : List ℕ) (columns : List Column) (distribution : Option (List ℕ))
    → is_name table && (are_64 (λ c. is_name c.name) columns && is_name_or_none distribution) ≡ true → is_form (Create table columns distribution) ≡ true
create_form table columns distribution p =
    let (t, rest) = both_parts (is_name table) (are_64 (λ c. is_name c.name) columns && is_name_or_none distribution) p in
    let (cs, d) = both_parts (are_64 (λ c. is_name c.name) columns) (is_name_or_none distribution) rest in
    let (n, all) = both_parts (is_between 1 64 (length columns)) (list_all (λ c. is_name c.name) columns) cs in
    both_true (is_name table && is_between 1 64 (length columns) && list_all (λ c. is_name c.name) columns) (is_name_or_none distribution)
    (both_true (is_name table && is_between 1 64 (length columns)) (list_all (λ c. is_name c.name) columns) (both_true (is_name table) (is_between 1 64 (length columns)) t n) all) d

-- a statement of a script, in form
abbrev pub is_ready : Statement → Bool
is_ready x = is_script_statement x && is_form x

reads_create : {levels : ℕ} → Reads levels Grammar.create (Passes is_ready)
unfolding Grammar.create
reads_create =
    as_passes {f = λ x. Create x.0 x.1.0 x.1.1} is_ready (λ x p. create_form x.0 x.1.0 x.1.1 p)
    (passes_both (reads_behind (passes_earlier is_name) (reads_behind (λ b m y l more p. omega arith) reads_any reads_any) reads_name) (passes_both reads_columns reads_distribution))

is_false : (a : Bool) → not a ≡ true → a ≡ false
is_false true e = absurd cc
is_false false e = refl

or_first : (a b : Bool) → a ≡ true → a || b ≡ true
or_first true b e = refl
or_first false b e = absurd cc

or_second : (a b : Bool) → b ≡ true → a || b ≡ true
or_second true b e = refl
or_second false b e = e

-- INSERT

any_member : {A : Type 0} (xs : List A) → list_all (λ _. true) xs ≡ true
any_member [] = refl
any_member (x ∷ xs) = any_member xs

reads_tuple : {levels : ℕ} → Reads levels Grammar.tuple (Passes is_tuple)
unfolding Grammar.tuple
reads_tuple = reads_in_parentheses (weaker (λ row p. (both_parts (is_between 1 64 (length row)) (list_all (λ _. true) row) p).0) (reads_64 (anything reads_literal)))

not_empty : {A : Type 0} (xs : List A) → 0 < length xs → not (is_empty xs) ≡ true
not_empty [] some = absurd (omega arith)
not_empty (x ∷ xs) some = refl

-- one member or more, without a bound
reads_some : {A : Type 0} {levels : ℕ} {c : Class} {g : Form A} {is : A → Bool} → Reads levels g (Passes is) → Reads levels (listed None c g) (Passes (λ xs. not (is_empty xs) && list_all is xs))
reads_some {A} {levels} {c} {g} {is} part = let some : Reads levels (listed None c g) (Some_of is None) = reads_listed None refl part in record {
  holds = λ b ts x l rest all e. let (p, more) = some.holds b ts x l rest all e in ((both_true (not (is_empty x)) (list_all is x) (not_empty x p.2) p.0, p.3), more);
}

insert_form : (table : List ℕ) (rows : List (List Value)) → is_name table && (not (is_empty rows) && list_all is_tuple rows) ≡ true → is_form (Insert table rows) ≡ true
insert_form table rows p =
    let (t, rest) = both_parts (is_name table) (not (is_empty rows) && list_all is_tuple rows) p in
    let (some, all) = both_parts (not (is_empty rows)) (list_all is_tuple rows) rest in
    both_true (is_name table && not (is_empty rows)) (list_all is_tuple rows) (both_true (is_name table) (not (is_empty rows)) t some) all

reads_insert : {levels : ℕ} → Reads levels Grammar.insert (Passes is_ready)
unfolding Grammar.insert
reads_insert =
    as_passes {f = λ x. Insert x.0 x.1} is_ready (λ x p. insert_form x.0 x.1 p)
    (passes_both (reads_before (passes_later is_name) (reads_behind (passes_earlier is_name) (reads_behind (λ b m y l more p. omega arith) reads_any reads_any) reads_name) reads_any) (reads_some reads_tuple))

-- UPDATE and DELETE

reads_where : {levels : ℕ} → Reads levels Grammar.where_clause (Passes is_filter)
unfolding Grammar.where_clause
reads_where = along filter_or_none (reads_maybe (reads_behind (passes_earlier is_expr) reads_any reads_expression))

reads_set : {levels : ℕ} → Reads levels Grammar.set (Passes is_set)
unfolding Grammar.set
reads_set = as_passes {f = λ x. Grammar.set_of x.0 x.1} is_set (λ x p. p) (passes_both (reads_before (passes_later is_name) reads_name reads_any) reads_expression)

update_form : (table : List ℕ) (sets : List Set) (condition : Option Expr) → is_name table && (are_64 is_set sets && is_filter condition) ≡ true
    → is_form (Update table sets condition) ≡ true
update_form table sets condition p =
    let (t, rest) = both_parts (is_name table) (are_64 is_set sets && is_filter condition) p in
    let (ss, f) = both_parts (are_64 is_set sets) (is_filter condition) rest in
    let (n, all) = both_parts (is_between 1 64 (length sets)) (list_all is_set sets) ss in
    both_true (is_name table && is_between 1 64 (length sets) && list_all is_set sets) (is_filter condition)
    (both_true (is_name table && is_between 1 64 (length sets)) (list_all is_set sets) (both_true (is_name table) (is_between 1 64 (length sets)) t n) all) f

reads_update : {levels : ℕ} → Reads levels Grammar.update (Passes is_ready)
unfolding Grammar.update
reads_update =
    as_passes {f = λ x. Update x.0 x.1.0 x.1.1} is_ready (λ x p. update_form x.0 x.1.0 x.1.1 p)
    (passes_both (reads_before (passes_later is_name) (reads_behind (passes_earlier is_name) reads_any reads_name) reads_any) (passes_both (reads_64 reads_set) reads_where))

reads_delete : {levels : ℕ} → Reads levels Grammar.delete (Passes is_ready)
unfolding Grammar.delete
reads_delete =
    as_passes {f = λ x. Delete x.0 x.1} is_ready (λ x p. p)
    (passes_both (reads_behind (passes_earlier is_name) (reads_behind (λ b m y l more p. omega arith) reads_any reads_any) reads_name) reads_where)

-- SELECT

reads_alias : {levels : ℕ} → Reads levels Grammar.alias (Passes is_name_or_none)
unfolding Grammar.alias
reads_alias = along or_none (reads_maybe (reads_behind (passes_earlier is_name) reads_any reads_name))

reads_counted : {levels : ℕ} → Reads levels Grammar.counted_rows (Passes is_agg)
unfolding Grammar.counted_rows
reads_counted = reads_either (reads_as {f = λ _. CountAll} (Passes is_agg) reads_any (λ b x l p. (refl, p))) (as_passes {f = Count} is_agg (λ x p. p) reads_expression)

reads_argument : {levels : ℕ} → Reads levels Grammar.argument (Passes is_expr)
unfolding Grammar.argument
reads_argument = reads_in_parentheses reads_expression

reads_aggregate : {levels : ℕ} → Reads levels Grammar.aggregate (Passes is_agg)
unfolding Grammar.aggregate Grammar.count
reads_aggregate =
    reads_either (reads_behind (passes_earlier is_agg) reads_any (reads_in_parentheses reads_counted))
    (reads_either (as_passes {f = Sum} is_agg (λ x p. p) (reads_behind (passes_earlier is_expr) reads_any reads_argument))
    (reads_either (as_passes {f = Min} is_agg (λ x p. p) (reads_behind (passes_earlier is_expr) reads_any reads_argument))
    (as_passes {f = Max} is_agg (λ x p. p) (reads_behind (passes_earlier is_expr) reads_any reads_argument))))

reads_item : {levels : ℕ} → Reads levels Grammar.item (Passes is_item)
unfolding Grammar.item
reads_item =
    reads_either (as_passes {f = λ x. Aggregate x.0 x.1} is_item (λ x p. p) (passes_both reads_aggregate reads_alias))
    (as_passes {f = λ x. Plain x.0 x.1} is_item (λ x p. p) (passes_both reads_expression reads_alias))

source_form : (table : List ℕ) (name : Option (List ℕ)) → is_name table && if_any is_name name ≡ true → is_source (Grammar.source_of table name) ≡ true
source_form table None p = let t = (both_parts (is_name table) true p).0 in both_true (is_name table) (is_name table) t t
source_form table (Some name) p = p

reads_source : {levels : ℕ} → Reads levels Grammar.source (Passes is_source)
unfolding Grammar.source Grammar.second_name
reads_source =
    as_passes {f = λ x. Grammar.source_of x.0 x.1} is_source (λ x p. source_form x.0 x.1 p)
    (passes_both reads_name (reads_either (as_passes {f = Some} (if_any is_name) (λ x p. p) (reads_behind (passes_earlier is_name) reads_any reads_name)) (reads_maybe reads_name)))

reads_same : {levels : ℕ} → Reads levels Grammar.same (Passes is_pair)
unfolding Grammar.same
reads_same = passes_both (reads_before (passes_later are_names) reads_reference reads_any) reads_reference

abbrev is_join : Join → Bool
is_join j = is_source j.source && is_on j.on

reads_join : {levels : ℕ} → Reads levels Grammar.join (Passes is_join)
unfolding Grammar.join
reads_join =
    as_passes {f = λ x. Grammar.join_of x.0 x.1} is_join (λ x p. p)
    (passes_both
    (reads_before (passes_later is_source)
    (reads_behind (passes_earlier is_source) (reads_behind (λ b m y l more p. omega arith) (anything_at (reads_maybe (anything reads_any))) reads_any) reads_source) reads_any)
    (reads_some reads_same))

abbrev items_ok : Option (List Item) → Bool
items_ok None = true
items_ok (Some items) = are_64 is_item items

abbrev is_head : Head → Bool
is_head h = items_ok h.items && is_source h.source

reads_items : {levels : ℕ} → Reads levels Grammar.items (Passes items_ok)
unfolding Grammar.items
reads_items = reads_either (reads_as {f = λ _. None} (Passes items_ok) reads_any (λ b x l p. (refl, p))) (as_passes {f = Some} items_ok (λ x p. p) (reads_64 reads_item))

reads_head : {levels : ℕ} → Reads levels Grammar.head (Passes is_head)
unfolding Grammar.head
reads_head =
    as_passes {f = λ x. Grammar.head_of x.0 x.1} is_head (λ x p. p)
    (passes_both (reads_before (passes_later items_ok) (reads_behind (passes_earlier items_ok) reads_any reads_items) reads_any) reads_source)

-- at most 64 members
abbrev up_64 : {A : Type 0} → (A → Bool) → List A → Bool
up_64 is xs = nat_le (length xs) 64 && list_all is xs

no_more : {A : Type 0} (is : A → Bool) (xs : List A) → are_64 is xs ≡ true → up_64 is xs ≡ true
no_more is xs p =
    let (n, all) = both_parts (is_between 1 64 (length xs)) (list_all is xs) p in
    both_true (nat_le (length xs) 64) (list_all is xs) (both_parts (nat_le 1 (length xs)) (nat_le (length xs) 64) n).1 all

reads_optional : {A : Type 0} {levels : ℕ} {g : Form (List A)} (is : A → Bool) → Reads levels g (Passes (are_64 is)) → Reads levels (optional g) (Passes (up_64 is))
reads_optional {A} {levels} {g} is part = reads_either (weaker (no_more is) part) (reads_nothing (Passes (up_64 is)) (λ b. (refl, omega arith)))

reads_groups : {levels : ℕ} → Reads levels Grammar.group_clause (Passes (up_64 are_names))
unfolding Grammar.group_clause
reads_groups = reads_optional are_names (reads_behind (passes_earlier (are_64 are_names)) (reads_behind (λ b m y l more p. omega arith) reads_any reads_any) (reads_64 reads_reference))

reads_order_by : {levels : ℕ} → Reads levels Grammar.order_by (Passes is_key_by)
unfolding Grammar.order_by
reads_order_by = reads_either (reads_as {f = ByNumber} (Passes is_key_by) reads_any (λ b x l p. (refl, p))) (as_passes {f = ByName} is_key_by (λ x p. p) reads_name)

reads_direction : {levels : ℕ} → Reads levels Grammar.direction (Passes (λ _. true))
unfolding Grammar.direction
reads_direction =
    reads_either (anything (reads_as Any reads_any (λ b x l p. p)))
    (reads_either (anything (reads_as Any reads_any (λ b x l p. p))) (reads_nothing (Passes (λ _. true)) (λ b. (refl, omega arith))))

reads_order_key : {levels : ℕ} → Reads levels Grammar.order_key (Passes is_key)
unfolding Grammar.order_key
reads_order_key = as_passes {f = λ x. Grammar.order_key_of x.0 x.1} is_key (λ x p. (both_parts (is_key_by x.0) true p).0) (passes_both reads_order_by reads_direction)

reads_order : {levels : ℕ} → Reads levels Grammar.order_clause (Passes (up_64 is_key))
unfolding Grammar.order_clause
reads_order = reads_optional is_key (reads_behind (passes_earlier (are_64 is_key)) (reads_behind (λ b m y l more p. omega arith) reads_any reads_any) (reads_64 reads_order_key))

reads_limit : {levels : ℕ} → Reads levels Grammar.limit_clause (Passes (if_any (λ _. true)))
unfolding Grammar.limit_clause
reads_limit = reads_maybe (reads_behind (passes_earlier (λ _. true)) reads_any (anything reads_any))

abbrev is_tail : Tail → Bool
is_tail t = up_64 is_key t.order

reads_tail : {levels : ℕ} → Reads levels Grammar.tail (Passes is_tail)
unfolding Grammar.tail
reads_tail = as_passes {f = λ x. Grammar.tail_of x.0 x.1} is_tail (λ x p. (both_parts (up_64 is_key x.0) (if_any (λ _. true) x.1) p).0) (passes_both reads_order reads_limit)

abbrev joins_ok : List Join → Bool
joins_ok joins = nat_le (length joins) 3 && list_all is_join joins

reads_joins : {levels : ℕ} → Reads levels Grammar.joins (Passes joins_ok)
unfolding Grammar.joins
reads_joins {levels} = let few : Reads levels (many (Some 3) None Grammar.join) (Members is_join (Some 3)) = reads_members reads_join in record {
  holds = λ b ts x l rest all e. let (p, more) = few.holds b ts x l rest all e in ((both_true (nat_le (length x) 3) (list_all is_join x) (le-leb (length x) 3 p.1) p.0, p.2), more);
}

-- behind the tables come a condition and groups, and no groups behind a JOIN
abbrev rest_ok : List Join → Option Expr → List Ref → Bool
rest_ok joins filter groups = is_filter filter && up_64 are_names groups && (is_empty joins || is_empty groups)

abbrev is_body : Body → Bool
is_body body = joins_ok body.joins && rest_ok body.joins body.filter body.groups

or_right : (a : Bool) → a || true ≡ true
or_right true = refl
or_right false = refl

reads_grouped : {levels : ℕ} → Reads levels Grammar.grouped (Passes (λ x. is_filter x.0 && up_64 are_names x.1))
unfolding Grammar.grouped
reads_grouped = passes_both reads_where reads_groups

reads_ungrouped : {levels : ℕ} (joins : List Join) → Reads levels Grammar.ungrouped (Passes (λ x. rest_ok joins x.0 x.1))
unfolding Grammar.ungrouped
reads_ungrouped joins =
    as_passes {f = λ filter. (filter, [])} (λ x. rest_ok joins x.0 x.1)
    (λ x p. both_true (is_filter x && true) (is_empty joins || true) (both_true (is_filter x) true p refl) (or_right (is_empty joins))) reads_where

alone_rest : (joins : List Join) → Grammar.no_joins joins ≡ true → (x : Option Expr × List Ref) → is_filter x.0 && up_64 are_names x.1 ≡ true → rest_ok joins x.0 x.1 ≡ true
alone_rest [] none x p = both_true (is_filter x.0 && up_64 are_names x.1) true p refl
alone_rest (j ∷ js) none x p = absurd cc

reads_body : {levels : ℕ} → Reads levels Grammar.body (Passes is_body)
unfolding Grammar.body
reads_body =
    as_passes {f = λ x. Grammar.body_of x.0 x.1.0 x.1.1} is_body (λ x p. p)
    (reads_forked (λ joins. Passes (λ x. rest_ok joins x.0 x.1)) (Passes (λ x. joins_ok x.0 && rest_ok x.0 x.1.0 x.1.1)) reads_joins
    (λ joins none. weaker (alone_rest joins none) reads_grouped) (λ joins some. reads_ungrouped joins)
    (λ b x m y l p q. (both_true (joins_ok x) (rest_ok x y.0 y.1) p.0 q.0, omega (arith, p.1, q.1))))

reads_body_behind_aggregate : {levels : ℕ} → Reads levels Grammar.body_behind_aggregate (Passes (λ body. is_body body && is_empty body.joins))
unfolding Grammar.body_behind_aggregate
reads_body_behind_aggregate =
    as_passes {f = λ x. Grammar.body_of [] x.0 x.1} (λ body. is_body body && is_empty body.joins)
    (λ x p. both_true (rest_ok [] x.0 x.1) true (both_true (is_filter x.0 && up_64 are_names x.1) true p refl) refl) reads_grouped

-- behind an aggregate there is one table
abbrev goes_with : Head → Body → Bool
goes_with h body = is_body body && (is_empty body.joins || not (Grammar.has_aggregate h.items))

with_aggregate : (h : Head) (body : Body) → is_body body && is_empty body.joins ≡ true → goes_with h body ≡ true
with_aggregate h body p = let (is, none) = both_parts (is_body body) (is_empty body.joins) p in both_true (is_body body) (is_empty body.joins || not (Grammar.has_aggregate h.items)) is (or_first (is_empty body.joins) (not (Grammar.has_aggregate h.items)) none)

without_aggregate : (h : Head) → Grammar.has_aggregate h.items ≡ false → (body : Body) → is_body body ≡ true → goes_with h body ≡ true
without_aggregate h none body is = both_true (is_body body) (is_empty body.joins || not (Grammar.has_aggregate h.items)) is (or_second (is_empty body.joins) (not (Grammar.has_aggregate h.items)) (ap not none))

as_long : {A B : Type 0} (f : A → B) (xs : List A) → length (map f xs) ≡ length xs
as_long f [] = refl
as_long f (x ∷ xs) = ap suc (as_long f xs)

join_sources : (joins : List Join) → list_all is_join joins ≡ true → list_all is_source (map (λ j. j.source) joins) ≡ true
join_sources [] all = refl
join_sources (j ∷ js) all =
    let (this, those) = both_parts (is_join j) (list_all is_join js) all in
    both_true (is_source j.source) (list_all is_source (map (λ j. j.source) js)) (both_parts (is_source j.source) (is_on j.on) this).0 (join_sources js those)

join_ons : (joins : List Join) → list_all is_join joins ≡ true → list_all is_on (map (λ j. j.on) joins) ≡ true
join_ons [] all = refl
join_ons (j ∷ js) all =
    let (this, those) = both_parts (is_join j) (list_all is_join js) all in
    both_true (is_on j.on) (list_all is_on (map (λ j. j.on) js)) (both_parts (is_source j.source) (is_on j.on) this).1 (join_ons js those)

item_count : (items : Option (List Item)) → items_ok items ≡ true → (if is_none items then is_empty (Grammar.items_of items) else is_between 1 64 (length (Grammar.items_of items))) ≡ true
item_count None ok = refl
item_count (Some items) ok = (both_parts (is_between 1 64 (length items)) (list_all is_item items) ok).0

each_item : (items : Option (List Item)) → items_ok items ≡ true → list_all is_item (Grammar.items_of items) ≡ true
each_item None ok = refl
each_item (Some items) ok = (both_parts (is_between 1 64 (length items)) (list_all is_item items) ok).1

no_aggregate : (items : Option (List Item)) → not (Grammar.has_aggregate items) ≡ true → list_any is_aggregate (Grammar.items_of items) ≡ false
no_aggregate None none = refl
no_aggregate (Some items) none = is_false (list_any is_aggregate items) none

one_table : (joins : List Join) (groups : List Ref) (items : Option (List Item)) → is_empty joins || is_empty groups ≡ true → is_empty joins || not (Grammar.has_aggregate items) ≡ true
    → nat_le (suc (length (map (λ j. j.source) joins))) 1 || not (not (is_empty groups) || list_any is_aggregate (Grammar.items_of items)) ≡ true
one_table [] groups items g a = refl
one_table (j ∷ js) [] items g a = or_second (nat_le (suc (suc (length (map (λ j'. j'.source) js)))) 1) (not (list_any is_aggregate (Grammar.items_of items))) (ap not (no_aggregate items a))
one_table (j ∷ js) (r ∷ groups) items g a = absurd cc

some_tables : (joins : List Join) → nat_le (length joins) 3 ≡ true → is_between 1 4 (suc (length (map (λ j. j.source) joins))) && length (map (λ j. j.on) joins) == suc (length (map (λ j. j.source) joins)) - 1 ≡ true
some_tables joins few =
    let tables = length (map (λ j. j.source) joins) in
    let ons = length (map (λ j. j.on) joins) in
    let most = leb-true (length joins) 3 few in
    let many_tables = as_long (λ j. j.source) joins in
    let many_ons = as_long (λ j. j.on) joins in
    both_true (is_between 1 4 (suc tables)) (ons == suc tables - 1)
    (both_true (nat_le 1 (suc tables)) (nat_le (suc tables) 4) (le-leb 1 (suc tables) (omega arith)) (le-leb (suc tables) 4 (omega (arith, most, many_tables))))
    (eq-eqb ons (suc tables - 1) (omega (arith, many_tables, many_ons)))

bounds : (h : Head) (body : Body) (t : Tail) → nat_le (length body.joins) 3 ≡ true → items_ok h.items ≡ true → nat_le (length body.groups) 64 ≡ true → nat_le (length t.order) 64 ≡ true
    → is_empty body.joins || is_empty body.groups ≡ true → is_empty body.joins || not (Grammar.has_aggregate h.items) ≡ true → has_bounds (Grammar.query_of h body t) ≡ true
bounds h body t few items groups order g a =
    let q = Grammar.query_of h body t in
    let tables = is_between 1 4 (length q.sources) && length q.ons == length q.sources - 1 in
    both_true (tables && has_item_count q && nat_le (length q.groups) 64 && nat_le (length q.order) 64) (groups_one_table q)
    (both_true (tables && has_item_count q && nat_le (length q.groups) 64) (nat_le (length q.order) 64)
    (both_true (tables && has_item_count q) (nat_le (length q.groups) 64) (both_true tables (has_item_count q) (some_tables body.joins few) (item_count h.items items)) groups) order)
    (one_table body.joins body.groups h.items g a)

select_form : (h : Head) (body : Body) (t : Tail) → is_head h && goes_with h body ≡ true → is_tail t ≡ true → is_select (Grammar.query_of h body t) ≡ true
select_form h body t p o =
    let (head, goes) = both_parts (is_head h) (goes_with h body) p in
    let (items, source) = both_parts (items_ok h.items) (is_source h.source) head in
    let (is, a) = both_parts (is_body body) (is_empty body.joins || not (Grammar.has_aggregate h.items)) goes in
    let (joins, rest) = both_parts (joins_ok body.joins) (rest_ok body.joins body.filter body.groups) is in
    let (few, all) = both_parts (nat_le (length body.joins) 3) (list_all is_join body.joins) joins in
    let (fg, g) = both_parts (is_filter body.filter && up_64 are_names body.groups) (is_empty body.joins || is_empty body.groups) rest in
    let (f, groups) = both_parts (is_filter body.filter) (up_64 are_names body.groups) fg in
    let (groups_few, groups_all) = both_parts (nat_le (length body.groups) 64) (list_all are_names body.groups) groups in
    let (order_few, order_all) = both_parts (nat_le (length t.order) 64) (list_all is_key t.order) o in
    let q = Grammar.query_of h body t in
    both_true (has_bounds q && list_all is_item q.items && list_all is_source q.sources && list_all is_on q.ons && is_filter q.filter && list_all are_names q.groups) (list_all is_key q.order)
    (both_true (has_bounds q && list_all is_item q.items && list_all is_source q.sources && list_all is_on q.ons && is_filter q.filter) (list_all are_names q.groups)
    (both_true (has_bounds q && list_all is_item q.items && list_all is_source q.sources && list_all is_on q.ons) (is_filter q.filter)
    (both_true (has_bounds q && list_all is_item q.items && list_all is_source q.sources) (list_all is_on q.ons)
    (both_true (has_bounds q && list_all is_item q.items) (list_all is_source q.sources)
    (both_true (has_bounds q) (list_all is_item q.items) (bounds h body t few items groups_few order_few g a) (each_item h.items items))
    (both_true (is_source h.source) (list_all is_source (map (λ j. j.source) body.joins)) source (join_sources body.joins all)))
    (join_ons body.joins all)) f) groups_all) order_all

reads_select : {levels : ℕ} → Reads levels Grammar.select (Passes is_ready)
unfolding Grammar.select
reads_select =
    as_passes {f = λ x. Select (Grammar.query_of x.0.0 x.0.1 x.1)} is_ready
    (λ x p. let (hb, t) = both_parts (is_head x.0.0 && goes_with x.0.0 x.0.1) (is_tail x.1) p in select_form x.0.0 x.0.1 x.1 hb t)
    (passes_both
    (reads_forked (λ h. Passes (goes_with h)) (Passes (λ x. is_head x.0 && goes_with x.0 x.1)) reads_head (λ h some. weaker (with_aggregate h) reads_body_behind_aggregate)
    (λ h none. weaker (without_aggregate h none) reads_body) (λ b x m y l p q. (both_true (is_head x) (goes_with x y) p.0 q.0, omega (arith, p.1, q.1)))) reads_tail)

-- transactions

-- a statement that has no parts
reads_bare : {A : Type 0} {levels : ℕ} {g : Form A} (x : Statement) → is_ready x ≡ true → Reads levels g Any → Reads levels (as_ (λ _. x) g) (Passes is_ready)
reads_bare {A} {levels} {g} x ready part = reads_as {f = λ _. x} (Passes is_ready) part (λ b y l p. (ready, p))

reads_begin : {levels : ℕ} → Reads levels Grammar.begin (Passes is_ready)
unfolding Grammar.begin
reads_begin = reads_bare Begin refl (reads_behind (λ b m y l more p. omega arith) reads_any (anything_at (reads_maybe (anything reads_any))))

reads_commit : {levels : ℕ} → Reads levels Grammar.commit (Passes is_ready)
unfolding Grammar.commit
reads_commit = reads_bare Commit refl reads_any

reads_roll_back : {levels : ℕ} → Reads levels Grammar.roll_back (Passes is_ready)
unfolding Grammar.roll_back
reads_roll_back = reads_bare RollBack refl reads_any

reads_transaction : {levels : ℕ} → Reads levels Grammar.transaction (Passes is_ready)
unfolding Grammar.transaction
reads_transaction = reads_either reads_begin (reads_either reads_commit reads_roll_back)

-- each statement is of these kinds and in form
pub reads_statement : {levels : ℕ} → Reads levels Grammar.statement (Passes is_ready)
unfolding Grammar.statement
reads_statement = reads_either reads_create (reads_either reads_insert (reads_either reads_select (reads_either reads_update (reads_either reads_delete reads_transaction))))
