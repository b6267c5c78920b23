-- What a bound statement may answer and change.
use Rattle.std.proofs.Common.{◌≡◌, ℕ, ◌+◌, Bool, true, false, ◌&&◌, List, [], ◌∷◌, Ok, Err, None, Some, Option, filter, length, map, refl, sym, ap, ◌∙◌, subst, if◌then◌else◌}
use Rattle.std.specs.Prelude.{Result, IsSomeAnd}
use Rattle.std.specs.List.{AllByRecursion}
use Rattle.std.specs.Ordering.{is_gt}
use Rattle.std.specs.declared.cmp.Ordering.{Ordering}
use Rattle.std.proofs.lemmas.List.Elements.{All-nil}
use Rattle.lake_values.specs.Order.{row_cmp}
use Rattle.lake_values.specs.Schemas.{AllDistinct}
use Rattle.lake_values.specs.declared.values.Value.{Value}
use Rattle.sql_model.specs.declared.bound.Bound.{Bound}
use Rattle.sql_model.specs.declared.bound.Bound.TheVariants.{Select, Insert, Update, Delete, Named}
use Rattle.sql_model.specs.declared.changes.Change.{Change}
use Rattle.sql_model.specs.declared.replies.Refusal.{Refusal}
use Rattle.sql_model.specs.declared.replies.Reply.{Reply}
use Rattle.sql_model.specs.declared.replies.Reply.TheVariants as reply
use Rattle.sql_model.specs.declared.replies.Verb.{Verb}
use Rattle.sql_model.specs.declared.replies.Verb.TheVariants.{Inserted, Updated, Deleted}
use Rattle.sql_model.specs.Listing.{listed, placed}
use Rattle.lake_model.specs.Allowed.{ChangesByReply, IsOwnChange}
use Rattle.lake_model.specs.Laws.{ChangesAreParts}
use Rattle.lake_model.specs.State.{Transaction, parts_of, transaction, view}
use Rattle.sql_model.specs.BoundForms.{reads_or_changes}
use Rattle.sql_model.specs.Changes.{no_change, is_nil, is_unchanged, addition, change_of}
use Rattle.sql_model.specs.Query.{plain}
use Rattle.sql_model.specs.Versions.{Tables, marked_rows_of, rows_of}
use Rattle.sql_model.specs.Writing as writing
use Rattle.sql_model.proofs.Removal.{nothing_part, matched_part}

-- which effect an answer without a refusal is

pub ok_same : {X Y : Type 0} {x y : X} → ◌≡◌ {A = Result X Y} (Ok x) (Ok y) → x ≡ y
ok_same e = cc

pub fits_made : (fits : Bool) {e made : writing.Effect} → writing.if_fits fits e ≡ Ok made → (fits ≡ true) × (e ≡ made)
fits_made true is = (refl, ok_same is)
fits_made false is = absurd cc

pub query_made : (rows : Result (List (List Value)) Refusal) {made : writing.Effect} → writing.queried rows ≡ Ok made → (answer : List (List Value)) × ((reply.Rows answer, no_change) ≡ made)
query_made (Ok rows) is = (rows, ok_same is)
query_made (Err refusal) is = absurd cc

-- what holds of each kind of effect holds of the effect of each statement that reads or changes rows
module _ (version : Tables) (part : ℕ) (P : writing.Effect → Type 0)
    (of_query : (rows : List (List Value)) → P (reply.Rows rows, no_change))
    (of_insert : (table : List ℕ) (rows : List (List Value)) → P (writing.wrote Inserted (length rows), change_of table part [] rows))
    (of_matched : (verb : Verb) (count : ℕ) (table : List ℕ) (p : List Value → Bool) (added : List (List Value)) → P (writing.wrote verb count, change_of table part (filter (λ m. p m.row) (marked_rows_of table version)) added)) where
  pub each_effect : (form : Bound) (made : writing.Effect) → reads_or_changes form ≡ true → writing.effect_of form version part ≡ Ok made → P made
  each_effect (Select q) made reads is = let answered = query_made (plain q (rows_of version)) is in subst P answered.1 (of_query answered.0)
  each_effect (Insert table rows column) made reads is = subst P (ok_same is) (of_insert table rows)
  each_effect (Update table guards computed items column) made reads is =
      let rows = marked_rows_of table version in
      let old = writing.matched guards computed rows in
      subst P (fits_made (writing.conditions_fit guards computed rows && writing.values_fit items old) is).1
      (of_matched Updated (length old) table (writing.is_matched guards computed) (writing.updated items old))
  each_effect (Delete table guards computed) made reads is =
      let rows = marked_rows_of table version in
      subst P (fits_made (writing.conditions_fit guards computed rows) is).1
      (of_matched Deleted (length (writing.matched guards computed rows)) table (writing.is_matched guards computed) [])
  each_effect (Named table) made reads is = absurd cc

-- a statement removes rows that are there, and adds rows as its part, once or not at all

own_part : (table : List ℕ) (part : ℕ) (rows : List (List Value)) → AllByRecursion (λ a. a.part ≡ part) (addition table part rows)
own_part table part [] = tt
own_part table part (row ∷ rows) = (refl, tt)

added_once : (table : List ℕ) (part : ℕ) (rows : List (List Value)) → AllDistinct (map (λ a. a.table) (addition table part rows))
added_once table part [] = tt
added_once table part (row ∷ rows) = (All-nil _, tt)

some_placed : {X : Type 0} (cmp : X → X → Ordering) (x : X) (xs : List X) → is_nil (placed cmp x xs) ≡ false
some_placed cmp x [] = refl
some_placed cmp x (y ∷ ys) =
    elim (is_gt (cmp x y)) as (λ b. is_nil (if b then y ∷ placed cmp x ys else x ∷ y ∷ ys) ≡ false) [ true ↦ refl | false ↦ refl ]

some_added : (table : List ℕ) (part : ℕ) (rows : List (List Value)) → AllByRecursion (λ a. is_nil a.rows ≡ false) (addition table part rows)
some_added table part [] = tt
some_added table part (row ∷ rows) = (some_placed row_cmp row (listed rows), tt)

-- what a statement that reads or changes rows answers and changes, its transaction may
pub own_change : (form : Bound) (version : Tables) (t : Transaction) (said : Reply) (change : Change) → reads_or_changes form ≡ true →
    writing.effect_of form version (t.parts + 1) ≡ Ok (said, change)
    → IsOwnChange true version said change t
own_change form version t said change reads is =
    each_effect version (t.parts + 1) (λ e. IsOwnChange true version e.0 e.1 t)
    (λ rows. record { removes = nothing_part version; adds = tt; once = tt; filled = tt; replies = refl })
    (λ table rows. record {
      removes = nothing_part version;
      adds = own_part table (t.parts + 1) rows;
      once = added_once table (t.parts + 1) rows;
      filled = some_added table (t.parts + 1) rows;
      replies = tt;
    })
    (λ verb count table p added. record {
      removes = matched_part p table version;
      adds = own_part table (t.parts + 1) added;
      once = added_once table (t.parts + 1) added;
      filled = some_added table (t.parts + 1) added;
      replies = tt;
    })
    form (said, change) reads is

-- a change is a part of its transaction

pub changed_part : (said : Reply) (change : Change) → ChangesByReply said change → is_unchanged change ≡ false → parts_of said ≡ 1
changed_part (reply.Wrote verb count None) change replies changed = refl
changed_part (reply.Wrote verb count (Some seq)) change replies changed = absurd replies
changed_part (reply.Rows rows) change replies changed = let same : true ≡ false = sym (ap is_unchanged replies) ∙ changed in absurd cc
changed_part said change replies changed = absurd replies

part_of_change : (told : Bool) (seen : Tables) (said : Reply) (change : Change)
    (o : Option Transaction) → IsSomeAnd o (IsOwnChange told seen said change)
    → is_unchanged change ≡ false → parts_of said ≡ 1
part_of_change told seen said change None may changed = absurd may
part_of_change told seen said change (Some t) may changed =
    changed_part said change may.replies changed

pub changes_are_parts : ChangesAreParts
changes_are_parts st session said change may changed =
    part_of_change true (view st session).tables said change (transaction st session) may changed
