-- The faults noted behind one more assignment.
use Rattle.std.proofs.Common.{◌≡◌, ℕ, ◌+◌, ◌<◌, Bool, true, false, ◌&&◌, IsTrue, List, get_or, length, drop, sym, ◌∙◌, subst}
use Rattle.std.proofs.lemmas.List.{at_drop_more}
use Rattle.std.specs.List.{list_all}
use Rattle.sql_model.specs.declared.scopes.Heading.{Heading}
use Rattle.sql_model.specs.declared.statements.Set.{Set}
use Rattle.sql_model.specs.Form.{is_set}
use Rattle.sql_model.specs.Mentions.{in_set, in_sets}
use Rattle.sql_model.specs.Scopes.{TableSchemas}
use Rattle.sql_binder.specs.declared.faults.NameFaults.{NameFaults}
use Rattle.sql_binder.specs.Noting.{noted}

pub noted_set : (s : TableSchemas) (scope : List Heading) (sets : List Set) (place : ℕ) (set : Set) (later : List Set) (f new first : NameFaults)
    → place < length sets → set ≡ get_or sets place set → later ≡ drop (place + 1) sets → new ≡ noted s f (in_set scope set later)
    → noted s f (in_sets scope (drop place sets)) ≡ noted s first (in_sets scope sets)
    → noted s new (in_sets scope (drop (place + 1) sets)) ≡ noted s first (in_sets scope sets)
noted_set s scope sets place set later f new first more is behind e told =
    (λ i. noted s (e i) (in_sets scope (drop (place + 1) sets)))
    ∙ (λ i. noted s (noted s f (in_set scope (is i) (behind i))) (in_sets scope (drop (place + 1) sets)))
    ∙ sym (at_drop_more (λ xs. noted s f (in_sets scope xs)) sets place set more)
    ∙ told

second : (a b : Bool) → IsTrue (a && b) → IsTrue b
second true b h = h
second false b h = cc

pub form_behind : (sets : List Set) (place : ℕ) (set : Set) → place < length sets → IsTrue (list_all is_set (drop place sets)) → IsTrue (list_all is_set (drop (place + 1) sets))
form_behind sets place set more form = second (is_set (get_or sets place set)) (list_all is_set (drop (place + 1) sets)) (subst IsTrue (at_drop_more (list_all is_set) sets place set more) form)
