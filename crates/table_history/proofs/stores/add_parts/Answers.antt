use Rattle.std.proofs.Common.{◌≡◌, ◌+◌, ◌∙◌, ◌∷◌, [], ℕ, List, ap, refl, sym, map, arith, subst}
use Rattle.sql_model.specs.declared.changes.Added.{Added}
use Rattle.table_history.specs.Histories.{has_spare_rows, rows_for}
use Rattle.table_history.specs.Stores.{Stored, HaveOwnNames, grown_store, grown_stores, spare_at, stored}
use Rattle.table_history.proofs.PlaceLemmas.{room_weaker}
use Rattle.table_history.proofs.StoreLemmas.{own_kept, rows_more}
use Rattle.table_history.proofs.stores.add_parts.Goals as goal

pub add_part-requires-clause-room : goal.add_part-requires-clause-room
add_part-requires-clause-room c = λ name.
    let spares = map spare_at c.loop-part.stores.items in
    let part = c.in-Some.part in
    let rest = c.next.new.self.rest.items in
    let is = ap (rows_for name) c.in-Some.ensures.steps.0 ∙ rows_more name part rest in
    room_weaker spares name (rows_for name rest) (rows_for name (part ∷ [])) (ap (has_spare_rows spares name) (sym is) ∙ c.loop-part.invariant.room name)

pub loop-part-preserved : goal.loop-part-preserved
loop-part-preserved c =
    let h = c.loop-part.invariant in
    let seq = c.args.seq in
    let spares = map spare_at c.loop-part.stores.items in
    let olds = map stored c.loop-part.stores.items in
    let part = c.in-Some.part in
    let rest = c.next.new.self.rest.items in
    let split = c.in-Some.ensures.steps.0 in
    let count : (name : List ℕ) → rows_for name c.loop-part.part-iterator.rest.items ≡ rows_for name (part ∷ []) + rows_for name rest =
    λ name. ap (rows_for name) split ∙ rows_more name part rest ∙ swap (rows_for name rest) (rows_for name (part ∷ [])) in
    record {
      done = ap (grown_stores seq rest) c.add_part.ensures.stores ∙ ap (λ (as_ : List Added). grown_stores seq as_ olds) (sym split) ∙ h.done;
      own_names = let P : List Stored → Type 0 = λ ss. HaveOwnNames ss in subst P (sym c.add_part.ensures.stores) (own_kept (grown_store seq part) (λ s. refl) olds h.own_names);
      room = λ name. c.add_part.ensures.room name (rows_for name rest) (ap (has_spare_rows spares name) (sym (count name)) ∙ h.room name);
      left = λ name rows room. c.add_part.ensures.room name (rows_for name rest + rows)
          (ap (has_spare_rows spares name) (sym (ap (λ (n : ℕ). n + rows) (count name) ∙ assoc (rows_for name (part ∷ [])) (rows_for name rest) rows)) ∙ h.left name rows room);
    }
  where
    swap : (m n : ℕ) → m + n ≡ n + m
    swap m n = omega arith

    assoc : (m n k : ℕ) → (m + n) + k ≡ m + (n + k)
    assoc m n k = omega arith
