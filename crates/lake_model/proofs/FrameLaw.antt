-- What another session does leaves a session's transaction and what it sees.
use Rattle.std.proofs.Common.{◌≡◌, ◌≢◌, ℕ, ◌+◌, Bool, true, false, not, ◌&&◌, nat_eq, ne_eqb, cond, List, [], ◌∷◌, None, Some, Option, filter, refl, sym, ap, ◌∙◌, if◌then◌else◌}
use Rattle.std.proofs.lemmas.Bool.{eqb-true}
use Rattle.std.specs.Option.{option_map_or}
use Rattle.lake_values.specs.declared.names.Name.{Name}
use Rattle.sql_model.specs.declared.changes.Change.{Change}
use Rattle.lake_model.specs.declared.entries.Fact.{Fact}
use Rattle.lake_model.specs.declared.entries.Fact.TheVariants.{Created, Began, Ran, Committed, Conflict, Ended, RolledBack, Refused, Failed, Compacted, Checkpointed, Collected}
use Rattle.sql_model.specs.declared.replies.Reply.{Reply}
use Rattle.sql_model.specs.Changes.{version_after}
use Rattle.lake_model.specs.Laws.{IsSound, ViewsStay}
use Rattle.lake_model.specs.State.{State, Noted, Transaction, last, newest, opened_by, transaction, with_version, with_part, turned, ended, view_of, after_fact, after, state}
use Rattle.sql_model.specs.Versions.{Version, empty_version}
use Rattle.lake_model.proofs.Growth.{after_grown, version_kept}
use Rattle.lake_model.proofs.Sound.{snapshot_below, states_are_sound}

module _ (other session : ℕ) (differ : other ≢ session) where
  no_match : nat_eq other session ≡ false
  no_match = ne_eqb other session differ

  opened_filtered : (os : List (ℕ × Transaction)) → opened_by session (filter (λ o. not (nat_eq o.0 other)) os) ≡ opened_by session os
  opened_filtered [] = refl
  opened_filtered (o ∷ os) =
      elim (nat_eq o.0 other) as (λ b. nat_eq o.0 other ≡ b → opened_by session (cond (not b) (o ∷ filter (λ o. not (nat_eq o.0 other)) os) (filter (λ o. not (nat_eq o.0 other)) os)) ≡ opened_by session (o ∷ os)) [
        | true ↦ λ e. opened_filtered os ∙ sym (ap (λ (b : Bool). if b then Some o.1 else opened_by session os) (ap (λ (n : ℕ). nat_eq n session) (eqb-true o.0 other e) ∙ no_match))
        | false ↦ λ e. ap (λ (u : Option Transaction). if nat_eq o.0 session then Some o.1 else u) (opened_filtered os)
      ] refl

  ended_frame : (st : State) → transaction (ended other st) session ≡ transaction st session
  ended_frame st = opened_filtered st.running

  turned_frame : (t : Transaction) (st : State) → transaction (turned other t st) session ≡ transaction st session
  turned_frame t st = ap (λ (b : Bool). if b then Some t else transaction (ended other st) session) no_match ∙ ended_frame st

  ran_frame : (reply : Reply) (change : Change) (st : State) (o : Option Transaction)
      → transaction (option_map_or (λ t. turned other (with_part reply change t) st) o st) session ≡ transaction st session
  ran_frame reply change st None = refl
  ran_frame reply change st (Some t) = turned_frame (with_part reply change t) st

  commit_frame : (dropped added : List Name) (st : State) (o : Option Transaction)
      → transaction (option_map_or (λ t. ended other (with_version (version_after (last st + 1) t.pending t.worn (newest st)) dropped added st)) o st) session ≡ transaction st session
  commit_frame dropped added st None = refl
  commit_frame dropped added st (Some t) = ended_frame st

  part_frame : (t : Transaction) (st : State) (stays : Bool)
      → transaction (if stays then turned other (record t { parts = t.parts + 1 }) st else ended other st) session ≡ transaction st session
  part_frame t st true = turned_frame (record t { parts = t.parts + 1 }) st
  part_frame t st false = ended_frame st

  stop_frame : (ends : Bool) (st : State) (o : Option Transaction)
      → transaction (option_map_or (λ t. if t.explicit && not ends then turned other (record t { parts = t.parts + 1 }) st else ended other st) o st) session ≡ transaction st session
  stop_frame ends st None = refl
  stop_frame ends st (Some t) = part_frame t st (t.explicit && not ends)

  fact_frame : (ends : Bool) (f : Fact) (st : State) → transaction (after_fact other ends f st) session ≡ transaction st session
  fact_frame ends (Created table schema seq) st = refl
  fact_frame ends (Began explicit txn snapshot) st = turned_frame _ st
  fact_frame ends (Ran reply change) st = ran_frame reply change st (transaction st other)
  fact_frame ends (Committed seq added dropped) st = commit_frame dropped added st (transaction st other)
  fact_frame ends (Conflict seq) st = ended_frame st
  fact_frame ends Ended st = ended_frame st
  fact_frame ends RolledBack st = ended_frame st
  fact_frame ends (Refused cause) st = stop_frame false st (transaction st other)
  fact_frame ends (Failed cause) st = stop_frame ends st (transaction st other)
  fact_frame ends (Compacted table cells marks seq added dropped) st = ended_frame st
  fact_frame ends (Checkpointed table at name) st = ended_frame st
  fact_frame ends (Collected names floor) st = refl

-- what a transaction sees, or no table without one
seen_at : State → Option Transaction → Version
seen_at st o = option_map_or (view_of st) o empty_version

seen_kept : (st : State) (e : Noted) (session : ℕ) → IsSound st → (o : Option Transaction) → transaction st session ≡ o → seen_at (after st e) o ≡ seen_at st o
unfolding seen_at
seen_kept st e session sound None is = refl
seen_kept st e session sound (Some t) is =
    ap (version_after 0 t.pending t.worn)
    (version_kept st (after st e) (after_grown st e) t.snapshot
    (snapshot_below st session t sound is))

pub views_stay : ViewsStay
unfolding seen_at
views_stay entries e session legal differ =
    let st = state entries in
    let same : transaction (after st e) session ≡ transaction st session = fact_frame e.entry.session session differ e.ends e.entry.fact st in
    record {
      transaction = same;
      view = ap (seen_at (after st e)) same ∙ seen_kept st e session (states_are_sound entries legal) (transaction st session) refl;
    }
