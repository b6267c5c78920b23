-- The parts of a standing that rest on no book, and what an entry makes of a chronicle.
use Rattle.std.proofs.Common.{◌≡◌, ℕ, Bool, true, false, nat_eq, List, [], ◌∷◌, ◌++◌}
use Rattle.std.proofs.Common.{arith, refl, sym, ap, ◌∙◌, subst, if◌then◌else◌}
use Rattle.std.specs.Prelude.{◌≤◌}
use Rattle.std.specs.List.{AllByRecursion}
use Rattle.sql_model.specs.declared.changes.Change.{Change}
use Rattle.sql_model.specs.declared.replies.Reply.{Reply}
use Rattle.lake_model.specs.declared.entries.Fact.{Fact}
use Rattle.lake_model.specs.declared.entries.Fact.TheVariants.{Created, Began, Ran, Committed}
use Rattle.lake_model.specs.declared.entries.Fact.TheVariants.{Conflict, Ended, RolledBack, Refused}
use Rattle.lake_model.specs.declared.entries.Fact.TheVariants.{Failed, Compacted, Checkpointed}
use Rattle.lake_model.specs.declared.entries.Fact.TheVariants.{Collected}
use Rattle.lake_model.specs.Allowed.{IsAllowedFact, IsLegal, IsLegalFrom}
use Rattle.lake_model.specs.Laws.{IsSound}
use Rattle.lake_model.specs.State.{Noted, State, after, after_fact, last, opening, state}
use Rattle.lake_model.specs.State.{state_from}
use Rattle.lake_model.proofs.Sound.{sound_from, sound_opening}
use Rattle.write_set_catalog.specs.Catalogs.{Catalogue}
use Rattle.file_laws.specs.StandsLaws.{with_items}
use Rattle.file_laws.proofs.NameKept.{map_append}
use Rattle.file_laws.proofs.NoteLemmas.{flat_append}
use Rattle.file_laws.proofs.SoundLemmas.{state_next}
use Rattle.op_write.specs.Staging.{Written}
use Rattle.lake_laws.specs.Chronicles.{Beside, chronicle, items_written, own_after, own_from}
use Rattle.lake_laws.specs.Chronicles.{own_items, own_written, state_of}
use Rattle.lake_laws.specs.Laws.{ComesNext, LegalMore, after_entry}
use Rattle.lake_laws.specs.Standing.{IsStanding, RunningAgrees, TablesAgree}

-- what a catalogue has of a state
pub record HasState (c : Catalogue) (st : State) : Type 0 where
  pub tables : TablesAgree c st
  pub since : AllByRecursion (λ t. t.since ≤ c.last) c.tables
  pub running : RunningAgrees c st
  pub last : c.last ≡ last st
  pub number : c.last_number ≡ st.last_number
  pub floor : c.floor ≡ st.floor

pub state_had : (told : Bool) (c : Catalogue) (entries : List Beside) → IsStanding told c entries →
    HasState c (state_of entries)
state_had told c entries stands = record {
  tables = stands.tables;
  since = stands.since;
  running = stands.running;
  last = stands.last;
  number = stands.number;
  floor = stands.floor;
}

-- the chronicle and the state with an entry

pub chronicle_more : (entries : List Beside) (b : Beside) → chronicle (after_entry entries b) ≡
    chronicle entries ++ b.noted ∷ []
chronicle_more entries b = map_append (λ (b : Beside). b.noted) entries (b ∷ [])

pub state_more : (told : Bool) (entries : List Beside) (b : Beside) (f : Fact) → ComesNext told
    entries b f → state_of (after_entry entries b) ≡ after_fact b.noted.entry.session b.noted.ends f
    (state_of entries)
state_more told entries b f next =
    ap state (chronicle_more entries b) ∙ state_next (chronicle entries) b.noted ∙ ap
    (λ (f : Fact). after_fact b.noted.entry.session b.noted.ends f (state_of entries)) next.fact

legal_end : (told : Bool) (st : State) (xs : List Noted) (y : Noted) → IsLegalFrom told st xs →
    IsAllowedFact told (state_from st xs) y.entry.session y.entry.fact → IsLegalFrom told st
    (xs ++ y ∷ [])
legal_end told st [] y legal allowed = (allowed, tt)
legal_end told st (x ∷ xs) y legal allowed =
    (legal.0, legal_end told (after st x) xs y legal.1 allowed)

pub legal_noted : (told : Bool) (entries : List Beside) (b : Beside) (f : Fact) → IsLegal told
    (chronicle entries) → ComesNext told entries b f → IsLegal told
    (chronicle entries ++ b.noted ∷ [])
legal_noted told entries b f legal next =
    legal_end told opening (chronicle entries) b.noted legal (subst
    (λ (f : Fact). IsAllowedFact told (state_of entries) b.noted.entry.session f) (sym next.fact)
    next.allowed)

pub legal_more : LegalMore
legal_more told entries b f legal next =
    subst (IsLegal told) (sym (chronicle_more entries b))
    (legal_noted told entries b f legal next)

pub sound_of : (told : Bool) (c : Catalogue) (entries : List Beside) → IsStanding told c entries →
    IsSound (state_of entries)
sound_of told c entries stands =
    sound_from told opening (chronicle entries) sound_opening stands.noted.legal

-- what sessions' transactions wrote, with an entry

own_more : (session : ℕ) (own : List Written) (entries : List Beside) (b : Beside) → own_from
    session
    own (entries ++ b ∷ []) ≡ (if nat_eq b.noted.entry.session session then own_after
    (own_from session own entries) b.wrote b.noted.entry.fact else own_from session own entries)
own_more session own [] b = refl
own_more session own (e ∷ es) b =
    own_more session (if nat_eq e.noted.entry.session session then own_after own e.wrote
    e.noted.entry.fact else own) es b

-- nothing is written by an entry that isn't a beginning or a statement that ran
abbrev pub writes_none : Fact → Bool
writes_none (Created table schema seq) = true
writes_none (Began explicit txn snapshot) = false
writes_none (Ran reply change) = false
writes_none (Committed seq added dropped) = true
writes_none (Conflict seq) = true
writes_none Ended = true
writes_none RolledBack = true
writes_none (Refused cause) = true
writes_none (Failed cause) = true
writes_none (Compacted table cells marks seq added dropped) = true
writes_none (Checkpointed table at name) = true
writes_none (Collected names floor) = true

own_stays : (own wrote : List Written) (f : Fact) → writes_none f ≡ true → own_after own wrote f ≡
    own
own_stays own wrote (Created table schema seq) e = refl
own_stays own wrote (Began explicit txn snapshot) e = absurd cc
own_stays own wrote (Ran reply change) e = absurd cc
own_stays own wrote (Committed seq added dropped) e = refl
own_stays own wrote (Conflict seq) e = refl
own_stays own wrote Ended e = refl
own_stays own wrote RolledBack e = refl
own_stays own wrote (Refused cause) e = refl
own_stays own wrote (Failed cause) e = refl
own_stays own wrote (Compacted table cells marks seq added dropped) e = refl
own_stays own wrote (Checkpointed table at name) e = refl
own_stays own wrote (Collected names floor) e = refl

either_way : {X : Type 0} (b : Bool) (x : X) → (if b then x else x) ≡ x
either_way true x = refl
either_way false x = refl

same_items : (session : ℕ) (entries : List Beside) (b : Beside) (own : List Written) → own_after
    (own_written session entries) b.wrote b.noted.entry.fact ≡ own_written session entries →
    own_items (after_entry entries b) session ≡ own_items entries session
same_items session entries b own is =
    ap items_written (own_more session [] entries b
    ∙ ap (λ (ws : List Written). if nat_eq b.noted.entry.session session then ws else own_written
    session entries) is
    ∙ either_way (nat_eq b.noted.entry.session session) (own_written session entries))

pub items_stay : (entries : List Beside) (b : Beside) (f : Fact) → b.noted.entry.fact ≡ f →
    writes_none f ≡ true → own_items (after_entry entries b) ≡ own_items entries
items_stay entries b f is none i session =
    same_items session entries b [] (ap (own_after (own_written session entries) b.wrote) is ∙
    own_stays (own_written session entries) b.wrote f none) i

-- an entry of a statement that wrote nothing
pub items_read : (entries : List Beside) (b : Beside) (f : Fact) (reply : Reply) (change : Change) →
    b.noted.entry.fact ≡ Ran reply change → b.wrote ≡ [] → own_items (after_entry entries b) ≡
    own_items entries
items_read entries b f reply change is none i session =
    same_items session entries b [] (ap (own_after (own_written session entries) b.wrote) is ∙ ap
    (λ (ws : List Written). own_written session entries ++ ws) none ∙ append_none
    (own_written session entries)) i
  where
    append_none : (xs : List Written) → xs ++ [] ≡ xs
    append_none [] = refl
    append_none (x ∷ xs) = ap (λ (ys : List Written). x ∷ ys) (append_none xs)

turned_about : (a b : ℕ) → nat_eq a b ≡ nat_eq b a
turned_about a b = grind arith

pub items_began : (entries : List Beside) (b : Beside) (explicit : Bool) (txn snapshot : ℕ) →
    b.noted.entry.fact ≡ Began explicit txn snapshot → own_items (after_entry entries b) ≡
    with_items
    b.noted.entry.session [] (own_items entries)
items_began entries b explicit txn snapshot is i session =
    (ap items_written (own_more session [] entries b ∙ (λ j. if turned_about b.noted.entry.session
    session j then own_after (own_written session entries) b.wrote (is j) else own_written session
    entries)) ∙ pulled (nat_eq session b.noted.entry.session)) i
  where
    pulled : (c : Bool) → items_written (if c then [] else own_written session entries) ≡
        (if c then [] else own_items entries session)
    pulled true = refl
    pulled false = refl

pub items_ran : (entries : List Beside) (b : Beside) (reply : Reply) (change : Change) →
    b.noted.entry.fact ≡
    Ran reply change → own_items (after_entry entries b) ≡ with_items b.noted.entry.session
    (own_items entries b.noted.entry.session ++ items_written b.wrote) (own_items entries)
items_ran entries b reply change is i session =
    (ap items_written (own_more session [] entries b ∙ (λ j. if turned_about b.noted.entry.session
    session j then own_after (own_written session entries) b.wrote (is j) else own_written session
    entries)) ∙ pulled (nat_eq session b.noted.entry.session) refl) i
  where
    pulled : (c : Bool) → nat_eq session b.noted.entry.session ≡ c → items_written
        (if c then own_written session entries ++ b.wrote else own_written session entries) ≡
        (if c then own_items entries b.noted.entry.session ++ items_written b.wrote else own_items
        entries session)
    pulled true e = flat_append (λ (w : Written). w.items) (own_written session entries) b.wrote ∙
        ap (λ (s : ℕ). own_items entries s ++ items_written b.wrote) (same session
        b.noted.entry.session e)
      where
        same : (a b : ℕ) → nat_eq a b ≡ true → a ≡ b
        same a b e = grind arith
    pulled false e = refl
