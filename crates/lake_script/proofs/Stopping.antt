-- A statement whose reply was written, or a part of it.
use Rattle.std.proofs.Common.{◌≡◌, ℕ, List, [], ◌++◌, Option, Result, Ok, Err, length, take, ap, ◌∙◌, subst}
use Rattle.std.specs.Prelude.{OnErr, OnOk}
use Rattle.std.specs.Option.{option_map_or}
use Rattle.std.specs.Io.KnownBytes.{Appends}
use Rattle.sql_model.specs.declared.replies.Reply.{Reply}
use Rattle.sql_model.specs.declared.scripts.Numbered.{Numbered}
use Rattle.lake_model.specs.Replies.{text_of_reply}
use Rattle.lake_model.specs.State.{Noted, state, stated}
use Rattle.lake_model.specs.Text.{run_text}
use Rattle.lake_core.specs.Lakes.{Lake}
use Rattle.lake_session.specs.Runs.{IsRunBy, Leaves, Ran}
use Rattle.lake_script.specs.Steps.{RanStep, StoppedStep}

-- what is said of an answer, and of an error that was answered
pub at_ok : (X E : Type 0) (r : Result X E) (P Q : Type 0) → (P → Q) → OnOk r P → OnOk r Q
at_ok X E (Ok x) P Q f is = f is
at_ok X E (Err e) P Q f is = tt

pub at_error : (X E : Type 0) (r : Result X E) (e : E) (P : Type 0) → r ≡ Err e → OnErr r P → P
at_error X E (Ok x) e P is said = absurd cc
at_error X E (Err f) e P is said = said

-- the run of a session's statement is that of the statement that the script has for this session
pub ran_of : (old new : Lake) (n : Numbered) (session : ℕ) (reply : Reply) → session ≡ n.session → Ran old new (record { place = n.place; session = session; statement = n.statement }) reply → Ran old new n reply
ran_of old new n session reply same ran = let P : ℕ → Type 0 = λ s. Ran old new (record { place = n.place; session = s; statement = n.statement }) reply in subst P same ran

-- so is what it left
pub leaves_of : (old new : Lake) (session own : ℕ) → session ≡ own → Leaves old new session → Leaves old new own
leaves_of old new session own same leaves = subst (Leaves old new) same leaves

-- the bytes that were put are the reply's text
pub text_shown : (place : ℕ) (reply : Reply) (bytes text front : List ℕ) → bytes ≡ text → text ≡ front ++ text_of_reply place reply → front ≡ [] → bytes ≡ text_of_reply place reply
text_shown place reply bytes text front bytes_are text_is none = bytes_are ∙ text_is ∙ ap (λ (xs : List ℕ). xs ++ text_of_reply place reply) none

-- and what is printed for the statement's entries
pub text_of_run : (old new : List Noted) (n : Numbered) (reply : Reply) (by : IsRunBy old new n reply) → run_text n (stated (state old) by.run) ≡ text_of_reply n.place reply
text_of_run old new n reply by = ap (λ (o : Option Reply). option_map_or (text_of_reply n.place) o []) by.replies

module _ (old new : Lake) (n : Numbered) (reply : Reply) (text : List ℕ) (before after : Option (List ℕ)) (ran : Ran old new n reply) (text_is : text ≡ text_of_reply n.place reply) where
  pub ran_in : Appends before after text → RanStep old new n before after
  ran_in written = record { reply = reply; ran = ran; written = subst (Appends before after) text_is written }

  pub stopped_in : (P : ℕ → ℕ → Type 0) → ((k : ℕ) × P k (length text) × Appends before after (take k text)) → StoppedStep P old new n before after
  stopped_in P (k, within, appended) = record {
    reply = reply;
    ran = ran;
    taken = k;
    within = subst (P k) (ap length text_is) within;
    written = (let Q : List ℕ → Type 0 = λ bytes. Appends before after (take k bytes) in subst Q text_is appended);
  }
