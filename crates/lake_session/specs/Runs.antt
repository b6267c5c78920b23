-- What a statement adds to a lake, and what it answers.
use Rattle.std.specs.Prelude.{◌≡◌, ◌≢◌, ◌≤◌, ◌<◌, ◌+◌, ◌^◌, ℕ, true, false, List, [], ◌∷◌, ◌++◌, Some, Result, Ok, Err, length, map}
use Rattle.std.specs.List.{AllByRecursion}
use Rattle.lake_model.specs.declared.entries.Fact.{Fact}
use Rattle.lake_model.specs.declared.entries.Fact.TheVariants as fact
use Rattle.sql_model.specs.declared.replies.Refusal.{Refusal}
use Rattle.sql_model.specs.declared.replies.Reply.{Reply}
use Rattle.sql_model.specs.declared.replies.Reply.TheVariants as reply
use Rattle.sql_model.specs.declared.scripts.Numbered.{Numbered}
use Rattle.sql_model.specs.declared.statements.Statement.{Statement}
use Rattle.lake_model.specs.Allowed.{IsLegal}
use Rattle.lake_model.specs.Following.{EntryKind, IsAnswered, entry_sequences, kind_of, situation}
use Rattle.sql_model.specs.Listing.{IsOneOf}
use Rattle.lake_model.specs.State.{Noted, next_part, state, stated, transaction}
use Rattle.lake_model.specs.Text.{committed_reply, reply_of}
use Rattle.sql_model.specs.Writing.{Effect}
use Rattle.lake_core.specs.declared.who.Who.{Who}
use Rattle.lake_core.specs.Lakes.{HasPart, IsExplicit, Lake, is_reserved, noted, state_of}
use Rattle.lake_session.specs.declared.steps.Answered.{Answered}
use Rattle.lake_session.specs.declared.steps.Answered.TheVariants as answered

-- the statement added this run of entries to a chronicle, and answered so
pub record IsRunBy (old new : List Noted) (n : Numbered) (reply : Reply) : Type 0 where
  pub run : List Noted
  pub added : new ≡ old ++ run
  pub answered : IsAnswered true (state old) n run
  pub replies : reply_of n.statement (stated (state old) run) ≡ Some reply
  pub few : length run ≤ 3

-- The statement found no memory behind these entries, which it added to a chronicle: they are of its place and session,
-- and their kinds begin one of the sequences of entries that it may have.
pub record IsBegunBy (old new : List Noted) (n : Numbered) : Type 0 where
  pub run : List Noted
  pub added : new ≡ old ++ run
  pub places : AllByRecursion (λ e. e.entry.place ≡ n.place) run
  pub sessions : AllByRecursion (λ e. e.entry.session ≡ n.session) run
  pub rest : List EntryKind
  pub begins :
      IsOneOf (entry_sequences (situation (state old) n.session) n.statement)
      (map (λ e. kind_of e.entry.fact) run ++ rest)

-- a session may run a statement: a transaction of it is explicit and may have a part more, and no room is reserved for
-- it
pub record MayRun (lake : Lake) (session : ℕ) : Type 0 where
  pub few : length lake.entries < 2 ^ 60
  pub part : HasPart (state_of lake) session
  pub explicit : IsExplicit (state_of lake) session
  pub unreserved : is_reserved lake session ≡ false

-- a session's statement
abbrev pub numbered : Who → Statement → Numbered
numbered who x = record { place = who.place; session = who.session; statement = x }

-- the statement was answered, and its session may run the next one, as far as parts and entries last
pub record Ran (old new : Lake) (n : Numbered) (reply : Reply) : Type 0 where
  pub by : IsRunBy old.entries new.entries n reply
  pub unreserved : is_reserved new n.session ≡ false
  pub explicit : IsExplicit (state_of new) n.session
  pub parts : next_part (state_of new) n.session ≤ next_part (state_of old) n.session + 1

-- what a session did leaves the other sessions as they were
pub record Leaves (old new : Lake) (session : ℕ) : Type 0 where
  pub rooms : (other : ℕ) → other ≢ session → is_reserved new other ≡ is_reserved old other
  pub transactions :
      (other : ℕ) → other ≢ session
      → transaction (state_of new) other ≡ transaction (state_of old) other

-- the lake has one entry more, which was allowed; no room is reserved for its session, and every other session keeps its
-- room
pub record Records (old new : Lake) (who : Who) (f : Fact) : Type 0 where
  pub entries : new.entries ≡ old.entries ++ noted who f ∷ []
  pub legal : IsLegal true new.entries
  pub unreserved : is_reserved new who.session ≡ false
  pub others : (other : ℕ) → other ≢ who.session → is_reserved new other ≡ is_reserved old other

-- the entry of a statement that reads or changes rows, in its session's transaction
abbrev pub outcome : Result Effect Refusal → Fact
outcome (Ok effect) = fact.Ran effect.0 effect.1
outcome (Err cause) = fact.Refused cause

-- what such a statement answers
abbrev pub IsOutcome : Answered → Result Effect Refusal → Type 0
IsOutcome (answered.Ran said) (Ok effect) = said ≡ effect.0
IsOutcome (answered.Refused said) (Err cause) = said ≡ reply.Refused cause
IsOutcome said result = ⊥

abbrev pub reply_said : Answered → Reply
reply_said (answered.Ran said) = said
reply_said (answered.Refused said) = said

-- what a statement that stands alone answers, which ran and whose transaction ended so
abbrev pub ended_reply : Reply → Reply → Reply
ended_reply ran (reply.Committed seq) = committed_reply seq (Some ran)
ended_reply ran (reply.Conflict seq) = reply.Conflict seq
ended_reply ran end = ran
