-- What one statement of a script did to the lake and to the sink.
use Rattle.std.specs.Prelude.{ℕ, List, Option, length, take}
use Rattle.std.specs.Io.KnownBytes.{Appends}
use Rattle.sql_model.specs.declared.replies.Reply.{Reply}
use Rattle.sql_model.specs.declared.scripts.Numbered.{Numbered}
use Rattle.lake_model.specs.Replies.{text_of_reply}
use Rattle.lake_core.specs.Lakes.{Lake}
use Rattle.lake_session.specs.Runs.{Ran}

-- the statement ran, and its reply was written
pub record RanStep (old new : Lake) (n : Numbered) (before after : Option (List ℕ)) : Type 0 where
  pub reply : Reply
  pub ran : Ran old new n reply
  pub written : Appends before after (text_of_reply n.place reply)

-- the statement ran, and so many bytes of its reply were written
pub record StoppedStep (P : ℕ → ℕ → Type 0) (old new : Lake) (n : Numbered) (before after : Option (List ℕ)) : Type 0 where
  pub reply : Reply
  pub ran : Ran old new n reply
  pub taken : ℕ
  pub within : P taken (length (text_of_reply n.place reply))
  pub written : Appends before after (take taken (text_of_reply n.place reply))
