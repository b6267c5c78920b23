use Rattle.sql_tokens.proofs.Quoted.{front-open, front-quoted}
use Rattle.sql_tokens.proofs.laws.one_quoted_text.Goals as goal

pub returns-clause-closed : goal.returns-clause-closed
returns-clause-closed c = front-quoted

pub returns-clause-unclosed : goal.returns-clause-unclosed
returns-clause-unclosed c = front-open
