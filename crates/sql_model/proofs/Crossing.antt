-- The statements of a script may go to another thread, and be lent to it: they own all that they have. A recursive type has
-- no such lemma of itself, and a search for one goes no deeper than a list of statements; so each type above expressions
-- has its lemma here, and who moves statements within types of its own cites `statements_cross`.
use denote.Param.Send.{IsSend, IsSync, sendable}
use Rattle.std.proofs.Crossing.{crosses}
use Rattle.std.proofs.option.Option.TheSendSync as option
use Rattle.lake_values.proofs.lists.Listed.TheSendSync as list
use Rattle.lake_values.proofs.rows.Rows.TheSendSync as rows
use Rattle.lake_values.proofs.schemas.Column.TheSendSync as column
use Rattle.lake_values.proofs.texts.Text.TheSendSync as text
use Rattle.lake_values.proofs.values.Value.TheSendSync as value
use Rattle.sqlite_items.proofs.boxed.Boxed.TheSendSync as boxed
use Rattle.sql_model.proofs.expressions.ArithOp.TheSendSync as arith
use Rattle.sql_model.proofs.expressions.CmpOp.TheSendSync as cmp
use Rattle.sql_model.proofs.expressions.Expr.TheLaws.TheKnot as expr
use Rattle.sql_model.proofs.expressions.Ref.TheSendSync as ref
use Rattle.sql_model.proofs.statements.OrderKey.TheSendSync as order
use Rattle.sql_model.proofs.statements.SourceRef.TheSendSync as source
use Rattle.sql_model.specs.contracts.expressions.Agg as Agg
use Rattle.sql_model.specs.contracts.expressions.Item as Item
use Rattle.sql_model.specs.contracts.statements.Select as Select
use Rattle.sql_model.specs.contracts.statements.Set as Set
use Rattle.sql_model.specs.contracts.scripts.Numbered as Numbered
use Rattle.sql_model.specs.contracts.scripts.Step as Step
use Rattle.sql_model.specs.contracts.statements.Statement as Statement

-- what owns its parts
pub ruleset owned = (
  sendable,
  crosses,
  expr.crosses,
  expr.crosses_both,
  option.the_send,
  option.the_sync,
  list.the_send,
  list.the_sync,
  rows.the_send,
  rows.the_sync,
  column.the_send,
  column.the_sync,
  column.the_field_send,
  column.the_field_sync,
  text.the_send,
  text.the_sync,
  value.the_send,
  value.the_sync,
  value.the_field_send,
  value.the_field_sync,
  boxed.the_send,
  boxed.the_sync,
  arith.the_send,
  arith.the_sync,
  arith.the_field_send,
  arith.the_field_sync,
  cmp.the_send,
  cmp.the_sync,
  cmp.the_field_send,
  cmp.the_field_sync,
  ref.the_send,
  ref.the_sync,
  ref.the_field_send,
  ref.the_field_sync,
  order.the_send,
  order.the_sync,
  order.the_field_send,
  order.the_field_sync,
  source.the_send,
  source.the_sync,
  source.the_field_send,
  source.the_field_sync,
)

agg_field_send : IsSend Agg.the_field.row
agg_field_send = search owned depth 20

item_send : IsSend Item.the_row
item_send = search (owned, agg_field_send) depth 20

select_field_send : IsSend Select.the_field.row
select_field_send = search (owned, item_send) depth 20

set_send : IsSend Set.the_row
set_send = search owned depth 20

pub statement_send : IsSend Statement.the_row
statement_send = search (owned, select_field_send, set_send) depth 20

pub statement_field_send : IsSend Statement.the_field.row
statement_field_send = search (owned, select_field_send, set_send) depth 20

pub numbered_send : IsSend Numbered.the_row
numbered_send = search (owned, statement_field_send) depth 20

pub numbered_field_send : IsSend Numbered.the_field.row
numbered_field_send = search (owned, statement_field_send) depth 20

pub step_send : IsSend Step.the_row
step_send = search (owned, numbered_send, numbered_field_send) depth 20

pub step_field_send : IsSend Step.the_field.row
step_field_send = search (owned, numbered_send, numbered_field_send) depth 20

agg_field_sync : IsSync Agg.the_field.row
agg_field_sync = search owned depth 20

item_sync : IsSync Item.the_row
item_sync = search (owned, agg_field_sync) depth 20

select_field_sync : IsSync Select.the_field.row
select_field_sync = search (owned, item_sync) depth 20

set_sync : IsSync Set.the_row
set_sync = search owned depth 20

pub statement_sync : IsSync Statement.the_row
statement_sync = search (owned, select_field_sync, set_sync) depth 20

pub statement_field_sync : IsSync Statement.the_field.row
statement_field_sync = search (owned, select_field_sync, set_sync) depth 20

pub numbered_sync : IsSync Numbered.the_row
numbered_sync = search (owned, statement_field_sync) depth 20

pub numbered_field_sync : IsSync Numbered.the_field.row
numbered_field_sync = search (owned, statement_field_sync) depth 20

pub step_sync : IsSync Step.the_row
step_sync = search (owned, numbered_sync, numbered_field_sync) depth 20

pub step_field_sync : IsSync Step.the_field.row
step_field_sync = search (owned, numbered_sync, numbered_field_sync) depth 20

-- the statements of a script, alone and within lists, options and structs of other crates, for `search`
pub ruleset statements_cross = (
  owned,
  statement_send,
  statement_sync,
  statement_field_send,
  statement_field_sync,
  numbered_send,
  numbered_sync,
  numbered_field_send,
  numbered_field_sync,
  step_send,
  step_sync,
  step_field_send,
  step_field_sync,
)
