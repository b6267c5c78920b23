use Rattle.std.proofs.Common.{sym}
use Rattle.std.proofs.lemmas.List.{length-take-le}
use Rattle.sql_binder.proofs.Scoping.{end_within, take_first, from_behind_taken}
use Rattle.sql_binder.proofs.scopes.joined.Goals as goal

pub slice_bounds-result-end-in-len1-up : goal.slice_bounds-result-end-in-len1-up
slice_bounds-result-end-in-len1-up c = sym (length-take-le _ c.args.scope.now (end_within c.args.schemas.now c.args.scope.now c.args.start c.args.sources.now c.source-item.result c.columns_named.result.now c.requires c.in-len1-up.len_at_least c.source-item.is c.columns_named.ensures.columns))

pub returns-in-len1-up-clause-joined : goal.returns-in-len1-up-clause-joined
returns-in-len1-up-clause-joined c = take_first c.args.schemas.now c.args.scope.now c.args.start c.args.sources.now c.source-item.result c.columns_named.result.now c.requires c.in-len1-up.len_at_least c.source-item.is c.columns_named.ensures.columns

pub returns-in-len1-up-clause-rest : goal.returns-in-len1-up-clause-rest
returns-in-len1-up-clause-rest c = from_behind_taken c.args.schemas.now c.args.scope.now c.args.start c.args.sources.now c.source-item.result c.columns_named.result.now c.requires c.in-len1-up.len_at_least c.source-item.is c.columns_named.ensures.columns
