-- The fields of a bound query.
use Rattle.std.proofs.Common.{◌≡◌}
use Rattle.sql_model.specs.declared.bound.Query.{Query}

-- queries with equal fields are one
pub same_query : (a b : Query) → a.tables ≡ b.tables → a.widths ≡ b.widths → a.pairs ≡ b.pairs → a.guards ≡ b.guards → a.computed ≡ b.computed → a.items ≡ b.items → a.keys ≡ b.keys → a.aggs ≡ b.aggs → a.outputs ≡ b.outputs → a.order ≡ b.order → a.limit ≡ b.limit → a ≡ b
same_query a b tables widths pairs guards computed items keys aggs outputs order limit = λ i. record {
  tables = tables i;
  widths = widths i;
  pairs = pairs i;
  guards = guards i;
  computed = computed i;
  items = items i;
  keys = keys i;
  aggs = aggs i;
  outputs = outputs i;
  order = order i;
  limit = limit i;
}
