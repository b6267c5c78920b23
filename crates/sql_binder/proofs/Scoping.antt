-- The columns of a scope up to the end of a source's.
use Rattle.std.proofs.Common.{◌≡◌, ℕ, ◌+◌, ◌≤◌, ◌<◌, List, [], ◌∷◌, ◌++◌, get_or, length, take, drop, refl, sym, ◌∙◌, ap, subst, arith, append_assoc, length-append}
use Rattle.std.proofs.lemmas.List.{take-append-drop, length-take-le, length-map, take_at, drop_at}
use Rattle.lake_values.specs.declared.schemas.Column.{Column}
use Rattle.sql_model.specs.declared.scopes.Heading.{Heading}
use Rattle.sql_model.specs.declared.statements.SourceRef.{SourceRef}
use Rattle.sql_model.specs.Scopes.{TableSchemas, columns_named, scope_of}
use Rattle.sql_binder.specs.Scoping.{next_headings, behind, IsFrom}

whole : (scope own rest : List Heading) (start : ℕ) → drop start scope ≡ own ++ rest → scope ≡ (take start scope ++ own) ++ rest
whole scope own rest start e =
    sym (take-append-drop start scope) ∙ ap (λ (d : List Heading). take start scope ++ d) e ∙ sym (append_assoc (take start scope) own rest)

part : (scope own : List Heading) (start : ℕ) → start ≤ length scope → length (take start scope ++ own) ≡ start + length own
part scope own start within = length-append (take start scope) own ∙ ap (λ n. n + length own) (length-take-le start scope within)

take_joined : (scope own rest : List Heading) (start : ℕ) → start ≤ length scope → drop start scope ≡ own ++ rest → take (start + length own) scope ≡ take start scope ++ own
take_joined scope own rest start within e =
    ap (take (start + length own)) (whole scope own rest start e) ∙ take_at (take start scope ++ own) rest (start + length own) (part scope own start within)

drop_joined : (scope own rest : List Heading) (start : ℕ) → start ≤ length scope → drop start scope ≡ own ++ rest → drop (start + length own) scope ≡ rest
drop_joined scope own rest start within e =
    ap (drop (start + length own)) (whole scope own rest start e) ∙ drop_at (take start scope ++ own) rest (start + length own) (part scope own start within)

joined_within : (scope own rest : List Heading) (start : ℕ) → start ≤ length scope → drop start scope ≡ own ++ rest → start + length own ≤ length scope
joined_within scope own rest start within e =
    omega (arith, ap length (whole scope own rest start e), length-append (take start scope ++ own) rest, part scope own start within)

-- the columns of the first of the sources, and those behind them
split : (schemas : TableSchemas) (sources : List SourceRef) → 0 < length sources → scope_of schemas sources ≡ next_headings schemas sources ++ scope_of schemas (behind sources)
split schemas [] some = absurd (omega arith)
split schemas (source ∷ sources) some = refl

own_length : (schemas : TableSchemas) (sources : List SourceRef) (source : SourceRef) → 0 < length sources → source ≡ get_or sources 0 source → length (columns_named source.table schemas) ≡ length (next_headings schemas sources)
own_length schemas [] source some is = absurd (omega arith)
own_length schemas (first ∷ sources) source some is = ap (λ (s : SourceRef). length (columns_named s.table schemas)) is ∙ sym (length-map _ _)

pub end_within : (schemas : TableSchemas) (scope : List Heading) (start : ℕ) (sources : List SourceRef) (source : SourceRef) (columns : List Column)
    → IsFrom schemas scope start sources → 0 < length sources → source ≡ get_or sources 0 source → columns ≡ columns_named source.table schemas → start + length columns ≤ length scope
end_within schemas scope start sources source columns from some is e =
    omega (arith, ap length e, own_length schemas sources source some is, joined_within scope (next_headings schemas sources) (scope_of schemas (behind sources)) start from.within (from.rest ∙ split schemas sources some))

same_end : (schemas : TableSchemas) (start : ℕ) (sources : List SourceRef) (source : SourceRef) (columns : List Column) → 0 < length sources → source ≡ get_or sources 0 source → columns ≡ columns_named source.table schemas → start + length columns ≡ start + length (next_headings schemas sources)
same_end schemas start sources source columns some is e = ap (λ n. start + n) (ap length e ∙ own_length schemas sources source some is)

pub take_first : (schemas : TableSchemas) (scope : List Heading) (start : ℕ) (sources : List SourceRef) (source : SourceRef) (columns : List Column)
    → IsFrom schemas scope start sources → 0 < length sources → source ≡ get_or sources 0 source → columns ≡ columns_named source.table schemas → take (start + length columns) scope ≡ take start scope ++ next_headings schemas sources
take_first schemas scope start sources source columns from some is e =
    ap (λ n. take n scope) (same_end schemas start sources source columns some is e)
    ∙ take_joined scope (next_headings schemas sources) (scope_of schemas (behind sources)) start from.within (from.rest ∙ split schemas sources some)

from_behind : (schemas : TableSchemas) (scope : List Heading) (start : ℕ) (sources : List SourceRef) (source : SourceRef) (columns : List Column)
    → IsFrom schemas scope start sources → 0 < length sources → source ≡ get_or sources 0 source → columns ≡ columns_named source.table schemas → IsFrom schemas scope (start + length columns) (behind sources)
from_behind schemas scope start sources source columns from some is e = record {
  within = end_within schemas scope start sources source columns from some is e;
  rest = ap (λ n. drop n scope) (same_end schemas start sources source columns some is e)
      ∙ drop_joined scope (next_headings schemas sources) (scope_of schemas (behind sources)) start from.within (from.rest ∙ split schemas sources some);
}

pub from_behind_taken : (schemas : TableSchemas) (scope : List Heading) (start : ℕ) (sources : List SourceRef) (source : SourceRef) (columns : List Column)
    → IsFrom schemas scope start sources → 0 < length sources → source ≡ get_or sources 0 source → columns ≡ columns_named source.table schemas → IsFrom schemas scope (length (take (start + length columns) scope)) (behind sources)
from_behind_taken schemas scope start sources source columns from some is e =
    subst (λ n. IsFrom schemas scope n (behind sources)) (sym (length-take-le _ scope (end_within schemas scope start sources source columns from some is e)))
    (from_behind schemas scope start sources source columns from some is e)
