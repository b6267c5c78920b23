-- The columns that the references of a statement may name, table by table.
use Rattle.std.specs.Prelude.{◌≡◌, ℕ, ◌≤◌, List, [], ◌∷◌, length, drop}
use Rattle.sql_model.specs.declared.scopes.Heading.{Heading}
use Rattle.sql_model.specs.declared.statements.SourceRef.{SourceRef}
use Rattle.sql_model.specs.declared.statements.Statement.{Statement}
use Rattle.sql_model.specs.declared.statements.Statement.TheVariants as statement
use Rattle.sql_model.specs.Scopes.{TableSchemas, headings, source_headings, scope_of, table_scope}

-- the columns that a statement's references may name
abbrev pub statement_scope : TableSchemas → Statement → List Heading
statement_scope schemas (statement.Create table columns distribution) = headings table columns
statement_scope schemas statement.Begin = []
statement_scope schemas statement.Commit = []
statement_scope schemas statement.RollBack = []
statement_scope schemas (statement.Insert table rows) = []
statement_scope schemas (statement.Select q) = scope_of schemas q.sources
statement_scope schemas (statement.Update table sets condition) = table_scope schemas table
statement_scope schemas (statement.Delete table condition) = table_scope schemas table
statement_scope schemas (statement.Compact table) = []
statement_scope schemas (statement.Checkpoint table) = []
statement_scope schemas (statement.Collect retain) = []

-- the columns of the first of these sources
abbrev pub next_headings : TableSchemas → List SourceRef → List Heading
next_headings schemas [] = []
next_headings schemas (source ∷ sources) = source_headings schemas source

-- the sources behind the first
abbrev pub behind : List SourceRef → List SourceRef
behind [] = []
behind (source ∷ sources) = sources

-- from a place on, the columns of a scope are those of these sources
pub record IsFrom (schemas : TableSchemas) (scope : List Heading) (start : ℕ) (sources : List SourceRef) : Type 0 where
  pub within : start ≤ length scope
  pub rest : drop start scope ≡ scope_of schemas sources
