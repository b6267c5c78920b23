-- A worked chronicle: a transaction that writes twice, and the next one of its session.
use Rattle.std.specs.Prelude.{ℕ, Bool, true, false, List, [], ◌∷◌, None}
use Rattle.lake_values.specs.declared.names.Kind.TheVariants.{File}
use Rattle.lake_values.specs.declared.names.Name.{Name}
use Rattle.sql_model.specs.declared.replies.Reply.TheVariants.{Wrote}
use Rattle.sql_model.specs.declared.replies.Verb.TheVariants.{Inserted}
use Rattle.sql_model.specs.Changes.{no_change}
use Rattle.lake_model.specs.declared.entries.Fact.{Fact}
use Rattle.lake_model.specs.declared.entries.Fact.TheVariants.{Began, Committed, Ran}
use Rattle.manifest_block.specs.declared.items.Item.{Item}
use Rattle.manifest_block.specs.declared.items.Item.TheVariants.{Add}
use Rattle.op_write.specs.Staging.{Written}
use Rattle.lake_laws.specs.Chronicles.{Beside}

-- the table t
abbrev pub table : List ℕ
table = 116 ∷ []

-- the file that a part of transaction 1 writes, and the item that adds it with a row in cell 0
abbrev pub file : ℕ → Name
file part = record { kind = File; txn = 1; part = part; task = 1; attempt = 1 }

abbrev pub add : ℕ → Item
add part = Add table 0 part (file part) 1

abbrev pub written : ℕ → Written
written part = record { blobs = []; block = None; items = add part ∷ [] }

-- an entry of a session, and what its tasks wrote
abbrev pub entry : ℕ → Fact → List Written → Beside
entry session fact wrote = record {
  noted = record { entry = record { session = session; place = 1; fact = fact }; ends = false };
  wrote = wrote;
}

-- session 1 begins and writes in two parts, while session 2 begins
abbrev pub writing : List Beside
writing =
    entry 1 (Began true 1 0) []
    ∷ entry 1 (Ran (Wrote Inserted 1 None) no_change) (written 1 ∷ [])
    ∷ entry 2 (Began true 2 0) []
    ∷ entry 1 (Ran (Wrote Inserted 1 None) no_change) (written 2 ∷ [])
    ∷ []

-- it commits, and begins anew
abbrev pub anew : List Beside
anew =
    entry 1 (Committed 1 (file 1 ∷ file 2 ∷ []) []) [] ∷ entry 1 (Began true 3 1) [] ∷ []
