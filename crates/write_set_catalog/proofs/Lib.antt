pub mod ConflictLemmas
