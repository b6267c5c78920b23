-- The cell of a value: FNV-1a of its spelling, modulo 16.
use Rattle.std.specs.Prelude.{◌*◌, ◌%◌, ◌^◌, ℕ, List, bit_xor, fold}
use Rattle.lake_values.specs.declared.values.Value.{Value}
use Rattle.lake_values.specs.Spelling.{value_spelling}

-- FNV-1a of 64 bits, for one byte more
unfoldable pub hash_step : ℕ → ℕ → ℕ
hash_step hash byte = (bit_xor hash byte * 1099511628211) % 2 ^ 64

-- the hash of bytes behind those that gave a hash
abbrev pub hash_from : ℕ → List ℕ → ℕ
hash_from hash bytes = fold hash_step hash bytes

abbrev pub hash_of : List ℕ → ℕ
hash_of bytes = hash_from 14695981039346656037 bytes

abbrev pub cell : Value → ℕ
cell value = hash_of (value_spelling value) % 16
