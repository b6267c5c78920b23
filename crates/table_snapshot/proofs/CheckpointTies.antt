-- Files and checkpoints are tied to their spellings.
use Rattle.std.proofs.Common.{◌≡◌, ℕ, zero, suc, ◌<◌, Bool, true, false, not, ◌&&◌, List, [], ◌∷◌}
use Rattle.std.proofs.Common.{◌++◌, length, Option, Some, None, replicate, Ok, refl, sym, ap, subst}
use Rattle.std.proofs.Common.{◌∙◌, append_assoc, arith}
use Rattle.std.specs.Prelude.{◌==◌, codes, nat_lt, nat_le}
use Rattle.std.specs.List.{flat_map, AllByRecursion}
use Rattle.std.specs.Ordering.{is_lt, nat_cmp, on, then_cmp}
use Rattle.std.specs.declared.cmp.Ordering.{Ordering}
use Rattle.std.specs.declared.cmp.Ordering.TheVariants.{Less, Equal, Greater}
use Rattle.std.proofs.lemmas.Bool.{ltb-true, lt-ltb, and_parts, eqb-true}
use Rattle.std.proofs.lemmas.List.{append-nil}
use Rattle.std.proofs.lemmas.List.Elements.{All-from_recursion, recursion_from_All}
use Rattle.lake_values.specs.declared.faults.BadKind.TheVariants.{BadTag, NotCanonical}
use Rattle.lake_values.specs.declared.names.Kind.TheVariants.{File, Vector}
use Rattle.lake_values.specs.declared.names.Name.{Name}
use Rattle.lake_values.specs.Names.{name_cmp}
use Rattle.lake_values.specs.Spelling.{u32_spelling, u64_spelling, text_spelling, name_spelling}
use Rattle.lake_values.specs.Spelling.{kind_byte, IsU32, IsU64, IsName}
use Rattle.lake_values.specs.Reading.{Reader, ◌>>=◌, checked, u32_at, u64_at, text_at}
use Rattle.lake_values.proofs.Ties.{Ties, Ties-made, Ties-then, Ties-as, Ties-checked, Ties-each}
use Rattle.lake_values.proofs.Ties.{EachFits}
use Rattle.lake_values.proofs.FieldTies.{byte_tie, u32_tie, u64_tie, text_tie, name_tie, magic_tie}
use Rattle.table_snapshot.specs.declared.files.Checkpoint.{Checkpoint}
use Rattle.table_snapshot.specs.declared.files.FileRow.{FileRow}
use Rattle.table_snapshot.specs.Files.{in_order}
use Rattle.table_snapshot.specs.Spelling.{vector_spelling, file_spelling, checkpoint_spelling}
use Rattle.table_snapshot.specs.Spelling.{IsVector, IsFile, IsCheckpoint}
use Rattle.table_snapshot.proofs.MapChanges.{Above, lower, less_is, tail_above, front_in_order}
use Rattle.table_snapshot.specs.Reading.{txn_falls, part_falls, task_falls, attempt_falls}
use Rattle.table_snapshot.specs.Reading.{next_name_at, vector_behind, vector_at, name_of, file_at}
use Rattle.table_snapshot.specs.Reading.{files_at, checkpoint_at}

-- ---- a name behind the one before

record IsNext (before : Option Name) (n : Name) : Type 0 where
  name : IsName File n
  txn : not (txn_falls before n.txn) ≡ true
  part : not (part_falls before n.txn n.part) ≡ true
  task : not (task_falls before n.txn n.part n.task) ≡ true
  attempt : not (attempt_falls before n.txn n.part n.task n.attempt) ≡ true

after_tag : Option Name → Reader Name
after_tag before at bytes =
    checked (λ n. not (txn_falls before n)) NotCanonical u64_at at bytes >>= λ txn.
    checked (λ n. not (part_falls before txn.0 n)) NotCanonical u32_at txn.1 txn.2 >>= λ part.
    checked (λ n. not (task_falls before txn.0 part.0 n)) NotCanonical u32_at part.1 part.2 >>= λ
    task.
    checked (λ n. not (attempt_falls before txn.0 part.0 task.0 n)) NotCanonical u32_at task.1
    task.2 >>= λ attempt.
    Ok (
      record { kind = File; txn = txn.0; part = part.0; task = task.0; attempt = attempt.0 },
      attempt.1,
      attempt.2,
    )

numbers_tie : (before : Option Name) → Ties (IsNext before) (λ n. u64_spelling n.txn ++
    (u32_spelling n.part ++ (u32_spelling n.task ++ (u32_spelling n.attempt ++ []))))
    (after_tag before)
unfolding after_tag
numbers_tie before =
    Ties-then (IsNext before) _ (λ n. n.txn) (λ txn at bytes.
    checked (λ n. not (part_falls before txn n)) NotCanonical u32_at at bytes >>= λ part.
    checked (λ n. not (task_falls before txn part.0 n)) NotCanonical u32_at part.1 part.2 >>= λ
    task.
    checked (λ n. not (attempt_falls before txn part.0 task.0 n)) NotCanonical u32_at task.1 task.2
    >>= λ attempt.
    Ok (
      record { kind = File; txn = txn; part = part.0; task = task.0; attempt = attempt.0 },
      attempt.1,
      attempt.2,
    ))
    (Ties-checked (λ n. not (txn_falls before n)) NotCanonical u64_tie) (λ n h. (h.txn, h.name.txn))
    (λ txn is_txn.
    Ties-then (λ n. (txn ≡ n.txn) × IsNext before n) _ (λ n. n.part) (λ part at bytes.
    checked (λ n. not (task_falls before txn part n)) NotCanonical u32_at at bytes >>= λ task.
    checked (λ n. not (attempt_falls before txn part task.0 n)) NotCanonical u32_at task.1 task.2
    >>= λ attempt.
    Ok (
      record { kind = File; txn = txn; part = part; task = task.0; attempt = attempt.0 },
      attempt.1,
      attempt.2,
    ))
    (Ties-checked (λ n. not (part_falls before txn n)) NotCanonical u32_tie)
    (λ n h. (rw h.0 h.1.part, h.1.name.part)) (λ part is_part.
    Ties-then (λ n. (part ≡ n.part) × ((txn ≡ n.txn) × IsNext before n)) _ (λ n. n.task) (λ task at
    bytes.
    checked (λ n. not (attempt_falls before txn part task n)) NotCanonical u32_at at bytes >>= λ
    attempt.
    Ok (
      record { kind = File; txn = txn; part = part; task = task; attempt = attempt.0 },
      attempt.1,
      attempt.2,
    ))
    (Ties-checked (λ n. not (task_falls before txn part n)) NotCanonical u32_tie)
    (λ n h. (rw (h.0, h.1.0) h.1.1.task, h.1.1.name.task)) (λ task is_task.
    Ties-then (λ n. (task ≡ n.task) × ((part ≡ n.part) × ((txn ≡ n.txn) × IsNext before n)))
    (λ n. []) (λ n. n.attempt) (λ attempt at bytes.
    Ok (record { kind = File; txn = txn; part = part; task = task; attempt = attempt }, at, bytes))
    (Ties-checked (λ n. not (attempt_falls before txn part task n)) NotCanonical u32_tie)
    (λ n h. (rw (h.0, h.1.0, h.1.1.0) h.1.1.1.attempt, h.1.1.1.name.attempt)) (λ attempt
    is_attempt.
    let made : Name = record { kind = File; txn = txn; part = part; task = task; attempt = attempt }
    in
    let name : IsName File made = record {
      kind_is = refl;
      txn = is_txn.1;
      part = is_part.1;
      task =
          is_task.1;
      attempt = is_attempt.1;
    } in
    let fits : IsNext before made = record
    { name = name; txn = is_txn.0; part = is_part.0; task = is_task.0; attempt = is_attempt.0 }
    in
    Ties-as (λ n. (attempt ≡ n.attempt) ×
    ((task ≡ n.task) × ((part ≡ n.part) × ((txn ≡ n.txn) × IsNext before n)))) (λ n. [])
    (λ n h. refl)
    (λ n e. subst (λ (m : Name). (attempt ≡ m.attempt) ×
    ((task ≡ m.task) × ((part ≡ m.part) × ((txn ≡ m.txn) × IsNext before m)))) e
    (refl, (refl, (refl, (refl, fits)))))
    (λ n h. let k = sym h.1.1.1.1.name.kind_is in cc)
    (Ties-made made)))))

next_name_tie : (before : Option Name) → Ties (IsNext before) name_spelling (next_name_at before)
unfolding next_name_at after_tag
next_name_tie before =
    Ties-as (IsNext before) name_spelling (λ n h. simp (append_assoc, append-nil)) (λ n h. h)
    (λ n h. h)
    (Ties-then (IsNext before) (λ n. u64_spelling n.txn ++
    (u32_spelling n.part ++ (u32_spelling n.task ++ (u32_spelling n.attempt ++ []))))
    (λ n. kind_byte n.kind) (λ tag at bytes. after_tag before at bytes)
    (Ties-checked (λ b. b == kind_byte File) BadTag byte_tie)
    (λ n h. (rw h.name.kind_is refl, rw h.name.kind_is (omega arith)))
    (λ tag tags. Ties-as (λ n. (tag ≡ kind_byte n.kind) × IsNext before n) _ (λ n h. refl)
    (λ n h. (eqb-true _ _ tags.0 ∙ ap kind_byte (sym h.name.kind_is), h)) (λ n h. h.1)
    (numbers_tie before)))

-- ---- the same by the order of names

numbers_cmp : Name → Name → Ordering
numbers_cmp =
    then_cmp (on (λ n. n.txn) nat_cmp) (then_cmp (on (λ n. n.part) nat_cmp)
    (then_cmp (on (λ n. n.task) nat_cmp) (on (λ n. n.attempt) nat_cmp)))

less : (x y : ℕ) → nat_cmp x y ≡ Less → (nat_lt y x ≡ false) × ((y == x) ≡ false) ×
    (nat_le y x ≡ false)
less x y e = (grind (arith, e), grind (arith, e), grind (arith, e))

equal : (x y : ℕ) → nat_cmp x y ≡ Equal → (nat_lt y x ≡ false) × ((y == x) ≡ true) ×
    (nat_le y x ≡ true)
equal x y e = (grind (arith, e), grind (arith, e), grind (arith, e))

greater : (x y : ℕ) → nat_cmp x y ≡ Greater → (nat_lt y x ≡ true) × (nat_le y x ≡ true)
greater x y e = (grind (arith, e), grind (arith, e))

rises : Name → Name → Bool
rises b n =
    not (txn_falls (Some b) n.txn) && not (part_falls (Some b) n.txn n.part) && not
    (task_falls (Some b) n.txn n.part n.task)
    && not (attempt_falls (Some b) n.txn n.part n.task n.attempt)

by_numbers : (b n : Name) → is_lt (numbers_cmp b n) ≡ rises b n
unfolding numbers_cmp rises
by_numbers b n = by_txn (nat_cmp b.txn n.txn) refl
  where
    by_attempt : (r : Ordering) → nat_cmp b.attempt n.attempt ≡ r → nat_cmp b.txn n.txn ≡ Equal →
        nat_cmp b.part n.part ≡ Equal → nat_cmp b.task n.task ≡ Equal → is_lt (numbers_cmp b n) ≡
        rises b n
    by_attempt Less is t p k = let e = equal b.txn n.txn t in let f = equal b.part n.part p in let g
        = equal b.task n.task k in let h = less b.attempt n.attempt is in rw
        (t, p, k, is, e.0, e.1, f.0, f.1, g.0, g.1, h.2) refl
    by_attempt Equal is t p k = let e = equal b.txn n.txn t in let f = equal b.part n.part p in let
        g = equal b.task n.task k in let h = equal b.attempt n.attempt is in rw
        (t, p, k, is, e.0, e.1, f.0, f.1, g.0, g.1, h.2) refl
    by_attempt Greater is t p k = let e = equal b.txn n.txn t in let f = equal b.part n.part p in
        let g = equal b.task n.task k in let h = greater b.attempt n.attempt is in rw
        (t, p, k, is, e.0, e.1, f.0, f.1, g.0, g.1, h.1) refl

    by_task : (r : Ordering) → nat_cmp b.task n.task ≡ r → nat_cmp b.txn n.txn ≡ Equal → nat_cmp
        b.part n.part ≡ Equal → is_lt (numbers_cmp b n) ≡ rises b n
    by_task Less is t p = let e = equal b.txn n.txn t in let f = equal b.part n.part p in let g =
        less b.task n.task is in rw (t, p, is, e.0, e.1, f.0, f.1, g.0, g.1) refl
    by_task Equal is t p = by_attempt (nat_cmp b.attempt n.attempt) refl t p is
    by_task Greater is t p = let e = equal b.txn n.txn t in let f = equal b.part n.part p in let g =
        greater b.task n.task is in rw (t, p, is, e.0, e.1, f.0, f.1, g.0) refl

    by_part : (r : Ordering) → nat_cmp b.part n.part ≡ r → nat_cmp b.txn n.txn ≡ Equal → is_lt
        (numbers_cmp b n) ≡ rises b n
    by_part Less is t = let e = equal b.txn n.txn t in let f = less b.part n.part is in rw
        (t, is, e.0, e.1, f.0, f.1) refl
    by_part Equal is t = by_task (nat_cmp b.task n.task) refl t is
    by_part Greater is t = let e = equal b.txn n.txn t in let f = greater b.part n.part is in rw
        (t, is, e.0, e.1, f.0) refl

    by_txn : (r : Ordering) → nat_cmp b.txn n.txn ≡ r → is_lt (numbers_cmp b n) ≡ rises b n
    by_txn Less is = let e = less b.txn n.txn is in rw (is, e.0, e.1) refl
    by_txn Equal is = by_part (nat_cmp b.part n.part) refl is
    by_txn Greater is = let e = greater b.txn n.txn is in rw (is, e.0) refl

above : (b n : Name) → IsName File b → IsName File n → is_lt (name_cmp b n) ≡ rises b n
unfolding numbers_cmp
above b n first second =
    let same : is_lt (name_cmp b n) ≡ is_lt (numbers_cmp b n) = rw (first.kind_is, second.kind_is)
    refl in
    same ∙ by_numbers b n

next_from_above : (b n : Name) → IsName File b → IsName File n → is_lt (name_cmp b n) ≡ true →
    IsNext (Some b) n
unfolding rises
next_from_above b n first second up =
    let all : rises b n ≡ true = sym (above b n first second) ∙ up in
    let x = and_parts (not (txn_falls (Some b) n.txn) && not (part_falls (Some b) n.txn n.part) &&
    not (task_falls (Some b) n.txn n.part n.task))
    (not (attempt_falls (Some b) n.txn n.part n.task n.attempt)) all in
    let y = and_parts (not (txn_falls (Some b) n.txn) && not (part_falls (Some b) n.txn n.part))
    (not (task_falls (Some b) n.txn n.part n.task)) x.0 in
    let z = and_parts (not (txn_falls (Some b) n.txn)) (not (part_falls (Some b) n.txn n.part)) y.0
    in
    record { name = second; txn = z.0; part = z.1; task = y.1; attempt = x.1 }

above_from_next : (b n : Name) → IsName File b → IsNext (Some b) n → is_lt (name_cmp b n) ≡ true
unfolding rises
above_from_next b n first next =
    let all : rises b n ≡ true = rw (next.txn, next.part, next.task, next.attempt) refl in
    above b n first next.name ∙ all

-- ---- vectors

-- where there is none, the name and the number mean nothing

vector_byte : Option (Name × ℕ) → ℕ
vector_byte None = 0
vector_byte (Some v) = 1

vector_name : Option (Name × ℕ) → Name
vector_name None = record { kind = Vector; txn = 0; part = 0; task = 0; attempt = 0 }
vector_name (Some v) = v.0

vector_removed : Option (Name × ℕ) → ℕ
vector_removed None = 0
vector_removed (Some v) = v.1

vector_body : Option (Name × ℕ) → List ℕ
vector_body None = []
vector_body (Some v) = name_spelling v.0 ++ (u64_spelling v.1 ++ [])

IsSome : Option (Name × ℕ) → Type 0
IsSome v = (1 ≡ vector_byte v) × IsVector v

some_fits : (v : Option (Name × ℕ)) → IsSome v → IsName Vector (vector_name v) × IsU64
    (vector_removed v)
unfolding IsSome vector_byte vector_name vector_removed
some_fits None h = absurd cc
some_fits (Some v) h = h.1

some_back : (v : Option (Name × ℕ)) → IsSome v → Some (vector_name v, vector_removed v) ≡ v
unfolding IsSome vector_byte vector_name vector_removed
some_back None h = absurd cc
some_back (Some v) h = refl

some_body : (v : Option (Name × ℕ)) → IsSome v → name_spelling (vector_name v) ++
    (u64_spelling (vector_removed v) ++ []) ≡ vector_body v
unfolding IsSome vector_byte vector_name vector_removed vector_body
some_body None h = absurd cc
some_body (Some v) h = refl

some_made : (name : Name) (removed : ℕ) → IsName Vector name → IsU64 removed →
    (v : Option (Name × ℕ)) → Some (name, removed) ≡ v
    → (removed ≡ vector_removed v) × ((name ≡ vector_name v) × IsSome v)
unfolding IsSome vector_byte vector_name vector_removed
some_made name removed a b v is =
    subst (λ (x : Option (Name × ℕ)). (removed ≡ vector_removed x) ×
    ((name ≡ vector_name x) × IsSome x)) is (refl, (refl, (refl, (a, b))))

some_tie : Ties IsSome vector_body (vector_behind 1)
some_tie =
    Ties-as IsSome vector_body some_body (λ v h. h) (λ v h. h)
    (Ties-then IsSome _ vector_name (λ name at bytes. u64_at at bytes >>= λ removed. Ok
    (Some (name, removed.0), removed.1, removed.2)) (name_tie Vector)
    (λ v h. (some_fits v h).0) (λ name is_name.
    Ties-then (λ v. (name ≡ vector_name v) × IsSome v) (λ v. []) vector_removed
    (λ removed at bytes. Ok (Some (name, removed), at, bytes)) u64_tie
    (λ v h. (some_fits v h.1).1) (λ removed is_removed.
    Ties-as (λ v. (removed ≡ vector_removed v) × ((name ≡ vector_name v) × IsSome v)) (λ v. [])
    (λ v h. refl)
    (some_made name removed is_name is_removed)
    (λ v h. let back = some_back v h.1.1 in cc)
    (Ties-made (Some (name, removed))))))

none_back : (v : Option (Name × ℕ)) → (0 ≡ vector_byte v) × IsVector v → None ≡ v
unfolding vector_byte
none_back None h = refl
none_back (Some v) h = absurd cc

none_tie : Ties (λ v. (0 ≡ vector_byte v) × IsVector v) vector_body (vector_behind 0)
unfolding vector_byte vector_body
none_tie =
    Ties-as (λ v. (0 ≡ vector_byte v) × IsVector v) vector_body
    (λ v e. ap vector_body e)
    (λ v e. subst (λ (x : Option (Name × ℕ)). (0 ≡ vector_byte x) × IsVector x) e (refl, tt))
    none_back
    (Ties-made None)

vector_behind_tie : (byte : ℕ) → nat_lt byte 2 ≡ true → Ties
    (λ v. (byte ≡ vector_byte v) × IsVector v) vector_body (vector_behind byte)
unfolding IsSome
vector_behind_tie zero low = none_tie
vector_behind_tie (suc zero) low = some_tie
vector_behind_tie (suc (suc n)) low = absurd (omega (arith, ltb-true _ _ low))

is_vector_byte : (v : Option (Name × ℕ)) → (nat_lt (vector_byte v) 2 ≡ true) × (vector_byte v < 256)
unfolding vector_byte
is_vector_byte None = (refl, omega arith)
is_vector_byte (Some v) = (refl, omega arith)

grouped_3 : (a b c : List ℕ) → a ++ (b ++ (c ++ [])) ≡ (a ++ b) ++ c
grouped_3 a b c = simp (append_assoc, append-nil)

vector_spelled : (v : Option (Name × ℕ)) → (vector_byte v ∷ []) ++ vector_body v ≡ vector_spelling v
unfolding vector_byte vector_body
vector_spelled None = refl
vector_spelled (Some v) = grouped_3 (1 ∷ []) (name_spelling v.0) (u64_spelling v.1)

vector_tie : Ties IsVector vector_spelling vector_at
unfolding vector_at
vector_tie =
    Ties-as IsVector vector_spelling (λ v h. vector_spelled v) (λ v h. h) (λ v h. h)
    (Ties-then IsVector vector_body vector_byte vector_behind
    (Ties-checked (λ b. nat_lt b 2) BadTag byte_tie) (λ v h. is_vector_byte v)
    (λ byte is. vector_behind_tie byte is.0))

-- ---- files

record IsBehind (before : Option FileRow) (f : FileRow) : Type 0 where
  name : IsNext (name_of before) f.file
  seq : IsU64 f.seq
  part : IsU32 f.part
  cell : f.cell < 16
  rows : IsU64 f.rows
  vector : IsVector f.vector

grouped_6 : (a b c d e f : List ℕ) → a ++ (b ++ (c ++ (d ++ (e ++ (f ++ []))))) ≡
    ((((a ++ b) ++ c) ++ d) ++ e) ++ f
grouped_6 a b c d e f = simp (append_assoc, append-nil)

file_tie : (before : Option FileRow) → Ties (IsBehind before) file_spelling (file_at before)
unfolding file_at
file_tie before =
    Ties-as (IsBehind before) file_spelling (λ f h. grouped_6 (name_spelling f.file)
    (u64_spelling f.seq) (u32_spelling f.part) (u32_spelling f.cell) (u64_spelling f.rows)
    (vector_spelling f.vector)) (λ f h. h) (λ f h. h)
    (Ties-then (IsBehind before) _ (λ f. f.file) (λ file at bytes.
    u64_at at bytes >>= λ seq. u32_at seq.1 seq.2 >>= λ part. checked (λ n. nat_lt n 16)
    NotCanonical u32_at part.1 part.2 >>= λ cell. u64_at cell.1 cell.2 >>= λ rows. vector_at
    rows.1 rows.2 >>= λ vector.
    Ok (
      record {
        file = file;
        seq = seq.0;
        part = part.0;
        cell = cell.0;
        rows = rows.0;
        vector =
            vector.0;
      },
      vector.1,
      vector.2,
    ))
    (next_name_tie (name_of before)) (λ f h. h.name) (λ file is_file.
    Ties-then (λ f. (file ≡ f.file) × IsBehind before f) _ (λ f. f.seq) (λ seq at bytes.
    u32_at at bytes >>= λ part. checked (λ n. nat_lt n 16) NotCanonical u32_at part.1 part.2 >>= λ
    cell. u64_at cell.1 cell.2 >>= λ rows. vector_at rows.1 rows.2 >>= λ vector.
    Ok (
      record {
        file = file;
        seq = seq;
        part = part.0;
        cell = cell.0;
        rows = rows.0;
        vector =
            vector.0;
      },
      vector.1,
      vector.2,
    ))
    u64_tie (λ f h. h.1.seq) (λ seq is_seq.
    Ties-then (λ f. (seq ≡ f.seq) × ((file ≡ f.file) × IsBehind before f)) _ (λ f. f.part) (λ part
    at bytes.
    checked (λ n. nat_lt n 16) NotCanonical u32_at at bytes >>= λ cell. u64_at cell.1 cell.2 >>= λ
    rows. vector_at rows.1 rows.2 >>= λ vector.
    Ok (
      record
          { file = file; seq = seq; part = part; cell = cell.0; rows = rows.0; vector = vector.0 },
      vector.1,
      vector.2,
    ))
    u32_tie (λ f h. h.1.1.part) (λ part is_part.
    Ties-then (λ f. (part ≡ f.part) × ((seq ≡ f.seq) × ((file ≡ f.file) × IsBehind before f))) _
    (λ f. f.cell) (λ cell at bytes.
    u64_at at bytes >>= λ rows. vector_at rows.1 rows.2 >>= λ vector.
    Ok (
      record
          { file = file; seq = seq; part = part; cell = cell; rows = rows.0; vector = vector.0 },
      vector.1,
      vector.2,
    ))
    (Ties-checked (λ n. nat_lt n 16) NotCanonical u32_tie)
    (λ f h. let lt = h.1.1.1.cell in (lt-ltb _ _ lt, omega (arith, lt))) (λ cell is_cell.
    Ties-then (λ f. (cell ≡ f.cell) ×
    ((part ≡ f.part) × ((seq ≡ f.seq) × ((file ≡ f.file) × IsBehind before f)))) _
    (λ f. f.rows) (λ rows at bytes.
    vector_at at bytes >>= λ vector.
    Ok (
      record
          { file = file; seq = seq; part = part; cell = cell; rows = rows; vector = vector.0 },
      vector.1,
      vector.2,
    ))
    u64_tie (λ f h. h.1.1.1.1.rows) (λ rows is_rows.
    Ties-then (λ f. (rows ≡ f.rows) × ((cell ≡ f.cell) ×
    ((part ≡ f.part) × ((seq ≡ f.seq) × ((file ≡ f.file) × IsBehind before f))))) (λ f. [])
    (λ f. f.vector) (λ vector at bytes.
    Ok (
      record { file = file; seq = seq; part = part; cell = cell; rows = rows; vector = vector },
      at,
      bytes,
    ))
    vector_tie (λ f h. h.1.1.1.1.1.vector) (λ vector is_vector.
    let made : FileRow = record
    { file = file; seq = seq; part = part; cell = cell; rows = rows; vector = vector } in
    let fits : IsBehind before made = record {
      name = is_file;
      seq = is_seq;
      part = is_part;
      cell =
          ltb-true _ _ is_cell.0;
      rows = is_rows;
      vector = is_vector;
    } in
    Ties-as (λ f. (vector ≡ f.vector) × ((rows ≡ f.rows) × ((cell ≡ f.cell) ×
    ((part ≡ f.part) × ((seq ≡ f.seq) × ((file ≡ f.file) × IsBehind before f))))))
    (λ f. []) (λ f h. refl)
    (λ f e. subst (λ (g : FileRow). (vector ≡ g.vector) × ((rows ≡ g.rows) × ((cell ≡ g.cell) ×
    ((part ≡ g.part) × ((seq ≡ g.seq) × ((file ≡ g.file) × IsBehind before g)))))) e
    (refl, (refl, (refl, (refl, (refl, (refl, fits)))))))
    (λ f h. cc)
    (Ties-made made))))))))

-- ---- files in order

abbrev FitsBehind : Option FileRow → Unit {0} → FileRow → Type 0
FitsBehind before place f = IsBehind before f

record AreFiles (count : ℕ) (fs : List FileRow) : Type 0 where
  count_is : length fs ≡ count
  order : in_order fs ≡ true
  each : AllByRecursion IsFile fs

is_file : (before : Option FileRow) (f : FileRow) → IsBehind before f → IsFile f
is_file before f h =
    record {
      name = h.name.name;
      seq = h.seq;
      part = h.part;
      cell = h.cell;
      rows = h.rows;
      vector =
          h.vector;
    }

behind : (before : Option FileRow) (f : FileRow) → IsNext (name_of before) f.file → IsFile f →
    IsBehind before f
behind before f next h =
    record
    { name = next; seq = h.seq; part = h.part; cell = h.cell; rows = h.rows; vector = h.vector }

first_next : (n : Name) → IsName File n → IsNext None n
first_next n h = record { name = h; txn = refl; part = refl; task = refl; attempt = refl }

-- the files behind one
files_behind : (b : FileRow) (count : ℕ) (fs : List FileRow) → IsName File b.file → EachFits
    FitsBehind (Some b) (replicate count (tt {0})) fs → Above b.file fs × AreFiles count fs
files_behind b zero [] file h = (tt, record { count_is = refl; order = refl; each = tt })
files_behind b zero (f ∷ fs) file h = absurd h
files_behind b (suc count) [] file h = absurd h
files_behind b (suc count) (f ∷ fs) file h =
    let others = files_behind f count fs h.0.name.name h.1 in
    let up : name_cmp b.file f.file ≡ Less = less_is (name_cmp b.file f.file)
    (above_from_next b.file f.file file h.0.name) in (
      (up, lower b.file f.file fs up others.0),
      record {
        count_is = ap suc others.1.count_is;
        order = front_in_order f fs others.0 others.1.order;
        each = (is_file (Some b) f h.0, others.1.each);
      },
    )

are_files : (count : ℕ) (fs : List FileRow) → EachFits FitsBehind None (replicate count (tt {0})) fs
    → AreFiles count fs
are_files zero [] h = record { count_is = refl; order = refl; each = tt }
are_files zero (f ∷ fs) h = absurd h
are_files (suc count) [] h = absurd h
are_files (suc count) (f ∷ fs) h =
    let others = files_behind f count fs h.0.name.name h.1 in
    record {
      count_is = ap suc others.1.count_is;
      order = front_in_order f fs others.0 others.1.order;
      each = (is_file None f h.0, others.1.each);
    }

fit_behind : (b : FileRow) (count : ℕ) (fs : List FileRow) → IsName File b.file → Above b.file fs →
    AreFiles count fs → EachFits FitsBehind (Some b) (replicate count (tt {0})) fs
fit_behind b zero [] file up h = tt
fit_behind b zero (f ∷ fs) file up h = absurd (omega (arith, h.count_is))
fit_behind b (suc count) [] file up h = absurd (omega (arith, h.count_is))
fit_behind b (suc count) (f ∷ fs) file up h =
    let parts = tail_above f fs h.order in
    let next : IsNext (Some b.file) f.file = next_from_above b.file f.file file h.each.0.name
    (rw up.0 refl) in (
      behind (Some b) f next h.each.0,
      fit_behind f count fs h.each.0.name parts.0
          (record { count_is = omega (arith, h.count_is); order = parts.1; each = h.each.1 }),
    )

files_fit : (count : ℕ) (fs : List FileRow) → AreFiles count fs → EachFits FitsBehind None
    (replicate count (tt {0})) fs
files_fit zero [] h = tt
files_fit zero (f ∷ fs) h = absurd (omega (arith, h.count_is))
files_fit (suc count) [] h = absurd (omega (arith, h.count_is))
files_fit (suc count) (f ∷ fs) h =
    let parts = tail_above f fs h.order in (
      behind None f (first_next f.file h.each.0.name) h.each.0,
      fit_behind f count fs h.each.0.name parts.0
          (record { count_is = omega (arith, h.count_is); order = parts.1; each = h.each.1 }),
    )

files_tie : (count : ℕ) → Ties (AreFiles count) (flat_map file_spelling) (files_at count)
files_tie count =
    Ties-as (AreFiles count) (flat_map file_spelling) (λ fs h. refl) (are_files count)
    (files_fit count)
    (Ties-each FitsBehind file_spelling (λ before place. file_at before)
    (λ before place. file_tie before) (replicate count (tt {0})) None)

-- ---- checkpoints

grouped_checkpoint : (a b c d e : List ℕ) → a ++ (b ++ (c ++ (d ++ (e ++ [])))) ≡
    (((a ++ b) ++ c) ++ d) ++ e
grouped_checkpoint a b c d e = simp (append_assoc, append-nil)

pub checkpoint_tie : Ties IsCheckpoint checkpoint_spelling checkpoint_at
unfolding checkpoint_at
checkpoint_tie =
    Ties-as IsCheckpoint checkpoint_spelling (λ c h. grouped_checkpoint (codes "LCP1")
    (text_spelling c.table) (u64_spelling c.at) (u64_spelling (length c.files))
    (flat_map file_spelling c.files)) (λ c h. h) (λ c h. h)
    (magic_tie (codes "LCP1") IsCheckpoint (λ c. text_spelling c.table ++ (u64_spelling c.at ++
    (u64_spelling (length c.files) ++ (flat_map file_spelling c.files ++ [])))) (λ at bytes.
    text_at at bytes >>= λ table. u64_at table.1 table.2 >>= λ version. u64_at version.1 version.2
    >>= λ count. files_at count.0 count.1 count.2 >>= λ files.
    Ok (record { table = table.0; at = version.0; files = files.0 }, files.1, files.2))
    (Ties-then IsCheckpoint _ (λ c. c.table) (λ table at bytes.
    u64_at at bytes >>= λ version. u64_at version.1 version.2 >>= λ count. files_at count.0 count.1
    count.2 >>= λ files.
    Ok (record { table = table; at = version.0; files = files.0 }, files.1, files.2)) text_tie (λ c
    h. h.table) (λ table is_table.
    Ties-then (λ c. (table ≡ c.table) × IsCheckpoint c) _ (λ c. c.at) (λ version at bytes.
    u64_at at bytes >>= λ count. files_at count.0 count.1 count.2 >>= λ files.
    Ok (record { table = table; at = version; files = files.0 }, files.1, files.2)) u64_tie (λ c h.
    h.1.at) (λ version is_version.
    Ties-then (λ c. (version ≡ c.at) × ((table ≡ c.table) × IsCheckpoint c)) _ (λ c. length c.files)
    (λ count at bytes.
    files_at count at bytes >>= λ files.
    Ok (record { table = table; at = version; files = files.0 }, files.1, files.2)) u64_tie (λ c h.
    h.1.1.count) (λ count is_count.
    Ties-then
    (λ c. (count ≡ length c.files) × ((version ≡ c.at) × ((table ≡ c.table) × IsCheckpoint c)))
    (λ c. []) (λ c. c.files) (λ files at bytes.
    Ok (record { table = table; at = version; files = files }, at, bytes))
    (files_tie count) (λ c h. record {
      count_is = sym h.0;
      order = h.1.1.1.order;
      each =
          recursion_from_All IsFile c.files h.1.1.1.each;
    }) (λ files are.
    let made : Checkpoint = record { table = table; at = version; files = files } in
    let fits : IsCheckpoint made = record {
      table = is_table;
      at = is_version;
      count = rw
          are.count_is is_count;
      order = are.order;
      each = All-from_recursion IsFile files are.each;
    }
    in
    Ties-as (λ c. (files ≡ c.files) ×
    ((count ≡ length c.files) × ((version ≡ c.at) × ((table ≡ c.table) × IsCheckpoint c))))
    (λ c. []) (λ c h. refl)
    (λ c e. subst (λ (x : Checkpoint). (files ≡ x.files) ×
    ((count ≡ length x.files) × ((version ≡ x.at) × ((table ≡ x.table) × IsCheckpoint x))))
    e (refl, (sym are.count_is, (refl, (refl, fits)))))
    (λ c h. cc)
    (Ties-made made)))))))
