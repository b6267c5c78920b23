-- The rule of a pool: the servers in the queue and those that passes hold are all servers, each
-- once.
use Rattle.std.specs.Prelude.{◌≡◌, ℕ, zero, suc, ◌+◌, ◌-◌, ◌^◌, ◌<◌, ◌≤◌, ◌==◌, min, Bool, List, []}
use Rattle.std.specs.Prelude.{◌∷◌, ◌++◌, length, if◌then◌else◌, slice_index_or}
use mathlib.Core.Option.{some}
use lib.ListN.{get_elem?}
use Rattle.lake_values.specs.declared.names.Name.{Name}
use Rattle.server_pool.specs.declared.rule.Hand.{Hand}
use Rattle.server_pool.specs.declared.rule.Start.{Start}
use Rattle.server_pool.specs.declared.rule.Server.{Server}

abbrev pub hand : ℕ → List (ℕ × ℕ) → ℕ → ℕ → List Start → Hand
hand parts held rise lasts starts = record {
  parts = parts;
  held = held;
  rise = rise;
  lasts = lasts;
  starts = starts;
}

-- what the first pass knows, which has all parts
abbrev pub whole : List Start → Hand
whole starts = hand 17 [] 0 0 starts

-- after a split: a part is gone
abbrev pub less_a_part : Hand → Hand
less_a_part v = hand (v.parts - 1) v.held v.rise v.lasts v.starts

-- what the part knows
abbrev pub one_part : Hand → Hand
one_part v = hand 1 [] 0 0 v.starts

-- what two passes know that meet
abbrev pub joined : Hand → Hand → Hand
joined v w = hand (v.parts + w.parts) (v.held ++ w.held) (v.rise + w.rise) (v.lasts + w.lasts)
    v.starts

abbrev pub start : ℕ → List Name → Start
start faults deletions = record { faults = faults; deletions = deletions }

-- h of each, added up
abbrev pub weigh : {A : Type 0} → (A → ℕ) → List A → ℕ
weigh h [] = 0
weigh h (x ∷ xs) = h x + weigh h xs

abbrev pub one_if : Bool → ℕ
one_if b = if b then 1 else 0

-- how often k is among the numbers from 1 to n
abbrev pub numbered : ℕ → ℕ → ℕ
numbered k zero = 0
numbered k (suc n) = numbered k n + one_if (suc n == k)

-- 1 for a count that stands at its last value, else 0
abbrev pub at_last : ℕ → ℕ
at_last count = min 1 (count - (2 ^ 64 - 2))

-- without the first pair of the number k
abbrev pub without : ℕ → List (ℕ × ℕ) → List (ℕ × ℕ)
without k [] = []
without k (p ∷ ps) = if p.0 == k then ps else p ∷ without k ps

-- the count that was noted for the number k
abbrev pub noted : ℕ → List (ℕ × ℕ) → ℕ
noted k [] = 0
noted k (p ∷ ps) = if p.0 == k then p.1 else noted k ps

-- how often the number k is held
abbrev pub times : ℕ → List (ℕ × ℕ) → ℕ
times k = weigh (λ p. one_if (p.0 == k))

-- the counts that were noted, added up
abbrev pub notes : List (ℕ × ℕ) → ℕ
notes = weigh (λ p. p.1)

-- how many of the counts that were noted stand at their last value
abbrev pub last_notes : List (ℕ × ℕ) → ℕ
last_notes = weigh (λ p. at_last p.1)

-- the counts at the start, added up
abbrev pub first_sum : List Start → ℕ
first_sum = weigh (λ (s : Start). s.faults)

-- the list of deletions that the server of the number k told at the start
abbrev pub fixed_deletions : List Start → ℕ → List Name
fixed_deletions starts k = (slice_index_or starts (k - 1) (start 0 [])).deletions

-- it is held, and since then its count hasn't fallen
abbrev pub IsHeldAt : ℕ → ℕ → Hand → Type 0
IsHeldAt k now v = (0 < times k v.held) × (noted k v.held ≤ now)

module _ {P : Type 0} (faults : P → ℕ) where
  -- after a check-out
  abbrev pub took : Hand → Server P → Hand
  took v x = hand v.parts ((x.number, faults x.port) ∷ v.held) v.rise v.lasts v.starts

  -- after a give-back
  abbrev pub gave : Hand → Server P → Hand
  gave v x = hand v.parts (without x.number v.held)
      (v.rise + (faults x.port - noted x.number v.held))
      (v.lasts + at_last (faults x.port)) v.starts

module _ {P : Type 0} (faults : P → ℕ) (deletions : P → List Name) where
  abbrev pub start_of : P → Start
  start_of p = start (faults p) (deletions p)

  -- while the pool is filled
  abbrev pub added : Hand → Server P → Hand
  added v x = hand v.parts v.held v.rise v.lasts (v.starts ++ start_of x.port ∷ [])

module _ {P : Type 0} (deletions : P → List Name) where
  -- its number is one of the pool's, and its list of deletions is the one fixed for it
  abbrev pub IsFixed : List Start → Server P → Type 0
  IsFixed starts x = (0 < x.number) × (x.number ≤ length starts)
      × (deletions x.port ≡ fixed_deletions starts x.number)

-- a pass without parts holds nothing, and no rise or mark is its
abbrev pub IsIdle : Hand → Type 0
IsIdle v = v.parts ≡ 0 → (v.held ≡ []) × (v.rise ≡ 0) × (v.lasts ≡ 0)

-- how often the number k is in the queue
abbrev pub queued : {P : Type 0} → ℕ → List (Server P) → ℕ
queued {P} k = weigh (λ (s : Server P). one_if (s.number == k))

module _ {P : Type 0} (faults : P → ℕ) (deletions : P → List Name) where
  -- The parts are 17 together. Each number is in the queue or held, once. The counts in the queue
  -- and
  -- those noted are the ones at the start and all rises. Where a pass has the mark, one of these
  -- counts
  -- stands at its last value. A server in the queue has the list of deletions fixed for it.
  pub record Pooled (items : List (Server P)) (views : List Hand) : Type 0 where
    pub starts : List Start
    pub parts : weigh (λ (v : Hand). v.parts) views ≡ 17
    pub idle : (i : ℕ) (v : Hand) → get_elem? views i ≡ some v → IsIdle v
    pub same : (i : ℕ) (v : Hand) → get_elem? views i ≡ some v → 0 < v.parts → v.starts ≡ starts
    pub once : (k : ℕ) →
        queued k items + weigh (λ (v : Hand). times k v.held) views ≡ numbered k (length starts)
    pub few : length items + weigh (λ (v : Hand). length v.held) views ≡ length starts
    pub counts : weigh (λ (s : Server P). faults s.port) items
        + weigh (λ (v : Hand). notes v.held) views
        ≡ first_sum starts + weigh (λ (v : Hand). v.rise) views
    pub marked : 0 < weigh (λ (v : Hand). v.lasts) views →
        0 < weigh (λ (s : Server P). at_last (faults s.port)) items
        + weigh (λ (v : Hand). last_notes v.held) views
    pub fixed : (i : ℕ) (x : Server P) → get_elem? items i ≡ some x → IsFixed deletions starts x

-- a pass with all parts holds each server once, and its notes are the counts at the start and its
-- rise
pub record HoldsAll (v : Hand) : Type 0 where
  pub once : (k : ℕ) → times k v.held ≡ numbered k (length v.starts)
  pub few : length v.held ≡ length v.starts
  pub counts : notes v.held ≡ first_sum v.starts + v.rise
  pub marked : 0 < v.lasts → 0 < last_notes v.held

-- a pass with all parts holds all, where the queue is empty
abbrev pub HoldsRest : {P : Type 0} → Hand → List (Server P) → Type 0
HoldsRest v items = length items ≡ 0 → v.parts ≡ 17 → HoldsAll v

abbrev pub HasRoom : {P : Type 0} → Hand → List (Server P) → Type 0
HasRoom v items = length items < length v.starts

abbrev pub IsRoomToAdd : {P : Type 0} → Hand → List (Server P) → Type 0
IsRoomToAdd v items = length items ≤ length v.starts

-- a server is in the queue and no pass holds it
abbrev pub IsFresh : {P : Type 0} → Hand → Server P → Type 0
IsFresh v x = (times x.number v.held ≡ 0) × (length v.held < length v.starts)
