-- The words of a race: one for each task, 0 or the attempt that won it.
use Rattle.std.specs.Prelude.{◌≡◌, ℕ, ◌+◌, ◌-◌, ◌<◌, ◌==◌, List, [], ◌∷◌, length, slice_index}
use mathlib.Core.Option.{some}
use lib.ListN.{get_elem?}
use prog.Atomic.{either}
use Rattle.atomic_table.specs.Table.{State, Me, Step}
use Rattle.race_claim.specs.declared.rule.Known.{Known}

abbrev pub known : List (ℕ × ℕ) → ℕ × ℕ → Known
known held last = record { held = held; last = last }

-- each pair is a task and the attempt that its word holds; the word of task 1 is the first
abbrev pub Knows : List ℕ → List (ℕ × ℕ) → Type 0
Knows words [] = Unit {0}
Knows words (p ∷ ps) = (0 < p.0) × (0 < p.1) × (slice_index words (p.0 - 1) ≡ p.1) × Knows words ps

-- there are words of which all of it is true
abbrev pub IsTrueOfSome : List (ℕ × ℕ) → Type 0
IsTrueOfSome held = (words : List ℕ) × Knows words held

-- the seat found r in a task's word, and knows since then that `held` holds the task
abbrev pub noted : Known → ℕ → ℕ → ℕ → Known
noted v task r held = known ((task, held) ∷ v.held) (task, r)

module _ {S : Type 0} where
  -- there are n words of 32 bits, and what each seat knows is true of them
  pub record Kept (n : ℕ) (s : State S Known) : Type 0 where
    pub wide : length s.words ≡ n
    pub small : (i : ℕ) → slice_index s.words i < 4294967296
    pub each : (seat : ℕ) (v : Known) → get_elem? s.views seat ≡ some v → Knows s.words v.held

  -- a claim by the step's second operand: where the word was 0, it holds that
  abbrev pub claimed : Step S → Me S Known → ℕ → Me S Known → Type 0
  claimed st m r m' = (r < 4294967296) ×
      (m'.0 ≡ noted m.0 (st.word + 1) r (either (r == 0) st.second r))
      × (m'.1 ≡ m.1)

  -- a look: what it found is known for good, where it isn't 0
  abbrev pub looked : Step S → Me S Known → ℕ → Me S Known → Type 0
  looked st m r m' = (r < 4294967296) × (r ≡ 0 → m'.0 ≡ known m.0.held (st.word + 1, r))
      × (0 < r → m'.0 ≡ noted m.0 (st.word + 1) r r) × (m'.1 ≡ m.1)

  -- what a seat knows is true of the words
  abbrev pub agrees : Step S → Me S Known → ℕ → Me S Known → Type 0
  agrees st m r m' = (m'.0 ≡ m.0) × (m'.1 ≡ m.1) × IsTrueOfSome m.0.held
