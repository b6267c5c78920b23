-- The lake between two statements of a script, and what a statement more leaves of this.
use Rattle.std.proofs.Common.{◌≡◌, ℕ, ◌+◌, ◌*◌, ◌^◌, ◌<◌, ◌≤◌, true, false, Option, length, sym, ap, ◌∙◌, subst, arith, ⊎_elim}
use Rattle.std.specs.Prelude.{IfSome}
use Rattle.std.specs.Option.{option_map_or}
use Rattle.std.proofs.lemmas.Bool.{cases_eq}
use Rattle.sql_model.specs.declared.replies.Reply.{Reply}
use Rattle.sql_model.specs.declared.scripts.Numbered.{Numbered}
use Rattle.lake_model.specs.State.{Transaction, next_part}
use Rattle.lake_core.specs.Lakes.{Lake, IsExplicit, is_reserved, state_of}
use Rattle.lake_session.specs.Runs.{Leaves, MayRun, Ran}

-- so many statements have run: no room is reserved, BEGIN opened each transaction, and none has more parts
pub record IsBetween (lake : Lake) (count : ℕ) : Type 0 where
  pub unreserved : (session : ℕ) → is_reserved lake session ≡ false
  pub explicit : (session : ℕ) → IsExplicit (state_of lake) session
  pub parts : (session : ℕ) → next_part (state_of lake) session ≤ count + 1

-- so a session may run a statement
pub may_run : (lake : Lake) (count session : ℕ) → IsBetween lake count → length lake.entries ≤ 3 * count → count + 1 < 2 ^ 32 → MayRun lake session
may_run lake count session between few more =
    let parts = between.parts session in
    record { few = omega (arith, few, more); part = omega (arith, parts, more); explicit = between.explicit session; unreserved = between.unreserved session }

module _ (old new : Lake) (n : Numbered) (reply : Reply) (count : ℕ) (between : IsBetween old count) (ran : Ran old new n reply) (leaves : Leaves old new n.session) where
  explicit_now : (other : ℕ) → IsExplicit (state_of new) other
  explicit_now other =
      ⊎_elim
      (λ same. let P : ℕ → Type 0 = λ s. IsExplicit (state_of new) s in subst P (sym same) ran.explicit)
      (λ another. let P : Option Transaction → Type 0 = λ t. IfSome t (λ t. t.explicit ≡ true) in subst P (sym (leaves.transactions other another)) (between.explicit other))
      (cases_eq other n.session)

  unreserved_now : (other : ℕ) → is_reserved new other ≡ false
  unreserved_now other =
      ⊎_elim
      (λ same. ap (λ (s : ℕ). is_reserved new s) same ∙ ran.unreserved)
      (λ another. leaves.rooms other another ∙ between.unreserved other)
      (cases_eq other n.session)

  parts_now : (other : ℕ) → next_part (state_of new) other ≤ count + 1 + 1
  parts_now other =
      ⊎_elim
      (λ same. let before = between.parts n.session in let now = ap (λ (s : ℕ). next_part (state_of new) s) same in omega (arith, before, now, ran.parts))
      (λ another. let before = between.parts other in
      let now = ap (λ (t : Option Transaction). option_map_or (λ t. t.parts + 1) t 1) (leaves.transactions other another) in omega (arith, before, now))
      (cases_eq other n.session)

  pub one_ran : IsBetween new (count + 1)
  one_ran = record { unreserved = unreserved_now; explicit = explicit_now; parts = parts_now }
