-- What the binder's calls answer.
use Rattle.std.specs.Prelude.{◌≡◌, Option, None, Some, Result, Ok, Err}
use Rattle.sql_model.specs.declared.replies.Refusal.{Refusal}
use Rattle.sql_binder.specs.declared.faults.BindFault.{BindFault}
use Rattle.sql_binder.specs.declared.faults.BindFault.TheVariants.{Refused, NoMemory}

-- A check refuses by this refusal, and is Ok where there is none. Nothing is said where memory ran
-- out.
abbrev pub Judges : {X : Type 0} → Result X BindFault → Option Refusal → Type 0
Judges (Ok x) refusal = refusal ≡ None
Judges (Err NoMemory) refusal = Unit {0}
Judges (Err (Refused r)) refusal = refusal ≡ Some r

-- the fact holds of the refusal that is answered
abbrev pub IfRefused : {X : Type 0} → Result X BindFault → (Refusal → Type 0) → Type 0
IfRefused (Ok x) P = Unit {0}
IfRefused (Err NoMemory) P = Unit {0}
IfRefused (Err (Refused r)) P = P r
