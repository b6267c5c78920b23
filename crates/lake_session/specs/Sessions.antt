-- A session as its callers see it.
use Rattle.std.specs.Prelude.{ℕ, Bool, refl}
use Rattle.std.specs.Coded.{Coded, code_by, coded×, coded_ℕ, coded_bool}

-- its number, its way to the store, and whether it ran out of memory
pub record SessionSeen (P : Type 0) : Type 0 where
  pub number : ℕ
  pub port : P
  pub spent : Bool

-- a session is stored as the tuple of its fields
abbrev pub session_code : {P : Type 0} → Coded P → Coded (SessionSeen P)
session_code {P} code =
    code_by (ℕ × (P × Bool)) (coded× coded_ℕ (coded× code coded_bool)) (λ s. (s.number, (s.port, s.spent)))
    (λ p. record { number = p.0; port = p.1.0; spent = p.1.1 }) (λ _. refl)
