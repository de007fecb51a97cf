-- What reading a text that was signed with the time comes to.
use Rattle.std.specs.Prelude.{◌≡◌, ℕ, List, Contains, Option}
use Rattle.signing_core.specs.declared.signer.SignFault.{SignFault}
use Rattle.signing_core.specs.declared.signer.TimedFault.{TimedFault}
use Rattle.signing_core.specs.declared.signer.TimedFault.TheVariants.{BadSignature, BadTime, Expired, NoSeparator}
use Rattle.signing_core.specs.Signature.{HasBadSignature, HasBadTime, IsAllowed, IsExpired, IsTimestamped, age_at, separator}

-- the text is this value, signed with a time that is no longer ago than allowed
pub record IsCurrent (text value prefix salt : List ℕ) (keys : List (List ℕ)) (now : ℕ) (max_age : Option ℕ) : Type 0 where
  pub time : ℕ
  pub timestamped : IsTimestamped text value time prefix salt keys
  pub allowed : IsAllowed max_age (age_at time now)

-- a fault of the signature is one of the text with its time
abbrev pub IsTimedFaultOf : SignFault → TimedFault → Type 0
IsTimedFaultOf SignFault.NoSeparator fault = fault ≡ NoSeparator
IsTimedFaultOf SignFault.BadSignature fault = fault ≡ BadSignature

-- the text is refused for this reason
abbrev pub HasTimedFault : List ℕ → List ℕ → List ℕ → List (List ℕ) → ℕ → Option ℕ → TimedFault → Type 0
HasTimedFault text prefix salt keys now max_age NoSeparator = ¬ Contains text separator
HasTimedFault text prefix salt keys now max_age BadSignature = HasBadSignature text prefix salt keys
HasTimedFault text prefix salt keys now max_age BadTime = HasBadTime text prefix salt keys
HasTimedFault text prefix salt keys now max_age (Expired age) = IsExpired text prefix salt keys now max_age age
