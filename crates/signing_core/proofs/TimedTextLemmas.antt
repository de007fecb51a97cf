-- The four refusals of a timed text as one relation.
use Rattle.std.proofs.Common.{◌≡◌, ◌↔◌, ℕ, List, Option, Result}
use Rattle.std.specs.List.{Contains}
use Rattle.std.specs.Result.{IsErrOf}
use Rattle.signing_core.specs.declared.signer.SignFault.{SignFault}
use Rattle.signing_core.specs.declared.signer.TimedFault.{TimedFault}
use Rattle.signing_core.specs.declared.signer.TimedFault.TheVariants.{BadSignature, BadTime, Expired, NoSeparator}
use Rattle.signing_core.specs.Signature.{HasBadSignature, HasBadTime, IsExpired, separator}
use Rattle.signing_core.specs.TimedText.{HasTimedFault, IsTimedFaultOf}

pub faults_by_cases : {T : Type 0} (result : Result T TimedFault) (text prefix salt : List ℕ) (keys : List (List ℕ)) (now : ℕ) (max_age : Option ℕ)
    → (IsErrOf result NoSeparator ↔ (¬ Contains text separator))
    → (IsErrOf result BadSignature ↔ HasBadSignature text prefix salt keys)
    → (IsErrOf result BadTime ↔ HasBadTime text prefix salt keys)
    → ((age : ℕ) → IsErrOf result (Expired age) ↔ IsExpired text prefix salt keys now max_age age)
    → (fault : TimedFault) → IsErrOf result fault ↔ HasTimedFault text prefix salt keys now max_age fault
faults_by_cases result text prefix salt keys now max_age none bad untimed old NoSeparator = none
faults_by_cases result text prefix salt keys now max_age none bad untimed old BadSignature = bad
faults_by_cases result text prefix salt keys now max_age none bad untimed old BadTime = untimed
faults_by_cases result text prefix salt keys now max_age none bad untimed old (Expired age) = old age

-- a fault of the signature is no other one of the text with its time
pub not_bad_time : (fault : SignFault) (timed : TimedFault) → IsTimedFaultOf fault timed → timed ≡ BadTime → ⊥
not_bad_time SignFault.NoSeparator timed comes is = absurd (cc)
not_bad_time SignFault.BadSignature timed comes is = absurd (cc)

pub not_expired : (fault : SignFault) (timed : TimedFault) (age : ℕ) → IsTimedFaultOf fault timed → timed ≡ Expired age → ⊥
not_expired SignFault.NoSeparator timed age comes is = absurd (cc)
not_expired SignFault.BadSignature timed age comes is = absurd (cc)
