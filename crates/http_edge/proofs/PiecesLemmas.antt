-- What the last read said, while a head is looked for.
use Rattle.std.proofs.Common.{◌≡◌, ◌⊎◌, ℕ, ◌+◌, ◌-◌, ◌<◌, ◌≤◌, Bool, true, false, List, length, Result, Ok, Err, IfOk, IfErr, IsErrOf, refl, arith}
use Rattle.outside.specs.Devices.{Input, HasEnded}
use Rattle.outside.specs.Faults.{Rose}
use Rattle.http_edge.specs.Stream.{ReadsOn}
use Rattle.http_edge.specs.declared.request.EdgeFault.{EdgeFault}
use Rattle.http_edge.specs.declared.request.EdgeFault.TheVariants.{ReadFault, Memory}

-- the bytes were read, and the last read gave some, or found the end, or failed
pub record IsReadTo (old : List ℕ) (before : Input) (bytes : List ℕ) (now : Input) (more : Result Bool EdgeFault) : Type 0 where
  pub reads : ReadsOn old before bytes now
  pub ended : IfOk more (λ some. some ≡ false → HasEnded now)
  pub faults : IfErr more (λ e. (e ≡ ReadFault) ⊎ (e ≡ Memory))
  pub cause : IsErrOf more ReadFault → Rose before.faults now.faults

-- one where another read follows
abbrev pub reads_left : Result Bool EdgeFault → ℕ
reads_left (Ok true) = 1
reads_left (Ok false) = 0
reads_left (Err e) = 0

-- a read gives more bytes, or it is the last
pub fewer_left : (bytes longer : List ℕ) (more : Result Bool EdgeFault) → length bytes < 16384 → length bytes ≤ length longer
    → IfOk more (λ some. some ≡ true → length bytes < length longer) → (16384 - length longer) + reads_left more < (16384 - length bytes) + 1
fewer_left bytes longer (Ok true) short kept grows = let grown : length bytes < length longer = grows refl in omega arith
fewer_left bytes longer (Ok false) short kept grows = omega arith
fewer_left bytes longer (Err e) short kept grows = omega arith
