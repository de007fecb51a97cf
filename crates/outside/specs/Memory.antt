-- Devices in memory, which number their calls from 0 and fail at those that are listed.
use Rattle.std.specs.Prelude.{◌≡◌, ℕ, zero, suc, ◌-◌, min, Bool, true, false, List, [], ◌∷◌, ◌++◌, length, drop, Some, refl}
use Rattle.outside.specs.Devices.{Input, Output}
use Rattle.outside.specs.Faults.{one_more}

-- the number of the next call; a number stays at its type's greatest value once it is there
abbrev pub next_number : ℕ → ℕ
next_number number = one_more number

-- a source in memory
pub record MemoryInput : Type 0 where
  -- the bytes that are left
  pub left : List ℕ
  -- the greatest piece that a call gives
  pub most : ℕ
  -- the numbers of the calls that fail
  pub fail_at : List ℕ
  -- the number of the next call
  pub number : ℕ
  pub faults : ℕ

-- no call is listed to fail, and none has failed: it is so of a new source with an empty list
abbrev pub is_faultless : List ℕ → ℕ → Bool
is_faultless [] zero = true
is_faultless [] (suc faults) = false
is_faultless (number ∷ numbers) faults = false

-- what it reports
abbrev pub input_of : MemoryInput → Input
input_of i = record { left = Some i.left; faults = i.faults; never_fails = is_faultless i.fail_at i.faults }

pub is_faultless-no_faults : (fail_at : List ℕ) (faults : ℕ) → is_faultless fail_at faults ≡ true → faults ≡ 0
is_faultless-no_faults [] zero faultless = refl
is_faultless-no_faults [] (suc faults) faultless = cc
is_faultless-no_faults (number ∷ numbers) faults faultless = cc

-- the call failed, and took nothing
abbrev pub input_after_fault : MemoryInput → MemoryInput
input_after_fault i = record i { number = next_number i.number; faults = one_more i.faults }

-- how many bytes a call gives that doesn't fail
abbrev pub given_to : MemoryInput → ℕ → ℕ
given_to i room = min (min (length i.left) i.most) room

-- the call gave so many bytes
abbrev pub input_after : MemoryInput → ℕ → MemoryInput
input_after i count = record i { left = drop count i.left; number = next_number i.number }

-- a sink in memory
pub record MemoryOutput : Type 0 where
  -- the bytes that were written
  pub written : List ℕ
  -- how many more it has room for
  pub room : ℕ
  -- the greatest piece that a call takes
  pub most : ℕ
  -- the numbers of the calls that fail
  pub fail_at : List ℕ
  -- the number of the next call
  pub number : ℕ
  pub faults : ℕ

-- what it reports
abbrev pub output_of : MemoryOutput → Output
output_of o = record { written = Some o.written; faults = o.faults }

-- the call failed, and took nothing
abbrev pub output_after_fault : MemoryOutput → MemoryOutput
output_after_fault o = record o { number = next_number o.number; faults = one_more o.faults }

-- how many bytes of a piece a call takes that doesn't fail
abbrev pub taken_of : MemoryOutput → ℕ → ℕ
taken_of o length = min (min length o.most) o.room

-- the call took these bytes
abbrev pub output_after : MemoryOutput → List ℕ → MemoryOutput
output_after o piece = record o { written = o.written ++ piece; room = o.room - length piece; number = next_number o.number }
