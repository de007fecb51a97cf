-- A keeper in memory, which numbers its calls from 0 and fails at those that are listed.
use Rattle.std.specs.Prelude.{◌≡◌, ◌↔◌, ℕ, List, Option, Some, None, Result, length, Contains, IsErrOf, refl}
use Rattle.outside.specs.Faults.{one_more}
use Rattle.keepers.specs.Keeper.{Contents, Kept, Report, Fresh, Holding, IsCounted}
use Rattle.keepers.specs.declared.keeper.KeeperFault.{KeeperFault}
use Rattle.keepers.specs.declared.keeper.KeeperFault.TheVariants.{Failed}

pub record MemoryKeeper : Type 0 where
  -- what it holds; nothing while it is new
  pub store : Option Contents
  -- the numbers of the calls that fail
  pub fail_at : List ℕ
  -- the number of the next call
  pub number : ℕ
  pub faults : ℕ

abbrev pub report_of : Option Contents → Report
report_of None = Fresh
report_of (Some contents) = Holding contents

abbrev pub entry_count_of : Option Contents → ℕ
entry_count_of None = 0
entry_count_of (Some contents) = length contents.entries

-- what it reports
abbrev pub kept_of : MemoryKeeper → Kept
kept_of k = record { report = report_of k.store; entry_count = entry_count_of k.store; faults = k.faults }

pub report_of-counted : (store : Option Contents) → IsCounted (report_of store) (entry_count_of store)
report_of-counted None = refl
report_of-counted (Some contents) = refl

-- one more call was made, which failed where its number is listed
pub record HasCalled {T : Type 0} (old new : MemoryKeeper) (result : Result T KeeperFault) : Type 0 where
  pub failed : IsErrOf result Failed ↔ Contains old.fail_at old.number
  pub count : IsErrOf result Failed → new.faults ≡ one_more old.faults
  pub number : new.number ≡ one_more old.number
  pub fail_at : new.fail_at ≡ old.fail_at
