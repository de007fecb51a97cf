-- Why a store couldn't be opened, and the keeper that comes back.
use Rattle.keepers.specs.declared.keeper.KeeperFault.{KeeperFault}
use Rattle.keepers.specs.declared.keeper.KeeperFault.TheVariants.{Failed, Memory as NoMemory}
use Rattle.session_engines.specs.declared.open_fault.OpenFault.{OpenFault}
use Rattle.session_engines.specs.declared.open_fault.OpenFault.TheVariants.{Keeper, Full, Memory}
use Rattle.session_engines.specs.declared.open_fault.StartFault.{StartFault}
use Rattle.session_engines.specs.declared.open_fault.StartFault.TheVariants.{Keeper as StartKeeper, Full as StartFull, Memory as StartMemory}

abbrev pub keeper_of : {K : Type 0} → OpenFault K → K
keeper_of (Keeper keeper) = keeper
keeper_of (Full keeper) = keeper
keeper_of (Memory keeper) = keeper

-- why its start was refused
abbrev pub cause_of : {K : Type 0} → OpenFault K → StartFault
cause_of (Keeper keeper) = StartKeeper
cause_of (Full keeper) = StartFull
cause_of (Memory keeper) = StartMemory

-- what a keeper's refusal is to a start
abbrev pub start_fault_of : KeeperFault → StartFault
start_fault_of Failed = StartKeeper
start_fault_of NoMemory = StartMemory
