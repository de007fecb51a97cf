-- What the store of a keeper in memory is seen as.
use Rattle.keepers.specs.Keeper.{Contents}
use Rattle.keepers.specs.declared.memory_keeper.Store.{Store}

abbrev pub contents_of : Store → Contents
contents_of store = record { opening = store.opening; tables = store.tables; entries = store.entries.items }
