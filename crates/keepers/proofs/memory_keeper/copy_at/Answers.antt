use Rattle.std.proofs.Common.{ap, sym, ◌∙◌, Some, arith}
use Rattle.keepers.proofs.EntryLemmas.{entry_at-end, entry_at-get_or}
use Rattle.keepers.proofs.memory_keeper.copy_at.Goals as goal

pub returns-then-index-entries-clause-value : goal.returns-then-index-entries-clause-value
returns-then-index-entries-clause-value c = sym (entry_at-end c.args.entries.now c.args.index (omega arith))

pub returns-clause-value : goal.returns-clause-value
returns-clause-value c =
    let within = entry_at-get_or c.args.entries.now c.args.index c.index-entries-index.result (omega arith) in
    ap Some (c.in_ok-entry.ensures ∙ c.index-entries-index.is) ∙ sym within
