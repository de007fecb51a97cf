-- An entry by its index, as the list of the audit list's entries has it.
use Rattle.std.proofs.Common.{◌≡◌, ◌<◌, ◌≤◌, ℕ, zero, suc, List, [], ◌∷◌, Some, None, get_or, length, refl, arith}
use Rattle.ledger_rows.specs.History.{entry_at}
use Rattle.ledger_rows.specs.declared.entry.Entry.{Entry}

pub entry_at-get_or : (entries : List Entry) (index : ℕ) (entry : Entry) → index < length entries → entry_at entries index ≡ Some (get_or entries index entry)
entry_at-get_or [] index entry low = absurd (omega arith)
entry_at-get_or (first ∷ rest) zero entry low = refl
entry_at-get_or (first ∷ rest) (suc index) entry low = entry_at-get_or rest index entry (omega arith)

pub entry_at-end : (entries : List Entry) (index : ℕ) → length entries ≤ index → entry_at entries index ≡ None
entry_at-end [] index high = refl
entry_at-end (first ∷ rest) zero high = absurd (omega arith)
entry_at-end (first ∷ rest) (suc index) high = entry_at-end rest index (omega arith)
