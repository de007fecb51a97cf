-- What is known of a text whose reading stopped.
use Rattle.std.proofs.Common.{◌≡◌, ℕ, List, Some, Err, refl, sym, subst, ◌∙◌}
use Rattle.serde_json.specs.Data.{Data}
use Rattle.ascii_json.specs.Profile.{Reads}
use Rattle.ascii_json.specs.declared.reading.JsonFault.{JsonFault}
use Rattle.ledger_rows.specs.declared.entry.Entry.{Entry}
use Rattle.entry_texts.specs.EntryFaults.{Gives, IsEntryFaultOfJson}
use Rattle.entry_texts.specs.EntryReading.{entry_in}
use Rattle.entry_texts.specs.EntryText.{IsEntryText, data_of}
use Rattle.entry_texts.specs.declared.reading.EntryFault.{EntryFault}
use Rattle.entry_texts.proofs.EntryLemmas.{read_back, text_reads}

-- the text is no entry's
abbrev pub IsNoEntry : List ℕ → Type 0
IsNoEntry text = (entry : Entry) → ¬ IsEntryText text entry

-- the fault says so
abbrev pub IsExact : List ℕ → EntryFault → Type 0
IsExact text fault = (fault ≡ EntryFault.Shape → IsNoEntry text) × (IsNoEntry text → fault ≡ EntryFault.Shape)

no_json : (text : List ℕ) → ((d : Data) → ¬ Reads text d) → IsNoEntry text
no_json text none entry is = none (data_of entry) (subst (λ (t : List ℕ). Reads t (data_of entry)) (sym is.says) (text_reads entry is.writable))

-- the JSON wasn't read
pub unread_exact : (text : List ℕ) (json : JsonFault) (fault : EntryFault) → (json ≡ JsonFault.NotJson → (d : Data) → ¬ Reads text d)
    → IsEntryFaultOfJson json fault → ¬ (fault ≡ EntryFault.Memory) → IsExact text fault
unread_exact text JsonFault.NotJson fault none is other = (λ shape. no_json text (none refl), λ no_entry. is)
unread_exact text JsonFault.Memory fault none is other = absurd (other is)

-- the value is of no entry's form
pub malformed_exact : (text : List ℕ) (d : Data) (fault : EntryFault) → Reads text d → Gives {A = Entry} (Err fault) (entry_in d)
    → ¬ (fault ≡ EntryFault.Memory) → IsExact text fault
malformed_exact text d EntryFault.Shape reads none other =
    (λ shape entry is. let some = sym (read_back text d entry reads is) ∙ none in cc some, λ no_entry. refl)
malformed_exact text d EntryFault.Memory reads none other = absurd (other refl)

-- the text isn't that of the entry that was made of it
pub other_text : (text : List ℕ) (d : Data) (found : Entry) → Reads text d → entry_in d ≡ Some found → ¬ IsEntryText text found → IsNoEntry text
other_text text d found reads made not_text entry is =
    let both : Some entry ≡ Some found = sym (read_back text d entry reads is) ∙ made in
    let same : entry ≡ found = cc in
    not_text (subst (IsEntryText text) same is)
