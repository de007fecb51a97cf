-- The array of an entry is a value that is written, and is read as that entry.
use Rattle.std.proofs.Common.{◌≡◌, List, ℕ, ◌++◌, Option, None, Some, Result, refl, sym, ap, ◌∙◌, arith}
use Rattle.std.specs.Result.{result_ok}
use Rattle.hex.specs.declared.error.FromHexError.{FromHexError}
use Rattle.hex.proofs.HexLemmas.{decode_of-encode_lower}
use Rattle.serde_json.specs.Data.{Data, array}
use Rattle.serde_json.specs.View.{items_of}
use Rattle.ascii_json.specs.Profile.{IsProfile, Reads}
use Rattle.ascii_json.proofs.WrittenReadsBack.{reads_back}
use Rattle.ledger_rows.specs.declared.entry.Entry.{Entry}
use Rattle.ledger_rows.specs.declared.entry.Tag.{Tag}
use Rattle.ledger_rows.specs.declared.operation.Op.{Op}
use Rattle.ledger_rows.specs.declared.operation.Op.TheVariants.{Load, RotateKey}
use Rattle.entry_texts.specs.EntryReading.{entry_in, entry_of, op_in, ◌>>=◌}
use Rattle.entry_texts.specs.EntryText.{HasKeyBytes, IsEntryText, IsWritable, data_of, head_of, parts_of, text_of_entry}

abbrev array_of : Tag → Op → Data
array_of tag op = array (items_of (head_of tag ++ parts_of op))

-- a cookie is there or not, and otherwise each operation computes
array_profile : (tag : Tag) (op : Op) → IsProfile (array_of tag op)
array_profile tag (Load None now) = (refl, omega arith)
array_profile tag (Load (Some cookie) now) = (refl, omega arith)
array_profile tag _ = (refl, omega arith)

pub data_of_profile : (entry : Entry) → IsProfile (data_of entry)
data_of_profile entry = array_profile entry.tag entry.op

array_op : (tag : Tag) (op : Op) → HasKeyBytes op → op_in (array_of tag op) ≡ Some op
array_op tag (Load None now) h = refl
array_op tag (Load (Some cookie) now) h = refl
array_op tag (RotateKey key) h =
    ap (λ (found : Result (List ℕ) FromHexError). result_ok found >>= (λ (bytes : List ℕ). Some (RotateKey bytes))) (decode_of-encode_lower key h)
array_op tag _ h = refl

-- the array of an entry is read as that entry
pub data_of_back : (entry : Entry) → HasKeyBytes entry.op → entry_in (data_of entry) ≡ Some entry
data_of_back entry h = ap (λ (found : Option Op). found >>= (λ (op : Op). Some (record { tag = entry.tag; op = op }))) (array_op entry.tag entry.op h)

-- its text is JSON text of it
pub text_reads : (entry : Entry) → IsWritable entry → Reads (text_of_entry entry) (data_of entry)
text_reads entry writable = reads_back (data_of entry) writable.values (data_of_profile entry)

pub text_back : (entry : Entry) → IsWritable entry → entry_of (text_of_entry entry) ≡ Some entry
text_back entry writable = ap (λ (found : Option Data). found >>= entry_in) (text_reads entry writable).says ∙ data_of_back entry writable.key

-- what was read of an entry's text is that entry
pub read_back : (text : List ℕ) (d : Data) (entry : Entry) → Reads text d → IsEntryText text entry → entry_in d ≡ Some entry
read_back text d entry reads is =
    sym (ap (λ (found : Option Data). found >>= entry_in) reads.says) ∙ ap entry_of is.says ∙ text_back entry is.writable
