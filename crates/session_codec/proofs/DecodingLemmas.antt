-- Each part of the function that decodes says what its part of the definition says.
use Rattle.std.proofs.Common.{◌≡◌, ℕ, ◌≤◌, ◌==◌, ◌&&◌, not, Bool, true, false, List, None, Option, Some, cond, get_or, nat_le, option_and_then, refl, ap, ◌∙◌, subst}
use Rattle.std.proofs.lemmas.Bool.{and_parts, eqb-false, le-leb, leb-true, ne_eqb}
use Rattle.std.proofs.lemmas.Option.{option_and_then_some}
use Rattle.std.proofs.lemmas.Str.{IsUtf8-from_is_utf8, is_utf8-from_IsUtf8}
use Rattle.std.specs.Str.{is_utf8}
use Rattle.serde_json.specs.Data.{Data, null, boolean, number, string, array, object, Members, depth}
use Rattle.serde_json.specs.Find.{as_object}
use Rattle.serde_json.specs.Read.{read}
use Rattle.serde_json.specs.Written.{has_float}
use Rattle.ascii_json.specs.Profile.{Reads}
use Rattle.signing_core.specs.SignedJson.{SaysValue}
use Rattle.signing_core.specs.Decoding.{bytes_of}
use Rattle.signing_core.proofs.DecodingLemmas.{bytes_of-complete, bytes_of-sound}
use Rattle.session_codec.specs.Decoding.{members_of_json, members_of_value}

pub as_object-Some : (d : Data) (ms : Members) → as_object d ≡ Some ms → d ≡ object ms
as_object-Some null ms is = absurd (cc is)
as_object-Some (boolean b) ms is = absurd (cc is)
as_object-Some (number n) ms is = absurd (cc is)
as_object-Some (string s) ms is = absurd (cc is)
as_object-Some (array ds) ms is = absurd (cc is)
as_object-Some (object found) ms is = let same : found ≡ ms = cc is in ap object same

abbrev profile_object : Data → Option Members
profile_object d = cond (not (has_float d) && nat_le (depth d) 100) (as_object d) None

profile_object-sound : (d : Data) (ms : Members) → profile_object d ≡ Some ms → (d ≡ object ms) × (has_float d ≡ false) × (depth d ≤ 100)
profile_object-sound d ms is = at (not (has_float d) && nat_le (depth d) 100) refl is
  where
    not_true : (b : Bool) → not b ≡ true → b ≡ false
    not_true true is = absurd (cc is)
    not_true false is = refl

    at : (b : Bool) → (not (has_float d) && nat_le (depth d) 100) ≡ b → cond b (as_object d) None ≡ Some ms → (d ≡ object ms) × (has_float d ≡ false) × (depth d ≤ 100)
    at true passes is =
        let parts = and_parts (not (has_float d)) (nat_le (depth d) 100) passes in
        (as_object-Some d ms is, not_true (has_float d) parts.0, leb-true (depth d) 100 parts.1)
    at false passes is = absurd (cc is)

pub members_of_json-sound : (json : List ℕ) (ms : Members) → members_of_json json ≡ Some ms → Reads json (object ms)
unfolding members_of_json
members_of_json-sound json ms is = at (is_utf8 json) refl is
  where
    at : (b : Bool) → is_utf8 json ≡ b → cond b (option_and_then profile_object (read json)) None ≡ Some ms → Reads json (object ms)
    at true text is =
        option_and_then_some profile_object (read json) ms is
        (λ d says found.
        let profile = profile_object-sound d ms found in
        record {
          utf8 = IsUtf8-from_is_utf8 json text;
          says = says ∙ ap (λ (x : Data). Some x) profile.0;
          profile = subst (λ (x : Data). (has_float x ≡ false) × (depth x ≤ 100)) profile.0 (profile.1, profile.2);
        })
    at false text is = absurd (cc is)

pub members_of_json-complete : (json : List ℕ) (ms : Members) → Reads json (object ms) → members_of_json json ≡ Some ms
unfolding members_of_json
members_of_json-complete json ms reads =
    let flat : nat_le (depth (object ms)) 100 ≡ true = le-leb (depth (object ms)) 100 reads.profile.1 in
    let plain : not (has_float (object ms)) ≡ true = rw reads.profile.0 refl in
    let said : profile_object (object ms) ≡ Some ms = rw (plain, flat) refl in
    rw (is_utf8-from_IsUtf8 json reads.utf8) (ap (option_and_then profile_object) reads.says ∙ said)

pub members_of_value-sound : (value : List ℕ) (ms : Members) → members_of_value value ≡ Some ms → SaysValue value (object ms)
unfolding members_of_value
members_of_value-sound value ms is = at (get_or value 0 0 == 46) refl is
  where
    at : (b : Bool) → (get_or value 0 0 == 46) ≡ b → cond b None (option_and_then members_of_json (bytes_of value)) ≡ Some ms → SaysValue value (object ms)
    at true dot is = absurd (cc is)
    at false dot is =
        option_and_then_some members_of_json (bytes_of value) ms is
        (λ json encoded read.
        let bytes = bytes_of-sound value json encoded in
        record {
          json = json;
          payload_of_json = record { uncompressed = eqb-false _ 46 dot; bytes = bytes.0; encoded = bytes.1 };
          reads = members_of_json-sound json ms read;
        })

pub members_of_value-complete : (value : List ℕ) (ms : Members) → SaysValue value (object ms) → members_of_value value ≡ Some ms
unfolding members_of_value
members_of_value-complete value ms says =
    let undotted : (get_or value 0 0 == 46) ≡ false = ne_eqb _ 46 says.payload_of_json.uncompressed in
    rw undotted (ap (option_and_then members_of_json) (bytes_of-complete value says.json says.payload_of_json.bytes says.payload_of_json.encoded) ∙ members_of_json-complete says.json ms says.reads)
