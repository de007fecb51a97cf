-- The function that decodes is the definition.
use Rattle.std.proofs.Common.{◌≡◌, ◌↔◌, ◌⊎◌, ℕ, ◌^◌, ◌<◌, Bool, true, false, List, [], Contains, None, Option, Some, Result, Ok, Err, arith, cond, inl, inr, nat_lt, refl, sym, ap, ◌∙◌, subst}
use Rattle.std.proofs.lemmas.Bool.{lt-ltb, ltb-false, ltb-true}
use Rattle.std.specs.Option.{IsSomeAnd}
use Rattle.serde_json.specs.Data.{Data, Members, object}
use Rattle.serde_json.specs.Find.{as_object}
use Rattle.ascii_json.specs.declared.reading.JsonFault.{JsonFault}
use Rattle.ascii_json.specs.Profile.{Reads}
use Rattle.ascii_json.proofs.WrittenReadsBack.{reads_back}
use Rattle.signing_core.specs.declared.signed_json.LoadFault.{LoadFault}
use Rattle.signing_core.specs.declared.signer.TimedFault.TheVariants.{Expired as TimedExpired}
use Rattle.signing_core.specs.Keys.{key_at}
use Rattle.signing_core.specs.Signature.{IsAllowed, IsExpired, IsTimestamped, age_at}
use Rattle.signing_core.specs.SignedJson.{IsDumped}
use Rattle.signing_core.proofs.SignatureLemmas.{allowed_not_beyond, timestamped_text_tells_value}
use Rattle.signing_core.proofs.SignedJsonLemmas.{dumped_text_tells_value, dumped_while_listed, reads_once}
use Rattle.signing_core.specs.Decoding.{signed_value}
use Rattle.signing_core.proofs.DecodingLemmas.{signed_value-complete, signed_value-sound}
use Rattle.session_codec.specs.DecodeFaults.{IsDecodeFaultOf, IsDecodeFaultOfJson}
use Rattle.session_codec.specs.Decoding.{is_beyond, map_or_corrupt, members_of_value, outcome}
use Rattle.session_codec.specs.SessionMap.{IsSession}
use Rattle.session_codec.specs.SessionText.{Encodes, decoded, map_of_payload, max_age_of, payload_of, salt_of, text_of}
use Rattle.session_codec.specs.declared.session_text.DecodeFault.{DecodeFault}
use Rattle.session_codec.specs.declared.session_text.DecodeFault.TheVariants.{Corrupt, Expired, Memory}
use Rattle.session_codec.specs.declared.session_text.SessionKind.{SessionKind}
use Rattle.session_codec.proofs.DecodingLemmas.{as_object-Some, members_of_json-complete, members_of_json-sound, members_of_value-complete, members_of_value-sound}

-- ---- ages

beyond_true : (max_age : Option ℕ) (age : ℕ) → IsSomeAnd max_age (λ most. most < age) → is_beyond max_age age ≡ true
beyond_true None age beyond = absurd beyond
beyond_true (Some most) age beyond = lt-ltb most age beyond

true_beyond : (max_age : Option ℕ) (age : ℕ) → is_beyond max_age age ≡ true → IsSomeAnd max_age (λ most. most < age)
true_beyond None age is = absurd (cc is)
true_beyond (Some most) age is = ltb-true most age is

allowed_false : (max_age : Option ℕ) (age : ℕ) → IsAllowed max_age age → is_beyond max_age age ≡ false
allowed_false None age allowed = refl
allowed_false (Some most) age allowed = at (nat_lt most age) refl
  where
    at : (b : Bool) → nat_lt most age ≡ b → b ≡ false
    at true is = absurd (omega (arith, ltb-true most age is, allowed))
    at false is = refl

false_allowed : (max_age : Option ℕ) (age : ℕ) → is_beyond max_age age ≡ false → IsAllowed max_age age
false_allowed None age is = tt
false_allowed (Some most) age is = ltb-false most age is

-- ---- outcomes by cases

-- what an outcome says of the value that was signed
abbrev Says : Option ℕ → ℕ → List ℕ → ℕ → Result Members DecodeFault → Type 0
Says max_age now value time (Ok ms) = (members_of_value value ≡ Some ms) × IsAllowed max_age (age_at time now)
Says max_age now value time (Err Corrupt) = (members_of_value value ≡ None) × IsAllowed max_age (age_at time now)
Says max_age now value time (Err (Expired age)) = (age ≡ age_at time now) × IsSomeAnd max_age (λ most. most < age_at time now)
Says max_age now value time (Err Memory) = ⊥

says_read : (max_age : Option ℕ) (now : ℕ) (value : List ℕ) (time : ℕ) (o : Option Members) → members_of_value value ≡ o → IsAllowed max_age (age_at time now)
    → Says max_age now value time (map_or_corrupt o)
says_read max_age now value time None is allowed = (is, allowed)
says_read max_age now value time (Some ms) is allowed = (is, allowed)

says_by : (b : Bool) (max_age : Option ℕ) (now : ℕ) (value : List ℕ) (time : ℕ) → is_beyond max_age (age_at time now) ≡ b
    → Says max_age now value time (cond b (Err (Expired (age_at time now))) (map_or_corrupt (members_of_value value)))
says_by true max_age now value time is = (refl, true_beyond max_age (age_at time now) is)
says_by false max_age now value time is = says_read max_age now value time (members_of_value value) refl (false_allowed max_age (age_at time now) is)

says : (max_age : Option ℕ) (now : ℕ) (value : List ℕ) (time : ℕ) → Says max_age now value time (outcome max_age now (Some (value, time)))
says max_age now value time = says_by (is_beyond max_age (age_at time now)) max_age now value time refl

decoded-signed : (kind : SessionKind) (keys : List (List ℕ)) (now : ℕ) (text value : List ℕ) (time : ℕ) → IsTimestamped text value time [] (salt_of kind) keys
    → decoded kind keys now text ≡ outcome (max_age_of kind) now (Some (value, time))
unfolding decoded
decoded-signed kind keys now text value time stamped = ap (outcome (max_age_of kind) now) (signed_value-complete text (salt_of kind) value time keys stamped)

-- a text that isn't signed is corrupt, another one comes to what its value says
abbrev Comes : SessionKind → List (List ℕ) → ℕ → List ℕ → Result Members DecodeFault → Type 0
Comes kind keys now text r = (r ≡ Err Corrupt) ⊎ ((value : List ℕ) × (time : ℕ) × IsTimestamped text value time [] (salt_of kind) keys × Says (max_age_of kind) now value time r)

comes_at : (kind : SessionKind) (keys : List (List ℕ)) (now : ℕ) (text : List ℕ) (o : Option (List ℕ × ℕ)) → signed_value text (salt_of kind) keys ≡ o → Comes kind keys now text (outcome (max_age_of kind) now o)
comes_at kind keys now text None is = inl refl
comes_at kind keys now text (Some part) is =
    inr (part.0, part.1, signed_value-sound text (salt_of kind) part.0 part.1 keys is, says (max_age_of kind) now part.0 part.1)

comes : (kind : SessionKind) (keys : List (List ℕ)) (now : ℕ) (text : List ℕ) → Comes kind keys now text (decoded kind keys now text)
unfolding decoded
comes kind keys now text = comes_at kind keys now text (signed_value text (salt_of kind) keys) refl

-- ---- the laws

abbrev IsCurrentMap : SessionKind → List (List ℕ) → ℕ → List ℕ → Members → Type 0
IsCurrentMap kind keys now text ms = (time : ℕ) × Encodes kind keys text ms time × IsAllowed (max_age_of kind) (age_at time now)

pub decoded-encodes : (kind : SessionKind) (keys : List (List ℕ)) (now : ℕ) (text : List ℕ) (ms : Members) → decoded kind keys now text ≡ Ok ms → IsCurrentMap kind keys now text ms
decoded-encodes kind keys now text ms is = elim (rw is at (comes kind keys now text)) [
  | inl corrupt ↦ absurd (cc corrupt)
  | inr found ↦ (
    found.1,
    record { payload = found.0; timestamped = found.2; says = members_of_value-sound found.0 ms found.3.0 },
    found.3.1,
  )
]

pub encodes-decoded : (kind : SessionKind) (keys : List (List ℕ)) (now : ℕ) (text : List ℕ) (ms : Members) → IsCurrentMap kind keys now text ms → decoded kind keys now text ≡ Ok ms
encodes-decoded kind keys now text ms current =
    let dumped = current.1 in
    let young = allowed_false (max_age_of kind) (age_at current.0 now) current.2 in
    let said = members_of_value-complete dumped.payload ms dumped.says in
    decoded-signed kind keys now text dumped.payload current.0 dumped.timestamped ∙ rw (young, said) refl

pub decoded-expired : (kind : SessionKind) (keys : List (List ℕ)) (now : ℕ) (text : List ℕ) (age : ℕ) → decoded kind keys now text ≡ Err (Expired age)
    → IsExpired text [] (salt_of kind) keys now (max_age_of kind) age
decoded-expired kind keys now text age is = elim (rw is at (comes kind keys now text)) [
  | inl corrupt ↦ absurd (cc corrupt)
  | inr found ↦ record {
    value = found.0;
    time = found.1;
    timestamped = found.2;
    age_is = found.3.0;
    beyond = subst (λ (a : ℕ). IsSomeAnd (max_age_of kind) (λ most. most < a)) (sym found.3.0) found.3.1;
  }
]

pub expired-decoded : (kind : SessionKind) (keys : List (List ℕ)) (now : ℕ) (text : List ℕ) (age : ℕ) → IsExpired text [] (salt_of kind) keys now (max_age_of kind) age
    → decoded kind keys now text ≡ Err (Expired age)
expired-decoded kind keys now text age old =
    let beyond = beyond_true (max_age_of kind) (age_at old.time now) (subst (λ (a : ℕ). IsSomeAnd (max_age_of kind) (λ most. most < a)) old.age_is old.beyond) in
    decoded-signed kind keys now text old.value old.time old.timestamped ∙ rw beyond (ap (λ (a : ℕ). Err (Expired a)) (sym old.age_is))

-- what is neither a map nor expired is corrupt
pub decoded-left : (kind : SessionKind) (keys : List (List ℕ)) (now : ℕ) (text : List ℕ) → ((ms : Members) → ¬ IsCurrentMap kind keys now text ms)
    → ((age : ℕ) → ¬ IsExpired text [] (salt_of kind) keys now (max_age_of kind) age) → decoded kind keys now text ≡ Err Corrupt
decoded-left kind keys now text no_map young = at (decoded kind keys now text) refl
  where
    at : (r : Result Members DecodeFault) → decoded kind keys now text ≡ r → r ≡ Err Corrupt
    at (Ok ms) is = absurd (no_map ms (decoded-encodes kind keys now text ms is))
    at (Err Corrupt) is = refl
    at (Err (Expired age)) is = absurd (young age (decoded-expired kind keys now text age is))
    at (Err Memory) is = elim (rw is at (comes kind keys now text)) [ inl corrupt ↦ corrupt | inr found ↦ absurd found.3 ]

pub encoded_decodes : (kind : SessionKind) (ms : Members) (signers keys : List (List ℕ)) (time now : ℕ) → IsSession ms → time < 2 ^ 64 → Contains keys (key_at signers 0)
    → IsAllowed (max_age_of kind) (age_at time now) → decoded kind keys now (text_of kind ms signers time) ≡ Ok ms
encoded_decodes kind ms signers keys time now session fits listed allowed =
    encodes-decoded kind keys now (text_of kind ms signers time) ms
    (time, dumped_while_listed (object ms) (salt_of kind) (key_at signers 0) time keys session.1 session.0 fits listed, allowed)

pub text_tells_map : (kind other : SessionKind) (keys others : List (List ℕ)) (now later : ℕ) (text : List ℕ) (first second : Members)
    → decoded kind keys now text ≡ Ok first → decoded other others later text ≡ Ok second → first ≡ second
text_tells_map kind other keys others now later text first second one two =
    let a = decoded-encodes kind keys now text first one in
    let b = decoded-encodes other others later text second two in
    let same : object first ≡ object second = (dumped_text_tells_value text (salt_of kind) (salt_of other) (object first) (object second) a.0 b.0 keys others a.1 b.1).0 in
    cc same

-- ---- what was loaded

-- a value that was loaded, for the kind's salt and limit
pub object_decoded : (kind : SessionKind) (keys : List (List ℕ)) (now : ℕ) (text salt : List ℕ) (max_age : Option ℕ) (d : Data) (ms : Members) → salt ≡ salt_of kind → max_age ≡ max_age_of kind
    → (time : ℕ) × IsDumped text d time salt keys × IsAllowed max_age (age_at time now) → as_object d ≡ Some ms → decoded kind keys now text ≡ Ok ms
object_decoded kind keys now text salt max_age d ms salt_is age_is loaded is =
    let dumped : IsDumped text (object ms) loaded.0 (salt_of kind) keys = subst (λ s. IsDumped text (object ms) loaded.0 s keys) salt_is (subst (λ x. IsDumped text x loaded.0 salt keys) (as_object-Some d ms is) loaded.1) in
    encodes-decoded kind keys now text ms (loaded.0, dumped, subst (λ a. IsAllowed a (age_at loaded.0 now)) age_is loaded.2)

pub other_decoded : (kind : SessionKind) (keys : List (List ℕ)) (now : ℕ) (text salt : List ℕ) (max_age : Option ℕ) (d : Data) → salt ≡ salt_of kind → max_age ≡ max_age_of kind
    → (time : ℕ) × IsDumped text d time salt keys × IsAllowed max_age (age_at time now) → as_object d ≡ None → decoded kind keys now text ≡ Err Corrupt
other_decoded kind keys now text salt max_age d salt_is age_is loaded is =
    decoded-left kind keys now text
    (λ ms current.
    let same : d ≡ object ms = (dumped_text_tells_value text salt (salt_of kind) d (object ms) loaded.0 current.0 keys keys loaded.1 current.1).0 in
    let none : as_object (object ms) ≡ None = rw same at is in
    cc none)
    (λ age old.
    let allowed : IsAllowed (max_age_of kind) (age_at loaded.0 now) = subst (λ a. IsAllowed a (age_at loaded.0 now)) age_is loaded.2 in
    let same : loaded.0 ≡ old.time =
    (timestamped_text_tells_value text loaded.1.payload old.value [] salt [] (salt_of kind) loaded.0 old.time keys keys loaded.1.timestamped old.timestamped).1 in
    let aged : age_at loaded.0 now ≡ age = ap (λ (t : ℕ). age_at t now) same ∙ sym old.age_is in
    allowed_not_beyond (max_age_of kind) age (subst (IsAllowed (max_age_of kind)) aged allowed) old.beyond)

-- where nothing was loaded, and nothing was too old
pub refused_decoded : (kind : SessionKind) (keys : List (List ℕ)) (now : ℕ) (text salt : List ℕ) (max_age : Option ℕ) → salt ≡ salt_of kind → max_age ≡ max_age_of kind
    → ((d : Data) (time : ℕ) → IsDumped text d time salt keys → ¬ IsAllowed max_age (age_at time now))
    → ((age : ℕ) → ¬ IsExpired text [] salt keys now max_age age) → decoded kind keys now text ≡ Err Corrupt
refused_decoded kind keys now text salt max_age salt_is age_is none young =
    decoded-left kind keys now text
    (λ ms current.
    none (object ms) current.0 (subst (λ s. IsDumped text (object ms) current.0 s keys) (sym salt_is) current.1)
    (subst (λ a. IsAllowed a (age_at current.0 now)) (sym age_is) current.2))
    (λ age old. young age (subst (λ s. IsExpired text [] s keys now max_age age) (sym salt_is) (subst (λ a. IsExpired text [] (salt_of kind) keys now a age) (sym age_is) old)))

pub old_decoded : (kind : SessionKind) (keys : List (List ℕ)) (now : ℕ) (text salt : List ℕ) (max_age : Option ℕ) (age : ℕ) → salt ≡ salt_of kind → max_age ≡ max_age_of kind
    → IsExpired text [] salt keys now max_age age → decoded kind keys now text ≡ Err (Expired age)
old_decoded kind keys now text salt max_age age salt_is age_is old =
    expired-decoded kind keys now text age (subst (λ a. IsExpired text [] (salt_of kind) keys now a age) age_is (subst (λ s. IsExpired text [] s keys now max_age age) salt_is old))

-- a text that wasn't loaded, for this fault
pub record IsRefused (text salt : List ℕ) (keys : List (List ℕ)) (now : ℕ) (max_age : Option ℕ) (fault : LoadFault) : Type 0 where
  pub unread : (d : Data) (time : ℕ) → IsDumped text d time salt keys → IsAllowed max_age (age_at time now) → fault ≡ LoadFault.Memory
  pub old : (age : ℕ) → (fault ≡ LoadFault.Timed (TimedExpired age)) ↔ IsExpired text [] salt keys now max_age age

pub refused-expired : (kind : SessionKind) (keys : List (List ℕ)) (now : ℕ) (text salt : List ℕ) (max_age : Option ℕ) (loaded : LoadFault) (fault : DecodeFault) (age : ℕ)
    → salt ≡ salt_of kind → max_age ≡ max_age_of kind → IsRefused text salt keys now max_age loaded → IsDecodeFaultOf loaded fault
    → (fault ≡ Expired age) ↔ (decoded kind keys now text ≡ Err (Expired age))
refused-expired kind keys now text salt max_age loaded fault age salt_is age_is refused comes = (
  λ is. old_decoded kind keys now text salt max_age age salt_is age_is ((refused.old age).0 ((comes.expired age).0 is)),
  λ is.
      let old = decoded-expired kind keys now text age is in
      let there = subst (λ s. IsExpired text [] s keys now max_age age) (sym salt_is) (subst (λ a. IsExpired text [] (salt_of kind) keys now a age) (sym age_is) old) in
      (comes.expired age).1 ((refused.old age).1 there),
)

pub refused-corrupt : (kind : SessionKind) (keys : List (List ℕ)) (now : ℕ) (text salt : List ℕ) (max_age : Option ℕ) (loaded : LoadFault) (fault : DecodeFault)
    → salt ≡ salt_of kind → max_age ≡ max_age_of kind → IsRefused text salt keys now max_age loaded → IsDecodeFaultOf loaded fault → ¬ (fault ≡ Memory)
    → (fault ≡ Corrupt) ↔ (decoded kind keys now text ≡ Err Corrupt)
refused-corrupt kind keys now text salt max_age loaded fault salt_is age_is refused comes other = (
  λ is. refused_decoded kind keys now text salt max_age salt_is age_is
      (λ d time dumped allowed. other (comes.memory.1 (refused.unread d time dumped allowed)))
      (λ age old. let expired = (comes.expired age).1 ((refused.old age).1 old) in absurd (cc (is, expired))),
  λ corrupt. at fault refl corrupt,
)
  where
    at : (f : DecodeFault) → fault ≡ f → decoded kind keys now text ≡ Err Corrupt → fault ≡ Corrupt
    at Corrupt is corrupt = is
    at (Expired age) is corrupt =
        let old = (refused-expired kind keys now text salt max_age loaded fault age salt_is age_is refused comes).0 is in
        absurd (cc (old, corrupt))
    at Memory is corrupt = absurd (other is)

-- ---- payloads

pub payload-read : (text : List ℕ) (ms : Members) → map_of_payload text ≡ Some ms → Reads text (object ms)
unfolding map_of_payload
payload-read text ms = members_of_json-sound text ms

pub read-payload : (text : List ℕ) (ms : Members) → Reads text (object ms) → map_of_payload text ≡ Some ms
unfolding map_of_payload
read-payload text ms = members_of_json-complete text ms

pub object_payload : (text : List ℕ) (d : Data) (ms : Members) → Reads text d → as_object d ≡ Some ms → map_of_payload text ≡ Some ms
object_payload text d ms reads is = read-payload text ms (subst (Reads text) (as_object-Some d ms is) reads)

pub other_payload : (text : List ℕ) → ((ms : Members) → ¬ Reads text (object ms)) → map_of_payload text ≡ None
other_payload text none = at (map_of_payload text) refl
  where
    at : (o : Option Members) → map_of_payload text ≡ o → o ≡ None
    at None is = refl
    at (Some ms) is = absurd (none ms (payload-read text ms is))

pub reads_other : (text : List ℕ) (d : Data) → Reads text d → as_object d ≡ None → map_of_payload text ≡ None
reads_other text d reads is = other_payload text (λ ms again.
    let same : d ≡ object ms = reads_once text d (object ms) reads again in
    let none : as_object (object ms) ≡ None = rw same at is in
    cc none)

pub payload_reads_back : (ms : Members) → IsSession ms → map_of_payload (payload_of ms) ≡ Some ms
payload_reads_back ms session = read-payload (payload_of ms) ms (reads_back (object ms) session.1 session.0)

pub payload_tells_map : (first second : Members) → IsSession first → IsSession second → payload_of first ≡ payload_of second → first ≡ second
payload_tells_map first second one other same =
    let both : Some first ≡ Some second = sym (payload_reads_back first one) ∙ ap map_of_payload same ∙ payload_reads_back second other in
    cc both

-- JSON that wasn't read
pub unread_payload : (text : List ℕ) (read : JsonFault) (fault : DecodeFault) → IsDecodeFaultOfJson read fault → ((¬ (read ≡ JsonFault.Memory)) → read ≡ JsonFault.NotJson → (d : Data) → ¬ Reads text d)
    → ¬ (fault ≡ Memory) → (fault ≡ Corrupt) ↔ (map_of_payload text ≡ None)
unread_payload text JsonFault.NotJson fault comes none other =
    (λ is. other_payload text (λ ms. none (λ memory. absurd (cc)) refl (object ms)), λ is. comes)
unread_payload text JsonFault.Memory fault comes none other = absurd (other comes)
