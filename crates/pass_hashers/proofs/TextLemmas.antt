-- A password text shows its own end.
use Rattle.std.proofs.Common.{◌≡◌, ◌⊎◌, ℕ, ◌*◌, ◌<◌, inl, inr, List, [], ◌∷◌, ◌++◌, length, get_or, drop, take, arith, refl, sym, ap, ◌∙◌, append_assoc}
use Rattle.std.proofs.lemmas.List.{append-nil, drop_at, take_at}
use Rattle.std.specs.Fmt.{decimal}
use Rattle.std.specs.Int.{IsInRange}
use Rattle.base64.specs.Engines.{standard}
use Rattle.base64.specs.GeneralPurpose.{encoded_size_of}
use Rattle.crypto_text.proofs.DigestLemmas.{bytes-derived_key, bytes-hmac_sha1, bytes-hmac_sha256, bytes-md5, length-derived_key, length-md5}
use Rattle.hex.proofs.HexLemmas.{length-encode_with}
use Rattle.hex.specs.Hex.{lower_digits}
use Rattle.pass_hashers.proofs.LastPartLemmas.{length-encode_of}
use Rattle.pass_hashers.proofs.ReadingLemmas.{HasNoDollar-name, HasNoDollar-salt, cut_same, front_unique, name_tells, rest_is_front}
use Rattle.pass_hashers.specs.PasswordText.{HasParts, IsDigestText, IsPasswordText, IsSalt, IsUnusable, IsUsable, algo_of, digest_of, dollar, last_part, password_text}
use Rattle.pass_hashers.specs.Reading.{front_text}
use Rattle.pass_hashers.specs.declared.hasher.Algo.{Algo}
use Rattle.pass_hashers.specs.declared.hasher.Algo.TheVariants as algos
use Rattle.pass_hashers.specs.declared.hasher.Hasher.{Hasher}
use Rattle.pass_hashers.specs.declared.hasher.Hasher.TheVariants.{Pbkdf2Sha256, Pbkdf2Sha1, Md5}

-- equally long fronts of one text are one
pub fronts_same : (a b c d : List ℕ) → a ++ b ≡ c ++ d → length a ≡ length c → (a ≡ c) × (b ≡ d)
fronts_same a b c d same long = (
  sym (take_at a b (length a) refl) ∙ ap (take (length a)) same ∙ take_at c d (length a) (sym long),
  sym (drop_at a b (length a) refl) ∙ ap (drop (length a)) same ∙ drop_at c d (length a) (sym long),
)

-- how long the last part is
last_size : Algo → ℕ
last_size algos.Pbkdf2Sha256 = encoded_size_of standard 32
last_size algos.Pbkdf2Sha1 = encoded_size_of standard 20
last_size algos.Md5 = 32

length-last : (algo : Algo) (last : List ℕ) → IsDigestText algo last → length last ≡ last_size algo
unfolding IsDigestText last_size
length-last algos.Pbkdf2Sha256 last written = ap length written.3 ∙ length-encode_of standard written.0 ∙ ap (encoded_size_of standard) written.1
length-last algos.Pbkdf2Sha1 last written = ap length written.3 ∙ length-encode_of standard written.0 ∙ ap (encoded_size_of standard) written.1
length-last algos.Md5 last written = ap length written.3 ∙ length-encode_with lower_digits written.0 ∙ ap (λ (n : ℕ). 2 * n) written.1

front_text-append : (hasher : Hasher) (behind more : List ℕ) → front_text hasher behind ++ more ≡ front_text hasher (behind ++ more)
front_text-append (Pbkdf2Sha256 iterations) behind more = append_assoc (decimal iterations) (dollar ∷ behind) more
front_text-append (Pbkdf2Sha1 iterations) behind more = append_assoc (decimal iterations) (dollar ∷ behind) more
front_text-append Md5 behind more = refl

-- two texts of hashers that begin one longer text
hashed_ends : (first second behind after : List ℕ) (one two : Hasher) (salt other last end : List ℕ) → HasParts first one salt last → HasParts second two other end
    → first ++ behind ≡ second ++ after → (first ≡ second) × (behind ≡ after)
hashed_ends first second behind after one two salt other last end f s same =
    let whole = rw (f.whole, s.whole, append_assoc, append_assoc) at same in
    let outer = cut_same _ _ _ _ whole (HasNoDollar-name (algo_of one)) (HasNoDollar-name (algo_of two)) in
    let rests = rw (rest_is_front one salt last, rest_is_front two other end, front_text-append, front_text-append) at outer.1 in
    let algo = name_tells _ _ outer.0 in
    let inner = front_unique one two _ _ algo f.usable s.usable rests in
    let tails = rw (append_assoc, append_assoc) at inner.1 in
    let salts = cut_same salt _ other _ tails (HasNoDollar-salt salt f.salted) (HasNoDollar-salt other s.salted) in
    let long : length last ≡ length end = length-last _ last f.digest ∙ ap last_size algo ∙ sym (length-last _ end s.digest) in
    let ends = fronts_same last behind end after salts.1 long in
    (f.whole ∙ rw (inner.0, salts.0, ends.0) refl ∙ sym s.whole, ends.1)

-- the first byte of a hasher's text, and of what it begins
first_byte : (text more : List ℕ) (hasher : Hasher) (salt last : List ℕ) → HasParts text hasher salt last
    → (get_or (text ++ more) 0 0 ≡ 112) ⊎ (get_or (text ++ more) 0 0 ≡ 109)
first_byte text more (Pbkdf2Sha256 iterations) salt last parts = inl (ap (λ (t : List ℕ). get_or (t ++ more) 0 0) parts.whole)
first_byte text more (Pbkdf2Sha1 iterations) salt last parts = inl (ap (λ (t : List ℕ). get_or (t ++ more) 0 0) parts.whole)
first_byte text more Md5 salt last parts = inr (ap (λ (t : List ℕ). get_or (t ++ more) 0 0) parts.whole)

-- a hasher's text and an unusable one begin no longer text together
apart : (first second behind after : List ℕ) (hasher : Hasher) (salt last : List ℕ) → HasParts first hasher salt last → IsUnusable second
    → first ++ behind ≡ second ++ after → ⊥
unfolding IsUnusable
apart first second behind after hasher salt last parts unusable same =
    let mark : get_or (second ++ after) 0 0 ≡ 33 = ap (λ (t : List ℕ). get_or (t ++ after) 0 0) unusable.1 in
    let front : get_or (first ++ behind) 0 0 ≡ get_or (second ++ after) 0 0 = ap (λ (t : List ℕ). get_or t 0 0) same in
    elim (first_byte first behind hasher salt last parts) [
      | inl p ↦ omega (arith, mark, front, p)
      | inr m ↦ omega (arith, mark, front, m)
    ]

unusable_ends : (first second behind after : List ℕ) → IsUnusable first → IsUnusable second → first ++ behind ≡ second ++ after → (first ≡ second) × (behind ≡ after)
unfolding IsUnusable
unusable_ends first second behind after one two same =
    let long : length first ≡ 41 = ap length one.1 ∙ omega (arith, one.2) in
    let short : length second ≡ 41 = ap length two.1 ∙ omega (arith, two.2) in
    fronts_same first behind second after same (long ∙ sym short)

pub text_ends : (first second behind after : List ℕ) → IsPasswordText first → IsPasswordText second → first ++ behind ≡ second ++ after
    → (first ≡ second) × (behind ≡ after)
text_ends first second behind after (inl f) (inl s) same = hashed_ends first second behind after f.0 s.0 f.1.0 s.1.0 f.1.1 s.1.1 f.1.2 s.1.2 same
text_ends first second behind after (inl f) (inr s) same = absurd (apart first second behind after f.0 f.1.0 f.1.1 f.1.2 s same)
text_ends first second behind after (inr f) (inl s) same = absurd (apart second first after behind s.0 s.1.0 s.1.1 s.1.2 f (sym same))
text_ends first second behind after (inr f) (inr s) same = unusable_ends first second behind after f s same

some : (text : List ℕ) (byte : ℕ) → get_or text 0 0 ≡ byte → 0 < byte → 0 < length text
some [] byte e above = omega (arith, e, above)
some (x ∷ rest) byte e above = omega arith

pub text_begins : (text : List ℕ) → IsPasswordText text → (0 < length text) × ¬ IsInRange 48 57 (get_or text 0 0)
unfolding IsUnusable
text_begins text (inl f) = elim (rw append-nil at (first_byte text [] f.0 f.1.0 f.1.1 f.1.2)) [
  | inl p ↦ (some text 112 p (omega arith), λ digit. omega (arith, p, digit.1))
  | inr m ↦ (some text 109 m (omega arith), λ digit. omega (arith, m, digit.1))
]
text_begins text (inr u) =
    let mark : get_or text 0 0 ≡ 33 = ap (λ (t : List ℕ). get_or t 0 0) u.1 in
    (some text 33 mark (omega arith), λ digit. omega (arith, mark, digit.0))

-- the digest that a hasher makes has its algorithm's size and consists of bytes
IsDigestText-made : (hasher : Hasher) (password salt : List ℕ) → IsDigestText (algo_of hasher) (last_part hasher password salt)
unfolding IsDigestText digest_of
IsDigestText-made (Pbkdf2Sha256 iterations) password salt =
    (_, length-derived_key _ 32 password salt iterations 32, bytes-derived_key _ bytes-hmac_sha256 32 password salt iterations 32, refl)
IsDigestText-made (Pbkdf2Sha1 iterations) password salt =
    (_, length-derived_key _ 20 password salt iterations 20, bytes-derived_key _ bytes-hmac_sha1 20 password salt iterations 20, refl)
IsDigestText-made Md5 password salt = (_, length-md5 _, bytes-md5 _, refl)

-- what a usable hasher makes has its parts in form
pub HasParts-made : (hasher : Hasher) (password salt : List ℕ) → IsUsable hasher → IsSalt salt
    → HasParts (password_text hasher password salt) hasher salt (last_part hasher password salt)
HasParts-made hasher password salt usable salted =
    record { whole = refl; usable = usable; salted = salted; digest = IsDigestText-made hasher password salt }
