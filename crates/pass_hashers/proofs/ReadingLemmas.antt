-- Reading a password text from its front finds the only parts that it has.
use Rattle.std.proofs.Common.{◌≡◌, ℕ, suc, ◌+◌, ◌<◌, false, true, eqb, List, [], ◌∷◌, ◌++◌, length, get_or, drop, codes, arith, refl, sym, ap, ◌∙◌, length-append}
use Rattle.std.proofs.Math.Seq.{get_or-append_seam}
use Rattle.std.proofs.lemmas.Bool.{agree_below, agree_below_at, false≢true}
use Rattle.std.proofs.lemmas.Fmt.{decimal_injective, digits_decimal}
use Rattle.std.proofs.lemmas.Str.Parse.{IsNumeralModel, not_in_digits, numerals_by_value, tells_by_index}
use Rattle.std.specs.Fmt.{decimal}
use Rattle.std.specs.Int.{IsInRange}
use Rattle.std.specs.Str.Parse.{digits_value}
use Rattle.pass_hashers.specs.PasswordText.{AreIterations, HasParts, IsMarkedUnusable, IsSalt, IsUsable, algo_of, dollar, name_of, rest_text}
use Rattle.pass_hashers.specs.Reading.{HasFront, HasNoDollar, HasRest, IsCut, front_text}
use Rattle.pass_hashers.specs.declared.hasher.Algo.{Algo}
use Rattle.pass_hashers.specs.declared.hasher.Algo.TheVariants as algos
use Rattle.pass_hashers.specs.declared.hasher.Hasher.{Hasher}
use Rattle.pass_hashers.specs.declared.hasher.Hasher.TheVariants.{Pbkdf2Sha256, Pbkdf2Sha1, Md5}

-- ---- cuts

-- a text without a `$` is not cut
pub no_cut : (text front rest : List ℕ) → HasNoDollar text → IsCut text front rest → ⊥
no_cut text front rest none cut =
    let long : length text ≡ length front + (length rest + 1) = ap length cut.0 ∙ length-append front (dollar ∷ rest) ∙ omega arith in
    none (length front) (omega (arith, long)) (ap (λ (t : List ℕ). get_or t (length front) 0) cut.0 ∙ get_or-append_seam front dollar rest 0)

-- two ways to join a text at its first `$` are one
pub cut_same : (a b c d : List ℕ) → a ++ dollar ∷ b ≡ c ++ dollar ∷ d → HasNoDollar a → HasNoDollar c → (a ≡ c) × (b ≡ d)
cut_same [] b [] d same first second = (refl, ap (drop 1) same)
cut_same [] b (y ∷ c) d same first second = absurd (second 0 (omega arith) (sym (ap (λ (t : List ℕ). get_or t 0 0) same)))
cut_same (x ∷ a) b [] d same first second = absurd (first 0 (omega arith) (ap (λ (t : List ℕ). get_or t 0 0) same))
cut_same (x ∷ a) b (y ∷ c) d same first second =
    let head : x ≡ y = ap (λ (t : List ℕ). get_or t 0 0) same in
    let tail = cut_same a b c d (ap (drop 1) same) (λ i lt. first (suc i) (omega (arith, lt))) (λ i lt. second (suc i) (omega (arith, lt))) in
    let whole : (x ∷ a) ≡ (y ∷ c) = rw (head, tail.0) refl in
    (whole, tail.1)

pub cut_unique : (text a b c d : List ℕ) → IsCut text a b → IsCut text c d → (a ≡ c) × (b ≡ d)
cut_unique text a b c d first second = cut_same a b c d (sym first.0 ∙ second.0) first.1 second.1

-- ---- parts without a `$`

no_dollar : (text : List ℕ) (n : ℕ) → agree_below (λ k. eqb (get_or text k 0) dollar) (λ k. false) n ≡ true → length text ≡ n → HasNoDollar text
no_dollar text n test long = λ i lt e.
    let passes : eqb (get_or text i 0) dollar ≡ false =
    agree_below_at (λ k. eqb (get_or text k 0) dollar) (λ k. false) n i test (omega (arith, lt, long)) in
    let at_dollar : eqb dollar dollar ≡ false = rw e at passes in
    false≢true (sym at_dollar)

pub HasNoDollar-name : (algo : Algo) → HasNoDollar (name_of algo)
HasNoDollar-name algos.Pbkdf2Sha256 = no_dollar (codes "pbkdf2_sha256") 13 refl refl
HasNoDollar-name algos.Pbkdf2Sha1 = no_dollar (codes "pbkdf2_sha1") 11 refl refl
HasNoDollar-name algos.Md5 = no_dollar (codes "md5") 3 refl refl

pub HasNoDollar-salt : (salt : List ℕ) → IsSalt salt → HasNoDollar salt
unfolding IsSalt
HasNoDollar-salt salt salted = λ i lt. (salted.2 i 0 lt).2

-- ---- numbers

own : IsNumeralModel (λ ds. (i : ℕ) → i < length ds → IsInRange 48 57 (get_or ds i 0)) (digits_value 10)
own = numerals_by_value _ tells_by_index

pub HasNoDollar-decimal : (n : ℕ) → AreIterations n → HasNoDollar (decimal n)
HasNoDollar-decimal n within = not_in_digits own (decimal n) dollar (digits_decimal own n (omega (arith, within.1))) (λ range. omega (arith, range.0))

-- ---- whole texts

pub name_tells : (a b : Algo) → name_of a ≡ name_of b → a ≡ b
name_tells algos.Pbkdf2Sha256 algos.Pbkdf2Sha256 e = refl
name_tells algos.Pbkdf2Sha256 algos.Pbkdf2Sha1 e = let long : 13 ≡ 11 = ap length e in absurd (omega (arith, long))
name_tells algos.Pbkdf2Sha256 algos.Md5 e = let long : 13 ≡ 3 = ap length e in absurd (omega (arith, long))
name_tells algos.Pbkdf2Sha1 algos.Pbkdf2Sha256 e = let long : 11 ≡ 13 = ap length e in absurd (omega (arith, long))
name_tells algos.Pbkdf2Sha1 algos.Pbkdf2Sha1 e = refl
name_tells algos.Pbkdf2Sha1 algos.Md5 e = let long : 11 ≡ 3 = ap length e in absurd (omega (arith, long))
name_tells algos.Md5 algos.Pbkdf2Sha256 e = let long : 3 ≡ 13 = ap length e in absurd (omega (arith, long))
name_tells algos.Md5 algos.Pbkdf2Sha1 e = let long : 3 ≡ 11 = ap length e in absurd (omega (arith, long))
name_tells algos.Md5 algos.Md5 e = refl

pub rest_is_front : (hasher : Hasher) (salt last : List ℕ) → rest_text hasher salt last ≡ front_text hasher (salt ++ dollar ∷ last)
rest_is_front (Pbkdf2Sha256 iterations) salt last = refl
rest_is_front (Pbkdf2Sha1 iterations) salt last = refl
rest_is_front Md5 salt last = refl

number_unique : (m n : ℕ) (a b : List ℕ) → AreIterations m → AreIterations n → decimal m ++ dollar ∷ a ≡ decimal n ++ dollar ∷ b → (m ≡ n) × (a ≡ b)
number_unique m n a b first second same =
    let parts = cut_same (decimal m) a (decimal n) b same (HasNoDollar-decimal m first) (HasNoDollar-decimal n second) in
    (decimal_injective m n (omega (arith, first.1)) (omega (arith, second.1)) parts.0, parts.1)

pub front_unique : (first second : Hasher) (a b : List ℕ) → algo_of first ≡ algo_of second → IsUsable first → IsUsable second
    → front_text first a ≡ front_text second b → (first ≡ second) × (a ≡ b)
front_unique (Pbkdf2Sha256 m) (Pbkdf2Sha256 n) a b named one other same =
    let parts = number_unique m n a b one other same in
    (ap Pbkdf2Sha256 parts.0, parts.1)
front_unique (Pbkdf2Sha1 m) (Pbkdf2Sha1 n) a b named one other same =
    let parts = number_unique m n a b one other same in
    (ap Pbkdf2Sha1 parts.0, parts.1)
front_unique Md5 Md5 a b named one other same = (refl, same)
front_unique (Pbkdf2Sha256 m) (Pbkdf2Sha1 n) a b named one other same = cc
front_unique (Pbkdf2Sha256 m) Md5 a b named one other same = cc
front_unique (Pbkdf2Sha1 m) (Pbkdf2Sha256 n) a b named one other same = cc
front_unique (Pbkdf2Sha1 m) Md5 a b named one other same = cc
front_unique Md5 (Pbkdf2Sha256 n) a b named one other same = cc
front_unique Md5 (Pbkdf2Sha1 n) a b named one other same = cc

pub HasRest-front : (algo : Algo) (rest : List ℕ) (hasher : Hasher) (salt last : List ℕ) → HasRest algo rest hasher salt last
    → HasFront algo rest hasher (salt ++ dollar ∷ last)
HasRest-front algo rest hasher salt last parts = record {
  named = parts.named;
  whole = parts.whole ∙ rest_is_front hasher salt last;
  usable = parts.usable;
}

-- a text that has parts is cut behind its algorithm's name
pub HasParts-cut : (text : List ℕ) (hasher : Hasher) (salt last : List ℕ) → HasParts text hasher salt last
    → IsCut text (name_of (algo_of hasher)) (rest_text hasher salt last)
HasParts-cut text hasher salt last parts = (parts.whole, HasNoDollar-name (algo_of hasher))

pub HasParts-rest : (text name rest : List ℕ) (hasher : Hasher) (salt last : List ℕ) → IsCut text name rest → HasParts text hasher salt last
    → (name ≡ name_of (algo_of hasher)) × HasRest (algo_of hasher) rest hasher salt last
HasParts-rest text name rest hasher salt last cut parts =
    let same = cut_unique text _ _ _ _ cut (HasParts-cut text hasher salt last parts) in
    (same.0, record { named = refl; whole = same.1; usable = parts.usable; salted = parts.salted; digest = parts.digest })

pub HasParts-joined : (text name rest : List ℕ) (algo : Algo) (hasher : Hasher) (salt last : List ℕ) → IsCut text name rest → name ≡ name_of algo
    → HasRest algo rest hasher salt last → HasParts text hasher salt last
HasParts-joined text name rest algo hasher salt last cut named parts = record {
  whole = cut.0 ∙ rw (named, ← parts.named, parts.whole) refl;
  usable = parts.usable;
  salted = parts.salted;
  digest = rw parts.named parts.digest;
}

-- the parts of a text are its only ones
pub HasParts-unique : (text : List ℕ) (first second : Hasher) (salt other last end : List ℕ)
    → HasParts text first salt last → HasParts text second other end → (first ≡ second) × (salt ≡ other) × (last ≡ end)
HasParts-unique text first second salt other last end one two =
    let outer = cut_unique text _ _ _ _ (HasParts-cut text first salt last one) (HasParts-cut text second other end two) in
    let fronts = sym (rest_is_front first salt last) ∙ outer.1 ∙ rest_is_front second other end in
    let inner = front_unique first second _ _ (name_tells _ _ outer.0) one.usable two.usable fronts in
    let salts = cut_same salt last other end inner.1 (HasNoDollar-salt salt one.salted) (HasNoDollar-salt other two.salted) in
    (inner.0, salts.0, salts.1)

-- a text that has parts begins with no `!`
pub HasParts-unmarked : (text : List ℕ) (hasher : Hasher) (salt last : List ℕ) → HasParts text hasher salt last → IsMarkedUnusable text → ⊥
HasParts-unmarked text (Pbkdf2Sha256 iterations) salt last parts marked =
    let first : get_or text 0 0 ≡ 112 = ap (λ (t : List ℕ). get_or t 0 0) parts.whole in omega (arith, first, marked)
HasParts-unmarked text (Pbkdf2Sha1 iterations) salt last parts marked =
    let first : get_or text 0 0 ≡ 112 = ap (λ (t : List ℕ). get_or t 0 0) parts.whole in omega (arith, first, marked)
HasParts-unmarked text Md5 salt last parts marked =
    let first : get_or text 0 0 ≡ 109 = ap (λ (t : List ℕ). get_or t 0 0) parts.whole in omega (arith, first, marked)
