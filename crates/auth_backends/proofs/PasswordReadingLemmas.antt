-- What is read of a password text says the same as the parts that it has.
use Rattle.std.proofs.Common.{◌≡◌, ◌≢◌, ◌⊎◌, ◌∙◌, ◌==◌, ℕ, ◌+◌, ◌<◌, ◌≤◌, nat_le, nat_lt, List, [], ◌∷◌, ◌++◌, Contains, Bool, true, false, true≢false, cond, Decides, Option, Some, None, if◌then◌else◌, refl, sym, ap, subst, append_assoc, arith, bytes_eq, decimal, drop, drop_at, eq-eqb, eqb-true, find, get_or, le-leb, leb-true, length, length-append, length-take, lt-ltb, ltb-true, ne_eqb, option_and_then, option_map, take, take_at}
use Rattle.std.specs.List.{list_all, list_any, position_or_len}
use Rattle.std.specs.Option.{option_map_or}
use Rattle.std.proofs.Math.Seq.{get_or-append_seam}
use Rattle.std.proofs.lemmas.Bool.{and_from, and_parts}
use Rattle.std.proofs.lemmas.Bool.Decides.{Decides-and, Decides-by_and, Decides-eqb, Decides-like, Decides-ltb, Decides-not, Decides-or, nat_tests}
use Rattle.std.proofs.lemmas.List.{get_or-take, get_or_append_left}
use Rattle.std.proofs.lemmas.List.Folds.{Any-from_list_any, list_any_at}
use Rattle.std.proofs.lemmas.List.Sums.{fails_before_first, passes_at_first, position_or_len_is, split_at_first}
use Rattle.std.proofs.lemmas.Option.{cond_some, option_and_then_some, same_Some}
use Rattle.std.proofs.lemmas.Slice.Eq.{bytes_eq-Decides}
use Rattle.crypto_text.specs.Numeral.{positive_of}
use Rattle.session_codec.proofs.AuthLemmas.{positive_of-Some, says_user}
use Rattle.pass_hashers.proofs.ReadingLemmas.{HasNoDollar-decimal, HasNoDollar-name, HasNoDollar-salt, name_tells, rest_is_front}
use Rattle.pass_hashers.proofs.TextLemmas.{HasParts-made}
use Rattle.pass_hashers.specs.PasswordText.{AreIterations, HasParts, IsOutdated, IsSalt, IsSaltByte, IsUsable, Verifies, algo_of, dollar, joined_text, last_part, name_of, password_text, rest_text}
use Rattle.pass_hashers.specs.Reading.{HasFront, HasNoDollar, IsCut}
use Rattle.pass_hashers.specs.declared.hasher.Algo.{Algo}
use Rattle.pass_hashers.specs.declared.hasher.Algo.TheVariants as algos
use Rattle.pass_hashers.specs.declared.hasher.Hasher.{Hasher}
use Rattle.pass_hashers.specs.declared.hasher.Hasher.TheVariants.{Pbkdf2Sha256, Pbkdf2Sha1, Md5}
use Rattle.auth_backends.specs.PasswordReading.{PasswordParts, algo_named, cut_at_dollar, fits, is_same_algo, is_same_hasher, is_old, is_outdated, is_salt, is_salt_byte, iterated_parts, iterations_of, parts_behind, read_text, salted_parts, verifies}

-- ---- cuts

abbrev is_dollar : ℕ → Bool
is_dollar byte = byte == dollar

place_of_dollar : (front rest : List ℕ) → HasNoDollar front → position_or_len is_dollar (front ++ dollar ∷ rest) ≡ length front
place_of_dollar front rest none = position_or_len_is is_dollar (front ++ dollar ∷ rest) (length front) 0
    (omega (arith, length-append front (dollar ∷ rest)))
    (λ k lt. rw get_or_append_left (ne_eqb _ dollar (none k lt)))
    (λ inside. rw (get_or-append_seam front dollar rest 0) refl)

-- a text is cut where its first part ends
cut_at_dollar-joined : (front rest : List ℕ) → HasNoDollar front → cut_at_dollar (front ++ dollar ∷ rest) ≡ Some (front, rest)
unfolding cut_at_dollar
cut_at_dollar-joined front rest none =
    let inside : nat_lt (length front) (length (front ++ dollar ∷ rest)) ≡ true = lt-ltb _ _ (omega (arith, length-append front (dollar ∷ rest))) in
    let before : take (length front) (front ++ dollar ∷ rest) ≡ front = take_at front (dollar ∷ rest) _ refl in
    let behind : drop (length front + 1) (front ++ dollar ∷ rest) ≡ rest =
    rw (← append_assoc front (dollar ∷ []) rest) (drop_at (front ++ dollar ∷ []) rest _ (length-append front (dollar ∷ []))) in
    rw (place_of_dollar front rest none, inside, before, behind) refl

-- and what is cut are both sides of its first `$`
cut_at_dollar-found : (text : List ℕ) (cut : List ℕ × List ℕ) → cut_at_dollar text ≡ Some cut → IsCut text cut.0 cut.1
unfolding cut_at_dollar
cut_at_dollar-found text cut is = by (nat_lt (position_or_len is_dollar text) (length text)) refl is
  where
    by : (inside : Bool) → nat_lt (position_or_len is_dollar text) (length text) ≡ inside
        → option_map (λ place. (take place text, drop (place + 1) text)) (cond inside (Some (position_or_len is_dollar text)) None) ≡ Some cut → IsCut text cut.0 cut.1
    by false past is = absurd (cc is)
    by true inside is =
        let place : ℕ = position_or_len is_dollar text in
        let within : place < length text = ltb-true _ _ inside in
        let mark : get_or text place 0 ≡ dollar = eqb-true _ dollar (passes_at_first is_dollar text 0 within) in
        let whole : text ≡ take place text ++ dollar ∷ drop (place + 1) text = split_at_first is_dollar text 0 within ∙ rw mark refl in
        let none : HasNoDollar (take place text) = λ k lt e.
        let before : k < place = omega (arith, length-take place text) in
        let fails = fails_before_first is_dollar text k 0 before in
        true≢false (sym (eq-eqb _ dollar (sym (get_or-take place text k 0 before) ∙ e)) ∙ fails) in
        subst (λ (c : List ℕ × List ℕ). IsCut text c.0 c.1) (same_Some (take place text, drop (place + 1) text) cut is) (whole, none)

-- ---- a part

algo_named-name : (algo : Algo) → algo_named (name_of algo) ≡ Some algo
unfolding algo_named
algo_named-name algos.Pbkdf2Sha256 = refl
algo_named-name algos.Pbkdf2Sha1 = refl
algo_named-name algos.Md5 = refl

found_passes : {X : Type 0} (p : X → Bool) (xs : List X) (x : X) → find p xs ≡ Some x → p x ≡ true
found_passes p [] x is = absurd (cc is)
found_passes p (y ∷ ys) x is = by (p y) refl is (found_passes p ys x)
  where
    by : (passes : Bool) → p y ≡ passes → cond passes (Some y) (find p ys) ≡ Some x → (find p ys ≡ Some x → p x ≡ true) → p x ≡ true
    by true this is later = rw (← same_Some y x is) this
    by false fails is later = later is

algo_named-found : (name : List ℕ) (algo : Algo) → algo_named name ≡ Some algo → name ≡ name_of algo
unfolding algo_named
algo_named-found name algo is = (bytes_eq-Decides name (name_of algo)).0
    (found_passes (λ other. bytes_eq name (name_of other)) (algos.Pbkdf2Sha256 ∷ algos.Pbkdf2Sha1 ∷ algos.Md5 ∷ []) algo is)

iterations_of-decimal : (n : ℕ) → AreIterations n → iterations_of (decimal n) ≡ Some n
unfolding iterations_of
iterations_of-decimal n within = rw (positive_of-Some (decimal n) n (refl, within.0, omega (arith, within.1)), le-leb n 10000000 within.1) refl

iterations_of-found : (text : List ℕ) (n : ℕ) → iterations_of text ≡ Some n → AreIterations n × (text ≡ decimal n)
unfolding iterations_of
iterations_of-found text n is = option_and_then_some (λ m. if nat_le m 10000000 then Some m else None) (positive_of text) n is (λ m found kept.
    let few = cond_some (nat_le m 10000000) m n kept in
    let most = leb-true m 10000000 few.0 in
    let says = says_user text m found in
    ((omega (arith, says.1, few.1), omega (arith, most, few.1)), says.0 ∙ ap decimal few.1))

Decides-leb : (m n : ℕ) → Decides (nat_le m n) (m ≤ n)
Decides-leb m n = (leb-true m n, le-leb m n)

is_salt_byte-Decides : (byte : ℕ) → Decides (is_salt_byte byte) (IsSaltByte byte)
is_salt_byte-Decides byte = grind (arith, nat_tests)

is_salt-Decides : (salt : List ℕ) → Decides (is_salt salt) (IsSalt salt)
unfolding is_salt IsSalt
is_salt-Decides salt =
    let within = Decides-and _ _ (Decides-leb 1 (length salt)) (Decides-leb (length salt) 64) in
    let bytes = Decides-by_and is_salt_byte IsSaltByte (list_all is_salt_byte) is_salt_byte-Decides refl (λ x xs. refl) salt in
    Decides-like _ (λ both. (both.0.0, both.0.1, both.1)) (λ is. ((is.0, is.1), is.2)) (Decides-and _ _ within bytes)

-- ---- parts that are joined are read

salted_parts-joined : (hasher : Hasher) (salt last : List ℕ) → IsSalt salt
    → salted_parts hasher (salt ++ dollar ∷ last) ≡ Some (record { hasher = hasher; salt = salt; last = last })
unfolding salted_parts
salted_parts-joined hasher salt last salted =
    rw (cut_at_dollar-joined salt last (HasNoDollar-salt salt salted), (is_salt-Decides salt).1 salted) refl

iterated_parts-joined : (hasher_by : ℕ → Hasher) (n : ℕ) (salt last : List ℕ) → AreIterations n → IsSalt salt
    → iterated_parts hasher_by (decimal n ++ dollar ∷ (salt ++ dollar ∷ last)) ≡ Some (record { hasher = hasher_by n; salt = salt; last = last })
unfolding iterated_parts
iterated_parts-joined hasher_by n salt last within salted =
    rw (cut_at_dollar-joined (decimal n) (salt ++ dollar ∷ last) (HasNoDollar-decimal n within), iterations_of-decimal n within)
    (salted_parts-joined (hasher_by n) salt last salted)

parts_behind-joined : (hasher : Hasher) (salt last : List ℕ) → IsUsable hasher → IsSalt salt
    → parts_behind (algo_of hasher) (rest_text hasher salt last) ≡ Some (record { hasher = hasher; salt = salt; last = last })
parts_behind-joined (Pbkdf2Sha256 n) salt last usable salted = iterated_parts-joined Pbkdf2Sha256 n salt last usable salted
parts_behind-joined (Pbkdf2Sha1 n) salt last usable salted = iterated_parts-joined Pbkdf2Sha1 n salt last usable salted
parts_behind-joined Md5 salt last usable salted = salted_parts-joined Md5 salt last salted

-- the parts that a text has are read
HasParts-read : (text : List ℕ) (hasher : Hasher) (salt last : List ℕ) → HasParts text hasher salt last
    → read_text text ≡ Some (record { hasher = hasher; salt = salt; last = last })
unfolding read_text
HasParts-read text hasher salt last has =
    let cut = cut_at_dollar-joined (name_of (algo_of hasher)) (rest_text hasher salt last) (HasNoDollar-name (algo_of hasher)) in
    rw (has.whole, cut, algo_named-name (algo_of hasher)) (parts_behind-joined hasher salt last has.usable has.salted)

-- ---- parts that are read are joined

salted_parts-found : (hasher : Hasher) (rest : List ℕ) (parts : PasswordParts) → salted_parts hasher rest ≡ Some parts
    → (parts.hasher ≡ hasher) × (rest ≡ parts.salt ++ dollar ∷ parts.last) × IsSalt parts.salt
unfolding salted_parts
salted_parts-found hasher rest parts is =
    option_and_then_some (λ (cut : List ℕ × List ℕ). if is_salt cut.0 then Some (record { hasher = hasher; salt = cut.0; last = cut.1 }) else None)
    (cut_at_dollar rest) parts is (λ cut at kept.
    let salted = cond_some (is_salt cut.0) (record { hasher = hasher; salt = cut.0; last = cut.1 }) parts kept in
    let outer = cut_at_dollar-found rest cut at in
    subst (λ (p : PasswordParts). (p.hasher ≡ hasher) × (rest ≡ p.salt ++ dollar ∷ p.last) × IsSalt p.salt) salted.1
    (refl, outer.0, (is_salt-Decides cut.0).0 salted.0))

iterated_parts-found : (hasher_by : ℕ → Hasher) (rest : List ℕ) (parts : PasswordParts) → iterated_parts hasher_by rest ≡ Some parts
    → (n : ℕ) × (parts.hasher ≡ hasher_by n) × (rest ≡ decimal n ++ dollar ∷ (parts.salt ++ dollar ∷ parts.last)) × AreIterations n × IsSalt parts.salt
unfolding iterated_parts
iterated_parts-found hasher_by rest parts is =
    option_and_then_some (λ (cut : List ℕ × List ℕ). option_and_then (λ n. salted_parts (hasher_by n) cut.1) (iterations_of cut.0))
    (cut_at_dollar rest) parts is (λ cut at step. option_and_then_some (λ n. salted_parts (hasher_by n) cut.1) (iterations_of cut.0) parts step (λ n number behind.
    let outer = cut_at_dollar-found rest cut at in
    let digits = iterations_of-found cut.0 n number in
    let inner = salted_parts-found (hasher_by n) cut.1 parts behind in
    (n, inner.0, outer.0 ∙ rw (digits.1, inner.1) refl, digits.0, inner.2)))

parts_behind-found : (algo : Algo) (rest : List ℕ) (parts : PasswordParts) → parts_behind algo rest ≡ Some parts
    → HasFront algo rest parts.hasher (parts.salt ++ dollar ∷ parts.last) × IsSalt parts.salt
parts_behind-found algos.Pbkdf2Sha256 rest parts is =
    let found = iterated_parts-found Pbkdf2Sha256 rest parts is in
    (record { named = ap algo_of found.1; whole = rw found.1 found.2; usable = rw found.1 found.3 }, found.4)
parts_behind-found algos.Pbkdf2Sha1 rest parts is =
    let found = iterated_parts-found Pbkdf2Sha1 rest parts is in
    (record { named = ap algo_of found.1; whole = rw found.1 found.2; usable = rw found.1 found.3 }, found.4)
parts_behind-found algos.Md5 rest parts is =
    let found = salted_parts-found Md5 rest parts is in
    (record { named = ap algo_of found.0; whole = rw found.0 found.1; usable = rw found.0 tt }, found.2)

-- the text is these parts joined, its hasher and salt in form
record IsJoined (text : List ℕ) (parts : PasswordParts) : Type 0 where
  whole : text ≡ joined_text parts.hasher parts.salt parts.last
  usable : IsUsable parts.hasher
  salted : IsSalt parts.salt

read_text-found : (text : List ℕ) (parts : PasswordParts) → read_text text ≡ Some parts → IsJoined text parts
unfolding read_text
read_text-found text parts is =
    option_and_then_some (λ (cut : List ℕ × List ℕ). option_and_then (λ algo. parts_behind algo cut.1) (algo_named cut.0))
    (cut_at_dollar text) parts is (λ cut at step. option_and_then_some (λ algo. parts_behind algo cut.1) (algo_named cut.0) parts step (λ algo named behind.
    let outer = cut_at_dollar-found text cut at in
    let name = algo_named-found cut.0 algo named in
    let rest = parts_behind-found algo cut.1 parts behind in
    let front = rest.0.whole ∙ sym (rest_is_front parts.hasher parts.salt parts.last) in
    record { whole = outer.0 ∙ rw (name, ← rest.0.named, front) refl; usable = rest.0.usable; salted = rest.1 }))

-- ---- what the parts say

is_installed-Decides : (installed : List Algo) (algo : Algo) → Decides (list_any (is_same_algo algo) installed) (Contains installed algo)
is_installed-Decides installed algo = (
  λ yes.
      let any = Any-from_list_any (is_same_algo algo) installed yes in
      let same : algo ≡ any.1 = name_tells algo any.1 ((bytes_eq-Decides _ _).0 any.4) in
      (any.0, any.2, subst (λ (a : Algo). get_or installed any.0 a ≡ a) (sym same) any.3),
  λ is. list_any_at (is_same_algo algo) installed is.0 algo is.1 ((bytes_eq-Decides _ _).1 (ap name_of (sym is.2))),
)

-- the function says what the relation does
pub verifies-Decides : (password text : List ℕ) (installed : List Algo) → Decides (verifies password text installed) (Verifies password text installed)
unfolding verifies fits
verifies-Decides password text installed = (
  by (read_text text) refl,
  λ right.
      let last : List ℕ = last_part right.0 password right.1 in
      let known = (is_installed-Decides installed (algo_of right.0)).1 right.3 in
      rw (HasParts-read text right.0 right.1 last right.2) (and_from _ _ known ((bytes_eq-Decides last last).1 refl)),
)
  where
    by : (read : Option PasswordParts) → read_text text ≡ read → option_map_or (fits password installed) read false ≡ true → Verifies password text installed
    by None is fit = absurd (cc fit)
    by (Some parts) is fit =
        let joined = read_text-found text parts is in
        let both = and_parts _ _ fit in
        let last = (bytes_eq-Decides _ _).0 both.1 in
        let whole : text ≡ password_text parts.hasher password parts.salt = joined.whole ∙ ap (joined_text parts.hasher parts.salt) last in
        let made = HasParts-made parts.hasher password parts.salt joined.usable joined.salted in
        (parts.hasher, parts.salt, rw whole made, (is_installed-Decides installed (algo_of parts.hasher)).0 both.0)

is_same_hasher-Decides : (first second : Hasher) → Decides (is_same_hasher first second) (first ≡ second)
is_same_hasher-Decides (Pbkdf2Sha256 m) (Pbkdf2Sha256 n) = Decides-like _ (ap Pbkdf2Sha256) (λ same. cc same) (Decides-eqb m n)
is_same_hasher-Decides (Pbkdf2Sha1 m) (Pbkdf2Sha1 n) = Decides-like _ (ap Pbkdf2Sha1) (λ same. cc same) (Decides-eqb m n)
is_same_hasher-Decides Md5 Md5 = (λ yes. refl, λ same. refl)
is_same_hasher-Decides first second = (λ yes. absurd (cc yes), λ same. absurd (cc same))

is_old-Decides : (preferred : Hasher) (parts : PasswordParts) → Decides (is_old preferred parts) ((parts.hasher ≢ preferred) ⊎ (length parts.salt < 22))
unfolding is_old
is_old-Decides preferred parts = Decides-or _ _ (Decides-not _ (is_same_hasher-Decides parts.hasher preferred)) (Decides-ltb (length parts.salt) 22)

-- and so does this one, of a text that verifies
pub is_outdated-Decides : (password text : List ℕ) (installed : List Algo) (preferred : Hasher) → Verifies password text installed
    → Decides (is_outdated text preferred) (IsOutdated text preferred)
unfolding is_outdated
is_outdated-Decides password text installed preferred right = (
  λ yes.
      let last : List ℕ = last_part right.0 password right.1 in
      let old = rw (HasParts-read text right.0 right.1 last right.2) at yes in
      (right.0, right.1, last, right.2, (is_old-Decides preferred _).0 old),
  λ old. rw (HasParts-read text old.0 old.1 old.2 old.3) ((is_old-Decides preferred _).1 old.4),
)
