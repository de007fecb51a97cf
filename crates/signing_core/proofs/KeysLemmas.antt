-- The first key that is refused, and why there is one such place.
use Rattle.std.proofs.Common.{◌≡◌, ◌≢◌, ℕ, ◌+◌, ◌<◌, ◌≤◌, List, [], ◌∷◌, length, get_or, take, arith, sym, ◌∙◌, subst, inl, inr, add-one, ◌⊎◌, zero, suc}
use Rattle.std.specs.List.{All, Contains}
use Rattle.std.proofs.lemmas.Bool.{cases_order}
use Rattle.std.proofs.lemmas.List.{get_or_default, get_or-take, length-take-le, take_all, take_more}
use Rattle.std.proofs.lemmas.List.Elements.{All-push}
use Rattle.std.proofs.lemmas.List.Quantifiers.{all_pairs_push}
use Rattle.crypto_text.specs.TextList.{AreDifferent}
use Rattle.signing_core.specs.Keys.{HasKeyLength, IsFirstOfOtherLength, IsFirstTwice, key_at}

cons_cases : (first : List ℕ) (rest : List (List ℕ)) (key : List ℕ) (k : ℕ) → k < length (first ∷ rest) → get_or (first ∷ rest) k key ≡ key → (first ≡ key) ⊎ Contains rest key
cons_cases first rest key zero lt same = inl same
cons_cases first rest key (suc k) lt same = inr (k, omega arith, same)

-- a key of a list is the first, or one behind it
pub Contains-cons_cases : (first : List ℕ) (rest : List (List ℕ)) (key : List ℕ) → Contains (first ∷ rest) key → (first ≡ key) ⊎ Contains rest key
Contains-cons_cases first rest key found = cons_cases first rest key found.0 found.1 found.2

pub Contains-cons_rest : (first : List ℕ) (rest : List (List ℕ)) (key : List ℕ) → Contains rest key → Contains (first ∷ rest) key
Contains-cons_rest first rest key found = (suc found.0, omega (arith, found.1), found.2)

-- what the first key and the first i of the rest have, and the next one too
pub All-one_more : (P : List ℕ → Type 0) (first : List ℕ) (rest : List (List ℕ)) (i : ℕ) → i < length rest → All P (first ∷ take i rest) → P (get_or rest i []) → All P (first ∷ take (i + 1) rest)
All-one_more P first rest i lt before next = rw (take_more rest i [] lt) (All-push P (first ∷ take i rest) (get_or rest i []) before next)

-- the first key and the first i of the rest are different, and the next one is none of them
pub AreDifferent-one_more : (first : List ℕ) (rest : List (List ℕ)) (i : ℕ) → i < length rest → AreDifferent (first ∷ take i rest)
    → (Contains (first ∷ take i rest) (get_or rest i []) → ⊥) → AreDifferent (first ∷ take (i + 1) rest)
AreDifferent-one_more first rest i lt before fresh =
    let next : List ℕ = get_or rest i [] in
    rw (take_more rest i [] lt)
    (all_pairs_push (λ a b. a ≢ b) (first ∷ take i rest) next before
    (λ k d below same. fresh (k, below, get_or_default (first ∷ take i rest) k next d below ∙ same)))

before_has_length : (keys : List (List ℕ)) (a b : ℕ) → IsFirstOfOtherLength keys b → a < b → HasKeyLength (key_at keys a)
before_has_length keys a b found lt =
    let within : b ≤ length keys = omega (arith, found.within) in
    let long : length (take b keys) ≡ b = length-take-le b keys within in
    subst HasKeyLength (get_or-take b keys a [] lt) (found.before a [] (omega arith))

-- there is one first key of another length
pub IsFirstOfOtherLength-same : (keys : List (List ℕ)) (a b : ℕ) → IsFirstOfOtherLength keys a → IsFirstOfOtherLength keys b → a ≡ b
IsFirstOfOtherLength-same keys a b first second =
    elim (cases_order a b) [
      | inl same ↦ same
      | inr (inl below) ↦ absurd (first.other (before_has_length keys a b second below))
      | inr (inr above) ↦ absurd (second.other (before_has_length keys b a first above))
    ]

-- there is none where all have the length of a key
pub All-no_other : (keys : List (List ℕ)) (at : ℕ) → All HasKeyLength keys → IsFirstOfOtherLength keys at → ⊥
All-no_other keys at all found = found.other (all at [] found.within)

different_before : (keys : List (List ℕ)) (a n : ℕ) → AreDifferent (take n keys) → n ≤ length keys → a < n → Contains (take a keys) (key_at keys a) → ⊥
different_before keys a n different within lt twice =
    let x : List ℕ = key_at keys a in
    let k : ℕ = twice.0 in
    let short : length (take a keys) ≡ a = length-take-le a keys (omega arith) in
    let long : length (take n keys) ≡ n = length-take-le n keys within in
    let below : k < a = omega (arith, twice.1) in
    let in_front : get_or (take n keys) k x ≡ x = get_or-take n keys k x (omega arith) ∙ sym (get_or-take a keys k x below) ∙ twice.2 in
    let here : get_or (take n keys) a x ≡ x = get_or-take n keys a x lt ∙ get_or_default keys a x [] (omega arith) in
    different k a x below (omega arith) (in_front ∙ sym here)

-- there is one first key that stood before
pub IsFirstTwice-same : (keys : List (List ℕ)) (a b : ℕ) → IsFirstTwice keys a → IsFirstTwice keys b → a ≡ b
IsFirstTwice-same keys a b first second =
    elim (cases_order a b) [
      | inl same ↦ same
      | inr (inl below) ↦ absurd (different_before keys a b second.before (omega (arith, second.within)) below first.twice)
      | inr (inr above) ↦ absurd (different_before keys b a first.before (omega (arith, first.within)) above second.twice)
    ]

-- there is none where all are different
pub AreDifferent-not_twice : (keys : List (List ℕ)) (at : ℕ) → AreDifferent keys → IsFirstTwice keys at → ⊥
AreDifferent-not_twice keys at different found =
    let whole : take (length keys) keys ≡ keys = take_all (length keys) keys (omega arith) in
    different_before keys at (length keys) (subst AreDifferent (sym whole) different) (omega arith) found.within found.twice

-- the key behind the first i stood before
pub IsFirstTwice-behind : (first : List ℕ) (rest : List (List ℕ)) (i : ℕ) → i < length rest → AreDifferent (first ∷ take i rest)
    → Contains (first ∷ take i rest) (get_or rest i []) → IsFirstTwice (first ∷ rest) (i + 1)
IsFirstTwice-behind first rest i lt before found =
    subst (IsFirstTwice (first ∷ rest)) (sym (add-one i))
    (record { within = omega (arith, lt); twice = found; before = before })
