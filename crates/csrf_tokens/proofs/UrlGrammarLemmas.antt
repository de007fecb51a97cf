-- URLs of the grammar are those that are read.
use Rattle.std.proofs.Common.{◌≡◌, ℕ, ◌<◌, ◌&&◌, not, Bool, true, inl, inr, List, [], ◌∷◌, ◌++◌, codes, length, take, drop, refl, sym, ap, ◌∙◌, arith, subst, Option, Some, None, option_and_then}
use Rattle.std.proofs.Math.Seq.{take-length}
use Rattle.std.proofs.lemmas.List.{append-nil, take-append-drop}
use Rattle.std.specs.Char.{is_ascii_alphabetic}
use Rattle.std.specs.List.{after_first, before_first, list_all, position_or_len}
use Rattle.csrf_tokens.specs.Hosts.{is_colon, is_empty}
use Rattle.csrf_tokens.specs.Laws.{UrlsAreWellFormed}
use Rattle.csrf_tokens.specs.Marks.{after_mark}
use Rattle.csrf_tokens.specs.UrlGrammar.{IsTail, IsUrl}
use Rattle.csrf_tokens.specs.Urls.{Url, after_slashes, is_delimiter, is_scheme, is_scheme_byte, netloc_of, url_parts, url_with}
use Rattle.csrf_tokens.proofs.MarkLemmas.{after_mark-gives, either}
use Rattle.csrf_tokens.proofs.TestLemmas.{after_first-joined, and_tells, before_first-joined, cut_at_mark, is_not_empty, list_all-weaker, not_empty, not_mark, position_or_len-none, suc_add}

-- a scheme has no colon
scheme_lacks_colon : (scheme : List ℕ) → is_scheme scheme ≡ true → list_all (λ c. not (is_colon c)) scheme ≡ true
scheme_lacks_colon [] named = refl
scheme_lacks_colon (c ∷ rest) named =
    let parts = and_tells (is_ascii_alphabetic c) (list_all is_scheme_byte rest) named in
    let head = not_mark is_ascii_alphabetic 58 refl c parts.0 in
    let tail = list_all-weaker is_scheme_byte (λ d. not (is_colon d)) (not_mark is_scheme_byte 58 refl) rest parts.1 in
    rw (head, tail) refl

-- a network location goes to the next delimiter
netloc_of-joined : (netloc tail : List ℕ) → list_all (λ c. not (is_delimiter c)) netloc ≡ true → IsTail tail → netloc_of (netloc ++ tail) ≡ netloc
unfolding netloc_of
netloc_of-joined netloc [] inside ends =
    ap (before_first is_delimiter) (append-nil netloc) ∙ ap (λ (n : ℕ). take n netloc) (position_or_len-none is_delimiter netloc inside)
    ∙ take-length netloc
netloc_of-joined netloc (c ∷ rest) inside ends = before_first-joined is_delimiter netloc c rest inside ends

-- what comes before the first delimiter has none, and what follows begins with it
list_all-before_first : (p : ℕ → Bool) (xs : List ℕ) → list_all (λ c. not (p c)) (before_first p xs) ≡ true
list_all-before_first p [] = refl
list_all-before_first p (x ∷ xs) = elim (either (p x)) [
  | inl found ↦ rw found refl
  | inr other ↦
      let next = suc_add (position_or_len p xs) in
      rw (other, next, other) (list_all-before_first p xs)
]

IsTail-drop : (rest : List ℕ) → IsTail (drop (position_or_len is_delimiter rest) rest)
IsTail-drop [] = tt
IsTail-drop (c ∷ rest) = elim (either (is_delimiter c)) [
  | inl found ↦ rw found found
  | inr other ↦
      let next = suc_add (position_or_len is_delimiter rest) in
      rw (other, next) (IsTail-drop rest)
]

-- what a step after an option gives
and_then-gives : {A : Type 0} (f : List ℕ → Option A) (o : Option (List ℕ)) (y : A) → option_and_then f o ≡ Some y → (x : List ℕ) × (o ≡ Some x) × (f x ≡ Some y)
and_then-gives f None y found = cc
and_then-gives f (Some x) y found = (x, refl, found)

url_with-gives : (scheme netloc : List ℕ) (url : Url) → url_with scheme netloc ≡ Some url
    → (is_scheme scheme ≡ true) × (0 < length netloc) × (record { scheme = scheme; netloc = netloc } ≡ url)
url_with-gives scheme netloc url found = elim (either (is_scheme scheme && not (is_empty netloc))) [
  | inl fits ↦
      let parts = and_tells (is_scheme scheme) (not (is_empty netloc)) fits in
      (parts.0, not_empty netloc parts.1, same_url (rw fits at found))
  | inr other ↦ absurd (no_url (rw other at found))
]
  where
    same_url : {x y : Url} → Some x ≡ Some y → x ≡ y
    same_url same = cc

    no_url : {y : Url} → None ≡ Some y → ⊥
    no_url same = cc

IsUrl-read : (text : List ℕ) (url : Url) → url_parts text ≡ Some url → IsUrl text url
unfolding url_parts netloc_of
IsUrl-read text url found =
    let scheme = before_first is_colon text in
    let outer = and_then-gives (λ rest. url_with scheme (netloc_of rest)) (after_slashes (after_first is_colon text)) url found in
    let rest = outer.0 in
    let slashes = and_then-gives (after_mark 47) (after_mark 47 (after_first is_colon text)) rest outer.1 in
    let first = after_mark-gives 47 (after_first is_colon text) slashes.0 slashes.1 in
    let second = after_mark-gives 47 slashes.0 rest slashes.2 in
    let slashed : after_first is_colon text ≡ 47 ∷ (47 ∷ rest) = first ∙ ap (λ (l : List ℕ). 47 ∷ l) second in
    let some : 0 < length (after_first is_colon text) = rw slashed (omega arith) in
    let cut = cut_at_mark 58 text some ∙ ap (λ (l : List ℕ). scheme ++ 58 ∷ l) slashed in
    let parts = url_with-gives scheme (netloc_of rest) url outer.2 in
    let tail = drop (position_or_len is_delimiter rest) rest in
    subst (IsUrl text) parts.2 (record {
      tail = tail;
      whole = cut ∙ ap (λ (l : List ℕ). scheme ++ (codes "://" ++ l)) (sym (take-append-drop (position_or_len is_delimiter rest) rest));
      named = parts.0;
      some = parts.1;
      inside = list_all-before_first is_delimiter rest;
      ends = IsTail-drop rest;
    })

read-IsUrl : (text : List ℕ) (url : Url) → IsUrl text url → url_parts text ≡ Some url
unfolding url_parts
read-IsUrl text url is =
    let rest = is.tail in
    let colons = scheme_lacks_colon url.scheme is.named in
    let slashed : List ℕ = 47 ∷ (47 ∷ (url.netloc ++ rest)) in
    let front = ap (before_first is_colon) is.whole ∙ before_first-joined is_colon url.scheme 58 slashed colons refl in
    let back = ap (after_first is_colon) is.whole ∙ after_first-joined is_colon url.scheme 58 slashed colons refl in
    let netloc = netloc_of-joined url.netloc rest is.inside is.ends in
    let some = is_not_empty url.netloc is.some in
    rw (front, back, netloc, is.named, some) refl

pub urls_well_formed : UrlsAreWellFormed
urls_well_formed = λ text url. (IsUrl-read text url, read-IsUrl text url)
