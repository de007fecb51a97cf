-- The pairs of a header, one piece after another.
use Rattle.std.proofs.Common.{◌≡◌, ℕ, ◌<◌, ◌==◌, ◌&&◌, Bool, true, false, cond, not, List, [], ◌∷◌, ◌++◌, map, length, Option, Some, None, refl, sym, ap, ◌∙◌, arith}
use Rattle.std.specs.List.{after_first, before_first, filter, position_or_len}
use Rattle.std.specs.Str.{bytes_eq}
use Rattle.std.proofs.lemmas.Bool.{le-ltb, lt-ltb}
use Rattle.std.proofs.lemmas.List.{append-nil, map-append, reverse-append}
use Rattle.std.proofs.lemmas.List.Elements.{filter-append}
use Rattle.crypto_text.specs.WhiteSpace.{trimmed}
use Rattle.cookie_text.specs.declared.cookie_header.Cookie.{Cookie}
use Rattle.cookie_text.specs.CookieHeader.{cookie_of, is_equals_sign, is_kept, name_part, named_value, value_of, value_part}

-- a piece with an equals sign
pub name_part-cut : (piece : List ℕ) → position_or_len is_equals_sign piece < length piece → name_part piece ≡ before_first is_equals_sign piece
name_part-cut piece lt = let has = lt-ltb _ _ lt in rw has refl

pub value_part-cut : (piece : List ℕ) → position_or_len is_equals_sign piece < length piece → value_part piece ≡ after_first is_equals_sign piece
value_part-cut piece lt = let has = lt-ltb _ _ lt in rw has refl

-- a piece without one
pub name_part-whole : (piece : List ℕ) → position_or_len is_equals_sign piece ≡ length piece → name_part piece ≡ []
name_part-whole piece is = let has = le-ltb (position_or_len is_equals_sign piece) (length piece) (omega arith) in rw has refl

pub value_part-whole : (piece : List ℕ) → position_or_len is_equals_sign piece ≡ length piece → value_part piece ≡ piece
value_part-whole piece is = let has = le-ltb (position_or_len is_equals_sign piece) (length piece) (omega arith) in rw has refl

-- the two parts make the cookie
pub cookie_of-made : (piece name value : List ℕ) → name ≡ trimmed (name_part piece) → value ≡ trimmed (value_part piece) → record { name = name; value = value } ≡ cookie_of piece
unfolding cookie_of
cookie_of-made piece name value is_name is_value = rw (is_name, is_value) refl

-- the pairs of pieces
abbrev pub pairs_in : List (List ℕ) → List Cookie
pairs_in pieces = filter is_kept (map cookie_of pieces)

pairs_in-more : (pieces : List (List ℕ)) (piece : List ℕ) → pairs_in (pieces ++ piece ∷ []) ≡ pairs_in pieces ++ cond (is_kept (cookie_of piece)) (cookie_of piece ∷ []) []
pairs_in-more pieces piece = ap (filter is_kept) (map-append cookie_of pieces (piece ∷ [])) ∙ filter-append is_kept (map cookie_of pieces) (cookie_of piece ∷ [])

-- one piece more
pub pairs_in-kept : (pieces : List (List ℕ)) (piece : List ℕ) (cookies : List Cookie) (cookie : Cookie) → cookies ≡ pairs_in pieces → cookie ≡ cookie_of piece
    → ((length cookie.name == 0) && (length cookie.value == 0)) ≡ false → cookies ++ cookie ∷ [] ≡ pairs_in (pieces ++ piece ∷ [])
pairs_in-kept pieces piece cookies cookie so_far here kept =
    let counts = ap is_kept (sym here) ∙ ap not kept in
    rw (so_far, here, pairs_in-more pieces piece, counts) refl

-- or none
pub pairs_in-dropped : (pieces : List (List ℕ)) (piece : List ℕ) (cookies : List Cookie) (cookie : Cookie) → cookies ≡ pairs_in pieces → cookie ≡ cookie_of piece
    → ((length cookie.name == 0) && (length cookie.value == 0)) ≡ true → cookies ≡ pairs_in (pieces ++ piece ∷ [])
pairs_in-dropped pieces piece cookies cookie so_far here blank =
    let counts = ap is_kept (sym here) ∙ ap not blank in
    rw (pairs_in-more pieces piece, counts) (so_far ∙ sym (append-nil _))

-- ---- the last cookie of a name

last_value : (cookies : List Cookie) (cookie : Cookie) (name : List ℕ) (kept same : Bool) → bytes_eq cookie.name name ≡ same
    → value_of (cookies ++ cond kept (cookie ∷ []) []) name ≡ cond (kept && same) (Some cookie.value) (value_of cookies name)
last_value cookies cookie name true true is = rw (reverse-append cookies (cookie ∷ []), is) refl
last_value cookies cookie name true false is = rw (reverse-append cookies (cookie ∷ []), is) refl
last_value cookies cookie name false same is = ap (λ (cs : List Cookie). value_of cs name) (append-nil cookies)

value_of-more : (pieces : List (List ℕ)) (piece name : List ℕ)
    → value_of (pairs_in (pieces ++ piece ∷ [])) name
    ≡ cond (is_kept (cookie_of piece) && bytes_eq (cookie_of piece).name name) (Some (cookie_of piece).value) (value_of (pairs_in pieces) name)
value_of-more pieces piece name =
    ap (λ (cs : List Cookie). value_of cs name) (pairs_in-more pieces piece)
    ∙ last_value (pairs_in pieces) (cookie_of piece) name (is_kept (cookie_of piece)) (bytes_eq (cookie_of piece).name name) refl

picked : (test : Bool) (value : List ℕ) (before : Option (List ℕ)) (v : List ℕ) → cond test (Some value) None ≡ Some v → cond test (Some value) before ≡ Some v
picked true value before v is = is
picked false value before v is = absurd (cc is)

passed_over : (test : Bool) (value : List ℕ) (before : Option (List ℕ)) → cond test (Some value) None ≡ None → cond test (Some value) before ≡ before
passed_over true value before is = absurd (cc is)
passed_over false value before is = refl

-- a piece that has the name gives the value
pub value_of-found : (pieces : List (List ℕ)) (piece name value : List ℕ) → named_value piece name ≡ Some value → value_of (pairs_in (pieces ++ piece ∷ [])) name ≡ Some value
value_of-found pieces piece name value here = value_of-more pieces piece name ∙ picked _ _ (value_of (pairs_in pieces) name) value here

-- another leaves it
pub value_of-other : (pieces : List (List ℕ)) (piece name : List ℕ) → named_value piece name ≡ None → value_of (pairs_in (pieces ++ piece ∷ [])) name ≡ value_of (pairs_in pieces) name
value_of-other pieces piece name none = value_of-more pieces piece name ∙ passed_over _ _ (value_of (pairs_in pieces) name) none

-- a piece in its parts
pub named_value-is : (piece own value name : List ℕ) (blank same : Bool) → own ≡ trimmed (name_part piece) → value ≡ trimmed (value_part piece)
    → blank ≡ ((length own == 0) && (length value == 0)) → same ≡ bytes_eq own name → named_value piece name ≡ cond (not blank && same) (Some value) None
named_value-is piece own value name blank same is_own is_value is_blank is_same =
    ap (λ (c : Cookie). cond (is_kept c && bytes_eq c.name name) (Some c.value) None) (sym (cookie_of-made piece own value is_own is_value))
    ∙ ap (λ (b : Bool). cond (not b && bytes_eq own name) (Some value) None) (sym is_blank)
    ∙ ap (λ (s : Bool). cond (not blank && s) (Some value) None) (sym is_same)
