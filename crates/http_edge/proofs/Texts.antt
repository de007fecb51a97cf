-- Bytes that are text, and the cookies of a head.
use Rattle.std.proofs.Common.{◌≡◌, ◌⊎◌, Bool, true, false, ℕ, List, ◌++◌, drop, flat_map, Some, None, refl, sym, ap, ◌∙◌, inl, inr}
use Rattle.std.specs.Str.{IsUtf8, is_utf8}
use Rattle.std.proofs.lemmas.Str.{is_utf8-from_IsUtf8, IsUtf8-from_is_utf8}
use Rattle.std.specs.Option.{option_map}
use Rattle.http_edge.specs.HeaderFields.{as_text, text_in, first_value, behind_others, cookie_text}

test_cases : (b : Bool) → (b ≡ true) ⊎ (b ≡ false)
test_cases true = inl refl
test_cases false = inr refl

pub is_utf8-not : (bytes : List ℕ) → (IsUtf8 bytes → ⊥) → is_utf8 bytes ≡ false
is_utf8-not bytes never = elim (test_cases (is_utf8 bytes)) [
  | inl is ↦ absurd (never (IsUtf8-from_is_utf8 bytes is))
  | inr not ↦ not
]

-- text stands
pub as_text-text : (bytes : List ℕ) → IsUtf8 bytes → as_text bytes ≡ Some bytes
as_text-text bytes is = rw (is_utf8-from_IsUtf8 bytes is) refl

-- other bytes don't
pub as_text-none : (bytes : List ℕ) → (IsUtf8 bytes → ⊥) → as_text bytes ≡ None
as_text-none bytes never = rw (is_utf8-not bytes never) refl

-- the cookies, where they are these bytes
pub cookie_text-is : (values : List (List ℕ)) (first all : List ℕ) → Some first ≡ first_value values
    → all ≡ first ++ flat_map behind_others (drop 1 values) → cookie_text values ≡ as_text all
cookie_text-is values first all is same =
    ap (λ o. text_in (option_map (λ (first : List ℕ). first ++ flat_map behind_others (drop 1 values)) o)) (sym is) ∙ ap as_text (sym same)
