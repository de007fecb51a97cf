-- The ASCII text has bytes from 0x20 to 0x7e alone.
use Rattle.std.proofs.Common.{◌≡◌, ℕ, ◌/◌, ◌%◌, ◌<◌, ◌≤◌, Bool, true, false, List, [], ◌∷◌, ◌++◌, inl, inr, ◌⊎◌, IsUtf8, sym, subst, arith, lt-ltb}
use Rattle.std.specs.Prelude.{flat_map}
use Rattle.std.proofs.lemmas.Bool.{cases_eq, cases_lt, and_parts}
use Rattle.std.proofs.lemmas.Bool.Decides.{nat_tests}
use Rattle.std.proofs.lemmas.Str.{IsUtf8-append, IsUtf8-nil, IsUtf8-encode, encode_ascii, scalars-chars}
use Rattle.std.specs.Char.{digit_char}
use Rattle.std.specs.Str.{chars}
use lib.Utf8.{scalar, scalars, low_scalar, scalar_cases}
use Rattle.json.specs.Print.{escape_letter}
use Rattle.serde_json.specs.Data.{Data, null, boolean, number, string, array, object, Items, no_items, item, Members, no_members, member}
use Rattle.serde_json.specs.Written.{comma_if}
use Rattle.ascii_json.specs.AsciiJson.{escaped_char, high_surrogate, items_json, json_of, low_surrogate, members_json, quoted_text, unicode_escape}
use Rattle.ascii_json.proofs.Printable.{ArePrintable}
use Rattle.ascii_json.proofs.HasTexts.{HasTexts, ItemsHaveTexts, MembersHaveTexts}
use Rattle.ascii_json.proofs.EscapeLemmas.{plain_is, unit_is, pair_is}
use Rattle.ascii_json.proofs.CompactLemmas.{number_printable, boolean_printable, null_printable, comma_printable}

join : (xs ys : List ℕ) → ArePrintable xs → ArePrintable ys → ArePrintable (xs ++ ys)
join [] ys h k = k
join (x ∷ xs) ys h k = (h.0, h.1, join xs ys h.2 k)

digit_printable : (d : ℕ) → d < 16 → (32 ≤ digit_char d) × (digit_char d < 127)
digit_printable d h = (grind arith, grind arith)

unit_printable : (u : ℕ) → u < 65536 → ArePrintable (unicode_escape u)
unfolding unicode_escape
unit_printable u h =
    let a = digit_printable (u / 4096) (omega arith) in
    let b = digit_printable (u / 256 % 16) (omega arith) in
    let c = digit_printable (u / 16 % 16) (omega arith) in
    let d = digit_printable (u % 16) (omega arith) in
    (omega arith, omega arith, (omega arith, omega arith, (a.0, a.1, (b.0, b.1, (c.0, c.1, (d.0, d.1, tt))))))

letter_printable : (c : ℕ) → (escape_letter c ≡ 0 → ⊥) → (32 ≤ escape_letter c) × (escape_letter c < 127)
letter_printable c h = (grind (arith, nat_tests), grind (arith, nat_tests))

short_printable : (c : ℕ) → (escape_letter c ≡ 0 → ⊥) → ArePrintable (escaped_char c)
unfolding escaped_char
short_printable c h =
    let v = letter_printable c h in
    let some : 0 < escape_letter c = omega arith in
    rw (lt-ltb 0 (escape_letter c) some) (omega arith, omega arith, (v.0, v.1, tt))

char_printable : (c : ℕ) → scalar c ≡ true → ArePrintable (escaped_char c)
char_printable c ok = go (cases_eq (escape_letter c) 0) (scalar_cases c ok) (cases_lt c 32) (cases_lt c 127) (cases_lt c 65536)
  where
    below : (c < 55296) ⊎ ((57344 ≤ c) × (c < 1114112)) → c < 1114112
    below (inl h) = omega arith
    below (inr h) = h.1

    go : (escape_letter c ≡ 0) ⊎ (escape_letter c ≡ 0 → ⊥) → (c < 55296) ⊎ ((57344 ≤ c) × (c < 1114112)) → (c < 32) ⊎ (32 ≤ c) → (c < 127) ⊎ (127 ≤ c) → (c < 65536) ⊎ (65536 ≤ c)
        → ArePrintable (escaped_char c)
    go (inr some) s a b big = short_printable c some
    go (inl e) s a b (inr big) =
        let top : c < 1114112 = below s in
        subst ArePrintable (sym (pair_is c e big)) (join (unicode_escape (high_surrogate c)) (unicode_escape (low_surrogate c)) (unit_printable _ (omega arith)) (unit_printable _ (omega arith)))
    go (inl e) s (inl low) b (inl small) = subst ArePrintable (sym (unit_is c e (inl low) small)) (unit_printable c small)
    go (inl e) s (inr l) (inl h) (inl small) = subst ArePrintable (sym (plain_is c e l h)) (l, h, tt)
    go (inl e) s (inr l) (inr high) (inl small) = subst ArePrintable (sym (unit_is c e (inr high) small)) (unit_printable c small)

chars_printable : (cs : List ℕ) → scalars cs ≡ true → ArePrintable (flat_map escaped_char cs)
chars_printable [] ok = tt
chars_printable (c ∷ cs) ok = let p = and_parts _ _ ok in join (escaped_char c) _ (char_printable c p.0) (chars_printable cs p.1)

quoted_printable : (s : List ℕ) → IsUtf8 s → ArePrintable (quoted_text s)
quoted_printable s u = (omega arith, omega arith, join (flat_map escaped_char (chars s)) (34 ∷ []) (chars_printable (chars s) (scalars-chars s u)) (omega arith, omega arith, tt))

mutual
  pub text_printable : (d : Data) → HasTexts d → ArePrintable (json_of d)
  text_printable null t = null_printable
  text_printable (boolean b) t = boolean_printable b
  text_printable (number n) t = number_printable n
  text_printable (string s) t = quoted_printable s t
  text_printable (array ds) t = (omega arith, omega arith, items_printable false ds t)
  text_printable (object ms) t = (omega arith, omega arith, members_printable false ms t)

  items_printable : (later : Bool) (ds : Items) → ItemsHaveTexts ds → ArePrintable (items_json later ds)
  items_printable later no_items t = (omega arith, omega arith, tt)
  items_printable later (item d ds) t = join (comma_if later) _ (comma_printable later) (join (json_of d) _ (text_printable d t.0) (items_printable true ds t.1))

  members_printable : (later : Bool) (ms : Members) → MembersHaveTexts ms → ArePrintable (members_json later ms)
  members_printable later no_members t = (omega arith, omega arith, tt)
  members_printable later (member k d ms) t =
      join (comma_if later) _ (comma_printable later)
      (join (quoted_text k) _ (quoted_printable k t.0) (omega arith, omega arith, join (json_of d) _ (text_printable d t.1) (members_printable true ms t.2)))

pub printable_utf8 : (xs : List ℕ) → ArePrintable xs → IsUtf8 xs
printable_utf8 [] h = IsUtf8-nil
printable_utf8 (x ∷ xs) h = IsUtf8-append (x ∷ []) xs (subst IsUtf8 (encode_ascii x (omega arith)) (IsUtf8-encode x (low_scalar x (omega arith)))) (printable_utf8 xs h.2)
