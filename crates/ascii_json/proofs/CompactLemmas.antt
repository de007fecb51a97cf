-- The ASCII text is the compact text with its characters beyond 0x7e escaped.
use Rattle.std.proofs.Common.{◌≡◌, ℕ, pos, negsuc, zero, suc, ◌/◌, ◌%◌, ◌<◌, ◌≤◌, Bool, true, false, cond, ◌==◌, ◌&&◌, List, [], ◌∷◌, ◌++◌, length, get_or, inl, inr, ◌⊎◌, IsUtf8, decimal, refl, sym, ap, ap₂, ◌∙◌, subst, arith, append_assoc, append-nil, lt-ltb, nat_lt, nat_le, leb-true, ltb-true}
use Rattle.std.specs.Prelude.{flat_map}
use Rattle.std.proofs.lemmas.Bool.{cases_eq, cases_lt, le-ltb, and_parts}
use Rattle.std.proofs.lemmas.Str.{encode_ascii, encodes-chars, scalars-chars, chars-append, chars-encodes, IsUtf8-encode, inside_one}
use Rattle.std.specs.Char.{digit_char}
use Rattle.std.specs.Fmt.{digits, digits_onto, digit_glyph}
use Rattle.std.specs.Str.{chars}
use lib.Utf8.{scalar, scalars, encode, encodes, low_scalar}
use Rattle.json.specs.Token.{Token}
use Rattle.json.specs.Print.{escape_letter, escape_byte, escape, quoted, token_text}
use Rattle.json.proofs.Printed.Strings.{escape_byte_plain}
use Rattle.serde_json.specs.Data.{Num, unsigned, negative, float, Data, null, boolean, number, string, array, object, Items, no_items, item, Members, no_members, member}
use Rattle.serde_json.specs.Written.{number_text, comma_if, compact_text, items_text, members_text}
use Rattle.ascii_json.specs.AsciiJson.{IsPrintable, escaped_char, items_json, json_of, members_json, quoted_text, unicode_escape}
use Rattle.ascii_json.specs.Escaping.{escaped_beyond_ascii, escaped_text}
use Rattle.ascii_json.proofs.Printable.{ArePrintable}
use Rattle.ascii_json.proofs.HasTexts.{HasTexts, ItemsHaveTexts, MembersHaveTexts}
use Rattle.ascii_json.proofs.EscapeLemmas.{Either, no_letter, plain_is, unit_is, pair_is}

-- ---- a character at the front

escaped_text-char : (c : ℕ) (r : List ℕ) → scalar c ≡ true → escaped_text (encode c ++ r) ≡ escaped_beyond_ascii c ++ escaped_text r
unfolding escaped_text
escaped_text-char c r ok =
    let one : chars (encode c ++ []) ≡ c ∷ [] = chars-encodes (c ∷ []) (ap (λ b. b && true) ok) in
    ap (flat_map escaped_beyond_ascii) (chars-append (encode c) r (IsUtf8-encode c ok) ∙ ap (λ l. l ++ chars r) (ap chars (sym (append-nil (encode c))) ∙ one))

-- a byte that stays
pub escaped_text-low : (x : ℕ) (r : List ℕ) → x < 127 → escaped_text (x ∷ r) ≡ x ∷ escaped_text r
unfolding escaped_beyond_ascii
escaped_text-low x r h =
    ap (λ l. escaped_text (l ++ r)) (sym (encode_ascii x (omega arith))) ∙ escaped_text-char x r (low_scalar x (omega arith)) ∙ rw (lt-ltb x 127 h) refl

-- ---- a string

short_passes : (c l : ℕ) (r : List ℕ) → escape_byte c ≡ 92 ∷ l ∷ [] → escaped_char c ≡ 92 ∷ l ∷ [] → c < 128 → l < 127 → escaped_text (escape (encode c) ++ r) ≡ escaped_char c ++ escaped_text r
short_passes c l r e f small low =
    rw (encode_ascii c small) (ap (λ t. escaped_text ((t ++ []) ++ r)) e ∙ escaped_text-low 92 _ (omega arith) ∙ ap (λ t. 92 ∷ t) (escaped_text-low l r low) ∙ sym (ap (λ t. t ++ escaped_text r) f))

abbrev Passes : ℕ → Type 0
Passes c = (r : List ℕ) → escaped_text (escape (encode c) ++ r) ≡ escaped_char c ++ escaped_text r

short_quote : Passes 34
unfolding escape_byte escaped_char
short_quote r = short_passes 34 34 r refl refl (omega arith) (omega arith)

short_backslash : Passes 92
unfolding escape_byte escaped_char
short_backslash r = short_passes 92 92 r refl refl (omega arith) (omega arith)

short_b : Passes 8
unfolding escape_byte escaped_char
short_b r = short_passes 8 98 r refl refl (omega arith) (omega arith)

short_f : Passes 12
unfolding escape_byte escaped_char
short_f r = short_passes 12 102 r refl refl (omega arith) (omega arith)

short_n : Passes 10
unfolding escape_byte escaped_char
short_n r = short_passes 10 110 r refl refl (omega arith) (omega arith)

short_r : Passes 13
unfolding escape_byte escaped_char
short_r r = short_passes 13 114 r refl refl (omega arith) (omega arith)

short_t : Passes 9
unfolding escape_byte escaped_char
short_t r = short_passes 9 116 r refl refl (omega arith) (omega arith)

control_is : (c : ℕ) → escape_letter c ≡ 0 → c < 32 → escape_byte c ≡ unicode_escape c
unfolding escape_byte unicode_escape
control_is c e h =
    let a : c / 4096 ≡ 0 = omega arith in
    let b : c / 256 % 16 ≡ 0 = omega arith in
    let d : c / 16 % 16 ≡ c / 16 = omega arith in
    rw (e, lt-ltb c 32 h, a, b, d) refl

digit_low : (d : ℕ) → d < 16 → digit_char d < 127
digit_low d h = grind arith

unit_stays : (u : ℕ) (r : List ℕ) → u < 65536 → escaped_text (unicode_escape u ++ r) ≡ unicode_escape u ++ escaped_text r
unfolding unicode_escape
unit_stays u r h =
    let byte = λ (x : ℕ) (t q : List ℕ) (low : x < 127) (e : escaped_text t ≡ q). escaped_text-low x t low ∙ ap (λ l. x ∷ l) e in
    byte 92 _ _ (omega arith) (byte 117 _ _ (omega arith) (byte (digit_char (u / 4096)) _ _ (digit_low _ (omega arith)) (byte (digit_char (u / 256 % 16)) _ _ (digit_low _ (omega arith))
    (byte (digit_char (u / 16 % 16)) _ _ (digit_low _ (omega arith)) (byte (digit_char (u % 16)) r (escaped_text r) (digit_low _ (omega arith)) refl)))))

control_passes : (c : ℕ) → escape_letter c ≡ 0 → c < 32 → Passes c
control_passes c e h r =
    rw (encode_ascii c (omega arith))
    (ap (λ t. escaped_text ((t ++ []) ++ r)) (control_is c e h) ∙ ap (λ t. escaped_text (t ++ r)) (append-nil (unicode_escape c)) ∙ unit_stays c r (omega arith)
    ∙ sym (ap (λ t. t ++ escaped_text r) (unit_is c e (inl h) (omega arith))))

-- bytes that need no escape of their own
escape_high : (xs : List ℕ) → ((k : ℕ) → k < length xs → 127 ≤ get_or xs k 0) → escape xs ≡ xs
escape_high [] h = refl
escape_high (x ∷ xs) h =
    let high : 127 ≤ x = h 0 (omega arith) in
    ap₂ (λ (a b : List ℕ). a ++ b) (escape_byte_plain x (λ e. omega arith) (λ e. omega arith) (omega arith)) (escape_high xs (λ k below. h (suc k) (omega arith)))

encode_high : (c : ℕ) → 127 ≤ c → escape (encode c) ≡ encode c
encode_high c h = escape_high (encode c) (λ k below. elim (cases_lt (get_or (encode c) k 0) 127) [
  | inl low ↦ absurd (omega (arith, inside_one c [] (encode c) k (sym (append-nil _)) below (omega arith)))
  | inr high ↦ high
])

beyond_is : (c : ℕ) → escape_letter c ≡ 0 → 127 ≤ c → escaped_beyond_ascii c ≡ escaped_char c
unfolding escaped_beyond_ascii
beyond_is c e h = elim (cases_lt c 65536) [
  | inl small ↦ rw (le-ltb c 127 h, lt-ltb c 65536 small) (sym (unit_is c e (inr h) small))
  | inr big ↦ rw (le-ltb c 127 h, le-ltb c 65536 big) (sym (pair_is c e big))
]

high_passes : (c : ℕ) → scalar c ≡ true → escape_letter c ≡ 0 → 127 ≤ c → Passes c
high_passes c ok e h r = ap (λ t. escaped_text (t ++ r)) (encode_high c h) ∙ escaped_text-char c r ok ∙ ap (λ t. t ++ escaped_text r) (beyond_is c e h)

middle_passes : (c : ℕ) → (c ≡ 34 → ⊥) → (c ≡ 92 → ⊥) → escape_letter c ≡ 0 → 32 ≤ c → c < 127 → Passes c
middle_passes c q s e l h r =
    rw (encode_ascii c (omega arith))
    (ap (λ t. escaped_text ((t ++ []) ++ r)) (escape_byte_plain c q s l) ∙ escaped_text-low c r h ∙ sym (ap (λ t. t ++ escaped_text r) (plain_is c e l h)))

passes : (c : ℕ) → scalar c ≡ true → Passes c
passes c ok = go (cases_eq c 34) (cases_eq c 92) (cases_eq c 8) (cases_eq c 12) (cases_eq c 10) (cases_eq c 13) (cases_eq c 9)
  where
    other : (c ≡ 34 → ⊥) → (c ≡ 92 → ⊥) → escape_letter c ≡ 0 → (c < 32) ⊎ (32 ≤ c) → (c < 127) ⊎ (127 ≤ c) → Passes c
    other q s e (inl low) b = control_passes c e low
    other q s e (inr l) (inl h) = middle_passes c q s e l h
    other q s e (inr l) (inr h) = high_passes c ok e h

    go : Either c 34 → Either c 92 → Either c 8 → Either c 12 → Either c 10 → Either c 13 → Either c 9 → Passes c
    go (inl e) s b f n r t = subst Passes (sym e) short_quote
    go (inr q) (inl e) b f n r t = subst Passes (sym e) short_backslash
    go (inr q) (inr s) (inl e) f n r t = subst Passes (sym e) short_b
    go (inr q) (inr s) (inr b) (inl e) n r t = subst Passes (sym e) short_f
    go (inr q) (inr s) (inr b) (inr f) (inl e) r t = subst Passes (sym e) short_n
    go (inr q) (inr s) (inr b) (inr f) (inr n) (inl e) t = subst Passes (sym e) short_r
    go (inr q) (inr s) (inr b) (inr f) (inr n) (inr r) (inl e) = subst Passes (sym e) short_t
    go (inr q) (inr s) (inr b) (inr f) (inr n) (inr r) (inr t) = other q s (no_letter c q s b f n r t) (cases_lt c 32) (cases_lt c 127)

escape-append : (xs ys : List ℕ) → escape (xs ++ ys) ≡ escape xs ++ escape ys
escape-append [] ys = refl
escape-append (x ∷ xs) ys = ap (λ l. escape_byte x ++ l) (escape-append xs ys) ∙ sym (append_assoc (escape_byte x) _ _)

all_pass : (cs r : List ℕ) → scalars cs ≡ true → escaped_text (escape (encodes cs) ++ r) ≡ flat_map escaped_char cs ++ escaped_text r
all_pass [] r ok = refl
all_pass (c ∷ cs) r ok =
    let p = and_parts _ _ ok in
    ap (λ t. escaped_text (t ++ r)) (escape-append (encode c) (encodes cs)) ∙ ap escaped_text (append_assoc (escape (encode c)) _ r) ∙ passes c p.0 _
    ∙ ap (λ t. escaped_char c ++ t) (all_pass cs r p.1) ∙ sym (append_assoc (escaped_char c) _ _)

quoted_passes : (s r : List ℕ) → IsUtf8 s → escaped_text (quoted s ++ r) ≡ quoted_text s ++ escaped_text r
quoted_passes s r u =
    let text = flat_map escaped_char (chars s) in
    escaped_text-low 34 _ (omega arith)
    ∙ ap (λ t. 34 ∷ t) (ap escaped_text (append_assoc (escape s) (34 ∷ []) r) ∙ ap (λ t. escaped_text (escape t ++ 34 ∷ r)) (sym (encodes-chars s u)) ∙ all_pass (chars s) (34 ∷ r) (scalars-chars s u)
    ∙ ap (λ t. text ++ t) (escaped_text-low 34 r (omega arith)) ∙ sym (append_assoc text (34 ∷ []) (escaped_text r)))

-- ---- numbers and words

printable_stays : (xs r : List ℕ) → ArePrintable xs → escaped_text (xs ++ r) ≡ xs ++ escaped_text r
printable_stays [] r h = refl
printable_stays (x ∷ xs) r h = escaped_text-low x (xs ++ r) h.1 ∙ ap (λ t. x ∷ t) (printable_stays xs r h.2)

either_printable : (b : Bool) (xs ys : List ℕ) → ArePrintable xs → ArePrintable ys → ArePrintable (cond b xs ys)
either_printable true xs ys h k = h
either_printable false xs ys h k = k

glyph_printable : (d : ℕ) → d < 10 → IsPrintable (digit_glyph false d)
glyph_printable d h = (grind arith, grind arith)

digits_printable : (k n : ℕ) (acc : List ℕ) → ArePrintable acc → ArePrintable (digits_onto k 10 false n acc)
digits_printable zero n acc h = h
digits_printable (suc k) n acc h =
    let d = glyph_printable (n % 10) (omega arith) in
    either_printable (n / 10 == 0) _ _ (d.0, d.1, h) (digits_printable k (n / 10) _ (d.0, d.1, h))

decimal_printable : (n : ℕ) → ArePrintable (decimal n)
unfolding digits
decimal_printable n = digits_printable 64 n [] tt

pub number_printable : (n : Num) → ArePrintable (number_text n)
number_printable (unsigned n) = decimal_printable n
number_printable (negative (pos n)) = decimal_printable n
number_printable (negative (negsuc n)) = (omega arith, omega arith, decimal_printable (suc n))
number_printable (float x) = tt

abbrev are_printable : List ℕ → Bool
are_printable [] = true
are_printable (x ∷ xs) = nat_le 32 x && nat_lt x 127 && are_printable xs

-- for a text that is written out
printable_if : (xs : List ℕ) → are_printable xs ≡ true → ArePrintable xs
printable_if [] e = tt
printable_if (x ∷ xs) e =
    let p = and_parts (nat_le 32 x && nat_lt x 127) _ e in
    let q = and_parts (nat_le 32 x) _ p.0 in
    (leb-true _ _ q.0, ltb-true _ _ q.1, printable_if xs p.1)

pub boolean_printable : (b : Bool) → ArePrintable (token_text (Token.boolean b))
boolean_printable true = printable_if (token_text (Token.boolean true)) refl
boolean_printable false = printable_if (token_text (Token.boolean false)) refl

pub null_printable : ArePrintable (token_text Token.null)
null_printable = printable_if (token_text Token.null) refl

pub comma_printable : (b : Bool) → ArePrintable (comma_if b)
comma_printable true = printable_if (44 ∷ []) refl
comma_printable false = tt

-- ---- a whole value

regroup_item : (a b c r : List ℕ) → (a ++ (b ++ c)) ++ r ≡ a ++ (b ++ (c ++ r))
regroup_item a b c r = simp append_assoc

regroup_member : (a k b c r : List ℕ) → (a ++ (k ++ 58 ∷ (b ++ c))) ++ r ≡ a ++ (k ++ 58 ∷ (b ++ (c ++ r)))
regroup_member a k b c r = simp append_assoc

mutual
  value_passes : (d : Data) (r : List ℕ) → HasTexts d → escaped_text (compact_text d ++ r) ≡ json_of d ++ escaped_text r
  value_passes null r t = printable_stays (token_text Token.null) r null_printable
  value_passes (boolean b) r t = printable_stays (token_text (Token.boolean b)) r (boolean_printable b)
  value_passes (number n) r t = printable_stays (number_text n) r (number_printable n)
  value_passes (string s) r t = quoted_passes s r t
  value_passes (array ds) r t = escaped_text-low 91 _ (omega arith) ∙ ap (λ l. 91 ∷ l) (items_pass false ds r t)
  value_passes (object ms) r t = escaped_text-low 123 _ (omega arith) ∙ ap (λ l. 123 ∷ l) (members_pass false ms r t)

  items_pass : (later : Bool) (ds : Items) (r : List ℕ) → ItemsHaveTexts ds → escaped_text (items_text later ds ++ r) ≡ items_json later ds ++ escaped_text r
  items_pass later no_items r t = escaped_text-low 93 r (omega arith)
  items_pass later (item d ds) r t =
      ap escaped_text (regroup_item (comma_if later) (compact_text d) (items_text true ds) r) ∙ printable_stays (comma_if later) _ (comma_printable later)
      ∙ ap (λ l. comma_if later ++ l) (value_passes d _ t.0 ∙ ap (λ l. json_of d ++ l) (items_pass true ds r t.1))
      ∙ sym (regroup_item (comma_if later) (json_of d) (items_json true ds) (escaped_text r))

  members_pass : (later : Bool) (ms : Members) (r : List ℕ) → MembersHaveTexts ms → escaped_text (members_text later ms ++ r) ≡ members_json later ms ++ escaped_text r
  members_pass later no_members r t = escaped_text-low 125 r (omega arith)
  members_pass later (member k d ms) r t =
      ap escaped_text (regroup_member (comma_if later) (quoted k) (compact_text d) (members_text true ms) r) ∙ printable_stays (comma_if later) _ (comma_printable later)
      ∙ ap (λ l. comma_if later ++ l) (quoted_passes k _ t.0
      ∙ ap (λ l. quoted_text k ++ l) (escaped_text-low 58 _ (omega arith) ∙ ap (λ l. 58 ∷ l) (value_passes d _ t.1 ∙ ap (λ l. json_of d ++ l) (members_pass true ms r t.2))))
      ∙ sym (regroup_member (comma_if later) (quoted_text k) (json_of d) (members_json true ms) (escaped_text r))

pub escaped_text-compact_text : (d : Data) → HasTexts d → escaped_text (compact_text d) ≡ json_of d
unfolding escaped_text chars
escaped_text-compact_text d t = ap escaped_text (sym (append-nil (compact_text d))) ∙ value_passes d [] t ∙ append-nil (json_of d)
