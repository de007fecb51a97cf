-- An escaped string is read back, and the lexer passes over it.
use Rattle.std.proofs.Common.{◌≡◌, ℕ, ◌+◌, ◌*◌, ◌/◌, ◌%◌, ◌<◌, ◌≤◌, Bool, true, false, cond, ◌&&◌, nat_lt, nat_le, List, [], ◌∷◌, ◌++◌, Some, inl, inr, ◌⊎◌, IsUtf8, refl, sym, ap, ap₂, ◌∙◌, subst, arith, append_assoc, lt-ltb, le-leb}
use Rattle.std.proofs.lemmas.Bool.{cases_eq, cases_lt, ne_eqb, le-ltb, and_parts}
use Rattle.std.proofs.lemmas.Bool.Decides.{nat_tests}
use Rattle.std.proofs.lemmas.Str.{digit_value-digit_char, encode_ascii, encodes-chars, scalars-chars}
use Rattle.std.specs.Prelude.{flat_map}
use Rattle.std.specs.Char.{digit_char, digit_value, is_digit}
use Rattle.std.specs.Str.{chars}
use lib.Utf8.{scalar, scalars, encode, encodes, scalar_cases}
use Rattle.json.specs.Text.{content, plain, prepend, code_unit, short_escape, is_high_surrogate, is_low_surrogate, surrogate_pair}
use Rattle.json.specs.Word.{is_operator, is_space}
use Rattle.json.specs.Lex.{Lexeme, token, string_token, Mode, lex, lex_byte, between, in_string, operator, space, other}
use Rattle.json.specs.Token.{string}
use Rattle.json.specs.Print.{escape_letter}
use Rattle.ascii_json.specs.AsciiJson.{escaped_char, high_surrogate, low_surrogate, quoted_text, unicode_escape}

-- ---- one code unit

digit_is : (d : ℕ) → d < 16 → digit_value (digit_char d) ≡ d
digit_is d h = digit_value-digit_char d (omega arith)

is_hex : (d : ℕ) → d < 16 → is_digit (digit_char d) 16 ≡ true
is_hex d h = ap (λ v. nat_lt v 16) (digit_is d h) ∙ lt-ltb d 16 h

unit_digits : (u : ℕ) → u < 65536 → u / 4096 * 4096 + u / 256 % 16 * 256 + u / 16 % 16 * 16 + u % 16 ≡ u
unit_digits u h = omega arith

code_unit_hex : (u : ℕ) → u < 65536 → code_unit (digit_char (u / 4096)) (digit_char (u / 256 % 16)) (digit_char (u / 16 % 16)) (digit_char (u % 16)) ≡ Some u
unfolding code_unit
code_unit_hex u h =
    let a : u / 4096 < 16 = omega arith in
    let b : u / 256 % 16 < 16 = omega arith in
    let c : u / 16 % 16 < 16 = omega arith in
    let d : u % 16 < 16 = omega arith in
    rw (is_hex _ a, is_hex _ b, is_hex _ c, is_hex _ d, digit_is _ a, digit_is _ b, digit_is _ c, digit_is _ d) (ap Some (unit_digits u h))

not_high : (u : ℕ) → (u < 55296) ⊎ (57344 ≤ u) → is_high_surrogate u ≡ false
not_high u (inl h) = grind (arith, nat_tests)
not_high u (inr h) = grind (arith, nat_tests)

not_low : (u : ℕ) → (u < 55296) ⊎ (57344 ≤ u) → is_low_surrogate u ≡ false
not_low u (inl h) = grind (arith, nat_tests)
not_low u (inr h) = grind (arith, nat_tests)

read_unit : (u : ℕ) → u < 65536 → (u < 55296) ⊎ (57344 ≤ u) → (r : List ℕ) → content plain (unicode_escape u ++ r) ≡ prepend (encode u) (content plain r)
unfolding content unicode_escape
read_unit u h s r = rw (code_unit_hex u h, not_high u s, not_low u s) refl

pair_back : (c : ℕ) → 65536 ≤ c → c < 1114112 → surrogate_pair (high_surrogate c) (low_surrogate c) ≡ c
pair_back c l h = omega arith

is_high : (u : ℕ) → 55296 ≤ u → u < 56320 → is_high_surrogate u ≡ true
is_high u l h = grind (arith, nat_tests)

is_low : (u : ℕ) → 56320 ≤ u → u < 57344 → is_low_surrogate u ≡ true
is_low u l h = grind (arith, nat_tests)

read_pair : (h l : ℕ) → 55296 ≤ h → h < 56320 → 56320 ≤ l → l < 57344 → (r : List ℕ)
    → content plain ((unicode_escape h ++ unicode_escape l) ++ r) ≡ prepend (encode (surrogate_pair h l)) (content plain r)
unfolding content unicode_escape
read_pair h l a b c d r = rw (code_unit_hex h (omega arith), is_high h a b) (rw (code_unit_hex l (omega arith), is_low l c d) refl)

-- ---- what the lexer passes over

stays_inside : (o s : Bool) (x : ℕ) (r : List ℕ) (k : Mode → List Lexeme) → lex_byte in_string (cond o operator (cond s space other)) x r k ≡ k in_string
stays_inside true s x r k = refl
stays_inside false true x r k = refl
stays_inside false false x r k = refl

lex_plain : (x : ℕ) → (x ≡ 34 → ⊥) → (x ≡ 92 → ⊥) → (r : List ℕ) → lex in_string (x ∷ r) ≡ lex in_string r
unfolding lex
lex_plain x q b r = rw (ne_eqb x 34 q, ne_eqb x 92 b) (stays_inside (is_operator x) (is_space x) x r (λ m. lex m r))

no_digit : (d n : ℕ) → d < 16 → digit_value n ≡ 36 → digit_char d ≡ n → ⊥
no_digit d n h v e = let is : 36 ≡ d = sym v ∙ sym (ap digit_value e) ∙ digit_is d h in omega arith

lex_digit : (d : ℕ) → d < 16 → (r : List ℕ) → lex in_string (digit_char d ∷ r) ≡ lex in_string r
lex_digit d h = lex_plain (digit_char d) (no_digit d 34 h refl) (no_digit d 92 h refl)

lex_unit : (u : ℕ) → u < 65536 → (r : List ℕ) → lex in_string (unicode_escape u ++ r) ≡ lex in_string r
unfolding lex unicode_escape
lex_unit u h r =
    lex_digit (u / 4096) (omega arith) _ ∙ lex_digit (u / 256 % 16) (omega arith) _ ∙ lex_digit (u / 16 % 16) (omega arith) _ ∙ lex_digit (u % 16) (omega arith) r

-- ---- one character

-- what both readers make of the escape of c, before any text
record Passes (c : ℕ) : Type 0 where
  read : (r : List ℕ) → content plain (escaped_char c ++ r) ≡ prepend (encode c) (content plain r)
  lexed : (r : List ℕ) → lex in_string (escaped_char c ++ r) ≡ lex in_string r

-- the short escapes
short_quote : Passes 34
unfolding escaped_char content lex short_escape encode
short_quote = record { read = λ r. refl; lexed = λ r. refl }

short_backslash : Passes 92
unfolding escaped_char content lex short_escape encode
short_backslash = record { read = λ r. refl; lexed = λ r. refl }

short_b : Passes 8
unfolding escaped_char content lex short_escape encode
short_b = record { read = λ r. refl; lexed = λ r. refl }

short_f : Passes 12
unfolding escaped_char content lex short_escape encode
short_f = record { read = λ r. refl; lexed = λ r. refl }

short_n : Passes 10
unfolding escaped_char content lex short_escape encode
short_n = record { read = λ r. refl; lexed = λ r. refl }

short_r : Passes 13
unfolding escaped_char content lex short_escape encode
short_r = record { read = λ r. refl; lexed = λ r. refl }

short_t : Passes 9
unfolding escaped_char content lex short_escape encode
short_t = record { read = λ r. refl; lexed = λ r. refl }

-- the other characters
pub plain_is : (c : ℕ) → escape_letter c ≡ 0 → 32 ≤ c → c < 127 → escaped_char c ≡ c ∷ []
unfolding escaped_char
plain_is c e l h = rw (e, le-leb 32 c l, lt-ltb c 127 h) refl

outside : (c : ℕ) → (c < 32) ⊎ (127 ≤ c) → (nat_le 32 c && nat_lt c 127) ≡ false
outside c (inl h) = grind (arith, nat_tests)
outside c (inr h) = grind (arith, nat_tests)

pub unit_is : (c : ℕ) → escape_letter c ≡ 0 → (c < 32) ⊎ (127 ≤ c) → c < 65536 → escaped_char c ≡ unicode_escape c
unfolding escaped_char
unit_is c e o h = rw (e, outside c o, lt-ltb c 65536 h) refl

pub pair_is : (c : ℕ) → escape_letter c ≡ 0 → 65536 ≤ c → escaped_char c ≡ unicode_escape (high_surrogate c) ++ unicode_escape (low_surrogate c)
unfolding escaped_char
pair_is c e h = rw (e, outside c (inr (omega arith)), le-ltb c 65536 h) refl

not_at : (c n : ℕ) → escape_letter c ≡ 0 → 0 < escape_letter n → c ≡ n → ⊥
not_at c n e some is = let same : escape_letter c ≡ escape_letter n = ap escape_letter is in omega arith

plain_passes : (c : ℕ) → escape_letter c ≡ 0 → 32 ≤ c → c < 127 → Passes c
unfolding content
plain_passes c e l h =
    let same = plain_is c e l h in
    let q = not_at c 34 e (omega arith) in
    let b = not_at c 92 e (omega arith) in
    record {
      read = λ r. rw (same, encode_ascii c (omega arith), ne_eqb c 34 q, ne_eqb c 92 b, le-ltb c 32 l) refl;
      lexed = λ r. rw same (lex_plain c q b r);
    }

unit_passes : (c : ℕ) → escape_letter c ≡ 0 → (c < 32) ⊎ (127 ≤ c) → c < 65536 → (c < 55296) ⊎ (57344 ≤ c) → Passes c
unit_passes c e o h s =
    let same = unit_is c e o h in
    record { read = λ r. rw same (read_unit c h s r); lexed = λ r. rw same (lex_unit c h r) }

pair_passes : (c : ℕ) → escape_letter c ≡ 0 → 65536 ≤ c → c < 1114112 → Passes c
pair_passes c e l h =
    let same = pair_is c e l in
    record {
      read = λ r. ap (λ t. content plain (t ++ r)) same ∙ read_pair (high_surrogate c) (low_surrogate c) (omega arith) (omega arith) (omega arith) (omega arith) r ∙ ap (λ k. prepend (encode k) (content plain r)) (pair_back c l h);
      lexed = λ r. ap (λ t. lex in_string (t ++ r)) same ∙ ap (lex in_string) (append_assoc (unicode_escape (high_surrogate c)) (unicode_escape (low_surrogate c)) r) ∙ lex_unit (high_surrogate c) (omega arith) _ ∙ lex_unit (low_surrogate c) (omega arith) r;
    }

other_passes : (c : ℕ) → scalar c ≡ true → escape_letter c ≡ 0 → Passes c
other_passes c ok e = go (scalar_cases c ok) (cases_lt c 32) (cases_lt c 127) (cases_lt c 65536)
  where
    ranges : (c < 55296) ⊎ ((57344 ≤ c) × (c < 1114112)) → (c < 55296) ⊎ (57344 ≤ c)
    ranges (inl h) = inl h
    ranges (inr h) = inr h.0

    below : (c < 55296) ⊎ ((57344 ≤ c) × (c < 1114112)) → c < 1114112
    below (inl h) = omega arith
    below (inr h) = h.1

    go : (c < 55296) ⊎ ((57344 ≤ c) × (c < 1114112)) → (c < 32) ⊎ (32 ≤ c) → (c < 127) ⊎ (127 ≤ c) → (c < 65536) ⊎ (65536 ≤ c) → Passes c
    go s a b (inr big) = pair_passes c e big (below s)
    go s (inl low) b (inl small) = unit_passes c e (inl low) small (ranges s)
    go s (inr l) (inl h) (inl small) = plain_passes c e l h
    go s (inr l) (inr high) (inl small) = unit_passes c e (inr high) small (ranges s)

pub no_letter : (c : ℕ) → (c ≡ 34 → ⊥) → (c ≡ 92 → ⊥) → (c ≡ 8 → ⊥) → (c ≡ 12 → ⊥) → (c ≡ 10 → ⊥) → (c ≡ 13 → ⊥) → (c ≡ 9 → ⊥) → escape_letter c ≡ 0
no_letter c q s b f n r t = rw (ne_eqb c 34 q, ne_eqb c 92 s, ne_eqb c 8 b, ne_eqb c 12 f, ne_eqb c 10 n, ne_eqb c 13 r, ne_eqb c 9 t) refl

abbrev pub Either : ℕ → ℕ → Type 0
Either c n = (c ≡ n) ⊎ (c ≡ n → ⊥)

passes : (c : ℕ) → scalar c ≡ true → Passes c
passes c ok = go (cases_eq c 34) (cases_eq c 92) (cases_eq c 8) (cases_eq c 12) (cases_eq c 10) (cases_eq c 13) (cases_eq c 9)
  where
    go : Either c 34 → Either c 92 → Either c 8 → Either c 12 → Either c 10 → Either c 13 → Either c 9 → Passes c
    go (inl e) s b f n r t = subst Passes (sym e) short_quote
    go (inr q) (inl e) b f n r t = subst Passes (sym e) short_backslash
    go (inr q) (inr s) (inl e) f n r t = subst Passes (sym e) short_b
    go (inr q) (inr s) (inr b) (inl e) n r t = subst Passes (sym e) short_f
    go (inr q) (inr s) (inr b) (inr f) (inl e) r t = subst Passes (sym e) short_n
    go (inr q) (inr s) (inr b) (inr f) (inr n) (inl e) t = subst Passes (sym e) short_r
    go (inr q) (inr s) (inr b) (inr f) (inr n) (inr r) (inl e) = subst Passes (sym e) short_t
    go (inr q) (inr s) (inr b) (inr f) (inr n) (inr r) (inr t) = other_passes c ok (no_letter c q s b f n r t)

-- ---- a whole string

pub content-ascii : (cs r : List ℕ) → scalars cs ≡ true → content plain (flat_map escaped_char cs ++ 34 ∷ r) ≡ Some (encodes cs)
unfolding content
content-ascii [] r ok = refl
content-ascii (c ∷ cs) r ok =
    let p = and_parts _ _ ok in
    ap (content plain) (append_assoc (escaped_char c) (flat_map escaped_char cs) (34 ∷ r)) ∙ (passes c p.0).read _ ∙ ap (prepend (encode c)) (content-ascii cs r p.1)

pub lex-ascii : (cs r : List ℕ) → scalars cs ≡ true → lex in_string (flat_map escaped_char cs ++ 34 ∷ r) ≡ lex between r
unfolding lex
lex-ascii [] r ok = refl
lex-ascii (c ∷ cs) r ok =
    let p = and_parts _ _ ok in
    ap (lex in_string) (append_assoc (escaped_char c) (flat_map escaped_char cs) (34 ∷ r)) ∙ (passes c p.0).lexed _ ∙ lex-ascii cs r p.1

pub lex-quoted_text : (s r : List ℕ) → IsUtf8 s → lex between (quoted_text s ++ r) ≡ token (string s) ∷ lex between r
unfolding lex
lex-quoted_text s r u =
    let text = flat_map escaped_char (chars s) in
    let ok = scalars-chars s u in
    ap (λ l. lex between (34 ∷ l)) (append_assoc text (34 ∷ []) r)
    ∙ ap₂ (λ o l. token (string_token o) ∷ l) (content-ascii (chars s) r ok ∙ ap Some (encodes-chars s u)) (lex-ascii (chars s) r ok)
