-- Hosts of the grammar are those that are read.
use Rattle.std.proofs.Common.{◌≡◌, ℕ, ◌+◌, ◌<◌, ◌==◌, ◌⊎◌, inl, inr, not, Bool, true, false, List, [], ◌∷◌, ◌++◌, length, take, drop, refl, sym, ap, ◌∙◌, arith, subst, Option, Some, None, append_assoc, length-append}
use Rattle.std.proofs.Math.Seq.{drop-append_seam, take-append_seam}
use Rattle.std.proofs.lemmas.Bool.{false≢true}
use Rattle.std.proofs.lemmas.List.{append-nil, take-append-drop}
use Rattle.std.proofs.lemmas.List.Folds.{list_all-append}
use Rattle.std.specs.Char.{is_ascii_digit, is_ascii_hexdigit}
use Rattle.std.specs.List.{after_first, before_first, list_all, position_or_len}
use Rattle.std.specs.Option.{option_map, option_map_or}
use Rattle.csrf_tokens.specs.HostGrammar.{IsHost, IsLiteral, IsPlainName, port_suffix}
use Rattle.csrf_tokens.specs.Hosts.{Host, domain_of, is_address, is_address_byte, is_address_rest, is_colon, is_empty, is_host_name, is_literal, is_name_byte, is_plain_name, is_port, name_length, name_part, port_in, port_of, rest_part, split_host}
use Rattle.csrf_tokens.specs.Laws.{HostsAreWellFormed}
use Rattle.csrf_tokens.specs.Marks.{after_mark, before_mark}
use Rattle.csrf_tokens.proofs.MarkLemmas.{None≢Some, Some-injective, after_mark-gives, before_mark-end, before_mark-gives, either}
use Rattle.csrf_tokens.proofs.TestLemmas.{after_first-joined, and_tells, before_first-joined, cut_at_mark, is_empty-cons, is_not_empty, list_all-weaker, not_empty, not_mark, or_tells, position_or_len-append, position_or_len-none, value_of}

-- ---- names

is_plain_name-IsPlainName : (name : List ℕ) → is_plain_name name ≡ true → IsPlainName name
is_plain_name-IsPlainName name plain =
    let parts = and_tells (not (is_empty name)) (list_all is_name_byte name) plain in
    record { some = not_empty name parts.0; bytes = parts.1 }

IsPlainName-is_plain_name : (name : List ℕ) → IsPlainName name → is_plain_name name ≡ true
IsPlainName-is_plain_name name plain =
    let some = is_not_empty name plain.some in
    rw (some, plain.bytes) refl

-- hex digits have no colon
no_colon : (group : List ℕ) → list_all is_ascii_hexdigit group ≡ true → list_all (λ c. not (is_colon c)) group ≡ true
no_colon group digits = list_all-weaker is_ascii_hexdigit (λ c. not (is_colon c)) (not_mark is_ascii_hexdigit 58 refl) group digits

is_address-joined : (group rest : List ℕ) → list_all is_ascii_hexdigit group ≡ true → 0 < length rest → list_all is_address_byte rest ≡ true
    → is_address (group ++ 58 ∷ rest) ≡ true
unfolding is_address
is_address-joined group rest digits some bytes =
    let is_some = is_not_empty rest some in
    let colons = no_colon group digits in
    rw (before_first-joined is_colon group 58 rest colons refl, after_first-joined is_colon group 58 rest colons refl, digits, is_some, bytes) refl

regroup : (group rest : List ℕ) (more : List ℕ) → group ++ 58 ∷ (rest ++ more) ≡ (group ++ 58 ∷ rest) ++ more
regroup group rest more = sym (append_assoc group (58 ∷ rest) more)

IsLiteral-is_literal : (name : List ℕ) → IsLiteral name → is_literal name ≡ true
unfolding is_literal
IsLiteral-is_literal name literal =
    let inner = literal.group ++ 58 ∷ literal.rest in
    let text : literal.group ++ 58 ∷ (literal.rest ++ 93 ∷ []) ≡ inner ++ 93 ∷ [] = regroup literal.group literal.rest (93 ∷ []) in
    ap (λ (l : List ℕ). option_map_or (λ rest. option_map_or is_address (before_mark 93 rest) false) (after_mark 91 l) false) literal.whole
    ∙ ap (λ (l : List ℕ). option_map_or is_address (before_mark 93 l) false) text
    ∙ ap (λ (o : Option (List ℕ)). option_map_or is_address o false) (before_mark-end 93 inner)
    ∙ is_address-joined literal.group literal.rest literal.group_digits literal.some literal.rest_bytes

-- an address in two parts
address_parts : (text : List ℕ) → is_address text ≡ true
    → (text ≡ before_first is_colon text ++ 58 ∷ after_first is_colon text) × (list_all is_ascii_hexdigit (before_first is_colon text) ≡ true)
    × (0 < length (after_first is_colon text)) × (list_all is_address_byte (after_first is_colon text) ≡ true)
unfolding is_address
address_parts text address =
    let parts = and_tells (list_all is_ascii_hexdigit (before_first is_colon text)) (is_address_rest (after_first is_colon text)) address in
    let rest = and_tells (not (is_empty (after_first is_colon text))) (list_all is_address_byte (after_first is_colon text)) parts.1 in
    let some = not_empty (after_first is_colon text) rest.0 in
    (cut_at_mark 58 text some, parts.0, some, rest.1)

is_literal-IsLiteral : (name : List ℕ) → is_literal name ≡ true → IsLiteral name
unfolding is_literal
is_literal-IsLiteral name literal =
    let opened = value_of (λ rest. option_map_or is_address (before_mark 93 rest) false) (after_mark 91 name) literal in
    let closed = value_of is_address (before_mark 93 opened.0) opened.2 in
    let address = address_parts closed.0 closed.2 in
    let front = after_mark-gives 91 name opened.0 opened.1 in
    let back = before_mark-gives 93 opened.0 closed.0 closed.1 in
    record {
      group = before_first is_colon closed.0;
      rest = after_first is_colon closed.0;
      whole = front ∙ ap (λ (l : List ℕ). 91 ∷ l) (back ∙ ap (λ (l : List ℕ). l ++ 93 ∷ []) address.0
          ∙ sym (regroup (before_first is_colon closed.0) (after_first is_colon closed.0) (93 ∷ [])));
      group_digits = address.1;
      some = address.2;
      rest_bytes = address.3;
    }

-- ---- where a name ends

colon_at : (xs port : List ℕ) → list_all (λ c. not (is_colon c)) xs ≡ true → position_or_len is_colon (xs ++ port_suffix port) ≡ length xs
colon_at xs [] none = ap (position_or_len is_colon) (append-nil xs) ∙ position_or_len-none is_colon xs none
colon_at xs (digit ∷ digits) none = position_or_len-append is_colon xs 58 (digit ∷ digits) none refl

-- a plain name begins with no bracket, and has no colon
plain_name_length : (name port : List ℕ) → IsPlainName name → name_length (name ++ port_suffix port) ≡ length name
plain_name_length [] port plain = absurd (omega (arith, plain.some))
plain_name_length (c ∷ name) port plain =
    let head = (and_tells (is_name_byte c) (list_all is_name_byte name) plain.bytes).0 in
    let open_bracket : (c == 91) ≡ false = elim (either (c == 91)) [
      | inl same ↦ absurd (false≢true (sym (not_true _ same) ∙ not_mark is_name_byte 91 refl c head))
      | inr other ↦ other
    ] in
    let colons = list_all-weaker is_name_byte (λ d. not (is_colon d)) (not_mark is_name_byte 58 refl) (c ∷ name) plain.bytes in
    rw open_bracket (colon_at (c ∷ name) port colons)
  where
    not_true : (b : Bool) → b ≡ true → not b ≡ false
    not_true b is = rw is refl

-- a literal has no bracket before its last
literal_name_length : (group rest more : List ℕ) → list_all is_ascii_hexdigit group ≡ true → list_all is_address_byte rest ≡ true
    → name_length ((91 ∷ (group ++ 58 ∷ (rest ++ 93 ∷ []))) ++ more) ≡ length (91 ∷ (group ++ 58 ∷ (rest ++ 93 ∷ [])))
literal_name_length group rest more digits bytes =
    let front : List ℕ = 91 ∷ (group ++ 58 ∷ rest) in
    let is_close : ℕ → Bool = λ b. b == 93 in
    let closed : (91 ∷ (group ++ 58 ∷ (rest ++ 93 ∷ []))) ≡ front ++ 93 ∷ [] = ap (λ (l : List ℕ). 91 ∷ l) (regroup group rest (93 ∷ [])) in
    let whole : (91 ∷ (group ++ 58 ∷ (rest ++ 93 ∷ []))) ++ more ≡ front ++ 93 ∷ more =
    ap (λ (l : List ℕ). l ++ more) closed ∙ append_assoc front (93 ∷ []) more in
    let in_group = list_all-weaker is_ascii_hexdigit (λ c. not (is_close c)) (not_mark is_ascii_hexdigit 93 refl) group digits in
    let in_rest = list_all-weaker is_address_byte (λ c. not (is_close c)) (not_mark is_address_byte 93 refl) rest bytes in
    let none : list_all (λ c. not (is_close c)) front ≡ true = list_all-append (λ c. not (is_close c)) group (58 ∷ rest) ∙ rw (in_group, in_rest) refl in
    let index = ap (position_or_len is_close) whole ∙ position_or_len-append is_close front 93 more none refl in
    ap (λ (n : ℕ). n + 1) index ∙ sym (ap length closed ∙ length-append front (93 ∷ []))

parts_at : (host name more : List ℕ) → host ≡ name ++ more → name_length host ≡ length name → (name_part host ≡ name) × (rest_part host ≡ more)
unfolding name_part rest_part
parts_at host name more whole long = (
  ap (λ (n : ℕ). take n host) long ∙ ap (take (length name)) whole ∙ take-append_seam name more,
  ap (λ (n : ℕ). drop n host) long ∙ ap (drop (length name)) whole ∙ drop-append_seam name more,
)

-- ---- ports

port_of-suffix : (port : List ℕ) → list_all is_ascii_digit port ≡ true → port_of (port_suffix port) ≡ Some port
port_of-suffix [] digits = refl
port_of-suffix (digit ∷ rest) digits =
    let outer = is_empty-cons 58 (digit ∷ rest) in
    let inner = is_empty-cons digit rest in
    rw (outer, inner, digits) refl

port_suffix-some : (digits : List ℕ) → not (is_empty digits) ≡ true → port_suffix digits ≡ 58 ∷ digits
port_suffix-some [] some = absurd (false≢true some)
port_suffix-some (digit ∷ digits) some = refl

port_in-gives : (o : Option (List ℕ)) (port : List ℕ) → port_in o ≡ Some port → (o ≡ Some port) × (is_port port ≡ true)
port_in-gives None port found = absurd (None≢Some found)
port_in-gives (Some digits) port found = elim (either (is_port digits)) [
  | inl fits ↦
      let same : digits ≡ port = Some-injective (rw fits at found) in
      (ap Some same, sym (ap is_port same) ∙ fits)
  | inr other ↦ absurd (None≢Some (rw other at found))
]

port_of-gives : (rest port : List ℕ) → port_of rest ≡ Some port → (rest ≡ port_suffix port) × (list_all is_ascii_digit port ≡ true)
port_of-gives [] port found =
    let same : [] ≡ port = Some-injective found in
    (ap port_suffix same, ap (list_all is_ascii_digit) (sym same))
port_of-gives (c ∷ rest) port found =
    let some = is_empty-cons c rest in
    let inner = port_in-gives (after_mark 58 (c ∷ rest)) port (rw some at found) in
    let fits = and_tells (not (is_empty port)) (list_all is_ascii_digit port) inner.1 in
    (after_mark-gives 58 (c ∷ rest) port inner.0 ∙ sym (port_suffix-some port fits.0), fits.1)

-- ---- hosts

option_map-gives : (f : List ℕ → Host) (o : Option (List ℕ)) (parts : Host) → option_map f o ≡ Some parts → (port : List ℕ) × (o ≡ Some port) × (f port ≡ parts)
option_map-gives f None parts found = cc
option_map-gives f (Some port) parts found = (port, refl, cc)

is_host_name-named : (name : List ℕ) → is_host_name name ≡ true → IsPlainName name ⊎ IsLiteral name
is_host_name-named name found = elim (or_tells (is_plain_name name) (is_literal name) found) [
  | inl plain ↦ inl (is_plain_name-IsPlainName name plain)
  | inr literal ↦ inr (is_literal-IsLiteral name literal)
]

named-is_host_name : (name : List ℕ) → IsPlainName name ⊎ IsLiteral name → is_host_name name ≡ true
named-is_host_name name (inl plain) = let fits = IsPlainName-is_plain_name name plain in rw fits refl
named-is_host_name name (inr literal) =
    let fits = IsLiteral-is_literal name literal in
    elim (either (is_plain_name name)) [
      | inl plain ↦ rw plain refl
      | inr other ↦ rw (other, fits) refl
    ]

IsHost-read : (host : List ℕ) (parts : Host) → split_host host ≡ Some parts → IsHost host parts
unfolding split_host name_part rest_part
IsHost-read host parts found =
    let name = take (name_length host) host in
    let rest = drop (name_length host) host in
    elim (either (is_host_name name)) [
      | inl fits ↦
          let inner = option_map-gives (λ port. record { domain = domain_of name; port = port }) (port_of rest) parts (rw fits at found) in
          let port = port_of-gives rest inner.0 inner.1 in
          subst (IsHost host) inner.2 (record {
            name = name;
            whole = sym (take-append-drop (name_length host) host) ∙ ap (λ (l : List ℕ). name ++ l) port.0;
            named = is_host_name-named name fits;
            digits = port.1;
            dotless = refl;
          })
      | inr other ↦ absurd (no_host (rw other at found))
    ]
  where
    no_host : {y : Host} → None ≡ Some y → ⊥
    no_host same = cc

name_ends : (name port : List ℕ) → IsPlainName name ⊎ IsLiteral name → name_length (name ++ port_suffix port) ≡ length name
name_ends name port (inl plain) = plain_name_length name port plain
name_ends name port (inr literal) = rw literal.whole (literal_name_length literal.group literal.rest (port_suffix port) literal.group_digits literal.rest_bytes)

read-IsHost : (host : List ℕ) (parts : Host) → IsHost host parts → split_host host ≡ Some parts
unfolding split_host
read-IsHost host parts is =
    let long = ap name_length is.whole ∙ name_ends is.name parts.port is.named in
    let cut = parts_at host is.name (port_suffix parts.port) is.whole long in
    let fits = named-is_host_name is.name is.named in
    let port = port_of-suffix parts.port is.digits in
    rw (cut.0, cut.1, fits, port, is.dotless) refl

pub hosts_well_formed : HostsAreWellFormed
hosts_well_formed = λ host parts. (IsHost-read host parts, read-IsHost host parts)
