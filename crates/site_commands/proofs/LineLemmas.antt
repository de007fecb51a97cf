-- The first line of an input shows in its first 4,097 bytes.
use Rattle.std.proofs.Common.{◌≡◌, ◌<◌, ◌≤◌, ◌+◌, ◌&&◌, ℕ, zero, suc, Bool, true, false, not, cond, nat_lt, if◌then◌else◌, List, [], ◌∷◌, length, take, get_or, Option, Some, None, refl, sym, ◌∙◌, ap, subst, IfSome, IsUtf8, arith}
use Rattle.std.proofs.lemmas.Grind.{common_steps}
use Rattle.std.specs.List.{before_first, position, position_or_len}
use Rattle.std.specs.Str.{is_utf8}
use Rattle.std.proofs.lemmas.Bool.Decides.{nat_tests}
use Rattle.std.proofs.lemmas.Str.{IsUtf8-from_is_utf8, is_utf8-from_IsUtf8}
use Rattle.std.proofs.Math.Seq.{take-length}
use Rattle.std.proofs.lemmas.List.{get_or-take, length-take, take-take}
use Rattle.std.proofs.lemmas.List.Sums.{fails_before_first, passes_at_first, position_or_len_is}
use Rattle.site_commands.specs.InputLine.{HasReadLine, is_newline, line_of, text_line}
use Rattle.outside.specs.Devices.{HasRead, Input}

position-one_more : (b : Bool) (x : ℕ) (xs : List ℕ) → is_newline x ≡ b → position_or_len is_newline xs ≤ length xs → position_or_len is_newline (x ∷ xs) ≤ length (x ∷ xs)
position-one_more true x xs e le =
    let none : position_or_len is_newline (x ∷ xs) ≡ 0 = ap (λ t. cond (not t) (1 + position_or_len is_newline xs) 0) e in omega (arith, none)
position-one_more false x xs e le =
    let more : position_or_len is_newline (x ∷ xs) ≡ 1 + position_or_len is_newline xs = ap (λ t. cond (not t) (1 + position_or_len is_newline xs) 0) e in
    omega (arith, more, le)

position-le : (left : List ℕ) → position_or_len is_newline left ≤ length left
position-le [] = omega arith
position-le (x ∷ xs) = position-one_more (is_newline x) x xs refl (position-le xs)

pub front-some : (input : List ℕ) (end : ℕ) → position is_newline input ≡ Some end → before_first is_newline input ≡ take end input
front-some input end e = let at : position_or_len is_newline input ≡ end = grind (arith, common_steps) in ap (λ k. take k input) at

pub front-all : (input : List ℕ) → position is_newline input ≡ None → before_first is_newline input ≡ input
front-all input e =
    let within : position_or_len is_newline input ≤ length input = position-le input in
    let at : position_or_len is_newline input ≡ length input = grind (arith, common_steps) in
    ap (λ k. take k input) at ∙ take-length input

-- the first newline is in the first bytes, where it is in so many
position-near : (n : ℕ) (left : List ℕ) → position_or_len is_newline left < n → position_or_len is_newline (take n left) ≡ position_or_len is_newline left
position-near n left below =
    let k = position_or_len is_newline left in
    let within : k ≤ length left = position-le left in
    let size = length-take n left in
    position_or_len_is is_newline (take n left) k 0 (omega (arith, size)) (λ j before. ap is_newline (get_or-take n left j 0 (omega arith)) ∙ fails_before_first is_newline left j 0 before)
    (λ inside. ap is_newline (get_or-take n left k 0 below) ∙ passes_at_first is_newline left 0 (omega (arith, size)))

-- else there is none in them
position-far : (n : ℕ) (left : List ℕ) → n ≤ position_or_len is_newline left → position_or_len is_newline (take n left) ≡ n
position-far n left above =
    let within : position_or_len is_newline left ≤ length left = position-le left in
    let size = length-take n left in
    position_or_len_is is_newline (take n left) n 0 (omega (arith, size)) (λ j before. ap is_newline (get_or-take n left j 0 before) ∙ fails_before_first is_newline left j 0 (omega arith))
    (λ inside. absurd (omega (arith, size)))

front-near : (n : ℕ) (left : List ℕ) → position_or_len is_newline left < n → before_first is_newline (take n left) ≡ before_first is_newline left
front-near n left below =
    ap (λ k. take k (take n left)) (position-near n left below) ∙ take-take (position_or_len is_newline left) n left (omega arith)

-- a longer line is none
text_line-long : (line : List ℕ) → 4097 ≤ length line → text_line line ≡ None
text_line-long line long = let e : nat_lt (length line) 4097 ≡ false = grind (arith, nat_tests) in rw e refl

-- text of a line's length is one
pub text_line-some : (line : List ℕ) → length line ≤ 4096 → IsUtf8 line → text_line line ≡ Some line
text_line-some line short is =
    let fits : nat_lt (length line) 4097 ≡ true = grind (arith, nat_tests) in
    let text : is_utf8 line ≡ true = is_utf8-from_IsUtf8 line is in
    rw fits (rw text refl)

no_text : (fits : Bool) (line : List ℕ) (text : Bool) → (text ≡ true → ⊥) → (if fits && text then Some line else None) ≡ None
no_text false line text never = refl
no_text true line true never = absurd (never refl)
no_text true line false never = refl

-- other bytes are none
pub text_line-bytes : (line : List ℕ) → (IsUtf8 line → ⊥) → text_line line ≡ None
text_line-bytes line never = no_text (nat_lt (length line) 4097) line (is_utf8 line) (λ is. never (IsUtf8-from_is_utf8 line is))

long-front : (n : ℕ) (left : List ℕ) → n ≤ position_or_len is_newline left → n ≤ length (before_first is_newline left)
long-front n left above = let size = length-take (position_or_len is_newline left) left in omega (arith, size, position-le left)

long-taken : (n : ℕ) (left : List ℕ) → n ≤ position_or_len is_newline left → n ≤ length (before_first is_newline (take n left))
long-taken n left above = long-front n (take n left) (omega (arith, position-far n left above))

line_by : (b : Bool) (left : List ℕ) → nat_lt (position_or_len is_newline left) 4097 ≡ b
    → text_line (before_first is_newline (take 4097 left)) ≡ text_line (before_first is_newline left)
line_by true left is = let below : position_or_len is_newline left < 4097 = grind (arith, nat_tests) in ap text_line (front-near 4097 left below)
line_by false left is =
    let above : 4097 ≤ position_or_len is_newline left = grind (arith, nat_tests) in
    text_line-long _ (long-taken 4097 left above) ∙ sym (text_line-long _ (long-front 4097 left above))

pub line_of-take : (left : List ℕ) → line_of (take 4097 left) ≡ line_of left
unfolding line_of
line_of-take left = line_by (nat_lt (position_or_len is_newline left) 4097) left refl

-- what was read up to that limit shows the line of the whole input
pub read_whole : (before after : Input) (taken : List ℕ) (line : Option (List ℕ)) → HasRead before after taken → IfSome before.left (λ left. taken ≡ take 4097 left)
    → line ≡ line_of taken → HasReadLine before after line
read_whole before after taken line read all is = record {
  taken = taken;
  read = read;
  is = is;
  whole = λ left e. is ∙ ap line_of (subst (λ o. IfSome o (λ all_left. taken ≡ take 4097 all_left)) e all) ∙ line_of-take left;
}
