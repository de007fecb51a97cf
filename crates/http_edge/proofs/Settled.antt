-- More bytes don't change a request or a fault that is settled.
use Rattle.std.proofs.Common.{◌≡◌, ◌≢◌, ◌⊎◌, ℕ, ◌-◌, ◌<◌, ◌≤◌, Bool, true, false, List, [], ◌∷◌, ◌++◌, length, take, drop, zero, suc, refl, sym, ap, ◌∙◌, arith, append-nil, append_assoc, length-append, length-take, inl, inr, nat_lt, nat_le, Option, Some, None}
use Rattle.std.proofs.lemmas.Bool.{cases_lt}
use Rattle.std.proofs.lemmas.Bool.Decides.{nat_tests}
use Rattle.http_edge.proofs.Bounds.{head_long}
use Rattle.std.proofs.lemmas.List.{take-append-le, take_all, drop-append-le, take-append-drop, take_at}
use Rattle.std.proofs.lemmas.List.Elements.{All-nil, All-take, All-push}
use Rattle.std.proofs.lemmas.Str.{IsUtf8-from_ascii}
use Rattle.std.proofs.lemmas.Str.Ascii.{IsAscii-cons, IsAscii-nil}
use Rattle.httparse.specs.Grammar.{LineEnd, lf, print_blank, print_version, IsField, RequestHead, IsRequestHead, print_request, HasNoRequest, IsToken, is_uri_byte, is_token_byte}
use Rattle.httparse.proofs.OpenLemmas.{letter_is_token}
use Rattle.httparse.proofs.GrammarLemmas.{request_unique, ReadsRequest-append}
use Rattle.http_edge.specs.Head.{front, HasHead, StopsInTarget, MayBeginHead, stays_in_target}
use Rattle.http_edge.specs.HeadFault.{fault_of}
use Rattle.http_edge.specs.HeaderFields.{fields_of, request_of}
use Rattle.http_edge.specs.declared.request.Request.{Request}
use Rattle.http_edge.specs.RequestFraming.{Framing, refused, request, IsHeadless, IsFraming, after_head, with_body, length_of, unless_fault}
use Rattle.http_edge.specs.declared.request.EdgeFault.{EdgeFault}
use Rattle.http_edge.specs.declared.request.EdgeFault.TheVariants.{BadHead, CutShort}

-- ---- the first bytes

-- behind enough bytes nothing more is looked at
pub front_full : (bytes more : List ℕ) → 16384 ≤ length bytes → front (bytes ++ more) ≡ front bytes
unfolding front
front_full bytes more enough = take-append-le 16384 bytes more enough

-- a few bytes are all looked at
pub front_few : (bytes : List ℕ) → length bytes ≤ 16384 → front bytes ≡ bytes
unfolding front
front_few bytes few = take_all 16384 bytes few

take_past : (n : ℕ) (xs ys : List ℕ) → length xs ≤ n → take n (xs ++ ys) ≡ xs ++ take (n - length xs) ys
take_past n [] ys le = let same : n ≡ n - 0 = omega arith in ap (λ k. take k ys) same
take_past zero (x ∷ xs) ys le = absurd (omega arith)
take_past (suc n) (x ∷ xs) ys le =
    let here : length xs ≤ n = omega arith in
    let same : suc n - length (x ∷ xs) ≡ n - length xs = omega arith in
    ap (λ zs. x ∷ zs) (take_past n xs ys here ∙ ap (λ k. xs ++ take k ys) (sym same))

-- the first bytes of more bytes are the first bytes, and some that follow
pub front_more : (bytes more : List ℕ) → (extra : List ℕ) × (front (bytes ++ more) ≡ front bytes ++ extra)
unfolding front
front_more bytes more = elim (cases_lt (length bytes) 16384) [
  | inl few ↦ (take (16384 - length bytes) more, take_past 16384 bytes more (omega arith) ∙ ap (λ xs. xs ++ take (16384 - length bytes) more) (sym (take_all 16384 bytes (omega arith))))
  | inr enough ↦ ([], take-append-le 16384 bytes more enough ∙ sym (append-nil (take 16384 bytes)))
]

pub front_length : (bytes : List ℕ) → length (front bytes) ≤ length bytes
unfolding front
front_length bytes = omega (arith, length-take 16384 bytes)

-- the first bytes are all of them, or as many as are looked at
pub front_cases : (bytes : List ℕ) → ((length (front bytes) < 16384) × (front bytes ≡ bytes)) ⊎ ((16384 ≤ length (front bytes)) × (16384 ≤ length bytes))
unfolding front
front_cases bytes = elim (cases_lt (length bytes) 16384) [
  | inl few ↦ inl (omega (arith, length-take 16384 bytes), take_all 16384 bytes (omega arith))
  | inr enough ↦ inr (omega (arith, length-take 16384 bytes), enough)
]

-- ---- a head that has begun

-- the shortest head with these
shortest : List LineEnd → List ℕ → RequestHead
shortest blank method = record { blank = blank; method = method; target = 47 ∷ []; minor = 1; line_end = lf; fields = []; last = lf }

is_shortest : (blank : List LineEnd) (method : List ℕ) → IsToken method → IsRequestHead (shortest blank method)
unfolding shortest
is_shortest blank method token = record {
  method = token;
  target = (omega arith, All-push (λ b. is_uri_byte b ≡ true) [] 47 (All-nil _) refl);
  target_text = IsUtf8-from_ascii _ (IsAscii-cons 47 [] (omega arith) IsAscii-nil);
  minor = omega arith;
  fields = All-nil IsField;
}

-- what makes a head of blank lines and a method
ending : List ℕ
ending = 32 ∷ 47 ∷ 32 ∷ print_version 1 ++ 10 ∷ 10 ∷ []

print_shortest : (blank : List LineEnd) (method : List ℕ) → print_request (shortest blank method) ≡ (print_blank blank ++ method) ++ ending
unfolding print_request shortest ending
print_shortest blank method = simp append_assoc

-- the shorter of two fronts begins the longer
pub front_of_front : (a b x y : List ℕ) → a ++ x ≡ b ++ y → length a ≤ length b → b ≡ a ++ drop (length a) b
front_of_front a b x y same le =
    let begins : take (length a) b ≡ a =
    sym (take-append-le (length a) b y le) ∙ sym (ap (take (length a)) same) ∙ take_at a x (length a) refl in
    sym (take-append-drop (length a) b) ∙ ap (λ front. front ++ drop (length a) b) begins

-- what stands of a line that is cut behind its space
cut_line : (bytes more before target : List ℕ) → bytes ++ more ≡ before ++ 32 ∷ target → length before < length bytes
    → (k : ℕ) × (bytes ≡ before ++ 32 ∷ take k target)
cut_line bytes more before target same lt =
    let k : ℕ = length bytes - length before - 1 in
    let le : length before ≤ length bytes = omega arith in
    let over : length bytes - length before ≡ suc k = omega arith in (
      k,
      sym (take_at bytes more (length bytes) refl) ∙ ap (take (length bytes)) same
          ∙ take_past (length bytes) before (32 ∷ target) le ∙ ap (λ n. before ++ take n (32 ∷ target)) over,
    )

-- a line that stops in its target may begin a head, and so may what it begins with
stops_before : (bytes more : List ℕ) → StopsInTarget (bytes ++ more) → MayBeginHead bytes
stops_before bytes more (blank, method, target, token, stays, is) =
    let before : List ℕ = print_blank blank ++ method in
    elim (cases_lt (length before) (length bytes)) [
      | inl longer ↦
          let cut : (k : ℕ) × (bytes ≡ before ++ 32 ∷ take k target) = cut_line bytes more before target is longer in
          inr (blank, method, take cut.0 target, token, All-take (λ b. stays_in_target b ≡ true) cut.0 target stays, cut.1)
      | inr shorter ↦
          let rest : List ℕ = drop (length bytes) before in
          let whole : before ≡ bytes ++ rest = front_of_front bytes before more (32 ∷ target) is shorter in
          inl (
            rest ++ ending,
            shortest blank method,
            (
              is_shortest blank method token,
              sym (append_assoc bytes rest ending) ∙ ap (λ front. front ++ ending) (sym whole)
                  ∙ sym (print_shortest blank method) ∙ sym (append-nil (print_request (shortest blank method))),
            ),
          )
    ]

-- what begins what may begin a head may begin it
pub may_before : (bytes more : List ℕ) → MayBeginHead (bytes ++ more) → MayBeginHead bytes
may_before bytes more (inl (rest, h, reads)) = inl (more ++ rest, h, (reads.0, sym (append_assoc bytes more rest) ∙ reads.1))
may_before bytes more (inr stops) = stops_before bytes more stops

-- where no head can come, none comes
pub none_with_more : (first more : List ℕ) → HasNoRequest first → (MayBeginHead first → ⊥) → HasNoRequest (first ++ more)
none_with_more first more none never h rest reads =
    elim (cases_lt (length first) (length (print_request h))) [
      | inl longer ↦
          let ending : List ℕ = drop (length first) (print_request h) in
          let le : length first ≤ length (print_request h) = omega arith in
          let whole : print_request h ≡ first ++ ending = front_of_front first (print_request h) more rest reads.1 le in
          never (inl (ending, h, (reads.0, sym whole ∙ sym (append-nil (print_request h)))))
      | inr shorter ↦
          none h (drop (length (print_request h)) first)
          (reads.0, front_of_front (print_request h) first rest more (sym reads.1) shorter)
    ]

-- ---- behind a head

test_false : (a b : ℕ) → b ≤ a → nat_lt a b ≡ false
test_false a b le = grind (arith, nat_tests)

test_cases : (b : Bool) → (b ≡ true) ⊎ (b ≡ false)
test_cases true = inl refl
test_cases false = inr refl

from_false : (a b : ℕ) → nat_lt a b ≡ false → b ≤ a
from_false a b is = grind (arith, nat_tests)

body_settled : (h : RequestHead) (after more rest : List ℕ) (a : Request) → request a rest ≡ with_body h after
    → request a (rest ++ more) ≡ with_body h (after ++ more)
body_settled h after more rest a is = elim (test_cases (nat_lt (length after) (length_of h))) [
  | inl short ↦ let cut : request a rest ≡ refused CutShort = rw short at is in cc
  | inr whole ↦
      let now : request a rest ≡ request (request_of h (take (length_of h) after)) (drop (length_of h) after) = rw whole at is in
      let le : length_of h ≤ length after = from_false (length after) (length_of h) whole in
      let still : nat_lt (length (after ++ more)) (length_of h) ≡ false = test_false _ _ (omega (arith, length-append after more)) in
      rw (still, take-append-le (length_of h) after more le, drop-append-le (length_of h) after more le) (cc)
]

body_refused : (h : RequestHead) (after : List ℕ) (f : EdgeFault) → refused f ≡ with_body h after → f ≡ CutShort
body_refused h after f is = elim (test_cases (nat_lt (length after) (length_of h))) [
  | inl short ↦ let cut : refused f ≡ refused CutShort = rw short at is in cc
  | inr whole ↦
      let now : refused f ≡ request (request_of h (take (length_of h) after)) (drop (length_of h) after) = rw whole at is in cc
]

unless_settled : (o : Option EdgeFault) (h : RequestHead) (after more rest : List ℕ) (a : Request)
    → request a rest ≡ unless_fault o (with_body h after) → request a (rest ++ more) ≡ unless_fault o (with_body h (after ++ more))
unless_settled (Some f) h after more rest a is = cc
unless_settled None h after more rest a is = body_settled h after more rest a is

unless_refused : (o : Option EdgeFault) (h : RequestHead) (after more : List ℕ) (f : EdgeFault) → f ≢ CutShort
    → refused f ≡ unless_fault o (with_body h after) → refused f ≡ unless_fault o (with_body h (after ++ more))
unless_refused (Some g) h after more f other is = is
unless_refused None h after more f other is = absurd (other (body_refused h after f is))

-- ---- more bytes

nonempty : (bytes more : List ℕ) → 0 < length bytes → 0 < length (bytes ++ more)
nonempty bytes more some = omega (arith, length-append bytes more)

no_headless : (first more : List ℕ) (framing : Framing) → HasNoRequest first → (MayBeginHead first → ⊥) → framing ≡ refused BadHead → IsHeadless (first ++ more) framing
no_headless first more framing none never is = record {
  none = none_with_more first more none never;
  fault = inl (λ may. never (may_before first more may), is);
}

pub behind_more : (bytes more : List ℕ) (h : RequestHead) → HasHead (front bytes) h
    → HasHead (front (bytes ++ more)) h × (drop (length (print_request h)) (bytes ++ more) ≡ drop (length (print_request h)) bytes ++ more)
behind_more bytes more h (rest, reads) =
    let first : (extra : List ℕ) × (front (bytes ++ more) ≡ front bytes ++ extra) = front_more bytes more in
    let fits : length (print_request h) ≤ length bytes =
    omega (arith, front_length bytes, ap length reads.1, length-append (print_request h) rest) in (
      (rest ++ first.0, rw first.1 (ReadsRequest-append (front bytes) h rest first.0 reads)),
      drop-append-le (length (print_request h)) bytes more fits,
    )

pub refused_settled : (bytes more : List ℕ) (f : EdgeFault) → f ≢ CutShort → IsFraming bytes (refused f) → IsFraming (bytes ++ more) (refused f)
unfolding after_head
refused_settled bytes more f other (inl (nil, is)) = cc
refused_settled bytes more f other (inr (inl (some, headless))) = elim headless.fault [
  | inl (never, is) ↦
      let first : (extra : List ℕ) × (front (bytes ++ more) ≡ front bytes ++ extra) = front_more bytes more in
      let still : IsHeadless (front (bytes ++ more)) (refused f) =
      rw first.1 (no_headless (front bytes) first.0 (refused f) headless.none never is) in
      inr (inl (nonempty bytes more some, still))
  | inr (may, is) ↦ elim (front_cases bytes) [
    | inl (few, all) ↦
        let test : nat_le 16384 (length (front bytes)) ≡ false = grind (arith, nat_tests) in
        let cut : refused f ≡ refused CutShort = rw test at is in
        absurd (other (let same : f ≡ CutShort = cc in same))
    | inr (reached, enough) ↦
        let full : IsHeadless (front (bytes ++ more)) (refused f) = rw (front_full bytes more enough) headless in
        inr (inl (nonempty bytes more some, full))
  ]
]
refused_settled bytes more f other (inr (inr (h, behind))) =
    let grown = behind_more bytes more h behind.head in
    inr (inr (
      h,
      record {
        head = grown.0;
        after = rw grown.1 (unless_refused (fault_of h.method (fields_of h)) h (drop (length (print_request h)) bytes) more f other behind.after);
      },
    ))

pub request_settled : (bytes more rest : List ℕ) (a : Request) → IsFraming bytes (request a rest) → IsFraming (bytes ++ more) (request a (rest ++ more))
unfolding after_head
request_settled bytes more rest a (inl (nil, is)) = cc
request_settled bytes more rest a (inr (inl (some, headless))) = elim headless.fault [
  | inl (never, is) ↦ cc
  | inr (may, is) ↦ cc
]
request_settled bytes more rest a (inr (inr (h, behind))) =
    let grown = behind_more bytes more h behind.head in
    inr (inr (
      h,
      record {
        head = grown.0;
        after = rw grown.1 (unless_settled (fault_of h.method (fields_of h)) h (drop (length (print_request h)) bytes) more rest a behind.after);
      },
    ))

-- ---- one framing

no_head_of_nothing : (bytes : List ℕ) (h : RequestHead) → bytes ≡ [] → HasHead (front bytes) h → ⊥
no_head_of_nothing bytes h nil (rest, reads) =
    omega (arith, front_length bytes, ap length nil, ap length reads.1, length-append (print_request h) rest, head_long h reads.0)

one_headless : (first : List ℕ) (x y : Framing) → IsHeadless first x → IsHeadless first y → x ≡ y
one_headless first x y a b = elim a.fault [
  | inl (never, is) ↦ elim b.fault [ inl (also, same) ↦ is ∙ sym same | inr (may, same) ↦ absurd (never may) ]
  | inr (may, is) ↦ elim b.fault [ inl (never, same) ↦ absurd (never may) | inr (also, same) ↦ is ∙ sym same ]
]

pub one_framing : (bytes : List ℕ) (x y : Framing) → IsFraming bytes x → IsFraming bytes y → x ≡ y
one_framing bytes x y (inl (nil, is)) (inl (also, same)) = is ∙ sym same
one_framing bytes x y (inl (nil, is)) (inr (inl (some, headless))) = absurd (omega (arith, ap length nil))
one_framing bytes x y (inl (nil, is)) (inr (inr (h, behind))) = absurd (no_head_of_nothing bytes h nil behind.head)
one_framing bytes x y (inr (inl (some, headless))) (inl (nil, is)) = absurd (omega (arith, ap length nil))
one_framing bytes x y (inr (inl (some, a))) (inr (inl (also, b))) = one_headless (front bytes) x y a b
one_framing bytes x y (inr (inl (some, headless))) (inr (inr (h, behind))) = absurd (headless.none h behind.head.0 behind.head.1)
one_framing bytes x y (inr (inr (h, behind))) (inl (nil, is)) = absurd (no_head_of_nothing bytes h nil behind.head)
one_framing bytes x y (inr (inr (h, behind))) (inr (inl (some, headless))) = absurd (headless.none h behind.head.0 behind.head.1)
one_framing bytes x y (inr (inr (h, a))) (inr (inr (k, b))) =
    let same = request_unique (front bytes) h k a.head.0 b.head.0 a.head.1 b.head.1 in
    a.after ∙ ap (λ g. after_head g (drop (length (print_request g)) bytes)) same.0 ∙ sym b.after

-- nothing yet may begin a head
pub nothing_may : MayBeginHead []
nothing_may = stops_before [] (65 ∷ 32 ∷ []) ([], 65 ∷ [], [], (omega arith, All-push (λ b. is_token_byte b ≡ true) [] 65 (All-nil _) letter_is_token), All-nil _, refl)
