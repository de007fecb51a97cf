-- From the head to the answer.
use Rattle.std.proofs.Common.{◌≡◌, ℕ, ◌+◌, ◌<◌, ◌≤◌, true, false, List, [], ◌++◌, length, take, drop, refl, sym, ap, subst, ◌∙◌, arith, append-nil, append_assoc, length-drop, inl, inr, nat_lt, Option, Some, None, Result, Ok, Err}
use Rattle.std.proofs.lemmas.Bool.Decides.{nat_tests}
use Rattle.std.proofs.lemmas.List.{drop-take, drop-drop}
use Rattle.outside.specs.Devices.{Input, HasEnded, with_front}
use Rattle.std.specs.Prelude.{IfSome}
use Rattle.http_edge.specs.Reader.{RefusalIs, IsFramingOf}
use Rattle.httparse.specs.Grammar.{RequestHead, print_request}
use Rattle.http_edge.specs.Head.{front, HasHead}
use Rattle.http_edge.specs.HeadFault.{fault_of}
use Rattle.http_edge.specs.HeaderFields.{fields_of, request_of, request_by}
use Rattle.http_edge.specs.RequestFraming.{refused, request, IsFraming, after_head, length_of}
use Rattle.http_edge.specs.Plan.{IsPlan, IsPlanOf, IsFaultOfHead, RefusesHead}
use Rattle.http_edge.specs.Stream.{ReadsOn, WaitsForMore, IsFaultOf, Answers, AnswersTaken}
use Rattle.http_edge.proofs.Settled.{behind_more, front_length, refused_settled, request_settled}
use Rattle.http_edge.proofs.Bounds.{read_length}
use Rattle.http_edge.specs.declared.plan.Plan.{Plan}
use Rattle.http_edge.specs.declared.request.Request.{Request}
use Rattle.http_edge.specs.declared.request.EdgeFault.{EdgeFault}
use Rattle.http_edge.specs.declared.request.EdgeFault.TheVariants.{BadHead, HeadTooLong, TransferCoding, ContentCoding, NoLength, BodyTooLong, CutShort, ReadFault, Memory}

head_fits : (bytes : List ℕ) (h : RequestHead) → HasHead (front bytes) h → length (print_request h) ≤ length bytes
head_fits bytes h head = omega (arith, front_length bytes, read_length (front bytes) h head.0 head.1)

-- the head has a fault
framing_fault : (bytes : List ℕ) (f : EdgeFault) (h : RequestHead) → IsFaultOfHead (front bytes) f h → IsFraming bytes (refused f)
unfolding after_head
framing_fault bytes f h is = inr (inr (h, record { head = is.head; after = rw is.is refl }))

-- the body isn't whole
framing_short : (bytes : List ℕ) (h : RequestHead) → HasHead (front bytes) h → fault_of h.method (fields_of h) ≡ None
    → length bytes < length (print_request h) + length_of h → IsFraming bytes (refused CutShort)
unfolding after_head
framing_short bytes h head sound few =
    let fits : length (print_request h) ≤ length bytes = head_fits bytes h head in
    let less : length (drop (length (print_request h)) bytes) < length_of h = omega (arith, length-drop (length (print_request h)) bytes) in
    let test : nat_lt (length (drop (length (print_request h)) bytes)) (length_of h) ≡ true = grind (arith, nat_tests) in
    inr (inr (h, record { head = head; after = rw (sound, test) refl }))

-- the body is whole
framing_whole : (bytes : List ℕ) (h : RequestHead) → HasHead (front bytes) h → fault_of h.method (fields_of h) ≡ None
    → length (print_request h) + length_of h ≤ length bytes
    → IsFraming bytes (request (request_of h (take (length_of h) (drop (length (print_request h)) bytes))) (drop (length_of h) (drop (length (print_request h)) bytes)))
unfolding after_head
framing_whole bytes h head sound enough =
    let more : length_of h ≤ length (drop (length (print_request h)) bytes) = omega (arith, length-drop (length (print_request h)) bytes) in
    let test : nat_lt (length (drop (length (print_request h)) bytes)) (length_of h) ≡ false = grind (arith, nat_tests) in
    inr (inr (h, record { head = head; after = rw (sound, test) refl }))

-- ---- a plan, and the bytes as they are read on

-- the plan stays that of the head when more bytes come
plan_more : (bytes more : List ℕ) (plan : Plan) (h : RequestHead) → IsPlanOf (front bytes) plan h → IsPlanOf (front (bytes ++ more)) plan h
plan_more bytes more plan h is = record {
  head = (behind_more bytes more h is.head).0;
  sound = is.sound;
  len = is.len;
  total = is.total;
  request = is.request;
}

pub plan_stays : (bytes more now : List ℕ) (plan : Plan) → IsPlan (front bytes) plan → now ≡ bytes ++ more → IsPlan (front now) plan
plan_stays bytes more now plan (h, is) same = (h, subst (λ all. IsPlanOf (front all) plan h) (sym same) (plan_more bytes more plan h is))

pub plan_ordered : (first : List ℕ) (plan : Plan) → IsPlan first plan → plan.len ≤ plan.total
plan_ordered first plan (h, is) = omega (arith, is.len, is.total)

pub plan_short : (bytes : List ℕ) (plan : Plan) → IsPlan (front bytes) plan → length bytes < plan.total → IsFraming bytes (refused CutShort)
plan_short bytes plan (h, is) few = framing_short bytes h is.head is.sound (omega (arith, is.total))

pub plan_waits : (bytes : List ℕ) (plan : Plan) → IsPlan (front bytes) plan → length bytes < plan.total → WaitsForMore bytes
plan_waits bytes plan is few = (refused CutShort, plan_short bytes plan is few, inr refl)

-- a body makes a request whole
whole : (h : RequestHead) (body : List ℕ) → record (request_of h []) { body = body } ≡ request_of h body
unfolding request_by
whole h body = refl

-- what is made of the bytes of a plan is their request
pub plan_done : (bytes kept : List ℕ) (plan : Plan) (r : Request) → IsPlan (front bytes) plan → plan.total ≤ length bytes
    → kept ≡ drop plan.total bytes → r ≡ record plan.request { body = drop plan.len (take plan.total bytes) }
    → IsFraming bytes (request r kept)
plan_done bytes kept plan r (h, is) enough rest made =
    let len : ℕ = length (print_request h) in
    let framing = framing_whole bytes h is.head is.sound (omega (arith, is.total)) in
    let body : drop plan.len (take plan.total bytes) ≡ take (length_of h) (drop len bytes) =
    ap (λ n. drop n (take plan.total bytes)) is.len ∙ ap (λ n. drop len (take n bytes)) is.total ∙ drop-take len (length_of h) bytes in
    let after : kept ≡ drop (length_of h) (drop len bytes) =
    rest ∙ ap (λ n. drop n bytes) is.total ∙ sym (drop-drop (length_of h) len bytes) in
    let with : Request → List ℕ → Request = λ (r : Request) (b : List ℕ). record r { body = b } in
    let same : r ≡ request_of h (take (length_of h) (drop len bytes)) =
    made ∙ ap (with plan.request) body ∙ ap (λ (q : Request). with q (take (length_of h) (drop len bytes))) is.request ∙ whole h (take (length_of h) (drop len bytes)) in
    subst (IsFraming bytes) (λ i. request (sym same i) (sym after i)) framing

-- ---- the clause

-- a fault of the head is that of the bytes
pub head_refused : (bytes : List ℕ) (now : Input) (f : EdgeFault) → RefusesHead (front bytes) f → IsFaultOf bytes now f
head_refused bytes now f (inl memory) = subst (IsFaultOf bytes now) (sym memory) tt
head_refused bytes now BadHead (inr (h, is)) = framing_fault bytes BadHead h is
head_refused bytes now HeadTooLong (inr (h, is)) = framing_fault bytes HeadTooLong h is
head_refused bytes now TransferCoding (inr (h, is)) = framing_fault bytes TransferCoding h is
head_refused bytes now ContentCoding (inr (h, is)) = framing_fault bytes ContentCoding h is
head_refused bytes now NoLength (inr (h, is)) = framing_fault bytes NoLength h is
head_refused bytes now BodyTooLong (inr (h, is)) = framing_fault bytes BodyTooLong h is
head_refused bytes now CutShort (inr (h, is)) = absurd is.kind
head_refused bytes now ReadFault (inr (h, is)) = absurd is.kind
head_refused bytes now Memory (inr (h, is)) = absurd is.kind

-- an answer to the bytes that are there now is one to what was taken
pub answers : (old : List ℕ) (before : Input) (seen : List ℕ) (now : Input) (result : Result (Option Request) EdgeFault) (new : List ℕ)
    → ReadsOn old before seen now → Answers seen now result new → AnswersTaken old before result new now
answers old before seen now result new reads answer = record {
  taken = reads.taken;
  source = reads.source;
  answer = subst (λ bytes. Answers bytes now result new) reads.kept answer;
}

-- ---- what was left

with_front_some : (a b : List ℕ) (left : Option (List ℕ)) → Some b ≡ with_front a left → (rest : List ℕ) × (left ≡ Some rest) × (b ≡ a ++ rest)
with_front_some a b None is = absurd (cc)
with_front_some a b (Some rest) is = (rest, refl, cc)

ended_left : (rest : List ℕ) (now : Input) → now.left ≡ Some rest → HasEnded now → rest ≡ []
ended_left rest now left ended = subst (λ (bytes : Option (List ℕ)). IfSome bytes (λ all. all ≡ [])) left ended

fault_left : (seen rest : List ℕ) (now : Input) (f : EdgeFault) → now.left ≡ Some rest → IsFaultOf seen now f → RefusalIs (seen ++ rest) f
fault_left seen rest now BadHead left is = refused_settled seen rest BadHead (λ same. cc) is
fault_left seen rest now HeadTooLong left is = refused_settled seen rest HeadTooLong (λ same. cc) is
fault_left seen rest now TransferCoding left is = refused_settled seen rest TransferCoding (λ same. cc) is
fault_left seen rest now ContentCoding left is = refused_settled seen rest ContentCoding (λ same. cc) is
fault_left seen rest now NoLength left is = refused_settled seen rest NoLength (λ same. cc) is
fault_left seen rest now BodyTooLong left is = refused_settled seen rest BodyTooLong (λ same. cc) is
fault_left seen rest now CutShort left is =
    let none : rest ≡ [] = ended_left rest now left is.1 in
    subst (λ bytes. IsFraming bytes (refused CutShort)) (sym (append-nil seen) ∙ ap (λ more. seen ++ more) (sym none)) is.0
fault_left seen rest now ReadFault left is = tt
fault_left seen rest now Memory left is = tt

answer_left : (seen rest kept : List ℕ) (now : Input) (result : Result (Option Request) EdgeFault) → now.left ≡ Some rest → Answers seen now result kept
    → IsFramingOf (seen ++ rest) result (Some (kept ++ rest))
answer_left seen rest kept now (Ok None) left (nothing, ended, none) =
    let end : rest ≡ [] = ended_left rest now left ended in (
      inl (rw (nothing, end) refl, refl),
      rw (none, end) refl,
    )
answer_left seen rest kept now (Ok (Some r)) left is = (kept ++ rest, request_settled seen rest kept r is, refl)
answer_left seen rest kept now (Err f) left is = fault_left seen rest now f left is

framing_left : (old b : List ℕ) (before now : Input) (result : Result (Option Request) EdgeFault) (new : List ℕ) → AnswersTaken old before result new now
    → before.left ≡ Some b → IsFramingOf (old ++ b) result (with_front new now.left)
framing_left old b before now result new is tells =
    let cut = with_front_some is.taken b now.left (sym tells ∙ is.source.bytes) in
    let framing : IsFramingOf ((old ++ is.taken) ++ cut.0) result (Some (new ++ cut.0)) = answer_left (old ++ is.taken) cut.0 new now result cut.1 is.answer in
    let same : (old ++ is.taken) ++ cut.0 ≡ old ++ b = append_assoc old is.taken cut.0 ∙ ap (λ more. old ++ more) (sym cut.2) in
    rw cut.1 (subst (λ bytes. IsFramingOf bytes result (Some (new ++ cut.0))) same framing)

-- where the source reports what is left, the answer is that of what was left
pub answered : (old : List ℕ) (before now : Input) (result : Result (Option Request) EdgeFault) (new : List ℕ) → AnswersTaken old before result new now
    → IfSome (with_front old before.left) (λ b. IsFramingOf b result (with_front new now.left))
answered old before now result new is = by_case before.left refl
  where
    by_case : (left : Option (List ℕ)) → before.left ≡ left → IfSome (with_front old left) (λ b. IsFramingOf b result (with_front new now.left))
    by_case None none = tt
    by_case (Some b) some = framing_left old b before now result new is some
