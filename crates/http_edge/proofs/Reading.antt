-- Reading on: one read after another, and what a wait says.
use Rattle.std.proofs.Common.{◌≡◌, ◌⊎◌, ℕ, ◌<◌, ◌≤◌, true, false, List, [], ◌∷◌, ◌++◌, length, refl, sym, ap, subst, ◌∙◌, arith, append-nil, append_assoc, length-append, inl, inr, nat_le}
use Rattle.std.proofs.lemmas.Bool.Decides.{nat_tests}
use Rattle.outside.specs.Devices.{Input, HasRead, IsFailedRead}
use Rattle.outside.specs.Faults.{Rose}
use Rattle.outside.proofs.Calls.{read_failed, read_more, read_nothing}
use Rattle.httparse.specs.Grammar.{HasNoRequest}
use Rattle.http_edge.specs.Head.{front, MayBeginHead}
use Rattle.http_edge.specs.RequestFraming.{ended, refused, IsFraming, IsHeadless}
use Rattle.http_edge.specs.Stream.{IsBegun, IsFaultOf, IsHeadFault, ReadsOn, WaitsForMore}
use Rattle.http_edge.proofs.Settled.{front_cases, front_few, nothing_may}
use Rattle.http_edge.specs.declared.request.EdgeFault.{EdgeFault}
use Rattle.http_edge.specs.declared.request.EdgeFault.TheVariants.{BadHead, HeadTooLong, TransferCoding, ContentCoding, NoLength, BodyTooLong, CutShort, ReadFault, Memory}

-- nothing was read yet
pub reads_nothing : (bytes : List ℕ) (input : Input) → ReadsOn bytes input bytes input
reads_nothing bytes input = record {
  taken = [];
  kept = sym (append-nil bytes);
  source = read_nothing input;
}

-- a read failed
pub reads_failed : (bytes : List ℕ) (old new : Input) → IsFailedRead old new → ReadsOn bytes old bytes new
reads_failed bytes old new failed = record {
  taken = [];
  kept = sym (append-nil bytes);
  source = read_failed old new failed;
}

-- a piece was read
pub reads_piece : (a b piece : List ℕ) (old new : Input) → HasRead old new piece → b ≡ a ++ piece → ReadsOn a old b new
reads_piece a b piece old new read same = record {
  taken = piece;
  kept = same;
  source = read;
}

-- one read, and then another
pub reads_on : (a b c : List ℕ) (x y z : Input) → ReadsOn a x b y → ReadsOn b y c z → ReadsOn a x c z
reads_on a b c x y z first second = record {
  taken = first.taken ++ second.taken;
  kept = second.kept ∙ ap (λ front. front ++ second.taken) first.kept ∙ append_assoc a first.taken second.taken;
  source = read_more x y z first.taken second.taken first.source second.source;
}

-- no byte that was kept goes
pub reads_longer : (a b : List ℕ) (x y : Input) → ReadsOn a x b y → length a ≤ length b
reads_longer a b x y reads = omega (arith, ap length reads.kept ∙ length-append a reads.taken)

-- the count rose since the first read
pub rose_since : (a b : List ℕ) (x y z : Input) → ReadsOn a x b y → Rose y.faults z.faults → Rose x.faults z.faults
rose_since a b x y z reads rose =
    let count : x.faults ≤ y.faults = reads.source.count in
    omega arith

-- ---- where no head is found

-- no head is there, and none comes
pub framing_bad : (bytes first : List ℕ) → first ≡ front bytes → HasNoRequest first → (MayBeginHead first → ⊥) → IsFraming bytes (refused BadHead)
framing_bad [] first same none never = absurd (never (subst MayBeginHead (sym (same ∙ front_few [] (omega arith))) nothing_may))
framing_bad (b ∷ bytes) first same none never =
    let headless : IsHeadless first (refused BadHead) = record { none = none; fault = inl (never, refl) } in
    inr (inl (omega arith, subst (λ front. IsHeadless front (refused BadHead)) same headless))

-- no head is there, and there are as many bytes as are looked at
pub framing_long : (bytes first : List ℕ) → first ≡ front bytes → HasNoRequest first → MayBeginHead first → 16384 ≤ length bytes → IsFraming bytes (refused HeadTooLong)
framing_long bytes first same none may enough =
    let reached : 16384 ≤ length first = full bytes first same enough in
    let test : nat_le 16384 (length first) ≡ true = grind (arith, nat_tests) in
    let headless : IsHeadless first (refused HeadTooLong) = record { none = none; fault = inr (may, rw test refl) } in
    inr (inl (omega arith, subst (λ front. IsHeadless front (refused HeadTooLong)) same headless))
  where
    full : (bytes first : List ℕ) → first ≡ front bytes → 16384 ≤ length bytes → 16384 ≤ length first
    full bytes first same enough = elim (front_cases bytes) [
      | inl (few, all) ↦ absurd (omega (arith, ap length all))
      | inr (reached, also) ↦ omega (arith, ap length same)
    ]

-- no head is there, and there are fewer bytes
pub framing_cut : (bytes first : List ℕ) → first ≡ front bytes → HasNoRequest first → MayBeginHead first → 0 < length bytes → length bytes < 16384 → IsFraming bytes (refused CutShort)
framing_cut bytes first same none may some few =
    let short : length first < 16384 = omega (arith, ap length (same ∙ front_few bytes (omega arith))) in
    let test : nat_le 16384 (length first) ≡ false = grind (arith, nat_tests) in
    let headless : IsHeadless first (refused CutShort) = record { none = none; fault = inr (may, rw test refl) } in
    inr (inl (some, subst (λ front. IsHeadless front (refused CutShort)) same headless))

pub waits : (bytes first : List ℕ) → first ≡ front bytes → HasNoRequest first → MayBeginHead first → length bytes < 16384 → WaitsForMore bytes
waits [] first same none may few = (ended, inl (refl, refl), inl refl)
waits (b ∷ bytes) first same none may few = (refused CutShort, framing_cut (b ∷ bytes) first same none may (omega arith) few, inr refl)

-- a read that failed where more bytes are waited for
pub fault_waits : (bytes : List ℕ) (now : Input) (e : EdgeFault) → (e ≡ ReadFault) ⊎ (e ≡ Memory) → WaitsForMore bytes → IsFaultOf bytes now e
fault_waits bytes now e (inl is) wait = subst (IsFaultOf bytes now) (sym is) wait
fault_waits bytes now e (inr is) wait = subst (IsFaultOf bytes now) (sym is) tt

-- no head is there yet, so a fault of the source or of memory says nothing of the bytes
pub begun_fault : (bytes : List ℕ) (now : Input) (e : EdgeFault) → (e ≡ ReadFault) ⊎ (e ≡ Memory) → IsBegun bytes → IsFaultOf bytes now e
begun_fault bytes now e kind begun = fault_waits bytes now e kind (waits bytes (front bytes) refl begun.none begun.may begun.short)

-- and where nothing is left, they are cut short
pub begun_cut : (bytes : List ℕ) → IsBegun bytes → 0 < length bytes → IsFraming bytes (refused CutShort)
begun_cut bytes begun some = framing_cut bytes (front bytes) refl begun.none begun.may some begun.short

-- a fault of the bytes is one whatever the source has
pub fault_by_itself : (bytes : List ℕ) (now : Input) (e : EdgeFault) → IsHeadFault e → IsFraming bytes (refused e) → IsFaultOf bytes now e
fault_by_itself bytes now BadHead kind is = is
fault_by_itself bytes now HeadTooLong kind is = is
fault_by_itself bytes now TransferCoding kind is = is
fault_by_itself bytes now ContentCoding kind is = is
fault_by_itself bytes now NoLength kind is = is
fault_by_itself bytes now BodyTooLong kind is = is
fault_by_itself bytes now CutShort kind is = absurd kind
fault_by_itself bytes now ReadFault kind is = absurd kind
fault_by_itself bytes now Memory kind is = absurd kind
