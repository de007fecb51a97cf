-- Calls on a source or a sink, one after another.
use Rattle.std.proofs.Common.{◌≡◌, ◌<◌, ℕ, true, List, [], ◌++◌, length, take, Option, Some, None, IfSome, Result, Ok, Err, OnErr, refl, sym, ap, ◌∙◌, append-nil, append_assoc, subst, arith}
use Rattle.std.proofs.Math.Seq.{take-append_seam}
use Rattle.outside.specs.Devices.{Input, Output, with_front, with_end, HasRead, IsFailedRead, HasWritten, IsFailedWrite, IsCut}

-- no byte was read
pub with_front-nothing : (left : Option (List ℕ)) → with_front [] left ≡ left
with_front-nothing None = refl
with_front-nothing (Some left) = refl

-- two pieces were read
pub with_front-append : (left : Option (List ℕ)) (a b : List ℕ) → with_front (a ++ b) left ≡ with_front a (with_front b left)
with_front-append None a b = refl
with_front-append (Some left) a b = ap (λ bytes. Some bytes) (append_assoc a b left)

-- no byte was written
pub with_end-nothing : (written : Option (List ℕ)) → with_end written [] ≡ written
with_end-nothing None = refl
with_end-nothing (Some written) = ap (λ bytes. Some bytes) (append-nil written)

-- two pieces were written
pub with_end-append : (written : Option (List ℕ)) (a b : List ℕ) → with_end written (a ++ b) ≡ with_end (with_end written a) b
with_end-append None a b = refl
with_end-append (Some written) a b = ap (λ bytes. Some bytes) (sym (append_assoc written a b))

-- nothing was read
pub read_nothing : (input : Input) → HasRead input input []
read_nothing input = record {
  bytes = sym (with_front-nothing input.left);
  count = omega arith;
  never_fails = refl;
}

-- this was read, and then that
pub read_more : (old mid new : Input) (a b : List ℕ) → HasRead old mid a → HasRead mid new b → HasRead old new (a ++ b)
read_more old mid new a b first next = record {
  bytes = first.bytes ∙ ap (with_front a) next.bytes ∙ sym (with_front-append new.left a b);
  count = omega arith;
  never_fails = next.never_fails ∙ first.never_fails;
}

-- what was read is the front of what was left
pub read_front : (old new : Input) (piece : List ℕ) (count : ℕ) → count ≡ length piece → HasRead old new piece
    → IfSome old.left (λ left. piece ≡ take count left)
read_front old new piece count same read =
    subst (λ (left : Option (List ℕ)). IfSome left (λ left. piece ≡ take count left)) (sym read.bytes) (front new.left)
  where
    front : (rest : Option (List ℕ)) → IfSome (with_front piece rest) (λ left. piece ≡ take count left)
    front None = tt
    front (Some rest) = sym (ap (λ n. take n (piece ++ rest)) same ∙ take-append_seam piece rest)

-- a failed read reads nothing
pub read_failed : (old new : Input) → IsFailedRead old new → HasRead old new []
read_failed old new failed = record {
  bytes = sym failed.bytes ∙ sym (with_front-nothing new.left);
  count = omega arith;
  never_fails = failed.never_fails;
}

-- this was read, and then a read failed
pub read_then_failed : (old mid new : Input) (piece : List ℕ) → HasRead old mid piece → IsFailedRead mid new → HasRead old new piece
read_then_failed old mid new piece first failed = record {
  bytes = first.bytes ∙ ap (with_front piece) (sym failed.bytes);
  count = omega arith;
  never_fails = failed.never_fails ∙ first.never_fails;
}

-- no read fails of a source that never fails
pub read_never_failed : (old new : Input) → (new.never_fails ≡ true → new.faults ≡ 0) → old.never_fails ≡ true → IsFailedRead old new → ⊥
read_never_failed old new law never_fails failed =
    let none : new.faults ≡ 0 = law (failed.never_fails ∙ never_fails) in
    let rose = failed.rose in
    omega arith

-- nothing was written
pub write_nothing : (output : Output) → HasWritten output output []
write_nothing output = record {
  bytes = sym (with_end-nothing output.written);
  count = omega arith;
}

-- this was written, and then that
pub write_more : (old mid new : Output) (a b : List ℕ) → HasWritten old mid a → HasWritten mid new b → HasWritten old new (a ++ b)
write_more old mid new a b first next = record {
  bytes = next.bytes ∙ ap (λ written. with_end written b) first.bytes ∙ sym (with_end-append old.written a b);
  count = omega arith;
}

-- a failed write writes nothing
pub write_failed : (old new : Output) → IsFailedWrite old new → HasWritten old new []
write_failed old new failed = record {
  bytes = failed.bytes ∙ sym (with_end-nothing old.written);
  count = omega arith;
}

-- this was written, and then a write failed
pub write_then_failed : (old mid new : Output) (piece : List ℕ) → HasWritten old mid piece → IsFailedWrite mid new → HasWritten old new piece
write_then_failed old mid new piece first failed = record {
  bytes = failed.bytes ∙ first.bytes;
  count = omega arith;
}

-- the first bytes of a piece were written, and then a write failed
pub cut_at : (old mid new : Output) (piece : List ℕ) (taken : ℕ) → taken < length piece
    → HasWritten old mid (take taken piece) → IsFailedWrite mid new → IsCut old new piece
cut_at old mid new piece taken proper first failed = record {
  taken = taken;
  proper = proper;
  bytes = failed.bytes ∙ first.bytes;
  count = omega arith;
  rose = omega arith;
}

-- a part of a piece was written
pub cut_written : (old new : Output) (piece : List ℕ) → (cut : IsCut old new piece) → HasWritten old new (take cut.taken piece)
cut_written old new piece cut = record {
  bytes = cut.bytes;
  count = omega arith;
}

-- what holds anyhow holds of a refusal
pub of_refusal : {T E P : Type 0} (r : Result T E) → P → OnErr r P
of_refusal (Ok x) p = tt
of_refusal (Err e) p = p
