-- What the devices report of themselves, and what their calls do to that. A source reports the bytes that are left, and a sink
-- those that were written, or neither does: by the equations here no call changes whether it does.
use Rattle.std.specs.Prelude.{◌≡◌, ◌≤◌, ◌<◌, ℕ, Bool, true, false, List, [], ◌++◌, length, take, Option, Some, None, IfSome}
use Rattle.outside.specs.Faults.{Rose}

-- a source
pub record Input : Type 0 where
  -- the bytes that are left, where it reports them
  pub left : Option (List ℕ)
  -- how many reads have failed
  pub faults : ℕ
  -- no read has failed, and none will
  pub never_fails : Bool

-- a sink
pub record Output : Type 0 where
  -- the bytes that were written, where it reports them
  pub written : Option (List ℕ)
  -- how many writes have failed
  pub faults : ℕ

-- a piece and then the bytes that are left, where they are reported
abbrev pub with_front : List ℕ → Option (List ℕ) → Option (List ℕ)
with_front piece None = None
with_front piece (Some left) = Some (piece ++ left)

-- the bytes that were written and then a piece, where they are reported
abbrev pub with_end : Option (List ℕ) → List ℕ → Option (List ℕ)
with_end None piece = None
with_end (Some written) piece = Some (written ++ piece)

-- this piece was next and was read, by one call or by several, of which some may have failed
pub record HasRead (old new : Input) (piece : List ℕ) : Type 0 where
  pub bytes : old.left ≡ with_front piece new.left
  pub count : old.faults ≤ new.faults
  pub never_fails : new.never_fails ≡ old.never_fails

-- a call failed and read nothing
pub record IsFailedRead (old new : Input) : Type 0 where
  pub bytes : new.left ≡ old.left
  pub count : old.faults ≤ new.faults
  pub rose : Rose old.faults new.faults
  pub never_fails : new.never_fails ≡ old.never_fails

-- no byte is left, where they are reported
abbrev pub HasEnded : Input → Type 0
HasEnded input = IfSome input.left (λ left. left ≡ [])

-- this piece was written after the bytes that were, by one call or by several, of which some may have failed
pub record HasWritten (old new : Output) (piece : List ℕ) : Type 0 where
  pub bytes : new.written ≡ with_end old.written piece
  pub count : old.faults ≤ new.faults

-- a call failed and wrote nothing
pub record IsFailedWrite (old new : Output) : Type 0 where
  pub bytes : new.written ≡ old.written
  pub count : old.faults ≤ new.faults
  pub rose : Rose old.faults new.faults

-- a proper part of the piece was written, since a call failed
pub record IsCut (old new : Output) (piece : List ℕ) : Type 0 where
  -- how many bytes of it
  pub taken : ℕ
  pub proper : taken < length piece
  pub bytes : new.written ≡ with_end old.written (take taken piece)
  pub count : old.faults ≤ new.faults
  pub rose : Rose old.faults new.faults

-- what a source reports that only counts its faults
abbrev pub counted_input : ℕ → Input
counted_input faults = record { left = None; faults = faults; never_fails = false }

-- what a sink reports that only counts its faults
abbrev pub counted_output : ℕ → Output
counted_output faults = record { written = None; faults = faults }

pub counted_input-never_failed : (faults : ℕ) → (counted_input faults).never_fails ≡ true → faults ≡ 0
counted_input-never_failed faults impossible = cc
