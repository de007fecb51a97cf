-- Calls of std's readers and writers after calls that failed and changed nothing.
use Rattle.std.proofs.Common.{ℕ, List, ◌++◌, take, Option, Some, None, Result, Ok, Err, sym, ap, ◌∙◌}
use Rattle.std.specs.Io.KnownBytes.{Keeps, Appends, Consumes, ReadConsumes, WriteAppends}

keeps_keeps : (old mid new : Option (List ℕ)) → Keeps old mid → Keeps mid new → Keeps old new
keeps_keeps None mid new kept next = tt
keeps_keeps (Some xs) None new kept next = absurd kept
keeps_keeps (Some xs) (Some ys) None kept next = absurd next
keeps_keeps (Some xs) (Some ys) (Some zs) kept next = next ∙ kept

keeps_consumes : (old mid new : Option (List ℕ)) (piece : List ℕ) → Keeps old mid → Consumes mid new piece → Consumes old new piece
keeps_consumes None mid new piece kept next = tt
keeps_consumes (Some xs) None new piece kept next = absurd kept
keeps_consumes (Some xs) (Some ys) None piece kept next = absurd next
keeps_consumes (Some xs) (Some ys) (Some zs) piece kept next = sym kept ∙ next

keeps_appends : (old mid new : Option (List ℕ)) (piece : List ℕ) → Keeps old mid → Appends mid new piece → Appends old new piece
keeps_appends None mid new piece kept next = tt
keeps_appends (Some xs) None new piece kept next = absurd kept
keeps_appends (Some xs) (Some ys) None piece kept next = absurd next
keeps_appends (Some xs) (Some ys) (Some zs) piece kept next = next ∙ ap (λ front. front ++ piece) kept

-- a read after such calls
pub keeps_read : {E : Type 0} (old mid new : Option (List ℕ)) (r : Result ℕ E) (buf : List ℕ)
    → Keeps old mid → ReadConsumes mid new r buf → ReadConsumes old new r buf
keeps_read old mid new (Ok n) buf kept next = (keeps_consumes old mid new (take n buf) kept next.0, next.1)
keeps_read old mid new (Err e) buf kept next = keeps_keeps old mid new kept next

-- a write after such calls
pub keeps_write : {E : Type 0} (old mid new : Option (List ℕ)) (r : Result ℕ E) (buf : List ℕ)
    → Keeps old mid → WriteAppends mid new r buf → WriteAppends old new r buf
keeps_write old mid new (Ok n) buf kept next = keeps_appends old mid new (take n buf) kept next
keeps_write old mid new (Err e) buf kept next = keeps_keeps old mid new kept next
