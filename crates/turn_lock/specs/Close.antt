-- What the closing pass knows of the book that comes back (this project's own).
use Rattle.std.specs.Prelude.{◌≡◌, ◌⊎◌, ℕ, ◌+◌, ◌≤◌, true, List, [], ◌++◌}
use Rattle.turn_lock.specs.declared.view.Beside.{Beside}
use Rattle.turn_lock.specs.Meanings.{Meanings, IsLater}
use Rattle.turn_lock.specs.Known.{Known, OfFirst, numbers}
use Rattle.turn_lock.specs.Log.{own_entries, StartsWith, Each}
use Rattle.turn_lock.specs.Seats.{times}

module _ {B E F : Type 0} (M : Meanings B E F) where
  -- to the first log were appended the entries of the pass and of those that were joined into it, and no others
  pub record HasAllEntries (first : B) (p : Known B E) (log : List E) : Type 0 where
    pub begins : StartsWith p.seen log
    pub tail : List E
    pub appended : log ≡ M.log first ++ tail
    pub own_is : own_entries M.owner p.number tail ≡ p.own
    pub beside_is : Each (λ (x : Beside E). own_entries M.owner x.number tail ≡ x.own) p.beside
    pub no_other : (n : ℕ) → times n (numbers p) ≡ 0 → own_entries M.owner n tail ≡ []

  -- where the book reports its log, the log that is kept begins with both that were seen
  abbrev pub IsLonger : Known B E → Known B E → Known B E → Type 0
  IsLonger p q both = OfFirst p (λ a. M.reports a ≡ true → StartsWith p.seen both.seen × StartsWith q.seen both.seen)

  -- the count is at its end, or counts the failed turns of each single pass
  abbrev pub IsCounted : ℕ → ℕ → Known B E → Type 0
  IsCounted base now p = (18446744073709551615 ≤ now) ⊎ ((base + p.failed ≤ now) × Each (λ (x : Beside E). base + x.failed ≤ now) p.beside)

  -- the book that comes back, where first is the book as it was at `new`
  pub record ClosesFrom (first : B) (p : Known B E) (b : B) : Type 0 where
    pub later : IsLater M first b
    pub reported : M.reports first ≡ true → HasAllEntries first p (M.log b)
    pub counted : IsCounted (M.faults first) (M.faults b) p

  -- the book that comes back
  abbrev pub Closes : Known B E → B → Type 0
  Closes p b = OfFirst p (λ a. ClosesFrom a p b)
