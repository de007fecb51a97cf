-- What a call of `run` did (this project's own).
use Rattle.std.specs.Prelude.{◌≡◌, ◌≤◌, Bool, true, List, ◌++◌, ◌+◌, if◌then◌else◌}
use Rattle.turn_lock.specs.Meanings.{Meanings, IsLater}
use Rattle.turn_lock.specs.Count.{Rose}
use Rattle.turn_lock.specs.Known.{Known, OfFirst}
use Rattle.turn_lock.specs.Log.{grown, own_entries, StartsWith}

module _ {B E F Reply : Type 0} (M : Meanings B E F) (changes : B → Reply → B → Type 0) (grows fails : Reply → Bool) (asks : E) where
  -- what is known of the log, where the book reports it: first is the book as it was at `new`
  pub record Logged (first : B) (before : Known B E) (found left : B) (reply : Reply) (after : Known B E) : Type 0 where
    pub seen_before : StartsWith before.seen (M.log found)
    pub left_is : M.log left ≡ grown (grows reply) (M.log found) asks
    pub seen_is : after.seen ≡ M.log left
    pub own_is : after.own ≡ grown (grows reply) before.own asks
    pub tail : List E
    pub appended : after.seen ≡ M.log first ++ tail
    pub own_all : own_entries M.owner before.number tail ≡ after.own

  -- the turn was taken on one book, as found and as left, and the pass knows of it
  pub record Ran (before : Known B E) (reply : Reply) (after : Known B E) : Type 0 where
    pub found : B
    pub left : B
    pub related : changes found reply left
    pub found_later : OfFirst before (λ a. IsLater M a found)
    pub left_later : OfFirst before (λ a. IsLater M a left)
    pub reported : OfFirst before (λ a. M.reports a ≡ true → Logged a before found left reply after)
    pub faults_up : M.faults found ≤ M.faults left
    pub rose : fails reply ≡ true → Rose (M.faults found) (M.faults left)
    pub failed_is : after.failed ≡ (if fails reply then before.failed + 1 else before.failed)
    pub same_number : after.number ≡ before.number
    pub same_first : after.first ≡ before.first
    pub same_beside : after.beside ≡ before.beside
    pub same_known : after.known ≡ before.known
