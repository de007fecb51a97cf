-- What a book means to its lock (this project's own).
use Rattle.std.specs.Prelude.{◌≡◌, ℕ, Bool, List}

-- the part that no turn changes, whether the book is sound, whether it reports its log, the log, the owner of an entry, and
-- the count of faults
pub record Meanings (B E F : Type 0) : Type 1 where
  pub fixed : B → F
  pub sound : B → Type 0
  pub reports : B → Bool
  pub log : B → List E
  pub owner : E → ℕ
  pub faults : B → ℕ

-- a book that turns made of the first
pub record IsLater {B E F : Type 0} (M : Meanings B E F) (first b : B) : Type 0 where
  pub fixed_is : M.fixed b ≡ M.fixed first
  pub sound_is : M.sound first → M.sound b
  pub reports_is : M.reports b ≡ M.reports first
