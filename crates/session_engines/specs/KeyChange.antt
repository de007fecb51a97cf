-- What the rotation of a list of keys gives.
use Rattle.std.specs.Prelude.{◌≡◌, ℕ, List, [], ◌∷◌, Bool, true, false}
use Rattle.signing_core.specs.Keys.{rotated}
use Rattle.ledger_rows.specs.KeySteps.{is_full, is_held, rotate_reply}
use Rattle.keepers.specs.declared.change.Change.{Change}
use Rattle.keepers.specs.declared.change.Change.TheVariants.{PutKeys}
use Rattle.session_engines.specs.declared.answer.Answer.{Answer}

-- the changes, by whether the key is held, and whether there is room
abbrev pub rotate_changes : List (List ℕ) → List ℕ → Bool → Bool → List Change
rotate_changes keys key true full = []
rotate_changes keys key false true = []
rotate_changes keys key false false = PutKeys (rotated keys key) ∷ []

pub record IsRotation (keys : List (List ℕ)) (key : List ℕ) (answer : Answer) : Type 0 where
  pub reply : answer.reply ≡ rotate_reply (is_held keys key) (is_full keys)
  pub changes : answer.changes.items ≡ rotate_changes keys key (is_held keys key) (is_full keys)
