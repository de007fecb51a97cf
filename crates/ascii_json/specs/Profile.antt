-- The values that are written and read: this project's own profile of JSON.
use Rattle.std.specs.Prelude.{◌≡◌, ◌≤◌, ℕ, List, false, Some, IsUtf8}
use Rattle.serde_json.specs.Data.{Data, Items, Members, depth, items_depth, members_depth}
use Rattle.serde_json.specs.Read.{read}
use Rattle.serde_json.specs.Written.{has_float, items_have_float, members_have_float}

-- no float, and nested at most this deep: a plain value has depth 0, each list or object adds 1
abbrev pub FitsWithin : ℕ → Data → Type 0
FitsWithin most d = (has_float d ≡ false) × (depth d ≤ most)

abbrev pub ItemsFitWithin : ℕ → Items → Type 0
ItemsFitWithin most ds = (items_have_float ds ≡ false) × (items_depth ds ≤ most)

abbrev pub MembersFitWithin : ℕ → Members → Type 0
MembersFitWithin most ms = (members_have_float ms ≡ false) × (members_depth ms ≤ most)

-- no float, and nested at most 100 deep
abbrev pub IsProfile : Data → Type 0
IsProfile d = FitsWithin 100 d

-- the bytes are JSON text (RFC 8259) of this value, which is one of the profile
pub record Reads (text : List ℕ) (d : Data) : Type 0 where
  pub utf8 : IsUtf8 text
  pub says : read text ≡ Some d
  pub profile : IsProfile d
