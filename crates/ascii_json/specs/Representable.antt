-- What a value without float can be: its strings are text, its whole numbers have 64 bits,
-- and the keys of its objects ascend.
use Rattle.std.specs.Prelude.{◌≡◌, ◌<◌, ◌^◌, ℕ, pos, negsuc, List, IsUtf8, ⊤}
use Rattle.std.specs.Ordering.{nat_cmp}
use Rattle.std.specs.Cmp.Lexicographic.{slice_cmp}
use Rattle.std.specs.declared.cmp.Ordering.TheVariants.{Less}
use Rattle.serde_json.specs.Data.{Num, unsigned, negative, float, Data, null, boolean, number, string, array, object, Items, no_items, item, Members, no_members, member}

-- a whole number from -2^63 to 2^64 - 1
abbrev pub IsWholeNumber : Num → Type 0
IsWholeNumber (unsigned n) = n < 2 ^ 64
IsWholeNumber (negative (pos n)) = ⊥
IsWholeNumber (negative (negsuc n)) = n < 2 ^ 63
IsWholeNumber (float x) = ⊥

-- every key of the members comes after this one
abbrev pub AllKeysAfter : List ℕ → Members → Type 0
AllKeysAfter k no_members = ⊤
AllKeysAfter k (member l d ms) = (slice_cmp nat_cmp k l ≡ Less) × AllKeysAfter k ms

abbrev mutual
  -- a value without float can be the data
  pub IsRepresentable : Data → Type 0
  IsRepresentable null = ⊤
  IsRepresentable (boolean b) = ⊤
  IsRepresentable (number n) = IsWholeNumber n
  IsRepresentable (string s) = IsUtf8 s
  IsRepresentable (array ds) = ItemsAreRepresentable ds
  IsRepresentable (object ms) = MembersAreRepresentable ms

  pub ItemsAreRepresentable : Items → Type 0
  ItemsAreRepresentable no_items = ⊤
  ItemsAreRepresentable (item d ds) = IsRepresentable d × ItemsAreRepresentable ds

  pub MembersAreRepresentable : Members → Type 0
  MembersAreRepresentable no_members = ⊤
  MembersAreRepresentable (member k d ms) = IsUtf8 k × IsRepresentable d × AllKeysAfter k ms × MembersAreRepresentable ms
