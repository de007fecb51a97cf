-- The values of a JSON object (RFC 8259) by the names of its members, read as texts, numbers and lists of them.
use Rattle.std.specs.Prelude.{◌&&◌, ℕ, List, [], ◌∷◌, Bool, true, false, Option, Some, None, bytes_eq, option_and_then}
use Rattle.std.specs.List.{list_any}
use Rattle.serde_json.specs.Data.{Data, Items, no_items, item, Members, no_members, member}
use Rattle.serde_json.specs.Find.{as_array, as_number, as_u64, get}

-- what is read goes on, as in Rust by `?`
infixl 10 ◌>>=◌
abbrev pub ◌>>=◌ : {A B : Type 0} → Option A → (A → Option B) → Option B
o >>= f = option_and_then f o

-- each name is one of these
abbrev pub has_only_names : List (List ℕ) → Members → Bool
has_only_names names no_members = true
has_only_names names (member name d ms) = list_any (λ known. bytes_eq known name) names && has_only_names names ms

-- an object without other names than these
abbrev pub has_only : List (List ℕ) → Option Members → Bool
has_only names None = false
has_only names (Some ms) = has_only_names names ms

-- a list, where each of its values is read
abbrev pub items_in : {A : Type 0} → (Data → Option A) → Items → Option (List A)
items_in read no_items = Some []
items_in read (item d ds) = do
  x ← read d
  xs ← items_in read ds
  Some (x ∷ xs)

unfoldable pub list_in : {A : Type 0} → (Data → Option A) → Data → Option (List A)
list_in read d = option_and_then (items_in read) (as_array d)

-- a natural number below 2^64, written without point and exponent
unfoldable pub number_in : Data → Option ℕ
number_in d = option_and_then as_u64 (as_number d)

-- what stands under a name
unfoldable pub field : {A : Type 0} → (Data → Option A) → List ℕ → Data → Option A
field read name d = option_and_then read (get name d)

-- a list under a name, empty where the name is absent
unfoldable pub list_or_empty : {A : Type 0} → (Data → Option A) → Option Data → Option (List A)
list_or_empty read None = Some []
list_or_empty read (Some d) = list_in read d
