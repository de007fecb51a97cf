-- What operations do to the signing keys of a store: Django's rotation of SECRET_KEY through SECRET_KEY_FALLBACKS.
use Rattle.std.specs.Prelude.{◌||◌, ℕ, Bool, true, false, not, nat_lt, List, [], ◌∷◌, length, bytes_eq}
use Rattle.signing_core.specs.Keys.{rotated}
use Rattle.ledger_rows.specs.declared.reply.Reply.{Reply}
use Rattle.ledger_rows.specs.declared.reply.Reply.TheVariants.{Done, KeyHeld, TooManyKeys}

-- whether a key is among the keys
abbrev pub is_held : List (List ℕ) → List ℕ → Bool
is_held [] key = false
is_held (first ∷ rest) key = bytes_eq first key || is_held rest key

-- whether there are as many keys as there may be
abbrev pub is_full : List (List ℕ) → Bool
is_full keys = not (nat_lt (length keys) 16)

-- the keys after a rotation, by whether the key is held, and whether there is room
abbrev pub keys_by : List (List ℕ) → List ℕ → Bool → Bool → List (List ℕ)
keys_by keys key true full = keys
keys_by keys key false true = keys
keys_by keys key false false = rotated keys key

-- the reply to that
abbrev pub rotate_reply : Bool → Bool → Reply
rotate_reply true full = KeyHeld
rotate_reply false true = TooManyKeys
rotate_reply false false = Done
