-- User ids in reset links, as Django 4.2 writes them: `urlsafe_base64_encode(force_bytes(user.pk))`.
use Rattle.std.specs.Prelude.{◌≡◌, ℕ, ◌^◌, ◌<◌, ◌≤◌, List}
use Rattle.std.specs.Fmt.{decimal}
use Rattle.crypto_text.specs.Rfc4648.{base64url}

-- a number that can be a user's id: 1 to 2^64 - 1
abbrev pub IsUserId : ℕ → Type 0
IsUserId id = (1 ≤ id) × (id < 2 ^ 64)

-- the base64url of the decimal id
unfoldable pub uid_text : ℕ → List ℕ
uid_text id = base64url (decimal id)

-- the text is the one of this id
abbrev pub IsUidText : List ℕ → ℕ → Type 0
IsUidText text id = IsUserId id × (text ≡ uid_text id)
