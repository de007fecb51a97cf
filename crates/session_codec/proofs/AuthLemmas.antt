-- What the login of a map is read from.
use Rattle.std.proofs.Common.{◌≡◌, ℕ, ◌^◌, ◌<◌, ◌≤◌, ◌==◌, if◌then◌else◌, List, [], None, Some, arith, decimal, option_and_then, refl, ap, ◌∙◌, unwrap_or}
use Rattle.std.proofs.lemmas.Bool.{ne_eqb}
use Rattle.std.proofs.lemmas.Option.{option_and_then_some}
use Rattle.crypto_text.specs.Numeral.{decimal_of, positive_of}
use Rattle.crypto_text.proofs.DecimalLemmas.{IsDecimal-found, decimal_of-Some}
use Rattle.serde_json.specs.Data.{Members, member, no_members, put, string}
use Rattle.session_codec.specs.SessionMap.{auth_members, auth_of, backend_name, hash_name, text_at, user_id_name}

-- ---- user ids

-- a text that says an id
abbrev pub SaysUser : List ℕ → ℕ → Type 0
SaysUser text user = (text ≡ decimal user) × (1 ≤ user) × (user < 2 ^ 64)

pub positive_of-Some : (text : List ℕ) (user : ℕ) → SaysUser text user → positive_of text ≡ Some user
unfolding positive_of
positive_of-Some text user says = let other = ne_eqb user 0 (λ zero. omega (arith, zero, says.1)) in rw (decimal_of-Some text user (says.0, says.2), other) refl

-- a number that is no zero is itself
positive : (n user : ℕ) → (if n == 0 then None else Some n) ≡ Some user → (1 ≤ n) × (n ≡ user)
positive n user is = grind arith

pub says_user : (text : List ℕ) (user : ℕ) → positive_of text ≡ Some user → SaysUser text user
unfolding positive_of
says_user text user is = option_and_then_some (λ n. if n == 0 then None else Some n) (decimal_of text) user is (λ n found id.
    let written = IsDecimal-found text n found in
    let kept = positive n user id in
    (written.0 ∙ ap decimal kept.1, omega (arith, kept), omega (arith, written.1, kept.1)))

-- ---- logins

pub auth_of-Some : (ms : Members) (user : ℕ) (backend hash : List ℕ) → option_and_then positive_of (text_at user_id_name ms) ≡ Some user → text_at backend_name ms ≡ Some backend
    → unwrap_or (text_at hash_name ms) [] ≡ hash → auth_of ms ≡ Some (record { user = user; backend = backend; hash = hash })
unfolding auth_of
auth_of-Some ms user backend hash is_user is_backend is_hash = rw (is_user, is_backend, is_hash) refl

pub auth_of-no_user : (ms : Members) → option_and_then positive_of (text_at user_id_name ms) ≡ None → auth_of ms ≡ None
unfolding auth_of
auth_of-no_user ms none = rw none refl

pub auth_of-no_backend : (ms : Members) (user : ℕ) → option_and_then positive_of (text_at user_id_name ms) ≡ Some user → text_at backend_name ms ≡ None → auth_of ms ≡ None
unfolding auth_of
auth_of-no_backend ms user is_user none = rw (is_user, none) refl

-- the three names, put in one after another
pub auth_members-put : (user : ℕ) (backend hash id : List ℕ) → id ≡ decimal user
    → put hash_name (string hash) (put backend_name (string backend) (put user_id_name (string id) no_members)) ≡ auth_members user backend hash
unfolding user_id_name backend_name hash_name
auth_members-put user backend hash id is = ap (λ (t : List ℕ). member backend_name (string backend) (member hash_name (string hash) (member user_id_name (string t) no_members))) is

pub auth_members_tell : (user : ℕ) (backend hash : List ℕ) → 1 ≤ user → user < 2 ^ 64 → auth_of (auth_members user backend hash) ≡ Some (record { user = user; backend = backend; hash = hash })
unfolding user_id_name backend_name hash_name
auth_members_tell user backend hash some small =
    auth_of-Some (auth_members user backend hash) user backend hash (positive_of-Some (decimal user) user (refl, some, small)) refl refl
