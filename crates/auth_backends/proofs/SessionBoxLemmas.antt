-- What changes of a session's map do to its login and to its other entries.
use Rattle.std.proofs.Common.{◌≡◌, ◌≢◌, ◌⊎◌, inl, inr, ℕ, ◌^◌, ◌<◌, ◌≤◌, List, [], Bool, true, false, Option, Some, None, length, decimal, option_and_then, option_map, unwrap_or, refl, sym, ap, ◌∙◌, arith}
use Rattle.std.specs.Prelude.{bytes_eq, not, ◌&&◌, ◌||◌, is_some}
use Rattle.std.proofs.lemmas.Option.{same_Some}
use Rattle.std.proofs.lemmas.Slice.Eq.{bytes_eq-Decides}
use Rattle.serde_json.specs.Data.{Data, Members, put, string}
use Rattle.serde_json.specs.Find.{as_str, get_member}
use Rattle.serde_json.proofs.Views.{get_member-put, get_member-put_other}
use Rattle.crypto_text.specs.Numeral.{positive_of}
use Rattle.session_codec.specs.SessionMap.{SessionAuth, auth_of, backend_name, hash_name, text_at, user_id_name}
use Rattle.session_codec.proofs.AuthLemmas.{auth_of-Some, positive_of-Some}
use Rattle.auth_backends.specs.SessionBox.{has_user, is_id, is_login, keeps_entries, kept_hash, kept_map, login_changed, with_names}
use Rattle.auth_backends.specs.Laws.{IsFor, IsLoginOf, IsOtherName, LoginIsRead, LoginKeepsOwnEntries, LogoutLeavesNothing, RehashKeepsLogin}
use Rattle.ledger_rows.specs.Backends.{path_of}
use Rattle.ledger_rows.specs.declared.reply.UserRead.{UserRead}

-- ---- the names differ, in their lengths

user_is_no_backend : user_id_name ≢ backend_name
unfolding user_id_name backend_name
user_is_no_backend same = omega (arith, ap length same)

user_is_no_hash : user_id_name ≢ hash_name
unfolding user_id_name hash_name
user_is_no_hash same = omega (arith, ap length same)

backend_is_no_hash : backend_name ≢ hash_name
unfolding backend_name hash_name
backend_is_no_hash same = omega (arith, ap length same)

-- ---- one entry

text_at-put : (name text : List ℕ) (map : Members) → text_at name (put name (string text) map) ≡ Some text
text_at-put name text map = ap (option_and_then as_str) (get_member-put name (string text) map)

text_at-put_other : (name other text : List ℕ) (map : Members) → name ≢ other → text_at name (put other (string text) map) ≡ text_at name map
text_at-put_other name other text map differs = ap (option_and_then as_str) (get_member-put_other name other (string text) map differs)

-- ---- the three names

user_after : (id path hash : List ℕ) (map : Members) → text_at user_id_name (with_names id path hash map) ≡ Some id
user_after id path hash map =
    text_at-put_other user_id_name hash_name hash _ user_is_no_hash ∙ text_at-put_other user_id_name backend_name path _ user_is_no_backend ∙ text_at-put user_id_name id map

backend_after : (id path hash : List ℕ) (map : Members) → text_at backend_name (with_names id path hash map) ≡ Some path
backend_after id path hash map = text_at-put_other backend_name hash_name hash _ backend_is_no_hash ∙ text_at-put backend_name path _

hash_after : (id path hash : List ℕ) (map : Members) → text_at hash_name (with_names id path hash map) ≡ Some hash
hash_after id path hash map = text_at-put hash_name hash _

other_after : (id path hash name : List ℕ) (map : Members) → IsOtherName name → get_member name (with_names id path hash map) ≡ get_member name map
other_after id path hash name map other =
    get_member-put_other name hash_name (string hash) _ other.2 ∙ get_member-put_other name backend_name (string path) _ other.1 ∙ get_member-put_other name user_id_name (string id) map other.0

-- the login that the three names are read as
auth_after : (user : ℕ) (path hash : List ℕ) (map : Members) → 1 ≤ user → user < 2 ^ 64
    → auth_of (with_names (decimal user) path hash map) ≡ Some (record { user = user; backend = path; hash = hash })
auth_after user path hash map positive small =
    auth_of-Some (with_names (decimal user) path hash map) user path hash
    (ap (option_and_then positive_of) (user_after (decimal user) path hash map) ∙ positive_of-Some (decimal user) user (refl, positive, small))
    (backend_after (decimal user) path hash map)
    (ap (λ (o : Option (List ℕ)). unwrap_or o []) (hash_after (decimal user) path hash map))

pub login_is_read : LoginIsRead
login_is_read read backend session positive small = auth_after read.row.id (path_of backend) read.auth_hash _ positive small

-- ---- whose session it is

is_id-text : (id : List ℕ) (text : Option (List ℕ)) → is_id id text ≡ true → text ≡ Some id
is_id-text id None is = absurd (cc is)
is_id-text id (Some text) is = ap Some ((bytes_eq-Decides text id).0 is)

text-is_id : (id : List ℕ) (text : Option (List ℕ)) → text ≡ Some id → is_id id text ≡ true
text-is_id id text is = rw is ((bytes_eq-Decides id id).1 refl)

and_parts : (a b : Bool) → (a && b) ≡ true → (a ≡ true) × (b ≡ true)
and_parts true b is = (refl, is)
and_parts false b is = absurd (cc is)

and_true : (a b : Bool) → a ≡ true → b ≡ true → (a && b) ≡ true
and_true a b left right = rw (left, right) refl

login_is_of : (read : UserRead) (map : Members) → is_login (decimal read.row.id) read.auth_hash map ≡ true → IsLoginOf read map
login_is_of read map is =
    let parts = and_parts (is_id (decimal read.row.id) (text_at user_id_name map)) (bytes_eq (kept_hash map) read.auth_hash) is in
    (is_id-text (decimal read.row.id) (text_at user_id_name map) parts.0, (bytes_eq-Decides (kept_hash map) read.auth_hash).0 parts.1)

of_is_login : (read : UserRead) (map : Members) → IsLoginOf read map → is_login (decimal read.row.id) read.auth_hash map ≡ true
of_is_login read map is =
    and_true (is_id (decimal read.row.id) (text_at user_id_name map)) (bytes_eq (kept_hash map) read.auth_hash)
    (text-is_id (decimal read.row.id) (text_at user_id_name map) is.0) ((bytes_eq-Decides (kept_hash map) read.auth_hash).1 is.1)

no_user : (found : Option Data) → not (is_some found) ≡ true → found ≡ None
no_user None is = refl
no_user (Some value) is = absurd (cc is)

or_parts : (a b : Bool) → (a || b) ≡ true → (a ≡ true) ⊎ (b ≡ true)
or_parts true b is = inl refl
or_parts false b is = inr is

or_right : (a b : Bool) → b ≡ true → (a || b) ≡ true
or_right true b is = refl
or_right false b is = is

for-keeps : (read : UserRead) (map : Members) → IsFor read map → keeps_entries read map ≡ true
for-keeps read map (inl none) = rw none refl
for-keeps read map (inr own) = or_right (not (has_user map)) (is_login (decimal read.row.id) read.auth_hash map) (of_is_login read map own)

keeps-for : (read : UserRead) (map : Members) → keeps_entries read map ≡ true → IsFor read map
keeps-for read map is = elim (or_parts (not (has_user map)) (is_login (decimal read.row.id) read.auth_hash map) is) [
  | inl none ↦ inl (no_user (get_member user_id_name map) none)
  | inr own ↦ inr (login_is_of read map own)
]

-- ---- what a login keeps

kept_where : (kept : Bool) (name : List ℕ) (map : Members) → kept ≡ true → get_member name (kept_map kept map) ≡ get_member name map
kept_where kept name map is = rw is refl

gone_where : (kept : Bool) (name : List ℕ) (map : Members) → (kept ≡ true → ⊥) → get_member name (kept_map kept map) ≡ None
gone_where true name map not_kept = absurd (not_kept refl)
gone_where false name map not_kept = refl

pub login_keeps_own_entries : LoginKeepsOwnEntries
login_keeps_own_entries read backend session name other =
    let after : get_member name (login_changed read backend session).map ≡ get_member name (kept_map (keeps_entries read session.map) session.map) =
    other_after (decimal read.row.id) (path_of backend) read.auth_hash name _ other in (
      λ own. after ∙ kept_where (keeps_entries read session.map) name session.map (for-keeps read session.map own),
      λ foreign. after ∙ gone_where (keeps_entries read session.map) name session.map (λ kept. foreign (keeps-for read session.map kept)),
    )

pub logout_leaves_nothing : LogoutLeavesNothing
unfolding auth_of
logout_leaves_nothing session name = (refl, refl)

-- ---- a new hash

-- a login is one of the three texts
abbrev auth_in : Option ℕ → Option (List ℕ) → List ℕ → Option SessionAuth
auth_in user backend hash = option_and_then (λ user. option_map (λ backend. record { user = user; backend = backend; hash = hash }) backend) user

auth_of-texts : (map : Members) → auth_of map ≡ auth_in (option_and_then positive_of (text_at user_id_name map)) (text_at backend_name map) (kept_hash map)
unfolding auth_of
auth_of-texts map = refl

with_hash : (user : Option ℕ) (backend : Option (List ℕ)) (hash new : List ℕ) (auth : SessionAuth) → auth_in user backend hash ≡ Some auth → auth_in user backend new ≡ Some (record auth { hash = new })
with_hash None backend hash new auth is = absurd (cc is)
with_hash (Some user) None hash new auth is = absurd (cc is)
with_hash (Some user) (Some backend) hash new auth is = ap (λ (a : SessionAuth). Some (record a { hash = new })) (same_Some _ _ is)

pub rehash_keeps_login : RehashKeepsLogin
rehash_keeps_login hash session auth is =
    let map = session.map in
    let after = put hash_name (string hash) map in
    let user : text_at user_id_name after ≡ text_at user_id_name map = text_at-put_other user_id_name hash_name hash map user_is_no_hash in
    let backend : text_at backend_name after ≡ text_at backend_name map = text_at-put_other backend_name hash_name hash map backend_is_no_hash in
    let kept : kept_hash after ≡ hash = ap (λ (o : Option (List ℕ)). unwrap_or o []) (text_at-put hash_name hash map) in
    auth_of-texts after
    ∙ ap (λ (o : Option (List ℕ)). auth_in (option_and_then positive_of o) (text_at backend_name after) (kept_hash after)) user
    ∙ ap (λ (o : Option (List ℕ)). auth_in (option_and_then positive_of (text_at user_id_name map)) o (kept_hash after)) backend
    ∙ ap (auth_in (option_and_then positive_of (text_at user_id_name map)) (text_at backend_name map)) kept
    ∙ with_hash (option_and_then positive_of (text_at user_id_name map)) (text_at backend_name map) (kept_hash map) hash auth (sym (auth_of-texts map) ∙ is)
