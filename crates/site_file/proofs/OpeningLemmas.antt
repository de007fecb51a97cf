-- The opening of well formed entries is one that a store may begin with.
use Rattle.std.proofs.Common.{◌≡◌, ◌==◌, ◌<◌, ℕ, length, Bool, true, false, cond, List, [], ◌∷◌, Option, Some, None, IsSome, map, refl, ap, sym, subst, ◌∙◌, arith, suc}
use Rattle.std.specs.List.{All, Contains}
use Rattle.std.proofs.lemmas.List.{get_or_default}
use Rattle.std.proofs.lemmas.List.Elements.{All-map}
use Rattle.std.proofs.lemmas.Bool.{eqb-true}
use Rattle.signing_core.specs.Keys.{IsKeys, key_at}
use Rattle.session_codec.specs.SessionMap.{auth_members}
use Rattle.session_codec.specs.SessionText.{text_of}
use Rattle.session_codec.specs.declared.session_text.SessionKind.TheVariants.{Stored}
use Rattle.ledger_rows.specs.Admission.{auth_hash}
use Rattle.ledger_rows.specs.Backends.{path_of}
use Rattle.crypto_text.specs.TextList.{AreDifferent}
use Rattle.ledger_rows.specs.Opening.{IsLoginText, IsOpening, IsOpeningSession, keys_of_sessions}
use Rattle.ledger_rows.specs.Tables.{user_of}
use Rattle.ledger_rows.specs.declared.rows.Backend.{Backend}
use Rattle.ledger_rows.specs.declared.rows.Opening.{Opening}
use Rattle.ledger_rows.specs.declared.rows.UserRow.{UserRow}
use Rattle.site_file.specs.OpeningForm.{AreEntries, IsSessionEntry, backend_at, keys_of_entries, opening_from, password_of, session_row}
use Rattle.site_file.specs.declared.entries.Entries.{Entries}
use Rattle.site_file.specs.declared.entries.SessionEntry.{SessionEntry}

-- the user that is found is one of them, and has the id
abbrev IsFound : List UserRow → ℕ → UserRow → Type 0
IsFound users id user = Contains users user × (user.id ≡ id)

found_first : (row : UserRow) (rows : List UserRow) (id : ℕ) (user : UserRow) (same : Bool) → (row.id == id) ≡ same
    → (user_of rows id ≡ Some user → IsFound rows id user) → cond same (Some row) (user_of rows id) ≡ Some user → IsFound (row ∷ rows) id user
found_first row rows id user true same in_others found =
    let here : row ≡ user = cc in ((0, omega arith, here), ap (λ (r : UserRow). r.id) (sym here) ∙ eqb-true row.id id same)
found_first row rows id user false same in_others found =
    let in_rest = in_others found in ((suc in_rest.0.0, omega (arith, in_rest.0.1), in_rest.0.2), in_rest.1)

user_of-Some : (users : List UserRow) (id : ℕ) (user : UserRow) → user_of users id ≡ Some user → IsFound users id user
user_of-Some [] id user found = absurd (cc found)
user_of-Some (row ∷ rows) id user found = found_first row rows id user (row.id == id) refl (user_of-Some rows id user) found

key-held : (keys : List (List ℕ)) (at : ℕ) → at < length keys → Contains keys (key_at keys at)
key-held keys at lt = (at, lt, get_or_default keys at (key_at keys at) [] lt)

-- a session's text is that of the login of the user who is found, by the backend that it names
login_text-found : (opening : Opening) (backends : List Backend) (entry : SessionEntry) (found : Option UserRow)
    → IsSessionEntry opening.keys backends opening.users entry → IsSome found
    → user_of opening.users entry.user ≡ found
    → (let key = key_at opening.keys entry.under in
    IsLoginText opening (text_of Stored (auth_members entry.user (path_of (backend_at backends entry.backend)) (auth_hash (password_of found) key)) (key ∷ []) entry.began))
login_text-found opening backends entry None form some is = absurd (cc some)
login_text-found opening backends entry (Some user) form some is =
    let key = key_at opening.keys entry.under in
    let listed = user_of-Some opening.users entry.user user is in record {
      user = user;
      backend = backend_at backends entry.backend;
      key = key;
      moment = entry.began;
      listed = listed.0;
      held = key-held opening.keys entry.under form.under;
      began = form.began;
      whole = ap (λ id. text_of Stored (auth_members id (path_of (backend_at backends entry.backend)) (auth_hash user.password key)) (key ∷ []) entry.began) (sym listed.1);
    }

session_row-form : (opening : Opening) (backends : List Backend) (entry : SessionEntry) → IsSessionEntry opening.keys backends opening.users entry
    → IsOpeningSession opening (session_row opening.keys backends opening.users entry)
unfolding session_row
session_row-form opening backends entry form = record {
  key = form.key;
  expire = form.expire;
  text = login_text-found opening backends entry (user_of opening.users entry.user) form form.user refl;
}

session_rows-form : (opening : Opening) (backends : List Backend) (entries : List SessionEntry) → All (IsSessionEntry opening.keys backends opening.users) entries
    → All (IsOpeningSession opening) (map (session_row opening.keys backends opening.users) entries)
session_rows-form opening backends entries form =
    All-map (IsOpeningSession opening) (session_row opening.keys backends opening.users) entries (λ k d lt. session_row-form opening backends _ (form k d lt))

session_rows-keys : (keys : List (List ℕ)) (backends : List Backend) (users : List UserRow) (entries : List SessionEntry)
    → keys_of_sessions (map (session_row keys backends users) entries) ≡ keys_of_entries entries
unfolding session_row
session_rows-keys keys backends users [] = refl
session_rows-keys keys backends users (entry ∷ entries) = ap (λ rest. entry.key ∷ rest) (session_rows-keys keys backends users entries)

pub opening_from-form : (keys : List (List ℕ)) (backends : List Backend) (entries : Entries) → IsKeys keys → AreEntries keys backends entries
    → IsOpening (opening_from keys backends entries)
unfolding opening_from
opening_from-form keys backends entries is_keys form = record {
  keys = is_keys;
  users = form.users;
  groups = form.groups;
  perms = form.perms;
  session_keys = subst AreDifferent (sym (session_rows-keys keys backends entries.users entries.sessions)) form.sessions.session_keys;
  sessions = session_rows-form (opening_from keys backends entries) backends entries.sessions form.sessions.rows;
}
