-- `/session/`: the entries of one's own session. GET and HEAD list them; POST sets one. This project's own; a name that
-- begins with `_` is the server's, as with Django's `_auth_user_id`.
use Rattle.std.specs.Prelude.{ℕ, ◌+◌, ◌==◌, Bool, true, false, ◌&&◌, ◌||◌, not, nat_lt, bytes_eq, if◌then◌else◌, is_some, List, [], ◌∷◌, ◌++◌, length, Option, Some, None, codes}
use Rattle.std.specs.Char.{is_ascii_graphic}
use Rattle.std.specs.List.{list_all}
use Rattle.crypto_text.specs.Numeral.{positive_of}
use Rattle.serde_json.specs.Data.{Members, no_members, member, number, put, string, unsigned}
use Rattle.serde_json.specs.Find.{get_member}
use Rattle.serde_json.specs.Data.{Data}
use Rattle.ascii_json.specs.AsciiJson.{json_of}
use Rattle.http_edge.specs.declared.form_field.Field.{Field}
use Rattle.session_codec.specs.SessionMap.{expiry_name}
use Rattle.auth_backends.specs.declared.session_box.SessionBox.{SessionBox}
use Rattle.middleware_chain.specs.Fields.{last_value}
use Rattle.middleware_chain.specs.Page.{line}
use Rattle.account_views.specs.Page.{form_page, text_page}
use Rattle.account_views.specs.declared.call.Call.{Call}
use Rattle.account_views.specs.declared.page.Viewed.{Viewed}

-- ---- the list

abbrev pub is_private : List ℕ → Bool
is_private [] = false
is_private (first ∷ rest) = first == 95

-- an entry's line: its name and its value as JSON text
abbrev pub entry_line : List ℕ → Data → List ℕ
entry_line name value = if is_private name then [] else name ++ codes "=" ++ line (json_of value)

-- the lines of all, in the order of the names' bytes
abbrev pub entry_lines : Members → List ℕ
entry_lines no_members = []
entry_lines (member name value others) = entry_line name value ++ entry_lines others

abbrev pub listed : List ℕ → Option (List ℕ) → SessionBox → Viewed
listed draw secret session = record { page = form_page draw secret (entry_lines session.map); session = session }

-- ---- the form

-- a visible ASCII character but `=`
abbrev pub is_name_byte : ℕ → Bool
is_name_byte c = is_ascii_graphic c && not (c == 61)

-- 1 to 100 of them, the first no `_`
unfoldable pub is_entry_name : List ℕ → Bool
is_entry_name name = nat_lt 0 (length name) && (nat_lt (length name) 101 && (not (is_private name) && list_all is_name_byte name))

-- how many entries a session has beside the server's
abbrev pub entry_count : Members → ℕ
entry_count no_members = 0
entry_count (member name value others) = (if is_private name then 0 else 1) + entry_count others

-- the name is there, or there are fewer than 64
unfoldable pub has_room : List ℕ → Members → Bool
has_room name map = is_some (get_member name map) || nat_lt (entry_count map) 64

-- a decimal number of at most 10 digits, without a leading zero
unfoldable pub seconds_of : List ℕ → Option ℕ
seconds_of text = if bytes_eq text (codes "0") then Some 0 else (if nat_lt 10 (length text) then None else positive_of text)

-- how long the session is to last, where it is said
unfoldable pub is_expiry : List ℕ → Bool
is_expiry text = (length text == 0) || is_some (seconds_of text)

-- the entry may be set: at most 4,096 bytes of value
abbrev pub is_entry : List ℕ → List ℕ → List ℕ → Members → Bool
is_entry name value expiry map = is_entry_name name && (nat_lt (length value) 4097 && (has_room name map && is_expiry expiry))

abbrev pub with_expiry : Option ℕ → Members → Members
with_expiry None map = map
with_expiry (Some seconds) map = put expiry_name (number (unsigned seconds)) map

-- the session with an entry, and with a new duration where one is said
abbrev pub with_entry : List ℕ → List ℕ → List ℕ → SessionBox → SessionBox
with_entry name value expiry session =
    record session { map = with_expiry (seconds_of expiry) (put name (string value) session.map); modified = true }

abbrev pub entered : List ℕ → List ℕ → List ℕ → SessionBox → Viewed
entered name value expiry session =
    if is_entry name value expiry session.map
    then record { page = text_page 200 (codes "set\n"); session = with_entry name value expiry session }
    else record { page = text_page 400 (codes "error=bad-entry\n"); session = session }

abbrev pub entered_form : List Field → SessionBox → Viewed
entered_form fields session = entered (last_value (codes "name") fields) (last_value (codes "value") fields) (last_value (codes "expiry") fields) session

-- ---- the route

abbrev pub session_entries : List ℕ → Call → SessionBox → Viewed
session_entries draw call session = if call.post then entered_form call.fields session else listed draw call.secret session
