-- Which changes of a session's map leave its login.
use Rattle.std.proofs.Common.{◌≡◌, ℕ, Bool, true, false, ◌&&◌, not, slice_index, List, Option, Some, None, length, unwrap_or, refl, sym, ap, ◌∙◌, arith}
use Rattle.serde_json.specs.Data.{Data, Members, no_members, number, put, string, unsigned}
use Rattle.serde_json.specs.Find.{get_member}
use Rattle.serde_json.proofs.Views.{get_member-put_other}
use Rattle.session_codec.specs.SessionMap.{IsSession, auth_of, backend_name, expiry_name, hash_name, user_id_name}
use Rattle.session_codec.specs.SessionText.{payload_of}
use Rattle.session_codec.proofs.DecodedLemmas.{payload_reads_back}
use Rattle.auth_backends.specs.Laws.{IsOtherName}
use Rattle.auth_backends.specs.declared.session_box.SessionBox.{SessionBox}
use Rattle.account_views.specs.SessionEntries.{entered, is_entry, is_entry_name, is_private, seconds_of, session_entries, with_entry, with_expiry}
use Rattle.account_views.specs.Visit.{map_in}
use Rattle.account_views.specs.declared.call.Call.{Call}
use Rattle.account_views.specs.declared.page.Viewed.{Viewed}
use Rattle.account_views.proofs.WalkLemmas.{either, either_where}

-- the map of a payload is the session's again
pub map_in-payload_of : (map : Members) → IsSession map → map_in (payload_of map) ≡ map
map_in-payload_of map session = ap (λ (found : Option Members). unwrap_or found no_members) (payload_reads_back map session)

-- another name leaves the login
pub auth_of-other : (name : List ℕ) (value : Data) (map : Members) → IsOtherName name → auth_of (put name value map) ≡ auth_of map
unfolding auth_of
auth_of-other name value map other =
    let user : get_member user_id_name (put name value map) ≡ get_member user_id_name map = get_member-put_other user_id_name name value map (λ same. other.0 (sym same)) in
    let backend : get_member backend_name (put name value map) ≡ get_member backend_name map = get_member-put_other backend_name name value map (λ same. other.1 (sym same)) in
    let hash : get_member hash_name (put name value map) ≡ get_member hash_name map = get_member-put_other hash_name name value map (λ same. other.2 (sym same)) in
    rw (user, backend, hash) refl

expiry-other : IsOtherName expiry_name
unfolding expiry_name user_id_name backend_name hash_name
expiry-other = (
  λ same. omega (arith, ap length same),
  λ same. omega (arith, ap length same),
  λ same. omega (arith, ap (λ (name : List ℕ). slice_index name 1) same),
)

-- the names of a login begin with `_`
public-other : (name : List ℕ) → is_private name ≡ false → IsOtherName name
unfolding user_id_name backend_name hash_name
public-other name is = (
  λ same. let private : is_private name ≡ true = ap is_private same in cc,
  λ same. let private : is_private name ≡ true = ap is_private same in cc,
  λ same. let private : is_private name ≡ true = ap is_private same in cc,
)

and_left : (a b : Bool) → (a && b) ≡ true → a ≡ true
and_left true b is = refl
and_left false b is = is

and_right : (a b : Bool) → (a && b) ≡ true → b ≡ true
and_right true b is = is
and_right false b is = absurd (cc is)

not_true : (b : Bool) → not b ≡ true → b ≡ false
not_true true is = absurd (cc is)
not_true false is = refl

entry_name-public : (name : List ℕ) → is_entry_name name ≡ true → is_private name ≡ false
unfolding is_entry_name
entry_name-public name is = not_true (is_private name) (and_left _ _ (and_right _ _ (and_right _ _ is)))

with_expiry-login : (seconds : Option ℕ) (map : Members) → auth_of (with_expiry seconds map) ≡ auth_of map
with_expiry-login None map = refl
with_expiry-login (Some n) map = auth_of-other expiry_name (number (unsigned n)) map expiry-other

with_entry-login : (name value expiry : List ℕ) (session : SessionBox) → is_entry_name name ≡ true → auth_of (with_entry name value expiry session).map ≡ auth_of session.map
with_entry-login name value expiry session is =
    with_expiry-login (seconds_of expiry) (put name (string value) session.map) ∙ auth_of-other name (string value) session.map (public-other name (entry_name-public name is))

-- the session that a view leaves has the login of this one
HasLoginOf : SessionBox → Viewed → Type 0
HasLoginOf session v = auth_of v.session.map ≡ auth_of session.map

entered-login : (name value expiry : List ℕ) (session : SessionBox) → HasLoginOf session (entered name value expiry session)
unfolding HasLoginOf
entered-login name value expiry session =
    either_where (HasLoginOf session) (is_entry name value expiry session.map) _ _
    (λ is. with_entry-login name value expiry session (and_left (is_entry_name name) _ is)) refl

pub session_entries-login : (draw : List ℕ) (call : Call) (session : SessionBox) → auth_of (session_entries draw call session).session.map ≡ auth_of session.map
unfolding HasLoginOf
session_entries-login draw call session = either (HasLoginOf session) call.post _ _ (entered-login _ _ _ session) refl
