-- The table of verdicts, read backwards and forwards from its last line.
use Rattle.std.proofs.Common.{◌≡◌, ◌<◌, ◌≤◌, ℕ, suc, List, [], ◌∷◌, Bool, true, false, Option, Some, None, Contains, length, sym, ap, ◌∙◌, refl, subst, arith}
use Rattle.std.specs.Prelude.{◌≢◌, Result, Ok, Err, bytes_eq, if◌then◌else◌, nat_lt}
use Rattle.std.specs.List.{position_or_len}
use Rattle.std.proofs.lemmas.Bool.{le-ltb, lt-ltb, ltb-false, ltb-true}
use Rattle.std.proofs.lemmas.List.Quantifiers.{position-Some}
use Rattle.std.proofs.lemmas.List.Sums.{position_or_len_is}
use Rattle.std.proofs.lemmas.Map.Made.{Contains-tail}
use Rattle.std.proofs.lemmas.Slice.Eq.{bytes_eq-Decides}
use Rattle.session_codec.proofs.DecodedLemmas.{decoded-encodes, encodes-decoded}
use Rattle.serde_json.specs.Data.{Members}
use Rattle.signing_core.specs.Keys.{key_at}
use Rattle.session_codec.specs.SessionMap.{SessionAuth, auth_of}
use Rattle.session_codec.specs.SessionText.{Encodes, decoded}
use Rattle.session_codec.specs.declared.session_text.DecodeFault.{DecodeFault}
use Rattle.session_codec.specs.declared.session_text.SessionKind.TheVariants.{Stored}
use Rattle.ledger_rows.specs.Admission.{IsAdmitted, admits, auth_hash, auth_in, backend_of, found_map, found_text, found_user, is_short, key_index, live_text, map_in, named_user, session_map, session_text, verdict_of, verdict_on, verdict_on_auth, verdict_on_backend, verdict_on_hash, verdict_on_user}
use Rattle.ledger_rows.specs.Backends.{path_of}
use Rattle.ledger_rows.specs.Laws.{LoadAdmitsExactly}
use Rattle.ledger_rows.specs.State.{State, rows_of}
use Rattle.ledger_rows.specs.Tables.{session_of, user_of}
use Rattle.ledger_rows.specs.declared.rows.Backend.{Backend}
use Rattle.ledger_rows.specs.declared.rows.Backend.TheVariants.{Model, AllowAll}
use Rattle.ledger_rows.specs.declared.rows.Cfg.{Cfg}
use Rattle.ledger_rows.specs.declared.rows.SessionRow.{SessionRow}
use Rattle.ledger_rows.specs.declared.rows.UserRow.{UserRow}
use Rattle.ledger_rows.specs.declared.verdict.Verdict.{Verdict}
use Rattle.ledger_rows.specs.declared.verdict.Verdict.TheVariants.{NoCookie, NotStored, Inactive, Admitted}

-- ---- backwards: what holds where a verdict admits

on_hash : (found : Option ℕ) (index : ℕ) → verdict_on_hash found ≡ Admitted index → found ≡ Some index
on_hash None index is = absurd (cc is)
on_hash (Some place) index is = cc is

on_test : (admits : Bool) (verdict : Verdict) (index : ℕ) → (if admits then verdict else Inactive) ≡ Admitted index → (admits ≡ true) × (verdict ≡ Admitted index)
on_test true verdict index is = (refl, is)
on_test false verdict index is = absurd (cc is)

-- what the last lines found
record IsJudged (backends : List Backend) (keys : List (List ℕ)) (auth : SessionAuth) (user : UserRow) (index : ℕ) : Type 0 where
  backend : Backend
  configured : backend_of backends auth.backend ≡ Some backend
  admitted : admits backend user ≡ true
  hash : key_index keys user.password auth.hash ≡ Some index

on_user : (backend : Backend) (keys : List (List ℕ)) (hash : List ℕ) (user : Option UserRow) (row : UserRow) (index : ℕ)
    → verdict_on_user backend keys hash user ≡ Admitted index → user ≡ Some row
    → (admits backend row ≡ true) × (key_index keys row.password hash ≡ Some index)
on_user backend keys hash None row index is found = absurd (cc found)
on_user backend keys hash (Some user) row index is found =
    let same : user ≡ row = cc found in
    let parts = on_test (admits backend user) (verdict_on_hash (key_index keys user.password hash)) index is in
    (ap (admits backend) (sym same) ∙ parts.0, ap (λ (u : UserRow). key_index keys u.password hash) (sym same) ∙ on_hash (key_index keys user.password hash) index parts.1)

on_backend : (found : Option Backend) (keys : List (List ℕ)) (hash : List ℕ) (user : Option UserRow) (index : ℕ)
    → verdict_on_backend found keys hash user ≡ Admitted index
    → (backend : Backend) × (found ≡ Some backend) × (verdict_on_user backend keys hash user ≡ Admitted index)
on_backend None keys hash user index is = absurd (cc is)
on_backend (Some backend) keys hash user index is = (backend, refl, is)

on_auth : (backends : List Backend) (keys : List (List ℕ)) (auth : Option SessionAuth) (user : Option UserRow) (row : UserRow) (index : ℕ)
    → verdict_on_auth backends keys auth user ≡ Admitted index → user ≡ Some row
    → (login : SessionAuth) × (auth ≡ Some login) × IsJudged backends keys login row index
on_auth backends keys None user row index is found = absurd (cc is)
on_auth backends keys (Some login) user row index is found =
    let backend = on_backend (backend_of backends login.backend) keys login.hash user index is in
    let parts = on_user backend.0 keys login.hash user row index backend.2 found in
    (login, refl, record { backend = backend.0; configured = backend.1; admitted = parts.0; hash = parts.1 })

on_short : (short : Bool) (index : ℕ) → ¬ ((if short then NoCookie else NotStored) ≡ Admitted index)
on_short true index is = absurd (cc is)
on_short false index is = absurd (cc is)

on_text : (backends : List Backend) (keys : List (List ℕ)) (cookie text : Option (List ℕ)) (map : Option Members) (user : Option UserRow) (row : UserRow) (index : ℕ)
    → verdict_on backends keys cookie text map user ≡ Admitted index → user ≡ Some row
    → (t : List ℕ) × (m : Members) × (login : SessionAuth) × (text ≡ Some t) × (map ≡ Some m) × (auth_of m ≡ Some login) × IsJudged backends keys login row index
on_text backends keys cookie None map user row index is found = absurd (on_short (is_short cookie) index is)
on_text backends keys cookie (Some t) None user row index is found = absurd (cc is)
on_text backends keys cookie (Some t) (Some m) user row index is found =
    let login = on_auth backends keys (auth_of m) user row index is found in (t, m, login.0, refl, refl, login.1, login.2)

-- ---- what is stored

on_live : (now : ℕ) (row : Option SessionRow) (text : List ℕ) → live_text now row ≡ Some text
    → (session : SessionRow) × (row ≡ Some session) × (now < session.expire) × (session.text ≡ text)
on_live now None text is = absurd (cc is)
on_live now (Some session) text is = on_expire (nat_lt now session.expire) refl is
  where
    on_expire : (live : Bool) → nat_lt now session.expire ≡ live → (if live then Some session.text else None) ≡ Some text
        → (found : SessionRow) × (Some session ≡ Some found) × (now < found.expire) × (found.text ≡ text)
    on_expire true lives is = (session, refl, ltb-true now session.expire lives, cc is)
    on_expire false lives is = absurd (cc is)

-- what is stored under a cookie
record IsStored (sessions : List SessionRow) (cookie : Option (List ℕ)) (now : ℕ) (text : List ℕ) : Type 0 where
  key : List ℕ
  row : SessionRow
  cookie_is : cookie ≡ Some key
  long : 8 ≤ length key
  stored : session_of sessions key ≡ Some row
  unexpired : now < row.expire
  text_is : row.text ≡ text

on_stored : (sessions : List SessionRow) (cookie : Option (List ℕ)) (now : ℕ) (text : List ℕ) → session_text sessions cookie now ≡ Some text → IsStored sessions cookie now text
on_stored sessions None now text is = absurd (cc is)
on_stored sessions (Some key) now text is = on_length (nat_lt (length key) 8) refl is
  where
    on_length : (short : Bool) → nat_lt (length key) 8 ≡ short → (if short then None else live_text now (session_of sessions key)) ≡ Some text
        → IsStored sessions (Some key) now text
    on_length true shorter is = absurd (cc is)
    on_length false longer is =
        let live = on_live now (session_of sessions key) text is in
        record {
          key = key;
          row = live.0;
          cookie_is = refl;
          long = ltb-false (length key) 8 longer;
          stored = live.1;
          unexpired = live.2;
          text_is = live.3;
        }

on_map : (keys : List (List ℕ)) (now : ℕ) (text : List ℕ) (read : Result Members DecodeFault) (map : Members) → map_in read ≡ Some map → read ≡ Ok map
on_map keys now text (Err fault) map is = absurd (cc is)
on_map keys now text (Ok found) map is = cc is

-- a backend that was found is configured, and has the path
on_path : (backends : List Backend) (path : List ℕ) (backend : Backend) → backend_of backends path ≡ Some backend → Contains backends backend × (path_of backend ≡ path)
on_path [] path backend is = absurd (cc is)
on_path (first ∷ backends) path backend is = on_first (bytes_eq (path_of first) path) refl is (on_path backends path backend)
  where
    on_first : (fits : Bool) → bytes_eq (path_of first) path ≡ fits → (if fits then Some first else backend_of backends path) ≡ Some backend
        → (backend_of backends path ≡ Some backend → Contains backends backend × (path_of backend ≡ path))
        → Contains (first ∷ backends) backend × (path_of backend ≡ path)
    on_first true fits is later =
        let same : first ≡ backend = cc is in
        subst (λ (b : Backend). Contains (first ∷ backends) b × (path_of b ≡ path)) same
        ((0, omega arith, refl), (bytes_eq-Decides (path_of first) path).0 fits)
    on_first false other is later = let rest = later is in ((suc rest.0.0, omega (arith, rest.0.1), rest.0.2), rest.1)

-- two backends of one path are the same
path_tells_backend : (first second : Backend) → path_of first ≡ path_of second → first ≡ second
unfolding path_of
path_tells_backend Model Model is = refl
path_tells_backend Model AllowAll is = let lengths : 41 ≡ 54 = ap length is in absurd (omega (arith, lengths))
path_tells_backend AllowAll Model is = let lengths : 54 ≡ 41 = ap length is in absurd (omega (arith, lengths))
path_tells_backend AllowAll AllowAll is = refl

-- the backend of a path is found where it is configured
to_path : (backends : List Backend) (backend : Backend) → Contains backends backend → backend_of backends (path_of backend) ≡ Some backend
to_path [] backend found = absurd (omega (arith, found.1))
to_path (first ∷ backends) backend found = on_first (bytes_eq (path_of first) (path_of backend)) refl (to_path backends backend)
  where
    on_first : (fits : Bool) → bytes_eq (path_of first) (path_of backend) ≡ fits → (Contains backends backend → backend_of backends (path_of backend) ≡ Some backend)
        → (if fits then Some first else backend_of backends (path_of backend)) ≡ Some backend
    on_first true fits later = ap Some (path_tells_backend first backend ((bytes_eq-Decides (path_of first) (path_of backend)).0 fits))
    on_first false other later = later (Contains-tail first backends backend (λ same. cc (other, (bytes_eq-Decides (path_of first) (path_of backend)).1 (ap path_of same))) found)

not_true : (b : Bool) → ¬ (b ≡ true) → b ≡ false
not_true true other = absurd (other refl)
not_true false other = refl

-- the hash is that of the key at this place, and of none before
on_key : (keys : List (List ℕ)) (password hash : List ℕ) (index : ℕ) → key_index keys password hash ≡ Some index
    → (index < length keys) × (auth_hash password (key_at keys index) ≡ hash) × ((place : ℕ) → place < index → auth_hash password (key_at keys place) ≢ hash)
on_key keys password hash index is =
    let found = position-Some (λ key. bytes_eq (auth_hash password key) hash) keys index [] is in (
      found.0,
      (bytes_eq-Decides (auth_hash password (key_at keys index)) hash).0 found.1,
      λ place before same. cc (found.2 place before, (bytes_eq-Decides (auth_hash password (key_at keys place)) hash).1 same),
    )

-- and the other way round
pub key_is_first : (keys : List (List ℕ)) (password hash : List ℕ) (index : ℕ) → index < length keys → auth_hash password (key_at keys index) ≡ hash
    → ((place : ℕ) → place < index → auth_hash password (key_at keys place) ≢ hash) → key_index keys password hash ≡ Some index
key_is_first keys password hash index present same first =
    let p : List ℕ → Bool = λ key. bytes_eq (auth_hash password key) hash in
    let place : position_or_len p keys ≡ index
    = position_or_len_is p keys index [] (omega (arith, present)) (λ k before. not_true (p (key_at keys k)) (λ passes. first k before ((bytes_eq-Decides (auth_hash password (key_at keys k)) hash).0 passes)))
    (λ _. (bytes_eq-Decides (auth_hash password (key_at keys index)) hash).1 same) in
    rw place (rw (lt-ltb index (length keys) present) refl)

-- without such a key there is no place
pub no_key_fits : (keys : List (List ℕ)) (password hash : List ℕ) → ((place : ℕ) → place < length keys → auth_hash password (key_at keys place) ≢ hash)
    → key_index keys password hash ≡ None
no_key_fits keys password hash none =
    let p : List ℕ → Bool = λ key. bytes_eq (auth_hash password key) hash in
    let place : position_or_len p keys ≡ length keys
    = position_or_len_is p keys (length keys) [] (omega arith) (λ k before. not_true (p (key_at keys k)) (λ passes. none k before ((bytes_eq-Decides (auth_hash password (key_at keys k)) hash).0 passes)))
    (λ within. absurd (omega (arith, within))) in
    rw place (rw (le-ltb (length keys) (length keys) (omega arith)) refl)

-- the stored hash is the one under the key that admits
pub admitted_hash : (backends : List Backend) (keys : List (List ℕ)) (auth : SessionAuth) (user : UserRow) (index : ℕ)
    → verdict_on_auth backends keys (Some auth) (Some user) ≡ Admitted index → auth_hash user.password (key_at keys index) ≡ auth.hash
admitted_hash backends keys auth user index is =
    let backend = on_backend (backend_of backends auth.backend) keys auth.hash (Some user) index is in
    (on_key keys user.password auth.hash index (on_user backend.0 keys auth.hash (Some user) user index backend.2 refl).1).1

-- ---- both ways

admits_user : (cfg : Cfg) (state : State) (cookie : Option (List ℕ)) (now : ℕ) (user : UserRow) (index : ℕ)
    → verdict_of cfg state cookie now ≡ Admitted index → found_user cfg.engine state cookie now ≡ Some user → IsAdmitted cfg state cookie now user index
admits_user cfg state cookie now user index is found =
    let lines = on_text cfg.backends state.tables.keys cookie (found_text cfg.engine state cookie now) (found_map cfg.engine state cookie now) (found_user cfg.engine state cookie now) user index is found in
    let text = lines.0 in
    let map = lines.1 in
    let auth = lines.2 in
    let judged = lines.6 in
    let stored = on_stored (rows_of cfg.engine state) cookie now text lines.3 in
    let read : decoded Stored state.tables.keys now text ≡ Ok map = on_map state.tables.keys now text (decoded Stored state.tables.keys now text) map (ap (session_map state.tables.keys now) (sym lines.3) ∙ lines.4) in
    let encoded = decoded-encodes Stored state.tables.keys now text map read in
    let named : user_of state.tables.users auth.user ≡ Some user
    = ap (named_user state.tables.users) (sym (ap auth_in lines.4 ∙ lines.5)) ∙ found in
    let path = on_path cfg.backends auth.backend judged.backend judged.configured in
    let key = on_key state.tables.keys user.password auth.hash index judged.hash in
    record {
      key = stored.key;
      row = stored.row;
      map = map;
      time = encoded.0;
      auth = auth;
      backend = judged.backend;
      cookie_is = stored.cookie_is;
      long = stored.long;
      stored = stored.stored;
      unexpired = stored.unexpired;
      reads = subst (λ t. Encodes Stored state.tables.keys t map encoded.0) (sym stored.text_is) encoded.1;
      login = lines.5;
      configured = path.0;
      path = path.1;
      named = named;
      admitted = judged.admitted;
      present = key.0;
      hash = key.1;
      first = key.2;
    }

-- what is found, in the order in which it is found
admitted_text : (cfg : Cfg) (state : State) (cookie : Option (List ℕ)) (now : ℕ) (user : UserRow) (index : ℕ)
    → (a : IsAdmitted cfg state cookie now user index) → found_text cfg.engine state cookie now ≡ Some a.row.text
admitted_text cfg state cookie now user index a =
    rw a.cookie_is (rw (le-ltb (length a.key) 8 a.long) (rw a.stored (rw (lt-ltb now a.row.expire a.unexpired) refl)))

admitted_map : (cfg : Cfg) (state : State) (cookie : Option (List ℕ)) (now : ℕ) (user : UserRow) (index : ℕ)
    → (a : IsAdmitted cfg state cookie now user index) → found_map cfg.engine state cookie now ≡ Some a.map
admitted_map cfg state cookie now user index a =
    ap (session_map state.tables.keys now) (admitted_text cfg state cookie now user index a)
    ∙ ap map_in (encodes-decoded Stored state.tables.keys now a.row.text a.map (a.time, a.reads, tt))

admitted_auth : (cfg : Cfg) (state : State) (cookie : Option (List ℕ)) (now : ℕ) (user : UserRow) (index : ℕ)
    → (a : IsAdmitted cfg state cookie now user index) → auth_in (found_map cfg.engine state cookie now) ≡ Some a.auth
admitted_auth cfg state cookie now user index a = ap auth_in (admitted_map cfg state cookie now user index a) ∙ a.login

admitted_user : (cfg : Cfg) (state : State) (cookie : Option (List ℕ)) (now : ℕ) (user : UserRow) (index : ℕ)
    → (a : IsAdmitted cfg state cookie now user index) → found_user cfg.engine state cookie now ≡ Some user
admitted_user cfg state cookie now user index a = ap (named_user state.tables.users) (admitted_auth cfg state cookie now user index a) ∙ a.named

-- the last lines
admitted_line : (cfg : Cfg) (state : State) (cookie : Option (List ℕ)) (now : ℕ) (user : UserRow) (index : ℕ)
    → (a : IsAdmitted cfg state cookie now user index) → verdict_on_auth cfg.backends state.tables.keys (Some a.auth) (Some user) ≡ Admitted index
admitted_line cfg state cookie now user index a =
    let configured : backend_of cfg.backends a.auth.backend ≡ Some a.backend = ap (backend_of cfg.backends) (sym a.path) ∙ to_path cfg.backends a.backend a.configured in
    rw configured (rw a.admitted (rw (key_is_first state.tables.keys user.password a.auth.hash index a.present a.hash a.first) refl))

is_admitted : (cfg : Cfg) (state : State) (cookie : Option (List ℕ)) (now : ℕ) (user : UserRow) (index : ℕ)
    → IsAdmitted cfg state cookie now user index → verdict_of cfg state cookie now ≡ Admitted index
is_admitted cfg state cookie now user index a =
    rw (admitted_user cfg state cookie now user index a)
    (rw (admitted_map cfg state cookie now user index a)
    (rw (admitted_text cfg state cookie now user index a)
    (rw a.login (admitted_line cfg state cookie now user index a))))

pub load_admits_exactly : LoadAdmitsExactly
load_admits_exactly cfg state cookie now user index = (
  λ found. admits_user cfg state cookie now user index found.0 found.1,
  λ a. (is_admitted cfg state cookie now user index a, admitted_user cfg state cookie now user index a),
)
