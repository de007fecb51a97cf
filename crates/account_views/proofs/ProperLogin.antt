-- A login is proper: what it asks for may be done, and it leaves a session.
use Rattle.std.proofs.Common.{◌≡◌, ℕ, ◌-◌, ◌^◌, ◌<◌, ◌≤◌, inl, true, false, decimal, List, All, Some, None, length, slice_range, drop, refl, arith}
use Rattle.std.proofs.Math.Utf8.{encode}
use Rattle.std.proofs.lemmas.Fmt.{IsAscii-decimal}
use Rattle.std.proofs.lemmas.List.{length-drop, length-take-le}
use Rattle.std.proofs.lemmas.List.Elements.{All-drop, All-take}
use Rattle.std.proofs.lemmas.Str.{IsUtf8-from_ascii}
use Rattle.std.specs.Str.{IsUtf8}
use Rattle.serde_json.specs.Data.{Members, no_members}
use Rattle.http_edge.specs.ResponseText.{IsStatus, reason_phrase}
use Rattle.pass_hashers.proofs.LetterLemmas.{random_letters_are_salt}
use Rattle.pass_hashers.proofs.TextLemmas.{HasParts-made}
use Rattle.pass_hashers.specs.PasswordText.{IsPasswordText, IsSalt, last_part}
use Rattle.session_codec.specs.SessionMap.{IsSession, backend_name, user_id_name}
use Rattle.ledger_rows.specs.Backends.{path_of}
use Rattle.ledger_rows.specs.Rows.{IsNumber}
use Rattle.ledger_rows.specs.declared.operation.Op.TheVariants.{FindUser}
use Rattle.ledger_rows.specs.declared.reply.Reply.{Reply}
use Rattle.ledger_rows.specs.declared.reply.Reply.TheVariants.{User, Written}
use Rattle.ledger_rows.specs.declared.reply.UserRead.{UserRead}
use Rattle.ledger_rows.specs.declared.rows.Backend.{Backend}
use Rattle.ledger_rows.specs.declared.rows.Backend.TheVariants.{AllowAll, Model}
use Rattle.auth_backends.specs.Authentication.{answer_of}
use Rattle.auth_backends.specs.SessionBox.{keeps_entries, kept_map, login_changed, with_names}
use Rattle.auth_backends.specs.declared.authentication.AuthAnswer.{AuthAnswer}
use Rattle.auth_backends.specs.declared.authentication.AuthAnswer.TheVariants.{Refused, WrongPassword, Yes}
use Rattle.auth_backends.specs.declared.session_box.SessionBox.{SessionBox}
use Rattle.account_views.specs.Basis.{Basis}
use Rattle.account_views.specs.Login.{after_find, answered, finding, fresh_text, is_done, login, login_call, refusal, stamping, upgraded, upgrading, user_of, welcome, with_hash, written_hash}
use Rattle.account_views.specs.LoginForm.{is_user_name}
use Rattle.account_views.specs.RandomTexts.{new_salt}
use Rattle.account_views.specs.Script.{Steps}
use Rattle.account_views.specs.Walk.{Event, HasTextHash, IsReplyTo}
use Rattle.account_views.specs.declared.call.Call.{Call}
use Rattle.account_views.specs.declared.login.LoginCall.{LoginCall}
use Rattle.account_views.specs.declared.login.LoginUser.{LoginUser}
use Rattle.account_views.specs.declared.page.Viewed.{Viewed}
use Rattle.account_views.proofs.EntryLemmas.{put_hash-session, put_text-session}
use Rattle.account_views.proofs.EveryLemmas.{Every}
use Rattle.account_views.proofs.LoginFormLemmas.{is_user_name-Decides}
use Rattle.account_views.proofs.ProperLemmas.{Allowed, EndsProperly, IsProperBasis, IsProperEnd, MayCome, status_200}
use Rattle.account_views.proofs.WalkLemmas.{either, either_where}

pub status_302 : IsStatus 302
unfolding reason_phrase
status_302 = omega arith

pub empty-session : IsSession no_members
empty-session = ((refl, omega arith), tt)

-- ---- the session that a login leaves

user_id_name-text : IsUtf8 user_id_name
unfolding user_id_name encode
user_id_name-text = (user_id_name, (refl, refl))

backend_name-text : IsUtf8 backend_name
unfolding backend_name encode
backend_name-text = (backend_name, (refl, refl))

path_of-text : (backend : Backend) → IsUtf8 (path_of backend)
unfolding path_of encode
path_of-text Model = (path_of Model, (refl, refl))
path_of-text AllowAll = (path_of AllowAll, (refl, refl))

with_names-session : (id path hash : List ℕ) (map : Members) → IsUtf8 id → IsUtf8 path → IsUtf8 hash → IsSession map → IsSession (with_names id path hash map)
with_names-session id path hash map is_id is_path is_hash held =
    put_hash-session hash _ is_hash (put_text-session backend_name path _ backend_name-text is_path (put_text-session user_id_name id map user_id_name-text is_id held))

-- the user's id and hash are in form
abbrev IsFormedRead : UserRead → Type 0
IsFormedRead read = IsNumber read.row.id × IsUtf8 read.auth_hash

login_changed-session : (read : UserRead) (backend : Backend) (session : SessionBox) → IsFormedRead read → IsSession session.map → IsSession (login_changed read backend session).map
login_changed-session read backend session formed held =
    with_names-session (decimal read.row.id) (path_of backend) read.auth_hash (kept_map (keeps_entries read session.map) session.map)
    (IsUtf8-from_ascii (decimal read.row.id) (IsAscii-decimal read.row.id (omega (arith, formed.0)))) (path_of-text backend) formed.1
    (either IsSession (keeps_entries read session.map) session.map no_members held empty-session)

-- ---- the fresh password text

new_salt-form : (draw : List ℕ) → All (λ word. word < 2 ^ 32) draw → 1024 ≤ length draw → IsSalt (new_salt draw)
unfolding new_salt
new_salt-form draw words enough =
    let own = slice_range draw 608 630 in
    let left : length (drop 608 draw) ≡ length draw - 608 = length-drop 608 draw in
    let size : length own ≡ 22 = length-take-le 22 (drop 608 draw) (omega arith) in
    let fit : All (λ word. word < 2 ^ 32) own = All-take (λ (word : ℕ). word < 2 ^ 32) 22 (drop 608 draw) (All-drop (λ (word : ℕ). word < 2 ^ 32) 608 draw words) in
    random_letters_are_salt own (omega (arith, size)) (omega (arith, size)) fit

pub fresh_text-form : (basis : Basis) (password : List ℕ) → IsProperBasis basis → IsPasswordText (fresh_text basis password)
fresh_text-form basis password going =
    let hasher = basis.settings.cfg.preferred in
    let salt = new_salt basis.draw in
    inl (hasher, (salt, last_part hasher password salt, HasParts-made hasher password salt going.usable (new_salt-form basis.draw going.words going.enough)))

-- ---- the steps

-- what a view leaves is proper, and so is each step
abbrev pub IsProperView : Basis → List Event → Steps Viewed → Type 0
IsProperView basis past script = Every MayCome (Allowed basis) EndsProperly past script

module _ (basis : Basis) (call : LoginCall) (held : IsSession call.session.map) where
  refusal-proper : IsProperEnd (refusal basis call)
  refusal-proper = record { session = held; status = status_200 }

  welcome-proper : (user : LoginUser) → IsFormedRead user.read → IsProperEnd (welcome basis call user)
  welcome-proper user formed = record { session = login_changed-session user.read user.backend call.session formed held; status = status_302 }

  stamping-proper : (past : List Event) (user : LoginUser) → IsFormedRead user.read → IsProperView basis past (stamping basis call user)
  stamping-proper past user formed = (
    λ going. record { operation = going.moment; no_start = λ e. cc },
    λ reply may. either IsProperEnd (is_done reply) _ _ (welcome-proper user formed) refusal-proper,
  )

  upgraded-proper : (past : List Event) (user : LoginUser) (reply : Reply) → IsNumber user.read.row.id → HasTextHash reply
      → IsProperView basis past (upgraded basis call user (written_hash reply))
  upgraded-proper past user (Written hash) number text = stamping-proper past (with_hash hash user) (number, text)
  upgraded-proper past user _ number text = refusal-proper

  upgrading-proper : (past : List Event) (password : List ℕ) (user : LoginUser) → IsNumber user.read.row.id → IsProperView basis past (upgrading basis call password user)
  upgrading-proper past password user number = (
    λ going. record { operation = fresh_text-form basis password going; no_start = λ e. cc },
    λ reply may. upgraded-proper _ user reply number may.hash,
  )

  answered-proper : (past : List Event) (password : List ℕ) (read : UserRead) (answer : AuthAnswer) → IsFormedRead read
      → IsProperView basis past (answered basis call password read answer)
  answered-proper past password read (Yes backend true) formed = upgrading-proper past password (record { read = read; backend = backend }) formed.0
  answered-proper past password read (Yes backend false) formed = stamping-proper past (record { read = read; backend = backend }) formed
  answered-proper past password read WrongPassword formed = refusal-proper
  answered-proper past password read Refused formed = refusal-proper

  found-proper : (past : List Event) (name password : List ℕ) (reply : Reply) → IsReplyTo (FindUser name) reply
      → IsProperView basis past (after_find basis call password (user_of reply))
  found-proper past name password (User None) may = refusal-proper
  found-proper past name password (User (Some read)) may =
      answered-proper past password read (answer_of (Some read.row) password basis.settings.cfg) (may.kind.id, may.hash)
  found-proper past name password _ may = refusal-proper

  finding-proper : (past : List Event) (name password : List ℕ) → IsProperView basis past (finding basis call name password)
  finding-proper past name password =
      either_where (IsProperView basis past) (is_user_name name) _ _ (λ is. (
        λ going. record { operation = (is_user_name-Decides name).0 is; no_start = λ e. cc },
        λ reply may. found-proper _ name password reply may,
      ))
      refusal-proper

pub login-proper : (basis : Basis) (call : Call) (session : SessionBox) (past : List Event) → IsSession session.map → IsProperView basis past (login basis call session)
login-proper basis call session past held =
    either (IsProperView basis past) call.post _ _ (finding-proper basis (login_call call.fields call.secret session) held past _ _) (record { session = held; status = status_200 })
