-- What holds of the script of every request.
use Rattle.std.specs.Prelude.{◌≡◌, ◌⊎◌, ℕ, ◌^◌, ◌<◌, ◌≤◌, List, All, length, Option, None, Some}
use Rattle.http_edge.specs.declared.request.Request.{Request}
use Rattle.http_edge.specs.declared.response.Response.{Response}
use Rattle.crypto_text.specs.Moment.{IsMoment}
use Rattle.pass_hashers.specs.PasswordText.{IsUsable}
use Rattle.session_codec.specs.SessionMap.{SessionAuth, auth_of}
use Rattle.ledger_rows.specs.declared.operation.Op.{Op}
use Rattle.ledger_rows.specs.declared.operation.Op.TheVariants.{Create, Cycle, Load, Save, SetPassword}
use Rattle.ledger_rows.specs.declared.reply.Reply.{Reply}
use Rattle.ledger_rows.specs.declared.reply.Reply.TheVariants.{Good, Loaded, User, Written}
use Rattle.ledger_rows.specs.declared.reply.UserRead.{UserRead}
use Rattle.ledger_rows.specs.declared.verdict.Verdict.TheVariants.{Admitted}
use Rattle.middleware_chain.specs.RequestCookie.{session_cookie}
use Rattle.middleware_chain.specs.declared.settings.Settings.{Settings}
use Rattle.account_views.specs.Handler.{script}
use Rattle.account_views.specs.RandomTexts.{session_key}
use Rattle.account_views.specs.Script.{Steps, Ask}
use Rattle.account_views.specs.Visit.{map_in}
use Rattle.account_views.specs.Walk.{AreAll, AtMost, Event, IsAmong, IsProper, IsReplyTo, Leads}

-- a request that asks for a step first asks who came
abbrev pub LoadIsFirst : Type 0
LoadIsFirst =
    (settings : Settings) (r : Request) (moment : ℕ) (draw : List ℕ) (op : Op) (rest : Reply → Steps Response)
    → script settings r moment draw ≡ Ask op rest → op ≡ Load (session_cookie r.cookie) moment

-- the load, three steps of the view, a delete and sixteen tries
abbrev pub StepsAreFew : Type 0
StepsAreFew = (settings : Settings) (r : Request) (moment : ℕ) (draw : List ℕ) → AtMost 21 (script settings r moment draw)

-- each step that is asked for may be done and is no start, and each response has a status of its own, whatever replies
-- came and whatever random words the request has, where the hasher of new passwords is usable
abbrev pub StepsAreProper : Type 0
StepsAreProper =
    (settings : Settings) (r : Request) (moment : ℕ) (draw : List ℕ) → IsMoment moment → All (λ word. word < 2 ^ 32) draw → 1024 ≤ length draw
    → IsUsable settings.cfg.preferred → IsProper (script settings r moment draw)

-- ---- new keys

-- the key is that of one of the tries
abbrev pub IsTryKey : List ℕ → List ℕ → Type 0
IsTryKey draw key = (number : ℕ) × (number < 16) × (key ≡ session_key draw number)

-- a new key of the step is
abbrev pub HasTryKey : List ℕ → Op → Type 0
HasTryKey draw (Create key payload seconds now) = IsTryKey draw key
HasTryKey draw (Cycle old key payload seconds now) = IsTryKey draw key
HasTryKey draw _ = Unit {0}

-- new keys are made of the request's random words, whatever replies came
abbrev pub KeysAreDrawn : Type 0
KeysAreDrawn =
    (settings : Settings) (r : Request) (moment : ℕ) (draw : List ℕ) (events : List Event) (op : Op) (rest : Reply → Steps Response)
    → Leads (script settings r moment draw) events (Ask op rest) → HasTryKey draw op

-- ---- the box rule: where a login that is written comes from

-- the session with this payload is one of the user of this id
pub record NamesUser (payload : List ℕ) (id : ℕ) : Type 0 where
  pub auth : SessionAuth
  pub named : auth_of (map_in payload) ≡ Some auth
  pub same : auth.user ≡ id

-- a load that admits gives the user that its session names
abbrev pub IsSound : Reply → Type 0
IsSound (Loaded (Admitted key_index) key payload (Some read)) = NamesUser payload read.row.id
IsSound _ = Unit {0}

-- the login is of this user, with the hash that was given out for it
abbrev pub IsOf : Option UserRead → SessionAuth → Type 0
IsOf None auth = ⊥
IsOf (Some read) auth = (auth.user ≡ read.row.id) × (auth.hash ≡ read.auth_hash)

-- the login is of the user whose password text was written, with the hash that was given out for it
abbrev pub IsWrittenFor : Op → List ℕ → SessionAuth → Type 0
IsWrittenFor (SetPassword user expected fresh) hash auth = (auth.user ≡ user) × (auth.hash ≡ hash)
IsWrittenFor _ hash auth = ⊥

-- the event loaded this login, or gave out its hash for its user
abbrev pub Gives : Op → Reply → SessionAuth → Type 0
Gives op (Loaded verdict key payload user) auth = (auth_of (map_in payload) ≡ Some auth) ⊎ IsOf user auth
Gives op (User user) auth = IsOf user auth
Gives op (Good read) auth = IsOf (Some read) auth
Gives op (Written hash) auth = IsWrittenFor op hash auth
Gives op _ auth = ⊥

-- there is no login, or one of the events gave it
abbrev pub IsGiven : List Event → Option SessionAuth → Type 0
IsGiven events None = Unit {0}
IsGiven events (Some auth) = IsAmong (λ event. Gives event.op event.reply auth) events

-- a payload that is written has no login, or one that was given
abbrev pub WritesGiven : List Event → Op → Type 0
WritesGiven events (Create key payload seconds now) = IsGiven events (auth_of (map_in payload))
WritesGiven events (Save key payload seconds now) = IsGiven events (auth_of (map_in payload))
WritesGiven events (Cycle old key payload seconds now) = IsGiven events (auth_of (map_in payload))
WritesGiven events _ = Unit {0}

-- each login that a request writes was given to it by a reply
abbrev pub BoxRule : Type 0
BoxRule =
    (settings : Settings) (r : Request) (moment : ℕ) (draw : List ℕ) (events : List Event) (op : Op) (rest : Reply → Steps Response)
    → Leads (script settings r moment draw) events (Ask op rest) → AreAll (λ event. IsReplyTo event.op event.reply × IsSound event.reply) events
    → WritesGiven events op
