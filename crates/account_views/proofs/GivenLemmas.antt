-- A login that was given to a request stays given.
use Rattle.std.proofs.Common.{inl, inr, List, [], ◌∷◌, ◌++◌, Option, Some, None}
use Rattle.serde_json.specs.Data.{no_members}
use Rattle.session_codec.specs.SessionMap.{SessionAuth, auth_of}
use Rattle.ledger_rows.specs.declared.operation.Op.{Op}
use Rattle.ledger_rows.specs.declared.reply.Reply.{Reply}
use Rattle.account_views.specs.Laws.{Gives, IsGiven, IsSound}
use Rattle.account_views.specs.Walk.{Event, IsAmong, IsReplyTo}
use Rattle.account_views.specs.declared.page.Viewed.{Viewed}
use Rattle.account_views.proofs.EveryLemmas.{behind}

abbrev pub Sound : Event → Type 0
Sound event = IsReplyTo event.op event.reply × IsSound event.reply

-- a view leaves a session whose login was given
abbrev pub Given : List Event → Viewed → Type 0
Given past v = IsGiven past (auth_of v.session.map)

among_more : (P : Event → Type 0) (events later : List Event) → IsAmong P events → IsAmong P (events ++ later)
among_more P [] later among = absurd among
among_more P (event ∷ events) later (inl is) = inl is
among_more P (event ∷ events) later (inr among) = inr (among_more P events later among)

-- the last event is among all
pub among_last : (P : Event → Type 0) (events : List Event) (event : Event) → P event → IsAmong P (events ++ event ∷ [])
among_last P [] event is = inl is
among_last P (first ∷ events) event is = inr (among_last P events event is)

pub given_more : (past : List Event) (op : Op) (reply : Reply) (login : Option SessionAuth) → IsGiven past login → IsGiven (behind past op reply) login
given_more past op reply None given = tt
given_more past op reply (Some auth) given = among_more (λ event. Gives event.op event.reply auth) past (record { op = op; reply = reply } ∷ []) given

-- an empty session has no login
pub empty-given : (past : List Event) → IsGiven past (auth_of no_members)
unfolding auth_of
empty-given past = tt
