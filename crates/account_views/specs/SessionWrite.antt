-- What follows every view, as Django's session middleware does it: a session that was flushed is deleted; one that was
-- changed is begun, put under a new key or saved; and the response says what became of it.
use Rattle.std.specs.Prelude.{ℕ, zero, suc, ◌-◌, Bool, true, false, ◌&&◌, not, if◌then◌else◌, is_none, List, [], ◌∷◌, Option, Some, None, codes}
use Rattle.serde_json.specs.Data.{Members, no_members, member}
use Rattle.cookie_text.specs.SetCookie.{deletion_text}
use Rattle.http_edge.specs.declared.response.Response.{Response}
use Rattle.session_codec.specs.SessionMap.{expiry_of}
use Rattle.session_codec.specs.SessionText.{payload_of}
use Rattle.ledger_rows.specs.declared.operation.Op.{Op}
use Rattle.ledger_rows.specs.declared.operation.Op.TheVariants.{Create, Cycle, Delete, Save}
use Rattle.ledger_rows.specs.declared.reply.Reply.{Reply}
use Rattle.ledger_rows.specs.declared.reply.Reply.TheVariants.{Stored, Taken}
use Rattle.auth_backends.specs.declared.session_box.SessionBox.{SessionBox}
use Rattle.middleware_chain.specs.declared.settings.Settings.{Settings}
use Rattle.account_views.specs.Basis.{Basis}
use Rattle.account_views.specs.Page.{page_response, session_text, unwritten_response}
use Rattle.account_views.specs.RandomTexts.{session_key}
use Rattle.account_views.specs.Script.{Steps, Return, Ask}
use Rattle.account_views.specs.declared.facts.Facts.{Facts}
use Rattle.account_views.specs.declared.page.Viewed.{Viewed}
use Rattle.account_views.specs.declared.session_write.Attempt.{Attempt}
use Rattle.account_views.specs.declared.session_write.Attempt.TheVariants.{KeyTaken, SessionGone, Written}
use Rattle.account_views.specs.declared.session_write.WriteStage.{WriteStage}
use Rattle.account_views.specs.declared.session_write.WriteStage.TheVariants.{Deleting, Placing, Saving}

-- ---- the responses

abbrev pub is_empty_map : Members → Bool
is_empty_map no_members = true
is_empty_map (member name value others) = false

-- neither a key nor an entry: Django's `is_empty`
abbrev pub holds_nothing : SessionBox → Bool
holds_nothing session = is_none session.key && is_empty_map session.map

-- where a session cookie came and no session is left, the cookie is deleted
abbrev pub deletions : SessionBox → List (List ℕ)
deletions session = if session.came && holds_nothing session then deletion_text (codes "sessionid") ∷ [] else []

-- nothing is written
abbrev pub kept : Settings → Facts → Viewed → Response
kept settings facts v = page_response settings facts v.page (deletions v.session)

-- the session was written
abbrev pub stored : Settings → Facts → Viewed → List ℕ → Response
stored settings facts v cookie = page_response settings facts v.page (session_text settings facts (expiry_of v.session.map) cookie ∷ [])

-- the session was deleted while the request was under way: Django's SessionInterrupted
abbrev pub gone : Facts → Response
gone facts = unwritten_response facts 400 (codes "error=session-deleted\n")

-- each of the new keys was taken
abbrev pub keys_taken : Facts → Response
keys_taken facts = unwritten_response facts 503 (codes "error=keys-taken\n")

-- ---- the steps, from the last to the first

-- what a reply says of a write; one of another kind says that the session is gone
abbrev pub attempt_by : Reply → Attempt
attempt_by (Stored cookie) = Written cookie
attempt_by Taken = KeyTaken
attempt_by _ = SessionGone

abbrev pub after_save : Settings → Facts → Viewed → Attempt → Response
after_save settings facts v (Written cookie) = stored settings facts v cookie
after_save settings facts v KeyTaken = gone facts
after_save settings facts v SessionGone = gone facts

abbrev pub save_op : Facts → Viewed → List ℕ → Op
save_op facts v key = Save key (payload_of v.session.map) (expiry_of v.session.map).seconds facts.moment

-- a session is begun, or takes the place of the one of an old key
abbrev pub placing_op : Facts → Viewed → Option (List ℕ) → List ℕ → Op
placing_op facts v None key = Create key (payload_of v.session.map) (expiry_of v.session.map).seconds facts.moment
placing_op facts v (Some old) key = Cycle old key (payload_of v.session.map) (expiry_of v.session.map).seconds facts.moment

abbrev pub after_try : Settings → Facts → Viewed → Attempt → Steps Response → Steps Response
after_try settings facts v (Written cookie) more = Return (stored settings facts v cookie)
after_try settings facts v KeyTaken more = more
after_try settings facts v SessionGone more = Return (gone facts)

-- the tries for a new key: so many are left of 16
unfoldable pub placing : Basis → Viewed → Option (List ℕ) → ℕ → Steps Response
placing basis v old zero = Return (keys_taken basis.facts)
placing basis v old (suc left) =
    Ask (placing_op basis.facts v old (session_key basis.draw (15 - left)))
    (λ reply. after_try basis.settings basis.facts v (attempt_by reply) (placing basis v old left))

abbrev pub saved : Basis → Viewed → Option (List ℕ) → Steps Response
saved basis v None = placing basis v None 16
saved basis v (Some key) =
    if v.session.cycle then placing basis v (Some key) 16
    else Ask (save_op basis.facts v key) (λ reply. Return (after_save basis.settings basis.facts v (attempt_by reply)))

abbrev pub after_delete : Basis → Viewed → Steps Response
after_delete basis v = if v.session.modified && not (holds_nothing v.session) then saved basis v v.session.key else Return (kept basis.settings basis.facts v)

abbrev pub deleting : Basis → Viewed → Option (List ℕ) → Steps Response
deleting basis v None = after_delete basis v
deleting basis v (Some key) = Ask (Delete key) (λ reply. after_delete basis v)

abbrev pub written : Basis → Viewed → Steps Response
written basis v = deleting basis v v.session.dropped

-- what the write does from a stage on, once the reply is there
abbrev pub write_left : Basis → WriteStage → Reply → Steps Response
write_left basis (Deleting v) reply = after_delete basis v
write_left basis (Placing v old left) reply = after_try basis.settings basis.facts v (attempt_by reply) (placing basis v old left)
write_left basis (Saving v) reply = Return (after_save basis.settings basis.facts v (attempt_by reply))
