-- What operations do to the sessions of a store, after Django's `django.contrib.sessions.backends.db`; the moments and
-- the replies are this project's own.
use Rattle.std.specs.Prelude.{◌+◌, ℕ, Bool, true, false, not, nat_lt, List, [], Option, None, Some, is_some, count_by, filter, if◌then◌else◌}
use Rattle.serde_json.specs.Data.{Members}
use Rattle.session_codec.specs.SessionText.{map_of_payload, text_of}
use Rattle.session_codec.specs.declared.session_text.SessionKind.TheVariants.{Stored as StoredKind}
use Rattle.ledger_rows.specs.Tables.{put_session, session_of, without_session}
use Rattle.ledger_rows.specs.declared.rows.SessionRow.{SessionRow}
use Rattle.ledger_rows.specs.declared.reply.Reply.{Reply}
use Rattle.ledger_rows.specs.declared.reply.Reply.TheVariants.{Gone, Stored, Taken}

-- whether there is a session of a key
abbrev pub has_session : List SessionRow → List ℕ → Bool
has_session rows key = is_some (session_of rows key)

-- the text that keeps a map: signed under the first key
abbrev pub kept_text : List (List ℕ) → ℕ → Option Members → List ℕ
kept_text keys now None = []
kept_text keys now (Some map) = text_of StoredKind map keys now

-- the row of a session that is written now, its map as JSON
abbrev pub written_row : List (List ℕ) → List ℕ → List ℕ → ℕ → ℕ → SessionRow
written_row keys key payload seconds now = record { key = key; text = kept_text keys now (map_of_payload payload); expire = now + seconds }

-- whether a session was over before a moment
abbrev pub is_over : ℕ → SessionRow → Bool
is_over now row = nat_lt row.expire now

-- the sessions that weren't
abbrev pub without_expired : List SessionRow → ℕ → List SessionRow
without_expired rows now = filter (λ (row : SessionRow). not (is_over now row)) rows

-- how many were
abbrev pub count_expired : List SessionRow → ℕ → ℕ
count_expired rows now = count_by (is_over now) rows

-- ---- what is kept after, by whether the keys are there

abbrev pub created : List SessionRow → SessionRow → List SessionRow
created rows row = if has_session rows row.key then rows else put_session rows row

abbrev pub saved : List SessionRow → SessionRow → List SessionRow
saved rows row = if has_session rows row.key then put_session rows row else rows

abbrev pub cycled : List SessionRow → List ℕ → SessionRow → List SessionRow
cycled rows old row =
    if has_session rows old
    then (if has_session rows row.key then rows else put_session (without_session rows old) row)
    else rows

-- ---- replies

-- to the key's being there
abbrev pub create_reply : List ℕ → Bool → Reply
create_reply key true = Taken
create_reply key false = Stored key

abbrev pub save_reply : List ℕ → Bool → Reply
save_reply key true = Stored key
save_reply key false = Gone

-- to the old key's being there, and the new one's
abbrev pub cycle_reply : List ℕ → Bool → Bool → Reply
cycle_reply key false held = Gone
cycle_reply key true true = Taken
cycle_reply key true false = Stored key
