-- The parts of a load: what is stored under a cookie, what it is read as, and the user whom it names.
use Rattle.std.specs.Prelude.{ℕ, List, Option, None, Some, if◌then◌else◌}
use Rattle.serde_json.specs.Data.{Members}
use Rattle.session_codec.specs.SessionMap.{auth_of}
use Rattle.session_codec.specs.SessionText.{payload_of}
use Rattle.ledger_rows.specs.Admission.{auth_in, is_short, named_user, session_map, verdict_on_auth}
use Rattle.ledger_rows.specs.Replies.{IsReplyOf}
use Rattle.ledger_rows.specs.Step.{admitted_user, answer_on, empty_payload}
use Rattle.ledger_rows.specs.Tables.{Tables}
use Rattle.ledger_rows.specs.declared.operation.Op.TheVariants.{Load}
use Rattle.ledger_rows.specs.declared.reply.Reply.{Reply}
use Rattle.ledger_rows.specs.declared.reply.Reply.TheVariants.{Loaded}
use Rattle.ledger_rows.specs.declared.rows.Backend.{Backend}
use Rattle.ledger_rows.specs.declared.rows.UserRow.{UserRow}
use Rattle.ledger_rows.specs.declared.verdict.Verdict.TheVariants.{NoCookie, NotStored, Corrupt}

-- the reply is of the kind of a load's, whose cookie and moment don't matter
abbrev pub IsLoadReply : Reply → Type 0
IsLoadReply reply = IsReplyOf (Load None 0) reply

-- no session that isn't over is stored under the cookie
abbrev pub unstored : Option (List ℕ) → Reply
unstored cookie = Loaded (if is_short cookie then NoCookie else NotStored) None empty_payload None

-- the text that is stored under the cookie can't be read
abbrev pub corrupt : Option (List ℕ) → Reply
corrupt cookie = Loaded Corrupt cookie empty_payload None

-- it was read as this map, whose login names this user
abbrev pub judged : List Backend → List (List ℕ) → Option (List ℕ) → Members → Option UserRow → Reply
judged backends keys cookie map user =
    Loaded (verdict_on_auth backends keys (auth_of map) user) cookie (payload_of map)
    (admitted_user (verdict_on_auth backends keys (auth_of map) user) keys user)

-- the reply to a load that found this text
abbrev pub loaded_text : List Backend → Tables → Option (List ℕ) → ℕ → List ℕ → Reply
loaded_text backends tables cookie now text =
    answer_on backends tables.keys cookie (Some text) (session_map tables.keys now (Some text)) (named_user tables.users (auth_in (session_map tables.keys now (Some text))))
