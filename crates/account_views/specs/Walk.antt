-- Walks through a script: the steps that it asks for, each with the reply that it gets.
use Rattle.std.specs.Prelude.{◌≡◌, ◌≢◌, ◌⊎◌, ℕ, zero, suc, ◌^◌, ◌<◌, List, [], ◌∷◌, Option, None, Some, IsUtf8}
use Rattle.outside.specs.RandomWords.{RandomWords}
use Rattle.http_edge.specs.ResponseText.{IsStatus}
use Rattle.http_edge.specs.declared.response.Response.{Response}
use Rattle.ledger_rows.specs.Replies.{IsReplyOf}
use Rattle.ledger_rows.specs.Step.{IsOperation}
use Rattle.ledger_rows.specs.declared.operation.Op.{Op}
use Rattle.ledger_rows.specs.declared.operation.Op.TheVariants.{Boot}
use Rattle.ledger_rows.specs.declared.reply.Reply.{Reply}
use Rattle.ledger_rows.specs.declared.reply.Reply.TheVariants.{Good, Loaded, User, Written}
use Rattle.ledger_rows.specs.declared.reply.UserRead.{UserRead}
use Rattle.account_views.specs.Script.{Steps, Return, Ask}

-- a step that was asked for, and its reply
pub record Event : Type 0 where
  pub op : Op
  pub reply : Reply

-- these events lead from a script to what is left of it
abbrev pub Leads : {A : Type 0} → Steps A → List Event → Steps A → Type 0
Leads script [] left = left ≡ script
Leads (Return a) (event ∷ events) left = ⊥
Leads (Ask op rest) (event ∷ events) left = (event.op ≡ op) × Leads (rest event.reply) events left

-- each event is such a one
abbrev pub AreAll : (Event → Type 0) → List Event → Type 0
AreAll P [] = Unit {0}
AreAll P (event ∷ events) = P event × AreAll P events

-- one of the events is such a one
abbrev pub IsAmong : (Event → Type 0) → List Event → Type 0
IsAmong P [] = ⊥
IsAmong P (event ∷ events) = P event ⊎ IsAmong P events

-- no more than so many steps are asked for, whatever the replies
abbrev pub AtMost : {A : Type 0} → ℕ → Steps A → Type 0
AtMost n (Return a) = Unit {0}
AtMost zero (Ask op rest) = ⊥
AtMost (suc n) (Ask op rest) = (reply : Reply) → AtMost n (rest reply)

-- the step may be done, and is no start of the program
pub record IsAllowed (op : Op) : Type 0 where
  pub operation : IsOperation op
  pub no_start : op ≢ Boot

-- the hash of a user, where there is one, is text
abbrev pub IsTextRead : Option UserRead → Type 0
IsTextRead None = Unit {0}
IsTextRead (Some read) = IsUtf8 read.auth_hash

-- so is each hash that a reply gives out
abbrev pub HasTextHash : Reply → Type 0
HasTextHash (Loaded verdict key payload user) = IsTextRead user
HasTextHash (User user) = IsTextRead user
HasTextHash (Good read) = IsUtf8 read.auth_hash
HasTextHash (Written hash) = IsUtf8 hash
HasTextHash _ = Unit {0}

-- the reply may come to the step: it is of its kind, and its hashes are text
pub record IsReplyTo (op : Op) (reply : Reply) : Type 0 where
  pub kind : IsReplyOf op reply
  pub hash : HasTextHash reply

-- each step that is asked for is allowed, whatever replies came to those before, and the response has a status that
-- `response_text` takes
abbrev pub IsProper : Steps Response → Type 0
IsProper (Return response) = IsStatus response.status
IsProper (Ask op rest) = IsAllowed op × ((reply : Reply) → IsReplyTo op reply → IsProper (rest reply))

-- each random word is the value of a `u32`
abbrev pub AreWords : RandomWords → Type 0
AreWords words = (position : ℕ) → words.word_at position < 2 ^ 32
