-- What a change of a user is to the keeper.
use Rattle.std.specs.Prelude.{ℕ, List, [], ◌∷◌, if◌then◌else◌}
use Rattle.ledger_rows.specs.Replies.{IsReplyOf}
use Rattle.ledger_rows.specs.UserSteps.{has_password, with_password}
use Rattle.ledger_rows.specs.declared.operation.Op.TheVariants.{SetPassword}
use Rattle.ledger_rows.specs.declared.reply.Reply.{Reply}
use Rattle.ledger_rows.specs.declared.rows.UserRow.{UserRow}
use Rattle.keepers.specs.declared.change.Change.{Change}
use Rattle.keepers.specs.declared.change.Change.TheVariants.{PutUser}

-- the reply is of the kind of a new password's, whose user and texts don't matter
abbrev pub IsPasswordReply : Reply → Type 0
IsPasswordReply reply = IsReplyOf (SetPassword 0 [] []) reply

-- the row is put in with the new text, where its own is the expected one
abbrev pub repassword_changes : UserRow → List ℕ → List ℕ → List Change
repassword_changes row expected fresh = if has_password expected row then PutUser (with_password fresh row) ∷ [] else []
