-- What operations do to the mails of a store, after Django's `PasswordResetForm`; that a mail is kept until it is taken, its
-- number and its link are this project's own.
use Rattle.std.specs.Prelude.{◌==◌, ◌&&◌, ℕ, suc, Bool, false, not, List, [], ◌∷◌, ◌++◌, bytes_eq, codes, filter, fold}
use Rattle.reset_tokens.specs.ResetToken.{ResetRow, number_at, token_text}
use Rattle.reset_tokens.specs.UserIdText.{uid_text}
use Rattle.signing_core.specs.Keys.{key_at}
use Rattle.ledger_rows.specs.Tables.{put_mail, users_of_email, without_mail}
use Rattle.ledger_rows.specs.declared.rows.MailRow.{MailRow}
use Rattle.ledger_rows.specs.declared.rows.UserRow.{UserRow}

-- the password text can't be used: it begins with `!`
abbrev pub is_unusable : List ℕ → Bool
is_unusable [] = false
is_unusable (first ∷ rest) = first == 33

-- whether a user of the address gets a mail: he is active, and has an address and a password
abbrev pub is_mailed : UserRow → Bool
is_mailed user = user.active && not (bytes_eq user.email []) && not (is_unusable user.password)

-- the users who get one
abbrev pub mailed_users : List UserRow → List ℕ → List UserRow
mailed_users users email = filter is_mailed (users_of_email users email)

-- what a reset token depends on of a user
abbrev pub reset_row : UserRow → ResetRow
reset_row user = record { id = user.id; password = user.password; last_login = user.last_login; email = user.email }

-- `/reset/`, the text of the user's id, `/`, a token made now under the first key, `/`
unfoldable pub reset_link : List (List ℕ) → ℕ → UserRow → List ℕ
reset_link keys now user =
    codes "/reset/" ++ uid_text user.id ++ 47 ∷ token_text (reset_row user) (number_at now) (key_at keys 0) ++ 47 ∷ []

abbrev pub reset_mail : List (List ℕ) → ℕ → ℕ → UserRow → MailRow
reset_mail keys now id user = record { id = id; to = user.email; link = reset_link keys now user }

-- a mail to each user, numbered from an id on
abbrev pub reset_mails : List (List ℕ) → ℕ → ℕ → List UserRow → List MailRow
reset_mails keys now id [] = []
reset_mails keys now id (user ∷ users) = reset_mail keys now id user ∷ reset_mails keys now (suc id) users

-- the mails with more of them
abbrev pub put_mails : List MailRow → List MailRow → List MailRow
put_mails mails more = fold put_mail mails more

-- the mails but the first
abbrev pub without_first : List MailRow → List MailRow
without_first [] = []
without_first (mail ∷ mails) = without_mail (mail ∷ mails) mail.id
