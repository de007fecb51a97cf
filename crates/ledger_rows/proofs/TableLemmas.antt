-- Tables: what holds of all rows of a table, and of a row that is put into it, holds of all rows after that.
use Rattle.std.proofs.Common.{◌==◌, ℕ, not, List, [], ◌∷◌, Ordering, Less, Equal, Greater, All, bytes_eq, fold}
use Rattle.std.specs.Cmp.Lexicographic.{slice_cmp}
use Rattle.std.specs.Ordering.{match_ordering, nat_cmp}
use Rattle.std.proofs.lemmas.List.Elements.{All-cons, All-filter, All-head, All-nil, All-tail}
use Rattle.ledger_rows.specs.Tables.{put_mail, put_session, put_user, sorted_sessions, without_mail, without_session}
use Rattle.ledger_rows.specs.declared.rows.MailRow.{MailRow}
use Rattle.ledger_rows.specs.declared.rows.SessionRow.{SessionRow}
use Rattle.ledger_rows.specs.declared.rows.UserRow.{UserRow}

All-matched : {R : Type 0} (P : R → Type 0) (o : Ordering) (a b c : List R) → All P a → All P b → All P c → All P (match_ordering o a b c)
All-matched P Less a b c x y z = x
All-matched P Equal a b c x y z = y
All-matched P Greater a b c x y z = z

-- ---- sessions

pub All-put_session : (P : SessionRow → Type 0) (rows : List SessionRow) (row : SessionRow) → All P rows → P row → All P (put_session rows row)
All-put_session P [] row all new = All-cons P row [] new all
All-put_session P (first ∷ rest) row all new =
    let later : All P rest = All-tail P first rest all in
    All-matched P (slice_cmp nat_cmp first.key row.key) (first ∷ put_session rest row) (row ∷ rest) (row ∷ first ∷ rest)
    (All-cons P first (put_session rest row) (All-head P first rest all) (All-put_session P rest row later new))
    (All-cons P row rest new later) (All-cons P row (first ∷ rest) new all)

pub All-without_session : (P : SessionRow → Type 0) (rows : List SessionRow) (key : List ℕ) → All P rows → All P (without_session rows key)
All-without_session P rows key all = All-filter (λ (row : SessionRow). not (bytes_eq row.key key)) P rows all

All-put_sessions : (P : SessionRow → Type 0) (rows before : List SessionRow) → All P rows → All P before → All P (fold put_session before rows)
All-put_sessions P [] before all old = old
All-put_sessions P (row ∷ rows) before all old =
    All-put_sessions P rows (put_session before row) (All-tail P row rows all) (All-put_session P before row old (All-head P row rows all))

pub All-sorted_sessions : (P : SessionRow → Type 0) (rows : List SessionRow) → All P rows → All P (sorted_sessions rows)
All-sorted_sessions P rows all = All-put_sessions P rows [] all (All-nil P)

-- ---- users

pub All-put_user : (P : UserRow → Type 0) (rows : List UserRow) (row : UserRow) → All P rows → P row → All P (put_user rows row)
All-put_user P [] row all new = All-cons P row [] new all
All-put_user P (first ∷ rest) row all new =
    let later : All P rest = All-tail P first rest all in
    All-matched P (nat_cmp first.id row.id) (first ∷ put_user rest row) (row ∷ rest) (row ∷ first ∷ rest)
    (All-cons P first (put_user rest row) (All-head P first rest all) (All-put_user P rest row later new))
    (All-cons P row rest new later) (All-cons P row (first ∷ rest) new all)

-- ---- mails

pub All-put_mail : (P : MailRow → Type 0) (rows : List MailRow) (row : MailRow) → All P rows → P row → All P (put_mail rows row)
All-put_mail P [] row all new = All-cons P row [] new all
All-put_mail P (first ∷ rest) row all new =
    let later : All P rest = All-tail P first rest all in
    All-matched P (nat_cmp first.id row.id) (first ∷ put_mail rest row) (row ∷ rest) (row ∷ first ∷ rest)
    (All-cons P first (put_mail rest row) (All-head P first rest all) (All-put_mail P rest row later new))
    (All-cons P row rest new later) (All-cons P row (first ∷ rest) new all)

pub All-without_mail : (P : MailRow → Type 0) (rows : List MailRow) (id : ℕ) → All P rows → All P (without_mail rows id)
All-without_mail P rows id all = All-filter (λ (row : MailRow). not (row.id == id)) P rows all
