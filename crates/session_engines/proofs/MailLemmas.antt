-- Mails with reset links, one after another.
use Rattle.std.proofs.Common.{◌≡◌, ◌<◌, ◌≤◌, ◌+◌, ◌^◌, ◌++◌, ℕ, suc, max, List, [], ◌∷◌, Option, Some, None, IfSome, All, add-one, add-suc, add-zero, append_assoc, append-nil, ap, drop, drop-cons, drop_of_length-le, filter, get_or, length, refl, suc-add, subst, sym, ◌∙◌, arith}
use Rattle.std.proofs.lemmas.List.Elements.{All-cons, All-head, All-nil, All-tail}
use Rattle.reset_tokens.specs.TokenVerdict.{token_verdict}
use Rattle.ledger_rows.specs.MailSteps.{is_mailed, mailed_users, put_mails, reset_mail, reset_mails, reset_row}
use Rattle.ledger_rows.specs.Rows.{IsSoundUser}
use Rattle.ledger_rows.specs.Step.{check_reply, token_reply}
use Rattle.ledger_rows.specs.Tables.{Tables, put_mail, user_of, users_of_email}
use Rattle.ledger_rows.specs.declared.operation.Op.TheVariants.{CheckReset, MakeReset}
use Rattle.ledger_rows.specs.declared.reply.Reply.{Reply}
use Rattle.ledger_rows.specs.declared.reply.Reply.TheVariants.{Mailed}
use Rattle.ledger_rows.specs.declared.rows.Cfg.{Cfg}
use Rattle.ledger_rows.specs.declared.rows.MailRow.{MailRow}
use Rattle.ledger_rows.specs.declared.rows.UserRow.{UserRow}
use Rattle.keepers.specs.Keeper.{Contents, IsOrdered, IsSoundChange, Kept, OnHolding, changed_by, next_ids_of}
use Rattle.keepers.specs.declared.keeper.NextIds.{NextIds}
use Rattle.keepers.specs.declared.change.Change.{Change}
use Rattle.keepers.specs.declared.change.Change.TheVariants.{PutMail}
use Rattle.session_engines.proofs.AnswerLemmas.{answer-by, on_any, on_holding, on_holding_both}
use Rattle.session_engines.proofs.UserLemmas.{looked-up-answer}
use Rattle.session_engines.specs.Mailing.{IsMailing, IsTokenReply, put_changes}
use Rattle.session_engines.specs.Taking.{IsAnswer}
use Rattle.session_engines.specs.declared.answer.Answer.{Answer}

-- ---- the changes

-- the first of the users to come was mailed
pub mails-next : (changes pushed all : List Change) (keys : List (List ℕ)) (now id : ℕ) (users : List UserRow) (index : ℕ) (user : UserRow) (mail : MailRow)
    → index < length users → user ≡ get_or users index user → mail ≡ reset_mail keys now id user → pushed ≡ changes ++ PutMail mail ∷ []
    → changes ++ put_changes (reset_mails keys now id (drop index users)) ≡ all
    → pushed ++ put_changes (reset_mails keys now (id + 1) (drop (index + 1) users)) ≡ all
mails-next changes pushed all keys now id users index user mail low is made push before =
    let rest = drop (suc index) users in
    let split : drop index users ≡ user ∷ rest = drop-cons users index user low ∙ ap (λ (u : UserRow). u ∷ rest) (sym is) in
    ap (λ (p : List Change). p ++ put_changes (reset_mails keys now (id + 1) (drop (index + 1) users))) (push ∙ ap (λ (m : MailRow). changes ++ PutMail m ∷ []) made)
    ∙ append_assoc changes (PutMail (reset_mail keys now id user) ∷ []) (put_changes (reset_mails keys now (id + 1) (drop (index + 1) users)))
    ∙ ap (λ n. changes ++ PutMail (reset_mail keys now id user) ∷ put_changes (reset_mails keys now n (drop (index + 1) users))) (add-one id)
    ∙ ap (λ n. changes ++ PutMail (reset_mail keys now id user) ∷ put_changes (reset_mails keys now (suc id) (drop n users))) (add-one index)
    ∙ ap (λ (us : List UserRow). changes ++ put_changes (reset_mails keys now id us)) (sym split)
    ∙ before

-- all users were mailed
pub mails-done : (changes all : List Change) (keys : List (List ℕ)) (now id : ℕ) (users : List UserRow)
    (index : ℕ)
    → length users ≤ index → changes ++ put_changes (reset_mails keys now id (drop index users)) ≡ all → changes ≡ all
mails-done changes all keys now id users index end before =
    sym (append-nil changes) ∙ ap (λ (us : List UserRow). changes ++ put_changes (reset_mails keys now id us)) (sym (drop_of_length-le users end)) ∙ before

-- ---- what they do to the tables

raised : (id : ℕ) → max id (id + 1) ≡ suc id
raised id = omega arith

mails-changed : (keys : List (List ℕ)) (now first : ℕ) (users : List UserRow) (tables : Tables) → first ≡ tables.next_mail
    → changed_by (put_changes (reset_mails keys now first users)) tables
    ≡ record tables { mails = put_mails tables.mails (reset_mails keys now first users); next_mail = first + length users }
mails-changed keys now first [] tables is = ap (λ n. record tables { next_mail = n }) (sym is ∙ sym (add-zero first))
mails-changed keys now first (user ∷ users) tables is =
    let mail = reset_mail keys now first user in
    let put : Tables = record tables { mails = put_mail tables.mails mail; next_mail = suc first } in
    ap (λ n. changed_by (put_changes (reset_mails keys now (suc first) users)) (record tables { mails = put_mail tables.mails mail; next_mail = max n (first + 1) })) (sym is)
    ∙ ap (λ n. changed_by (put_changes (reset_mails keys now (suc first) users)) (record tables { mails = put_mail tables.mails mail; next_mail = n })) (raised first)
    ∙ mails-changed keys now (suc first) users put refl
    ∙ ap (λ n. record tables { mails = put_mails (put_mail tables.mails mail) (reset_mails keys now (suc first) users); next_mail = n }) (suc-add first (length users) ∙ sym (add-suc first (length users)))

mails-sound : (keys : List (List ℕ)) (now first : ℕ) (users : List UserRow) → All IsSoundUser users → first + length users ≤ 2 ^ 62
    → All IsSoundChange (put_changes (reset_mails keys now first users))
mails-sound keys now first [] sound fits = All-nil IsSoundChange
mails-sound keys now first (user ∷ users) sound fits =
    All-cons IsSoundChange (PutMail (reset_mail keys now first user)) (put_changes (reset_mails keys now (suc first) users))
    (record { id = omega (arith, fits); to = (All-head IsSoundUser user users sound).email })
    (mails-sound keys now (suc first) users (All-tail IsSoundUser user users sound) (omega (arith, fits)))

-- ---- the whole

mailing-answers : (cfg : Cfg) (kept : Kept) (email : List ℕ) (now : ℕ) (keys : List (List ℕ)) (users : List UserRow) (first : ℕ) (answer : Answer)
    → All IsSoundUser users → IsMailing keys users first now answer
    → OnHolding kept.report (λ contents. users ≡ mailed_users contents.tables.users email)
    → OnHolding kept.report (λ contents. keys ≡ contents.tables.keys)
    → OnHolding kept.report (λ contents. first ≡ contents.tables.next_mail)
    → IsAnswer cfg (MakeReset email now) kept answer
mailing-answers cfg kept email now keys users first answer sound mailing users_are keys_are first_is =
    let Users : Contents → Type 0 = λ contents. users ≡ mailed_users contents.tables.users email in
    let Keys : Contents → Type 0 = λ contents. keys ≡ contents.tables.keys in
    let First : Contents → Type 0 = λ contents. first ≡ contents.tables.next_mail in
    let both : OnHolding kept.report (λ contents. Users contents × Keys contents) =
    on_holding_both kept.report Users Keys (λ contents. Users contents × Keys contents) users_are keys_are (λ contents u k. (u, k)) in
    let all : OnHolding kept.report (λ contents. (Users contents × Keys contents) × First contents) =
    on_holding_both kept.report (λ contents. Users contents × Keys contents) First (λ contents. (Users contents × Keys contents) × First contents) both first_is (λ contents a b. (a, b)) in
    answer-by cfg (MakeReset email now) kept answer (Mailed (length users)) (put_changes (reset_mails keys now first users))
    (λ contents. (Users contents × Keys contents) × First contents) mailing.reply mailing.changes tt (mails-sound keys now first users sound mailing.fits) all
    (λ contents p. ap (λ (us : List UserRow). Mailed (length us)) p.0.0)
    (λ contents p.
    mails-changed keys now first users contents.tables p.1
    ∙ ap (λ (us : List UserRow). record contents.tables { mails = put_mails contents.tables.mails (reset_mails keys now first us); next_mail = first + length us }) p.0.0
    ∙ ap (λ (ks : List (List ℕ)). record contents.tables {
      mails = put_mails contents.tables.mails (reset_mails ks now first (mailed_users contents.tables.users email));
      next_mail = first + length (mailed_users contents.tables.users email);
    }) p.0.1
    ∙ ap (λ n. record contents.tables {
      mails = put_mails contents.tables.mails (reset_mails contents.tables.keys now n (mailed_users contents.tables.users email));
      next_mail = n + length (mailed_users contents.tables.users email);
    }) p.1)

-- the same of what was found, after calls that only read
pub mailing-found : (cfg : Cfg) (kept second third : Kept) (email text : List ℕ) (now : ℕ) (keys : List (List ℕ)) (users mailed listed : List UserRow) (ids : NextIds) (found : Option Answer)
    → second ≡ kept → third ≡ second → text ≡ email → mailed ≡ filter is_mailed users → listed ≡ mailed → All IsSoundUser mailed
    → OnHolding kept.report (λ contents. users ≡ users_of_email contents.tables.users text)
    → OnHolding second.report (λ contents. keys ≡ contents.tables.keys)
    → OnHolding third.report (λ contents. ids ≡ next_ids_of contents.tables)
    → IfSome found (IsMailing keys listed ids.mail now) → IfSome found (IsAnswer cfg (MakeReset email now) kept)
mailing-found cfg kept second third email text now keys users mailed listed ids None same later text_is mailed_is listed_is sound users_are keys_are ids_are mailing = tt
mailing-found cfg kept second third email text now keys users mailed listed ids (Some answer) same later text_is mailed_is listed_is sound users_are keys_are ids_are mailing =
    mailing-answers cfg kept email now keys mailed ids.mail answer sound
    (subst (λ (us : List UserRow). IsMailing keys us ids.mail now answer) listed_is mailing)
    (on_holding kept.report (λ contents. users ≡ users_of_email contents.tables.users text) (λ contents. mailed ≡ mailed_users contents.tables.users email) users_are
    (λ contents is. mailed_is ∙ ap (λ (us : List UserRow). filter is_mailed us) is ∙ ap (λ t. mailed_users contents.tables.users t) text_is))
    (subst (λ (k : Kept). OnHolding k.report (λ contents. keys ≡ contents.tables.keys)) same keys_are)
    (on_holding kept.report (λ contents. ids ≡ next_ids_of contents.tables) (λ contents. ids.mail ≡ contents.tables.next_mail)
    (subst (λ (k : Kept). OnHolding k.report (λ contents. ids ≡ next_ids_of contents.tables)) (later ∙ same) ids_are)
    (λ contents is. ap (λ (i : NextIds). i.mail) is))

-- ---- the check of a token

pub checked-answer : (cfg : Cfg) (kept later : Kept) (answer : Answer) (user : ℕ) (token text : List ℕ) (now : ℕ) (row : UserRow) (keys : List (List ℕ)) (reply : Reply)
    → later ≡ kept → text ≡ token → answer.reply ≡ reply → answer.changes.items ≡ [] → IsTokenReply reply
    → OnHolding kept.report (λ contents. Some row ≡ user_of contents.tables.users user) → IsOrdered kept.report
    → OnHolding later.report (λ contents. keys ≡ contents.tables.keys)
    → reply ≡ token_reply keys row (token_verdict (reset_row row) keys text now) → IsAnswer cfg (CheckReset user token now) kept answer
checked-answer cfg kept later answer user token text now row keys reply same text_is reply_is none kind looked ordered keys_are value =
    looked-up-answer cfg (CheckReset user token now) kept answer reply [] (λ tables. user_of tables.users user) (Some row)
    (λ tables found. check_reply tables.keys found token now) (λ tables found. tables) reply_is none kind (All-nil IsSoundChange) looked ordered
    (on_holding kept.report (λ contents. keys ≡ contents.tables.keys) (λ contents. reply ≡ check_reply contents.tables.keys (Some row) token now)
    (subst (λ (k : Kept). OnHolding k.report (λ contents. keys ≡ contents.tables.keys)) same keys_are)
    (λ contents is.
    value ∙ ap (λ t. token_reply keys row (token_verdict (reset_row row) keys t now)) text_is
    ∙ ap (λ (ks : List (List ℕ)). token_reply ks row (token_verdict (reset_row row) ks token now)) is))
    (on_any kept.report _ (λ contents order found. refl)) (λ tables. refl) (λ tables. refl)
