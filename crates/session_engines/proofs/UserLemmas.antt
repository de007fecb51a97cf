-- The answers to the operations on users, by the row that was looked up.
use Rattle.std.proofs.Common.{◌≡◌, ◌<◌, ◌+◌, ◌==◌, ℕ, max, not, Bool, true, false, Ordering, Less, Equal, Greater, List, [], ◌∷◌, Option, Some, All, Contains, ap, IfOk, IfSome, if◌then◌else◌, Result, Ok, Err, refl, subst, sym, ◌∙◌, arith}
use Rattle.std.proofs.lemmas.List.Elements.{All-cons, All-contains, All-filter, All-head, All-nil, All-tail}
use Rattle.std.specs.Ordering.{match_ordering, nat_cmp}
use Rattle.crypto_text.specs.Moment.{IsMoment}
use Rattle.pass_hashers.specs.PasswordText.{IsPasswordText}
use Rattle.ledger_rows.specs.Replies.{IsReplyOf}
use Rattle.ledger_rows.specs.Rows.{AreInOrder, IsNumber, IsSoundUser, IsUserBefore}
use Rattle.ledger_rows.specs.Step.{reply_to, tables_after}
use Rattle.ledger_rows.specs.Tables.{Tables, group_named, put_user, user_named, user_of}
use Rattle.ledger_rows.specs.UserSteps.{has_password, id_of_group, membership, membership_reply, password_reply, regrouped, repassworded, rewritten, row_reply, with_active, with_id, with_last_login, with_membership, with_password}
use Rattle.ledger_rows.specs.declared.operation.Op.{Op}
use Rattle.ledger_rows.specs.declared.operation.Op.TheVariants.{SetActive, SetLastLogin, SetMembership, SetPassword}
use Rattle.ledger_rows.specs.declared.reply.Reply.{Reply}
use Rattle.ledger_rows.specs.declared.reply.Reply.TheVariants.{Done}
use Rattle.ledger_rows.specs.declared.rows.Cfg.{Cfg}
use Rattle.ledger_rows.specs.declared.rows.UserRow.{UserRow}
use Rattle.keepers.specs.Keeper.{Contents, IsOrdered, IsSoundChange, Kept, OnHolding, changed_by}
use Rattle.keepers.specs.declared.change.Change.{Change}
use Rattle.keepers.specs.declared.change.Change.TheVariants.{PutUser}
use Rattle.session_engines.proofs.AnswerLemmas.{answer-by, on_any, on_holding, on_holding_both}
use Rattle.ledger_rows.proofs.UserLemmas.{user_named-Contains, user_of-Contains}
use Rattle.session_engines.specs.Taking.{IsAnswer, uncached}
use Rattle.session_engines.specs.UserChange.{IsPasswordReply, repassword_changes}
use Rattle.session_engines.specs.declared.answer.Answer.{Answer}

-- an answer by a row, or by its absence
pub looked-up-answer : (cfg : Cfg) (op : Op) (kept : Kept) (answer : Answer) (reply : Reply) (changes : List Change) (look : Tables → Option UserRow)
    (found : Option UserRow) (replies : Tables → Option UserRow → Reply) (leaves : Tables → Option UserRow → Tables)
    → answer.reply ≡ reply → answer.changes.items ≡ changes → IsReplyOf op reply → All IsSoundChange changes
    → OnHolding kept.report (λ contents. found ≡ look contents.tables) → IsOrdered kept.report
    → OnHolding kept.report (λ contents. reply ≡ replies contents.tables found)
    → OnHolding kept.report (λ contents. AreInOrder contents.tables → found ≡ look contents.tables → changed_by changes contents.tables ≡ leaves contents.tables found)
    → ((tables : Tables) → replies tables (look tables) ≡ reply_to cfg op (uncached tables))
    → ((tables : Tables) → leaves tables (look tables) ≡ tables_after cfg.engine op tables)
    → IsAnswer cfg op kept answer
looked-up-answer cfg op kept answer reply changes look found replies leaves reply_is changes_are kind sound looked ordered replied left replies_are leaves_are =
    let Found : Contents → Type 0 = λ contents. found ≡ look contents.tables in
    let Ordered : Contents → Type 0 = λ contents. AreInOrder contents.tables in
    let Replied : Contents → Type 0 = λ contents. reply ≡ replies contents.tables found in
    let Left : Contents → Type 0 = λ contents. AreInOrder contents.tables → found ≡ look contents.tables → changed_by changes contents.tables ≡ leaves contents.tables found in
    let first : OnHolding kept.report (λ contents. Found contents × Ordered contents) =
    on_holding_both kept.report Found Ordered (λ contents. Found contents × Ordered contents) looked ordered (λ contents f o. (f, o)) in
    let second : OnHolding kept.report (λ contents. Replied contents × Left contents) =
    on_holding_both kept.report Replied Left (λ contents. Replied contents × Left contents) replied left (λ contents r l. (r, l)) in
    let all : OnHolding kept.report (λ contents. (Found contents × Ordered contents) × (Replied contents × Left contents)) =
    on_holding_both kept.report (λ contents. Found contents × Ordered contents) (λ contents. Replied contents × Left contents)
    (λ contents. (Found contents × Ordered contents) × (Replied contents × Left contents)) first second (λ contents a b. (a, b)) in
    answer-by cfg op kept answer reply changes (λ contents. (Found contents × Ordered contents) × (Replied contents × Left contents)) reply_is changes_are kind sound all
    (λ contents p. p.1.0 ∙ ap (replies contents.tables) p.0.0 ∙ replies_are contents.tables)
    (λ contents p. p.1.1 p.0.1 p.0.0 ∙ ap (leaves contents.tables) p.0.0 ∙ leaves_are contents.tables)

-- a row that was found, as the look-up has it
pub some_looked : (kept : Kept) (look : Tables → Option UserRow) (found : Option UserRow) (row : UserRow) → found ≡ Some row
    → OnHolding kept.report (λ contents. found ≡ look contents.tables) → OnHolding kept.report (λ contents. Some row ≡ look contents.tables)
some_looked kept look found row is looked =
    on_holding kept.report (λ contents. found ≡ look contents.tables) (λ contents. Some row ≡ look contents.tables) looked (λ contents same. sym is ∙ same)

-- the same of a group's id, after a call that only read
pub some_grouped : (kept later : Kept) (group : List ℕ) (found : Option ℕ) (id : ℕ) → later ≡ kept → found ≡ Some id
    → OnHolding later.report (λ contents. found ≡ id_of_group (group_named contents.tables.groups group))
    → OnHolding kept.report (λ contents. Some id ≡ id_of_group (group_named contents.tables.groups group))
some_grouped kept later group found id same is looked =
    on_holding kept.report (λ contents. found ≡ id_of_group (group_named contents.tables.groups group))
    (λ contents. Some id ≡ id_of_group (group_named contents.tables.groups group))
    (subst (λ (k : Kept). OnHolding k.report (λ contents. found ≡ id_of_group (group_named contents.tables.groups group))) same looked) (λ contents held. sym is ∙ held)

pub some_number : (found : Option ℕ) (id : ℕ) → found ≡ Some id → IfSome found IsNumber → IsNumber id
some_number found id is number = subst (λ (f : Option ℕ). IfSome f IsNumber) is number

pub some_sound : (found : Option UserRow) (row : UserRow) → found ≡ Some row → IfSome found IsSoundUser → IsSoundUser row
some_sound found row is sound = subst (λ (f : Option UserRow). IfSome f IsSoundUser) is sound

-- ---- a row that is put in again

sound_put : (row : UserRow) → IsSoundUser row → All IsSoundChange (PutUser row ∷ [])
sound_put row sound = All-cons IsSoundChange (PutUser row) [] sound (All-nil IsSoundChange)

raised : (next id : ℕ) → id < next → max next (id + 1) ≡ next
raised next id low = omega (arith, low)

-- the next id is above its id
put-stays : (tables : Tables) (row fresh : UserRow) → AreInOrder tables → Contains tables.users row → fresh.id ≡ row.id
    → changed_by (PutUser fresh ∷ []) tables ≡ record tables { users = put_user tables.users fresh }
put-stays tables row fresh order within same =
    let low : row.id < tables.next_user = All-contains (IsUserBefore tables.next_user) tables.users row order.next_user within in
    ap (λ next. record tables { users = put_user tables.users fresh; next_user = next })
    (raised tables.next_user fresh.id (subst (λ id. id < tables.next_user) (sym same) low))

rewritten-answer : (cfg : Cfg) (op : Op) (kept : Kept) (answer : Answer) (look : Tables → Option UserRow) (row : UserRow) (change : UserRow → UserRow)
    → answer.reply ≡ Done → answer.changes.items ≡ PutUser (change row) ∷ [] → IsReplyOf op Done → IsSoundUser (change row) → (change row).id ≡ row.id
    → ((tables : Tables) (row : UserRow) → look tables ≡ Some row → Contains tables.users row)
    → OnHolding kept.report (λ contents. Some row ≡ look contents.tables) → IsOrdered kept.report
    → ((tables : Tables) → row_reply (look tables) ≡ reply_to cfg op (uncached tables))
    → ((tables : Tables) → record tables { users = rewritten tables.users (look tables) change } ≡ tables_after cfg.engine op tables)
    → IsAnswer cfg op kept answer
rewritten-answer cfg op kept answer look row change reply changes kind sound same within looked ordered replies leaves =
    looked-up-answer cfg op kept answer Done (PutUser (change row) ∷ []) look (Some row) (λ tables found. row_reply found)
    (λ tables found. record tables { users = rewritten tables.users found change }) reply changes kind (sound_put (change row) sound) looked ordered
    (on_any kept.report (λ contents. Done ≡ row_reply (Some row)) (λ contents. refl))
    (on_any kept.report _ (λ contents order is. put-stays contents.tables row (change row) order (within contents.tables row (sym is)) same))
    replies leaves

login-sound : (row : UserRow) (now : ℕ) → IsSoundUser row → IsMoment now → IsSoundUser (with_last_login now row)
login-sound row now sound moment = record {
  id = sound.id;
  name = sound.name;
  email = sound.email;
  password = sound.password;
  last_login = moment;
  groups = sound.groups;
  perms = sound.perms;
}

active-sound : (row : UserRow) (active : Bool) → IsSoundUser row → IsSoundUser (with_active active row)
active-sound row active sound = record {
  id = sound.id;
  name = sound.name;
  email = sound.email;
  password = sound.password;
  last_login = sound.last_login;
  groups = sound.groups;
  perms = sound.perms;
}

pub login-answer : (cfg : Cfg) (kept : Kept) (answer : Answer) (user now : ℕ) (row : UserRow) → answer.reply ≡ Done
    → answer.changes.items ≡ PutUser (with_last_login now row) ∷ [] → IsSoundUser row → IsMoment now
    → OnHolding kept.report (λ contents. Some row ≡ user_of contents.tables.users user) → IsOrdered kept.report → IsAnswer cfg (SetLastLogin user now) kept answer
login-answer cfg kept answer user now row reply changes sound moment looked ordered =
    rewritten-answer cfg (SetLastLogin user now) kept answer (λ tables. user_of tables.users user) row (with_last_login now) reply changes tt
    (login-sound row now sound moment) refl (λ tables found is. user_of-Contains tables.users user found is) looked ordered (λ tables. refl) (λ tables. refl)

pub active-answer : (cfg : Cfg) (kept : Kept) (answer : Answer) (name : List ℕ) (active : Bool) (row : UserRow) → answer.reply ≡ Done
    → answer.changes.items ≡ PutUser (with_active active row) ∷ [] → IsSoundUser row
    → OnHolding kept.report (λ contents. Some row ≡ user_named contents.tables.users name) → IsOrdered kept.report → IsAnswer cfg (SetActive name active) kept answer
active-answer cfg kept answer name active row reply changes sound looked ordered =
    rewritten-answer cfg (SetActive name active) kept answer (λ tables. user_named tables.users name) row (with_active active) reply changes tt
    (active-sound row active sound) refl (λ tables found is. user_named-Contains tables.users name found is) looked ordered (λ tables. refl) (λ tables. refl)

-- ---- ids of groups

All-matched : (P : ℕ → Type 0) (o : Ordering) (a b c : List ℕ) → All P a → All P b → All P c → All P (match_ordering o a b c)
All-matched P Less a b c x y z = x
All-matched P Equal a b c x y z = y
All-matched P Greater a b c x y z = z

All-with_id : (P : ℕ → Type 0) (ids : List ℕ) (id : ℕ) → All P ids → P id → All P (with_id ids id)
All-with_id P [] id all new = All-cons P id [] new all
All-with_id P (first ∷ rest) id all new =
    All-matched P (nat_cmp first id) (first ∷ with_id rest id) (first ∷ rest) (id ∷ first ∷ rest)
    (All-cons P first (with_id rest id) (All-head P first rest all) (All-with_id P rest id (All-tail P first rest all) new))
    all (All-cons P id (first ∷ rest) new all)

All-membership : (ids : List ℕ) (id : ℕ) (member : Bool) → All IsNumber ids → IsNumber id → All IsNumber (membership ids id member)
All-membership ids id true all new = All-with_id IsNumber ids id all new
All-membership ids id false all new = All-filter (λ (other : ℕ). not (other == id)) IsNumber ids all

membership-sound : (row : UserRow) (group : ℕ) (member : Bool) → IsSoundUser row → IsNumber group → IsSoundUser (with_membership group member row)
membership-sound row group member sound number = record {
  id = sound.id;
  name = sound.name;
  email = sound.email;
  password = sound.password;
  last_login = sound.last_login;
  groups = All-membership row.groups group member sound.groups number;
  perms = sound.perms;
}

-- the tables with membership of the group of a name
regrouped_tables : List ℕ → Bool → Tables → Option UserRow → Tables
regrouped_tables group member tables found = record tables { users = regrouped tables.users found (id_of_group (group_named tables.groups group)) member }

regroup_reply : List ℕ → Tables → Option UserRow → Reply
regroup_reply group tables found = membership_reply found (id_of_group (group_named tables.groups group))

pub regrouped-answer : (cfg : Cfg) (kept : Kept) (answer : Answer) (name group : List ℕ) (member : Bool) (row : UserRow) (id : ℕ)
    → answer.reply ≡ Done → answer.changes.items ≡ PutUser (with_membership id member row) ∷ [] → IsSoundUser row → IsNumber id
    → OnHolding kept.report (λ contents. Some row ≡ user_named contents.tables.users name) → IsOrdered kept.report
    → OnHolding kept.report (λ contents. Some id ≡ id_of_group (group_named contents.tables.groups group))
    → IsAnswer cfg (SetMembership name group member) kept answer
unfolding regrouped_tables regroup_reply
regrouped-answer cfg kept answer name group member row id reply changes sound number looked ordered grouped =
    looked-up-answer cfg (SetMembership name group member) kept answer Done (PutUser (with_membership id member row) ∷ []) (λ tables. user_named tables.users name) (Some row)
    (regroup_reply group) (regrouped_tables group member) reply changes tt (sound_put (with_membership id member row) (membership-sound row id member sound number)) looked ordered
    (on_holding kept.report (λ contents. Some id ≡ id_of_group (group_named contents.tables.groups group)) (λ contents. Done ≡ regroup_reply group contents.tables (Some row)) grouped
    (λ contents is. ap (λ found. membership_reply (Some row) found) is))
    (on_holding kept.report (λ contents. Some id ≡ id_of_group (group_named contents.tables.groups group)) _ grouped
    (λ contents is order found.
    put-stays contents.tables row (with_membership id member row) order (user_named-Contains contents.tables.users name row (sym found)) refl
    ∙ ap (λ g. record contents.tables { users = regrouped contents.tables.users (Some row) g member }) is))
    (λ tables. refl) (λ tables. refl)

-- ---- a new password text

repassworded_tables : List ℕ → List ℕ → Tables → Option UserRow → Tables
repassworded_tables expected fresh tables found = record tables { users = repassworded tables.users found expected fresh }

repassword-left : (tables : Tables) (row : UserRow) (expected fresh : List ℕ) (same : Bool) → AreInOrder tables → Contains tables.users row
    → changed_by (if same then PutUser (with_password fresh row) ∷ [] else []) tables
    ≡ record tables { users = if same then put_user tables.users (with_password fresh row) else tables.users }
repassword-left tables row expected fresh true order within = put-stays tables row (with_password fresh row) order within refl
repassword-left tables row expected fresh false order within = refl

repassword_sound : (row : UserRow) (fresh : List ℕ) (same : Bool) → IsSoundUser row → IsPasswordText fresh
    → All IsSoundChange (if same then PutUser (with_password fresh row) ∷ [] else [])
repassword_sound row fresh true sound text = sound_put (with_password fresh row) (record {
  id = sound.id;
  name = sound.name;
  email = sound.email;
  password = text;
  last_login = sound.last_login;
  groups = sound.groups;
  perms = sound.perms;
})
repassword_sound row fresh false sound text = All-nil IsSoundChange

repassword-answer : (cfg : Cfg) (kept : Kept) (answer : Answer) (user : ℕ) (expected fresh : List ℕ) (row : UserRow)
    → answer.changes.items ≡ repassword_changes row expected fresh → IsPasswordReply answer.reply → IsSoundUser row → IsPasswordText fresh
    → OnHolding kept.report (λ contents. Some row ≡ user_of contents.tables.users user) → IsOrdered kept.report
    → OnHolding kept.report (λ contents. answer.reply ≡ password_reply contents.tables.keys (Some row) expected fresh)
    → IsAnswer cfg (SetPassword user expected fresh) kept answer
unfolding repassworded_tables
repassword-answer cfg kept answer user expected fresh row changes kind sound text looked ordered replied =
    looked-up-answer cfg (SetPassword user expected fresh) kept answer answer.reply (repassword_changes row expected fresh) (λ tables. user_of tables.users user) (Some row)
    (λ tables found. password_reply tables.keys found expected fresh) (repassworded_tables expected fresh) refl changes
    kind (repassword_sound row fresh (has_password expected row) sound text) looked ordered replied
    (on_any kept.report _ (λ contents order found.
    repassword-left contents.tables row expected fresh (has_password expected row) order (user_of-Contains contents.tables.users user row (sym found))))
    (λ tables. refl) (λ tables. refl)

-- the same of a result, after a call that only read
pub repassword-result : {E : Type 0} (cfg : Cfg) (kept later : Kept) (result : Result Answer E) (user : ℕ) (expected fresh : List ℕ) (row : UserRow)
    → later ≡ kept → IfOk result (λ answer. answer.changes.items ≡ repassword_changes row expected fresh) → IfOk result (λ answer. IsPasswordReply answer.reply)
    → IsSoundUser row → IsPasswordText fresh
    → OnHolding kept.report (λ contents. Some row ≡ user_of contents.tables.users user) → IsOrdered kept.report
    → IfOk result (λ answer. OnHolding later.report (λ contents. answer.reply ≡ password_reply contents.tables.keys (Some row) expected fresh))
    → IfOk result (IsAnswer cfg (SetPassword user expected fresh) kept)
repassword-result cfg kept later (Ok answer) user expected fresh row same changes kind sound text looked ordered replied =
    repassword-answer cfg kept answer user expected fresh row changes kind sound text looked ordered
    (subst (λ (k : Kept). OnHolding k.report (λ contents. answer.reply ≡ password_reply contents.tables.keys (Some row) expected fresh)) same replied)
repassword-result cfg kept later (Err fault) user expected fresh row same changes kind sound text looked ordered replied = tt
