-- What the changes of a commit do to the tables.
use Rattle.std.proofs.Common.{◌≡◌, ◌+◌, ℕ, max, List, [], ◌∷◌, All, ap, sym, ◌∙◌}
use Rattle.std.proofs.lemmas.List.Elements.{All-filter, All-head, All-tail}
use Rattle.std.specs.Prelude.{not}
use Rattle.ledger_rows.specs.Rows.{AreSound, IsSoundMail, IsSoundSession, IsSoundUser}
use Rattle.ledger_rows.specs.SessionSteps.{is_over, without_expired}
use Rattle.ledger_rows.specs.Tables.{Tables, put_mail, put_session, put_user, without_mail, without_session}
use Rattle.ledger_rows.specs.declared.rows.MailRow.{MailRow}
use Rattle.ledger_rows.specs.declared.rows.SessionRow.{SessionRow}
use Rattle.ledger_rows.specs.declared.rows.UserRow.{UserRow}
use Rattle.ledger_rows.proofs.TableLemmas.{All-put_mail, All-put_session, All-put_user, All-without_mail, All-without_session}
use Rattle.keepers.specs.Keeper.{IsSoundChange, changed, changed_by}
use Rattle.keepers.specs.declared.change.Change.{Change}
use Rattle.keepers.specs.declared.change.Change.TheVariants.{DropExpired, DropMail, DropSession, PutBoot, PutKeys, PutMail, PutSession, PutUser}

-- ---- one after another

-- the first of the changes to come was made
pub changed_by-next : (before after : List Change) (change : Change) (old new done : Tables) → before ≡ change ∷ after → new ≡ changed old change
    → changed_by before old ≡ done → changed_by after new ≡ done
changed_by-next before after change old new done first is all = ap (changed_by after) is ∙ ap (λ changes. changed_by changes old) (sym first) ∙ all

-- ---- rows stay sound

with_users : (tables : Tables) (users : List UserRow) (next : ℕ) → AreSound tables → All IsSoundUser users
    → AreSound (record tables { users = users; next_user = next })
with_users tables users next sound all = record {
  users = all;
  groups = sound.groups;
  perms = sound.perms;
  sessions = sound.sessions;
  mails = sound.mails;
  boot = sound.boot;
}

with_sessions : (tables : Tables) (sessions : List SessionRow) → AreSound tables → All IsSoundSession sessions → AreSound (record tables { sessions = sessions })
with_sessions tables sessions sound all = record {
  users = sound.users;
  groups = sound.groups;
  perms = sound.perms;
  sessions = all;
  mails = sound.mails;
  boot = sound.boot;
}

with_mails : (tables : Tables) (mails : List MailRow) (next : ℕ) → AreSound tables → All IsSoundMail mails
    → AreSound (record tables { mails = mails; next_mail = next })
with_mails tables mails next sound all = record {
  users = sound.users;
  groups = sound.groups;
  perms = sound.perms;
  sessions = sound.sessions;
  mails = all;
  boot = sound.boot;
}

pub changed-sound : (tables : Tables) (change : Change) → IsSoundChange change → AreSound tables → AreSound (changed tables change)
changed-sound tables (PutSession row) is sound =
    with_sessions tables (put_session tables.sessions row) sound (All-put_session IsSoundSession tables.sessions row sound.sessions is)
changed-sound tables (DropSession key) is sound =
    with_sessions tables (without_session tables.sessions key) sound (All-without_session IsSoundSession tables.sessions key sound.sessions)
changed-sound tables (DropExpired now) is sound =
    with_sessions tables (without_expired tables.sessions now) sound
    (All-filter (λ (row : SessionRow). not (is_over now row)) IsSoundSession tables.sessions sound.sessions)
changed-sound tables (PutUser row) is sound =
    with_users tables (put_user tables.users row) (max tables.next_user (row.id + 1)) sound (All-put_user IsSoundUser tables.users row sound.users is)
changed-sound tables (PutMail row) is sound =
    with_mails tables (put_mail tables.mails row) (max tables.next_mail (row.id + 1)) sound (All-put_mail IsSoundMail tables.mails row sound.mails is)
changed-sound tables (DropMail id) is sound =
    with_mails tables (without_mail tables.mails id) tables.next_mail sound (All-without_mail IsSoundMail tables.mails id sound.mails)
changed-sound tables (PutKeys keys) is sound = record {
  users = sound.users;
  groups = sound.groups;
  perms = sound.perms;
  sessions = sound.sessions;
  mails = sound.mails;
  boot = sound.boot;
}
changed-sound tables (PutBoot boot) is sound = record {
  users = sound.users;
  groups = sound.groups;
  perms = sound.perms;
  sessions = sound.sessions;
  mails = sound.mails;
  boot = is;
}

pub changed_by-sound : (changes : List Change) (tables : Tables) → All IsSoundChange changes → AreSound tables → AreSound (changed_by changes tables)
changed_by-sound [] tables all sound = sound
changed_by-sound (change ∷ changes) tables all sound =
    changed_by-sound changes (changed tables change) (All-tail IsSoundChange change changes all)
    (changed-sound tables change (All-head IsSoundChange change changes all) sound)
