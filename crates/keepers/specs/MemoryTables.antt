-- What the tables of a keeper in memory are seen as, and whether rows can be put in without memory.
use Rattle.std.specs.Prelude.{◌+◌, ◌≤◌, ℕ, vec_capacity, vec_len}
use Rattle.ledger_rows.specs.Tables.{Tables}
use Rattle.keepers.specs.declared.memory_rows.Rows.{Rows}

abbrev pub tables_of : Rows → Tables
tables_of rows = record {
  keys = rows.keys;
  users = rows.users.items;
  groups = rows.groups;
  perms = rows.perms;
  sessions = rows.sessions.items;
  mails = rows.mails.items;
  boot = rows.boot;
  next_user = rows.next_user;
  next_mail = rows.next_mail;
}

-- there is room for so many rows more in each table that rows are put into
pub record HasRoomFor (rows : Rows) (more : ℕ) : Type 0 where
  pub users : vec_len rows.users + more ≤ vec_capacity rows.users
  pub sessions : vec_len rows.sessions + more ≤ vec_capacity rows.sessions
  pub mails : vec_len rows.mails + more ≤ vec_capacity rows.mails
