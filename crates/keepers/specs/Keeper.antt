-- What a keeper of the store reports of itself, and what its calls do to that.
use Rattle.std.specs.Prelude.{◌≡◌, ◌≢◌, ◌+◌, ℕ, max, List, [], ◌∷◌, ◌++◌, fold, length, Result, Ok, Err, IfOk, ⊤}
use Rattle.crypto_text.specs.TextList.{AreDifferent}
use Rattle.outside.specs.Faults.{Rose}
use Rattle.ledger_rows.specs.Opening.{names_of_users}
use Rattle.ledger_rows.specs.Tables.{Tables, opening_tables, put_mail, put_session, put_user, without_mail, without_session}
use Rattle.ledger_rows.specs.SessionSteps.{without_expired}
use Rattle.ledger_rows.specs.Rows.{AreInOrder, IsNumber, IsSoundMail, IsSoundSession, IsSoundUser}
use Rattle.ledger_rows.specs.declared.entry.Entry.{Entry}
use Rattle.ledger_rows.specs.declared.rows.Opening.{Opening}
use Rattle.keepers.specs.declared.change.Change.{Change}
use Rattle.keepers.specs.declared.change.Change.TheVariants.{DropExpired, DropMail, DropSession, PutBoot, PutKeys, PutMail, PutSession, PutUser}
use Rattle.keepers.specs.declared.keeper.KeeperFault.{KeeperFault}
use Rattle.keepers.specs.declared.keeper.KeeperFault.TheVariants.{Failed, Memory}
use Rattle.keepers.specs.declared.keeper.NextIds.{NextIds}

-- what a store holds: what it began with, its tables now, and its audit list
pub record Contents : Type 0 where
  pub opening : Opening
  pub tables : Tables
  pub entries : List Entry

-- what a keeper reports of its store: nothing at all, as a real database; that it is new; or what it holds
pub data Report : Type 0 where
  Unreported : Report
  Fresh : Report
  Holding : Contents → Report

-- what is seen of a keeper
pub record Kept : Type 0 where
  pub report : Report
  -- how many entries the audit list has
  pub entry_count : ℕ
  -- how many calls have failed
  pub faults : ℕ

-- what is seen of a new store that was never called and reports itself
abbrev pub unused : Kept
unused = record { report = Fresh; entry_count = 0; faults = 0 }

-- a fact about what is held, where that is reported
abbrev pub OnHolding : Report → (Contents → Type 0) → Type 0
OnHolding Unreported P = ⊤
OnHolding Fresh P = ⊤
OnHolding (Holding contents) P = P contents

-- it doesn't report that it holds something
abbrev pub MayBeFresh : Report → Type 0
MayBeFresh Unreported = ⊤
MayBeFresh Fresh = ⊤
MayBeFresh (Holding contents) = ⊥

-- it doesn't report that it is new
abbrev pub MayHold : Report → Type 0
MayHold report = report ≢ Fresh

-- a store that is reported has as many entries as its list, and a new one none
abbrev pub IsCounted : Report → ℕ → Type 0
IsCounted Unreported count = ⊤
IsCounted Fresh count = count ≡ 0
IsCounted (Holding contents) count = count ≡ length contents.entries

-- what a refusal does to the count of faults: it rose where the store failed, and else it is the same
abbrev pub CountsFault : KeeperFault → ℕ → ℕ → Type 0
CountsFault Failed before now = Rose before now
CountsFault Memory before now = now ≡ before

-- a call was refused: the store is as it was
pub record IsRefused (old new : Kept) (fault : KeeperFault) : Type 0 where
  pub report : new.report ≡ old.report
  pub entries : new.entry_count ≡ old.entry_count
  pub faults : CountsFault fault old.faults new.faults

-- a call that only reads
abbrev pub OnlyReads : {T : Type 0} → Kept → Kept → Result T KeeperFault → Type 0
OnlyReads old new (Ok value) = new ≡ old
OnlyReads old new (Err fault) = IsRefused old new fault

-- the answer is what the tables hold, where they are reported
abbrev pub Answers : {T : Type 0} → Kept → Result T KeeperFault → (Tables → T) → Type 0
Answers kept result value_in = IfOk result (λ value. OnHolding kept.report (λ contents. value ≡ value_in contents.tables))

-- the rows are in order, where they are reported
abbrev pub IsOrdered : Report → Type 0
IsOrdered report = OnHolding report (λ contents. AreInOrder contents.tables)

-- the ids that the next user and the next mail get
abbrev pub next_ids_of : Tables → NextIds
next_ids_of tables = record { user = tables.next_user; mail = tables.next_mail }

-- a new store holds its opening rows and no entry
abbrev pub opened : Opening → Contents
opened opening = record { opening = opening; tables = opening_tables opening; entries = [] }

-- the report after an opening was put into a store that was new
abbrev pub installed : Opening → Report → Report
installed opening Unreported = Unreported
installed opening Fresh = Holding (opened opening)
installed opening (Holding contents) = Holding contents

-- a call that puts in an opening
abbrev pub Installs : {T : Type 0} → Opening → Kept → Kept → Result T KeeperFault → Type 0
Installs opening old new (Ok done) = new ≡ record old { report = installed opening old.report }
Installs opening old new (Err fault) = IsRefused old new fault

-- the tables with one change
abbrev pub changed : Tables → Change → Tables
changed tables (PutSession row) = record tables { sessions = put_session tables.sessions row }
changed tables (DropSession key) = record tables { sessions = without_session tables.sessions key }
changed tables (DropExpired now) = record tables { sessions = without_expired tables.sessions now }
changed tables (PutUser row) = record tables { users = put_user tables.users row; next_user = max tables.next_user (row.id + 1) }
changed tables (PutMail row) = record tables { mails = put_mail tables.mails row; next_mail = max tables.next_mail (row.id + 1) }
changed tables (DropMail id) = record tables { mails = without_mail tables.mails id }
changed tables (PutKeys keys) = record tables { keys = keys }
changed tables (PutBoot boot) = record tables { boot = boot }

-- the tables with all changes, made in order
abbrev pub changed_by : List Change → Tables → Tables
changed_by changes tables = fold changed tables changes

-- the changes leave no two users of one name, if the rows are in order before
abbrev pub KeepsNamesOf : List Change → Tables → Type 0
KeepsNamesOf changes tables = AreInOrder tables → AreDifferent (names_of_users (changed_by changes tables).users)

-- the changes leave no two users of one name, where the rows are reported
abbrev pub KeepsNames : List Change → Report → Type 0
KeepsNames changes report = OnHolding report (λ contents. KeepsNamesOf changes contents.tables)

-- the changes were made and the entry was appended
abbrev pub appended : Entry → List Change → Contents → Contents
appended entry changes contents = record contents {
  tables = changed_by changes contents.tables;
  entries = contents.entries ++ entry ∷ [];
}

abbrev pub committed : Entry → List Change → Report → Report
committed entry changes Unreported = Unreported
committed entry changes Fresh = Fresh
committed entry changes (Holding contents) = Holding (appended entry changes contents)

-- a call that makes changes and appends an entry, all or nothing
abbrev pub Commits : {T : Type 0} → Entry → List Change → Kept → Kept → Result T KeeperFault → Type 0
Commits entry changes old new (Ok done) = new ≡ record old { report = committed entry changes old.report; entry_count = old.entry_count + 1 }
Commits entry changes old new (Err fault) = IsRefused old new fault

-- a change whose row and numbers are sound
abbrev pub IsSoundChange : Change → Type 0
IsSoundChange (PutSession row) = IsSoundSession row
IsSoundChange (DropSession key) = ⊤
IsSoundChange (DropExpired now) = ⊤
IsSoundChange (PutUser row) = IsSoundUser row
IsSoundChange (PutMail row) = IsSoundMail row
IsSoundChange (DropMail id) = ⊤
IsSoundChange (PutKeys keys) = ⊤
IsSoundChange (PutBoot boot) = IsNumber boot
