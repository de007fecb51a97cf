-- What the operations do to a keeper, under a ledger without a cache.
use Rattle.std.specs.Prelude.{◌≡◌, [], All}
use Rattle.ledger_rows.specs.State.{State}
use Rattle.ledger_rows.specs.Step.{reply_to, tables_after}
use Rattle.ledger_rows.specs.Replies.{IsReplyOf}
use Rattle.ledger_rows.specs.Tables.{Tables}
use Rattle.ledger_rows.specs.declared.entry.Entry.{Entry}
use Rattle.ledger_rows.specs.declared.operation.Op.{Op}
use Rattle.ledger_rows.specs.declared.reply.Reply.{Reply}
use Rattle.ledger_rows.specs.declared.rows.Cfg.{Cfg}
use Rattle.keepers.specs.Keeper.{IsSoundChange, Kept, OnHolding, changed_by}
use Rattle.session_engines.specs.Ledger.{MayRunOut, kept_after}
use Rattle.session_engines.specs.declared.answer.Answer.{Answer}

-- the state of tables without a cache
abbrev pub uncached : Tables → State
uncached tables = record { tables = tables; cache = [] }

-- the reply to an operation
pub record IsReplyOver (cfg : Cfg) (op : Op) (kept : Kept) (reply : Reply) : Type 0 where
  pub kind : IsReplyOf op reply
  pub value : OnHolding kept.report (λ contents. reply ≡ reply_to cfg op (uncached contents.tables))

-- what an operation gives: its reply, and changes that make the tables what it leaves
pub record IsAnswer (cfg : Cfg) (op : Op) (kept : Kept) (answer : Answer) : Type 0 where
  pub reply : IsReplyOver cfg op kept answer.reply
  pub changes : OnHolding kept.report (λ contents. changed_by answer.changes.items contents.tables ≡ tables_after cfg.engine op contents.tables)
  pub sound : All IsSoundChange answer.changes.items

-- an operation was done and entered
pub record HasTaken (cfg : Cfg) (entry : Entry) (old : Kept) (answer : Reply) (new : Kept) : Type 0 where
  pub reply : IsReplyOver cfg entry.op old answer
  pub kept : new ≡ kept_after cfg.engine entry old

-- nothing was done: the ids that the operation draws have run out
pub record HasRunOut (op : Op) (old new : Kept) : Type 0 where
  pub ids : MayRunOut op old.report
  pub kept : new ≡ old
