-- What a keeper answered, by what its tables hold.
use Rattle.std.proofs.Common.{◌≡◌, List, [], All, IfSome, Option, Some, ap, subst, sym, ◌∙◌}
use Rattle.std.specs.Prelude.{Result, Ok, Err}
use Rattle.std.proofs.lemmas.List.Elements.{All-nil}
use Rattle.ledger_rows.specs.Replies.{IsReplyOf}
use Rattle.crypto_text.specs.TextList.{AreDifferent}
use Rattle.ledger_rows.proofs.UserLemmas.{names_stay_different}
use Rattle.ledger_rows.specs.Opening.{names_of_users}
use Rattle.ledger_rows.specs.Rows.{AreInOrder}
use Rattle.ledger_rows.specs.Step.{reply_to, tables_after}
use Rattle.ledger_rows.specs.Tables.{Tables}
use Rattle.ledger_rows.specs.declared.operation.Op.{Op}
use Rattle.ledger_rows.specs.declared.reply.Reply.{Reply}
use Rattle.ledger_rows.specs.declared.rows.Cfg.{Cfg}
use Rattle.keepers.specs.declared.change.Change.{Change}
use Rattle.keepers.specs.declared.keeper.KeeperFault.{KeeperFault}
use Rattle.keepers.specs.Keeper.{Answers, Contents, IsSoundChange, KeepsNames, Kept, OnHolding, Report, Unreported, Fresh, Holding, changed_by}
use Rattle.session_engines.specs.Taking.{IsAnswer, uncached}
use Rattle.session_engines.specs.declared.answer.Answer.{Answer}

-- what follows of all contents from a fact follows of those that are reported
pub on_holding : (report : Report) (P Q : Contents → Type 0) → OnHolding report P → ((contents : Contents) → P contents → Q contents) → OnHolding report Q
on_holding Unreported P Q p each = tt
on_holding Fresh P Q p each = tt
on_holding (Holding contents) P Q p each = each contents p

-- the same of two facts
pub on_holding_both : (report : Report) (P Q R : Contents → Type 0) → OnHolding report P → OnHolding report Q
    → ((contents : Contents) → P contents → Q contents → R contents) → OnHolding report R
on_holding_both Unreported P Q R p q each = tt
on_holding_both Fresh P Q R p q each = tt
on_holding_both (Holding contents) P Q R p q each = each contents p q

-- an answer after calls that only read, put together with a fact about the tables
pub answers_by : {T : Type 0} (kept later : Kept) (result : Result T KeeperFault) (P : Contents → Type 0) (f g : Tables → T)
    → later ≡ kept → OnHolding kept.report P → ((contents : Contents) → P contents → f contents.tables ≡ g contents.tables)
    → Answers later result f → Answers kept result g
answers_by kept later (Ok value) P f g same p each answers =
    on_holding_both kept.report P (λ contents. value ≡ f contents.tables) (λ contents. value ≡ g contents.tables) p
    (subst (λ (k : Kept). OnHolding k.report (λ contents. value ≡ f contents.tables)) same answers) (λ contents q is. is ∙ each contents q)
answers_by kept later (Err fault) P f g same p each answers = tt

-- what is so of all contents is so of those that are reported
pub on_any : (report : Report) (P : Contents → Type 0) → ((contents : Contents) → P contents) → OnHolding report P
on_any Unreported P each = tt
on_any Fresh P each = tt
on_any (Holding contents) P each = each contents

-- an operation that changes nothing
pub unchanged-answer : (cfg : Cfg) (op : Op) (kept : Kept) (answer : Answer) (reply : Reply) → answer.reply ≡ reply → answer.changes.items ≡ []
    → IsReplyOf op reply → OnHolding kept.report (λ contents. reply ≡ reply_to cfg op (uncached contents.tables))
    → ((tables : Tables) → tables ≡ tables_after cfg.engine op tables) → IsAnswer cfg op kept answer
unchanged-answer cfg op kept answer reply reply_is none kind value stays = record {
  reply = record {
    kind = subst (λ (r : Reply). IsReplyOf op r) (sym reply_is) kind;
    value = subst (λ (r : Reply). OnHolding kept.report (λ contents. r ≡ reply_to cfg op (uncached contents.tables))) (sym reply_is) value;
  };
  changes =
      on_any kept.report (λ contents. changed_by answer.changes.items contents.tables ≡ tables_after cfg.engine op contents.tables)
      (λ contents. subst (λ (changes : List Change). changed_by changes contents.tables ≡ tables_after cfg.engine op contents.tables) (sym none) (stays contents.tables));
  sound = subst (λ (changes : List Change). All IsSoundChange changes) (sym none) (All-nil IsSoundChange);
}

-- an operation, by what was found of the tables
pub answer-by : (cfg : Cfg) (op : Op) (kept : Kept) (answer : Answer) (reply : Reply) (changes : List Change) (P : Contents → Type 0)
    → answer.reply ≡ reply → answer.changes.items ≡ changes → IsReplyOf op reply → All IsSoundChange changes → OnHolding kept.report P
    → ((contents : Contents) → P contents → reply ≡ reply_to cfg op (uncached contents.tables))
    → ((contents : Contents) → P contents → changed_by changes contents.tables ≡ tables_after cfg.engine op contents.tables)
    → IsAnswer cfg op kept answer
answer-by cfg op kept answer reply changes P reply_is changes_are kind sound found replies leaves = record {
  reply = record {
    kind = subst (λ (r : Reply). IsReplyOf op r) (sym reply_is) kind;
    value = on_holding kept.report P (λ contents. answer.reply ≡ reply_to cfg op (uncached contents.tables)) found (λ contents is. reply_is ∙ replies contents is);
  };
  changes =
      on_holding kept.report P (λ contents. changed_by answer.changes.items contents.tables ≡ tables_after cfg.engine op contents.tables) found
      (λ contents is. ap (λ cs. changed_by cs contents.tables) changes_are ∙ leaves contents is);
  sound = subst (λ (cs : List Change). All IsSoundChange cs) (sym changes_are) sound;
}

-- what an operation leaves has no two users of one name
pub answer-names : (cfg : Cfg) (op : Op) (kept : Kept) (answer : Answer) → IsAnswer cfg op kept answer → KeepsNames answer.changes.items kept.report
answer-names cfg op kept answer is =
    on_holding kept.report (λ contents. changed_by answer.changes.items contents.tables ≡ tables_after cfg.engine op contents.tables)
    (λ contents. AreInOrder contents.tables → AreDifferent (names_of_users (changed_by answer.changes.items contents.tables).users)) is.changes
    (λ contents left order. subst (λ (tables : Tables). AreDifferent (names_of_users tables.users)) (sym left) (names_stay_different op contents.tables order))

pub some-answer : (cfg : Cfg) (op : Op) (kept : Kept) (found : Option Answer) (answer : Answer) → found ≡ Some answer → IfSome found (IsAnswer cfg op kept) → IsAnswer cfg op kept answer
some-answer cfg op kept found answer is answers = subst (λ (f : Option Answer). IfSome f (IsAnswer cfg op kept)) is answers
