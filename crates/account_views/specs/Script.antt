-- What a request does, as a tree: it is done, or it asks for one step of the store and goes on by the reply.
use Rattle.ledger_rows.specs.declared.operation.Op.{Op}
use Rattle.ledger_rows.specs.declared.reply.Reply.{Reply}
use Rattle.account_views.specs.declared.progress.Progress.{Progress}
use Rattle.account_views.specs.declared.progress.Progress.TheVariants.{Asks, Ends}

pub data Steps (A : Type 0) : Type 0 where
  Return : A → Steps A
  Ask : Op → (Reply → Steps A) → Steps A

-- one part, and then another that goes on from its end
abbrev pub and_then : {A B : Type 0} → Steps A → (A → Steps B) → Steps B
and_then (Return a) next = next a
and_then (Ask op rest) next = Ask op (λ reply. and_then (rest reply) next)

-- the steps that progress stands for, where each stage has a meaning: what is done once the reply is there
abbrev pub steps_of : {S A : Type 0} → (S → Reply → Steps A) → Progress S A → Steps A
steps_of left (Asks op stage) = Ask op (left stage)
steps_of left (Ends a) = Return a
