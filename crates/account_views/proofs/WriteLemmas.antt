-- Every step of the session's write is fine where each kind of its steps is.
use Rattle.std.proofs.Common.{ℕ, zero, suc, ◌-◌, ◌<◌, ◌≤◌, ◌&&◌, not, List, Option, Some, None, arith}
use Rattle.http_edge.specs.declared.response.Response.{Response}
use Rattle.ledger_rows.specs.declared.operation.Op.{Op}
use Rattle.ledger_rows.specs.declared.operation.Op.TheVariants.{Delete}
use Rattle.ledger_rows.specs.declared.reply.Reply.{Reply}
use Rattle.account_views.specs.Basis.{Basis}
use Rattle.account_views.specs.RandomTexts.{session_key}
use Rattle.account_views.specs.Script.{Steps}
use Rattle.account_views.specs.SessionWrite.{after_delete, after_save, after_try, attempt_by, deleting, gone, holds_nothing, kept, keys_taken, placing, placing_op, save_op, saved, stored, written}
use Rattle.account_views.specs.Walk.{Event}
use Rattle.account_views.specs.declared.page.Viewed.{Viewed}
use Rattle.account_views.specs.declared.session_write.Attempt.{Attempt}
use Rattle.account_views.specs.declared.session_write.Attempt.TheVariants.{KeyTaken, SessionGone, Written}
use Rattle.account_views.proofs.EveryLemmas.{Every, behind}
use Rattle.account_views.proofs.WalkLemmas.{either}

-- each step of the write is fine where this holds of what came before, which goes on holding; and so is each response
pub record IsFineWrite (basis : Basis) (v : Viewed) (Holds : List Event → Type 0) (Fine : List Event → Op → Type 0) (Sent : Response → Type 0) : Type 0 where
  pub stays : (past : List Event) (op : Op) (reply : Reply) → Holds past → Holds (behind past op reply)
  pub deletes : (past : List Event) (key : List ℕ) → Fine past (Delete key)
  pub places : (past : List Event) (old : Option (List ℕ)) (number : ℕ) → number < 16 → Holds past → Fine past (placing_op basis.facts v old (session_key basis.draw number))
  pub saves : (past : List Event) (key : List ℕ) → Holds past → Fine past (save_op basis.facts v key)
  pub keeps : Sent (kept basis.settings basis.facts v)
  pub stores : (cookie : List ℕ) → Sent (stored basis.settings basis.facts v cookie)
  pub goes : Sent (gone basis.facts)
  pub fails : Sent (keys_taken basis.facts)

-- every step is fine, and so is each response
abbrev pub EverySent : (Event → Type 0) → (List Event → Op → Type 0) → (Response → Type 0) → List Event → Steps Response → Type 0
EverySent Sound Fine Sent past script = Every Sound Fine (λ later response. Sent response) past script

module _ (basis : Basis) (v : Viewed) (Sound : Event → Type 0) (Holds : List Event → Type 0) (Fine : List Event → Op → Type 0) (Sent : Response → Type 0)
    (fine : IsFineWrite basis v Holds Fine Sent) where
  after_save-sent : (attempt : Attempt) → Sent (after_save basis.settings basis.facts v attempt)
  after_save-sent (Written cookie) = fine.stores cookie
  after_save-sent KeyTaken = fine.goes
  after_save-sent SessionGone = fine.goes

  every-after_try : (past : List Event) (attempt : Attempt) (more : Steps Response) → EverySent Sound Fine Sent past more
      → EverySent Sound Fine Sent past (after_try basis.settings basis.facts v attempt more)
  every-after_try past (Written cookie) more every = fine.stores cookie
  every-after_try past KeyTaken more every = every
  every-after_try past SessionGone more every = fine.goes

  every-placing : (past : List Event) (old : Option (List ℕ)) (left : ℕ) → left ≤ 16 → Holds past → EverySent Sound Fine Sent past (placing basis v old left)
  unfolding placing
  every-placing past old zero le holds = fine.fails
  every-placing past old (suc left) le holds =
      let op = placing_op basis.facts v old (session_key basis.draw (15 - left)) in (
        fine.places past old (15 - left) (omega arith) holds,
        λ reply sound. every-after_try (behind past op reply) (attempt_by reply) (placing basis v old left)
            (every-placing (behind past op reply) old left (omega arith) (fine.stays past op reply holds)),
      )

  every-saved : (past : List Event) (key : Option (List ℕ)) → Holds past → EverySent Sound Fine Sent past (saved basis v key)
  every-saved past None holds = every-placing past None 16 (omega arith) holds
  every-saved past (Some key) holds =
      either (EverySent Sound Fine Sent past) v.session.cycle _ _
      (every-placing past (Some key) 16 (omega arith) holds) (fine.saves past key holds, λ reply sound. after_save-sent (attempt_by reply))

  every-after_delete : (past : List Event) → Holds past → EverySent Sound Fine Sent past (after_delete basis v)
  every-after_delete past holds =
      either (EverySent Sound Fine Sent past) (v.session.modified && not (holds_nothing v.session)) _ _ (every-saved past v.session.key holds) fine.keeps

  every-deleting : (past : List Event) (dropped : Option (List ℕ)) → Holds past → EverySent Sound Fine Sent past (deleting basis v dropped)
  every-deleting past None holds = every-after_delete past holds
  every-deleting past (Some key) holds =
      (fine.deletes past key, λ reply sound. every-after_delete (behind past (Delete key) reply) (fine.stays past (Delete key) reply holds))

pub every-written : (basis : Basis) (v : Viewed) (Sound : Event → Type 0) (Holds : List Event → Type 0) (Fine : List Event → Op → Type 0) (Sent : Response → Type 0)
    → IsFineWrite basis v Holds Fine Sent → (past : List Event) → Holds past → EverySent Sound Fine Sent past (written basis v)
every-written basis v Sound Holds Fine Sent fine past holds = every-deleting basis v Sound Holds Fine Sent fine past v.session.dropped holds
