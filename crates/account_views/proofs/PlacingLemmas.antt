-- The tries for a new key, by how many are left.
use Rattle.std.proofs.Common.{◌≡◌, ℕ, zero, suc, ◌-◌, ◌≤◌, List, Option, refl, sym, ap, ◌∙◌, arith}
use Rattle.http_edge.specs.declared.response.Response.{Response}
use Rattle.ledger_rows.specs.declared.operation.Op.{Op}
use Rattle.ledger_rows.specs.declared.reply.Reply.{Reply}
use Rattle.account_views.specs.Basis.{Basis}
use Rattle.account_views.specs.RandomTexts.{session_key}
use Rattle.account_views.specs.Script.{Steps, Return, Ask}
use Rattle.account_views.specs.SessionWrite.{after_try, attempt_by, keys_taken, placing, placing_op}
use Rattle.account_views.specs.declared.page.Viewed.{Viewed}

module _ (basis : Basis) (v : Viewed) (old : Option (List ℕ)) where
  placing-zero : placing basis v old zero ≡ Return (keys_taken basis.facts)
  unfolding placing
  placing-zero = refl

  placing-suc : (left : ℕ) → placing basis v old (suc left)
      ≡ Ask (placing_op basis.facts v old (session_key basis.draw (15 - left))) (λ reply. after_try basis.settings basis.facts v (attempt_by reply) (placing basis v old left))
  unfolding placing
  placing-suc left = refl

  pub none_left : (left : ℕ) (response : Response) → left ≡ 0 → response ≡ keys_taken basis.facts → Return response ≡ placing basis v old left
  none_left zero response none e = ap Return e ∙ sym placing-zero
  none_left (suc left) response none e = absurd (omega arith)

  pub one_tried : (left number : ℕ) (op : Op) (key : List ℕ) → 1 ≤ left → number ≡ 16 - left → key ≡ session_key basis.draw number
      → op ≡ placing_op basis.facts v old key
      → Ask op (λ reply. after_try basis.settings basis.facts v (attempt_by reply) (placing basis v old (left - 1))) ≡ placing basis v old left
  one_tried zero number op key some n k o = absurd (omega arith)
  one_tried (suc left) number op key some n k o =
      let number_is : number ≡ 15 - left = omega arith in
      let before : suc left - 1 ≡ left = omega arith in
      rw (before, o, k, number_is) (sym (placing-suc left))
