use Rattle.std.proofs.Common.{◌≡◌, ◌↔◌, ℕ, ◌^◌, ◌<◌, ◌≤◌, List, Option, Some, rules, sym, ◌∙◌}
use Rattle.std.specs.Fmt.{decimal}
use Rattle.reset_tokens.specs.UserIdText.{IsUserId}
use Rattle.reset_tokens.proofs.UserIdTextLemmas.{IsUtf8-id}
use Rattle.reset_tokens.proofs.user_id_text.id_of.Goals as goal

positive_is_id : (id : ℕ) (text digits : List ℕ) (r : Option ℕ) → text ≡ digits → (r ≡ Some id) ↔ ((text ≡ decimal id) × (1 ≤ id) × (id < 2 ^ 64))
    → (r ≡ Some id) ↔ (IsUserId id × (digits ≡ decimal id))
positive_is_id id text digits r same reads = (λ is. let found = reads.0 is in ((found.1, found.2), sym same ∙ found.0), λ is. reads.1 (same ∙ is.1, is.0.0, is.0.1))

pub returns-in_default-clause-id : goal.returns-in_default-clause-id
returns-in_default-clause-id c = λ id. (
  λ is. absurd (cc),
  λ written. absurd (c.in_default.ensures.cases.0 (IsUtf8-id _ id written)),
)

pub returns-clause-id : goal.returns-clause-id
returns-clause-id c = λ id. positive_is_id id c.in-Ok.text.now c.args.digits.now c.positive_decode.result (search rules) (c.positive_decode.ensures.number id)
