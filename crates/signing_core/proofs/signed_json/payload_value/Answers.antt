use Rattle.std.proofs.Common.{ℕ, Err, List, ap, inl, inr, subst}
use Rattle.std.proofs.lemmas.Result.{err_from_is_err_and}
use Rattle.serde_json.specs.View.{view}
use Rattle.ascii_json.specs.Profile.{Reads}
use Rattle.signing_core.proofs.SignedJsonLemmas.{json_says, json_unread, payload_once, reads_once}
use Rattle.signing_core.proofs.signed_json.payload_value.Goals as goal

pub returns-in_err-value-clause-value : goal.returns-in_err-value-clause-value
returns-in_err-value-clause-value c =
    let p = err_from_is_err_and c.from_residual-in_err-value.result c.from_residual-in_err-value.ensures.1 in
    let refused = rw c.items.ensures at c.in_err-value.ensures.not_json in
    rw p.1 (λ d says.
    inr (ap Err (json_unread c.args.payload.now _ d c.in_err-value.field-0.0 p.0 c.in_ok-json.ensures.ok c.in_ok-json.ensures.bytes p.2
    (λ other is. (refused (λ memory. other (cc))).0 (ap Err is) d) says)))

pub returns-clause-value : goal.returns-clause-value
returns-clause-value c = λ d says.
    let reads = json_says _ _ d c.in_ok-json.ensures.ok c.in_ok-json.ensures.bytes says in
    let found = rw c.items.ensures at c.in_ok-value.ensures.ok in
    inl (reads_once _ _ d found reads)

pub returns-clause-not_json : goal.returns-clause-not_json
returns-clause-not_json c = λ other.
    let found = rw c.items.ensures at c.in_ok-value.ensures.ok in (
      λ is. absurd (cc),
      λ no.
          let same = payload_once c.args.payload.now _ no.json c.in_ok-json.ensures.ok c.in_ok-json.ensures.bytes no.payload_of_json in
          absurd (no.unread _ (subst (λ (text : List ℕ). Reads text (view c.in_ok-value.value)) same found)),
    )
