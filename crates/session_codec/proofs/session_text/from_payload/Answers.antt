use Rattle.std.proofs.Common.{◌≡◌, Err, List, ap, refl, subst, ℕ}
use Rattle.std.proofs.lemmas.Result.{err_from_is_err_and}
use Rattle.serde_json.specs.View.{view}
use Rattle.ascii_json.specs.Profile.{Reads}
use Rattle.session_codec.specs.declared.session_text.DecodeFault.TheVariants.{Corrupt}
use Rattle.session_codec.proofs.DecodedLemmas.{object_payload, reads_other, unread_payload}
use Rattle.session_codec.proofs.session_text.from_payload.Goals as goal

pub returns-in-Some-clause-ok : goal.returns-in-Some-clause-ok
returns-in-Some-clause-ok c =
    object_payload c.args.text.now (view c.in_ok-value.value) c.in-Some.map (subst (λ (t : List ℕ). Reads t (view c.in_ok-value.value)) c.as_bytes.ensures.value c.in_ok-value.ensures.ok) c.in-Some.ensures

pub returns-in-Some-clause-corrupt : goal.returns-in-Some-clause-corrupt
returns-in-Some-clause-corrupt c = λ other.
    let is = object_payload c.args.text.now (view c.in_ok-value.value) c.in-Some.map (subst (λ (t : List ℕ). Reads t (view c.in_ok-value.value)) c.as_bytes.ensures.value c.in_ok-value.ensures.ok) c.in-Some.ensures in
    (λ corrupt. absurd (cc), λ none. absurd (cc (is, none)))

pub returns-in-None-clause-corrupt : goal.returns-in-None-clause-corrupt
returns-in-None-clause-corrupt c = λ other. (
  λ corrupt. reads_other c.args.text.now (view c.in_ok-value.value) (subst (λ (t : List ℕ). Reads t (view c.in_ok-value.value)) c.as_bytes.ensures.value c.in_ok-value.ensures.ok) c.in-None.ensures,
  λ none. refl,
)

pub returns-in_err-value-clause-corrupt : goal.returns-in_err-value-clause-corrupt
returns-in_err-value-clause-corrupt c =
    let p = err_from_is_err_and c.from_residual.result c.from_residual.ensures.1 in
    let refused = rw c.as_bytes.ensures.value at c.in_err-value.ensures.not_json in
    rw p.1 (λ other.
    let both = unread_payload c.args.text.now c.in_err-value.field-0.0 p.0 p.2
    (λ read is d. (refused (λ memory. read (cc memory))).0 (ap Err is) d) (λ memory. other (ap Err memory)) in
    (λ is. let same : p.0 ≡ Corrupt = cc is in both.0 same, λ none. ap Err (both.1 none)))
