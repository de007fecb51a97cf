use Rattle.std.proofs.Common.{◌≡◌, ℕ, IsTrue, List, Err, ap, refl, subst}
use Rattle.std.proofs.lemmas.Result.{err_from_is_err_and}
use Rattle.serde_json.specs.View.{view}
use Rattle.ascii_json.specs.Profile.{Reads}
use Rattle.entry_texts.specs.declared.reading.EntryFault.TheVariants.{Shape}
use Rattle.entry_texts.proofs.ReadingLemmas.{malformed_exact, other_text, unread_exact}
use Rattle.entry_texts.proofs.reading.entry_read.Goals as goal

pub returns-in_err-value-clause-shape : goal.returns-in_err-value-clause-shape
returns-in_err-value-clause-shape c =
    let p = err_from_is_err_and c.from_residual.result c.from_residual.ensures.1 in
    let refused = rw c.as_bytes.ensures.value at c.in_err-value.ensures.not_json in
    rw p.1 (λ other.
    let both = unread_exact c.args.text.now c.in_err-value.field-0.0 p.0
    (λ is. (refused (λ memory. (cc (is, memory)))).0 (ap Err is)) p.2 (λ memory. other (ap Err memory)) in
    (λ is. let same : p.0 ≡ Shape = cc is in both.0 same, λ none. ap Err (both.1 none)))

pub returns-in_err-entry-clause-shape : goal.returns-in_err-entry-clause-shape
returns-in_err-entry-clause-shape c =
    let p = err_from_is_err_and c.from_residual-in_err-entry.result c.from_residual-in_err-entry.ensures.1 in
    let reads = subst (λ (t : List ℕ). Reads t (view c.in_ok-value.value)) c.as_bytes.ensures.value c.in_ok-value.ensures.ok in
    rw (p.1, p.2) (λ other.
    let both = malformed_exact c.args.text.now (view c.in_ok-value.value) c.in_err-entry.field-0.0 reads c.in_err-entry.ensures (λ memory. other (ap Err memory)) in
    (λ is. let same : c.in_err-entry.field-0.0 ≡ Shape = cc is in both.0 same, λ none. ap Err (both.1 none)))

pub returns-clause-shape : goal.returns-clause-shape
returns-clause-shape c = λ other. (
  λ shape. other_text c.args.text.now (view c.in_ok-value.value) c.in_ok-entry.entry
      (subst (λ (t : List ℕ). Reads t (view c.in_ok-value.value)) c.as_bytes.ensures.value c.in_ok-value.ensures.ok) c.in_ok-entry.ensures
      (λ is. let wrong : IsTrue c.in_ok-is_text_of.field-0 = c.in_ok-is_text_of.ensures.1 is in cc (wrong, c.if-branch.false)),
  λ none. refl,
)
