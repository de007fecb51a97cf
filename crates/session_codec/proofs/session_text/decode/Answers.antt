use Rattle.std.proofs.Common.{◌≡◌, Err, ap, inl, inr, refl}
use Rattle.std.proofs.lemmas.Result.{err_from_is_err_and}
use Rattle.serde_json.specs.View.{view}
use Rattle.signing_core.specs.declared.signer.TimedFault.TheVariants.{Expired as TimedExpired}
use Rattle.session_codec.specs.declared.session_text.DecodeFault.TheVariants.{Corrupt, Expired}
use Rattle.session_codec.proofs.DecodedLemmas.{IsRefused, object_decoded, other_decoded, refused-corrupt, refused-expired}
use Rattle.session_codec.proofs.session_text.decode.Goals as goal

pub returns-clause-ok : goal.returns-clause-ok
returns-clause-ok c =
    object_decoded c.args.kind c.args.keys.now c.args.now c.args.text.now c.salt.result.now c.max_age.result (view c.in_ok-value.value) c.in-Some.map c.salt.ensures c.max_age.ensures c.in_ok-value.ensures.ok c.in-Some.ensures

pub returns-clause-corrupt : goal.returns-clause-corrupt
returns-clause-corrupt c = λ other.
    let is = object_decoded c.args.kind c.args.keys.now c.args.now c.args.text.now c.salt.result.now c.max_age.result (view c.in_ok-value.value) c.in-Some.map c.salt.ensures c.max_age.ensures c.in_ok-value.ensures.ok c.in-Some.ensures in
    (λ corrupt. absurd (cc), λ corrupt. absurd (cc (is, corrupt)))

pub returns-clause-expired : goal.returns-clause-expired
returns-clause-expired c = λ age.
    let is = object_decoded c.args.kind c.args.keys.now c.args.now c.args.text.now c.salt.result.now c.max_age.result (view c.in_ok-value.value) c.in-Some.map c.salt.ensures c.max_age.ensures c.in_ok-value.ensures.ok c.in-Some.ensures in
    (λ old. absurd (cc), λ old. absurd (cc (is, old)))

pub returns-in_default-clause-corrupt : goal.returns-in_default-clause-corrupt
returns-in_default-clause-corrupt c = λ other. (
  λ corrupt. other_decoded c.args.kind c.args.keys.now c.args.now c.args.text.now c.salt.result.now c.max_age.result (view c.in_ok-value.value) c.salt.ensures c.max_age.ensures c.in_ok-value.ensures.ok c.in_default.ensures,
  λ corrupt. refl,
)

pub returns-in_default-clause-expired : goal.returns-in_default-clause-expired
returns-in_default-clause-expired c = λ age.
    let is = other_decoded c.args.kind c.args.keys.now c.args.now c.args.text.now c.salt.result.now c.max_age.result (view c.in_ok-value.value) c.salt.ensures c.max_age.ensures c.in_ok-value.ensures.ok c.in_default.ensures in
    (λ old. absurd (cc), λ old. absurd (cc (is, old)))

pub returns-in_err-value-clause-corrupt : goal.returns-in_err-value-clause-corrupt
returns-in_err-value-clause-corrupt c =
    let told = c.in_err-value.ensures in
    let p = err_from_is_err_and c.from_residual.result c.from_residual.ensures.1 in
    let refused : IsRefused c.args.text.now c.salt.result.now c.args.keys.now c.args.now c.max_age.result c.in_err-value.field-0.0 = record {
      unread = λ d time dumped allowed. elim (told.value d time dumped allowed) [ inl none ↦ absurd none | inr memory ↦ cc memory ];
      old = λ age. (λ is. (told.timed (TimedExpired age)).0 (ap Err is), λ old. let is = (told.timed (TimedExpired age)).1 old in cc is);
    } in
    rw p.1 (λ other.
    let both = refused-corrupt c.args.kind c.args.keys.now c.args.now c.args.text.now c.salt.result.now c.max_age.result c.in_err-value.field-0.0 p.0
    c.salt.ensures c.max_age.ensures refused p.2 (λ memory. other (ap Err memory)) in
    (λ is. let same : p.0 ≡ Corrupt = cc is in both.0 same, λ is. ap Err (both.1 is)))

pub returns-in_err-value-clause-expired : goal.returns-in_err-value-clause-expired
returns-in_err-value-clause-expired c =
    let told = c.in_err-value.ensures in
    let p = err_from_is_err_and c.from_residual.result c.from_residual.ensures.1 in
    let refused : IsRefused c.args.text.now c.salt.result.now c.args.keys.now c.args.now c.max_age.result c.in_err-value.field-0.0 = record {
      unread = λ d time dumped allowed. elim (told.value d time dumped allowed) [ inl none ↦ absurd none | inr memory ↦ cc memory ];
      old = λ age. (λ is. (told.timed (TimedExpired age)).0 (ap Err is), λ old. let is = (told.timed (TimedExpired age)).1 old in cc is);
    } in
    rw p.1 (λ age.
    let both = refused-expired c.args.kind c.args.keys.now c.args.now c.args.text.now c.salt.result.now c.max_age.result c.in_err-value.field-0.0 p.0 age
    c.salt.ensures c.max_age.ensures refused p.2 in
    (λ is. let same : p.0 ≡ Expired age = cc is in both.0 same, λ is. ap Err (both.1 is)))
