use Rattle.std.proofs.Common.{◌≡◌, ◌<◌, ◌∙◌, ℕ, Err, ap, refl, subst, sym}
use Rattle.std.proofs.lemmas.Result.{err_from_is_err_and}
use Rattle.std.specs.Option.{IsSomeAnd}
use Rattle.signing_core.specs.declared.signer.TimedFault.TheVariants.{BadTime, Expired}
use Rattle.signing_core.specs.Signature.{IsAllowed, age_at}
use Rattle.signing_core.proofs.SignatureLemmas.{allowed_not_beyond, signed_has_colon, timed_is_timestamped, timestamped_at, timestamped_is_timed, timestamped_text_tells_value}
use Rattle.signing_core.proofs.TimedTextLemmas.{not_bad_time, not_expired}
use Rattle.signing_core.proofs.signer.Signer.unsign_timed.Goals as goal

pub returns-in_err-rest-clause-value : goal.returns-in_err-rest-clause-value
returns-in_err-rest-clause-value c =
    let p = err_from_is_err_and c.from_residual.result c.from_residual.ensures.1 in
    rw p.1 (λ value time. (λ is. absurd is, λ both. absurd ((c.in_err-rest.ensures.value both.0.rest).1 both.0.signed)))

pub returns-in_err-rest-clause-bad_time : goal.returns-in_err-rest-clause-bad_time
returns-in_err-rest-clause-bad_time c =
    let p = err_from_is_err_and c.from_residual.result c.from_residual.ensures.1 in
    rw p.1 (
      λ is. let same : p.0 ≡ BadTime = cc in absurd (not_bad_time c.in_err-rest.field-0.0 p.0 p.2 same),
      λ bad. absurd ((c.in_err-rest.ensures.value bad.rest).1 bad.signed),
    )

pub returns-in_err-rest-clause-expired : goal.returns-in_err-rest-clause-expired
returns-in_err-rest-clause-expired c =
    let p = err_from_is_err_and c.from_residual.result c.from_residual.ensures.1 in
    rw p.1 (λ age. (
      λ is. let same : p.0 ≡ Expired age = cc in absurd (not_expired c.in_err-rest.field-0.0 p.0 age p.2 same),
      λ old. absurd ((c.in_err-rest.ensures.value old.timestamped.rest).1 old.timestamped.signed),
    ))

pub returns-in_default : goal.returns-in_default
returns-in_default c =
    let signed = (c.in_ok-rest.ensures.value c.in_ok-rest.rest.now).0 refl in
    record {
      value = λ value time. (λ is. absurd is, λ both. absurd (c.in_default.ensures _ _ (timestamped_is_timed _ _ _ _ _ _ _ signed both.0)));
      no_separator = (λ is. absurd (cc), λ absent. absurd (absent (signed_has_colon _ _ _ _ _ signed)));
      bad_signature = (λ is. absurd (cc), λ bad. absurd (bad.unsigned _ signed));
      bad_time = (λ is. record { rest = c.in_ok-rest.rest.now; signed = signed; untimed = c.in_default.ensures }, λ bad. refl);
      expired = λ age. (λ is. absurd (cc), λ old. absurd (c.in_default.ensures _ _ (timestamped_is_timed _ _ _ _ _ _ _ signed old.timestamped)));
    }

pub returns-then-is_beyond : goal.returns-then-is_beyond
returns-then-is_beyond c =
    let signed = (c.in_ok-rest.ensures.value c.in_ok-rest.rest.now).0 refl in
    let max_age = c.args.max_age in
    let age = c.saturating_sub-age.result in
    let beyond = c.if-is_beyond.ensures in
    let timestamped = timed_is_timestamped _ _ _ _ _ _ _ signed c.in-Some.ensures in
    let age_of = λ (time : ℕ) (same : c.in-Some.time ≡ time). c.saturating_sub-age.ensures ∙ ap (λ (t : ℕ). age_at t c.args.now) same in
    record {
      value = λ value time. (
        λ is. absurd is,
        λ both.
            let same = timestamped_text_tells_value _ _ _ _ _ _ _ _ _ _ _ timestamped both.0 in
            allowed_not_beyond max_age _ both.1 (subst (λ (a : ℕ). IsSomeAnd max_age (λ most. most < a)) (age_of time same.1) beyond),
      );
      no_separator = (λ is. absurd (cc), λ absent. absurd (absent (signed_has_colon _ _ _ _ _ signed)));
      bad_signature = (λ is. absurd (cc), λ bad. absurd (bad.unsigned _ signed));
      bad_time = (λ is. absurd (cc), λ bad. absurd (bad.untimed _ _ (timestamped_is_timed _ _ _ _ _ _ _ bad.signed timestamped)));
      expired = λ other. (
        λ is.
            let same : age ≡ other = cc in
            record {
              value = c.in-Some.value.now;
              time = c.in-Some.time;
              timestamped = timestamped;
              age_is = sym same ∙ c.saturating_sub-age.ensures;
              beyond = subst (λ (a : ℕ). IsSomeAnd max_age (λ most. most < a)) same beyond;
            },
        λ old.
            let same = timestamped_text_tells_value _ _ _ _ _ _ _ _ _ _ _ timestamped old.timestamped in
            ap (λ (a : ℕ). Err (Expired a)) (age_of old.time same.1 ∙ sym old.age_is),
      );
    }

pub returns : goal.returns
returns c =
    let signed = (c.in_ok-rest.ensures.value c.in_ok-rest.rest.now).0 refl in
    let max_age = c.args.max_age in
    let allowed = c.if-is_beyond.ensures in
    let timestamped = timed_is_timestamped _ _ _ _ _ _ _ signed c.in-Some.ensures in
    let age_of = λ (time : ℕ) (same : c.in-Some.time ≡ time). c.saturating_sub-age.ensures ∙ ap (λ (t : ℕ). age_at t c.args.now) same in
    let allowed_at = λ (age : ℕ) (same : c.saturating_sub-age.result ≡ age). subst (λ (a : ℕ). IsAllowed max_age a) same allowed in
    record {
      value = λ value time. (
        λ same. (timestamped_at _ _ _ _ _ _ _ _ same.0 same.1 timestamped, allowed_at _ (age_of time same.1)),
        λ both. timestamped_text_tells_value _ _ _ _ _ _ _ _ _ _ _ timestamped both.0,
      );
      no_separator = (λ is. absurd (cc), λ absent. absurd (absent (signed_has_colon _ _ _ _ _ signed)));
      bad_signature = (λ is. absurd (cc), λ bad. absurd (bad.unsigned _ signed));
      bad_time = (λ is. absurd (cc), λ bad. absurd (bad.untimed _ _ (timestamped_is_timed _ _ _ _ _ _ _ bad.signed timestamped)));
      expired = λ other. (
        λ is. absurd (cc),
        λ old.
            let same = timestamped_text_tells_value _ _ _ _ _ _ _ _ _ _ _ timestamped old.timestamped in
            absurd (allowed_not_beyond max_age other (allowed_at other (age_of old.time same.1 ∙ sym old.age_is)) old.beyond),
      );
    }
