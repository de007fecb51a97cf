use Rattle.std.proofs.Common.{◌≡◌, ℕ, List, Err, ap, refl, subst, sym}
use Rattle.std.proofs.lemmas.Result.{IfOk-weaker, err_from_is_err_and}
use Rattle.crypto_text.specs.Rfc4648.{IsBase64url}
use Rattle.signing_core.specs.declared.signed_json.LoadFault.TheVariants.{Timed}
use Rattle.signing_core.specs.SignedJson.{IsCompressed, SaysNoValue, SaysValue}
use Rattle.signing_core.proofs.signed_json.loads.Goals as goal

pub returns-in_err-payload : goal.returns-in_err-payload
returns-in_err-payload c =
    let told = c.in_err-payload.ensures in
    let p = err_from_is_err_and c.from_residual.result c.from_residual.ensures.1 in
    rw (p.1, p.2) (record {
      ok = tt;
      representable = tt;
      value = λ d time dumped allowed. absurd ((told.value dumped.payload).1 (record { time = time; timestamped = dumped.timestamped; allowed = allowed }));
      timed = λ fault. (
        λ is. let same : c.in_err-payload.field-0.0 ≡ fault = cc in (told.faults fault).0 (ap Err same),
        λ has. let is = (told.faults fault).1 has in let same : c.in_err-payload.field-0.0 ≡ fault = cc in ap (λ f. Err (Timed f)) same,
      );
      compressed = (λ is. absurd (cc), λ has. absurd ((told.value has.payload).1 has.current));
      not_base64 = λ other. (λ is. absurd (cc), λ has. absurd ((told.value has.payload).1 has.current));
      not_json = λ other. (λ is. absurd (cc), λ has. absurd ((told.value has.payload).1 has.current));
    })

pub returns : goal.returns
returns c =
    let payload = c.in_ok-payload.payload.now in
    let told = c.in_ok-payload.ensures in
    let current = (told.value payload).0 refl in
    let read = c.payload_value.ensures in
    record {
      ok = IfOk-weaker c.payload_value.result _ _
          (λ value says. (current.time, record { payload = payload; timestamped = current.timestamped; says = says }, current.allowed)) read.ok;
      representable = read.representable;
      value = λ d time dumped allowed.
          let same : payload ≡ dumped.payload = (told.value dumped.payload).1 (record { time = time; timestamped = dumped.timestamped; allowed = allowed }) in
          read.value d (subst (λ (p : List ℕ). SaysValue p d) (sym same) dumped.says);
      timed = λ fault. (λ is. absurd (read.timed fault is), λ has. absurd (let is = (told.faults fault).1 has in cc));
      compressed = (
        λ is. record { payload = payload; current = current; compressed = read.compressed.0 is },
        λ has. let same : payload ≡ has.payload = (told.value has.payload).1 has.current in read.compressed.1 (subst IsCompressed (sym same) has.compressed),
      );
      not_base64 = λ other.
          let both = read.not_base64 other in (
            λ is. let no = both.0 is in record { payload = payload; current = current; uncompressed = no.0; unread = no.1 },
            λ has.
                let same : payload ≡ has.payload = (told.value has.payload).1 has.current in
                both.1 (subst (λ (p : List ℕ). (¬ IsCompressed p) × (¬ IsBase64url p)) (sym same) (has.uncompressed, has.unread)),
          );
      not_json = λ other.
          let both = read.not_json other in (
            λ is. record { payload = payload; current = current; says = both.0 is },
            λ has. let same : payload ≡ has.payload = (told.value has.payload).1 has.current in both.1 (subst SaysNoValue (sym same) has.says),
          );
    }
