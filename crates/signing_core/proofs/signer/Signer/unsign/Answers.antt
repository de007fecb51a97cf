use Rattle.std.proofs.Common.{ℕ, List, refl, subst, sym}
use Rattle.std.proofs.lemmas.Bool.{iff_false}
use Rattle.std.specs.List.{Contains}
use Rattle.signing_core.specs.Signature.{IsSigned, Signing, separator}
use Rattle.crypto_text.proofs.CutLemmas.{Contains-joined}
use Rattle.signing_core.proofs.SignatureLemmas.{cut_is_signed, signed_has_colon, signed_is_cut, signed_text_tells_value}
use Rattle.signing_core.proofs.signer.Signer.unsign.Goals as goal

pub returns-in_default : goal.returns-in_default
returns-in_default c = record {
  value = λ value. (λ is. absurd is, λ signed. c.in_default.ensures (signed_has_colon _ _ _ _ _ signed));
  no_separator = (λ is. c.in_default.ensures, λ none. refl);
  bad_signature = (λ is. absurd (cc), λ bad. absurd (c.in_default.ensures bad.separated));
}

pub returns-then-is_signature : goal.returns-then-is_signature
returns-then-is_signature c =
    let text = c.args.text.now in
    let fits = c.is_signature.ensures.0 c.if-is_signature.true in
    let signed = subst (λ (s : Signing). IsSigned text c.in-Some.value.now s.prefix s.salt s.keys) c.self.view_is (cut_is_signed _ _ _ _ _ _ c.in-Some.ensures fits) in
    record {
      value = λ value. (
        λ same. subst (λ (v : List ℕ). IsSigned text v c.args.self.now.prefix c.args.self.now.salt c.args.self.now.keys) same signed,
        λ other. signed_text_tells_value _ _ _ _ _ _ _ _ _ signed other,
      );
      no_separator = (λ is. absurd (cc), λ none. absurd (none (signed_has_colon _ _ _ _ _ signed)));
      bad_signature = (λ is. absurd (cc), λ bad. absurd (bad.unsigned _ signed));
    }

pub returns-else-is_signature : goal.returns-else-is_signature
returns-else-is_signature c =
    let text = c.args.text.now in
    let separated : Contains text separator = subst (λ l. Contains l separator) (sym c.in-Some.ensures.whole) (Contains-joined separator _ _) in
    let unsigned = λ (value : List ℕ) (signed : IsSigned text value c.args.self.now.prefix c.args.self.now.salt c.args.self.now.keys).
    let there = subst (λ (s : Signing). IsSigned text value s.prefix s.salt s.keys) (sym c.self.view_is) signed in
    iff_false c.is_signature.ensures c.if-is_signature.false (signed_is_cut _ _ _ _ _ _ _ c.in-Some.ensures there).1 in
    record {
      value = λ value. (λ is. absurd is, unsigned value);
      no_separator = (λ is. absurd (cc), λ none. absurd (none separated));
      bad_signature = (λ is. record { separated = separated; unsigned = unsigned }, λ bad. refl);
    }
