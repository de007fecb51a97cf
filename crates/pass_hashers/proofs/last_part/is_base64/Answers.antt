use Rattle.std.proofs.Common.{refl, sym, rules}
use Rattle.base64.specs.Engines.{standard}
use Rattle.pass_hashers.proofs.LastPartLemmas.{decoded_decides, too_long, undecoded}
use Rattle.pass_hashers.proofs.last_part.is_base64.Goals as goal

pub returns-then-text-gt44 : goal.returns-then-text-gt44
returns-then-text-gt44 c = (search rules, λ found. absurd (too_long standard c.args.text.now c.args.size c.if-text-gt44.true c.requires found))

pub returns-in-Ok : goal.returns-in-Ok
returns-in-Ok c =
    decoded_decides standard c.args.text.now c.in-Ok.length c.args.size (refl, refl) refl (λ i. (c.type_inv.text i).fits) c.if-text-gt44.false
    (sym c.in-Ok.ensures.value) c.in-Ok.ensures.bytes

pub returns-in-Err : goal.returns-in-Err
returns-in-Err c = (
  search rules,
  λ found. absurd (undecoded standard c.args.text.now c.args.size c.in-Err.field-0 refl c.if-text-gt44.false (sym c.in-Err.ensures.value) found),
)
