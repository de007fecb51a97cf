use Rattle.std.proofs.Common.{◌<◌, ◌∙◌, bit_xor, length, arith}
use Rattle.std.proofs.lemmas.List.{get_or_default, length-set}
use Rattle.std.proofs.lemmas.List.Edits.{map_over_more}
use Rattle.crypto_text.proofs.keyed.xored.Goals as goal

pub loop-i-preserved : goal.loop-i-preserved
loop-i-preserved c =
    let before = c.loop-i.invariant in
    let within : c.loop-i.i < length c.loop-i.block = omega (arith, before.whole, c.loop-i-test.true) in
    record {
      long = before.long;
      whole = length-set _ _ _ ∙ before.whole;
      changed = map_over_more (λ byte. bit_xor byte c.args.pad) c.args.block c.loop-i.block c.loop-i.i _
          (omega (arith, before.long, c.loop-i-test.true)) before.changed (get_or_default c.loop-i.block c.loop-i.i 0 _ within);
    }
