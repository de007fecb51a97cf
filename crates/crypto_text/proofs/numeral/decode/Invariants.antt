use Rattle.std.proofs.Common.{◌≡◌, ◌<◌, ◌^◌, take}
use Rattle.crypto_text.specs.Numeral.{AreDigits, digits_in, value_of}
use Rattle.crypto_text.proofs.numeral.decode.Given as goal

abbrev pub invariant-loop-byte : goal.invariant-loop-byte
invariant-loop-byte l = record {
  digits : AreDigits (digits_in l.base) (take l.byte-index l.byte-items);
  small : l.value < 2 ^ 64;
  value : l.value ≡ value_of (digits_in l.base) (take l.byte-index l.byte-items);
}
