use Rattle.std.proofs.Common.{◌≡◌, ◌∙◌, ℕ, ◌<◌, get_or, refl, sym, rules}
use Rattle.std.proofs.lemmas.Bool.Decides.{Decides-at}
use Rattle.std.proofs.lemmas.Slice.Eq.{bytes_eq-Decides}
use Rattle.hex.proofs.HexLemmas.{decode_sized-encode_lower}
use Rattle.hex.specs.Hex.{encode_lower}
use Rattle.pass_hashers.proofs.LastPartLemmas.{read_bytes}
use Rattle.pass_hashers.proofs.last_part.is_lower_hex.Goals as goal

pub returns-in-Ok-encode_to_slice : goal.returns-in-Ok-encode_to_slice
returns-in-Ok-encode_to_slice c =
    let decided = Decides-at c.eq.result _ c.eq.ensures (bytes_eq-Decides c.args.text.now c.as_slice.result.now) in
    let written : c.as_slice.result.now ≡ encode_lower c.decode_to_slice.new.out = c.as_slice.ensures ∙ c.in-Ok-encode_to_slice.ensures.written in
    let bytes : (i : ℕ) → get_or c.decode_to_slice.new.out i 0 < 256 =
    read_bytes c.args.text.now _ 16 _ _ refl c.in-Ok.ensures.value refl in (
      λ yes. (c.decode_to_slice.new.out, c.decode_to_slice.auto.out, bytes, decided.0 yes ∙ written),
      λ found.
          let read = decode_sized-encode_lower found.0 16 found.1 found.2 in
          let value = rw (found.3, read) at c.in-Ok.ensures.value in
          decided.1 (found.3 ∙ rw (← value.1) (sym written)),
    )

pub returns-in-Err : goal.returns-in-Err
returns-in-Err c = (
  search rules,
  λ found.
      let read = decode_sized-encode_lower found.0 16 found.1 found.2 in
      let value = rw (found.3, read) at c.in-Err.ensures.value in
      cc value.0,
)
