-- A derived key, round after round and block after block.
use Rattle.std.proofs.Common.{◌≡◌, ℕ, ◌+◌, ◌-◌, ◌*◌, ◌/◌, ◌%◌, ◌<◌, inl, inr, List, ◌++◌, length, get_or, bit_xor, arith, sym, ap, refl, add-one, ◌∙◌}
use Rattle.std.proofs.lemmas.Bool.{cases_lt}
use Rattle.std.proofs.lemmas.List.FromFn.{fill_by_all}
use Rattle.std.proofs.lemmas.Nat.{div-mul-add, mod-mul-add}
use Rattle.std.specs.Int.{w32, to_be_bytes}
use Rattle.crypto_text.specs.Rfc8018.{Prf, block_at, byte_at, chained_mac}

-- the MAC is the one of the last round, and the block holds the xor of those so far
pub record IsAfter (prf : Prf) (size : ℕ) (password salt : List ℕ) (number round : ℕ) (mac block : List ℕ) : Type 0 where
  pub chained : mac ≡ chained_mac prf password salt number round
  pub whole : length block ≡ size
  pub folded : (k : ℕ) → k < size → get_or block k 0 ≡ byte_at prf password salt number k round

-- the first round's MAC is the block
pub IsAfter-first : (prf : Prf) (size : ℕ) (password salt : List ℕ) (number : ℕ) (mac : List ℕ)
    → mac ≡ prf password (salt ++ to_be_bytes w32 number) → length mac ≡ size → IsAfter prf size password salt number 1 mac mac
unfolding byte_at chained_mac
IsAfter-first prf size password salt number mac first whole = record {
  chained = first;
  whole = whole;
  folded = λ k lt. ap (λ (bytes : List ℕ). get_or bytes k 0) first;
}

-- another round
pub IsAfter-more : (prf : Prf) (size : ℕ) (password salt : List ℕ) (number round : ℕ) (mac block next folded : List ℕ)
    → IsAfter prf size password salt number round mac block → next ≡ prf password mac → length folded ≡ size
    → ((k : ℕ) → k < size → get_or folded k 0 ≡ bit_xor (get_or block k 0) (get_or next k 0))
    → IsAfter prf size password salt number (round + 1) next folded
unfolding byte_at chained_mac
IsAfter-more prf size password salt number round mac block next folded before mac_is whole xor =
    let chained : next ≡ prf password (chained_mac prf password salt number round) = mac_is ∙ ap (prf password) before.chained in
    rw add-one (record {
      chained = chained;
      whole = whole;
      folded = λ k lt. xor k lt ∙ rw (before.folded k lt, chained) refl;
    })

-- after the last round the block is T
pub IsAfter-last : (prf : Prf) (size : ℕ) (password salt : List ℕ) (number count : ℕ) (mac block : List ℕ)
    → IsAfter prf size password salt number count mac block → block ≡ block_at prf size password salt count number
unfolding block_at
IsAfter-last prf size password salt number count mac block after =
    fill_by_all (λ place. byte_at prf password salt number place count) block size 0 after.whole after.folded

-- a block at its place, and the blocks before it as they were
pub filled_more : (f : ℕ → ℕ → ℕ) (size i n : ℕ) (before after block : List ℕ)
    → ((k : ℕ) → k < size * i → get_or after k 0 ≡ get_or before k 0)
    → ((k : ℕ) → k < size → size * i + k < n → get_or after (size * i + k) 0 ≡ get_or block k 0)
    → ((k : ℕ) → get_or block k 0 ≡ f (1 + i) k)
    → ((k : ℕ) → k < size * i → k < n → get_or before k 0 ≡ f (1 + k / size) (k % size))
    → (k : ℕ) → k < size * (i + 1) → k < n → get_or after k 0 ≡ f (1 + k / size) (k % size)
filled_more f size i n before after block same written value filled k below within = elim (cases_lt k (size * i)) [
  | inl lt ↦ same k lt ∙ filled k lt within
  | inr ge ↦
      let inside : k - size * i < size = omega (arith, below) in
      let place : size * i + (k - size * i) ≡ k = omega arith in
      let whole : i * size + (k - size * i) ≡ k = omega arith in
      let number : k / size ≡ i = ap (λ (n : ℕ). n / size) (sym whole) ∙ div-mul-add i size (k - size * i) inside in
      let rest : k % size ≡ k - size * i = ap (λ (n : ℕ). n % size) (sym whole) ∙ mod-mul-add i size (k - size * i) inside in
      let here = rw place at (written (k - size * i) inside (omega (arith, within))) in
      rw (number, rest) (here ∙ value (k - size * i))
]
