-- Key lists compared key by key.
use Rattle.std.proofs.Common.{◌≡◌, ◌<◌, ℕ, zero, suc, List, [], ◌∷◌, length, ap, ◌∙◌, refl, arith}
use Rattle.signing_core.specs.Keys.{key_at}

-- key lists of one length with the same key at each place are the same
pub same_keys : (keys others : List (List ℕ)) → length keys ≡ length others → ((at : ℕ) → at < length keys → key_at keys at ≡ key_at others at) → keys ≡ others
same_keys [] [] lengths each = refl
same_keys [] (other ∷ others) lengths each = absurd (omega (arith, lengths))
same_keys (key ∷ keys) [] lengths each = absurd (omega (arith, lengths))
same_keys (key ∷ keys) (other ∷ others) lengths each =
    let first : key ≡ other = each 0 (omega arith) in
    let rest : keys ≡ others = same_keys keys others (omega (arith, lengths)) (λ at within. each (suc at) (omega (arith, within))) in
    ap (λ (k : List ℕ). k ∷ keys) first ∙ ap (λ (ks : List (List ℕ)). other ∷ ks) rest
