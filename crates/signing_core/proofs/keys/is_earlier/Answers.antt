use Rattle.std.proofs.Common.{inl, inr}
use Rattle.std.proofs.lemmas.Bool.{both_ways}
use Rattle.std.proofs.lemmas.Bool.Decides.{Decides-eqb}
use Rattle.std.proofs.lemmas.Slice.Eq.{slice_eq-Decides}
use Rattle.signing_core.proofs.KeysLemmas.{Contains-cons_cases, Contains-cons_rest}
use Rattle.signing_core.proofs.keys.is_earlier.Goals as goal

pub returns : goal.returns
returns c = (
  λ is. Contains-cons_rest _ _ _ (c.is_among.ensures.0 is),
  λ found. elim (Contains-cons_cases _ _ _ found) [
    | inl same ↦ absurd (both_ways _ c.if-eq.false ((slice_eq-Decides Decides-eqb _ _ _ c.eq.ensures).1 same))
    | inr behind ↦ c.is_among.ensures.1 behind
  ],
)
