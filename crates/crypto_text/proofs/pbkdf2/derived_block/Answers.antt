use Rattle.std.proofs.Common.{arith, rules, ◌≡◌, ◌∙◌}
use Rattle.crypto_text.proofs.DerivedKeyLemmas.{IsAfter-first, IsAfter-more, IsAfter-last}
use Rattle.crypto_text.proofs.pbkdf2.derived_block.Goals as goal

pub loop-round-init : goal.loop-round-init
loop-round-init g c = λ password inner outer.
    IsAfter-first _ _ _ _ _ _ (c.first_mac-mac.ensures password inner outer) (search rules)

pub loop-round-preserved : goal.loop-round-preserved
loop-round-preserved g c = λ password inner outer.
    let before = c.loop-round.invariant password inner outer in
    IsAfter-more _ _ _ _ _ _ _ _ _ _ before (c.next_mac-mac.ensures password inner outer) (c.fold_in.ensures.length ∙ before.whole) c.fold_in.ensures.folded

pub returns : goal.returns
returns g c = λ password inner outer.
    let last : c.loop-round.round ≡ c.args.count = omega (arith, c.loop-round.auto.round-end c.requires.rounds) in
    IsAfter-last _ _ _ _ _ _ _ _ (rw last at (c.loop-round.invariant password inner outer))
