use Rattle.std.proofs.Common.{◌≡◌, ℕ, ◌+◌, ◌*◌, ◌/◌, ◌%◌, ◌≤◌, List, length, get_or, arith, ap}
use Rattle.std.proofs.lemmas.Grind.{div_ceil_times}
use Rattle.std.proofs.lemmas.List.FromFn.{fill_by_all}
use Rattle.crypto_text.specs.Rfc2104.{hmac}
use Rattle.crypto_text.specs.Rfc8018.{block_at, derived_key}
use Rattle.crypto_text.proofs.DerivedKeyLemmas.{filled_more}
use Rattle.crypto_text.proofs.pbkdf2.derive.Goals as goal

pub loop-i-preserved : goal.loop-i-preserved
loop-i-preserved g c = λ k below within.
    let long = c.loop-i.auto.out in
    let number : c.loop-i.i + 1 ≡ 1 + c.loop-i.i = omega arith in
    let keyed = c.derived_block-block.ensures c.args.password.now c.inner_state-inner.ensures c.outer_state-outer.ensures in
    let block = rw number at keyed in
    filled_more
    (λ number place. get_or (block_at (hmac g.H.HashState.hash) g.row.N c.args.password.now c.args.salt.now c.args.count number) place 0)
    g.row.N c.loop-i.i (length c.args.out.now) c.loop-i.out c.write_block.new.out c.derived_block-block.result
    c.write_block.ensures.before
    (λ place inside room. c.write_block.ensures.written place inside (omega (arith, room, long)))
    (λ place. ap (λ (bytes : List ℕ). get_or bytes place 0) block)
    (λ place before room. c.loop-i.invariant place before (omega (arith, room, long)))
    k below (omega (arith, within, long, c.write_block.auto.out))

pub returns : goal.returns
unfolding derived_key
returns g c =
    let long = c.loop-i.auto.out in
    let last : c.div_ceil-blocks.result ≡ c.loop-i.i = omega (arith, c.loop-i.auto.i-end, c.loop-i-test.false) in
    let room : length c.args.out.now ≤ c.div_ceil-blocks.result * g.row.N =
    rw c.div_ceil-blocks.ensures (div_ceil_times (length c.args.out.now) g.row.N c.requires.some).0 in
    let enough : length c.args.out.now ≤ c.loop-i.i * g.row.N = rw last at room in
    fill_by_all
    (λ place. get_or (block_at (hmac g.H.HashState.hash) g.row.N c.args.password.now c.args.salt.now c.args.count (1 + place / g.row.N))
    (place % g.row.N) 0)
    c.loop-i.out (length c.args.out.now) 0 long (λ k lt. c.loop-i.invariant k (omega (arith, lt, enough)) (omega (arith, lt, long)))
