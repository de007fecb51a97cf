use Rattle.std.proofs.Common.{◌≡◌, ◌+◌, ◌-◌, ◌≤◌, ℕ, List, ◌++◌, length, take, sym, ap, subst, ◌∙◌, arith, length-take-le, take_all}
use Rattle.std.proofs.lemmas.Grind.{common_steps}
use Rattle.std.proofs.lemmas.List.{take-append-le}
use Rattle.std.proofs.Math.Seq.{take-append-add}
use Rattle.outside.specs.Devices.{HasRead}
use Rattle.outside.proofs.Calls.{read_front, read_more}
use Rattle.outside.proofs.seed.seed_from.Goals as goal
use borrow.Rule.Slice.PartMut.{put_mid, mid_of, post_of}

-- the first bytes, once more of them were written after those that were there
front-put_mid : (from room count : ℕ) (xs ys : List ℕ) → from ≤ length xs → count ≤ length ys
    → take (from + count) (put_mid from room xs ys) ≡ take from xs ++ take count ys
front-put_mid from room count xs ys within fits =
    let start : from + count ≡ length (take from xs) + count = ap (λ n. n + count) (sym (length-take-le from xs within)) in
    ap (λ n. take n (put_mid from room xs ys)) start
    ∙ take-append-add (take from xs) (ys ++ post_of from room xs) count
    ∙ ap (λ back. take from xs ++ back) (take-append-le count ys (post_of from room xs) fits)

length-put_mid : (from size : ℕ) (xs ys : List ℕ) → length xs ≡ size → from ≤ size → length ys ≡ size - from
    → length (put_mid from (size - from) xs ys) ≡ size
length-put_mid from size xs ys size_is within rest = grind (arith, common_steps)

length-mid_of : (from size : ℕ) (xs : List ℕ) → length xs ≡ size → length (mid_of from (size - from) xs) ≡ size - from
length-mid_of from size xs size_is = grind (arith, common_steps)

pub loop-done-preserved : goal.loop-done-preserved
loop-done-preserved g c =
    let done = c.loop-done.done in
    let count = c.in_ok-count.count in
    let seed = c.loop-done.seed in
    let room : length c.read.new.buf ≡ 32 - done = c.read.auto.buf ∙ length-mid_of done 32 seed c.loop-done.invariant.size in
    let fits : count ≤ length c.read.new.buf = c.in_ok-count.ensures.bound in
    record {
      size = length-put_mid done 32 seed c.read.new.buf c.loop-done.invariant.size (omega arith) room;
      within = omega arith;
      reads = rw (front-put_mid done (32 - done) count seed c.read.new.buf (omega arith) fits)
          (read_more _ _ _ (take done seed) (take count c.read.new.buf) c.loop-done.invariant.reads c.in_ok-count.ensures.ok);
    }

pub returns-clause-value : goal.returns-clause-value
returns-clause-value g c =
    let seed = c.loop-done.seed in
    let done = c.loop-done.done in
    let whole : take done seed ≡ seed = take_all done seed (omega (arith, c.loop-done.invariant.size)) in
    read_front _ _ seed 32 (sym c.loop-done.invariant.size) (subst (HasRead _ _) whole c.loop-done.invariant.reads)
