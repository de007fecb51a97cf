use Rattle.std.proofs.Common.{◌≡◌, ◌↔◌, ℕ, IsTrue, Bool, List, true, false, Err, ap, inl, inr, []}
use Rattle.httparse.specs.Grammar.{NeverHasRequest}
use Rattle.http_edge.specs.Head.{MayBeginHead, StopsInTarget}
use Rattle.http_edge.proofs.Bounds.{no_overflow, refused_for_good}
use Rattle.http_edge.proofs.request_head.look_for_head.Goals as goal

tested : (b : Bool) (P : Type 0) → (IsTrue b ↔ P) → b ≡ true → P
tested b P iff is = iff.0 is

untested : (b : Bool) (P : Type 0) → (IsTrue b ↔ P) → b ≡ false → P → ⊥
untested b P iff is p = let yes : b ≡ true = iff.1 p in cc

-- what never has a head and stops outside a target can't begin one
hopeless : (first : List ℕ) → NeverHasRequest first → (StopsInTarget first → ⊥) → MayBeginHead first → ⊥
hopeless first never outside (inl (more, h, reads)) = never more h [] reads
hopeless first never outside (inr stops) = outside stops

pub returns-then-stops_in_target : goal.returns-then-stops_in_target
returns-then-stops_in_target c = (
  no_overflow c.args.first.now _ c.requires.short c.requires.room c.in-Err.ensures.no_room,
  inr (tested c.stops_in_target.result _ c.stops_in_target.ensures c.if-stops_in_target.true),
)

pub returns-else-stops_in_target : goal.returns-else-stops_in_target
returns-else-stops_in_target c = (
  no_overflow c.args.first.now _ c.requires.short c.requires.room c.in-Err.ensures.no_room,
  hopeless c.args.first.now
      (refused_for_good c.args.first.now _ c.in-Err.field-0 c.requires.short c.requires.room c.in-Err.ensures.invalid (λ is. c.in-Err.ensures.too_many (ap Err is)))
      (untested c.stops_in_target.result _ c.stops_in_target.ensures c.if-stops_in_target.false),
)
