use Rattle.std.proofs.Common.{ℕ, List, subst}
use Rattle.session_engines.specs.KeyChange.{IsRotation}
use Rattle.session_engines.proofs.RotationLemmas.{rotation-answers}
use Rattle.session_engines.proofs.keys.rotate_key.Goals as goal

pub returns-clause-ok : goal.returns-clause-ok
returns-clause-ok g c = λ cfg. rotation-answers cfg c.in_ok-keys.keys c.args.key.now (g.K.Keeper.seen c.args.keeper.now) c.in_ok-rotation.field-0
    c.in_ok-keys.ensures.value (subst (λ (key : List ℕ). IsRotation c.in_ok-keys.keys key c.in_ok-rotation.field-0) c.items.ensures c.in_ok-rotation.ensures)
