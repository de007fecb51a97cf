use Rattle.std.proofs.Common.{◌≡◌, ℕ, List, [], ◌∷◌, Err, IfOk, ap, subst}
use Rattle.signing_core.specs.Keys.{IsKeys}
use Rattle.keepers.specs.declared.change.Change.TheVariants.{PutKeys}
use Rattle.session_engines.specs.declared.answer.Answer.{Answer}
use Rattle.session_engines.proofs.RotationLemmas.{held_in, not_refused, rotation-done, rotation-full, rotation-held}
use Rattle.session_engines.proofs.keys.rotation.Goals as goal

pub returns-in-Ok : goal.returns-in-Ok
returns-in-Ok c =
    rotation-done c.args.keys.now c.args.key.now c.changed.result c.changed.ensures.reply
    (subst (λ (keys : List (List ℕ)). IfOk c.changed.result (λ (answer : Answer). answer.changes.items ≡ PutKeys keys ∷ [])) c.in-Ok.ensures.ok c.changed.ensures.changes)
    (not_refused c.args.keys.now c.args.key.now c.rotated.result c.in-Ok.rotated c.in-Ok.is c.rotated.ensures.held c.requires)
    (subst IsKeys c.in-Ok.ensures.ok c.in-Ok.ensures.keys)

pub returns-in-Err-Held : goal.returns-in-Err-Held
returns-in-Err-Held c =
    rotation-held c.args.keys.now c.args.key.now c.unchanged.result c.unchanged.ensures.reply c.unchanged.ensures.changes
    (held_in c.args.keys.now c.args.key.now (c.in-Err-Held.ensures.held.0 (ap Err c.in-Err-Held.field-0-is)))

pub returns-in-Err-TooMany : goal.returns-in-Err-TooMany
returns-in-Err-TooMany c =
    let found = c.in-Err-TooMany.ensures.too_many.0 (ap Err c.in-Err-TooMany.field-0-is) in
    rotation-full c.args.keys.now c.args.key.now c.unchanged-in-Err-TooMany.result c.unchanged-in-Err-TooMany.ensures.reply
    c.unchanged-in-Err-TooMany.ensures.changes found.1 found.2
