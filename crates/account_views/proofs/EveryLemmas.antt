-- Scripts of which every step is fine, and so is each end.
use Rattle.std.proofs.Common.{List, [], ◌∷◌, ◌++◌, sym, subst, append_assoc, append-nil}
use Rattle.ledger_rows.specs.declared.operation.Op.{Op}
use Rattle.ledger_rows.specs.declared.reply.Reply.{Reply}
use Rattle.account_views.specs.Script.{Steps, Return, Ask, and_then}
use Rattle.account_views.specs.Walk.{AreAll, Event, Leads}

-- what was done, and then one more step
abbrev pub behind : List Event → Op → Reply → List Event
behind past op reply = past ++ record { op = op; reply = reply } ∷ []

-- every step that is asked for is fine behind what came before, and so is each end, whatever sound replies come
abbrev pub Every : {A : Type 0} → (Event → Type 0) → (List Event → Op → Type 0) → (List Event → A → Type 0) → List Event → Steps A → Type 0
Every Sound Fine Ends past (Return a) = Ends past a
Every Sound Fine Ends past (Ask op rest) =
    Fine past op × ((reply : Reply) → Sound (record { op = op; reply = reply }) → Every Sound Fine Ends (behind past op reply) (rest reply))

-- one part, and then another that goes on from its end
pub Every-and_then : {A B : Type 0} (Sound : Event → Type 0) (Fine : List Event → Op → Type 0) (Middle : List Event → A → Type 0) (Ends : List Event → B → Type 0)
    (past : List Event) (script : Steps A) (next : A → Steps B) → Every Sound Fine Middle past script
    → ((later : List Event) (a : A) → Middle later a → Every Sound Fine Ends later (next a)) → Every Sound Fine Ends past (and_then script next)
Every-and_then Sound Fine Middle Ends past (Return a) next every go = go past a every
Every-and_then Sound Fine Middle Ends past (Ask op rest) next every go =
    (every.0, λ reply sound. Every-and_then Sound Fine Middle Ends (behind past op reply) (rest reply) next (every.1 reply sound) go)

-- what ends in one way and in another ends in both
pub Every-both : {A : Type 0} (Sound More : Event → Type 0) (Fine Other : List Event → Op → Type 0) (Ends Also : List Event → A → Type 0)
    → ((event : Event) → More event → Sound event) → (past : List Event) (script : Steps A)
    → Every Sound Fine Ends past script → Every More Other Also past script → Every More Other (λ later a. Ends later a × Also later a) past script
Every-both Sound More Fine Other Ends Also sound past (Return a) one other = (one, other)
Every-both Sound More Fine Other Ends Also sound past (Ask op rest) one other =
    (other.0, λ reply more. Every-both Sound More Fine Other Ends Also sound (behind past op reply) (rest reply) (one.1 reply (sound _ more)) (other.1 reply more))

-- where every step is fine, so is the one that events lead to
pub fine_at : {A : Type 0} (Sound : Event → Type 0) (Fine : List Event → Op → Type 0) (Ends : List Event → A → Type 0)
    (events past : List Event) (script : Steps A) (op : Op) (rest : Reply → Steps A) → Every Sound Fine Ends past script
    → Leads script events (Ask op rest) → AreAll Sound events → Fine (past ++ events) op
fine_at Sound Fine Ends [] past script op rest every leads sound =
    let here : Every Sound Fine Ends past (Ask op rest) = subst (λ x. Every Sound Fine Ends past x) (sym leads) every in
    rw append-nil here.0
fine_at Sound Fine Ends (event ∷ events) past (Return a) op rest every leads sound = absurd leads
fine_at Sound Fine Ends (event ∷ events) past (Ask asked go) op rest every leads sound =
    let Q : Op → Type 0 = λ o. (reply : Reply) → Sound (record { op = o; reply = reply }) → Every Sound Fine Ends (behind past o reply) (go reply) in
    let goes : Q event.op = subst Q (sym leads.0) every.1 in
    let found : Fine ((past ++ event ∷ []) ++ events) op =
    fine_at Sound Fine Ends events (past ++ event ∷ []) (go event.reply) op rest (goes event.reply sound.0) leads.1 sound.1 in
    rw append_assoc at found
