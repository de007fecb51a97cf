-- The answers to a rotation of the keys.
use Rattle.std.proofs.Common.{◌≡◌, ℕ, Bool, true, false, List, [], ◌∷◌, All, Result, Ok, Err, IfOk, IsErrOf, ◌↔◌, Contains, length, ap, refl, sym, ◌∙◌, arith}
use Rattle.signing_core.specs.Keys.{HasKeyLength, IsKeys, rotated}
use Rattle.signing_core.specs.declared.keys.RotateFault.{RotateFault}
use Rattle.signing_core.specs.declared.keys.RotateFault.TheVariants.{Held}
use Rattle.ledger_rows.specs.KeySteps.{is_full, is_held, keys_by, rotate_reply}
use Rattle.ledger_rows.specs.Replies.{IsReplyOf}
use Rattle.ledger_rows.specs.declared.reply.Reply.TheVariants.{Done, KeyHeld, TooManyKeys}
use Rattle.ledger_rows.proofs.KeyLemmas.{is_full-end, is_full-room, is_held-Decides, is_held-other}
use Rattle.ledger_rows.specs.Tables.{Tables}
use Rattle.ledger_rows.specs.declared.operation.Op.TheVariants.{RotateKey}
use Rattle.ledger_rows.specs.declared.rows.Cfg.{Cfg}
use Rattle.std.proofs.lemmas.List.Elements.{All-cons, All-nil}
use Rattle.keepers.specs.Keeper.{IsSoundChange, Kept, OnHolding, changed_by}
use Rattle.keepers.specs.declared.change.Change.TheVariants.{PutKeys}
use Rattle.session_engines.specs.KeyChange.{IsRotation, rotate_changes}
use Rattle.session_engines.specs.Taking.{IsAnswer}
use Rattle.session_engines.specs.declared.answer.Answer.{Answer}
use Rattle.session_engines.proofs.AnswerLemmas.{answer-by}

-- an answer, by what the two tests of the keys are
rotation-by : (keys : List (List ℕ)) (key : List ℕ) (answer : Answer) (held full : Bool) → answer.reply ≡ rotate_reply held full
    → answer.changes.items ≡ rotate_changes keys key held full → is_held keys key ≡ held → is_full keys ≡ full → IsRotation keys key answer
rotation-by keys key answer held full reply changes is_held_as is_full_as = record {
  reply = reply ∙ ap (λ h. rotate_reply h full) (sym is_held_as) ∙ ap (λ f. rotate_reply (is_held keys key) f) (sym is_full_as);
  changes = changes ∙ ap (λ h. rotate_changes keys key h full) (sym is_held_as) ∙ ap (λ f. rotate_changes keys key (is_held keys key) f) (sym is_full_as);
}

pub rotation-held : (keys : List (List ℕ)) (key : List ℕ) (answer : Answer) → answer.reply ≡ KeyHeld → answer.changes.items ≡ [] → Contains keys key → IsRotation keys key answer
rotation-held keys key answer reply changes held =
    rotation-by keys key answer true (is_full keys) reply changes ((is_held-Decides keys key).1 held) refl

pub rotation-full : (keys : List (List ℕ)) (key : List ℕ) (answer : Answer) → answer.reply ≡ TooManyKeys → answer.changes.items ≡ [] → ¬ Contains keys key → length keys ≡ 16
    → IsRotation keys key answer
rotation-full keys key answer reply changes other end =
    rotation-by keys key answer false true reply changes (is_held-other keys key other) (is_full-end keys end)

pub rotation-done : {E : Type 0} (keys : List (List ℕ)) (key : List ℕ) (result : Result Answer E) → IfOk result (λ answer. answer.reply ≡ Done)
    → IfOk result (λ answer. answer.changes.items ≡ PutKeys (rotated keys key) ∷ []) → ¬ Contains keys key → IsKeys (rotated keys key) → IfOk result (IsRotation keys key)
rotation-done keys key (Ok answer) reply changes other rotated_keys =
    rotation-by keys key answer false false reply changes (is_held-other keys key other) (is_full-room keys (omega (arith, rotated_keys.few)))
rotation-done keys key (Err fault) reply changes other rotated_keys = tt

-- what was found of a key that another clause refuses
second : {A B : Type 0} → A × B → B
second p = p.1

-- the key isn't held, where it wasn't refused for that
pub not_refused : (keys : List (List ℕ)) (key : List ℕ) (result : Result (List (List ℕ)) RotateFault) (made : List (List ℕ)) → result ≡ Ok made
    → (IsErrOf result Held ↔ (HasKeyLength key × Contains keys key)) → HasKeyLength key → ¬ Contains keys key
not_refused keys key result made is refused sized contains =
    let held : result ≡ Err Held = refused.1 (sized, contains) in
    let wrong : Ok made ≡ Err Held = sym is ∙ held in cc

pub held_in : (keys : List (List ℕ)) (key : List ℕ) → HasKeyLength key × Contains keys key → Contains keys key
held_in keys key both = second {A = HasKeyLength key} {B = Contains keys key} both

-- ---- the whole

-- the tables with other keys
with_keys : Tables → List (List ℕ) → Tables
with_keys tables keys = record tables { keys = keys }

changed-by_tests : (tables : Tables) (key : List ℕ) (held full : Bool)
    → changed_by (rotate_changes tables.keys key held full) tables ≡ with_keys tables (keys_by tables.keys key held full)
unfolding with_keys
changed-by_tests tables key true full = refl
changed-by_tests tables key false true = refl
changed-by_tests tables key false false = refl

kind-by_tests : (key : List ℕ) (held full : Bool) → IsReplyOf (RotateKey key) (rotate_reply held full)
kind-by_tests key true full = tt
kind-by_tests key false true = tt
kind-by_tests key false false = tt

sound-by_tests : (keys : List (List ℕ)) (key : List ℕ) (held full : Bool) → All IsSoundChange (rotate_changes keys key held full)
sound-by_tests keys key true full = All-nil IsSoundChange
sound-by_tests keys key false true = All-nil IsSoundChange
sound-by_tests keys key false false = All-cons IsSoundChange (PutKeys (rotated keys key)) [] tt (All-nil IsSoundChange)

pub rotation-answers : (cfg : Cfg) (keys : List (List ℕ)) (key : List ℕ) (kept : Kept) (answer : Answer)
    → OnHolding kept.report (λ contents. keys ≡ contents.tables.keys) → IsRotation keys key answer → IsAnswer cfg (RotateKey key) kept answer
unfolding with_keys
rotation-answers cfg keys key kept answer keys_are rotation =
    answer-by cfg (RotateKey key) kept answer (rotate_reply (is_held keys key) (is_full keys)) (rotate_changes keys key (is_held keys key) (is_full keys))
    (λ contents. keys ≡ contents.tables.keys) rotation.reply rotation.changes (kind-by_tests key (is_held keys key) (is_full keys))
    (sound-by_tests keys key (is_held keys key) (is_full keys)) keys_are
    (λ contents same. ap (λ ks. rotate_reply (is_held ks key) (is_full ks)) same)
    (λ contents same.
    ap (λ ks. changed_by (rotate_changes ks key (is_held ks key) (is_full ks)) contents.tables) same
    ∙ changed-by_tests contents.tables key (is_held contents.tables.keys key) (is_full contents.tables.keys))
