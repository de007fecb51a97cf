use Rattle.std.proofs.Common.{◌≡◌, List, ℕ, Some, subst, sym, ◌∙◌}
use Rattle.std.specs.Option.{option_copied}
use Rattle.ledger_rows.specs.Admission.{session_text}
use Rattle.ledger_rows.specs.Step.{loaded}
use Rattle.keepers.specs.Keeper.{Answers, Contents, Kept, OnHolding}
use Rattle.session_engines.specs.Loading.{loaded_text}
use Rattle.session_engines.specs.Taking.{uncached}
use Rattle.session_engines.proofs.AnswerLemmas.{answers_by, on_holding}
use Rattle.session_engines.proofs.LoadLemmas.{loaded-found}
use Rattle.session_engines.proofs.load.loaded.Goals as goal

pub returns-in-Some-clause-value : goal.returns-in-Some-clause-value
returns-in-Some-clause-value g c =
    let cookie = option_copied c.args.cookie in
    let kept : Kept = g.K.Keeper.seen c.args.keeper.now in
    let Found : Contents → Type 0 = λ contents. Some c.in-Some.text ≡ session_text contents.tables.sessions cookie c.args.now in
    let found : OnHolding kept.report Found =
    on_holding kept.report (λ contents. c.in_ok-text.field-0 ≡ session_text contents.tables.sessions cookie c.args.now) Found c.in_ok-text.ensures.value
    (λ contents is. sym c.in-Some.is ∙ is) in
    answers_by _ _ c.load_text.result Found (λ tables. loaded_text c.args.cfg.now.backends tables cookie c.args.now c.in-Some.text)
    (λ tables. loaded c.args.cfg.now (uncached tables) cookie c.args.now) c.in_ok-text.ensures.reads found
    (λ contents is. loaded-found c.args.cfg.now contents.tables cookie c.args.now c.in-Some.text is)
    (subst (λ (text : List ℕ). Answers (g.K.Keeper.seen c.live_text.new.keeper) c.load_text.result (λ tables. loaded_text c.args.cfg.now.backends tables cookie c.args.now text)) c.as_str.ensures
    c.load_text.ensures.value)
