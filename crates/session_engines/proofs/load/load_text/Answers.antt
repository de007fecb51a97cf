use Rattle.std.proofs.Common.{◌≡◌, ℕ, List, Some, ap, sym, ◌∙◌}
use Rattle.std.specs.Option.{option_copied}
use Rattle.session_codec.specs.SessionMap.{auth_of}
use Rattle.ledger_rows.specs.Admission.{named_user, session_map}
use Rattle.keepers.specs.Keeper.{Contents, Kept, OnHolding}
use Rattle.session_engines.specs.Loading.{judged, loaded_text}
use Rattle.session_engines.proofs.AnswerLemmas.{answers_by, on_holding}
use Rattle.session_engines.proofs.LoadLemmas.{loaded_text-read}
use Rattle.session_engines.proofs.load.load_text.Goals as goal

pub returns-in-Some-clause-value : goal.returns-in-Some-clause-value
returns-in-Some-clause-value g c =
    let kept : Kept = g.K.Keeper.seen c.args.keeper.now in
    let Listed : Contents → Type 0 = λ contents. c.in_ok-keys.keys.now ≡ contents.tables.keys in
    let listed : OnHolding kept.report Listed =
    on_holding kept.report (λ contents. c.in_ok-listed.listed ≡ contents.tables.keys) Listed c.in_ok-listed.ensures.value (λ contents is. c.in_ok-keys.ensures ∙ is) in
    answers_by _ _ c.load_map.result Listed
    (λ tables. judged c.args.cfg.now.backends c.in_ok-keys.keys.now (option_copied c.args.cookie) c.in-Some.map (named_user tables.users (auth_of c.in-Some.map)))
    (λ tables. loaded_text c.args.cfg.now.backends tables (option_copied c.args.cookie) c.args.now c.args.text.now)
    c.in_ok-listed.ensures.reads listed
    (λ contents keys_are. loaded_text-read c.args.cfg.now.backends contents.tables c.in_ok-keys.keys.now (option_copied c.args.cookie) c.args.now c.args.text.now c.in-Some.map keys_are
    (sym c.in-Some.is ∙ c.in_ok-map.ensures ∙ ap (λ (keys : List (List ℕ)). session_map keys c.args.now (Some c.args.text.now)) c.keys-present.ensures)) c.load_map.ensures.value
