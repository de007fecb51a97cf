use Rattle.std.proofs.Common.{◌≡◌, Option, Some, ap, sym, ◌∙◌}
use Rattle.std.specs.Option.{option_copied}
use Rattle.session_codec.specs.SessionMap.{SessionAuth}
use Rattle.ledger_rows.specs.Admission.{login_of, verdict_on_auth}
use Rattle.ledger_rows.specs.declared.rows.UserRow.{UserRow}
use Rattle.ledger_rows.proofs.AdmissionLemmas.{admitted_hash}
use Rattle.ledger_rows.proofs.admission.judge.Goals as goal

pub read_under-requires : goal.read_under-requires
read_under-requires c =
    let found = c.in-Admitted-Some-Some in
    let part = found.part.now in
    let login : SessionAuth = record { user = part.user; backend = part.backend.now; hash = part.hash.now } in
    let login_is : login_of (option_copied c.args.part) ≡ Some login = ap (λ o. login_of (option_copied o)) found.is-1 in
    let row_is : option_copied c.as_ref.result ≡ Some found.row = c.as_ref.ensures.value ∙ found.is-2 in
    admitted_hash c.args.backends.now c.args.keys.now login found.row found.key_index
    (ap (λ (l : Option SessionAuth). verdict_on_auth c.args.backends.now c.args.keys.now l (Some found.row)) (sym login_is)
    ∙ ap (λ (u : Option UserRow). verdict_on_auth c.args.backends.now c.args.keys.now (login_of (option_copied c.args.part)) u) (sym row_is)
    ∙ sym c.admit-verdict.ensures ∙ found.is-0)
