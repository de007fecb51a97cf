use Rattle.std.proofs.Common.{◌≡◌, List, map, refl, subst, sym}
use Rattle.signing_core.specs.Keys.{IsKeys}
use Rattle.ledger_rows.specs.Opening.{IsOpening}
use Rattle.ledger_rows.specs.declared.rows.Opening.{Opening}
use Rattle.ledger_rows.specs.declared.rows.SessionRow.{SessionRow}
use Rattle.site_file.specs.OpeningForm.{opening_from, session_row}
use Rattle.site_file.proofs.OpeningLemmas.{opening_from-form}
use Rattle.site_file.proofs.opening.opening_from.Goals as goal

pub returns-clause-form : goal.returns-clause-form
unfolding opening_from
returns-clause-form c =
    let entries = c.args.entries in
    let rows : c.from_vec.result ≡ map (session_row c.args.keys c.args.backends.now entries.users) entries.sessions =
    rw (c.from_vec.ensures, c.in_ok-sessions.ensures, c.items.ensures, c.items-2.ensures) refl in
    let IsStart : List SessionRow → Type 0 = λ sessions.
    let opening : Opening = record { keys = c.args.keys; users = entries.users; groups = entries.groups; perms = entries.perms; sessions = sessions } in IsOpening opening in
    subst IsStart (sym rows) (opening_from-form c.args.keys c.args.backends.now entries (subst IsKeys c.keys.view_is c.keys.invariant) c.requires)
