use Rattle.std.proofs.Common.{◌≡◌, ◌∙◌, ℕ, List, All, ap, rules, subst, sym}
use Rattle.std.specs.List.Sorted.{IsStrictlyIncreasing}
use Rattle.std.proofs.lemmas.List.Elements.{All-filter}
use Rattle.ledger_rows.specs.Opening.{ids_of_users}
use Rattle.ledger_rows.specs.Rows.{IsSoundUser}
use Rattle.ledger_rows.specs.Tables.{has_email, users_of_email}
use Rattle.ledger_rows.specs.declared.rows.UserRow.{UserRow}
use Rattle.keepers.proofs.OrderLemmas.{filter-rises}
use Rattle.keepers.proofs.memory_tables.MemTables.users_by_email.Goals as goal

pub returns : goal.returns
returns c =
    let email = c.args.email.now in
    let users = c.self.inside.rows.users.items in
    let id : UserRow → ℕ = λ user. user.id in
    let same : users_of_email users email ≡ c.from_vec.result =
    sym (c.from_vec.ensures ∙ c.in_ok-users.ensures ∙ ap (λ rows. users_of_email rows email) c.as_slice.ensures.value) in
    record {
      value = search rules;
      sound = subst (λ (rows : List UserRow). All IsSoundUser rows) same (All-filter (has_email email) IsSoundUser users c.self.invariant.0.users);
      order =
          subst (λ (rows : List UserRow). IsStrictlyIncreasing (ids_of_users rows)) same
          (filter-rises id (has_email email) users c.self.invariant.1.users);
    }
