use Rattle.std.proofs.Common.{ℕ, ◌≡◌, ◌<◌, ◌^◌, subst, sym}
use Rattle.std.proofs.lemmas.List.{get_or_default}
use Rattle.pass_hashers.specs.PasswordText.{IsSalt}
use Rattle.site_commands.proofs.task.salt_of.Goals as goal

pub returns-clause-salt : goal.returns-clause-salt
returns-clause-salt c = subst IsSalt (sym c.in_ok-salt.ensures)
    (c.random_letters_are_salt.ensures c.args.words.now c.requires.some c.requires.most (λ k d lt. rw (get_or_default c.args.words.now k d 0 lt) (c.type_inv.words k).fits))
