use Rattle.std.proofs.Common.{[], ◌∷◌, ◌<◌, refl, rules, subst, sym}
use Rattle.pass_hashers.specs.PasswordText.{Verifies, algo_of}
use Rattle.embed.proofs.password.password_text.Goals as goal

pub returns : goal.returns
returns c = subst (λ text. Verifies c.args.password.now text (algo_of c.args.hasher ∷ [])) (sym c.in_ok-text.ensures)
    (c.made_text_verifies.ensures c.args.hasher c.args.password.now _ (algo_of c.args.hasher ∷ []) c.requires.usable (rw c.as_str.ensures c.in_ok-salt.ensures) (0, search rules, refl))
