use Rattle.signing_core.specs.SignedCookie.{cookie_prefix, salt_with_name}
use Rattle.signing_core.proofs.SignatureLemmas.{timestamped_while_listed}
use Rattle.signing_core.proofs.laws.cookie_while_listed.Goals as goal

pub returns : goal.returns
returns c = λ name value salt key time now max_age keys fits listed allowed. record {
  time = time;
  timestamped = timestamped_while_listed value cookie_prefix (salt_with_name name salt) key time keys fits listed;
  allowed = allowed;
}
