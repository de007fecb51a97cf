-- What masking is good for, and what the readings of hosts and URLs mean.
use Rattle.std.specs.Prelude.{◌≡◌, ◌↔◌, ℕ, List, length, take, Some, true}
use Rattle.csrf_tokens.specs.HostGrammar.{IsHost}
use Rattle.csrf_tokens.specs.Hosts.{Host, split_host}
use Rattle.csrf_tokens.specs.Letters.{AreLetters}
use Rattle.csrf_tokens.specs.Tokens.{Masks, unmasked}
use Rattle.csrf_tokens.specs.UrlGrammar.{IsUrl}
use Rattle.csrf_tokens.specs.Urls.{Url, url_parts}
use Rattle.csrf_tokens.specs.Verdict.{has_secret_of}

-- a token carries one secret
abbrev pub TokenHasOneSecret : Type 0
TokenHasOneSecret = (first second token : List ℕ) → length first ≡ 32 → length second ≡ 32 → AreLetters first → AreLetters second
    → Masks first token → Masks second token → first ≡ second

-- a secret has one token under each mask
abbrev pub MaskGivesOneToken : Type 0
MaskGivesOneToken = (secret first second : List ℕ) → take 32 first ≡ take 32 second → Masks secret first → Masks secret second → first ≡ second

-- what is unmasked of a token that carries a secret is that secret
abbrev pub MaskedReadsBack : Type 0
MaskedReadsBack = (secret token : List ℕ) → length secret ≡ 32 → AreLetters secret → Masks secret token → unmasked token ≡ secret

-- a token that carries the cookie's secret is accepted: the last line of the table doesn't hold
abbrev pub MaskedTokenMatches : Type 0
MaskedTokenMatches = (secret token : List ℕ) → length secret ≡ 32 → AreLetters secret → Masks secret token → has_secret_of (Some secret) token ≡ true

-- a host is read where it is one of the grammar, and its parts are then the grammar's
abbrev pub HostsAreWellFormed : Type 0
HostsAreWellFormed = (host : List ℕ) (parts : Host) → (split_host host ≡ Some parts) ↔ IsHost host parts

-- a URL is read where it is one of the grammar, and its parts are then the grammar's
abbrev pub UrlsAreWellFormed : Type 0
UrlsAreWellFormed = (text : List ℕ) (url : Url) → (url_parts text ≡ Some url) ↔ IsUrl text url
