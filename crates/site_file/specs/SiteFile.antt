-- What a settings file says: one JSON object (RFC 8259). The fields, their numbers and the order of refusals are this project's own.
use Rattle.std.specs.Prelude.{◌≡◌, ◌<◌, ◌≤◌, ◌⊎◌, ℕ, Bool, List, [], ◌∷◌, false, not, length, map, bytes_eq, if◌then◌else◌, Option, Some, None, option_and_then, codes, IsUtf8, MatchBool}
use Rattle.std.specs.Char.{is_ascii_uppercase}
use Rattle.std.specs.List.{All, AllPass}
use Rattle.serde_json.specs.Data.{Data}
use Rattle.serde_json.specs.Find.{as_bool, as_object, as_str, get}
use Rattle.serde_json.specs.Read.{read}
use Rattle.csrf_tokens.specs.declared.verdict.Trusted.{Trusted}
use Rattle.pass_hashers.specs.PasswordText.{AreIterations, name_of}
use Rattle.pass_hashers.specs.declared.hasher.Algo.{Algo}
use Rattle.pass_hashers.specs.declared.hasher.Algo.TheVariants as algos
use Rattle.pass_hashers.specs.declared.hasher.Hasher.{Hasher}
use Rattle.pass_hashers.specs.declared.hasher.Hasher.TheVariants as hashers
use Rattle.signing_core.specs.Keys.{IsKeys}
use Rattle.crypto_text.specs.TextList.{AreDifferent}
use Rattle.ledger_rows.specs.Backends.{path_of}
use Rattle.ledger_rows.specs.declared.rows.Backend.{Backend}
use Rattle.ledger_rows.specs.declared.rows.Backend.TheVariants.{Model}
use Rattle.ledger_rows.specs.declared.rows.Cfg.{Cfg}
use Rattle.ledger_rows.specs.declared.rows.Engine.TheVariants.{Db}
use Rattle.site_file.specs.Fields.{has_only, list_in, list_or_empty, number_in}
use Rattle.site_file.specs.OpeningForm.{IsOpeningOf}
use Rattle.site_file.specs.TrustedOrigins.{trusted_value}
use Rattle.site_file.specs.declared.settings.SettingsAll.{SettingsAll}

-- the names of the fields: 1 is keys, 2 allowed_hosts, 3 trusted_origins, 4 backends, 5 hashers, 6 iterations,
-- 9 proxy_secure, 10 cookie_secure, 11 common, 12 opening
unfoldable pub field_names : List (List ℕ)
field_names =
    codes "keys" ∷ codes "allowed_hosts" ∷ codes "trusted_origins" ∷ codes "backends" ∷ codes "hashers" ∷ codes "iterations"
    ∷ codes "proxy_secure" ∷ codes "cookie_secure" ∷ codes "common" ∷ codes "opening" ∷ []

-- 1: the texts of the keys, which make a key list
pub record AreKeysOf (value : Option Data) (keys : List (List ℕ)) : Type 0 where
  pub read : option_and_then (list_in as_str) value ≡ Some keys
  pub form : IsKeys keys

-- 2: any texts; none where the field is absent
abbrev pub AreHostsOf : Option Data → List (List ℕ) → Type 0
AreHostsOf value hosts = list_or_empty as_str value ≡ Some hosts

-- 3: the origins that are trusted; none where the field is absent
abbrev pub AreOriginsOf : Option Data → List Trusted → Type 0
AreOriginsOf value trusted = list_or_empty trusted_value value ≡ Some trusted

abbrev pub paths_of : List Backend → List (List ℕ)
paths_of backends = map path_of backends

-- the paths of one backend or more, each of another one; there are two backends
pub record ArePathsOf (value : Data) (backends : List Backend) : Type 0 where
  pub read : list_in as_str value ≡ Some (paths_of backends)
  pub some : 1 ≤ length backends
  pub different : AreDifferent (paths_of backends)

-- 4: the backends, in the order in which they are asked; Django's `ModelBackend` alone where the field is absent
abbrev pub AreBackendsOf : Option Data → List Backend → Type 0
AreBackendsOf None backends = backends ≡ Model ∷ []
AreBackendsOf (Some value) backends = ArePathsOf value backends

-- the algorithm of a name
unfoldable pub algo_named : List ℕ → Option Algo
algo_named name =
    if bytes_eq name (name_of algos.Pbkdf2Sha256) then Some algos.Pbkdf2Sha256
    else (if bytes_eq name (name_of algos.Pbkdf2Sha1) then Some algos.Pbkdf2Sha1 else (if bytes_eq name (name_of algos.Md5) then Some algos.Md5 else None))

abbrev pub algos_named : List (List ℕ) → Option (List Algo)
algos_named [] = Some []
algos_named (name ∷ names) = option_and_then (λ algo. option_and_then (λ rest. Some (algo ∷ rest)) (algos_named names)) (algo_named name)

-- one name or more, each of another algorithm; there are three algorithms
pub record AreNamesOf (value : Data) (installed : List Algo) : Type 0 where
  pub names : List (List ℕ)
  pub read : list_in as_str value ≡ Some names
  pub known : algos_named names ≡ Some installed
  pub some : 1 ≤ length names
  pub different : AreDifferent names

-- 5: the algorithms that are installed, the preferred one first; PBKDF2 with SHA-256 alone where the field is absent
abbrev pub AreHashersOf : Option Data → List Algo → Type 0
AreHashersOf None installed = installed ≡ algos.Pbkdf2Sha256 ∷ []
AreHashersOf (Some value) installed = AreNamesOf value installed

-- 6: how many iterations PBKDF2 is done with
abbrev pub AreIterationsOf : Option Data → ℕ → Type 0
AreIterationsOf None iterations = iterations ≡ 600000
AreIterationsOf (Some value) iterations = (number_in value ≡ Some iterations) × AreIterations iterations

-- 9 and 10: a truth value; false where the field is absent
abbrev pub IsTruthOf : Option Data → Bool → Type 0
IsTruthOf None truth = truth ≡ false
IsTruthOf (Some value) truth = as_bool value ≡ Some truth

-- no ASCII letter is a capital
abbrev pub IsLowerCase : List ℕ → Type 0
IsLowerCase text = AllPass (λ c. not (is_ascii_uppercase c)) text

-- 11: passwords that are too common; none where the field is absent
pub record AreCommonOf (value : Option Data) (common : List (List ℕ)) : Type 0 where
  pub read : list_or_empty as_str value ≡ Some common
  pub lower : All IsLowerCase common

-- an algorithm with the site's iterations
abbrev pub hasher_of : Algo → ℕ → Hasher
hasher_of algos.Pbkdf2Sha256 iterations = hashers.Pbkdf2Sha256 iterations
hasher_of algos.Pbkdf2Sha1 iterations = hashers.Pbkdf2Sha1 iterations
hasher_of algos.Md5 iterations = hashers.Md5

-- the first of the installed algorithms
abbrev pub preferred_of : List Algo → ℕ → Hasher
preferred_of [] iterations = hashers.Md5
preferred_of (algo ∷ rest) iterations = hasher_of algo iterations

-- the configuration of these fields
unfoldable pub cfg_of : List Backend → List Algo → ℕ → Cfg
cfg_of backends installed iterations = record { engine = Db; backends = backends; installed = installed; preferred = preferred_of installed iterations }

-- a field is wrong by its number: it says nothing
abbrev pub IsWrongField : {A : Type 0} → ℕ → ℕ → (A → Type 0) → Type 0
IsWrongField {A} field number IsSaid = (field ≡ number) × ((x : A) → ¬ IsSaid x)

-- what a file says: the number of its first wrong field, or the site
pub data Site : Type 0 where
  Wrong : ℕ → Site
  Says : SettingsAll → Site

-- a field is judged by what it may say: where it says something, what follows decides, else it is the first wrong field
abbrev pub Judges : {A : Type 0} → ℕ → (A → Type 0) → (A → Site → Type 0) → Site → Type 0
Judges {A} number IsSaid Follows site = ((x : A) × IsSaid x × Follows x site) ⊎ (((x : A) → ¬ IsSaid x) × (site ≡ Wrong number))

-- the fields in the order of their numbers
unfoldable pub IsSaidByFields : Data → Site → Type 0
IsSaidByFields d =
    Judges 1 (AreKeysOf (get (codes "keys") d)) (λ keys.
    Judges 2 (AreHostsOf (get (codes "allowed_hosts") d)) (λ hosts.
    Judges 3 (AreOriginsOf (get (codes "trusted_origins") d)) (λ trusted.
    Judges 4 (AreBackendsOf (get (codes "backends") d)) (λ backends.
    Judges 5 (AreHashersOf (get (codes "hashers") d)) (λ installed.
    Judges 6 (AreIterationsOf (get (codes "iterations") d)) (λ iterations.
    Judges 9 (IsTruthOf (get (codes "proxy_secure") d)) (λ proxy_secure.
    Judges 10 (IsTruthOf (get (codes "cookie_secure") d)) (λ cookie_secure.
    Judges 11 (AreCommonOf (get (codes "common") d)) (λ common.
    Judges 12 (IsOpeningOf keys backends (get (codes "opening") d)) (λ opening site.
    site ≡ Says (record {
      settings = record {
        cfg = cfg_of backends installed iterations;
        allowed = hosts;
        trusted = trusted;
        proxy_secure = proxy_secure;
        cookie_secure = cookie_secure;
        common = common;
      };
      opening = opening;
    })))))))))))

-- a value that is no object has a wrong field 0, as one with an unknown name
abbrev pub IsSaidBy : Data → Site → Type 0
IsSaidBy d site = MatchBool (has_only field_names (as_object d)) (IsSaidByFields d site) (site ≡ Wrong 0)

-- the bytes are JSON text of this value
pub record IsJsonOf (bytes : List ℕ) (d : Data) : Type 0 where
  pub utf8 : IsUtf8 bytes
  pub says : read bytes ≡ Some d

-- what a file of these bytes says: field 0 is wrong where it is no JSON text, or has more than 4,194,304 bytes
unfoldable pub IsSiteOf : List ℕ → Site → Type 0
IsSiteOf bytes site =
    ((d : Data) × (length bytes ≤ 4194304) × IsJsonOf bytes d × IsSaidBy d site)
    ⊎ ((site ≡ Wrong 0) × ((4194304 < length bytes) ⊎ ((d : Data) → ¬ IsJsonOf bytes d)))
