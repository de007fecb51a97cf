-- A settings file says one thing.
use Rattle.std.proofs.Common.{◌≡◌, ◌⊎◌, ◌<◌, ◌≤◌, ℕ, List, Option, Some, None, Result, Err, Bool, true, false, length, inl, inr, sym, subst, ◌∙◌, arith, MatchBool, codes}
use Rattle.serde_json.specs.Data.{Data}
use Rattle.serde_json.specs.Find.{as_object, get}
use Rattle.csrf_tokens.specs.declared.verdict.Trusted.{Trusted}
use Rattle.pass_hashers.specs.declared.hasher.Algo.{Algo}
use Rattle.ledger_rows.specs.declared.rows.Backend.{Backend}
use Rattle.ledger_rows.specs.declared.rows.Opening.{Opening}
use Rattle.site_file.specs.Fields.{has_only}
use Rattle.site_file.specs.OpeningForm.{IsOpeningOf}
use Rattle.site_file.proofs.BackendLemmas.{paths_tell_backends}
use Rattle.site_file.specs.SiteFile.{AreBackendsOf, AreCommonOf, AreHashersOf, AreHostsOf, AreIterationsOf, AreKeysOf, AreOriginsOf, IsJsonOf, IsSaidBy, IsSaidByFields, IsSiteOf, IsTruthOf, Judges, Site, Wrong, field_names}

-- what is handed on is what was answered
pub same_refusal : {A E : Type 0} (answer : Result A E) (fault other named : E) → answer ≡ Err other → other ≡ fault → answer ≡ Err named → fault ≡ named
same_refusal answer fault other named is same says = cc

-- a field that says one value decides one way
Judges-one : {A : Type 0} (number : ℕ) (IsSaid : A → Type 0) (Follows : A → Site → Type 0) → ((x y : A) → IsSaid x → IsSaid y → x ≡ y)
    → ((x : A) (a b : Site) → Follows x a → Follows x b → a ≡ b) → (a b : Site) → Judges number IsSaid Follows a → Judges number IsSaid Follows b → a ≡ b
Judges-one number IsSaid Follows value follows a b (inl p) (inl q) = follows p.0 a b p.2 (subst (λ x. Follows x b) (value q.0 p.0 q.1 p.1) q.2)
Judges-one number IsSaid Follows value follows a b (inl p) (inr q) = absurd (q.0 p.0 p.1)
Judges-one number IsSaid Follows value follows a b (inr p) (inl q) = absurd (p.0 q.0 q.1)
Judges-one number IsSaid Follows value follows a b (inr p) (inr q) = p.1 ∙ sym q.1

one_keys : (value : Option Data) (x y : List (List ℕ)) → AreKeysOf value x → AreKeysOf value y → x ≡ y
one_keys value x y p q = cc (p.read, q.read)

one_hosts : (value : Option Data) (x y : List (List ℕ)) → AreHostsOf value x → AreHostsOf value y → x ≡ y
one_hosts value x y p q = cc

one_origins : (value : Option Data) (x y : List Trusted) → AreOriginsOf value x → AreOriginsOf value y → x ≡ y
one_origins value x y p q = cc

one_backends : (value : Option Data) (x y : List Backend) → AreBackendsOf value x → AreBackendsOf value y → x ≡ y
one_backends None x y p q = p ∙ sym q
one_backends (Some value) x y p q = paths_tell_backends x y (cc (p.read, q.read))

one_hashers : (value : Option Data) (x y : List Algo) → AreHashersOf value x → AreHashersOf value y → x ≡ y
one_hashers None x y p q = p ∙ sym q
one_hashers (Some value) x y p q = let names : p.names ≡ q.names = cc (p.read, q.read) in cc (names, p.known, q.known)

one_iterations : (value : Option Data) (x y : ℕ) → AreIterationsOf value x → AreIterationsOf value y → x ≡ y
one_iterations None x y p q = p ∙ sym q
one_iterations (Some value) x y p q = cc (p.0, q.0)

one_truth : (value : Option Data) (x y : Bool) → IsTruthOf value x → IsTruthOf value y → x ≡ y
one_truth None x y p q = p ∙ sym q
one_truth (Some value) x y p q = cc

one_common : (value : Option Data) (x y : List (List ℕ)) → AreCommonOf value x → AreCommonOf value y → x ≡ y
one_common value x y p q = cc (p.read, q.read)

one_opening : (keys : List (List ℕ)) (backends : List Backend) (value : Option Data) (x y : Opening) → IsOpeningOf keys backends value x → IsOpeningOf keys backends value y → x ≡ y
one_opening keys backends value x y p q = let entries : p.entries ≡ q.entries = cc (p.read, q.read) in cc (entries, p.rows, q.rows)

said_by_fields-one : (d : Data) (a b : Site) → IsSaidByFields d a → IsSaidByFields d b → a ≡ b
unfolding IsSaidByFields
said_by_fields-one d =
    let named : List ℕ → Option Data = λ name. get name d in
    Judges-one _ (AreKeysOf (named (codes "keys"))) _ (one_keys (named (codes "keys"))) (λ keys.
    Judges-one _ (AreHostsOf (named (codes "allowed_hosts"))) _ (one_hosts (named (codes "allowed_hosts"))) (λ hosts.
    Judges-one _ (AreOriginsOf (named (codes "trusted_origins"))) _ (one_origins (named (codes "trusted_origins"))) (λ trusted.
    Judges-one _ (AreBackendsOf (named (codes "backends"))) _ (one_backends (named (codes "backends"))) (λ backends.
    Judges-one _ (AreHashersOf (named (codes "hashers"))) _ (one_hashers (named (codes "hashers"))) (λ installed.
    Judges-one _ (AreIterationsOf (named (codes "iterations"))) _ (one_iterations (named (codes "iterations"))) (λ iterations.
    Judges-one _ (IsTruthOf (named (codes "proxy_secure"))) _ (one_truth (named (codes "proxy_secure"))) (λ proxy_secure.
    Judges-one _ (IsTruthOf (named (codes "cookie_secure"))) _ (one_truth (named (codes "cookie_secure"))) (λ cookie_secure.
    Judges-one _ (AreCommonOf (named (codes "common"))) _ (one_common (named (codes "common"))) (λ common.
    Judges-one _ (IsOpeningOf keys backends (named (codes "opening"))) _ (one_opening keys backends (named (codes "opening"))) (λ opening a b p q. p ∙ sym q))))))))))

said_by-one_at : (d : Data) (known : Bool) (a b : Site) → MatchBool known (IsSaidByFields d a) (a ≡ Wrong 0) → MatchBool known (IsSaidByFields d b) (b ≡ Wrong 0) → a ≡ b
said_by-one_at d true a b p q = said_by_fields-one d a b p q
said_by-one_at d false a b p q = p ∙ sym q

-- one value says one thing
said_by-one : (d : Data) (a b : Site) → IsSaidBy d a → IsSaidBy d b → a ≡ b
said_by-one d a b p q = said_by-one_at d (has_only field_names (as_object d)) a b p q

not_refused : (bytes : List ℕ) (d : Data) → length bytes ≤ 4194304 → IsJsonOf bytes d → (4194304 < length bytes) ⊎ ((e : Data) → ¬ IsJsonOf bytes e) → ⊥
not_refused bytes d few json (inl many) = omega arith
not_refused bytes d few json (inr none) = none d json

same_value : (bytes : List ℕ) (d e : Data) → IsJsonOf bytes d → IsJsonOf bytes e → d ≡ e
same_value bytes d e p q = cc (p.says, q.says)

pub file_says_one_site : (bytes : List ℕ) (a b : Site) → IsSiteOf bytes a → IsSiteOf bytes b → a ≡ b
unfolding IsSiteOf
file_says_one_site bytes a b (inl p) (inl q) = said_by-one p.0 a b p.3 (subst (λ d. IsSaidBy d b) (same_value bytes q.0 p.0 q.2 p.2) q.3)
file_says_one_site bytes a b (inl p) (inr q) = absurd (not_refused bytes p.0 p.1 p.2 q.1)
file_says_one_site bytes a b (inr p) (inl q) = absurd (not_refused bytes q.0 q.1 q.2 p.1)
file_says_one_site bytes a b (inr p) (inr q) = p.0 ∙ sym q.0
