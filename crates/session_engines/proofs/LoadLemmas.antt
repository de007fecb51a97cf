-- A load, put together from what it reads.
use Rattle.std.proofs.Common.{◌≡◌, ℕ, List, Bool, true, false, Option, Some, None, ap, refl, sym, ◌∙◌}
use Rattle.std.specs.Prelude.{if◌then◌else◌}
use Rattle.serde_json.specs.Data.{Members}
use Rattle.session_codec.specs.SessionMap.{auth_of}
use Rattle.ledger_rows.specs.Admission.{auth_in, is_short, named_user, session_map, session_text}
use Rattle.ledger_rows.specs.State.{rows_of}
use Rattle.ledger_rows.specs.Step.{admitted_user, answer_on, empty_payload, loaded}
use Rattle.ledger_rows.specs.Tables.{Tables}
use Rattle.ledger_rows.specs.declared.reply.Reply.{Reply}
use Rattle.ledger_rows.specs.declared.reply.Reply.TheVariants.{Loaded}
use Rattle.ledger_rows.specs.declared.rows.Backend.{Backend}
use Rattle.ledger_rows.specs.declared.rows.Cfg.{Cfg}
use Rattle.ledger_rows.specs.declared.rows.Engine.{Engine}
use Rattle.ledger_rows.specs.declared.rows.Engine.TheVariants.{Db}
use Rattle.ledger_rows.specs.declared.verdict.Verdict.TheVariants.{NoCookie, NotStored}
use Rattle.session_engines.specs.Loading.{corrupt, judged, loaded_text, unstored}
use Rattle.session_engines.specs.Taking.{uncached}

-- the engine `Db` sees the sessions of the tables
rows_of-uncached : (engine : Engine) (tables : Tables) → rows_of engine (uncached tables) ≡ tables.sessions
rows_of-uncached Db tables = refl

-- the reply by the text that is found
reply_on : Cfg → Tables → Option (List ℕ) → ℕ → Option (List ℕ) → Reply
reply_on cfg tables cookie now text =
    answer_on cfg.backends tables.keys cookie text (session_map tables.keys now text) (named_user tables.users (auth_in (session_map tables.keys now text)))

loaded-by_text : (cfg : Cfg) (tables : Tables) (cookie : Option (List ℕ)) (now : ℕ) (text : Option (List ℕ))
    → text ≡ session_text tables.sessions cookie now → reply_on cfg tables cookie now text ≡ loaded cfg (uncached tables) cookie now
unfolding reply_on
loaded-by_text cfg tables cookie now text found =
    ap (reply_on cfg tables cookie now) (found ∙ ap (λ rows. session_text rows cookie now) (sym (rows_of-uncached cfg.engine tables)))

-- with a text under the cookie
pub loaded-found : (cfg : Cfg) (tables : Tables) (cookie : Option (List ℕ)) (now : ℕ) (text : List ℕ)
    → Some text ≡ session_text tables.sessions cookie now → loaded_text cfg.backends tables cookie now text ≡ loaded cfg (uncached tables) cookie now
unfolding reply_on
loaded-found cfg tables cookie now text found = loaded-by_text cfg tables cookie now (Some text) found

-- without one
unstored-by : (b : Bool) (backends : List Backend) (keys : List (List ℕ))
    → Loaded (if b then NoCookie else NotStored) None empty_payload None
    ≡ Loaded (if b then NoCookie else NotStored) None empty_payload (admitted_user (if b then NoCookie else NotStored) keys None)
unstored-by true backends keys = refl
unstored-by false backends keys = refl

pub loaded-unstored : (cfg : Cfg) (tables : Tables) (cookie : Option (List ℕ)) (now : ℕ)
    → None ≡ session_text tables.sessions cookie now → unstored cookie ≡ loaded cfg (uncached tables) cookie now
unfolding reply_on
loaded-unstored cfg tables cookie now none =
    unstored-by (is_short cookie) cfg.backends tables.keys ∙ loaded-by_text cfg tables cookie now None none

-- what a text is read as
pub loaded_text-read : (backends : List Backend) (tables : Tables) (keys : List (List ℕ)) (cookie : Option (List ℕ)) (now : ℕ) (text : List ℕ) (map : Members)
    → keys ≡ tables.keys → Some map ≡ session_map keys now (Some text)
    → judged backends keys cookie map (named_user tables.users (auth_of map)) ≡ loaded_text backends tables cookie now text
loaded_text-read backends tables keys cookie now text map keys_are read =
    ap (λ m. answer_on backends keys cookie (Some text) m (named_user tables.users (auth_in m))) read
    ∙ ap (λ k. answer_on backends k cookie (Some text) (session_map k now (Some text)) (named_user tables.users (auth_in (session_map k now (Some text))))) keys_are

pub loaded_text-corrupt : (backends : List Backend) (tables : Tables) (keys : List (List ℕ)) (cookie : Option (List ℕ)) (now : ℕ) (text : List ℕ)
    → keys ≡ tables.keys → None ≡ session_map keys now (Some text) → corrupt cookie ≡ loaded_text backends tables cookie now text
loaded_text-corrupt backends tables keys cookie now text keys_are read =
    ap (λ m. answer_on backends keys cookie (Some text) m (named_user tables.users (auth_in m))) read
    ∙ ap (λ k. answer_on backends k cookie (Some text) (session_map k now (Some text)) (named_user tables.users (auth_in (session_map k now (Some text))))) keys_are
