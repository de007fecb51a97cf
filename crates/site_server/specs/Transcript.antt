-- A connection: what is read of it and what is written to it, by the requests and by how each went. The store isn't in it.
-- This project's own; the framing is that of RFC 9112.
use Rattle.std.specs.Prelude.{◌≡◌, ◌<◌, ◌⊎◌, ℕ, zero, suc, Bool, ◌&&◌, nat_lt, if◌then◌else◌, List, [], ◌∷◌, ◌++◌, length, take, Option, Some, None, option_map}
use Rattle.http_edge.specs.RequestFraming.{IsFraming, ended, refused, request}
use Rattle.http_edge.specs.ResponseText.{response_text}
use Rattle.http_edge.specs.Stream.{WaitsForMore}
use Rattle.http_edge.specs.declared.request.EdgeFault.{EdgeFault}
use Rattle.http_edge.specs.declared.request.Request.{Request}
use Rattle.http_edge.specs.declared.response.Response.{Response}
use Rattle.middleware_chain.specs.Page.{fault_page, memory_text}
use Rattle.middleware_chain.specs.declared.settings.Settings.{Settings}
use Rattle.account_views.specs.Handler.{script}
use Rattle.account_views.specs.Script.{Steps}
use Rattle.site_server.specs.Outcome.{IsOutcome, Outcome, answer_of}
use Rattle.site_server.specs.declared.connection.End.{End}
use Rattle.site_server.specs.declared.connection.End.TheVariants.{Closed, ReadFault, WriteFault, Memory}

-- a request that was read whole, and how it went
pub record Exchange : Type 0 where
  pub request : Request
  -- in seconds since 1970
  pub moment : ℕ
  -- its random words
  pub words : List ℕ
  pub outcome : Outcome

-- what its request does, by the replies
abbrev pub script_of : Settings → Exchange → Steps Response
script_of settings e = script settings e.request e.moment e.words

-- the last response that a connection may have says that it is closed
abbrev pub closing : Bool → Response → Response
closing more response = record response { keep = response.keep && more }

-- the response that an exchange is answered with, where the connection may go on or not
abbrev pub response_of : Bool → Exchange → Option Response
response_of more e = option_map (closing more) (answer_of e.request e.outcome.ending)

-- the text of an answer; without one it is the response for being out of memory
abbrev pub text_of : Option Response → List ℕ
text_of (Some response) = response_text response
text_of None = memory_text

-- how a connection ends once an answer is written, where it does
abbrev pub end_after : Option Response → Option End
end_after (Some response) = if response.keep then None else Some Closed
end_after None = Some Memory

-- a proper part of the text was written, since the output failed, and nothing more
pub record IsCut (text : List ℕ) (others : List Exchange) (written : List ℕ) (end : End) : Type 0 where
  pub no_others : others ≡ []
  pub count : ℕ
  pub proper : count < length text
  pub part : written ≡ take count text
  pub end_is : end ≡ WriteFault

-- the text was written whole, and the connection ended with it or went on
abbrev pub IsWhole : List ℕ → Option End → List Exchange → List ℕ → End → (List ℕ → Type 0) → Type 0
IsWhole text (Some ending) others written end GoesOn = (others ≡ []) × (written ≡ text) × (end ≡ ending)
IsWhole text None others written end GoesOn = (later : List ℕ) × (written ≡ text ++ later) × GoesOn later

-- an answer was written, in whole or in part
abbrev pub IsSaid : Option Response → List Exchange → List ℕ → End → (List ℕ → Type 0) → Type 0
IsSaid answer others written end GoesOn = IsWhole (text_of answer) (end_after answer) others written end GoesOn ⊎ IsCut (text_of answer) others written end

-- malformed input got its one response, or that for being out of memory
abbrev pub IsRefused : EdgeFault → List ℕ → End → Type 0
IsRefused fault written end = IsSaid (fault_page fault) [] written end (λ later. ⊥) ⊎ IsSaid None [] written end (λ later. ⊥)

-- how a connection ends that has these bytes left and whose next request isn't answered: the input ended; the bytes are no
-- request; a read failed where more bytes could give one; or memory was out, before the first request without a word
abbrev pub IsOver : List ℕ → List ℕ → End → Type 0
IsOver bytes written end =
    (IsFraming bytes ended × (written ≡ []) × (end ≡ Closed))
    ⊎ ((fault : EdgeFault) × IsFraming bytes (refused fault) × IsRefused fault written end)
    ⊎ (WaitsForMore bytes × (written ≡ []) × (end ≡ ReadFault))
    ⊎ IsSaid None [] written end (λ later. ⊥)
    ⊎ ((written ≡ []) × (end ≡ Memory))

-- a connection of at most so many requests: its bytes, what was exchanged, the bytes written, and its end. Each request
-- is the next that the bytes give and is answered by its script; after the last one the connection is closed
abbrev pub IsTranscript : Settings → ℕ → List ℕ → List Exchange → List ℕ → End → Type 0
IsTranscript settings zero bytes exchanges written end = (exchanges ≡ []) × (written ≡ []) × (end ≡ Closed)
IsTranscript settings (suc left) bytes [] written end = IsOver bytes written end
IsTranscript settings (suc left) bytes (e ∷ others) written end =
    (rest : List ℕ) × IsFraming bytes (request e.request rest)
    × IsOutcome (script_of settings e) e.outcome
    × IsSaid (response_of (nat_lt 0 left) e) others written end (λ later. IsTranscript settings left rest others later end)
