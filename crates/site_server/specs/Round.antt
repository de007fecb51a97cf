-- One round of a connection: the next request is read and answered, or the connection is over.
use Rattle.std.specs.Prelude.{◌≡◌, ◌⊎◌, ℕ, Bool, List, [], ◌∷◌, ◌++◌, Option, Some, None, IfSome}
use Rattle.crypto_text.specs.Moment.{moment}
use Rattle.outside.specs.Clock.{GivesNext}
use Rattle.outside.specs.Devices.{HasRead, HasWritten}
use Rattle.outside.specs.Faults.{Rose}
use Rattle.outside.specs.RandomWords.{after_words, words_from}
use Rattle.http_edge.specs.RequestFraming.{IsFraming, ended, refused, request}
use Rattle.http_edge.specs.Stream.{WaitsForMore}
use Rattle.http_edge.specs.declared.request.EdgeFault.{EdgeFault}
use Rattle.http_edge.specs.declared.request.EdgeFault.TheVariants.{CutShort}
use Rattle.middleware_chain.specs.Page.{fault_page}
use Rattle.middleware_chain.specs.declared.settings.Settings.{Settings}
use Rattle.site_server.specs.Outcome.{AreTurnsOf, IsOutcome, Server}
use Rattle.site_server.specs.OneWorker.{Devices}
use Rattle.site_server.specs.Saying.{HasPut}
use Rattle.site_server.specs.Transcript.{Exchange, end_after, response_of, script_of, text_of}
use Rattle.site_server.specs.Turns.{Turn}
use Rattle.site_server.specs.declared.connection.End.{End}
use Rattle.site_server.specs.declared.connection.End.TheVariants.{Closed, ReadFault, WriteFault}
use Rattle.site_server.specs.declared.connection.Round.{Round}

-- the moment of a round's request, where there was one
abbrev pub moments_in : Option ℕ → List ℕ
moments_in None = []
moments_in (Some now) = now ∷ []

-- one request was read and answered: its moment is that of one reading of the clock, its words are the next 1,024, and its
-- steps are these turns
pub record IsExchanged (settings : Settings) (server : Server) (number : ℕ) (more : Bool) (seen kept : List ℕ) (before after : Devices) (Passed : List Turn → Type 0) (now : ℕ) (written : List ℕ) (end : Option End) : Type 0 where
  pub exchange : Exchange
  pub moment_is : exchange.moment ≡ now
  pub framing : IsFraming seen (request exchange.request kept)
  pub outcome : IsOutcome (script_of settings exchange) exchange.outcome
  pub reading : ℕ
  pub clock : GivesNext before.clock after.clock (reading ∷ [])
  pub reading_is : now ≡ moment reading
  pub words : exchange.words ≡ words_from before.words 1024
  pub words_after : after.words ≡ after_words before.words 1024
  pub turns : List Turn
  pub turns_are : AreTurnsOf server number exchange.outcome turns
  pub passed : Passed turns
  pub said : HasPut (text_of (response_of more exchange)) (end_after (response_of more exchange)) written end

-- the bytes are no request: what was written, and how the connection ended
abbrev pub IsOverWith : List ℕ → Option (List ℕ) → List ℕ → Option End → Type 0
IsOverWith seen left written end =
    (IsFraming seen ended × IfSome left (λ bytes. bytes ≡ []) × (written ≡ []) × (end ≡ Some Closed))
    ⊎ ((fault : EdgeFault) × IsFraming seen (refused fault) × (fault ≡ CutShort → IfSome left (λ bytes. bytes ≡ []))
    × (HasPut (text_of (fault_page fault)) (end_after (fault_page fault)) written end ⊎ HasPut (text_of None) (end_after None) written end))
    ⊎ (WaitsForMore seen × (written ≡ []) × (end ≡ Some ReadFault))
    ⊎ HasPut (text_of None) (end_after None) written end

-- what was done with the next of what was left
abbrev pub IsRoundOf : Option ℕ → Settings → Server → ℕ → Bool → List ℕ → List ℕ → Devices → Devices → (List Turn → Type 0) → List ℕ → Option End → Type 0
IsRoundOf (Some now) settings server number more seen kept before after Passed written end =
    IsExchanged settings server number more seen kept before after Passed now written end
IsRoundOf None settings server number more seen kept before after Passed written end =
    IsOverWith seen after.input.left written end × (after.clock ≡ before.clock) × (after.words ≡ before.words) × Passed []

-- one round: bytes were taken of the input and these are kept, and these were written
pub record IsRound (settings : Settings) (server : Server) (number : ℕ) (more : Bool) (kept kept_now : List ℕ) (before after : Devices) (Passed : List Turn → Type 0) (round : Round) : Type 0 where
  pub taken : List ℕ
  pub read : HasRead before.input after.input taken
  pub written : List ℕ
  pub wrote : HasWritten before.output after.output written
  pub is : IsRoundOf round.moment settings server number more (kept ++ taken) kept_now before after Passed written round.end
  pub read_fault : round.end ≡ Some ReadFault → Rose before.input.faults after.input.faults
  pub write_fault : round.end ≡ Some WriteFault → Rose before.output.faults after.output.faults
