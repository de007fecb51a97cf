-- What one worker does over one connection: what is said on it, and what its steps did to the store, both of one list of
-- exchanges. This project's own.
use Rattle.std.specs.Prelude.{◌≡◌, ◌≢◌, ◌+◌, ◌++◌, ℕ, true, List, [], ◌∷◌, length, map, Option, Some}
use Rattle.crypto_text.specs.Moment.{moment}
use Rattle.outside.specs.Clock.{GivesNext}
use Rattle.outside.specs.Devices.{HasRead, HasWritten, Input, Output}
use Rattle.outside.specs.Faults.{Rose}
use Rattle.outside.specs.RandomWords.{RandomWords, after_words, words_from}
use Rattle.middleware_chain.specs.declared.settings.Settings.{Settings}
use Rattle.site_server.specs.Outcome.{AreTurnsOf, Server}
use Rattle.site_server.specs.Transcript.{Exchange, IsTranscript}
use Rattle.site_server.specs.Turns.{Turn}
use Rattle.site_server.specs.declared.connection.End.TheVariants.{Closed, ReadFault, WriteFault}
use Rattle.site_server.specs.declared.connection.Report.{Report}

-- what the devices of a connection report
pub record Devices : Type 0 where
  pub input : Input
  pub output : Output
  -- the clock's readings to come
  pub clock : Option (ℕ → ℕ)
  pub words : RandomWords

abbrev pub devices : Input → Output → Option (ℕ → ℕ) → RandomWords → Devices
devices input output clock words = record { input = input; output = output; clock = clock; words = words }

-- each exchange took one reading of the clock, in order, and its moment is that of the reading
abbrev pub HaveReadings : Option (ℕ → ℕ) → List Exchange → Option (ℕ → ℕ) → Type 0
HaveReadings before [] after = after ≡ before
HaveReadings before (e ∷ others) after =
    (reading : ℕ) × (next : Option (ℕ → ℕ)) × GivesNext before next (reading ∷ []) × (e.moment ≡ moment reading) × HaveReadings next others after

-- each exchange took the words at the next 1,024 positions, in order
abbrev pub HaveWords : RandomWords → List Exchange → RandomWords → Type 0
HaveWords before [] after = after ≡ before
HaveWords before (e ∷ others) after =
    (e.words ≡ words_from before 1024) × HaveWords (after_words before 1024) others after

-- the turns of exchanges, in order; the requests are numbered from this one on
abbrev pub AreTurnsOfAll : Server → ℕ → List Exchange → List Turn → Type 0
AreTurnsOfAll server number [] turns = turns ≡ []
AreTurnsOfAll server number (e ∷ others) turns =
    (here : List Turn) × (later : List Turn) × (turns ≡ here ++ later)
    × AreTurnsOf server number e.outcome here × AreTurnsOfAll server (number + 1) others later

abbrev pub moments_of : List Exchange → List ℕ
moments_of exchanges = map (λ (e : Exchange). e.moment) exchanges

-- a whole connection of at most 1,000 requests, the first of which has this number; `Passed` says what these turns
-- did to the store
pub record Serves (settings : Settings) (server : Server) (first : ℕ) (before after : Devices) (Passed : List Turn → Type 0) (report : Report) : Type 0 where
  pub exchanges : List Exchange
  -- what is said on the connection
  pub taken : List ℕ
  pub read : HasRead before.input after.input taken
  pub written : List ℕ
  pub wrote : HasWritten before.output after.output written
  pub transcript : IsTranscript settings 1000 taken exchanges written report.end
  -- bytes that weren't read change nothing
  pub whole : report.end ≡ Closed → (left : List ℕ) → after.input.left ≡ Some left → IsTranscript settings 1000 (taken ++ left) exchanges written Closed
  -- the time and the random words of its requests
  pub clock : HaveReadings before.clock exchanges after.clock
  pub words : HaveWords before.words exchanges after.words
  pub moments : report.moments ≡ moments_of exchanges
  pub requests : report.requests ≡ length exchanges
  -- what its steps did to the store
  pub turns : List Turn
  pub turns_are : AreTurnsOfAll server first exchanges turns
  pub passed : Passed turns
  -- faults have their causes
  pub read_fault : report.end ≡ ReadFault → Rose before.input.faults after.input.faults
  pub never_fails : before.input.never_fails ≡ true → report.end ≢ ReadFault
  pub write_fault : report.end ≡ WriteFault → Rose before.output.faults after.output.faults
