-- What one round of a connection was, by what was read, what was answered, and what was written of that.
use Rattle.std.proofs.Common.{◌≡◌, ℕ, Bool, true, false, List, [], ◌∷◌, ◌++◌, Option, Some, None, Ok, Err, refl, sym, ap, ◌∙◌, subst, inl, inr, if◌then◌else◌}
use Rattle.std.specs.Prelude.{option_map, ◌⊎◌, ◌≢◌}
use Rattle.crypto_text.specs.Moment.{moment}
use Rattle.outside.specs.Clock.{GivesNext}
use Rattle.outside.specs.Devices.{Input, Output}
use Rattle.outside.specs.Faults.{Rose}
use Rattle.outside.specs.RandomWords.{RandomWords, after_words, words_from}
use Rattle.outside.proofs.Calls.{write_nothing}
use Rattle.http_edge.specs.Stream.{AnswersTaken, IsFaultOf}
use Rattle.http_edge.specs.declared.request.EdgeFault.{EdgeFault}
use Rattle.http_edge.specs.declared.request.EdgeFault.TheVariants.{BadHead, HeadTooLong, TransferCoding, ContentCoding, NoLength, BodyTooLong, CutShort, ReadFault as Unread, Memory as NoMemory}
use Rattle.http_edge.specs.declared.request.Request.{Request}
use Rattle.http_edge.specs.declared.response.Response.{Response}
use Rattle.middleware_chain.specs.Page.{fault_page}
use Rattle.middleware_chain.specs.declared.settings.Settings.{Settings}
use Rattle.account_views.specs.Handler.{script}
use Rattle.site_server.specs.OneWorker.{devices}
use Rattle.site_server.specs.Outcome.{Done, Ending, IsLastTurn, OutOfMemory, Server, StoreFailed, StoreFull}
use Rattle.site_server.specs.Round.{IsOverWith, IsRound}
use Rattle.site_server.specs.Saying.{HasPut, IsSaidOf}
use Rattle.site_server.specs.Step.{IsDriven}
use Rattle.site_server.specs.Transcript.{Exchange, closing, end_after, response_of, text_of}
use Rattle.site_server.specs.Turns.{Turn}
use Rattle.site_server.specs.declared.connection.End.{End}
use Rattle.site_server.specs.declared.connection.End.TheVariants.{Closed, ReadFault, WriteFault, Memory}
use Rattle.site_server.specs.declared.connection.Round.{Round}

-- ---- ends

kept_not : (keep : Bool) (end : End) → end ≢ Closed → (if keep then None else Some Closed) ≡ Some end → ⊥
kept_not true end other is = cc
kept_not false end other is = let same : end ≡ Closed = cc in other same

end_after-not : (answer : Option Response) (end : End) → end ≢ Closed → end ≢ Memory → end_after answer ≡ Some end → ⊥
end_after-not None end closed memory is = let same : end ≡ Memory = cc in memory same
end_after-not (Some response) end closed memory is = kept_not response.keep end closed is

not_written : (answer : Option Response) → end_after answer ≢ Some WriteFault
not_written answer is = end_after-not answer WriteFault (λ e. cc) (λ e. cc) is

put_unread : (answer : Option Response) (written : List ℕ) (end : Option End) → HasPut (text_of answer) (end_after answer) written end → end ≡ Some ReadFault → ⊥
put_unread answer written end (inl (whole, is)) at_read = end_after-not answer ReadFault (λ e. cc) (λ e. cc) (sym is ∙ at_read)
put_unread answer written end (inr (count, proper, part, is)) at_read = let no : Some WriteFault ≡ Some ReadFault = sym is ∙ at_read in cc

-- ---- a request was answered

out_of_memory : (ending : Ending) (last : List Turn) → IsLastTurn ending last → IsLastTurn OutOfMemory last
out_of_memory (Done response) last is = inl is
out_of_memory StoreFailed last is = inr (inl is)
out_of_memory StoreFull last is = inr (inr is)
out_of_memory OutOfMemory last is = is

pub round_answered : (settings : Settings) (server : Server) (number : ℕ) (more : Bool) (kept kept_now : List ℕ) (input input_now : Input) (output output_now : Output) (clock clock_now : Option (ℕ → ℕ)) (words words_now : RandomWords)
    (Passed : List Turn → Type 0) (r : Request) (reading now : ℕ) (draw : List ℕ) (response shown : Option Response) (end : Option End)
    → AnswersTaken kept input (Ok (Some r)) kept_now input_now
    → GivesNext clock clock_now (reading ∷ []) → now ≡ moment reading → draw ≡ words_from words 1024 → words_now ≡ after_words words 1024
    → IsDriven (script settings r now draw) server number r Passed response → shown ≡ option_map (closing more) response
    → IsSaidOf shown output output_now end
    → IsRound settings server number more kept kept_now (devices input output clock words) (devices input_now output_now clock_now words_now) Passed (record { moment = Some now; end = end })
round_answered settings server number more kept kept_now input input_now output output_now clock clock_now words words_now Passed r reading now draw response shown end read given at drawn words_after driven shown_is (inl put) =
    let e : Exchange = record { request = r; moment = now; words = draw; outcome = driven.outcome } in
    let same : shown ≡ response_of more e = shown_is ∙ ap (λ a. option_map (closing more) a) driven.answered in
    let said : HasPut (text_of (response_of more e)) (end_after (response_of more e)) put.written end = subst (λ a. HasPut (text_of a) (end_after a) put.written end) same put.is in
    record {
      taken = read.taken;
      read = read.source;
      written = put.written;
      wrote = put.wrote;
      is = record {
        exchange = e;
        moment_is = refl;
        framing = read.answer;
        outcome = driven.is;
        reading = reading;
        clock = given;
        reading_is = at;
        words = drawn;
        words_after = words_after;
        turns = driven.turns;
        turns_are = driven.turns_are;
        passed = driven.passed;
        said = said;
      };
      read_fault = λ at_read. absurd (put_unread shown put.written end put.is at_read);
      write_fault = λ at_write. put.cause at_write (not_written shown);
    }
round_answered settings server number more kept kept_now input input_now output output_now clock clock_now words words_now Passed r reading now draw response shown end read given at drawn words_after driven shown_is (inr put) =
    let e : Exchange = record { request = r; moment = now; words = draw; outcome = record { events = driven.outcome.events; ending = OutOfMemory } } in
    record {
      taken = read.taken;
      read = read.source;
      written = put.written;
      wrote = put.wrote;
      is = record {
        exchange = e;
        moment_is = refl;
        framing = read.answer;
        outcome = record { left = driven.is.left; leads = driven.is.leads; ends = tt };
        reading = reading;
        clock = given;
        reading_is = at;
        words = drawn;
        words_after = words_after;
        turns = driven.turns;
        turns_are = record { last = driven.turns_are.last; is_last = out_of_memory driven.outcome.ending driven.turns_are.last driven.turns_are.is_last; all = driven.turns_are.all };
        passed = driven.passed;
        said = put.is;
      };
      read_fault = λ at_read. absurd (put_unread None put.written end put.is at_read);
      write_fault = λ at_write. put.cause at_write (not_written None);
    }

-- ---- no request was there

pub round_over : (settings : Settings) (server : Server) (number : ℕ) (more : Bool) (kept kept_now : List ℕ) (input input_now : Input) (output : Output) (clock : Option (ℕ → ℕ)) (words : RandomWords)
    (Passed : List Turn → Type 0) (round : Round) → Passed []
    → AnswersTaken kept input (Ok None) kept_now input_now → round ≡ record { moment = None; end = Some Closed }
    → IsRound settings server number more kept kept_now (devices input output clock words) (devices input_now output clock words) Passed round
round_over settings server number more kept kept_now input input_now output clock words Passed round none read is =
    subst (λ r. IsRound settings server number more kept kept_now (devices input output clock words) (devices input_now output clock words) Passed r) (sym is) (record {
      taken = read.taken;
      read = read.source;
      written = [];
      wrote = write_nothing output;
      is = (inl (inl (read.answer.0, refl), read.answer.1, refl, refl), refl, refl, none);
      read_fault = λ at_read. let no : Some Closed ≡ Some ReadFault = at_read in absurd (cc);
      write_fault = λ at_write. let no : Some Closed ≡ Some WriteFault = at_write in absurd (cc);
    })

pub round_unread : (settings : Settings) (server : Server) (number : ℕ) (more : Bool) (kept kept_now : List ℕ) (input input_now : Input) (output : Output) (clock : Option (ℕ → ℕ)) (words : RandomWords)
    (Passed : List Turn → Type 0) (round : Round) → Passed []
    → AnswersTaken kept input (Err Unread) kept_now input_now → Rose input.faults input_now.faults → round ≡ record { moment = None; end = Some ReadFault }
    → IsRound settings server number more kept kept_now (devices input output clock words) (devices input_now output clock words) Passed round
round_unread settings server number more kept kept_now input input_now output clock words Passed round none read rose is =
    subst (λ r. IsRound settings server number more kept kept_now (devices input output clock words) (devices input_now output clock words) Passed r) (sym is) (record {
      taken = read.taken;
      read = read.source;
      written = [];
      wrote = write_nothing output;
      is = (inr (inr (inl (read.answer, refl, refl))), refl, refl, none);
      read_fault = λ at_read. rose;
      write_fault = λ at_write. let no : Some ReadFault ≡ Some WriteFault = at_write in absurd (cc);
    })

-- what is said to a fault, by what the fault says of the bytes
over_by : (seen : List ℕ) (now : Input) (fault : EdgeFault) (written : List ℕ) (end : Option End) → IsFaultOf seen now fault
    → HasPut (text_of (fault_page fault)) (end_after (fault_page fault)) written end ⊎ HasPut (text_of None) (end_after None) written end → IsOverWith seen now.left written end
over_by seen now fault written end is (inr memory) = inr (inr (inr memory))
over_by seen now BadHead written end is (inl put) = inr (inl (BadHead, is, (λ e. absurd (cc)), inl put))
over_by seen now HeadTooLong written end is (inl put) = inr (inl (HeadTooLong, is, (λ e. absurd (cc)), inl put))
over_by seen now TransferCoding written end is (inl put) = inr (inl (TransferCoding, is, (λ e. absurd (cc)), inl put))
over_by seen now ContentCoding written end is (inl put) = inr (inl (ContentCoding, is, (λ e. absurd (cc)), inl put))
over_by seen now NoLength written end is (inl put) = inr (inl (NoLength, is, (λ e. absurd (cc)), inl put))
over_by seen now BodyTooLong written end is (inl put) = inr (inl (BodyTooLong, is, (λ e. absurd (cc)), inl put))
over_by seen now CutShort written end is (inl put) = inr (inl (CutShort, is.0, (λ e. is.1), inl put))
over_by seen now Unread written end is (inl put) = inr (inr (inr put))
over_by seen now NoMemory written end is (inl put) = inr (inr (inr put))

pub round_refused : (settings : Settings) (server : Server) (number : ℕ) (more : Bool) (kept kept_now : List ℕ) (input input_now : Input) (output output_now : Output) (clock : Option (ℕ → ℕ)) (words : RandomWords)
    (Passed : List Turn → Type 0) (fault : EdgeFault) (end : Option End) → Passed []
    → AnswersTaken kept input (Err fault) kept_now input_now → IsSaidOf (fault_page fault) output output_now end
    → IsRound settings server number more kept kept_now (devices input output clock words) (devices input_now output_now clock words) Passed (record { moment = None; end = end })
round_refused settings server number more kept kept_now input input_now output output_now clock words Passed fault end none read (inl put) = record {
  taken = read.taken;
  read = read.source;
  written = put.written;
  wrote = put.wrote;
  is = (over_by (kept ++ read.taken) input_now fault put.written end read.answer (inl put.is), refl, refl, none);
  read_fault = λ at_read. absurd (put_unread (fault_page fault) put.written end put.is at_read);
  write_fault = λ at_write. put.cause at_write (not_written (fault_page fault));
}
round_refused settings server number more kept kept_now input input_now output output_now clock words Passed fault end none read (inr put) = record {
  taken = read.taken;
  read = read.source;
  written = put.written;
  wrote = put.wrote;
  is = (over_by (kept ++ read.taken) input_now fault put.written end read.answer (inr put.is), refl, refl, none);
  read_fault = λ at_read. absurd (put_unread None put.written end put.is at_read);
  write_fault = λ at_write. put.cause at_write (not_written None);
}
