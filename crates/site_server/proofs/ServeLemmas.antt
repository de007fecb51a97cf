-- A connection that is under way goes on by a round, and is served once a round has ended it.
use Rattle.std.proofs.Common.{◌≡◌, ℕ, suc, ◌+◌, ◌-◌, ◌<◌, ◌≤◌, Bool, true, List, [], ◌∷◌, ◌++◌, length, Option, Some, None, refl, sym, ap, ◌∙◌, subst, arith, append-nil, append_assoc, length-append, inl, inr, nat_lt}
use Rattle.std.specs.Prelude.{IfSome, ◌⊎◌}
use Rattle.std.proofs.lemmas.Bool.Decides.{nat_tests}
use Rattle.crypto_text.specs.Moment.{moment}
use Rattle.outside.specs.Clock.{GivesNext}
use Rattle.outside.specs.Devices.{HasRead, HasWritten}
use Rattle.outside.specs.Faults.{Rose}
use Rattle.outside.specs.RandomWords.{RandomWords, after_words, words_from}
use Rattle.outside.proofs.Calls.{read_more, read_nothing, write_more, write_nothing}
use Rattle.http_edge.specs.Laws.{RefusalStands, RequestStands}
use Rattle.http_edge.specs.RequestFraming.{IsFraming, ended, refused}
use Rattle.http_edge.specs.Stream.{WaitsForMore}
use Rattle.http_edge.specs.declared.request.EdgeFault.{EdgeFault}
use Rattle.http_edge.specs.declared.request.EdgeFault.TheVariants.{BadHead, HeadTooLong, TransferCoding, ContentCoding, NoLength, BodyTooLong, CutShort, ReadFault as Unread, Memory as NoMemory}
use Rattle.http_edge.specs.declared.response.Response.{Response}
use Rattle.middleware_chain.specs.Page.{fault_page}
use Rattle.middleware_chain.specs.declared.settings.Settings.{Settings}
use Rattle.site_server.specs.OneWorker.{AreTurnsOfAll, Devices, HaveReadings, HaveWords, Serves, moments_of}
use Rattle.site_server.specs.Outcome.{AreTurnsOf, Server}
use Rattle.site_server.specs.Round.{IsExchanged, IsOverWith, IsRound, IsRoundOf, moments_in}
use Rattle.site_server.specs.Saying.{HasPut}
use Rattle.site_server.specs.Transcript.{Exchange, IsOver, IsSaid, IsTranscript, IsWhole, end_after, response_of, text_of}
use Rattle.site_server.specs.Turns.{Turn}
use Rattle.site_server.specs.declared.connection.End.{End}
use Rattle.site_server.specs.declared.connection.End.TheVariants.{Closed, ReadFault, WriteFault, Memory}
use Rattle.site_server.specs.declared.connection.Report.{Report}
use Rattle.site_server.specs.declared.connection.Round.{Round}

-- ---- one more exchange

readings-last : (before mid after : Option (ℕ → ℕ)) (exchanges : List Exchange) (e : Exchange) (reading : ℕ)
    → HaveReadings before exchanges mid → GivesNext mid after (reading ∷ []) → e.moment ≡ moment reading → HaveReadings before (exchanges ++ e ∷ []) after
readings-last before mid after [] e reading so gives is = (reading, after, subst (λ c. GivesNext c after (reading ∷ [])) so gives, is, refl)
readings-last before mid after (other ∷ exchanges) e reading (first, next, given, moment_is, rest) gives is =
    (first, next, given, moment_is, readings-last next mid after exchanges e reading rest gives is)

words-last : (before mid after : RandomWords) (exchanges : List Exchange) (e : Exchange)
    → HaveWords before exchanges mid → e.words ≡ words_from mid 1024 → after ≡ after_words mid 1024 → HaveWords before (exchanges ++ e ∷ []) after
words-last before mid after [] e so are is = (subst (λ w. e.words ≡ words_from w 1024) so are, subst (λ w. after ≡ after_words w 1024) so is)
words-last before mid after (other ∷ exchanges) e (words, rest) are is = (words, words-last (after_words before 1024) mid after exchanges e rest are is)

moments-last : (exchanges : List Exchange) (e : Exchange) (moments : List ℕ) (now : ℕ) → moments ≡ moments_of exchanges → e.moment ≡ now
    → moments ++ now ∷ [] ≡ moments_of (exchanges ++ e ∷ [])
moments-last [] e moments now are is = rw (are, is) refl
moments-last (other ∷ exchanges) e moments now are is =
    ap (λ ms. ms ++ now ∷ []) are ∙ ap (λ ms. other.moment ∷ ms) (moments-last exchanges e (moments_of exchanges) now refl is)

turns-last : (server : Server) (number : ℕ) (exchanges : List Exchange) (e : Exchange) (turns here : List Turn)
    → AreTurnsOfAll server number exchanges turns → AreTurnsOf server (number + length exchanges) e.outcome here
    → AreTurnsOfAll server number (exchanges ++ e ∷ []) (turns ++ here)
turns-last server number [] e turns here none of =
    (here, [], ap (λ ts. ts ++ here) none ∙ sym (append-nil here), subst (λ n. AreTurnsOf server n e.outcome here) (omega arith) of, refl)
turns-last server number (other ∷ exchanges) e turns here (first, later, all, of_first, rest) of =
    let count : number + suc (length exchanges) ≡ number + 1 + length exchanges = omega arith in (
      first,
      later ++ here,
      ap (λ ts. ts ++ here) all ∙ append_assoc first later here,
      of_first,
      turns-last server (number + 1) exchanges e later here rest (subst (λ n. AreTurnsOf server n e.outcome here) count of),
    )

-- ---- a connection under way

pub record IsServing {S : Type 0} (passed : List Turn → S → S → Type 0) (settings : Settings) (server : Server) (first done : ℕ) (kept : List ℕ) (before mid : Devices) (moments : List ℕ) (start now : S) : Type 0 where
  pub exchanges : List Exchange
  pub count : length exchanges ≡ done
  pub taken : List ℕ
  pub read : HasRead before.input mid.input taken
  pub written : List ℕ
  pub wrote : HasWritten before.output mid.output written
  -- whatever comes, it goes on the transcript so far
  pub goes : (more : List ℕ) (others : List Exchange) (later : List ℕ) (end : End) → IsTranscript settings (1000 - done) (kept ++ more) others later end
      → IsTranscript settings 1000 (taken ++ more) (exchanges ++ others) (written ++ later) end
  pub clock : HaveReadings before.clock exchanges mid.clock
  pub words : HaveWords before.words exchanges mid.words
  pub moments_are : moments ≡ moments_of exchanges
  pub turns : List Turn
  pub turns_are : AreTurnsOfAll server first exchanges turns
  pub so_far : passed turns start now

pub serving_begins : {S : Type 0} (passed : List Turn → S → S → Type 0) (settings : Settings) (server : Server) (first : ℕ) (before : Devices) (start : S)
    → passed [] start start → IsServing passed settings server first 0 [] before before [] start start
serving_begins passed settings server first before start none = record {
  exchanges = [];
  count = refl;
  taken = [];
  read = read_nothing before.input;
  written = [];
  wrote = write_nothing before.output;
  goes = λ more others later end goes. goes;
  clock = refl;
  words = refl;
  moments_are = refl;
  turns = [];
  turns_are = refl;
  so_far = none;
}

-- ---- what a round adds to the transcript

-- whether another request may come, by the number of those that may
more_come : (done left : ℕ) → suc left ≡ 1000 - done → done < 1000 → nat_lt (done + 1) 1000 ≡ nat_lt 0 left
more_come done left is some = grind (arith, nat_tests)

-- what was put out is said, where the connection went on
said_on : (answer : Option Response) (written : List ℕ) (others : List Exchange) (later : List ℕ) (end : End) (GoesOn : List ℕ → Type 0)
    → HasPut (text_of answer) (end_after answer) written None → GoesOn later → IsSaid answer others (written ++ later) end GoesOn
said_on answer written others later end GoesOn (inl (whole, none)) goes =
    inl (subst (λ (ending : Option End). IsWhole (text_of answer) ending others (written ++ later) end GoesOn) none (later, ap (λ text. text ++ later) whole, goes))
said_on answer written others later end GoesOn (inr (count, proper, part, some)) goes = let no : ⊥ = cc in absurd no

-- and where it ended
said_last : (answer : Option Response) (written : List ℕ) (end : End) (GoesOn : List ℕ → Type 0)
    → HasPut (text_of answer) (end_after answer) written (Some end) → IsSaid answer [] written end GoesOn
said_last answer written end GoesOn (inl (whole, is)) =
    inl (subst (λ (ending : Option End). IsWhole (text_of answer) ending [] written end GoesOn) is (refl, whole, refl))
said_last answer written end GoesOn (inr (count, proper, part, is)) =
    let cut : end ≡ WriteFault = cc in
    inr (record { no_others = refl; count = count; proper = proper; part = part; end_is = cut })

-- these bytes may come after those that were read: none, or those that are left where the connection is closed
pub MayFollow : List ℕ → Option (List ℕ) → End → Type 0
MayFollow more left end = (more ≡ []) ⊎ ((end ≡ Closed) × (left ≡ Some more))

nothing_more : (more : List ℕ) (left : Option (List ℕ)) (end : End) → IfSome left (λ bytes. bytes ≡ []) → MayFollow more left end → more ≡ []
unfolding MayFollow
nothing_more more left end none (inl is) = is
nothing_more more left end none (inr (closed, is)) = subst (λ l. IfSome l (λ bytes. bytes ≡ [])) is none

refused_more : RefusalStands → (seen more : List ℕ) (fault : EdgeFault) → IsFraming seen (refused fault) → (fault ≡ CutShort → more ≡ []) → IsFraming (seen ++ more) (refused fault)
refused_more stands seen more BadHead is none = stands seen more BadHead (λ e. cc) is
refused_more stands seen more HeadTooLong is none = stands seen more HeadTooLong (λ e. cc) is
refused_more stands seen more TransferCoding is none = stands seen more TransferCoding (λ e. cc) is
refused_more stands seen more ContentCoding is none = stands seen more ContentCoding (λ e. cc) is
refused_more stands seen more NoLength is none = stands seen more NoLength (λ e. cc) is
refused_more stands seen more BodyTooLong is none = stands seen more BodyTooLong (λ e. cc) is
refused_more stands seen more CutShort is none = subst (λ bytes. IsFraming bytes (refused CutShort)) (sym (append-nil seen) ∙ ap (λ m. seen ++ m) (sym (none refl))) is
refused_more stands seen more Unread is none = stands seen more Unread (λ e. cc) is
refused_more stands seen more NoMemory is none = stands seen more NoMemory (λ e. cc) is

same_bytes : (seen more : List ℕ) → more ≡ [] → seen ≡ seen ++ more
same_bytes seen more none = sym (append-nil seen) ∙ ap (λ m. seen ++ m) (sym none)

over_with : RefusalStands → (seen more : List ℕ) (left : Option (List ℕ)) (written : List ℕ) (end : End) → MayFollow more left end
    → IsOverWith seen left written (Some end) → IsOver (seen ++ more) written end
unfolding MayFollow
over_with stands seen more left written end follows (inl (framing, none, empty, is)) =
    let same : end ≡ Closed = cc in
    inl (subst (λ bytes. IsFraming bytes ended) (same_bytes seen more (nothing_more more left end none follows)) framing, empty, same)
over_with stands seen more left written end follows (inr (inl (fault, framing, cut, put))) =
    inr (inl (
      fault,
      refused_more stands seen more fault framing (λ e. nothing_more more left end (cut e) follows),
      elim put [ inl due ↦ inl (said_last (fault_page fault) written end (λ later. ⊥) due) | inr memory ↦ inr (said_last None written end (λ later. ⊥) memory) ],
    ))
over_with stands seen more left written end (inl none) (inr (inr (inl (waits, empty, is)))) =
    let same : end ≡ ReadFault = cc in
    inr (inr (inl (subst (λ bytes. WaitsForMore bytes) (same_bytes seen more none) waits, empty, same)))
over_with stands seen more left written end (inr (closed, is_left)) (inr (inr (inl (waits, empty, is)))) =
    let no : ReadFault ≡ Closed = cc in absurd (cc)
over_with stands seen more left written end follows (inr (inr (inr put))) = inr (inr (inr (inl (said_last None written end (λ later. ⊥) put))))

follows_none : (left : Option (List ℕ)) (end : End) → MayFollow [] left end
unfolding MayFollow
follows_none left end = inl refl

follows_left : (more : List ℕ) (left : Option (List ℕ)) (end : End) → end ≡ Closed → left ≡ Some more → MayFollow more left end
unfolding MayFollow
follows_left more left end closed is = inr (closed, is)

put_ends : (text : List ℕ) (ending end : Option End) (written : List ℕ) → end ≡ None → (ending ≡ None → ⊥) → HasPut text ending written end → ⊥
put_ends text ending end written none some (inl (whole, is)) = some (sym is ∙ none)
put_ends text ending end written none some (inr (count, proper, part, is)) = let no : Some WriteFault ≡ None = sym is ∙ none in cc

fault_ends : (fault : EdgeFault) → end_after (fault_page fault) ≡ None → ⊥
fault_ends BadHead is = cc
fault_ends HeadTooLong is = cc
fault_ends TransferCoding is = cc
fault_ends ContentCoding is = cc
fault_ends NoLength is = cc
fault_ends BodyTooLong is = cc
fault_ends CutShort is = cc
fault_ends Unread is = cc
fault_ends NoMemory is = cc

-- what isn't answered ends the connection
over_ends : (seen : List ℕ) (left : Option (List ℕ)) (written : List ℕ) (end : Option End) → end ≡ None → IsOverWith seen left written end → ⊥
over_ends seen left written end none (inl (framing, empty, nothing, is)) = let no : Some Closed ≡ None = sym is ∙ none in cc
over_ends seen left written end none (inr (inl (fault, framing, cut, put))) = elim put [
  | inl due ↦ put_ends (text_of (fault_page fault)) (end_after (fault_page fault)) end written none (fault_ends fault) due
  | inr memory ↦ put_ends (text_of None) (end_after None) end written none (λ is. cc) memory
]
over_ends seen left written end none (inr (inr (inl (waits, nothing, is)))) = let no : Some ReadFault ≡ None = sym is ∙ none in cc
over_ends seen left written end none (inr (inr (inr put))) = put_ends (text_of None) (end_after None) end written none (λ is. cc) put

no_rise : (before after : ℕ) → before ≡ 0 → after ≡ 0 → Rose before after → ⊥
no_rise before after is also rose = omega arith

length-moments : (exchanges : List Exchange) → length (moments_of exchanges) ≡ length exchanges
length-moments [] = refl
length-moments (e ∷ exchanges) = ap (λ n. suc n) (length-moments exchanges)

-- ---- the round ends the connection

-- the exchange of the last round, where there was one
abbrev pub last_of : {S : Type 0} (passed : List Turn → S → S → Type 0) (settings : Settings) (server : Server) (number : ℕ) (more : Bool) (seen kept : List ℕ) (before after : Devices) (now new : S) (written : List ℕ) (end : Option End) (at : Option ℕ)
    → IsRoundOf at settings server number more seen kept before after (λ turns. passed turns now new) written end → List Exchange
last_of passed settings server number more seen kept before after now new written end None is = []
last_of passed settings server number more seen kept before after now new written end (Some at) is = is.exchange ∷ []

ends_with : {S : Type 0} (passed : List Turn → S → S → Type 0) → RequestStands → RefusalStands
    → (settings : Settings) (server : Server) (number left : ℕ) (open_more : Bool) (seen kept more : List ℕ) (before after : Devices) (now new : S) (written : List ℕ) (end : End) (at : Option ℕ)
    → open_more ≡ nat_lt 0 left → MayFollow more after.input.left end
    → (is : IsRoundOf at settings server number open_more seen kept before after (λ turns. passed turns now new) written (Some end))
    → IsTranscript settings (suc left) (seen ++ more) (last_of passed settings server number open_more seen kept before after now new written (Some end) at is) written end
ends_with passed stands refusals settings server number left open_more seen kept more before after now new written end None same follows is =
    over_with refusals seen more after.input.left written end follows is.0
ends_with passed stands refusals settings server number left open_more seen kept more before after now new written end (Some at) same follows is = (
  kept ++ more,
  stands seen more kept is.exchange.request is.framing,
  is.outcome,
  subst (λ b. IsSaid (response_of b is.exchange) [] written end (λ later. IsTranscript settings left (kept ++ more) [] later end)) same
      (said_last (response_of open_more is.exchange) written end (λ later. IsTranscript settings left (kept ++ more) [] later end) is.said),
)

-- what the last round adds to all that isn't said
pub record IsAdded {S : Type 0} (passed : List Turn → S → S → Type 0) (server : Server) (first : ℕ) (before after : Devices) (exchanges : List Exchange) (moments : List ℕ) (start new : S) : Type 0 where
  pub clock : HaveReadings before.clock exchanges after.clock
  pub words : HaveWords before.words exchanges after.words
  pub moments_are : moments ≡ moments_of exchanges
  pub turns : List Turn
  pub turns_are : AreTurnsOfAll server first exchanges turns
  pub passed_so : passed turns start new

added : {S : Type 0} (passed : List Turn → S → S → Type 0) → ((one other : List Turn) (a b c : S) → passed one a b → passed other b c → passed (one ++ other) a c)
    → (settings : Settings) (server : Server) (first done : ℕ) (open_more : Bool) (kept kept_now seen : List ℕ) (before mid after : Devices) (moments : List ℕ) (start now new : S) (written : List ℕ) (end : Option End) (at : Option ℕ)
    → (u : IsServing passed settings server first done kept before mid moments start now)
    → (is : IsRoundOf at settings server (first + done) open_more seen kept_now mid after (λ turns. passed turns now new) written end)
    → IsAdded passed server first before after (u.exchanges ++ last_of passed settings server (first + done) open_more seen kept_now mid after now new written end at is) (moments ++ moments_in at) start new
added passed adds settings server first done open_more kept kept_now seen before mid after moments start now new written end None u is = record {
  clock = subst (λ es. HaveReadings before.clock es after.clock) (sym (append-nil u.exchanges)) (subst (λ c. HaveReadings before.clock u.exchanges c) (sym is.1) u.clock);
  words = subst (λ es. HaveWords before.words es after.words) (sym (append-nil u.exchanges)) (subst (λ w. HaveWords before.words u.exchanges w) (sym is.2) u.words);
  moments_are = append-nil moments ∙ u.moments_are ∙ ap (λ es. moments_of es) (sym (append-nil u.exchanges));
  turns = u.turns ++ [];
  turns_are = subst (λ es. AreTurnsOfAll server first es (u.turns ++ [])) (sym (append-nil u.exchanges)) (subst (λ ts. AreTurnsOfAll server first u.exchanges ts) (sym (append-nil u.turns)) u.turns_are);
  passed_so = adds u.turns [] start now new u.so_far is.3;
}
added passed adds settings server first done open_more kept kept_now seen before mid after moments start now new written end (Some at) u is = record {
  clock = readings-last before.clock mid.clock after.clock u.exchanges is.exchange is.reading u.clock is.clock (is.moment_is ∙ is.reading_is);
  words = words-last before.words mid.words after.words u.exchanges is.exchange u.words is.words is.words_after;
  moments_are = moments-last u.exchanges is.exchange moments at u.moments_are is.moment_is;
  turns = u.turns ++ is.turns;
  turns_are = turns-last server first u.exchanges is.exchange u.turns is.turns u.turns_are
      (subst (λ n. AreTurnsOf server n is.exchange.outcome is.turns) (ap (λ k. first + k) (sym u.count)) is.turns_are);
  passed_so = adds u.turns is.turns start now new u.so_far is.passed;
}

-- ---- the round goes on

pub serving_goes_on : {S : Type 0} (passed : List Turn → S → S → Type 0) → ((one other : List Turn) (a b c : S) → passed one a b → passed other b c → passed (one ++ other) a c)
    → RequestStands
    → (settings : Settings) (server : Server) (first done : ℕ) (open_more : Bool) (kept kept_now : List ℕ) (before mid after : Devices) (moments moments_now : List ℕ) (start now new : S) (round : Round)
    → done < 1000 → open_more ≡ nat_lt (done + 1) 1000 → round.end ≡ None → moments_now ≡ moments ++ moments_in round.moment
    → IsServing passed settings server first done kept before mid moments start now
    → IsRound settings server (first + done) open_more kept kept_now mid after (λ turns. passed turns now new) round
    → IsServing passed settings server first (done + 1) kept_now before after moments_now start new
serving_goes_on passed adds stands settings server first done open_more kept kept_now before mid after moments moments_now start now new round few flag open_still are u r =
    on round.moment round.end open_still are r.is
  where
    on : (at : Option ℕ) (end : Option End) → end ≡ None → moments_now ≡ moments ++ moments_in at
        → IsRoundOf at settings server (first + done) open_more (kept ++ r.taken) kept_now mid after (λ turns. passed turns now new) r.written end
        → IsServing passed settings server first (done + 1) kept_now before after moments_now start new
    on None end none are is = absurd (over_ends (kept ++ r.taken) after.input.left r.written end none is.0)
    on (Some at) end none are is =
        let put : HasPut (text_of (response_of open_more is.exchange)) (end_after (response_of open_more is.exchange)) r.written None =
        subst (λ e. HasPut (text_of (response_of open_more is.exchange)) (end_after (response_of open_more is.exchange)) r.written e) none is.said in
        let a = added passed adds settings server first done open_more kept kept_now (kept ++ r.taken) before mid after moments start now new r.written end (Some at) u is in
        record {
          exchanges = u.exchanges ++ is.exchange ∷ [];
          count = omega (arith, length-append u.exchanges (is.exchange ∷ []), u.count);
          taken = u.taken ++ r.taken;
          read = read_more before.input mid.input after.input u.taken r.taken u.read r.read;
          written = u.written ++ r.written;
          wrote = write_more before.output mid.output after.output u.written r.written u.wrote r.wrote;
          goes = λ more others later last after_it. goes_by more others later last put is (1000 - (done + 1)) (omega arith) after_it;
          clock = a.clock;
          words = a.words;
          moments_are = are ∙ a.moments_are;
          turns = a.turns;
          turns_are = a.turns_are;
          so_far = a.passed_so;
        }
      where
        goes_by : (more : List ℕ) (others : List Exchange) (later : List ℕ) (last : End)
            → HasPut (text_of (response_of open_more is.exchange)) (end_after (response_of open_more is.exchange)) r.written None
            → IsExchanged settings server (first + done) open_more (kept ++ r.taken) kept_now mid after (λ turns. passed turns now new) at r.written end
            → (left : ℕ) → suc left ≡ 1000 - done → IsTranscript settings left (kept_now ++ more) others later last
            → IsTranscript settings 1000 ((u.taken ++ r.taken) ++ more) ((u.exchanges ++ is.exchange ∷ []) ++ others) ((u.written ++ r.written) ++ later) last
        goes_by more others later last put x left fits tr =
            let answer : Option Response = response_of open_more is.exchange in
            let same : open_more ≡ nat_lt 0 left = flag ∙ more_come done left fits few in
            let said : IsSaid answer others (r.written ++ later) last (λ w. IsTranscript settings left (kept_now ++ more) others w last) =
            said_on answer r.written others later last (λ w. IsTranscript settings left (kept_now ++ more) others w last) put tr in
            let here : IsTranscript settings (suc left) ((kept ++ r.taken) ++ more) (is.exchange ∷ others) (r.written ++ later) last = (
              kept_now ++ more,
              stands (kept ++ r.taken) more kept_now is.exchange.request is.framing,
              is.outcome,
              subst (λ b. IsSaid (response_of b is.exchange) others (r.written ++ later) last (λ w. IsTranscript settings left (kept_now ++ more) others w last)) same said,
            ) in
            let placed : IsTranscript settings (1000 - done) (kept ++ (r.taken ++ more)) (is.exchange ∷ others) (r.written ++ later) last =
            subst (λ n. IsTranscript settings n (kept ++ (r.taken ++ more)) (is.exchange ∷ others) (r.written ++ later) last) fits
            (subst (λ bytes. IsTranscript settings (suc left) bytes (is.exchange ∷ others) (r.written ++ later) last) (append_assoc kept r.taken more) here) in
            let whole = u.goes (r.taken ++ more) (is.exchange ∷ others) (r.written ++ later) last placed in
            subst (λ bytes. IsTranscript settings 1000 bytes ((u.exchanges ++ is.exchange ∷ []) ++ others) ((u.written ++ r.written) ++ later) last) (sym (append_assoc u.taken r.taken more))
            (subst (λ es. IsTranscript settings 1000 (u.taken ++ (r.taken ++ more)) es ((u.written ++ r.written) ++ later) last) (sym (append_assoc u.exchanges (is.exchange ∷ []) others))
            (subst (λ w. IsTranscript settings 1000 (u.taken ++ (r.taken ++ more)) (u.exchanges ++ is.exchange ∷ others) w last) (sym (append_assoc u.written r.written later)) whole))

-- ---- the whole

pub serves_ends : {S : Type 0} (passed : List Turn → S → S → Type 0) → ((one other : List Turn) (a b c : S) → passed one a b → passed other b c → passed (one ++ other) a c)
    → RequestStands → RefusalStands
    → (settings : Settings) (server : Server) (first done : ℕ) (open_more : Bool) (kept kept_now : List ℕ) (before mid after : Devices) (moments moments_now : List ℕ) (start now new : S) (round : Round) (end : End) (report : Report)
    → done < 1000 → open_more ≡ nat_lt (done + 1) 1000 → round.end ≡ Some end → moments_now ≡ moments ++ moments_in round.moment
    → (before.input.never_fails ≡ true → before.input.faults ≡ 0) → (after.input.never_fails ≡ true → after.input.faults ≡ 0)
    → IsServing passed settings server first done kept before mid moments start now
    → IsRound settings server (first + done) open_more kept kept_now mid after (λ turns. passed turns now new) round
    → report.end ≡ end → report.moments ≡ moments_now → report.requests ≡ length report.moments
    → Serves settings server first before after (λ turns. passed turns start new) report
serves_ends passed adds stands refusals settings server first done open_more kept kept_now before mid after moments moments_now start now new round end report few flag ends are sound_before sound_after u r end_is moments_are requests =
    let is : IsRoundOf round.moment settings server (first + done) open_more (kept ++ r.taken) kept_now mid after (λ turns. passed turns now new) r.written (Some end) =
    subst (λ e. IsRoundOf round.moment settings server (first + done) open_more (kept ++ r.taken) kept_now mid after (λ turns. passed turns now new) r.written e) ends r.is in
    let last : List Exchange = last_of passed settings server (first + done) open_more (kept ++ r.taken) kept_now mid after now new r.written (Some end) round.moment is in
    let a = added passed adds settings server first done open_more kept kept_now (kept ++ r.taken) before mid after moments start now new r.written (Some end) round.moment u is in
    let left : ℕ = 1000 - (done + 1) in
    let fits : suc left ≡ 1000 - done = omega arith in
    let read : HasRead before.input after.input (u.taken ++ r.taken) = read_more before.input mid.input after.input u.taken r.taken u.read r.read in
    let transcript : (more : List ℕ) → MayFollow more after.input.left end → IsTranscript settings 1000 ((u.taken ++ r.taken) ++ more) (u.exchanges ++ last) (u.written ++ r.written) end =
    λ more follows.
    let here : IsTranscript settings (suc left) ((kept ++ r.taken) ++ more) last r.written end =
    ends_with passed stands refusals settings server (first + done) left open_more (kept ++ r.taken) kept_now more mid after now new r.written end round.moment (flag ∙ more_come done left fits few) follows is in
    let placed : IsTranscript settings (1000 - done) (kept ++ (r.taken ++ more)) last r.written end =
    subst (λ n. IsTranscript settings n (kept ++ (r.taken ++ more)) last r.written end) fits
    (subst (λ bytes. IsTranscript settings (suc left) bytes last r.written end) (append_assoc kept r.taken more) here) in
    subst (λ bytes. IsTranscript settings 1000 bytes (u.exchanges ++ last) (u.written ++ r.written) end) (sym (append_assoc u.taken r.taken more))
    (u.goes (r.taken ++ more) last r.written end placed) in
    let read_fault : report.end ≡ ReadFault → Rose before.input.faults after.input.faults =
    λ at_read. let rose : Rose mid.input.faults after.input.faults = r.read_fault (ends ∙ ap Some (sym end_is ∙ at_read)) in
    let low : before.input.faults ≤ mid.input.faults = u.read.count in omega arith in
    record {
      exchanges = u.exchanges ++ last;
      taken = u.taken ++ r.taken;
      read = read;
      written = u.written ++ r.written;
      wrote = write_more before.output mid.output after.output u.written r.written u.wrote r.wrote;
      transcript = subst (λ e. IsTranscript settings 1000 (u.taken ++ r.taken) (u.exchanges ++ last) (u.written ++ r.written) e) (sym end_is)
          (subst (λ bytes. IsTranscript settings 1000 bytes (u.exchanges ++ last) (u.written ++ r.written) end) (append-nil (u.taken ++ r.taken)) (transcript [] (follows_none after.input.left end)));
      whole = λ closed bytes is_left.
          let same : end ≡ Closed = sym end_is ∙ closed in
          subst (λ e. IsTranscript settings 1000 ((u.taken ++ r.taken) ++ bytes) (u.exchanges ++ last) (u.written ++ r.written) e) same
          (transcript bytes (follows_left bytes after.input.left end same is_left));
      clock = a.clock;
      words = a.words;
      moments = moments_are ∙ are ∙ a.moments_are;
      requests = requests ∙ ap (λ (ms : List ℕ). length ms) (moments_are ∙ are ∙ a.moments_are) ∙ length-moments (u.exchanges ++ last);
      turns = a.turns;
      turns_are = a.turns_are;
      passed = a.passed_so;
      read_fault = read_fault;
      never_fails = λ never at_read. no_rise before.input.faults after.input.faults (sound_before never) (sound_after (read.never_fails ∙ never)) (read_fault at_read);
      write_fault = λ at_write. let rose : Rose mid.output.faults after.output.faults = r.write_fault (ends ∙ ap Some (sym end_is ∙ at_write)) in
          let low : before.output.faults ≤ mid.output.faults = u.wrote.count in omega arith;
    }

-- after its last request a connection is closed
pub serves_closes : {S : Type 0} (passed : List Turn → S → S → Type 0) (settings : Settings) (server : Server) (first done : ℕ) (kept : List ℕ) (before mid : Devices) (moments : List ℕ) (start now : S) (report : Report)
    → done ≡ 1000 → IsServing passed settings server first done kept before mid moments start now
    → report.end ≡ Closed → report.moments ≡ moments → report.requests ≡ length report.moments
    → Serves settings server first before mid (λ turns. passed turns start now) report
serves_closes passed settings server first done kept before mid moments start now report all u end_is moments_are requests =
    let none_left : 0 ≡ 1000 - done = omega (arith, all) in
    let transcript : (more : List ℕ) → IsTranscript settings 1000 (u.taken ++ more) u.exchanges u.written Closed =
    λ more.
    subst (λ es. IsTranscript settings 1000 (u.taken ++ more) es u.written Closed) (append-nil u.exchanges)
    (subst (λ w. IsTranscript settings 1000 (u.taken ++ more) (u.exchanges ++ []) w Closed) (append-nil u.written)
    (u.goes more [] [] Closed (subst (λ n. IsTranscript settings n (kept ++ more) [] [] Closed) none_left (refl, refl, refl)))) in
    record {
      exchanges = u.exchanges;
      taken = u.taken;
      read = u.read;
      written = u.written;
      wrote = u.wrote;
      transcript = subst (λ e. IsTranscript settings 1000 u.taken u.exchanges u.written e) (sym end_is)
          (subst (λ bytes. IsTranscript settings 1000 bytes u.exchanges u.written Closed) (append-nil u.taken) (transcript []));
      whole = λ closed bytes is_left. transcript bytes;
      clock = u.clock;
      words = u.words;
      moments = moments_are ∙ u.moments_are;
      requests = requests ∙ ap (λ (ms : List ℕ). length ms) (moments_are ∙ u.moments_are) ∙ length-moments u.exchanges;
      turns = u.turns;
      turns_are = u.turns_are;
      passed = u.so_far;
      read_fault = λ at_read. let no : Closed ≡ ReadFault = sym end_is ∙ at_read in absurd (cc);
      never_fails = λ never at_read. let no : Closed ≡ ReadFault = sym end_is ∙ at_read in cc;
      write_fault = λ at_write. let no : Closed ≡ WriteFault = sym end_is ∙ at_write in absurd (cc);
    }

-- memory was out before the first request
pub serves_nothing : {S : Type 0} (passed : List Turn → S → S → Type 0) (settings : Settings) (server : Server) (first : ℕ) (before : Devices) (start : S) (report : Report)
    → passed [] start start → report.end ≡ Memory → report.moments ≡ [] → report.requests ≡ length report.moments
    → Serves settings server first before before (λ turns. passed turns start start) report
serves_nothing passed settings server first before start report none end_is moments_are requests = record {
  exchanges = [];
  taken = [];
  read = read_nothing before.input;
  written = [];
  wrote = write_nothing before.output;
  transcript = inr (inr (inr (inr (refl, end_is))));
  whole = λ closed bytes is_left. let no : Memory ≡ Closed = sym end_is ∙ closed in absurd (cc);
  clock = refl;
  words = refl;
  moments = moments_are;
  requests = requests ∙ ap (λ (ms : List ℕ). length ms) moments_are;
  turns = [];
  turns_are = refl;
  passed = none;
  read_fault = λ at_read. let no : Memory ≡ ReadFault = sym end_is ∙ at_read in absurd (cc);
  never_fails = λ never at_read. let no : Memory ≡ ReadFault = sym end_is ∙ at_read in cc;
  write_fault = λ at_write. let no : Memory ≡ WriteFault = sym end_is ∙ at_write in absurd (cc);
}

-- the turns of a round
pub round_passed : (settings : Settings) (server : Server) (number : ℕ) (more : Bool) (kept kept_now : List ℕ) (before after : Devices) (Passed : List Turn → Type 0) (round : Round)
    → IsRound settings server number more kept kept_now before after Passed round → (turns : List Turn) × Passed turns
round_passed settings server number more kept kept_now before after Passed round r = of round.moment round.end r.is
  where
    of : (at : Option ℕ) (end : Option End) → IsRoundOf at settings server number more (kept ++ r.taken) kept_now before after Passed r.written end → (turns : List Turn) × Passed turns
    of None end is = ([], is.3)
    of (Some now) end is = (is.turns, is.passed)
