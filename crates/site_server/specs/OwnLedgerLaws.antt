-- What turns did to a ledger that one worker has for itself: none did nothing, and turns add up.
use Rattle.std.proofs.Common.{◌≡◌, ℕ, suc, ◌+◌, ◌≤◌, List, [], ◌∷◌, ◌++◌, length, Option, Some, option_map, Result, Ok, Err, refl, sym, ap, ◌∙◌, subst, arith, append-nil, append_assoc, length-append, inl, inr, ⊎_elim}
use Rattle.std.proofs.lemmas.List.Sums.{fold-append}
use Rattle.ledger_rows.specs.History.{IsLegal, entry_at, reply_at, state_at}
use Rattle.ledger_rows.specs.State.{State}
use Rattle.ledger_rows.specs.Step.{reply_to, tables_after}
use Rattle.ledger_rows.proofs.HistoryLemmas.{entry_at-append, entry_at-last, entry_within, reply_at-append, state_at-append}
use Rattle.ledger_rows.specs.declared.entry.Entry.{Entry}
use Rattle.ledger_rows.specs.declared.entry.Tag.{Tag}
use Rattle.ledger_rows.specs.declared.operation.Op.{Op}
use Rattle.ledger_rows.specs.declared.reply.Reply.{Reply}
use Rattle.ledger_rows.specs.declared.rows.Cfg.{Cfg}
use Rattle.ledger_rows.specs.declared.rows.Engine.{Engine}
use Rattle.ledger_rows.specs.declared.rows.Opening.{Opening}
use Rattle.keepers.specs.Keeper.{Contents, OnHolding, Report, Unreported, Fresh, Holding}
use Rattle.session_engines.specs.Ledger.{HasCause, HasLegalHistory, IsSoundLedger, LedgerView, Steps, state_of, stepped}
use Rattle.session_engines.specs.declared.step_fault.StepFault.{StepFault}
use Rattle.session_engines.specs.declared.step_fault.StepFault.TheVariants.{Keeper, Full, Memory}
use Rattle.site_server.specs.OwnLedger.{HaveTurned, list_of, report_after}
use Rattle.site_server.specs.Turns.{Did, Failed, HadNoRoom, HadRoom, RoseBy, StandFrom, Turn, entries_in, failures_in, turns_of_step}

-- ---- lists of turns

pub entries_in-append : (one other : List Turn) → entries_in (one ++ other) ≡ entries_in one ++ entries_in other
entries_in-append [] other = refl
entries_in-append (Did tag op reply ∷ one) other = ap (λ es. record { tag = tag; op = op } ∷ es) (entries_in-append one other)
entries_in-append (Failed ∷ one) other = entries_in-append one other
entries_in-append (HadNoRoom op ∷ one) other = entries_in-append one other

failures_in-append : (one other : List Turn) → failures_in (one ++ other) ≡ failures_in one + failures_in other
failures_in-append [] other = omega arith
failures_in-append (Did tag op reply ∷ one) other = failures_in-append one other
failures_in-append (Failed ∷ one) other = omega (arith, failures_in-append one other)
failures_in-append (HadNoRoom op ∷ one) other = failures_in-append one other

HadRoom-append : (one other : List Turn) (count later : ℕ) → count ≤ later → HadRoom count one → HadRoom later other → HadRoom later (one ++ other)
HadRoom-append [] other count later le had also = also
HadRoom-append (Did tag op reply ∷ one) other count later le had also = HadRoom-append one other count later le had also
HadRoom-append (Failed ∷ one) other count later le had also = HadRoom-append one other count later le had also
HadRoom-append (HadNoRoom op ∷ one) other count later le had also = (
  ⊎_elim (λ full. inl (omega (arith, full))) (λ draws. inr draws) had.0,
  HadRoom-append one other count later le had.1 also,
)

RoseBy-none : (count : ℕ) → RoseBy 0 count count
RoseBy-none count = omega arith

RoseBy-adds : (m n sum first next last : ℕ) → sum ≡ m + n → RoseBy m first next → RoseBy n next last → RoseBy sum first last
RoseBy-adds m n sum first next last is one other = omega arith

-- ---- indexes

StandFrom-below : (cfg : Cfg) (opening : Opening) (entries : List Entry) (low high : ℕ) (turns : List Turn) → low ≤ high → StandFrom cfg opening entries high turns → StandFrom cfg opening entries low turns
StandFrom-below cfg opening entries low high [] le stand = stand
StandFrom-below cfg opening entries low high (Failed ∷ turns) le stand = StandFrom-below cfg opening entries low high turns le stand
StandFrom-below cfg opening entries low high (HadNoRoom op ∷ turns) le stand = StandFrom-below cfg opening entries low high turns le stand
StandFrom-below cfg opening entries low high (Did tag op reply ∷ turns) le (index, after, entry, replied, rest) = (index, omega arith, entry, replied, rest)

-- more entries change nothing, and other turns stand after those that are there
StandFrom-append : (cfg : Cfg) (opening : Opening) (entries more : List Entry) (from : ℕ) (one other : List Turn) → from ≤ length entries
    → StandFrom cfg opening entries from one → StandFrom cfg opening (entries ++ more) (length entries) other → StandFrom cfg opening (entries ++ more) from (one ++ other)
StandFrom-append cfg opening entries more from [] other low stand also = StandFrom-below cfg opening (entries ++ more) from (length entries) other low also
StandFrom-append cfg opening entries more from (Failed ∷ one) other low stand also = StandFrom-append cfg opening entries more from one other low stand also
StandFrom-append cfg opening entries more from (HadNoRoom op ∷ one) other low stand also = StandFrom-append cfg opening entries more from one other low stand also
StandFrom-append cfg opening entries more from (Did tag op reply ∷ one) other low (index, after, entry, replied, rest) also =
    let within : suc index ≤ length entries = entry_within entries index (record { tag = tag; op = op }) entry in (
      index,
      after,
      entry_at-append entries more index (omega arith) ∙ entry,
      reply_at-append cfg opening entries more index (omega arith) ∙ replied,
      StandFrom-append cfg opening entries more (suc index) one other within rest also,
    )

-- ---- reports

report_after-append : (engine : Engine) (one other : List Entry) (report : Report) → report_after engine (one ++ other) report ≡ report_after engine other (report_after engine one report)
report_after-append engine one other report = fold-append (λ r entry. stepped engine entry r) report one other

-- the opening stays, and the entries are appended
pub record HasGrown (found : Contents) (more : List Entry) (left : Contents) : Type 0 where
  pub opening : left.opening ≡ found.opening
  pub entries : left.entries ≡ found.entries ++ more

pub report_after-holding : (engine : Engine) (entries : List Entry) (contents : Contents)
    → (left : Contents) × (report_after engine entries (Holding contents) ≡ Holding left) × HasGrown contents entries left
report_after-holding engine [] contents = (contents, refl, record { opening = refl; entries = sym (append-nil contents.entries) })
report_after-holding engine (entry ∷ entries) contents =
    let later = report_after-holding engine entries (record contents { tables = tables_after engine entry.op contents.tables; entries = contents.entries ++ entry ∷ [] }) in (
      later.0,
      later.1,
      record {
        opening = later.2.opening;
        entries = later.2.entries ∙ append_assoc contents.entries (entry ∷ []) entries;
      },
    )

pub report_after-unreported : (engine : Engine) (entries : List Entry) → report_after engine entries Unreported ≡ Unreported
report_after-unreported engine [] = refl
report_after-unreported engine (entry ∷ entries) = report_after-unreported engine entries

pub report_after-fresh : (engine : Engine) (entries : List Entry) → report_after engine entries Fresh ≡ Fresh
report_after-fresh engine [] = refl
report_after-fresh engine (entry ∷ entries) = report_after-fresh engine entries

-- ---- none

on_nothing : (report : Report) → OnHolding report (λ contents. Unit {0})
on_nothing Unreported = tt
on_nothing Fresh = tt
on_nothing (Holding contents) = tt

pub turned-nothing : (ledger : LedgerView) → HaveTurned [] ledger ledger
turned-nothing ledger = record {
  cfg = refl;
  boot = refl;
  report = refl;
  sound = λ sound. sound;
  replies = λ sound. on_nothing ledger.kept.report;
  entry_count = omega arith;
  faults = RoseBy-none ledger.kept.faults;
  room = tt;
}

-- ---- one after another

list_grows : (engine : Engine) (entries : List Entry) (found : Report) (next : Contents) → Holding next ≡ report_after engine entries found → length (list_of found) ≤ length next.entries
list_grows engine entries Unreported next is = omega arith
list_grows engine entries Fresh next is = omega arith
list_grows engine entries (Holding contents) next is =
    let left = report_after-holding engine entries contents in
    let same : Holding next ≡ Holding left.0 = is ∙ left.1 in
    let also : next ≡ left.0 = cc in
    omega (arith, ap (λ (c : Contents). length c.entries) also, ap (λ (es : List Entry). length es) left.2.entries, length-append contents.entries entries)

replies-add : (cfg : Cfg) (found next last : Report) (one other : List Turn)
    → next ≡ report_after cfg.engine (entries_in one) found → last ≡ report_after cfg.engine (entries_in other) next
    → OnHolding next (λ contents. StandFrom cfg contents.opening contents.entries (length (list_of found)) one)
    → OnHolding last (λ contents. StandFrom cfg contents.opening contents.entries (length (list_of next)) other)
    → OnHolding last (λ contents. StandFrom cfg contents.opening contents.entries (length (list_of found)) (one ++ other))
replies-add cfg found Unreported last one other is then first second =
    subst (λ r. OnHolding r (λ contents. StandFrom cfg contents.opening contents.entries (length (list_of found)) (one ++ other))) (sym (then ∙ report_after-unreported cfg.engine (entries_in other))) tt
replies-add cfg found Fresh last one other is then first second =
    subst (λ r. OnHolding r (λ contents. StandFrom cfg contents.opening contents.entries (length (list_of found)) (one ++ other))) (sym (then ∙ report_after-fresh cfg.engine (entries_in other))) tt
replies-add cfg found (Holding next) last one other is then first second =
    let left = report_after-holding cfg.engine (entries_in other) next in
    let last_is : last ≡ Holding left.0 = then ∙ left.1 in
    let after : StandFrom cfg left.0.opening left.0.entries (length next.entries) other =
    subst (λ r. OnHolding r (λ contents. StandFrom cfg contents.opening contents.entries (length next.entries) other)) last_is second in
    let here : StandFrom cfg next.opening (next.entries ++ entries_in other) (length next.entries) other =
    subst (λ es. StandFrom cfg next.opening es (length next.entries) other) left.2.entries (subst (λ o. StandFrom cfg o left.0.entries (length next.entries) other) left.2.opening after) in
    let low : length (list_of found) ≤ length next.entries = list_grows cfg.engine (entries_in one) found next is in
    let both : StandFrom cfg next.opening (next.entries ++ entries_in other) (length (list_of found)) (one ++ other) =
    StandFrom-append cfg next.opening next.entries (entries_in other) (length (list_of found)) one other low first here in
    subst (λ r. OnHolding r (λ contents. StandFrom cfg contents.opening contents.entries (length (list_of found)) (one ++ other))) (sym last_is)
    (subst (λ o. StandFrom cfg o left.0.entries (length (list_of found)) (one ++ other)) (sym left.2.opening)
    (subst (λ es. StandFrom cfg next.opening es (length (list_of found)) (one ++ other)) (sym left.2.entries) both))

pub turned-adds : (one other : List Turn) (first next last : LedgerView) → HaveTurned one first next → HaveTurned other next last → HaveTurned (one ++ other) first last
turned-adds one other first next last a b =
    let engine : Engine = first.cfg.engine in
    let report : last.kept.report ≡ report_after engine (entries_in other) next.kept.report =
    b.report ∙ ap (λ (c : Cfg). report_after c.engine (entries_in other) next.kept.report) a.cfg in
    record {
      cfg = b.cfg ∙ a.cfg;
      boot = b.boot ∙ a.boot;
      report = report ∙ ap (λ r. report_after engine (entries_in other) r) a.report ∙ sym (report_after-append engine (entries_in one) (entries_in other) first.kept.report)
          ∙ ap (λ es. report_after engine es first.kept.report) (sym (entries_in-append one other));
      sound = λ sound. b.sound (a.sound sound);
      replies = λ sound. replies-add first.cfg first.kept.report next.kept.report last.kept.report one other a.report report (a.replies sound)
          (subst (λ c. OnHolding last.kept.report (λ contents. StandFrom c contents.opening contents.entries (length (list_of next.kept.report)) other)) a.cfg (b.replies (a.sound sound)));
      entry_count = omega (arith, a.entry_count, b.entry_count, ap (λ (es : List Entry). length es) (entries_in-append one other), length-append (entries_in one) (entries_in other));
      faults = RoseBy-adds (failures_in one) (failures_in other) (failures_in (one ++ other)) first.kept.faults next.kept.faults last.kept.faults (failures_in-append one other) a.faults b.faults;
      room = HadRoom-append one other next.kept.entry_count last.kept.entry_count (omega (arith, b.entry_count)) a.room b.room;
    }

pub turned-keeps : (turns : List Turn) (first last : LedgerView) (tag : Tag) → HaveTurned turns first last → tag.boot ≡ first.boot → tag.boot ≡ last.boot
turned-keeps turns first last tag turned is = is ∙ sym turned.boot

-- ---- one step

reply_of : (cfg : Cfg) (opening : Opening) (entries : List Entry) (index : ℕ) (entry : Entry) → entry_at entries index ≡ Some entry
    → reply_at cfg opening entries index ≡ Some (reply_to cfg entry.op (state_at cfg.engine opening entries index))
reply_of cfg opening entries index entry found =
    ap (λ (o : Option Entry). option_map (λ (e : Entry). reply_to cfg e.op (state_at cfg.engine opening entries index)) o) found

-- the entry that was appended is at the end of the list, and its reply is that of the state that it found
stood : (cfg : Cfg) (contents : Contents) (state : State) (tag : Tag) (op : Op) (reply : Reply)
    → IsLegal cfg.engine contents.opening contents.entries state → reply ≡ reply_to cfg op state
    → StandFrom cfg contents.opening (contents.entries ++ record { tag = tag; op = op } ∷ []) (length contents.entries) (Did tag op reply ∷ [])
stood cfg contents state tag op reply legal is =
    let entry : Entry = record { tag = tag; op = op } in
    let found : entry_at (contents.entries ++ entry ∷ []) (length contents.entries) ≡ Some entry = entry_at-last contents.entries entry [] in
    let before : state_at cfg.engine contents.opening (contents.entries ++ entry ∷ []) (length contents.entries) ≡ state =
    state_at-append cfg.engine contents.opening contents.entries (entry ∷ []) (length contents.entries) (omega arith) ∙ sym legal.state_is in
    let replied : reply_at cfg contents.opening (contents.entries ++ entry ∷ []) (length contents.entries) ≡ Some reply =
    reply_of cfg contents.opening (contents.entries ++ entry ∷ []) (length contents.entries) entry found
    ∙ ap (λ (s : State). Some (reply_to cfg op s)) before ∙ ap (λ (r : Reply). Some r) (sym is) in
    (length contents.entries, omega arith, found, replied, tt)

replied : (cfg : Cfg) (boot : ℕ) (found left : Report) (ledger : LedgerView) (tag : Tag) (op : Op) (reply : Reply)
    → found ≡ ledger.kept.report → cfg ≡ ledger.cfg → left ≡ stepped cfg.engine (record { tag = tag; op = op }) found
    → OnHolding found (λ contents. reply ≡ reply_to cfg op (state_of contents ledger.cache))
    → OnHolding found (λ contents. IsLegal cfg.engine contents.opening contents.entries (state_of contents ledger.cache))
    → OnHolding left (λ contents. StandFrom cfg contents.opening contents.entries (length (list_of found)) (Did tag op reply ∷ []))
replied cfg boot Unreported left ledger tag op reply is same after given legal = subst (λ r. OnHolding r (λ contents. StandFrom cfg contents.opening contents.entries 0 (Did tag op reply ∷ []))) (sym after) tt
replied cfg boot Fresh left ledger tag op reply is same after given legal = subst (λ r. OnHolding r (λ contents. StandFrom cfg contents.opening contents.entries 0 (Did tag op reply ∷ []))) (sym after) tt
replied cfg boot (Holding contents) left ledger tag op reply is same after given legal =
    subst (λ r. OnHolding r (λ c. StandFrom cfg c.opening c.entries (length contents.entries) (Did tag op reply ∷ []))) (sym after)
    (stood cfg contents (state_of contents ledger.cache) tag op reply legal given)

legal_of : (found : Report) (ledger : LedgerView) → found ≡ ledger.kept.report → OnHolding found (HasLegalHistory ledger)
    → OnHolding found (λ contents. IsLegal ledger.cfg.engine contents.opening contents.entries (state_of contents ledger.cache))
legal_of Unreported ledger is sound = tt
legal_of Fresh ledger is sound = tt
legal_of (Holding contents) ledger is sound = sound.legal

pub turned-step : (found left : LedgerView) (tag : Tag) (op : Op) (result : Result Reply StepFault) → Steps found tag op result left → (IsSoundLedger found → IsSoundLedger left)
    → HaveTurned (turns_of_step tag op result) found left
turned-step found left tag op (Ok reply) steps sound = record {
  cfg = ap (λ (l : LedgerView). l.cfg) steps.ledger;
  boot = ap (λ (l : LedgerView). l.boot) steps.ledger;
  report = ap (λ (l : LedgerView). l.kept.report) steps.ledger;
  sound = sound;
  replies = λ was. replied found.cfg found.boot found.kept.report left.kept.report found tag op reply refl refl (ap (λ (l : LedgerView). l.kept.report) steps.ledger) steps.reply (legal_of found.kept.report found refl was);
  entry_count = ap (λ (l : LedgerView). l.kept.entry_count) steps.ledger;
  faults = let same : left.kept.faults ≡ found.kept.faults = ap (λ (l : LedgerView). l.kept.faults) steps.ledger in omega arith;
  room = tt;
}
turned-step found left tag op (Err fault) steps sound = refused fault steps.cause
  where
    unchanged : (turns : List Turn) → entries_in turns ≡ [] → RoseBy (failures_in turns) found.kept.faults left.kept.faults → HadRoom left.kept.entry_count turns
        → OnHolding left.kept.report (λ contents. StandFrom found.cfg contents.opening contents.entries (length (list_of found.kept.report)) turns) → HaveTurned turns found left
    unchanged turns none rose had stand = record {
      cfg = ap (λ (l : LedgerView). l.cfg) steps.ledger;
      boot = ap (λ (l : LedgerView). l.boot) steps.ledger;
      report = ap (λ (l : LedgerView). l.kept.report) steps.ledger ∙ ap (λ es. report_after found.cfg.engine es found.kept.report) (sym none);
      sound = sound;
      replies = λ was. stand;
      entry_count = let same : left.kept.entry_count ≡ found.kept.entry_count = ap (λ (l : LedgerView). l.kept.entry_count) steps.ledger in omega (arith, ap (λ (es : List Entry). length es) none);
      faults = rose;
      room = had;
    }

    refused : (cause : StepFault) → HasCause op found.kept left.kept cause → HaveTurned (turns_of_step tag op (Err cause)) found left
    refused (Keeper before after) is =
        let rose : RoseBy 1 found.kept.faults left.kept.faults = let up = is.rose in omega (arith, is.before, is.after) in
        unchanged (Failed ∷ []) refl rose tt (on_nothing left.kept.report)
    refused Full is =
        let same : left.kept.entry_count ≡ found.kept.entry_count = ap (λ (l : LedgerView). l.kept.entry_count) steps.ledger in
        unchanged (HadNoRoom op ∷ []) refl (omega (arith, is.faults)) (⊎_elim (λ full. inl (omega (arith, full))) (λ ran. inr ran.0) is.full, tt) (on_nothing left.kept.report)
    refused Memory is = unchanged [] refl (omega (arith, is.faults)) tt (on_nothing left.kept.report)
