-- The answers that are told name the plan's units.
use Rattle.std.specs.Prelude.{⊤, IfSome}
use Rattle.std.proofs.Common.{◌≡◌, ℕ, ◌==◌, List, [], ◌∷◌, ◌++◌, Bool, true, false, if◌then◌else◌, Option, Some, None}
use Rattle.std.proofs.Common.{filter_map, option_to_list, refl, sym, subst}
use Rattle.std.specs.List.{All, cons_option}
use Rattle.std.proofs.lemmas.List.Elements.{All-nil, All-cons, All-append, All-drop, All-head, All-tail}
use Rattle.run_events.specs.Hearing.{heard_key}
use Rattle.run_events.specs.declared.settings.Settings.{Settings}
use Rattle.run_events.specs.declared.events.ReporterEvent.{ReporterEvent}
use Rattle.run_events.specs.declared.events.ReporterEvent.TheVariants.{Tick, Test}
use Rattle.run_events.specs.declared.events.TestEventKind.{TestEventKind}
use Rattle.run_events.specs.declared.events.TestEventKind.TheVariants as kinds
use Rattle.run_events.specs.declared.info.InfoResponse.{InfoResponse}
use Rattle.run_events.specs.declared.info.InfoSubject.{InfoSubject}
use Rattle.run_events.specs.declared.message.Message.{Message}
use Rattle.run_events.specs.declared.request.Request.{Request}
use Rattle.run_events.specs.declared.request.Request.TheVariants.{GetInfo}
use Rattle.run_events.specs.declared.stress.StressIndex.{StressIndex}
use Rattle.run_events.specs.declared.turn.Turn.{Turn}
use Rattle.run_model.specs.declared.dispatcher_view.Tally.{Tally}
use Rattle.run_model.specs.declared.entry.Entry.{Entry}
use Rattle.run_model.specs.declared.happening.Happening.{Happening}
use Rattle.run_model.specs.declared.unit_turn.UnitTurn.TheVariants.{Answered}
use Rattle.run_model.specs.declared.unit_view.UnitRole.{UnitRole}
use Rattle.run_model.specs.declared.unit_view.UnitRole.TheVariants as roles
use Rattle.run_model.specs.declared.unit_view.UnitView.{UnitView}
use Rattle.run_model.specs.Admission.{Newcomer, newcomer}
use Rattle.run_model.specs.Board.{Board, Deed, unit_in}
use Rattle.run_model.specs.Cancel.{Cause, cause_of, caused}
use Rattle.run_model.specs.Dispatch.{Moment, go_of, heard_by, moment_by}
use Rattle.run_model.specs.Info.{subject_of}
use Rattle.run_model.specs.Journal.{history, IsLegalBackward}
use Rattle.run_model.specs.Rounds.{answer_of, answers_given, answers_told, open_round, opens_round}
use Rattle.run_model.specs.SubRuns.{stress_index}
use Rattle.run_model.specs.Turns.{admission, answer_to, deed_on, delivered_as, delivery, done_by, event_of, live_in}
use Rattle.run_model.specs.Turns.{oldest_of, starting, tally_with}
use Rattle.run_model.specs.Words.{sub_run, told, unit_of, units}
use Rattle.run_laws.proofs.board.ByTurn.{by_turn}
use Rattle.run_laws.proofs.board.DeedFits.{cancel_told}
use Rattle.run_laws.proofs.board.OnBoard.{board_with, unit_in-is}
use Rattle.run_laws.proofs.told.Asides.{IsAside, answer_aside, by_signal, key_aside}
use Rattle.run_laws.proofs.told.Cancels.{IsAfter, IsAfterKind}
use Rattle.run_laws.proofs.told.Indexes.{IsOfIndex}
use Rattle.run_laws_events.specs.Names.{IsSubjectNamed, NamesThePlan, NamesThePlanIn}
use Rattle.run_laws_events.proofs.AnswerRows.{silent}
use Rattle.run_laws_events.proofs.AnswerRows.{AreNamed, IsOf, IsUnitIf, row_answers}
use Rattle.run_laws_events.proofs.ByIndex.{IsKeptIn, by_index}
use Rattle.run_laws_events.proofs.PlanMessages.{IsUnitIn, SaysOf, SaysPlan, script_so, test_so, told_so}
use Rattle.run_laws_events.proofs.PlanUnits.{ArePlanUnits, IsPlanUnitIf, units_kept}
use Rattle.run_laws_events.proofs.AnswersTold.{TellsOldest, TellsOldestIn, tells_oldest_answer}
use Rattle.run_laws_events.proofs.Told.{message_in}
use Rattle.run_model.specs.Turns.{index_of}
use Rattle.run_laws.proofs.told.Bounds.{begin_cases, end_cases}

-- a unit of the plan answers under its name
subject_named : (p : Settings) (index : Option StressIndex) (role : UnitRole) (words : _) (terms : _)
    → IsUnitIn p index role words terms → (v : UnitView) → IsSubjectNamed p index (subject_of role v)
subject_named p index (roles.Test t) words terms it v = test_so p index t words terms it
subject_named p index (roles.Script s) words terms it v = script_so p index s words terms it

unit_named : (p : Settings) (index : Option StressIndex) (v : Option UnitView) → IsPlanUnitIf p v → IsOfIndex index v
    → IsUnitIf (IsSubjectNamed p index) v
unit_named p index None h of = tt
unit_named p index (Some u) h of = subject_named p index u.role u.command u.terms (h, of)

caused_named : (P : InfoSubject → Type 0) (now : Moment) (t : Tally) (o : Option Cause) (d : Deed) → AreNamed P d.info
    → AreNamed P (caused now t o d).info
caused_named P now t None d h = h
caused_named P now t (Some cause) d h = h

answer_named : (P : InfoSubject → Type 0) (b : Board) → ((k : ℕ) → IsUnitIf P (unit_in b k)) → (o : Option ℕ)
    (go : Option Bool) → AreNamed P (answer_to b o go).info
answer_named P b units (Some k) (Some go) = row_answers P b.clock (Answered go) (unit_in b k) (units k)
answer_named P b units None go = silent P
answer_named P b units (Some k) None = silent P

delivery_named : (P : InfoSubject → Type 0) (b : Board) → ((k : ℕ) → IsUnitIf P (unit_in b k))
    → (q : List Message) → AreNamed P (delivery b q).info
delivery_named P b units [] = silent P
delivery_named P b units (m ∷ rest) =
    caused_named P (moment_by b.clock b.dispatcher.watch) (tally_with b (event_of b m))
    (cause_of b.dispatcher.rules (tally_with b (event_of b m)) m)
    (delivered_as b m (answer_to b (starting m) (go_of b.dispatcher.tally m)))
    (answer_named P b units (starting m) (go_of b.dispatcher.tally m))

admission_named : (P : InfoSubject → Type 0) (o : Option Newcomer) → AreNamed P (admission o).info
admission_named P None = silent P
admission_named P (Some new) = silent P

deed_named : (p : Settings) (P : InfoSubject → Type 0) (b : Board) → ((k : ℕ) → IsUnitIf P (unit_in b k))
    → (turn : Turn) → AreNamed P (deed_on p b turn).info
deed_named p P b units turn = by_turn (λ turn to. AreNamed P (done_by p b turn to).info)
    (record {
      begin = begin_cases (λ d. AreNamed P d.info) (λ told after own later. silent P) b.clock b.dispatcher;
      admit = admission_named P (newcomer p (index_of b.dispatcher) b.units);
      deliver = delivery_named P b units b.queue;
      named = λ turn k to other. row_answers P b.clock to (unit_in b k) (units k);
      clock = λ ns. silent P;
      signal = λ signal. by_signal (λ d. AreNamed P d.info) b.clock (live_in b.units) b.dispatcher signal
          (heard_by b.dispatcher.rules.hearing signal) (silent P) aside_named;
      global_due = silent P;
      report_cancel = silent P;
      end = end_cases (λ d. AreNamed P d.info) (λ told after over own later. silent P) b.clock b.dispatcher;
      key = λ key. aside_named _ (key_aside b.clock (live_in b.units) b.dispatcher
          (heard_key b.dispatcher.rules.hearing.input key));
      tick = silent P;
      stop_wait_due = silent P;
      answer = aside_named _ (answer_aside b (oldest_of b.answers));
      info_due = silent P;
    })
    turn
  where
    aside_named : (d : Deed) → IsAside d → AreNamed P d.info
    aside_named d aside = subst (AreNamed P) (sym aside.info) (silent P)

-- those of a round
Named : (InfoSubject → Type 0) → InfoResponse → Type 0
Named P response = P response.subject

round_named : (P : InfoSubject → Type 0) (request : Option Request) (infos : List (ℕ × InfoResponse)) → AreNamed P infos
    → All (Named P) (filter_map (answer_of request) infos)
unfolding Named
round_named P request [] all = All-nil (Named P)
round_named P request (info ∷ infos) all =
    by_answer (answer_of request info) (own request)
    (round_named P request infos (All-tail (IsOf P) info infos all))
  where
    own : (request : Option Request) → IfSome (answer_of request info) (Named P)
    own None = tt
    own (Some (GetInfo round)) = by_round (info.0 == round)
      where
        by_round : (b : Bool) → IfSome (if b then Some info.1 else None) (Named P)
        by_round true = All-head (IsOf P) info infos all
        by_round false = tt
    own (Some request) = tt

    by_answer : (o : Option InfoResponse) → IfSome o (Named P) → All (Named P) (filter_map (answer_of request) infos)
        → All (Named P) (cons_option o (filter_map (answer_of request) infos))
    by_answer None h rest = rest
    by_answer (Some response) h rest = All-cons (Named P) response _ h rest

-- and of whose answer an event tells
abbrev AnswerNamedIn : (InfoSubject → Type 0) → TestEventKind → Type 0
AnswerNamedIn P (kinds.InfoResponse answer) = P answer.response.subject
AnswerNamedIn P _ = ⊤

abbrev AnswerNamed : (InfoSubject → Type 0) → ReporterEvent → Type 0
AnswerNamed P (Test event) = AnswerNamedIn P event.kind
AnswerNamed P _ = ⊤

oldest_named : (P : InfoSubject → Type 0) (answers : List InfoResponse) (response : InfoResponse)
    → All (Named P) answers → oldest_of answers ≡ Some response → P response.subject
unfolding Named
oldest_named P [] response all is = cc
oldest_named P (first ∷ rest) response all is =
    let same : first ≡ response = cc in subst (Named P) same (All-head (Named P) first rest all)

told_named : (P : InfoSubject → Type 0) (b : Board) (e : ReporterEvent) → All (Named P) b.answers → TellsOldest b e
    → AnswerNamed P e
told_named P b Tick all h = tt
told_named P b (Test event) all h = by_kind event.kind h
  where
    by_kind : (kind : TestEventKind) → TellsOldestIn b kind → AnswerNamedIn P kind
    by_kind (kinds.InfoResponse answer) h = oldest_named P b.answers answer.response all h
    by_kind kind h = tt

cancel_named : (P : InfoSubject → Type 0) (e : ReporterEvent) → IsAfter (Some e) → AnswerNamed P e
cancel_named P Tick h = tt
cancel_named P (Test event) h = by_kind event.kind h
  where
    by_kind : (kind : TestEventKind) → IsAfterKind kind → AnswerNamedIn P kind
    by_kind (kinds.RunBeginCancel cancelled) h = tt
    by_kind (kinds.RunBeginKill cancelled) h = tt
    by_kind (kinds.StressSubRunStarted progress) h = tt
    by_kind (kinds.RunFinished finished) h = tt
    by_kind kind h = absurd h

-- so after every legal journal
record AreAllNamed (p : Settings) (index : Option StressIndex) (run : List Happening) : Type 0 where
  units : ArePlanUnits p run
  given : (request : Option Request) → All (Named (IsSubjectNamed p index)) (answers_given request run)
  told_so : All (AnswerNamed (IsSubjectNamed p index)) (told run)

each : (P : ReporterEvent → Type 0) (o : Option ReporterEvent) → ((e : ReporterEvent) → o ≡ Some e → P e)
    → All P (option_to_list o)
each P None h = All-nil P
each P (Some e) h = All-cons P e [] (h e refl) (All-nil P)

all_kept : (p : Settings) → IsKeptIn p (AreAllNamed p)
all_kept p index f refused now run e h en does of joins was = record {
  units = units_kept p f refused now run e h en does was.units;
  given = λ request. by_open request (opens_round d.request);
  told_so = All-append (AnswerNamed P) (told run) (option_to_list d.told ++ option_to_list d.after) was.told_so
      (All-append (AnswerNamed P) (option_to_list d.told) (option_to_list d.after)
      (each (AnswerNamed P) d.told (λ event is. told_named P b event
      (All-drop (Named P) (answers_told run) (answers_given (open_round run) run) (was.given (open_round run)))
      (subst (λ o. IfSome o (TellsOldest b)) is (tells_oldest_answer p b e.turn))))
      (each (AnswerNamed P) d.after (λ event is. cancel_named P event
      (subst IsAfter is (cancel_told p f now run d does.marks)))));
}
  where
    P : InfoSubject → Type 0
    P = IsSubjectNamed p index

    b : Board
    b = board_with p refused f now run

    d : Deed
    d = deed_on p b e.turn

    on_board : (k : ℕ) → IsUnitIf P (unit_in b k)
    on_board k = subst (IsUnitIf P) (sym (unit_in-is p now run k h))
        (unit_named p index (unit_of k run) (was.units k) (of k))

    by_open : (request : Option Request) (opens : Bool) → All (Named P) (if opens then []
        else answers_given request run ++ filter_map (answer_of request) d.info)
    by_open request true = All-nil (Named P)
    by_open request false =
        All-append (Named P) (answers_given request run) (filter_map (answer_of request) d.info) (was.given request)
        (round_named P request d.info (deed_named p P b on_board e.turn))

none_so : (p : Settings) (index : Option StressIndex) → AreAllNamed p index []
none_so p index = record {
  units = λ k. tt;
  given = λ request. All-nil (Named (IsSubjectNamed p index));
  told_so = All-nil (AnswerNamed (IsSubjectNamed p index));
}

names : (p : Settings) (index : Option StressIndex) (e : ReporterEvent) → SaysOf p index e
    → AnswerNamed (IsSubjectNamed p index) e → NamesThePlan p index e
names p index Tick it answer = tt
names p index (Test event) it answer = by_kind event.kind it answer
  where
    by_kind : (kind : TestEventKind) → IfSome (message_in kind) (SaysPlan p index)
        → AnswerNamedIn (IsSubjectNamed p index) kind → NamesThePlanIn p index kind
    by_kind (kinds.SetupScriptStarted start) it answer = it
    by_kind (kinds.SetupScriptSlow slow) it answer = it
    by_kind (kinds.SetupScriptFinished finish) it answer = it
    by_kind (kinds.TestStarted event) it answer = it
    by_kind (kinds.TestSlow slow) it answer = it.0
    by_kind (kinds.TestAttemptFailedWillRetry event) it answer = it
    by_kind (kinds.TestRetryStarted event) it answer = it
    by_kind (kinds.TestFinished event) it answer = it.0
    by_kind (kinds.TestSkipped skip) it answer = it
    by_kind (kinds.InfoResponse event) it answer = answer
    by_kind kind it answer = tt

pub events_named : (p : Settings) (backward : List Entry) → IsLegalBackward p backward
    → All (NamesThePlan p (stress_index p (history p backward))) (told (sub_run (history p backward)))
events_named p backward legal =
    let by_message : All (SaysOf p index) (told (sub_run (history p backward))) =
    told_so p backward (SaysOf p index) (λ e it. it) legal in
    let by_answer : All (AnswerNamed (IsSubjectNamed p index)) (told (sub_run (history p backward))) =
    (by_index p (AreAllNamed p) (none_so p) (all_kept p) backward legal).told_so in
    λ i d low. names p index _ (by_message i d low) (by_answer i d low)
  where
    index : Option StressIndex
    index = stress_index p (history p backward)
