-- Each message that is sent names the plan, and so does each event that is told.
use Rattle.std.specs.Prelude.{IfSome}
use Rattle.std.proofs.Common.{◌≡◌, ◌⊎◌, inl, inr, ℕ, List, [], ◌∷◌, Option, Some, None, option_map, option_and_then}
use Rattle.std.proofs.Common.{option_to_list, refl, ap, sym, subst, ◌∙◌}
use Rattle.std.specs.List.{All, cons_option}
use Rattle.std.proofs.lemmas.List.Elements.{All-nil, All-cons, All-append, All-head, All-tail}
use Rattle.run_events.specs.declared.events.ReporterEvent.{ReporterEvent}
use Rattle.run_events.specs.declared.events.ReporterEvent.TheVariants.{Tick, Test}
use Rattle.run_events.specs.declared.events.TestEventKind.{TestEventKind}
use Rattle.run_events.specs.declared.events.TestEventKind.TheVariants as kinds
use Rattle.run_events.specs.declared.message.Message.{Message}
use Rattle.run_events.specs.declared.message.Message.TheVariants.{ScriptStart, ScriptSlow, ScriptFinish, Start, Slow}
use Rattle.run_events.specs.declared.message.Message.TheVariants.{AttemptFailed, Retry, Skip, Finish}
use Rattle.run_events.specs.declared.plan.PlanTest.{PlanTest}
use Rattle.run_events.specs.declared.result.ExecuteStatus.{ExecuteStatus}
use Rattle.run_events.specs.declared.settings.Settings.{Settings}
use Rattle.run_model.specs.declared.entry.Entry.{Entry}
use Rattle.run_model.specs.declared.happening.Happening.{Happening}
use Rattle.run_model.specs.declared.happening.UnitPart.{UnitPart}
use Rattle.run_model.specs.declared.happening.UnitPart.TheVariants.{Joins, Acts}
use Rattle.run_model.specs.declared.unit_view.AttemptTerms.{AttemptTerms}
use Rattle.run_model.specs.declared.unit_view.ScriptRole.{ScriptRole}
use Rattle.run_model.specs.declared.unit_view.TestRole.{TestRole}
use Rattle.run_model.specs.declared.unit_view.UnitRole.{UnitRole}
use Rattle.run_model.specs.declared.unit_view.UnitRole.TheVariants as roles
use Rattle.run_model.specs.declared.unit_view.UnitView.{UnitView}
use Rattle.run_model.specs.Admission.{first_view, handed_to, index_of_role, newcomer, Newcomer, slots_of}
use Rattle.run_model.specs.Admission.{start_message, started_newcomer, unit_of_test}
use Rattle.run_model.specs.Board.{Deed}
use Rattle.run_model.specs.Dispatch.{event}
use Rattle.run_model.specs.Journal.{history, IsLegalBackward}
use Rattle.run_model.specs.SubRuns.{stress_index}
use Rattle.run_model.specs.Turns.{deed_on}
use Rattle.run_model.specs.Ending.{last_status}
use Rattle.run_model.specs.Retries.{failure_message, finish_message, retry_message, script_finish}
use Rattle.run_model.specs.Unit.{at_moment, row, slow_report}
use Rattle.run_model.specs.Words.{sent, sub_run, told, units}
use Rattle.run_laws.proofs.board.DeedFits.{IsSentAs, JoinsAs, PartFits}
use Rattle.run_laws.proofs.board.Newcomers.{Becomes, Newcomes, ScriptComes, new_index, newcomer_is}
use Rattle.run_laws.proofs.board.OnBoard.{Frame, board_with, index_in}
use Rattle.run_laws.proofs.told.Indexes.{AreIndexed, IsOfIndex}
use Rattle.run_laws.proofs.units.Rows.{takes_moment}
use Rattle.run_laws_events.specs.Names.{HasReason, IsScriptNamed, IsTestNamed}
use Rattle.run_laws_events.specs.Names.{SaysAttempts, SaysFlaky, SlowSaysAttempts, SlowSaysAttemptsIn, FinishSaysFlaky}
use Rattle.run_laws_events.specs.Names.{FinishSaysFlakyIn, planned_attempts, planned_flaky, test_named, test_of_unit}
use Rattle.run_laws_events.proofs.ByIndex.{IsKeptIn, by_index}
use Rattle.run_laws_events.proofs.ByJournal.{by_journal}
use Rattle.run_laws_events.proofs.Joined.{IsAdmission, joins_new}
use Rattle.run_laws_events.proofs.PlanUnits.{ArePlanUnits, IsPlanUnit, IsPlanUnitIf, IsUnitAs}
use Rattle.run_laws_events.proofs.PlanUnits.{newcomer_planned, test_there, units_kept}
use Rattle.run_laws_events.proofs.RowMessages.{Says, row_says}
use Rattle.run_laws_events.proofs.Told.{message_in, message_of, messages_of, told_among}
use Rattle.run_events.specs.declared.stress.StressIndex.{StressIndex}

-- a message says what the plan says, and names this sub-run
abbrev pub SaysPlan : Settings → Option StressIndex → Message → Type 0
SaysPlan p index (ScriptStart start) = IsScriptNamed p index start.script
SaysPlan p index (ScriptSlow slow) = IsScriptNamed p index slow.script
SaysPlan p index (ScriptFinish finish) = IsScriptNamed p index finish.script
SaysPlan p index (Start start) = IsTestNamed p index start.test
SaysPlan p index (Slow slow) = IsTestNamed p index slow.test × SaysAttempts p slow
SaysPlan p index (AttemptFailed failure) = IsTestNamed p index failure.test
SaysPlan p index (Retry retry) = IsTestNamed p index retry.start.test
SaysPlan p index (Skip skip) = IsTestNamed p index skip.test × HasReason p skip
SaysPlan p index (Finish finish) = IsTestNamed p index finish.test × SaysFlaky p finish

-- a unit of the plan in this sub-run is named so
abbrev pub IsUnitIn : Settings → Option StressIndex → UnitRole → List (List ℕ) → AttemptTerms → Type 0
IsUnitIn p index role words terms = IsUnitAs p role words terms × (index_of_role role ≡ index)

pub test_so : (p : Settings) (index : Option StressIndex) (t : TestRole) (words : List (List ℕ)) (terms : AttemptTerms)
    → IsUnitIn p index (roles.Test t) words terms → IsTestNamed p index t.test
test_so p index t words terms it =
    subst (λ index. IsTestNamed p index t.test) it.1
    (ap (option_map (test_named t.test.stress_index t.test.unit)) it.0.planned ∙ ap Some (sym it.0.name))

pub script_so : (p : Settings) (index : Option StressIndex) (s : ScriptRole) (words : List (List ℕ))
    (terms : AttemptTerms)
    → IsUnitIn p index (roles.Script s) words terms → IsScriptNamed p index s.script
script_so p index s words terms it = subst (λ index. IsScriptNamed p index s.script) it.1 it.0

start_says : (p : Settings) (index : Option StressIndex) (role : UnitRole) (u : UnitView)
    → IsUnitIn p index role u.command u.terms → SaysPlan p index (start_message role u)
start_says p index (roles.Test t) u it = test_so p index t u.command u.terms it
start_says p index (roles.Script s) u it = script_so p index s u.command u.terms it

slow_says : (p : Settings) (index : Option StressIndex) (n : ℕ) (role : UnitRole) (u : UnitView)
    → IsUnitIn p index role u.command u.terms → SaysPlan p index (slow_report n role u)
slow_says p index n (roles.Test t) u it = (
  test_so p index t u.command u.terms it,
  ap (option_map (planned_attempts p)) it.0.planned ∙ ap Some (sym it.0.attempts),
)
slow_says p index n (roles.Script s) u it = script_so p index s u.command u.terms it

failure_says : (p : Settings) (index : Option StressIndex) (delay : ℕ) (role : UnitRole) (words : List (List ℕ))
    (terms : AttemptTerms) (o : Option ExecuteStatus) → IsUnitIn p index role words terms
    → IfSome (failure_message role delay o) (SaysPlan p index)
failure_says p index delay (roles.Test t) words terms None it = tt
failure_says p index delay (roles.Test t) words terms (Some status) it = test_so p index t words terms it
failure_says p index delay (roles.Script s) words terms o it = tt

retry_says : (p : Settings) (index : Option StressIndex) (role : UnitRole) (u : UnitView)
    → IsUnitIn p index role u.command u.terms → IfSome (retry_message role u) (SaysPlan p index)
retry_says p index (roles.Test t) u it = test_so p index t u.command u.terms it
retry_says p index (roles.Script s) u it = tt

finish_says : (p : Settings) (index : Option StressIndex) (role : UnitRole) (u : UnitView)
    → IsUnitIn p index role u.command u.terms → IfSome (finish_message role u) (SaysPlan p index)
finish_says p index (roles.Test t) u it = (
  test_so p index t u.command u.terms it,
  ap (option_map (planned_flaky p.flaky_result)) it.0.planned ∙ ap Some (sym it.0.flaky),
)
finish_says p index (roles.Script s) u it = by_last (last_status u.statuses)
  where
    by_last : (o : Option ExecuteStatus) → IfSome (option_map (script_finish s u) o) (SaysPlan p index)
    by_last None = tt
    by_last (Some status) = script_so p index s u.command u.terms it

row_plan : (p : Settings) (index : Option StressIndex) (u : UnitView) → IsUnitIn p index u.role u.command u.terms
    → Says (SaysPlan p index) u
row_plan p index u it = record {
  slow = λ n. slow_says p index n u.role u it;
  failure = λ delay. failure_says p index delay u.role u.command u.terms (last_status u.statuses) it;
  retry = retry_says p index u.role u it;
  finish = finish_says p index u.role u it;
}

-- the first message of a newcomer does
first_says : (p : Settings) (index : Option StressIndex) (us : List (Option UnitView)) (new : Newcomer)
    → newcomer p index us ≡ Some new
    → SaysPlan p index new.sent
first_says p index us new e = by_kind (newcomer_is p index us new e)
  where
    starts : (u : UnitView) → new ≡ started_newcomer u → SaysPlan p index new.sent
    starts u is =
        let same : new.unit ≡ u = ap (λ (n : Newcomer). n.unit) is in
        subst (λ (n : Newcomer). SaysPlan p index n.sent) (sym is)
        (start_says p index u.role u (
          subst (IsPlanUnit p) same (newcomer_planned p index us new e),
          subst (λ (v : UnitView). index_of_role v.role ≡ index) same (new_index p index us new e),
        ))

    by_test : (place : ℕ) (test : PlanTest) → test_of_unit p (unit_of_test p place) ≡ Some test
        → Becomes p index us place test new → SaysPlan p index new.sent
    by_test place test there (inl (reason, skip, is)) =
        subst (λ (n : Newcomer). SaysPlan p index n.sent) (sym is) (
          ap (option_map (test_named index (unit_of_test p place))) there,
          ap (option_and_then (λ (test : PlanTest). test.skip)) there ∙ skip,
        )
    by_test place test there (inr (skip, (global, (slot, runs, is)))) =
        starts (first_view p index (unit_of_test p place) (slots_of test global slot) (handed_to p us test) test) is

    by_kind : Newcomes p index us new ⊎ ScriptComes p index us new → SaysPlan p index new.sent
    by_kind (inl found) = by_test found.place found.test (test_there p found.place found.test found.planned) found.is
    by_kind (inr found) = starts _ found.is

-- so does what a deed sends
abbrev IsSentSo : Settings → Option StressIndex → List Happening → Type 0
IsSentSo p index run = ArePlanUnits p run × All (SaysPlan p index) (sent run)

sent_if : (P : Message → Type 0) (o : Option Message) → IfSome o P → All P (option_to_list o)
sent_if P None h = All-nil P
sent_if P (Some m) h = All-cons P m [] h (All-nil P)

part_says : (p : Settings) (index : Option StressIndex) (now : ℕ) (run : List Happening) (part : Option UnitPart)
    (o : Option Message)
    → PartFits p now run part → IsSentAs now run part o → ArePlanUnits p run → AreIndexed index run
    → ((first : UnitView) → part ≡ Some (Joins first) → IfSome o (SaysPlan p index)) → IfSome o (SaysPlan p index)
part_says p index now run None o fits from units of joins = subst (λ o. IfSome o (SaysPlan p index)) (sym from) tt
part_says p index now run (Some (Joins first)) o fits from units of joins = joins first refl
part_says p index now run (Some (Acts j turn)) o taken from units of joins =
    subst (λ o. IfSome o (SaysPlan p index))
    (sym (from ∙ ap (option_and_then (λ v. (row now turn v).sent)) taken.is))
    (row_says (SaysPlan p index) now taken.unit.phase turn (at_moment now taken.unit)
    (row_plan p index (at_moment now taken.unit)
    (subst (IsPlanUnitIf p) taken.is (units j), subst (IsOfIndex index) taken.is (of j))) refl
    (takes_moment now taken.unit.phase taken.unit turn taken.takes))

-- what an admission sends does, where the unit that joins is of this sub-run
join_says : (p : Settings) (f : Frame) (index : Option StressIndex) (us : List (Option UnitView)) (d : Deed)
    (first : UnitView)
    → IsAdmission (newcomer p (index_in p f) us) d → JoinsAs (index_in p f) d.part → JoinsAs index d.part
    → d.part ≡ Some (Joins first) → IfSome d.sent (SaysPlan p index)
join_says p f index us d first admits was so is =
    let it = admits first is in
    subst (λ o. IfSome o (SaysPlan p index)) (sym it.1.2)
    (subst (λ index. SaysPlan p index it.0.sent)
    (sym (subst (JoinsAs (index_in p f)) is was) ∙ subst (JoinsAs index) is so)
    (first_says p (index_in p f) us it.0 it.1.0))

sent_kept : (p : Settings) → IsKeptIn p (IsSentSo p)
sent_kept p index f refused now run e h en does of joins was = (
  units_kept p f refused now run e h en does was.0,
  All-append (SaysPlan p index) (sent run) (option_to_list d.sent) was.1
      (sent_if (SaysPlan p index) d.sent
      (part_says p index now run d.part d.sent does.part does.sent_as was.0 of
      (λ first is. join_says p f index (units p run) d first (joins_new p f refused now run e.turn en) does.index joins
      is))),
)
  where
    d : Deed
    d = deed_on p (board_with p refused f now run) e.turn

pub plan_units : (p : Settings) (backward : List Entry) → IsLegalBackward p backward
    → ArePlanUnits p (sub_run (history p backward))
plan_units p backward legal = by_journal p (ArePlanUnits p) (λ k. tt) (units_kept p) backward legal

plan_sent : (p : Settings) (backward : List Entry) → IsLegalBackward p backward
    → All (SaysPlan p (stress_index p (history p backward))) (sent (sub_run (history p backward)))
plan_sent p backward legal =
    (by_index p (IsSentSo p) (λ index. (λ k. tt, All-nil (SaysPlan p index))) (sent_kept p) backward legal).1

-- what holds of each message that is told holds of each event
pub of_messages : (P : Message → Type 0) (Q : ReporterEvent → Type 0)
    → ((e : ReporterEvent) → IfSome (message_of e) P → Q e) → (es : List ReporterEvent)
    → All P (messages_of es) → All Q es
of_messages P Q one [] all = All-nil Q
of_messages P Q one (e ∷ es) all = by_message (message_of e) refl all (λ rest. of_messages P Q one es rest)
  where
    by_message : (o : Option Message) → message_of e ≡ o → All P (cons_option o (messages_of es))
        → (All P (messages_of es) → All Q es) → All Q (e ∷ es)
    by_message None is all later = All-cons Q e es (one e (subst (λ o. IfSome o P) (sym is) tt)) (later all)
    by_message (Some m) is all later =
        All-cons Q e es (one e (subst (λ o. IfSome o P) (sym is) (All-head P m (messages_of es) all)))
        (later (All-tail P m (messages_of es) all))

-- so each event that is told names the plan, and this sub-run
abbrev pub SaysOf : Settings → Option StressIndex → ReporterEvent → Type 0
SaysOf p index e = IfSome (message_of e) (SaysPlan p index)

attempts : (p : Settings) (index : Option StressIndex) (e : ReporterEvent) → SaysOf p index e → SlowSaysAttempts p e
attempts p index Tick it = tt
attempts p index (Test event) it = by_kind event.kind it
  where
    by_kind : (kind : TestEventKind) → IfSome (message_in kind) (SaysPlan p index) → SlowSaysAttemptsIn p kind
    by_kind (kinds.TestSlow slow) it = it.1
    by_kind kind it = tt

flaky : (p : Settings) (index : Option StressIndex) (e : ReporterEvent) → SaysOf p index e → FinishSaysFlaky p e
flaky p index Tick it = tt
flaky p index (Test event) it = by_kind event.kind it
  where
    by_kind : (kind : TestEventKind) → IfSome (message_in kind) (SaysPlan p index) → FinishSaysFlakyIn p kind
    by_kind (kinds.TestFinished event) it = it.1
    by_kind kind it = tt

pub told_so : (p : Settings) (backward : List Entry) (Q : ReporterEvent → Type 0)
    → ((e : ReporterEvent) → SaysOf p (stress_index p (history p backward)) e → Q e)
    → IsLegalBackward p backward → All Q (told (sub_run (history p backward)))
told_so p backward Q one legal =
    of_messages (SaysPlan p index) Q one (told (sub_run (history p backward)))
    (told_among p (SaysPlan p index) backward legal (plan_sent p backward legal))
  where
    index : Option StressIndex
    index = stress_index p (history p backward)

pub attempts_told : (p : Settings) (backward : List Entry) → IsLegalBackward p backward
    → All (SlowSaysAttempts p) (told (sub_run (history p backward)))
attempts_told p backward legal = told_so p backward (SlowSaysAttempts p) (attempts p _) legal

pub flaky_told : (p : Settings) (backward : List Entry) → IsLegalBackward p backward
    → All (FinishSaysFlaky p) (told (sub_run (history p backward)))
flaky_told p backward legal = told_so p backward (FinishSaysFlaky p) (flaky p _) legal
