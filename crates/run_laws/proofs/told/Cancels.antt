-- What a turn tells after its own event: that the run is cancelled, that a sub-run starts or that the run finished, and
-- nothing of a test.
use Rattle.std.proofs.Common.{◌≡◌, ℕ, List, [], ◌++◌, Bool, true, false, if◌then◌else◌, Option, Some, None}
use Rattle.std.proofs.Common.{option_to_list, count_by, filter_map, refl, ap, ◌∙◌}
use Rattle.std.specs.Prelude.{⊤}
use Rattle.std.proofs.lemmas.List.{append-nil}
use Rattle.std.proofs.lemmas.List.Elements.{filter_map-append}
use Rattle.run_events.specs.declared.cancel.CancelReason.{CancelReason}
use Rattle.run_events.specs.declared.cancel.CancelReason.TheVariants.{SetupScriptFailure, TestFailure, ReportError}
use Rattle.run_events.specs.declared.cancel.CancelReason.TheVariants.{GlobalTimeout, TestFailureImmediate, Signal}
use Rattle.run_events.specs.declared.cancel.CancelReason.TheVariants.{Interrupt, SecondSignal}
use Rattle.run_events.specs.declared.events.ReporterEvent.{ReporterEvent}
use Rattle.run_events.specs.declared.events.ReporterEvent.TheVariants.{Tick, Test}
use Rattle.run_events.specs.declared.events.TestEventKind.{TestEventKind}
use Rattle.run_events.specs.declared.events.TestEventKind.TheVariants.{RunBeginCancel, RunBeginKill, RunFinished}
use Rattle.run_events.specs.declared.events.TestEventKind.TheVariants.{StressSubRunStarted}
use Rattle.run_model.specs.declared.dispatcher_view.Tally.{Tally}
use Rattle.run_model.specs.Words.{finish_of, finish_in, skips, skips_in, starts, starts_in, finishes, finishes_in}
use Rattle.run_model.specs.Dispatch.{Moment, event, tallied, having_told}
use Rattle.run_model.specs.Accounts.{news_of, news_in, account_of}
use Rattle.run_model.specs.Cancel.{is_above, cancelled_for, cancel_event}
use Rattle.run_laws.specs.Reports.{report_of, report_of_kind, reports_told}

-- the event that a cause tells with these counts: none where its reason isn't above theirs
abbrev pub cancel_for : Moment → Tally → Option CancelReason → Option ReporterEvent
cancel_for moment t None = None
cancel_for moment t (Some reason) =
    if is_above t.stats.cancel_reason reason
    then Some (event moment (cancel_event reason (cancelled_for reason t)))
    else None

-- an event that the run is cancelled, that a sub-run starts or that the run finished, or none
abbrev pub IsAfterKind : TestEventKind → Type 0
IsAfterKind (RunBeginCancel e) = ⊤
IsAfterKind (RunBeginKill e) = ⊤
IsAfterKind (StressSubRunStarted e) = ⊤
IsAfterKind (RunFinished e) = ⊤
IsAfterKind _ = ⊥

abbrev pub IsAfter : Option ReporterEvent → Type 0
IsAfter None = ⊤
IsAfter (Some Tick) = ⊥
IsAfter (Some (Test e)) = IsAfterKind e.kind

kind_cancels : (reason : CancelReason) (t : Tally) → IsAfterKind (cancel_event reason t)
kind_cancels SetupScriptFailure t = tt
kind_cancels TestFailure t = tt
kind_cancels ReportError t = tt
kind_cancels GlobalTimeout t = tt
kind_cancels TestFailureImmediate t = tt
kind_cancels Signal t = tt
kind_cancels Interrupt t = tt
kind_cancels SecondSignal t = tt

pub cancel_is : (moment : Moment) (t : Tally) (cause : Option CancelReason) → IsAfter (cancel_for moment t cause)
cancel_is moment t None = tt
cancel_is moment t (Some reason) = by_rank (is_above t.stats.cancel_reason reason)
  where
    by_rank : (b : Bool)
        → IsAfter (if b then Some (event moment (cancel_event reason (cancelled_for reason t))) else None)
    by_rank true = kind_cancels reason (cancelled_for reason t)
    by_rank false = tt

-- such an event is no start, finish or skip of a test, no news and no slow report of one
abbrev TellsNone : TestEventKind → Type 0
TellsNone kind = (finish_in kind ≡ None) × (skips_in kind ≡ false) × ((t : Tally) → tallied kind t ≡ t)
    × ((k : ℕ) → news_in k kind ≡ None) × ((k : ℕ) → report_of_kind k kind ≡ None)
    × ((k : ℕ) → starts_in k kind ≡ false) × ((k : ℕ) → finishes_in k kind ≡ false)

tells_none : (kind : TestEventKind) → IsAfterKind kind → TellsNone kind
tells_none (RunBeginCancel e) h =
    (refl, refl, λ t. refl, λ k. refl, λ k. refl, λ k. refl, λ k. refl)
tells_none (RunBeginKill e) h = (refl, refl, λ t. refl, λ k. refl, λ k. refl, λ k. refl, λ k. refl)
tells_none (StressSubRunStarted e) h = (refl, refl, λ t. refl, λ k. refl, λ k. refl, λ k. refl, λ k. refl)
tells_none (RunFinished e) h = (refl, refl, λ t. refl, λ k. refl, λ k. refl, λ k. refl, λ k. refl)
tells_none kind h = absurd h

pub cancel_finishes : (o : Option ReporterEvent) → IsAfter o → filter_map finish_of (option_to_list o) ≡ []
cancel_finishes None h = refl
cancel_finishes (Some Tick) h = absurd h
cancel_finishes (Some (Test e)) h = rw (tells_none e.kind h).0 refl

pub cancel_skips : (o : Option ReporterEvent) → IsAfter o → count_by skips (option_to_list o) ≡ 0
cancel_skips None h = refl
cancel_skips (Some Tick) h = absurd h
cancel_skips (Some (Test e)) h = rw (tells_none e.kind h).1 refl

pub cancel_tallied : (o : Option ReporterEvent) (t : Tally) → IsAfter o → having_told t o ≡ t
cancel_tallied None t h = refl
cancel_tallied (Some Tick) t h = absurd h
cancel_tallied (Some (Test e)) t h = (tells_none e.kind h).2 t

pub cancel_news : (k : ℕ) (o : Option ReporterEvent) → IsAfter o → account_of k (option_to_list o) ≡ []
cancel_news k None h = refl
cancel_news k (Some Tick) h = absurd h
cancel_news k (Some (Test e)) h = rw ((tells_none e.kind h).3 k) refl

pub cancel_reports : (k : ℕ) (o : Option ReporterEvent) → IsAfter o → reports_told k (option_to_list o) ≡ []
cancel_reports k None h = refl
cancel_reports k (Some Tick) h = absurd h
cancel_reports k (Some (Test e)) h = rw ((tells_none e.kind h).4 k) refl

-- an event that tells of no test's start or finish
abbrev pub IsApart : ReporterEvent → Type 0
IsApart e = ((k : ℕ) → starts k e ≡ false) × ((k : ℕ) → finishes k e ≡ false)

pub cancel_apart : (e : ReporterEvent) → IsAfter (Some e) → IsApart e
cancel_apart Tick h = absurd h
cancel_apart (Test e) h = ((tells_none e.kind h).5, (tells_none e.kind h).6)

-- after other events it adds nothing to an account, and no slow report
pub account_with : (k : ℕ) (es : List ReporterEvent) (o : Option ReporterEvent) → IsAfter o
    → account_of k (es ++ option_to_list o) ≡ account_of k es
account_with k es o h =
    filter_map-append (news_of k) es (option_to_list o) ∙ ap (λ news. account_of k es ++ news) (cancel_news k o h)
    ∙ append-nil (account_of k es)

pub reports_with : (k : ℕ) (es : List ReporterEvent) (o : Option ReporterEvent) → IsAfter o
    → reports_told k (es ++ option_to_list o) ≡ reports_told k es
reports_with k es o h =
    filter_map-append (report_of k) es (option_to_list o) ∙ ap (λ rs. reports_told k es ++ rs) (cancel_reports k o h)
    ∙ append-nil (reports_told k es)
