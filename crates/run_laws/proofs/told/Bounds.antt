-- What is told where a sub-run begins or ends: nothing of a unit.
use Rattle.std.proofs.Common.{◌≡◌, ℕ, ◌==◌, List, [], ◌∷◌, ◌++◌, Bool, true, false, if◌then◌else◌, Option, Some}
use Rattle.std.proofs.Common.{None, option_map, option_to_list, filter_map, refl, ap, ◌∙◌, sym}
use Rattle.std.specs.Prelude.{⊤}
use Rattle.run_events.specs.declared.cancel.CancelReason.{CancelReason}
use Rattle.run_events.specs.declared.events.ReporterEvent.{ReporterEvent}
use Rattle.run_events.specs.declared.events.ReporterEvent.TheVariants.{Tick, Test}
use Rattle.run_events.specs.declared.events.TestEventKind.{TestEventKind}
use Rattle.run_events.specs.declared.events.TestEventKind.TheVariants.{RunStarted, RunFinished, StressSubRunStarted}
use Rattle.run_events.specs.declared.events.TestEventKind.TheVariants.{StressSubRunFinished}
use Rattle.run_commands.specs.declared.stress_count.StressCondition.{StressCondition}
use Rattle.run_model.specs.declared.dispatcher_view.DispatcherView.{DispatcherView}
use Rattle.run_model.specs.Accounts.{news_in, account_of}
use Rattle.run_model.specs.Board.{Deed}
use Rattle.run_model.specs.Turns.{nothing_done, begins_as, begins_at, ends_as, ends_at, stops_with, sub_run_started}
use Rattle.run_model.specs.Turns.{run_finished, stress_finale}
use Rattle.run_laws.specs.Reports.{report_of_kind, reports_told}
use Rattle.run_laws.proofs.told.Cancels.{IsAfter, account_with, reports_with}

-- the events of a begin and an end: that the run or a sub-run started or finished
abbrev pub IsBoundKind : TestEventKind → Type 0
IsBoundKind (RunStarted e) = ⊤
IsBoundKind (StressSubRunStarted e) = ⊤
IsBoundKind (StressSubRunFinished e) = ⊤
IsBoundKind (RunFinished e) = ⊤
IsBoundKind _ = ⊥

abbrev pub IsBound : Option ReporterEvent → Type 0
IsBound None = ⊤
IsBound (Some Tick) = ⊥
IsBound (Some (Test e)) = IsBoundKind e.kind

-- those that come after another one
abbrev pub IsBoundAfterKind : TestEventKind → Type 0
IsBoundAfterKind (StressSubRunStarted e) = ⊤
IsBoundAfterKind (RunFinished e) = ⊤
IsBoundAfterKind _ = ⊥

abbrev pub IsBoundAfter : Option ReporterEvent → Type 0
IsBoundAfter None = ⊤
IsBoundAfter (Some Tick) = ⊥
IsBoundAfter (Some (Test e)) = IsBoundAfterKind e.kind

pub bound_after : (o : Option ReporterEvent) → IsBoundAfter o → IsAfter o
bound_after None h = tt
bound_after (Some Tick) h = absurd h
bound_after (Some (Test e)) h = by_kind e.kind h
  where
    by_kind : (kind : TestEventKind) → IsBoundAfterKind kind → IsAfter (Some (Test (record e { kind = kind })))
    by_kind (StressSubRunStarted s) h = tt
    by_kind (RunFinished s) h = tt
    by_kind kind h = absurd h

-- none says anything of a unit
pub bound_news : (k : ℕ) (o : Option ReporterEvent) → IsBound o → account_of k (option_to_list o) ≡ []
bound_news k None h = refl
bound_news k (Some Tick) h = absurd h
bound_news k (Some (Test e)) h = by_kind e.kind h
  where
    by_kind : (kind : TestEventKind) → IsBoundKind kind → account_of k (Test (record e { kind = kind }) ∷ []) ≡ []
    by_kind (RunStarted s) h = refl
    by_kind (StressSubRunStarted s) h = refl
    by_kind (StressSubRunFinished s) h = refl
    by_kind (RunFinished s) h = refl
    by_kind kind h = absurd h

pub bound_reports : (k : ℕ) (o : Option ReporterEvent) → IsBound o → reports_told k (option_to_list o) ≡ []
bound_reports k None h = refl
bound_reports k (Some Tick) h = absurd h
bound_reports k (Some (Test e)) h = by_kind e.kind h
  where
    by_kind : (kind : TestEventKind) → IsBoundKind kind → reports_told k (Test (record e { kind = kind }) ∷ []) ≡ []
    by_kind (RunStarted s) h = refl
    by_kind (StressSubRunStarted s) h = refl
    by_kind (StressSubRunFinished s) h = refl
    by_kind (RunFinished s) h = refl
    by_kind kind h = absurd h

-- nor do both
pub bounds_news : (k : ℕ) (told after : Option ReporterEvent) → IsBound told → IsBoundAfter after
    → account_of k (option_to_list told ++ option_to_list after) ≡ []
bounds_news k told after own later =
    account_with k (option_to_list told) after (bound_after after later) ∙ bound_news k told own

pub bounds_reports : (k : ℕ) (told after : Option ReporterEvent) → IsBound told → IsBoundAfter after
    → reports_told k (option_to_list told ++ option_to_list after) ≡ []
bounds_reports k told after own later =
    reports_with k (option_to_list told) after (bound_after after later) ∙ bound_reports k told own

-- a deed that tells such events and does nothing else
abbrev pub bound_deed : Option ReporterEvent → Option ReporterEvent → Bool → Bool → Bool → Deed
bound_deed told after begins ends over =
    record nothing_done { told = told; after = after; begins = begins; ends = ends; over = over }

-- the begin of a sub-run is one, and so is its end
pub begin_cases : (P : Deed → Type 0)
    → ((told after : Option ReporterEvent) → IsBound told → IsBoundAfter after
    → P (bound_deed told after true false false))
    → (now : ℕ) (d : DispatcherView) → P (begins_at now d)
begin_cases P cases now d = by_first (d.sub_runs.ended == 0)
  where
    starts : Option StressCondition → Option ReporterEvent
    starts o = option_map (sub_run_started now d) o

    own : (o : Option StressCondition) → IsBound (starts o)
    own None = tt
    own (Some condition) = tt

    later : (o : Option StressCondition) → IsBoundAfter (starts o)
    later None = tt
    later (Some condition) = tt

    by_first : (first : Bool) → P (begins_as now d first)
    by_first true = cases _ (starts d.head.stress) tt (later d.head.stress)
    by_first false = cases (starts d.head.stress) None (own d.head.stress) tt

pub end_cases : (P : Deed → Type 0)
    → ((told after : Option ReporterEvent) (over : Bool) → IsBound told → IsBoundAfter after
    → P (bound_deed told after false true over))
    → (now : ℕ) (d : DispatcherView) → P (ends_at now d)
end_cases P cases now d = by_stress d.head.stress
  where
    last : (condition : StressCondition) (stops : Bool)
        → IsBoundAfter (if stops then Some (run_finished now d (stress_finale d condition)) else None)
    last condition true = tt
    last condition false = tt

    by_stress : (o : Option StressCondition) → P (ends_as now d o)
    by_stress None = cases _ None true tt tt
    by_stress (Some condition) =
        cases _ _ (stops_with now d condition) tt (last condition (stops_with now d condition))
