-- What the begin, and the end, of a sub-run leave.
use Rattle.std.proofs.Common.{◌≡◌, ℕ, ◌||◌, Bool, true, false, refl, ap, ◌∙◌, arith, ◌==◌, if◌then◌else◌}
use Rattle.std.proofs.Common.{Option, Some, None, option_map}
use Rattle.run_clock.specs.Stopwatch.{started_at}
use Rattle.run_commands.specs.declared.stress_count.StressCondition.{StressCondition}
use Rattle.run_events.specs.declared.events.ReporterEvent.{ReporterEvent}
use Rattle.run_model.specs.declared.dispatcher_view.DispatcherView.{DispatcherView}
use Rattle.run_model.specs.declared.dispatcher_view.Tally.{Tally}
use Rattle.run_model.specs.Dispatch.{having_told, no_causes, no_rounds, tally_from}
use Rattle.run_model.specs.SubRuns.{with_sub_run}
use Rattle.run_model.specs.Turns.{begins_as, begins_at, ends_as, ends_at, nothing_done, run_finished, stops_with}
use Rattle.run_model.specs.Turns.{stress_finale, sub_run_started}
use Rattle.run_model.specs.Words.{armed}
use Rattle.run_dispatch.specs.Deeds.{with_seen}
use Rattle.run_dispatch.proofs.FinishLemmas.{IsPlain, with_cause-none}

-- an event that is plain, and counts nothing
pub record IsQuiet (told : Option ReporterEvent) : Type 0 where
  plain : IsPlain told
  counts : (t : Tally) → having_told t told ≡ t

quiet_none : IsQuiet None
quiet_none = record {
  plain = record { act = refl; answer = refl; ends = refl; seen = λ unseen. refl };
  counts = λ t. refl;
}

pub quiet_started : (now : ℕ) (d : DispatcherView) (stress : Option StressCondition)
    → IsQuiet (option_map (sub_run_started now d) stress)
quiet_started now d None = quiet_none
quiet_started now d (Some condition) = record {
  plain = record { act = refl; answer = refl; ends = refl; seen = λ unseen. refl };
  counts = λ t. refl;
}

-- the end of the run, where it comes with that of a sub-run
quiet_finale : (now : ℕ) (d : DispatcherView) (condition : StressCondition) (over : Bool)
    → IsQuiet (if over then Some (run_finished now d (stress_finale d condition)) else None)
quiet_finale now d condition false = quiet_none
quiet_finale now d condition true = record {
  plain = record { act = refl; answer = refl; ends = refl; seen = λ unseen. refl };
  counts = λ t. refl;
}

-- a sub-run that begins, by what it tells
begun_with : (now : ℕ) (d : DispatcherView) (told after : Option ReporterEvent) → IsQuiet told → IsQuiet after
    → with_seen now d (record nothing_done { told = told; after = after; begins = true })
    ≡ record d {
      on = true;
      causes = record no_causes { global = armed now d.rules.global_timeout };
      tally = tally_from d.initial;
      rounds = no_rounds;
      latest = now;
    }
begun_with now d told after t a =
    rw (
      t.plain.act,
      t.plain.answer,
      t.plain.ends,
      t.counts (tally_from d.initial),
      a.counts (tally_from d.initial),
      t.plain.seen d.rerun,
      a.plain.seen d.rerun,
    )
    (ap
    (λ tally. record d {
      on = true;
      causes = record no_causes { global = armed now d.rules.global_timeout };
      tally = tally;
      rounds = no_rounds;
      latest = now;
    })
    (with_cause-none (tally_from d.initial)))

begun_as : (now : ℕ) (d : DispatcherView) (first : Bool) → with_seen now d (begins_as now d first)
    ≡ record d {
      on = true;
      causes = record no_causes { global = armed now d.rules.global_timeout };
      tally = tally_from d.initial;
      rounds = no_rounds;
      latest = now;
    }
begun_as now d true =
    begun_with now d (begins_as now d true).told (option_map (sub_run_started now d) d.head.stress)
    (record {
      plain = record { act = refl; answer = refl; ends = refl; seen = λ unseen. refl };
      counts = λ t. refl;
    })
    (quiet_started now d d.head.stress)
begun_as now d false =
    begun_with now d (option_map (sub_run_started now d) d.head.stress) None
    (quiet_started now d d.head.stress) quiet_none

pub begun_after : (now : ℕ) (d : DispatcherView) → with_seen now d (begins_at now d)
    ≡ record d {
      on = true;
      causes = record no_causes { global = armed now d.rules.global_timeout };
      tally = tally_from d.initial;
      rounds = no_rounds;
      latest = now;
    }
begun_after now d = begun_as now d (d.sub_runs.ended == 0)

-- a sub-run that ends, by what it tells
ended_with : (now : ℕ) (d : DispatcherView) (told after : Option ReporterEvent) (over : Bool) → IsQuiet told
    → IsQuiet after
    → with_seen now d (record nothing_done { told = told; after = after; ends = true; over = over })
    ≡ record d {
      on = false;
      over = over || d.over;
      sub_runs = with_sub_run d.tally.stats d.sub_runs;
      sub_run_watch = started_at now;
      latest = now;
    }
ended_with now d told after over t a =
    rw (
      t.plain.act,
      t.plain.answer,
      t.plain.ends,
      t.counts d.tally,
      a.counts d.tally,
      t.plain.seen
          d.rerun,
      a.plain.seen d.rerun,
    )
    (ap
    (λ (p : ℕ × Tally). record d {
      on = false;
      over = over || d.over;
      causes = record d.causes { signals = p.0 };
      tally = p.1;
      sub_runs = with_sub_run d.tally.stats d.sub_runs;
      sub_run_watch = started_at now;
      latest = now;
    })
    (pair_of (omega arith) (with_cause-none d.tally)))
  where
    pair_of : {m n : ℕ} {t u : Tally} → m ≡ n → t ≡ u → Path (ℕ × Tally) (m, t) (n, u)
    pair_of {m} {n} {t} {u} e f = ap (λ m. (m, t)) e ∙ ap (λ t. (n, t)) f

ended_as : (now : ℕ) (d : DispatcherView) (stress : Option StressCondition) → with_seen now d (ends_as now d stress)
    ≡ record d {
      on = false;
      over = (ends_as now d stress).over || d.over;
      sub_runs = with_sub_run d.tally.stats d.sub_runs;
      sub_run_watch = started_at now;
      latest = now;
    }
ended_as now d None =
    ended_with now d (ends_as now d None).told None true
    (record {
      plain = record { act = refl; answer = refl; ends = refl; seen = λ unseen. refl };
      counts = λ t. refl;
    })
    quiet_none
ended_as now d (Some condition) =
    ended_with now d (ends_as now d (Some condition)).told (ends_as now d (Some condition)).after
    (stops_with now d condition)
    (record {
      plain = record { act = refl; answer = refl; ends = refl; seen = λ unseen. refl };
      counts = λ t. refl;
    })
    (quiet_finale now d condition (stops_with now d condition))

pub ended_after : (now : ℕ) (d : DispatcherView) → with_seen now d (ends_at now d)
    ≡ record d {
      on = false;
      over = (ends_at now d).over || d.over;
      sub_runs = with_sub_run d.tally.stats d.sub_runs;
      sub_run_watch = started_at now;
      latest = now;
    }
ended_after now d = ended_as now d d.head.stress
