-- What the begin and the end of a sub-run do.
use Rattle.std.proofs.Common.{◌≡◌, ℕ, ◌||◌, ◌==◌, List, [], ◌++◌, Bool, true, false, if◌then◌else◌, Option, Some, None}
use Rattle.std.proofs.Common.{option_map, option_to_list, refl, ap, sym, subst, ◌∙◌, arith}
use Rattle.std.specs.Prelude.{IfSome}
use Rattle.std.specs.List.{All}
use Rattle.std.proofs.lemmas.List.{append-nil}
use Rattle.std.proofs.lemmas.List.Elements.{All-nil}
use Rattle.run_commands.specs.declared.stress_count.StressCondition.{StressCondition}
use Rattle.run_events.specs.declared.settings.Settings.{Settings}
use Rattle.run_events.specs.declared.events.ReporterEvent.{ReporterEvent}
use Rattle.run_events.specs.declared.events.ReporterEvent.TheVariants.{Tick, Test}
use Rattle.run_events.specs.declared.events.TestEventKind.{TestEventKind}
use Rattle.run_events.specs.declared.events.TestEventKind.TheVariants.{RunStarted, RunFinished, StressSubRunStarted}
use Rattle.run_events.specs.declared.events.TestEventKind.TheVariants.{StressSubRunFinished}
use Rattle.run_model.specs.declared.dispatcher_view.DispatcherView.{DispatcherView}
use Rattle.run_model.specs.declared.happening.Happening.{Happening}
use Rattle.run_model.specs.Dispatch.{event, moment_by}
use Rattle.run_model.specs.Board.{Deed}
use Rattle.run_model.specs.Rounds.{tells_answer, is_answer}
use Rattle.run_model.specs.Turns.{nothing_done, begins_at, ends_as, ends_at, is_complete, stops_with, sub_run_started}
use Rattle.run_model.specs.Turns.{run_finished, stress_finale}
use Rattle.run_model.specs.Words.{is_on, told}
use Rattle.run_laws.proofs.board.DeedFits.{Does, IsInOrder, Marks, ToldFits}
use Rattle.run_laws.proofs.board.Holds.{Holds, IsOfKind}
use Rattle.run_laws.proofs.board.OnBoard.{Frame, board_of}
use Rattle.run_laws.proofs.told.Bounds.{IsBound, IsBoundKind, IsBoundAfter, bound_deed, begin_cases, bounds_news}
use Rattle.run_laws.proofs.told.Bounds.{bounds_reports}
use Rattle.run_laws.proofs.told.Reported.{still_reports}

-- what holds where no sub-run has begun
pub holds-none : (p : Settings) (now : ℕ) → Holds p now []
holds-none p now = record {
  fits = omega arith;
  counted = omega arith;
  heard = omega arith;
  rounds = record { opened = tt; told = tt; given = λ some. cc };
  named = λ k u e. cc;
  accounts = λ k. (refl, refl);
  reported = λ k. record { signals = refl; reports = refl };
  made = λ k. refl;
  still = λ off k. tt;
  kinds = All-nil (IsOfKind p);
  on_way = λ k. (refl, refl);
  lines = λ k. refl;
  taken = λ k. omega arith;
  admitted = λ k test some. cc;
  tests_sent = λ some. cc;
  sorted = tt;
  tests_told = λ some. cc;
}

bound_fits : (p : Settings) (run : List Happening) (o : Option ReporterEvent) → IsBound o → ToldFits p (told run) o
bound_fits p run None h = tt
bound_fits p run (Some Tick) h = absurd h
bound_fits p run (Some (Test e)) h = by_kind e.kind h
  where
    by_kind : (kind : TestEventKind) → IsBoundKind kind → ToldFits p (told run) (Some (Test (record e { kind = kind })))
    by_kind (RunStarted s) h = tt
    by_kind (StressSubRunStarted s) h = tt
    by_kind (StressSubRunFinished s) h = tt
    by_kind (RunFinished s) h = tt
    by_kind kind h = absurd h

bound_order : (p : Settings) (run : List Happening) (o : Option ReporterEvent) → IsBound o → IfSome o (IsInOrder p run)
bound_order p run None h = tt
bound_order p run (Some Tick) h = absurd h
bound_order p run (Some (Test e)) h = by_kind e.kind h
  where
    by_kind : (kind : TestEventKind) → IsBoundKind kind → IsInOrder p run (Test (record e { kind = kind }))
    by_kind (RunStarted s) h = record { test = λ e. cc; script = λ e. cc; said = λ m e. cc }
    by_kind (StressSubRunStarted s) h = record { test = λ e. cc; script = λ e. cc; said = λ m e. cc }
    by_kind (StressSubRunFinished s) h = record { test = λ e. cc; script = λ e. cc; said = λ m e. cc }
    by_kind (RunFinished s) h = record { test = λ e. cc; script = λ e. cc; said = λ m e. cc }
    by_kind kind h = absurd h

bound_does : (p : Settings) (f : Frame) (now : ℕ) (run : List Happening) (told after : Option ReporterEvent)
    (begins ends over : Bool) → Holds p now run → IsBound told → IsBoundAfter after
    → Marks p f now run (bound_deed told after begins ends over)
    → Does p f now run (bound_deed told after begins ends over)
bound_does p f now run told after begins ends over h own later marks = record {
  part = tt;
  index = tt;
  room = omega (arith, h.fits);
  sends = tt;
  tells = bound_fits p run told own;
  accounts = λ k. rw (bounds_news k told after own later) (simp append-nil (h.accounts k));
  reported = λ k. still_reports _ k now run _ refl refl refl (rw (bounds_reports k told after own later) refl);
  source = tt;
  asks = refl;
  sent_as = refl;
  order = bound_order p run told own;
  marks = marks;
}

-- none of them tells an answer
bound_answers : (o : Option ReporterEvent) → IsBound o → tells_answer o ≡ true → ⊥
bound_answers None h tells = cc
bound_answers (Some Tick) h tells = cc
bound_answers (Some (Test e)) h tells = by_kind e.kind h tells
  where
    by_kind : (kind : TestEventKind) → IsBoundKind kind → is_answer kind ≡ true → ⊥
    by_kind (RunStarted s) h tells = cc
    by_kind (StressSubRunStarted s) h tells = cc
    by_kind (StressSubRunFinished s) h tells = cc
    by_kind (RunFinished s) h tells = cc
    by_kind kind h tells = absurd h

-- the begin of a sub-run, of which nothing has happened
begun : (p : Settings) (f : Frame) (now : ℕ) (told after : Option ReporterEvent) → IsBound told → IsBoundAfter after
    → Does p f now [] (bound_deed told after true false false)
begun p f now told after own later = bound_does p f now [] told after true false false
    (holds-none p now) own later (record {
      cancel = λ h. cc;
      bounds = λ _. (own, later, refl);
      begins = λ _. (
        refl,
        record {
          part = refl;
          sent = refl;
          info = refl;
          taken = refl;
          asked = refl;
          cause = refl;
          request = refl;
          stops = refl;
          ends = refl;
        },
      );
      still = λ h. cc;
      finishes = λ h. cc;
      ends = λ h. cc;
      stops = λ h. cc;
      opens = λ h. cc;
      answers = λ tells. absurd (bound_answers told own tells);
    })

pub begin_does : (p : Settings) (f : Frame) (now : ℕ) (d : DispatcherView)
    → ((begins_at now d).begins ≡ true) × Does p f now [] (begins_at now d)
begin_does p f now d =
    begin_cases (λ deed. (deed.begins ≡ true) × Does p f now [] deed)
    (λ told after own later. (refl, begun p f now told after own later)) now d

-- the end of a sub-run, which is complete
pub end_does : (p : Settings) (f : Frame) (now : ℕ) (run : List Happening) → Holds p now run → is_on run ≡ true
    → is_complete (board_of p f now run) ≡ true → Does p f now run (ends_at now (board_of p f now run).dispatcher)
end_does p f now run h on complete = by_stress p.stress refl
  where
    d : DispatcherView
    d = (board_of p f now run).dispatcher

    ended : (told after : Option ReporterEvent) (over : Bool) → IsBound told → IsBoundAfter after
        → bound_deed told after false true over ≡ ends_at now d
        → Does p f now run (bound_deed told after false true over)
    ended told after over own later is = bound_does p f now run told after false true over h own later (record {
      cancel = λ h. cc;
      bounds = λ _. (own, later, refl);
      begins = λ h. cc;
      still = λ off. let never : true ≡ false = sym on ∙ off in cc;
      finishes = λ _. refl;
      ends = λ _. (is, complete);
      stops = λ h. cc;
      opens = λ h. cc;
      answers = λ tells. absurd (bound_answers told own tells);
    })

    last : (condition : StressCondition) (stops : Bool)
        → IsBoundAfter (if stops then Some (run_finished now d (stress_finale d condition)) else None)
    last condition true = tt
    last condition false = tt

    by_stress : (o : Option StressCondition) → p.stress ≡ o → Does p f now run (ends_at now d)
    by_stress None is = subst (Does p f now run) (ap (ends_as now d) (sym is))
        (ended _ None true tt tt (ap (ends_as now d) (sym is)))
    by_stress (Some condition) is = subst (Does p f now run) (ap (ends_as now d) (sym is))
        (ended _ _ (stops_with now d condition) tt (last condition (stops_with now d condition))
        (ap (ends_as now d) (sym is)))
