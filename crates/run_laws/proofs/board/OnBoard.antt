-- The board of a sub-run, and its units.
use Rattle.std.proofs.Common.{◌≡◌, ℕ, ◌<◌, ◌≤◌, List, length, get_or, Bool, true, false, Option, Some, None, option_map}
use Rattle.std.proofs.Common.{nat_lt}
use Rattle.std.proofs.Common.{refl, ◌∙◌, arith}
use Rattle.std.proofs.lemmas.List.{get_or_past}
use Rattle.std.proofs.lemmas.List.FromFn.{get_or-map-range_with_len, length-map-range_with_len}
use Rattle.run_events.specs.declared.settings.Settings.{Settings}
use Rattle.run_model.specs.declared.happening.Happening.{Happening}
use Rattle.run_model.specs.declared.unit_view.UnitView.{UnitView}
use Rattle.run_model.specs.Words.{is_on, is_over, heard, queue, unit_of, units, tally, told, causes_of, initial_stats}
use Rattle.run_model.specs.SubRuns.{sub_runs_of, sub_run_watch, index_at}
use Rattle.run_model.specs.Reruns.{unseen_by}
use Rattle.run_model.specs.declared.dispatcher_view.SubRuns.{SubRuns}
use Rattle.run_events.specs.declared.plan.TestInstanceId.{TestInstanceId}
use Rattle.run_events.specs.declared.stress.StressIndex.{StressIndex}
use Rattle.run_clock.specs.Stopwatch.{Watch}
use Rattle.run_model.specs.Admission.{units_in}
use Rattle.run_model.specs.Rounds.{run_watch, rounds_of, answers_waiting}
use Rattle.run_events.specs.declared.events.ReporterEvent.{ReporterEvent}
use Rattle.run_events.specs.declared.events.TestEventKind.{TestEventKind}
use Rattle.run_model.specs.Dispatch.{Moment, moment_by, event, head_of, rules_of}
use Rattle.run_model.specs.Board.{Board}
use Rattle.run_laws.proofs.board.Holds.{Holds}

-- what is around a sub-run: whether the run is over, its stopwatch, the sub-runs that ended before, the stopwatch of
-- the sub-run, and the expected tests that were not seen
pub record Frame : Type 0 where
  pub over : Bool
  pub watch : Watch
  pub sub_runs : SubRuns
  pub sub_run_watch : Watch
  pub rerun : Option (List TestInstanceId)

-- that of the newest sub-run
abbrev pub frame_of : Settings → List Happening → Frame
frame_of p past = record {
  over = is_over past;
  watch = run_watch past;
  sub_runs = sub_runs_of p past;
  sub_run_watch = sub_run_watch past;
  rerun = unseen_by p (told past);
}

-- which sub-run of a stress run it is
abbrev pub index_in : Settings → Frame → Option StressIndex
index_in p f = option_map (λ condition. index_at condition f.sub_runs.ended) p.stress

-- the board after a sub-run in this frame at a moment, where the reporter refused no event
abbrev pub board_of : Settings → Frame → ℕ → List Happening → Board
board_of p f now run = record {
  units = units p run;
  queue = queue run;
  answers = answers_waiting run;
  dispatcher = record {
    head = head_of p;
    rules = rules_of p;
    initial = initial_stats p;
    on = is_on run;
    over = f.over;
    causes = causes_of p run;
    tally = tally p run;
    watch = f.watch;
    rounds = rounds_of run;
    sub_runs = f.sub_runs;
    sub_run_watch = f.sub_run_watch;
    rerun = f.rerun;
    latest = heard run;
  };
  clock = now;
  refused = false;
}

-- the same where the reporter refused an event, or none
abbrev pub board_with : Settings → Bool → Frame → ℕ → List Happening → Board
board_with p refused f now run = record (board_of p f now run) { refused = refused }

-- a moment of the clock, with the active time of the run
abbrev pub moment_in : ℕ → Frame → Moment
moment_in now f = moment_by now f.watch

-- and an event that is told then
abbrev pub event_in : ℕ → Frame → TestEventKind → ReporterEvent
event_in now f kind = event (moment_in now f) kind

-- the units of a plan, one by one
pub units-length : (p : Settings) (run : List Happening) → length (units p run) ≡ units_in p
units-length p run = length-map-range_with_len (λ k. unit_of k run) 0 (units_in p)

pub units-at : (p : Settings) (run : List Happening) (k : ℕ) → k < units_in p
    → get_or (units p run) k None ≡ unit_of k run
units-at p run k h = get_or-map-range_with_len (λ k. unit_of k run) 0 (units_in p) k k None h (omega arith)

-- the unit on the board is that of the history
pub unit_in-is : (p : Settings) (now : ℕ) (run : List Happening) (k : ℕ) → Holds p now run
    → get_or (units p run) k None ≡ unit_of k run
unit_in-is p now run k h = by_part (nat_lt k (units_in p)) refl
  where
    never : (v : Option UnitView) → unit_of k run ≡ v → units_in p ≤ k → None ≡ v
    never None e le = refl
    never (Some u) e le = absurd (let named = h.named k u e in let below : k < units_in p = named.1 in omega arith)

    by_part : (b : Bool) → nat_lt k (units_in p) ≡ b → get_or (units p run) k None ≡ unit_of k run
    by_part true e = units-at p run k (grind arith)
    by_part false e =
        let le : units_in p ≤ k = grind arith in
        get_or_past (units p run) k None (omega (arith, units-length p run)) ∙ never (unit_of k run) refl le
