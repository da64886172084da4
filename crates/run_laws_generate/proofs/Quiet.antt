-- The dispatcher of a generated run: no round is open, it isn't paused, and it has no timer.
use Rattle.std.proofs.Common.{◌≡◌, ℕ, ◌+◌, Bool, true, false, Option, None, if◌then◌else◌, refl, ap, ◌∙◌}
use Rattle.run_clock.specs.Sleep.{Sleep}
use Rattle.run_clock.specs.Counted.{Act, pause, resume, other}
use Rattle.run_events.specs.declared.retry_policy.MaxFail.TheVariants.{All}
use Rattle.run_model.specs.Board.{Deed, cleared, dispatched_in, round_from}
use Rattle.run_model.specs.Rounds.{act_of, closes_round, global_act, opens_round, tells_answer, timer_after}
use Rattle.run_model.specs.Rounds.{watch_after}
use Rattle.run_model.specs.Words.{armed, is_by_time}
use Rattle.run_model.specs.declared.dispatcher_view.DispatcherView.{DispatcherView}

-- no round is open, the run is not paused, and nothing limits it
pub record IsQuiet (d : DispatcherView) : Type 0 where
  pub asks : d.rounds.asks ≡ None
  pub opened : d.watch.opened ≡ None
  pub global : d.causes.global ≡ None
  pub single : d.head.stress ≡ None
  pub all : d.rules.max_fail ≡ All
  pub unlimited : d.rules.global_timeout ≡ None

-- a timer that is none stays so
timer_none : (now : ℕ) (act : Act) (timer : Option Sleep) → timer ≡ None → timer_after now act timer ≡ None
timer_none now pause timer none = rw none refl
timer_none now resume timer none = rw none refl
timer_none now other timer none = none

-- it stays so after a deed that pauses nothing and opens no round
pub quiet_after : (now : ℕ) (d : DispatcherView) (deed : Deed) → IsQuiet d → act_of deed.told ≡ other
    → opens_round deed.request ≡ false → IsQuiet (dispatched_in now d deed)
quiet_after now d deed quiet act opens = record {
  asks = by_rounds (opens_round deed.request) (closes_round deed.stops deed.told) (tells_answer deed.told) opens;
  opened = ap (λ a. (watch_after now a d.watch).opened) act ∙ quiet.opened;
  global = by_causes deed.begins (is_by_time deed.cause);
  single = quiet.single;
  all = quiet.all;
  unlimited = quiet.unlimited;
}
  where
    by_rounds : (opens closes answers : Bool) → opens ≡ false
        → (if opens then round_from now d.rounds deed
        else if closes then record d.rounds { asks = None }
        else if answers then record d.rounds { since = now; told = d.rounds.told + 1 }
        else d.rounds).asks ≡ None
    by_rounds true closes answers none = cc
    by_rounds false true answers none = refl
    by_rounds false false true none = quiet.asks
    by_rounds false false false none = quiet.asks

    by_causes : (begins timed : Bool)
        → (if begins then armed now d.rules.global_timeout
        else if timed then None
        else timer_after now (global_act deed.stops deed.told) d.causes.global) ≡ None
    by_causes true timed = ap (armed now) quiet.unlimited
    by_causes false true = refl
    by_causes false false = timer_none now (global_act deed.stops deed.told) d.causes.global quiet.global

-- and as a sub-run begins
pub quiet_cleared : (d : DispatcherView) → IsQuiet d → IsQuiet (cleared d)
quiet_cleared d quiet = record {
  asks = refl;
  opened = quiet.opened;
  global = refl;
  single = quiet.single;
  all = quiet.all;
  unlimited = quiet.unlimited;
}
