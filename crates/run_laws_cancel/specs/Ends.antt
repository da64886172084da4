-- How the child of a unit is asked to end.
use Rattle.std.specs.Prelude.{ℕ, zero, suc, ◌-◌, ◌≡◌, ◌||◌, nat_lt, List, [], ◌∷◌, ◌++◌, Bool, true, false}
use Rattle.std.specs.Prelude.{if◌then◌else◌, Option, Some, None, is_some, IfSome, slice_get}
use Rattle.std.specs.Option.{option_map_or}
use Rattle.run_events.specs.Usual.{usual_slow}
use Rattle.run_events.specs.declared.request.ChildSignal.{ChildSignal}
use Rattle.run_events.specs.declared.request.ChildSignal.TheVariants.{End}
use Rattle.run_events.specs.declared.request.Request.{Request}
use Rattle.run_events.specs.declared.request.Request.TheVariants.{Shutdown}
use Rattle.run_events.specs.declared.request.ShutdownRequest.{ShutdownRequest}
use Rattle.run_events.specs.declared.request.ShutdownRequest.TheVariants as shutdowns
use Rattle.run_events.specs.declared.request.TermSignal.{TermSignal}
use Rattle.run_events.specs.declared.request.TermSignal.TheVariants.{Interrupt, Term, Hangup, Quit, Kill}
use Rattle.run_events.specs.declared.settings.Settings.{Settings}
use Rattle.run_model.specs.declared.entry.Entry.{Entry}
use Rattle.run_model.specs.declared.happening.Happening.{Happening}
use Rattle.run_model.specs.declared.unit_turn.UnitTurn.{UnitTurn}
use Rattle.run_model.specs.declared.unit_turn.UnitTurn.TheVariants.{Due}
use Rattle.run_model.specs.Admission.{scripts_in}
use Rattle.run_model.specs.Journal.{IsLegal, past_of}
use Rattle.run_model.specs.Turns.{happening}
use Rattle.run_model.specs.Words.{sub_run}
use Rattle.run_laws_cancel.specs.Stops.{is_awaited, is_ending, request_in, signal_in, turn_in}

-- how much time the child of unit k is given to end by itself, by the plan: scripts come first
abbrev pub grace_of : Settings → ℕ → ℕ
grace_of p k =
    if nat_lt k (scripts_in p)
    then option_map_or (λ script. script.slow.grace) (slice_get p.plan.scripts k) usual_slow.grace
    else option_map_or (λ test. test.slow.grace) (slice_get p.plan.tests (k - scripts_in p)) usual_slow.grace

-- the signal that a request to end a child stands for, and the one that comes of it: where the child is given no time,
-- a kill
abbrev pub signal_by : ShutdownRequest → TermSignal
signal_by shutdowns.Interrupt = Interrupt
signal_by shutdowns.Term = Term
signal_by shutdowns.Hangup = Hangup
signal_by shutdowns.Quit = Quit
signal_by shutdowns.TestFailureImmediate = Term
signal_by shutdowns.Twice = Kill

abbrev pub first_end_signal : ℕ → TermSignal → TermSignal
first_end_signal zero signal = Kill
first_end_signal (suc grace) signal = signal

-- a request to end a child among requests, a signal that ends it among signals, and whether a turn is a timer's
abbrev pub shutdown_in : Option Request → Option ShutdownRequest
shutdown_in (Some (Shutdown reason)) = Some reason
shutdown_in _ = None

abbrev pub end_in : Option ChildSignal → Option TermSignal
end_in (Some (End signal)) = Some signal
end_in _ = None

abbrev pub comes_due : Option UnitTurn → Bool
comes_due (Some Due) = true
comes_due _ = false

-- a unit takes a request to end its child, which is given so much time: while the child is waited for it is killed
-- where it is ending by then, and else gets the signal of that request; and so it is of a timer that is due, which asks
-- it to end by a term; one that is ending is killed then. No other turn asks it to end
pub record EndsItsChild (grace : ℕ) (awaited ending : Bool) (turn : Option UnitTurn) (taken : Option Request)
    (asked : Option ChildSignal) : Type 0 where
  pub request : IfSome (shutdown_in taken) (λ reason. end_in asked
      ≡ (if awaited then Some (if ending then Kill else first_end_signal grace (signal_by reason)) else None))
  pub due : comes_due turn ≡ true → IfSome (end_in asked) (λ signal. (awaited ≡ true)
      × (signal ≡ (if ending then Kill else first_end_signal grace Term)))
  pub over : comes_due turn ≡ true → awaited ≡ true → ending ≡ true → end_in asked ≡ Some Kill
  pub only : is_some (end_in asked) ≡ true → (is_some (shutdown_in taken) || comes_due turn) ≡ true

-- a turn after others of its sub-run does so of each unit
abbrev pub AsksItsEnds : Settings → List Happening → Happening → Type 0
AsksItsEnds p run x = (k : ℕ)
    → EndsItsChild (grace_of p k) (is_awaited k run) (is_ending k run) (turn_in k x.part) (request_in k run x.part)
    (signal_in k x.asked)

-- that holds of each turn of every legal journal
abbrev pub EndsAreAsked : Type 0
EndsAreAsked = (p : Settings) (journal : List Entry) (e : Entry) → IsLegal p (journal ++ e ∷ [])
    → AsksItsEnds p (sub_run (past_of p journal)) (happening p (past_of p journal) e)
