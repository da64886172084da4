-- The stops and the continues that are asked of children.
use Rattle.std.specs.Prelude.{ℕ, ◌≡◌, ◌==◌, List, [], ◌∷◌, ◌++◌, Bool, true, false, ◌&&◌, ◌||◌, if◌then◌else◌, Option}
use Rattle.std.specs.Prelude.{Some, None, option_and_then}
use Rattle.run_commands.specs.declared.interceptor.Interceptor.{Interceptor}
use Rattle.run_commands.specs.declared.interceptor.Interceptor.TheVariants as under
use Rattle.run_events.specs.declared.ask.Ask.{Ask}
use Rattle.run_events.specs.declared.request.ChildSignal.{ChildSignal}
use Rattle.run_events.specs.declared.request.ChildSignal.TheVariants.{End, Tstp, Cont}
use Rattle.run_events.specs.declared.request.Request.{Request}
use Rattle.run_events.specs.declared.request.Request.TheVariants.{Stop, Continue}
use Rattle.run_events.specs.declared.request.TermSignal.TheVariants.{Kill}
use Rattle.run_events.specs.declared.settings.Settings.{Settings}
use Rattle.run_model.specs.declared.entry.Entry.{Entry}
use Rattle.run_model.specs.declared.happening.Happening.{Happening}
use Rattle.run_model.specs.declared.happening.UnitPart.{UnitPart}
use Rattle.run_model.specs.declared.happening.UnitPart.TheVariants.{Acts}
use Rattle.run_model.specs.declared.unit_turn.UnitTurn.{UnitTurn}
use Rattle.run_model.specs.declared.unit_turn.UnitTurn.TheVariants.{Answered, Exit, WaitFailed, Decide}
use Rattle.run_model.specs.Journal.{IsLegal, past_of}
use Rattle.run_model.specs.Story.{line_of, oldest, takes_request}
use Rattle.run_model.specs.Turns.{happening}
use Rattle.run_model.specs.Words.{sub_run}
use Rattle.run_laws.specs.Reports.{signal_for}

-- with a turn of a sub-run: the turn of unit k, if it is one; the request that it takes, if it takes one; and the
-- signal that is asked for its child, if one is
abbrev pub turn_in : ℕ → Option UnitPart → Option UnitTurn
turn_in k (Some (Acts j turn)) = if j == k then Some turn else None
turn_in k _ = None

abbrev pub request_in : ℕ → List Happening → Option UnitPart → Option Request
request_in k run part = if takes_request k part then oldest (line_of k run) else None

abbrev pub signal_in : ℕ → Option Ask → Option ChildSignal
signal_in k asked = option_and_then (signal_for k) asked

-- whether a turn lets a unit go
abbrev pub lets_it_go : Option UnitTurn → Bool
lets_it_go (Some (Answered go)) = go
lets_it_go _ = false

-- whether the child of unit k is waited for: from where it is let go until its child ended, the wait for that failed,
-- or it decides on its attempt
abbrev pub awaited_after : Option UnitTurn → Bool → Bool
awaited_after (Some (Answered true)) was = true
awaited_after (Some (Exit exit)) was = false
awaited_after (Some (WaitFailed error)) was = false
awaited_after (Some (Decide word)) was = false
awaited_after turn was = was

abbrev pub is_awaited : ℕ → List Happening → Bool
is_awaited k [] = false
is_awaited k (x ∷ run) = awaited_after (turn_in k x.part) (is_awaited k run)

-- whether, since it was let go, the latest signal to end that was asked for its child was another than a kill
abbrev pub ending_after : Option ChildSignal → Bool → Bool
ending_after (Some (End Kill)) was = false
ending_after (Some (End signal)) was = true
ending_after signal was = was

abbrev pub is_ending : ℕ → List Happening → Bool
is_ending k [] = false
is_ending k (x ∷ run) =
    if lets_it_go (turn_in k x.part) then false else ending_after (signal_in k x.asked) (is_ending k run)

-- and whether the latest stop or continue that it took since then was a stop
abbrev pub stopped_after : Option Request → Bool → Bool
stopped_after (Some (Stop round)) was = true
stopped_after (Some Continue) was = false
stopped_after request was = was

abbrev pub is_stopped_unit : ℕ → List Happening → Bool
is_stopped_unit k [] = false
is_stopped_unit k (x ∷ run) =
    if lets_it_go (turn_in k x.part) then false
    else stopped_after (request_in k run x.part) (is_stopped_unit k run)

-- a child stops with the run, but not under a debugger
abbrev pub stops_with_run : Interceptor → Bool
stops_with_run under.None = true
stops_with_run (under.Debugger words) = false
stops_with_run (under.Tracer words) = true

-- the stop or the continue that a request asks of a child, where a stop does so and where a continue does
abbrev pub job_for : Bool → Bool → Option Request → Option ChildSignal
job_for stops continues (Some (Stop round)) = if stops then Some Tstp else None
job_for stops continues (Some Continue) = if continues then Some Cont else None
job_for stops continues _ = None

-- a stop that unit k takes asks its child to stop where that is waited for, and stops with the run or is ending; and a
-- continue asks it to go on where it is waited for, and was stopped or is ending
abbrev pub job_due : Settings → ℕ → List Happening → Option Request → Option ChildSignal
job_due p k run request =
    job_for (is_awaited k run && (is_ending k run || stops_with_run p.interceptor))
    (is_awaited k run && (is_ending k run || is_stopped_unit k run)) request

-- a stop or a continue among signals
abbrev pub job_in : Option ChildSignal → Option ChildSignal
job_in (Some Tstp) = Some Tstp
job_in (Some Cont) = Some Cont
job_in _ = None

-- a turn asks just that stop or continue of each unit's child, by the request that the unit takes with it
abbrev pub AsksItsStops : Settings → List Happening → Happening → Type 0
AsksItsStops p run x = (k : ℕ) → job_in (signal_in k x.asked) ≡ job_due p k run (request_in k run x.part)

-- that holds of each turn of every legal journal
abbrev pub StopsAreAsked : Type 0
StopsAreAsked = (p : Settings) (journal : List Entry) (e : Entry) → IsLegal p (journal ++ e ∷ [])
    → AsksItsStops p (sub_run (past_of p journal)) (happening p (past_of p journal) e)
