-- Where the turns of rounds, of keys and of ticks can come.
use Rattle.std.specs.Prelude.{◌≡◌, ◌+◌, List, nat_le, Bool, ◌&&◌, ◌||◌, not, is_some}
use Rattle.run_events.specs.Hearing.{heard_key}
use Rattle.run_events.specs.declared.input.Key.{Key as KeyName}
use Rattle.run_events.specs.declared.settings.Settings.{Settings}
use Rattle.run_events.specs.declared.turn.Turn.TheVariants.{Answer, InfoDue, Key, StopWaitDue, Tick}
use Rattle.run_model.specs.declared.entry.Entry.{Entry}
use Rattle.run_model.specs.declared.happening.Happening.{Happening}
use Rattle.run_model.specs.Dispatch.{query_waits, stop_waits}
use Rattle.run_model.specs.Journal.{IsLegal, past_of}
use Rattle.run_model.specs.Rounds.{answers_waiting, open_round}
use Rattle.run_model.specs.Turns.{enabled, is_held, oldest_of}
use Rattle.run_model.specs.Words.{sub_run, units}
use Rattle.run_laws_cancel.specs.Enabled.{goes_on, is_free}
use Rattle.std.specs.Prelude.{[], ◌∷◌, true, false, Option, Some, ℕ, if◌then◌else◌}
use Rattle.run_events.specs.declared.events.ReporterEvent.{ReporterEvent}
use Rattle.run_events.specs.declared.events.ReporterEvent.TheVariants.{Test}
use Rattle.run_events.specs.declared.events.TestEventKind.{TestEventKind}
use Rattle.run_events.specs.declared.events.TestEventKind.TheVariants.{InfoResponse, InfoStarted, RunPaused}
use Rattle.run_model.specs.Words.{ns_of}

-- whether an answer waits to be told, and whether a unit has in its line what the open round asks
abbrev pub has_answer : List Happening → Bool
has_answer past = is_some (oldest_of (answers_waiting (sub_run past)))

abbrev pub is_waited_for : Settings → List Happening → Bool
is_waited_for p past = is_held (open_round (sub_run past)) (units p (sub_run past))

-- whether an event tells that the run is paused or that its units are asked what they are doing, with which a round
-- begins, or an answer; and by how much the turns since the latest such event of a sub-run moved the clock
abbrev pub begins_wait_in : TestEventKind → Bool
begins_wait_in (RunPaused event) = true
begins_wait_in (InfoStarted event) = true
begins_wait_in (InfoResponse event) = true
begins_wait_in _ = false

abbrev pub begins_wait : Option ReporterEvent → Bool
begins_wait (Some (Test event)) = begins_wait_in event.kind
begins_wait _ = false

abbrev pub time_waited : List Happening → ℕ
time_waited [] = 0
time_waited (x ∷ run) = if begins_wait x.told then 0 else time_waited run + ns_of x.turn

-- whether that is 100 ms
abbrev pub is_late : List Happening → Bool
is_late past = nat_le 100000000 (time_waited (sub_run past))

-- after every legal journal the wait for stopped units can be over exactly where the newest sub-run goes on, a round of
-- stops is open, and no unit is waited for, or the round is late
abbrev pub StopsAreWaitedFor : Type 0
StopsAreWaitedFor = (p : Settings) (journal : List Entry) → IsLegal p journal
    → enabled p (past_of p journal) StopWaitDue
    ≡ (goes_on (past_of p journal) && stop_waits (open_round (sub_run (past_of p journal)))
    && (not (is_waited_for p (past_of p journal)) || is_late (past_of p journal)))

-- and so can a round of queries, where no answer waits besides
abbrev pub QueriesAreWaitedFor : Type 0
QueriesAreWaitedFor = (p : Settings) (journal : List Entry) → IsLegal p journal
    → enabled p (past_of p journal) InfoDue
    ≡ (goes_on (past_of p journal) && query_waits (open_round (sub_run (past_of p journal)))
    && (not (has_answer (past_of p journal) || is_waited_for p (past_of p journal)) || is_late (past_of p journal)))

-- an answer can be told exactly where a round of queries is open and one waits
abbrev pub AnswersAreTold : Type 0
AnswersAreTold = (p : Settings) (journal : List Entry) → IsLegal p journal
    → enabled p (past_of p journal) Answer
    ≡ (goes_on (past_of p journal) && query_waits (open_round (sub_run (past_of p journal))) &&
    has_answer (past_of p journal))

-- a key can come exactly where the newest sub-run is free and the key is heard, and a tick where that is free
abbrev pub KeysAreHeard : Type 0
KeysAreHeard = (p : Settings) (journal : List Entry) (key : KeyName) → IsLegal p journal
    → enabled p (past_of p journal) (Key key)
    ≡ (is_free (past_of p journal) && is_some (heard_key p.plan.hearing.input key))

abbrev pub TicksAreFree : Type 0
TicksAreFree = (p : Settings) (journal : List Entry) → IsLegal p journal
    → enabled p (past_of p journal) Tick ≡ is_free (past_of p journal)
