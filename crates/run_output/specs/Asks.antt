-- The line of an ask, under the turn that asked it.
use Rattle.std.specs.Prelude.{ℕ, List, [], ◌∷◌, ◌++◌, Option, Some, codes}
use Rattle.serde_json.specs.Data.{Data, boolean, string}
use Rattle.run_events.specs.declared.ask.Ask.{Ask}
use Rattle.run_events.specs.declared.ask.Ask.TheVariants.{Start, Signal, StopSelf}
use Rattle.run_events.specs.declared.ask.SignalAsk.{SignalAsk}
use Rattle.run_events.specs.declared.ask.StartAsk.{StartAsk}
use Rattle.run_events.specs.declared.request.ChildSignal.{ChildSignal}
use Rattle.run_events.specs.declared.request.ChildSignal.TheVariants.{End, Tstp, Cont}
use Rattle.run_output.specs.Fields.{count, texts, pair, array_of, object_text, line_bytes}
use Rattle.run_output.specs.Info.{method_word}

-- a signal for a child by its word
unfoldable pub child_signal_word : ChildSignal → List ℕ
child_signal_word (End method) = method_word method
child_signal_word Tstp = codes "tstp"
child_signal_word Cont = codes "cont"

-- a child is to be started
unfoldable pub start_fields : ℕ → StartAsk → List (List ℕ × Option Data)
start_fields turn start =
    (codes "ask", Some (string (codes "start")))
    ∷ (codes "attempt", Some (count start.attempt))
    ∷ (codes "command", Some (texts start.command))
    ∷ (codes "env", Some (array_of pair start.env))
    ∷ (codes "group", Some (boolean start.group))
    ∷ (codes "stdin", Some (boolean start.stdin))
    ∷ (codes "turn", Some (count turn))
    ∷ (codes "unit", Some (count start.unit))
    ∷ []

-- a signal is to be sent to a child
unfoldable pub signal_fields : ℕ → SignalAsk → List (List ℕ × Option Data)
signal_fields turn ask =
    (codes "ask", Some (string (codes "signal")))
    ∷ (codes "group", Some (boolean ask.group))
    ∷ (codes "signal", Some (string (child_signal_word ask.signal)))
    ∷ (codes "turn", Some (count turn))
    ∷ (codes "unit", Some (count ask.unit))
    ∷ []

-- the runner itself is to stop
unfoldable pub stop_self_fields : ℕ → List (List ℕ × Option Data)
stop_self_fields turn =
    (codes "ask", Some (string (codes "stop-self"))) ∷ (codes "turn", Some (count turn)) ∷ []

-- the fields of an ask
abbrev pub ask_fields : ℕ → Ask → List (List ℕ × Option Data)
ask_fields turn (Start start) = start_fields turn start
ask_fields turn (Signal ask) = signal_fields turn ask
ask_fields turn StopSelf = stop_self_fields turn

-- its line
abbrev pub ask_text : ℕ → Ask → List ℕ
ask_text turn ask = object_text (ask_fields turn ask)

-- the lines of asks, in order
abbrev pub ask_lines : List (ℕ × Ask) → List ℕ
ask_lines [] = []
ask_lines (ask ∷ asks) = line_bytes (ask_text ask.0 ask.1) ++ ask_lines asks
