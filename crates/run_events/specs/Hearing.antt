-- Which signals and keys a run hears, and what they are to it.
use Rattle.std.specs.Prelude.{Bool, true, false, ◌&&◌, ◌==◌, not, if◌then◌else◌, Option, Some, None}
use Rattle.run_events.specs.declared.signal.Signal.{Signal}
use Rattle.run_events.specs.declared.signal.Signal.TheVariants.{Int, Hup, Term, Quit, Tstp, Cont, Usr1}
use Rattle.run_events.specs.declared.signal.SignalHandlerKind.{SignalHandlerKind}
use Rattle.run_events.specs.declared.signal.SignalHandlerKind.TheVariants as handlers
use Rattle.run_events.specs.declared.signal.Heard.{Heard}
use Rattle.run_events.specs.declared.signal.Heard.TheVariants.{Shutdown, JobControl, Info}
use Rattle.run_events.specs.declared.input.Key.{Key}
use Rattle.run_events.specs.declared.input.KeyCode.{KeyCode}
use Rattle.run_events.specs.declared.input.KeyCode.TheVariants as codes
use Rattle.run_events.specs.declared.input.InputHandlerKind.{InputHandlerKind}
use Rattle.run_events.specs.declared.input.InputHandlerKind.TheVariants as inputs
use Rattle.run_events.specs.declared.input.InputEvent.{InputEvent}
use Rattle.run_events.specs.declared.input.InputEvent.TheVariants as events

-- what a signal is to the standard handlers; a quit asks for information where the plan says so
abbrev pub standard : Bool → Signal → Option Heard
standard quit_is_info Int = Some Shutdown
standard quit_is_info Hup = Some Shutdown
standard quit_is_info Term = Some Shutdown
standard true Quit = Some Info
standard false Quit = Some Shutdown
standard quit_is_info Tstp = Some JobControl
standard quit_is_info Cont = Some JobControl
standard quit_is_info Usr1 = Some Info

-- what it is beside a debugger, which needs interrupt, quit and user signals for itself
abbrev pub beside_debugger : Signal → Option Heard
beside_debugger Int = None
beside_debugger Hup = Some Shutdown
beside_debugger Term = Some Shutdown
beside_debugger Quit = None
beside_debugger Tstp = Some JobControl
beside_debugger Cont = Some JobControl
beside_debugger Usr1 = None

-- what a signal is to a run with these handlers, where it is heard
abbrev pub heard_signal : SignalHandlerKind → Bool → Signal → Option Heard
heard_signal handlers.Standard quit_is_info signal = standard quit_is_info signal
heard_signal handlers.DebuggerMode quit_is_info signal = beside_debugger signal
heard_signal handlers.Noop quit_is_info signal = None

-- what a key that was pressed is: Enter with any modifiers, and `t` with none
abbrev pub pressed : KeyCode → Bool → Option InputEvent
pressed codes.Enter modified = Some events.Enter
pressed (codes.Char c) modified = if (c == 116) && not modified then Some events.Info else None

-- what a key is to a run with these handlers, where it is heard: on its press alone
abbrev pub heard_key : InputHandlerKind → Key → Option InputEvent
heard_key inputs.Noop key = None
heard_key inputs.Standard key = if key.press then pressed key.code key.modified else None
