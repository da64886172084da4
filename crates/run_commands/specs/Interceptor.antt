-- How an interceptor changes the run of a test: one line for each row and column of the table.
use Rattle.std.specs.Prelude.{ℕ, Bool, true, false, List, []}
use Rattle.run_commands.specs.declared.interceptor.Interceptor.{Interceptor}
use Rattle.run_commands.specs.declared.interceptor.Interceptor.TheVariants as under

-- slow timers and the global timer are off
abbrev pub disables_timeouts : Interceptor → Bool
disables_timeouts under.None = false
disables_timeouts (under.Debugger _) = true
disables_timeouts (under.Tracer _) = true

-- the child reads the program's own standard input
abbrev pub passes_stdin_through : Interceptor → Bool
passes_stdin_through under.None = false
passes_stdin_through (under.Debugger _) = true
passes_stdin_through (under.Tracer _) = false

-- the child has a process group of its own
abbrev pub has_process_group : Interceptor → Bool
has_process_group under.None = true
has_process_group (under.Debugger _) = false
has_process_group (under.Tracer _) = true

-- there is no wait for leaked handles
abbrev pub skips_leak_detection : Interceptor → Bool
skips_leak_detection under.None = false
skips_leak_detection (under.Debugger _) = true
skips_leak_detection (under.Tracer _) = true

-- the command is shown with the interceptor's words before it
abbrev pub shows_wrapper_command : Interceptor → Bool
shows_wrapper_command under.None = false
shows_wrapper_command (under.Debugger _) = true
shows_wrapper_command (under.Tracer _) = true

-- a stop of the run is sent on to the child
abbrev pub sends_sigtstp : Interceptor → Bool
sends_sigtstp under.None = true
sends_sigtstp (under.Debugger _) = false
sends_sigtstp (under.Tracer _) = true

-- the words that stand before each command
abbrev pub interceptor_words : Interceptor → List (List ℕ)
interceptor_words under.None = []
interceptor_words (under.Debugger words) = words
interceptor_words (under.Tracer words) = words
