-- The pieces of a setup script.
use Rattle.std.specs.Prelude.{ℕ, Bool, true, false, not, ◌+◌, if◌then◌else◌, List, [], ◌∷◌, ◌++◌, codes}
use Rattle.std.specs.Prelude.{decimal}
use Rattle.std.specs.List.{flat_map}
use Rattle.run_commands.specs.declared.errors.SetupScriptOutputError.{SetupScriptOutputError}
use Rattle.run_commands.specs.declared.errors.SetupScriptOutputError.TheVariants as env_errors
use Rattle.run_events.specs.declared.message.ScriptFinish.{ScriptFinish}
use Rattle.run_events.specs.declared.message.ScriptSlow.{ScriptSlow}
use Rattle.run_events.specs.declared.message.ScriptStart.{ScriptStart}
use Rattle.run_events.specs.declared.message.ScriptUnit.{ScriptUnit}
use Rattle.run_events.specs.declared.result.ScriptEnv.{ScriptEnv}
use Rattle.run_events.specs.declared.result.ScriptEnv.TheVariants.{Unread, Variables, Fault}
use Rattle.run_events.specs.declared.result.SetupScriptExecuteStatus.{SetupScriptExecuteStatus}
use Rattle.run_events.specs.Result.{is_success}
use Rattle.run_progress.specs.Texts.{right}
use Rattle.run_report.specs.declared.style.Style.{Style}
use Rattle.run_report.specs.declared.style.Style.TheVariants as styles
use Rattle.run_report.specs.Blocks.{Block}
use Rattle.run_report.specs.Finished.{piece_if}
use Rattle.run_report.specs.Lines.{ScriptLine}
use Rattle.run_report.specs.Pieces.{Piece, note, output, script}
use Rattle.run_report.specs.Style.{Span}
use Rattle.run_report.specs.Texts.{over_text, took_text}
use Rattle.run_report.specs.Words.{short_word}

-- which script it is, of how many
abbrev pub which_text : ScriptUnit → List ℕ
which_text unit = codes "[" ++ (right 9 (decimal (unit.index + 1) ++ (codes "/" ++ decimal unit.total)) ++ codes "] ")

-- the words of a command, behind a colon
abbrev pub command_said : List (List ℕ) → List ℕ
command_said command = codes ":" ++ flat_map (λ word. codes " " ++ word) command

-- a script that starts
abbrev pub script_start_line : ScriptStart → ScriptLine
script_start_line start = record {
  style = styles.Green;
  word = codes "SETUP";
  middle = which_text start.script;
  script = start.script;
  said = command_said start.command;
}

-- the style and the word of a slow script, which is ended or not
abbrev pub script_slow_style : Bool → Style
script_slow_style terminates = if terminates then styles.Red else styles.Yellow

abbrev pub script_slow_word : Bool → List ℕ
script_slow_word terminates = if terminates then codes "TERMINATING" else codes "SETUP SLOW"

-- a slow script
abbrev pub script_slow_line : ScriptSlow → ScriptLine
script_slow_line slow = record {
  style = script_slow_style slow.terminates;
  word = script_slow_word slow.terminates;
  middle = over_text slow.elapsed_slow;
  script = slow.script;
  said = [];
}

-- the style of a finished script
abbrev pub script_style : SetupScriptExecuteStatus → Style
script_style status = if is_success status.result then styles.Green else styles.Red

-- its line
abbrev pub script_end_line : ScriptFinish → ScriptLine
script_end_line finish = record {
  style = script_style finish.status;
  word = codes "SETUP " ++ short_word finish.status.result;
  middle = took_text finish.status.time;
  script = finish.script;
  said = [];
}

-- its output
abbrev pub script_block : SetupScriptExecuteStatus → Block
script_block status = record { style = styles.Red; passed = false; child = status.output }

-- what is said of a line of an environment file
abbrev pub env_line_said : ℕ → List ℕ → List ℕ
env_line_said line fault = codes "line " ++ (decimal line ++ (codes " of the environment file " ++ fault))

-- what is said of the fault of its environment file
unfoldable pub env_fault_said : SetupScriptOutputError → List ℕ
env_fault_said env_errors.EnvFileOpen = codes "the environment file can't be opened"
env_fault_said (env_errors.EnvFileRead line) = codes "the environment file can't be read"
env_fault_said env_errors.EnvFileTooLong = codes "the environment file is too long"
env_fault_said env_errors.OutOfMemory = codes "memory was wanting for the environment file"
env_fault_said (env_errors.EnvFileParse line) = env_line_said line (codes "has no =")
env_fault_said (env_errors.EnvFileInvalidKey line) = env_line_said line (codes "has a bad name")

abbrev pub env_spans : SetupScriptOutputError → List Span
env_spans fault = (styles.Plain, codes "  error: ") ∷ (styles.Plain, []) ∷ (styles.Plain, env_fault_said fault) ∷ []

-- that fault, if there is one
abbrev pub env_pieces : ScriptEnv → List Piece
env_pieces Unread = []
env_pieces (Variables map) = []
env_pieces (Fault fault) = piece_if true (note (env_spans fault))

-- a finished script: its line, the fault of its environment file, and its output where it failed
abbrev pub script_end_pieces : ScriptFinish → List Piece
script_end_pieces finish = (piece_if true (script (script_end_line finish)) ++ env_pieces finish.status.env)
    ++ piece_if (not (is_success finish.status.result)) (output (script_block finish.status))
