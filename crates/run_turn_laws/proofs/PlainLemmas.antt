-- The object of a turn is plain, and nests no deeper than its own fields.
use Rattle.std.proofs.Common.{◌≡◌, ℕ, ◌<◌, ◌^◌, ℤ, pos, negsuc, true, List, codes, refl, arith, IsUtf8, FitsSigned, w32}
use Rattle.json.proofs.Printed.Utf8.{are_ascii, IsUtf8-are_ascii}
use Rattle.serde_json.specs.Data.{depth}
use Rattle.serde_json.specs.Find.{of_integer}
use Rattle.run_commands.specs.declared.script_helpers.EnvInput.{EnvInput}
use Rattle.run_commands.specs.declared.script_helpers.EnvInput.TheVariants.{Bytes, OpenFailed, ReadFailed}
use Rattle.run_events.specs.declared.result.ChildExit.{ChildExit}
use Rattle.run_events.specs.declared.result.ChildExit.TheVariants as exits
use Rattle.run_events.specs.declared.turn.Turn.{Turn}
use Rattle.run_events.specs.declared.turn.Turn.TheVariants as turns
use Rattle.run_output.specs.Turns.{bare_fields, unit_fields, timer_fields, failed_fields, exit_fields, env_fields}
use Rattle.run_output.specs.Turns.{turn_fields, turn_data}
use Rattle.run_text_laws.specs.Objects.{ArePlainFields}
use Rattle.run_text_laws.specs.Plain.{IsWholeNumber}
use Rattle.run_turn_laws.specs.TurnLines.{IsU32, IsExit, IsEnvInput, IsTurn}
use Rattle.run_turn_laws.proofs.FieldLemmas.{stream_utf8, signal_utf8, code_utf8, hex_utf8}

-- the UTF-8 of a word
abbrev said : (word : List ℕ) → are_ascii word ≡ true → IsUtf8 word
said word e = IsUtf8-are_ascii word e

-- a name alone is plain
bare_plain : (name : List ℕ) → IsUtf8 name → ArePlainFields (bare_fields name)
bare_plain name h = (said (codes "turn") refl, h, tt)

-- a name and a unit are plain
unit_plain : (name : List ℕ) (unit : ℕ) → IsUtf8 name → IsU32 unit → ArePlainFields (unit_fields name unit)
unit_plain name unit h fits = (said (codes "turn") refl, h, (said (codes "unit") refl, omega (arith, fits), tt))

-- a timer that is due is plain
timer_plain : (name : List ℕ) → IsUtf8 name → ArePlainFields (timer_fields name)
timer_plain name h = (said (codes "timer") refl, h, (said (codes "turn") refl, said (codes "due") refl, tt))

-- a unit at which something failed is plain
failed_plain : (name : List ℕ) (unit : ℕ) (error : List ℕ) → IsUtf8 name → IsU32 unit → IsUtf8 error
    → ArePlainFields (failed_fields name unit error)
failed_plain name unit error h fits text = (said (codes "text") refl, text, unit_plain name unit h fits)

-- a number with a sign that fits 32 bits fits 64
signed_whole : (z : ℤ) → FitsSigned w32 z → IsWholeNumber (of_integer z)
signed_whole (pos n) h = let low : n < 2 ^ 31 = h.sfits in omega (arith, low)
signed_whole (negsuc n) h = let low : n < 2 ^ 31 = h.sfits in omega (arith, low)

-- an exit is plain
exit_plain : (unit : ℕ) (exit : ChildExit) → IsU32 unit → IsExit exit → ArePlainFields (exit_fields unit exit)
exit_plain unit (exits.Code code) fits h =
    (said (codes "code") refl, signed_whole code h, unit_plain (codes "exit") unit (said (codes "exit") refl) fits)
exit_plain unit (exits.Signal signal) fits h =
    (said (codes "signal") refl, signed_whole signal h, unit_plain (codes "exit") unit (said (codes "exit") refl) fits)

-- what became of an environment file is plain
env_plain : (unit : ℕ) (input : EnvInput) → IsU32 unit → IsEnvInput input → ArePlainFields (env_fields unit input)
env_plain unit (Bytes bytes) fits h =
    (said (codes "hex") refl, hex_utf8 bytes, unit_plain (codes "env") unit (said (codes "env") refl) fits)
env_plain unit OpenFailed fits h =
    (said (codes "failed") refl, said (codes "open") refl, unit_plain (codes "env") unit (said (codes "env") refl) fits)
env_plain unit ReadFailed fits h =
    (said (codes "failed") refl, said (codes "read") refl, unit_plain (codes "env") unit (said (codes "env") refl) fits)

-- the fields of each turn whose parts fit their types are plain
pub turn_plain : (t : Turn) → IsTurn t → ArePlainFields (turn_fields t)
turn_plain turns.Begin h = bare_plain (codes "begin") (said (codes "begin") refl)
turn_plain turns.Admit h = bare_plain (codes "admit") (said (codes "admit") refl)
turn_plain turns.Deliver h = bare_plain (codes "deliver") (said (codes "deliver") refl)
turn_plain (turns.Started unit pid) h =
    (said (codes "pid") refl, omega (arith, h.1), unit_plain (codes "started") unit (said (codes "started") refl) h.0)
turn_plain (turns.StartFailed unit error) h =
    failed_plain (codes "start-failed") unit error (said (codes "start-failed") refl) h.0 h.1
turn_plain (turns.Exit unit exit) h = exit_plain unit exit h.0 h.1
turn_plain (turns.WaitFailed unit error) h =
    failed_plain (codes "wait-failed") unit error (said (codes "wait-failed") refl) h.0 h.1
turn_plain (turns.Piece unit stream bytes) h = (
  said (codes "hex") refl,
  hex_utf8 bytes,
  (said (codes "stream") refl, stream_utf8 stream, unit_plain (codes "piece") unit (said (codes "piece") refl) h.0),
)
turn_plain (turns.StreamEnd unit stream) h = (
  said (codes "stream") refl,
  stream_utf8 stream,
  unit_plain (codes "stream-end") unit (said (codes "stream-end") refl) h,
)
turn_plain (turns.ReadError unit stream error) h = (
  said (codes "stream") refl,
  stream_utf8 stream,
  failed_plain (codes "read-error") unit error (said (codes "read-error") refl) h.0 h.1,
)
turn_plain (turns.Env unit input) h = env_plain unit input h.0 h.1
turn_plain (turns.Decide unit word) h = (
  said (codes "turn") refl,
  said (codes "decide") refl,
  (said (codes "unit") refl, omega (arith, h.0), (said (codes "word") refl, omega (arith, h.1), tt)),
)
turn_plain (turns.UnitDue unit) h = unit_plain (codes "due") unit (said (codes "due") refl) h
turn_plain turns.GlobalDue h = timer_plain (codes "global") (said (codes "global") refl)
turn_plain turns.StopWaitDue h = timer_plain (codes "stop") (said (codes "stop") refl)
turn_plain turns.InfoDue h = timer_plain (codes "info") (said (codes "info") refl)
turn_plain turns.Answer h = bare_plain (codes "answer") (said (codes "answer") refl)
turn_plain (turns.Take unit) h = unit_plain (codes "take") unit (said (codes "take") refl) h
turn_plain (turns.Clock ns) h =
    (said (codes "ns") refl, h, bare_plain (codes "clock") (said (codes "clock") refl))
turn_plain (turns.Signal signal) h =
    (said (codes "name") refl, signal_utf8 signal, bare_plain (codes "signal") (said (codes "signal") refl))
turn_plain (turns.Key key) h = (
  said (codes "code") refl,
  code_utf8 key.code h,
  (
    said (codes "modified") refl,
    tt,
    (
      said (codes "press") refl,
      tt,
      bare_plain (codes "key") (said (codes "key") refl),
    ),
  ),
)
turn_plain turns.Tick h = bare_plain (codes "tick") (said (codes "tick") refl)
turn_plain turns.ReportCancel h = bare_plain (codes "report-cancel") (said (codes "report-cancel") refl)
turn_plain turns.End h = bare_plain (codes "end") (said (codes "end") refl)

-- an exit nests nothing
exit_depth : (unit : ℕ) (exit : ChildExit) → depth (turn_data (turns.Exit unit exit)) ≡ 1
exit_depth unit (exits.Code code) = refl
exit_depth unit (exits.Signal signal) = refl

-- what became of an environment file nests nothing
env_depth : (unit : ℕ) (input : EnvInput) → depth (turn_data (turns.Env unit input)) ≡ 1
env_depth unit (Bytes bytes) = refl
env_depth unit OpenFailed = refl
env_depth unit ReadFailed = refl

-- the object of a turn nests nothing
pub turn_depth : (t : Turn) → depth (turn_data t) ≡ 1
turn_depth turns.Begin = refl
turn_depth turns.Admit = refl
turn_depth turns.Deliver = refl
turn_depth (turns.Started unit pid) = refl
turn_depth (turns.StartFailed unit error) = refl
turn_depth (turns.Exit unit exit) = exit_depth unit exit
turn_depth (turns.WaitFailed unit error) = refl
turn_depth (turns.Piece unit stream bytes) = refl
turn_depth (turns.StreamEnd unit stream) = refl
turn_depth (turns.ReadError unit stream error) = refl
turn_depth (turns.Env unit input) = env_depth unit input
turn_depth (turns.Decide unit word) = refl
turn_depth (turns.UnitDue unit) = refl
turn_depth turns.GlobalDue = refl
turn_depth turns.StopWaitDue = refl
turn_depth turns.InfoDue = refl
turn_depth turns.Answer = refl
turn_depth (turns.Take unit) = refl
turn_depth (turns.Clock ns) = refl
turn_depth (turns.Signal signal) = refl
turn_depth (turns.Key key) = refl
turn_depth turns.Tick = refl
turn_depth turns.ReportCancel = refl
turn_depth turns.End = refl
