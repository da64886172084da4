-- The fields of a turn nest nothing, and no two have one key.
use Rattle.std.proofs.Common.{◌≡◌, ℕ, ◌≤◌, List, [], ◌∷◌, Option, Some, false, codes, bytes_eq, map, refl, arith}
use Rattle.std.specs.List.{AllByRecursion, IsDistinct}
use Rattle.serde_json.specs.Data.{Data, depth}
use Rattle.run_commands.specs.declared.script_helpers.EnvInput.{EnvInput}
use Rattle.run_commands.specs.declared.script_helpers.EnvInput.TheVariants.{Bytes, OpenFailed, ReadFailed}
use Rattle.run_events.specs.declared.result.ChildExit.{ChildExit}
use Rattle.run_events.specs.declared.result.ChildExit.TheVariants as exits
use Rattle.run_events.specs.declared.turn.Turn.{Turn}
use Rattle.run_events.specs.declared.turn.Turn.TheVariants as turns
use Rattle.run_output.specs.Turns.{bare_fields, unit_fields, timer_fields, failed_fields, exit_fields, env_fields}
use Rattle.run_output.specs.Turns.{turn_fields}
use Rattle.run_text_laws.specs.Objects.{AreShallow}
use Rattle.run_turn_laws.proofs.PermutedLemmas.{key_of}

-- fields that nest nothing, of which no two have one key
pub record AreFlat (fields : List (List ℕ × Option Data)) : Type 0 where
  pub shallow : AreShallow 0 fields
  pub apart : IsDistinct bytes_eq (map key_of fields)

-- no fields
none_flat : AreFlat []
unfolding IsDistinct
none_flat = record { shallow = tt; apart = tt }

-- one field more, with a key of its own
more_flat : (key : List ℕ) (d : Data) (fields : List (List ℕ × Option Data)) → depth d ≤ 0
    → AllByRecursion (λ k. bytes_eq key k ≡ false) (map key_of fields) → AreFlat fields
    → AreFlat ((key, Some d) ∷ fields)
unfolding IsDistinct
more_flat key d fields low apart flat = record { shallow = (low, flat.shallow); apart = (apart, flat.apart) }

-- nothing nests in what nests nothing
low : 0 ≤ 0
low = omega arith

-- a name alone
bare_flat : (name : List ℕ) → AreFlat (bare_fields name)
bare_flat name = more_flat _ _ _ low tt none_flat

-- a name and a unit
unit_flat : (name : List ℕ) (unit : ℕ) → AreFlat (unit_fields name unit)
unit_flat name unit = more_flat _ _ _ low (refl, tt) (more_flat _ _ _ low tt none_flat)

-- a timer that is due
timer_flat : (name : List ℕ) → AreFlat (timer_fields name)
timer_flat name = more_flat _ _ _ low (refl, tt) (more_flat _ _ _ low tt none_flat)

-- a unit at which something failed
failed_flat : (name : List ℕ) (unit : ℕ) (error : List ℕ) → AreFlat (failed_fields name unit error)
failed_flat name unit error = more_flat _ _ _ low (refl, (refl, tt)) (unit_flat name unit)

-- an exit
exit_flat : (unit : ℕ) (exit : ChildExit) → AreFlat (exit_fields unit exit)
exit_flat unit (exits.Code code) = more_flat _ _ _ low (refl, (refl, tt)) (unit_flat (codes "exit") unit)
exit_flat unit (exits.Signal signal) = more_flat _ _ _ low (refl, (refl, tt)) (unit_flat (codes "exit") unit)

-- what became of an environment file
env_flat : (unit : ℕ) (input : EnvInput) → AreFlat (env_fields unit input)
env_flat unit (Bytes bytes) = more_flat _ _ _ low (refl, (refl, tt)) (unit_flat (codes "env") unit)
env_flat unit OpenFailed = more_flat _ _ _ low (refl, (refl, tt)) (unit_flat (codes "env") unit)
env_flat unit ReadFailed = more_flat _ _ _ low (refl, (refl, tt)) (unit_flat (codes "env") unit)

-- the fields of each turn
pub turn_flat : (t : Turn) → AreFlat (turn_fields t)
turn_flat turns.Begin = bare_flat (codes "begin")
turn_flat turns.Admit = bare_flat (codes "admit")
turn_flat turns.Deliver = bare_flat (codes "deliver")
turn_flat (turns.Started unit pid) = more_flat _ _ _ low (refl, (refl, tt)) (unit_flat (codes "started") unit)
turn_flat (turns.StartFailed unit error) = failed_flat (codes "start-failed") unit error
turn_flat (turns.Exit unit exit) = exit_flat unit exit
turn_flat (turns.WaitFailed unit error) = failed_flat (codes "wait-failed") unit error
turn_flat (turns.Piece unit stream bytes) = more_flat _ _ _ low (refl, (refl, (refl, tt)))
    (more_flat _ _ _ low (refl, (refl, tt)) (unit_flat (codes "piece") unit))
turn_flat (turns.StreamEnd unit stream) =
    more_flat _ _ _ low (refl, (refl, tt)) (unit_flat (codes "stream-end") unit)
turn_flat (turns.ReadError unit stream error) =
    more_flat _ _ _ low (refl, (refl, (refl, tt))) (failed_flat (codes "read-error") unit error)
turn_flat (turns.Env unit input) = env_flat unit input
turn_flat (turns.Decide unit word) =
    more_flat _ _ _ low (refl, (refl, tt)) (more_flat _ _ _ low (refl, tt) (more_flat _ _ _ low tt none_flat))
turn_flat (turns.UnitDue unit) = unit_flat (codes "due") unit
turn_flat turns.GlobalDue = timer_flat (codes "global")
turn_flat turns.StopWaitDue = timer_flat (codes "stop")
turn_flat turns.InfoDue = timer_flat (codes "info")
turn_flat turns.Answer = bare_flat (codes "answer")
turn_flat (turns.Take unit) = unit_flat (codes "take") unit
turn_flat (turns.Clock ns) = more_flat _ _ _ low (refl, tt) (bare_flat (codes "clock"))
turn_flat (turns.Signal signal) = more_flat _ _ _ low (refl, tt) (bare_flat (codes "signal"))
turn_flat (turns.Key key) =
    more_flat _ _ _ low (refl, (refl, (refl, tt))) (more_flat _ _ _ low (refl, (refl, tt))
    (more_flat _ _ _ low (refl, tt) (bare_flat (codes "key"))))
turn_flat turns.Tick = bare_flat (codes "tick")
turn_flat turns.ReportCancel = bare_flat (codes "report-cancel")
turn_flat turns.End = bare_flat (codes "end")
