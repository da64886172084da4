-- The printed line of a turn has its fields in their order.
use Rattle.std.proofs.Common.{◌≡◌, ◌∙◌, ℕ, List, refl}
use Rattle.std.proofs.lemmas.List.Sorted.{IsPermutation-refl}
use Rattle.run_commands.specs.declared.script_helpers.EnvInput.{EnvInput}
use Rattle.run_commands.specs.declared.script_helpers.EnvInput.TheVariants.{Bytes, OpenFailed, ReadFailed}
use Rattle.run_events.specs.declared.result.ChildExit.{ChildExit}
use Rattle.run_events.specs.declared.result.ChildExit.TheVariants as exits
use Rattle.run_events.specs.declared.turn.Turn.{Turn}
use Rattle.run_events.specs.declared.turn.Turn.TheVariants as turns
use Rattle.run_output.specs.Turns.{turn_text, turn_fields, exit_fields, env_fields}
use Rattle.run_turn_laws.specs.Order.{IsTurnText, text_in_order}

-- an exit
exit_in_order : (unit : ℕ) (exit : ChildExit) → text_in_order (exit_fields unit exit) ≡ turn_text (turns.Exit unit exit)
exit_in_order unit (exits.Code code) = refl
exit_in_order unit (exits.Signal signal) = refl

-- an environment file
env_in_order : (unit : ℕ) (input : EnvInput) → text_in_order (env_fields unit input) ≡ turn_text (turns.Env unit input)
env_in_order unit (Bytes bytes) = refl
env_in_order unit OpenFailed = refl
env_in_order unit ReadFailed = refl

-- each turn
in_order : (t : Turn) → text_in_order (turn_fields t) ≡ turn_text t
in_order turns.Begin = refl
in_order turns.Admit = refl
in_order turns.Deliver = refl
in_order (turns.Started unit pid) = refl
in_order (turns.StartFailed unit error) = refl
in_order (turns.Exit unit exit) = exit_in_order unit exit
in_order (turns.WaitFailed unit error) = refl
in_order (turns.Piece unit stream bytes) = refl
in_order (turns.StreamEnd unit stream) = refl
in_order (turns.ReadError unit stream error) = refl
in_order (turns.Env unit input) = env_in_order unit input
in_order (turns.Decide unit word) = refl
in_order (turns.UnitDue unit) = refl
in_order turns.GlobalDue = refl
in_order turns.StopWaitDue = refl
in_order turns.InfoDue = refl
in_order turns.Answer = refl
in_order (turns.Take unit) = refl
in_order (turns.Clock ns) = refl
in_order (turns.Signal signal) = refl
in_order (turns.Key key) = refl
in_order turns.Tick = refl
in_order turns.ReportCancel = refl
in_order turns.End = refl

-- so it is a line of the turn
pub is_printed : (t : Turn) (line : List ℕ) → turn_text t ≡ line → IsTurnText t line
is_printed t line is = record {
  fields = turn_fields t;
  permuted = IsPermutation-refl (turn_fields t);
  is = in_order t ∙ is;
}
