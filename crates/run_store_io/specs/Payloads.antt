-- The turn of a payload.
use Rattle.std.specs.Prelude.{ℕ, ◌≡◌, List, Option, Some, None, false}
use Rattle.run_events.specs.declared.turn.Turn.{Turn}
use Rattle.run_input.specs.Input.{turn_line_of}
use Rattle.run_output.specs.Turns.{turn_text}
use Rattle.run_store.specs.Stores.{is_turn_payload}

-- a payload is the line of this turn; or it is no turn's
abbrev pub IsTurnOf : List ℕ → Option Turn → Type 0
IsTurnOf payload (Some t) = (turn_line_of payload ≡ Some t) × (turn_text t ≡ payload)
IsTurnOf payload None = is_turn_payload payload ≡ false
