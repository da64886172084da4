-- The lines after the first up to the one that event lines follow, so far as they were read.
use Rattle.std.proofs.Common.{◌≡◌, ℕ, ◌+◌, ◌≤◌, ◌<◌, List, [], ◌∷◌, ◌++◌, length, Some, None, Option}
use Rattle.std.proofs.Common.{option_map, arith}
use Rattle.std.specs.Option.{option_or}
use Rattle.std.proofs.lemmas.Option.{none-some, same_Some}
use Rattle.run_events.specs.declared.turn.Turn.{Turn}
use Rattle.run_input.specs.Input.{turn_line_of}
use Rattle.run_input.specs.Lines.{lines_of}
use Rattle.run_input.proofs.InputLemmas.{ReadSoFar, read_more}
use Rattle.run_cli.proofs.GivenLemmas.{turns_length}
use Rattle.run_audit_cli.specs.AuditLines.{turn_or_mark_of}

-- a line that says a turn is a turn line
turn_or : (said : Option Turn) (marked : Option (Unit {0})) (turn : Turn)
    → option_or (option_map Some said) (option_map (λ _. None) marked) ≡ Some (Some turn) → said ≡ Some turn
turn_or None None turn e = absurd (none-some (Some turn) e)
turn_or None (Some u) turn e = absurd (none-some turn (same_Some None (Some turn) e))
turn_or (Some said) marked turn e = same_Some (Some said) (Some turn) e

pub next_turn : (bytes rest after line : List ℕ) (turns : List Turn) (turn : Turn) (number : ℕ)
    → ReadSoFar bytes rest turns number → lines_of rest ≡ line ∷ lines_of after → length after < length rest
    → turn_or_mark_of line ≡ Some (Some turn) → ReadSoFar bytes after (turns ++ turn ∷ []) (number + 1)
next_turn bytes rest after line turns turn number so_far first shorter says =
    read_more bytes rest after line turns turn number so_far first shorter
    (turn_or (turn_line_of line) _ turn says)

-- no more turns than bytes
pub turns_few : (bytes rest : List ℕ) (turns : List Turn) (number : ℕ) → ReadSoFar bytes rest turns number
    → length turns ≤ length bytes
turns_few bytes rest turns number so_far =
    omega (arith, turns_length so_far.read turns so_far.said, so_far.counted, so_far.room)
