-- The lines of an input that were read so far.
use Rattle.std.proofs.Common.{◌≡◌, ℕ, ◌+◌, ◌≤◌, ◌<◌, ◌==◌, List, [], ◌∷◌, ◌++◌, length, Option, Some, None}
use Rattle.std.proofs.Common.{if◌then◌else◌, Bool, true, false, option_and_then}
use Rattle.std.proofs.Common.{refl, ap, sym, ◌∙◌, arith, append_assoc, append-nil, length-append}
use Rattle.std.proofs.lemmas.Option.{none-some, same_Some}
use Rattle.run_events.specs.declared.turn.Turn.{Turn}
use Rattle.run_input.specs.Lines.{lines_of, at_front}
use Rattle.run_input.specs.declared.plan_line.RunnerKeys.{RunnerKeys}
use Rattle.run_events.specs.declared.plan.Plan.{Plan}
use Rattle.run_input.specs.declared.errors.InputError.{InputError}
use Rattle.run_input.specs.declared.errors.InputError.TheVariants.{Line, OutOfMemory}
use Rattle.run_input.specs.Refused.{IsRefusedInput, IsRefusedTurns}
use Rattle.run_input.specs.Input.{plan_line_of, turn_line_of, turns_said, IsFirstBadTurn, HasOnlyGoodLines}

-- the turn and the turns after it
first_and_rest : (first : Option Turn) (rest : Option (List Turn)) (turns : List Turn)
    → option_and_then (λ turn. option_and_then (λ others. Some (turn ∷ others)) rest) first ≡ Some turns
    → (turn : Turn) × (others : List Turn) × (first ≡ Some turn) × (rest ≡ Some others) × (turn ∷ others ≡ turns)
first_and_rest None rest turns e = absurd (none-some turns e)
first_and_rest (Some turn) None turns e = absurd (none-some turns e)
first_and_rest (Some turn) (Some others) turns e = (turn, others, refl, refl, same_Some _ _ e)

-- one line more says one turn more
turns_of-push : (lines : List (List ℕ)) (line : List ℕ) (turns : List Turn) (turn : Turn)
    → turns_said lines ≡ Some turns → turn_line_of line ≡ Some turn
    → turns_said (lines ++ line ∷ []) ≡ Some (turns ++ turn ∷ [])
turns_of-push [] line turns turn before last =
    let none : [] ≡ turns = same_Some [] turns before in rw last (ap (λ xs. Some (xs ++ turn ∷ [])) none)
turns_of-push (first ∷ lines) line turns turn before last =
    let (said, others, is_said, are_others, whole) =
    first_and_rest (turn_line_of first) (turns_said lines) turns before in
    let more = turns_of-push lines line others turn are_others last in
    rw (is_said, more) (ap (λ xs. Some (xs ++ turn ∷ [])) whole)

-- the lines before the rest say the turns, and the next line has this number
pub record ReadSoFar (bytes rest : List ℕ) (turns : List Turn) (number : ℕ) : Type 0 where
  pub read : List (List ℕ)
  pub split : lines_of bytes ≡ read ++ lines_of rest
  pub said : turns_said read ≡ Some turns
  pub counted : number ≡ length read + 2
  pub room : number + length rest ≤ length bytes + 2

-- nothing is read at the start
pub read_nothing : (bytes : List ℕ) → ReadSoFar bytes bytes [] 2
read_nothing bytes = record { read = []; split = refl; said = refl; counted = refl; room = omega arith }

-- one line more is read
pub read_more : (bytes rest after line : List ℕ) (turns : List Turn) (turn : Turn) (number : ℕ)
    → ReadSoFar bytes rest turns number → lines_of rest ≡ line ∷ lines_of after → length after < length rest
    → turn_line_of line ≡ Some turn → ReadSoFar bytes after (turns ++ turn ∷ []) (number + 1)
read_more bytes rest after line turns turn number so_far first shorter says = record {
  read = so_far.read ++ line ∷ [];
  split = so_far.split ∙ ap (λ lines. so_far.read ++ lines) first
      ∙ sym (append_assoc so_far.read (line ∷ []) (lines_of after));
  said = turns_of-push so_far.read line turns turn so_far.said says;
  counted = omega (arith, so_far.counted, length-append so_far.read (line ∷ []));
  room = omega (arith, so_far.room);
}

-- with no byte left the turns are those of all lines
pub read_all_lines : (bytes rest : List ℕ) (turns : List Turn) (number : ℕ) → ReadSoFar bytes rest turns number
    → rest ≡ []
    → turns_said (lines_of bytes) ≡ Some turns
read_all_lines bytes rest turns number so_far done =
    ap turns_said (so_far.split ∙ ap (λ left. so_far.read ++ lines_of left) done ∙ append-nil so_far.read) ∙ so_far.said

-- the next line is the first bad one where it is no turn line
pub read_bad : (bytes rest after line : List ℕ) (turns : List Turn) (number : ℕ)
    → ReadSoFar bytes rest turns number → lines_of rest ≡ line ∷ lines_of after → turn_line_of line ≡ None
    → IsFirstBadTurn (lines_of bytes) number
read_bad bytes rest after line turns number so_far first outside = record {
  before = so_far.read;
  bad = line;
  after = lines_of after;
  split = so_far.split ∙ ap (λ lines. so_far.read ++ lines) first;
  good = rw so_far.said refl;
  outside = outside;
  counted = so_far.counted;
}

-- no turn after one that is none
none_after : (first : Option Turn)
    → option_and_then (λ turn. option_and_then (λ others. Some (turn ∷ others)) None) first ≡ None
none_after None = refl
none_after (Some turn) = refl

-- lines with a bad one among them say no turns
turns_of-bad : (before : List (List ℕ)) (bad : List ℕ) (after : List (List ℕ))
    → turn_line_of bad ≡ None → turns_said (before ++ bad ∷ after) ≡ None
turns_of-bad [] bad after outside = rw outside refl
turns_of-bad (line ∷ before) bad after outside =
    let rest = turns_of-bad before bad after outside in rw rest (none_after (turn_line_of line))

-- an input that says something has no first bad line
pub has_no_bad_line : HasOnlyGoodLines
has_no_bad_line [] keys plan turns number says first = says
has_no_bad_line (line ∷ others) keys plan turns number says first =
    let bad : IsFirstBadTurn others number = rw says.0 at first in
    let none = ap turns_said bad.split ∙ turns_of-bad bad.before bad.bad bad.after bad.outside in
    none-some turns (sym none ∙ says.1)

-- what refuses the lines after a plan line refuses the input
pub refused_after : (lines others : List (List ℕ)) (line : List ℕ) (first : RunnerKeys × Plan) (e : InputError)
    → lines ≡ line ∷ others → plan_line_of line ≡ Some first → IsRefusedTurns others e → IsRefusedInput lines e
refused_after lines others line first (Line number) split says bad = rw (split, says) bad
refused_after lines others line first OutOfMemory split says bad = tt

-- bytes have a line
front_some : (byte : ℕ) (lines : List (List ℕ)) → 0 < length (at_front byte lines)
front_some byte [] = omega arith
front_some byte (line ∷ lines) = omega arith

pub lines_some : (bytes : List ℕ) → 0 < length bytes → 0 < length (lines_of bytes)
lines_some [] some = absurd (omega arith)
lines_some (byte ∷ bytes) some = by_end (byte == 10)
  where
    by_end : (b : Bool) → 0 < length (if b then [] ∷ lines_of bytes else at_front byte (lines_of bytes))
    by_end true = omega arith
    by_end false = front_some byte (lines_of bytes)
