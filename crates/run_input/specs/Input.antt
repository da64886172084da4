-- What the lines of an input say.
use Rattle.std.specs.Prelude.{ℕ, ◌≡◌, ◌<◌, ◌+◌, List, [], ◌∷◌, ◌++◌, length, Option, Some, None, option_and_then}
use Rattle.std.specs.Prelude.{IsSome}
use Rattle.std.specs.Prelude.{MatchOption}
use Rattle.run_input.specs.declared.plan_line.RunnerKeys.{RunnerKeys}
use Rattle.run_events.specs.declared.plan.Plan.{Plan}
use Rattle.run_events.specs.declared.turn.Turn.{Turn}
use Rattle.run_input.specs.Fields.{◌>>=◌}
use Rattle.run_input.specs.ValueOf.{json_value}
use Rattle.run_input.specs.PlanLine.{plan_of}
use Rattle.run_input.specs.TurnLine.{turn_of}

-- what a line says as a plan line
abbrev pub plan_line_of : List ℕ → Option (RunnerKeys × Plan)
plan_line_of line = option_and_then plan_of (json_value line)

-- what a line says as a turn line
abbrev pub turn_line_of : List ℕ → Option Turn
turn_line_of line = option_and_then turn_of (json_value line)

-- what lines say as turn lines, where each is one
abbrev pub turns_said : List (List ℕ) → Option (List Turn)
turns_said [] = Some []
turns_said (line ∷ lines) = do
  turn ← turn_line_of line
  turns ← turns_said lines
  Some (turn ∷ turns)

-- the first line says the plan, and the others say the turns
abbrev pub IsInput : List (List ℕ) → RunnerKeys → Plan → List Turn → Type 0
IsInput [] keys plan turns = ⊥
IsInput (first ∷ others) keys plan turns = (plan_line_of first ≡ Some (keys, plan))
    × (turns_said others ≡ Some turns)

-- of the lines after the first, the one with this number is no turn line, and each before it is one
pub record IsFirstBadTurn (others : List (List ℕ)) (number : ℕ) : Type 0 where
  pub before : List (List ℕ)
  pub bad : List ℕ
  pub after : List (List ℕ)
  pub split : others ≡ before ++ bad ∷ after
  pub good : IsSome (turns_said before)
  pub outside : turn_line_of bad ≡ None
  pub counted : number ≡ length before + 2

-- the line of this number, from 1, is not in its table, and each before it is: an input with no line
-- has the bad line 1
abbrev pub IsFirstBad : List (List ℕ) → ℕ → Type 0
IsFirstBad [] number = number ≡ 1
IsFirstBad (first ∷ others) number =
    MatchOption (plan_line_of first) (number ≡ 1) (λ _. IsFirstBadTurn others number)

-- the same of lines of which only the first is to be there: it is no plan line, or there is a second
abbrev pub IsFirstBadAlone : List (List ℕ) → ℕ → Type 0
IsFirstBadAlone [] number = number ≡ 1
IsFirstBadAlone (first ∷ others) number =
    MatchOption (plan_line_of first) (number ≡ 1) (λ _. (0 < length others) × (number ≡ 2))

-- an input that says something has no first bad line
abbrev pub HasOnlyGoodLines : Type 0
HasOnlyGoodLines = (lines : List (List ℕ)) (keys : RunnerKeys) (plan : Plan) (turns : List Turn) (number : ℕ)
    → IsInput lines keys plan turns → ¬ IsFirstBad lines number
