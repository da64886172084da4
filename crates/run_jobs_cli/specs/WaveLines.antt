-- What the lines after the first say: turns, and where a wave's end.
use Rattle.std.specs.Prelude.{ℕ, ◌≡◌, ◌+◌, List, [], ◌∷◌, ◌++◌, length, Option, Some, None, IsSome, MatchOption}
use Rattle.std.specs.Prelude.{option_map}
use Rattle.std.specs.Prelude.{option_and_then, nat_eq, codes}
use Rattle.std.specs.Option.{option_or}
use Rattle.serde_json.specs.Data.{Data}
use Rattle.serde_json.specs.Find.{as_str, get}
use Rattle.run_events.specs.declared.turn.Turn.{Turn}
use Rattle.run_input.specs.Fields.{◌>>=◌, is_object_of, when}
use Rattle.run_input.specs.Input.{turn_line_of}
use Rattle.run_input.specs.ValueOf.{json_value}
use Rattle.run_jobs.specs.Jobs.{Batch}
use Rattle.run_jobs_cli.specs.JobsLine.{jobs_line_of}
use lib.Pointwise.{pointwise}

-- that the turns of a wave end: the one key `wave` with the text `end`
unfoldable pub wave_end_of : Data → Option (Unit {0})
wave_end_of d = do
  _ ← when (is_object_of (codes "wave" ∷ []) d)
  word ← option_and_then as_str (get (codes "wave") d)
  when (pointwise nat_eq word (codes "end"))

-- what a line after the first says: a turn, or that the turns of a wave end
abbrev pub wave_line_of : List ℕ → Option (Option Turn)
wave_line_of line =
    option_or (option_map Some (turn_line_of line))
    (option_map (λ _. None) (option_and_then wave_end_of (json_value line)))

-- what lines say, where each says something
abbrev pub wave_lines_of : List (List ℕ) → Option (List (Option Turn))
wave_lines_of [] = Some []
wave_lines_of (line ∷ lines) = do
  said ← wave_line_of line
  more ← wave_lines_of lines
  Some (said ∷ more)

-- a turn at the front of the first list
abbrev pub put_first : Turn → List (List Turn) → List (List Turn)
put_first turn [] = (turn ∷ []) ∷ []
put_first turn (list ∷ lists) = (turn ∷ list) ∷ lists

-- the lists of turns that lines say: each ends where that is said, which the last one may lack
abbrev pub wave_lists : List (Option Turn) → List (List Turn)
wave_lists [] = []
wave_lists (None ∷ said) = [] ∷ wave_lists said
wave_lists (Some turn ∷ said) = put_first turn (wave_lists said)

-- lines say these lists of turns
abbrev pub SaysLists : List (List ℕ) → List (List Turn) → Type 0
SaysLists others lists =
    (said : List (Option Turn)) × (wave_lines_of others ≡ Some said) × (lists ≡ wave_lists said)

-- the first line says the jobs, and the others say the lists of turns
abbrev pub IsJobsInput : List (List ℕ) → Batch → List (List Turn) → Type 0
IsJobsInput [] batch lists = ⊥
IsJobsInput (first ∷ others) batch lists = (jobs_line_of first ≡ Some batch) × SaysLists others lists

-- of the lines after the first, the one with this number says nothing, and each before it does
pub record IsFirstBadAfter (others : List (List ℕ)) (number : ℕ) : Type 0 where
  pub before : List (List ℕ)
  pub bad : List ℕ
  pub after : List (List ℕ)
  pub split : others ≡ before ++ bad ∷ after
  pub good : IsSome (wave_lines_of before)
  pub outside : wave_line_of bad ≡ None
  pub counted : number ≡ length before + 2

-- the line of this number, from 1, says nothing, and each before it does: an input with no line has the bad line 1
abbrev pub IsFirstBadJobs : List (List ℕ) → ℕ → Type 0
IsFirstBadJobs [] number = number ≡ 1
IsFirstBadJobs (first ∷ others) number =
    MatchOption (jobs_line_of first) (number ≡ 1) (λ _. IsFirstBadAfter others number)
