-- Lists of turns in the making.
use Rattle.std.specs.Prelude.{List, [], ◌∷◌, ◌++◌, Option, Some, None}
use Rattle.run_events.specs.declared.turn.Turn.{Turn}
use Rattle.run_jobs_cli.specs.declared.wave_lines.Lists.{Lists}

-- the lists with what one more line says
abbrev pub with_line : Lists → Option Turn → Lists
with_line lists (Some turn) = record lists { current = lists.current ++ turn ∷ [] }
with_line lists None = record { whole = lists.whole ++ lists.current ∷ []; current = [] }

-- all lists, the last one too where it has a turn
abbrev pub lists_ended_with : List (List Turn) → List Turn → List (List Turn)
lists_ended_with whole [] = whole
lists_ended_with whole (turn ∷ turns) = whole ++ (turn ∷ turns) ∷ []

abbrev pub ended_lists : Lists → List (List Turn)
ended_lists lists = lists_ended_with lists.whole lists.current
