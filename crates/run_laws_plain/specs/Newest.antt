-- The newest attempt of a story.
use Rattle.std.specs.Prelude.{ℕ, ◌+◌, ◌==◌, List, [], ◌∷◌, Bool, if◌then◌else◌, Option, Some, None}
use Rattle.run_model.specs.Story.{OwnTurn, Attempt, cut, begins_attempt, decides, pieces}

-- how many of a story's newest turns are of its newest attempt; 0 where it has none
abbrev pub with_one : ℕ → ℕ
with_one n = if n == 0 then 0 else n + 1

abbrev pub newest : List OwnTurn → ℕ
newest [] = 0
newest (t ∷ before) = if begins_attempt t.turn then 1 else with_one (newest before)

-- and how many of these are from its decide on
abbrev pub after_decide : Bool → ℕ → ℕ
after_decide is n = if n == 0 then (if is then 1 else 0) else n + 1

abbrev pub decided_count : List OwnTurn → ℕ
decided_count [] = 0
decided_count (t ∷ before) = if begins_attempt t.turn then 0 else after_decide (decides t.turn) (decided_count before)

-- the newest attempt of a story: its turns until it is decided_count on, those from then on, and the story before it
pub record NewestAttempt : Type 0 where
  pub piece : List OwnTurn
  pub after : List OwnTurn
  pub before : List OwnTurn

-- the attempts of a story, by that
abbrev pub attempts_with : Option NewestAttempt → List Attempt
attempts_with None = []
attempts_with (Some newest) = cut newest.piece newest.after ∷ pieces newest.before
