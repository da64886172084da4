-- The name of the variable that names the runner of a target triple.
use Rattle.std.specs.Prelude.{ℕ, ◌==◌, List, ◌++◌, map, codes, if◌then◌else◌}
use Rattle.std.specs.Char.{to_ascii_uppercase}

-- a letter of a triple: in upper case, and `_` for `-`
abbrev pub letter_in_variable : ℕ → ℕ
letter_in_variable letter = if letter == 45 then 95 else to_ascii_uppercase letter

-- CARGO_TARGET_TRIPLE_RUNNER
abbrev pub runner_variable : List ℕ → List ℕ
runner_variable triple = codes "CARGO_TARGET_" ++ (map letter_in_variable triple ++ codes "_RUNNER")
