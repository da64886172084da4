-- A generated run always ends.
use Rattle.std.specs.Prelude.{ℕ, ◌≤◌}
use Rattle.run_generate.specs.Generated.{StopsShort}
use Rattle.run_generate.specs.Plan.{generated_settings}

-- a generated run of a plan of so many tests never stops short
abbrev pub RunsEnd : Type 0
RunsEnd = (n : ℕ) → n ≤ 20000 → StopsShort (generated_settings n) → ⊥
