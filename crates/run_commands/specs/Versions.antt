-- The versions that a child is told, without where they lie in memory.
use Rattle.std.specs.Prelude.{ℕ, List, Option}

-- a version's three numbers, its pre-release and its build metadata
abbrev pub Parts : Type 0
Parts = ℕ × ℕ × ℕ × List ℕ × List ℕ

-- the version that runs, and those that the project asks for
pub record Versions : Type 0 where
  pub current : Parts
  pub required : Option Parts
  pub recommended : Option Parts
