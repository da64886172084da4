-- What an environment holds.
use Rattle.std.specs.Prelude.{ℕ, List}

-- a variable's name and its value
abbrev pub Pair : Type 0
Pair = List ℕ × List ℕ
