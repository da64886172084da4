-- How often a program was stopped.
use Rattle.std.specs.Prelude.{ℕ, ◌≡◌, ◌+◌, List, ◌++◌, length}
use Rattle.run_shared.specs.declared.orders.Halt.{Halt}

-- a halter stopped the program once for each halt that was added meanwhile
pub record Halts {W : Type 0} (has_halted : W → ℕ → Type 0) (w v : W) (old new : List Halt) : Type 0 where
  pub mine : List Halt
  pub added : new ≡ old ++ mine
  pub halted : (n : ℕ) → has_halted w n → has_halted v (n + length mine)

-- a halter stopped the program once for each of these meanwhile
abbrev pub HaltsFor : {W : Type 0} → (W → ℕ → Type 0) → W → W → List Halt → Type 0
HaltsFor has_halted w v halts = (n : ℕ) → has_halted w n → has_halted v (n + length halts)
