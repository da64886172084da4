-- By what is known what happened around a run.
use Rattle.std.specs.Prelude.{ℕ, List}
use Rattle.run_keep.specs.declared.keeper.Heard.{Heard}
use Rattle.run_keep.specs.declared.outside.Came.{Came}

-- the relations of the traits: what a keeper was asked, was told and has said, the steps that a ticker told, what came
-- from outside, and how often the program was stopped
pub record Relations (W T O S : Type 0) : Type 1 where
  pub has_heard : W → List Heard → Type 0
  pub has_told : T → List ℕ → Type 0
  pub has_come : O → List Came → Type 0
  pub has_halted : S → ℕ → Type 0

abbrev pub relations : {W T O S : Type 0} → (W → List Heard → Type 0) → (T → List ℕ → Type 0)
    → (O → List Came → Type 0) → (S → ℕ → Type 0) → Relations W T O S
relations heard told come halted =
    record { has_heard = heard; has_told = told; has_come = come; has_halted = halted }
