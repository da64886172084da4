use Rattle.std.proofs.Common.{◌≡◌, ◌++◌, drop}
use Rattle.run_model.specs.Admission.{handed_from}
use Rattle.run_state.proofs.scripts.handed_from.Given as goal

-- what was handed on so far, and then what the scripts that are left hand on
abbrev pub invariant-loop-place : goal.invariant-loop-place
invariant-loop-place l =
    l.handed ++ handed_from l.numbers l.place (drop l.place l.scripts) ≡ handed_from l.numbers 0 l.scripts
