use Rattle.std.proofs.Common.{◌≡◌, drop}
use Rattle.run_model.specs.Admission.{open_script}
use Rattle.run_state.proofs.ScriptLemmas.{from}
use Rattle.run_state.proofs.scripts.open_script.Given as goal

-- each before it is over
abbrev pub invariant-loop-place : goal.invariant-loop-place
invariant-loop-place l = open_script l.scripts ≡ from l.place (open_script (drop l.place l.scripts))
