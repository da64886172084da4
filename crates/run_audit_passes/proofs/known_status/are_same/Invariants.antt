use Rattle.std.proofs.Common.{◌≡◌, drop, map}
use lib.Pointwise.{pointwise}
use Rattle.std.specs.Option.{option_eq}
use Rattle.run_audit_machines.specs.SameData.{same_data}
use Rattle.run_audit_passes.specs.Texts.{known_value_in}
use Rattle.run_audit_passes.proofs.known_status.are_same.Given as goal

abbrev pub invariant-loop-place : goal.invariant-loop-place
invariant-loop-place l =
    pointwise (option_eq same_data) (map known_value_in (drop l.place l.known))
    (map known_value_in (drop l.place l.told))
    ≡ pointwise (option_eq same_data) (map known_value_in l.known) (map known_value_in l.told)
