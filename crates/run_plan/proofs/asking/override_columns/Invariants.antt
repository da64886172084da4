use Rattle.std.proofs.Common.{take}
use Rattle.std.specs.List.{AllZip}
use Rattle.run_profile.specs.declared.settings.Override.{Override}
use Rattle.run_plan.specs.Asks.{FilterSays}
use Rattle.run_plan.proofs.asking.override_columns.Given as goal

abbrev pub invariant-loop-o : goal.invariant-loop-o
invariant-loop-o l =
    AllZip (λ (x : Override). AllZip (FilterSays x.filter) l.tests) (take l.o-index l.overrides) l.columns
