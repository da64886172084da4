use Rattle.std.proofs.Common.{take}
use Rattle.run_engine.specs.World.{outside}
use Rattle.run_engine.specs.Unkept.{TookAll}
use Rattle.run_engine.proofs.course.take_all.Given as goal

abbrev pub invariant-loop-place : goal.invariant-loop-place
invariant-loop-place g l =
    TookAll g.R.Reporter.told g.C.Children.asked
    (outside g.R.Reporter.faults l.initial.report l.report l.initial.children l.children) l.settings
    (take l.place l.turns) l.state l.first
