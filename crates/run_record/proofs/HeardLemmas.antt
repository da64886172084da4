-- Who listens to a recorded run has heard what the run told.
use Rattle.std.proofs.Common.{ℕ, List, Option, Some, None, IfSome}
use Rattle.run_events.specs.declared.events.ReporterEvent.{ReporterEvent}
use Rattle.run_events.specs.declared.settings.Settings.{Settings}
use Rattle.run_cli.specs.Plans.{settings_for}
use Rattle.run_whole_cli.specs.Hears.{HasHeardLeft, HasHeardPlan}
use Rattle.run_whole_cli.specs.declared.left.WholeLeft.{WholeLeft}
use Rattle.run_whole_cli.specs.declared.left.WholeLeft.TheVariants as lefts

module _ {B C W T O S : Type 0} (heard : B → List ReporterEvent → Type 0) (part : C → B) (report : C) where
  left_heard : (p : Settings) (left : WholeLeft W T O S)
      → HasHeardLeft (λ (c : C) events. heard (part c) events) report p left
      → HasHeardLeft heard (part report) p left
  left_heard p (lefts.Run l) h = h
  left_heard p (lefts.CutOff c) h = record { extra = h.extra; sent = h.sent; part = h.part; events = h.events }

  -- who stands in another has heard what that has
  pub part_heard : (line : List ℕ) (left : Option (WholeLeft W T O S))
      → IfSome left (HasHeardPlan (λ (c : C) events. heard (part c) events) report line)
      → IfSome left (HasHeardPlan heard (part report) line)
  part_heard line None h = tt
  part_heard line (Some left) (plan, h) = (plan, left_heard (settings_for plan.keys plan.plan) left h)
