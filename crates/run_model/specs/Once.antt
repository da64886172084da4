-- Plans that have each id once.
use Rattle.std.specs.Prelude.{map}
use Rattle.std.specs.List.{IsDistinct}
use Rattle.run_events.specs.declared.settings.Settings.{Settings}
use Rattle.run_model.specs.Reruns.{is_one_test}

-- a plan has each id once
abbrev pub HasEachIdOnce : Settings → Type 0
HasEachIdOnce p = IsDistinct is_one_test (map (λ test. test.id) p.plan.tests)
