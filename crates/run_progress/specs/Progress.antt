-- What contracts see of a `ProgressState`, and the told lists that it stands for.
use Rattle.std.specs.Prelude.{◌≡◌, List, [], ◌∷◌, ◌++◌, Option, None, Some, if◌then◌else◌}
use Rattle.run_events.specs.declared.events.TestEvent.{TestEvent}
use Rattle.run_progress.specs.declared.lines.Showing.{Showing}
use Rattle.run_progress.specs.declared.max_running.MaxProgressRunning.{MaxProgressRunning}
use Rattle.run_progress.specs.declared.running_test.RunningTest.{RunningTest}
use Rattle.run_progress.specs.declared.seen.Seen.{Seen}
use Rattle.run_progress.specs.Display.{display}
use Rattle.run_progress.specs.Seen.{seen_of, shows_tests}

-- how it shows, and what it has seen
pub record Progress : Type 0 where
  pub showing : Showing
  pub seen : Seen

-- it has seen what the told list comes to
pub record StandsFor (told : List TestEvent) (progress : Progress) : Type 0 where
  pub seen_is : progress.seen ≡ seen_of progress.showing.max told

-- a fact for each told list that it stands for
abbrev pub ForTold : Progress → (List TestEvent → Type 0) → Type 0
ForTold progress P = (told : List TestEvent) → StandsFor told progress → P told

-- it shows as before, and stands for each told list that it stood for, with one more event
pub record Hears (old new : Progress) (event : TestEvent) : Type 0 where
  pub showing : new.showing ≡ old.showing
  pub told : ForTold old (λ told. StandsFor (told ++ event ∷ []) new)

-- the running tests, where they are shown at all
abbrev pub tests_shown : Progress → Option (List RunningTest)
tests_shown progress = if shows_tests progress.showing.max then Some progress.seen.tests else None

-- the running tests of a told list, where they are shown at all
abbrev pub tests_told : MaxProgressRunning → List TestEvent → Option (List RunningTest)
tests_told max told = if shows_tests max then Some (display told) else None
