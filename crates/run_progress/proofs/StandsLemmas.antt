-- A display that stands for a told list.
use Rattle.std.proofs.Common.{◌≡◌, true, false, List, [], Some, None, refl, ap, ◌∙◌, sym}
use Rattle.std.specs.Prelude.{if◌then◌else◌}
use Rattle.run_events.specs.declared.events.TestEvent.{TestEvent}
use Rattle.run_progress.specs.declared.seen.Seen.{Seen}
use Rattle.run_progress.specs.declared.max_running.MaxProgressRunning.{MaxProgressRunning}
use Rattle.run_progress.specs.declared.max_running.MaxProgressRunning.TheVariants.{Count}
use Rattle.run_progress.specs.declared.running_test.RunningTest.{RunningTest}
use Rattle.run_progress.specs.Display.{display}
use Rattle.run_progress.specs.Edits.{edited, seen_after}
use Rattle.run_progress.specs.Progress.{Hears, Progress, StandsFor, tests_shown, tests_told}
use Rattle.run_progress.specs.Seen.{hiding, seen_of, shows_tests}
use Rattle.run_progress.proofs.DisplayLemmas.{seen_of-push}

-- what hides a told list is what hides the display
hiding-seen_of : (max : MaxProgressRunning) (told : List TestEvent) → (seen_of max told).hiding ≡ hiding told
unfolding seen_of
hiding-seen_of max told = refl

-- what hides a display is what its told lists tell
pub hiding_stands : (told : List TestEvent) (progress : Progress) → StandsFor told progress
    → progress.seen.hiding ≡ hiding told
hiding_stands told progress stands =
    ap (λ (seen : Seen). seen.hiding) stands.seen_is ∙ hiding-seen_of progress.showing.max told

-- the running tests of a told list, where they are shown
tests-seen_of : (max : MaxProgressRunning) (told : List TestEvent)
    → (if shows_tests max then Some (seen_of max told).tests else None) ≡ tests_told max told
unfolding seen_of
tests-seen_of max told = elim (shows_tests max) as (λ b.
    (if b then Some (if b then display told else []) else None) ≡ (if b then Some (display told) else None))
    [ true ↦ refl | false ↦ refl ]

-- the running tests of a display are those of its told lists
pub tests_stand : (told : List TestEvent) (progress : Progress) → StandsFor told progress
    → tests_shown progress ≡ tests_told progress.showing.max told
tests_stand told progress stands =
    ap (λ (seen : Seen). if shows_tests progress.showing.max then Some seen.tests else None) stands.seen_is
    ∙ tests-seen_of progress.showing.max told

-- a display that has seen one more event
pub hears : (old : Progress) (seen : Seen) (event : TestEvent)
    → seen ≡ seen_after old.showing.max old.seen event
    → Hears old (record { showing = old.showing; seen = seen }) event
hears old seen event is = record {
  showing = refl;
  told = λ told stands. record {
    seen_is = is ∙ ap (λ (before : Seen). seen_after old.showing.max before event) stands.seen_is
        ∙ sym (seen_of-push old.showing.max told event);
  };
}

-- what is seen, with these running tests
abbrev pub with_tests : Seen → List RunningTest → Seen
with_tests seen tests = record seen { tests = tests }

-- what one more event makes of the running tests and of the rest is what it makes of both
pub seen_apart : (max : MaxProgressRunning) (seen rest : Seen) (tests after : List RunningTest) (event : TestEvent)
    → after ≡ (if shows_tests max then edited seen.paused event tests else tests)
    → rest ≡ seen_after (Count 0) seen event
    → with_tests rest after ≡ seen_after max (with_tests seen tests) event
unfolding seen_after
seen_apart max seen rest tests after event is_after is_rest =
    ap (λ (r : Seen). with_tests r after) is_rest
    ∙ ap (λ (t : List RunningTest). with_tests (seen_after (Count 0) seen event) t) is_after
