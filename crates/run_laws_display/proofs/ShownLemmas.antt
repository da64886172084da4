-- Whether a test is displayed, by what each event does.
use Rattle.std.proofs.Common.{◌≡◌, ℕ, List, [], ◌∷◌, ◌++◌, map, Bool, true, false, ◌&&◌, ◌||◌, not, refl, sym, subst}
use Rattle.std.proofs.Common.{◌∙◌}
use Rattle.std.specs.Prelude.{if◌then◌else◌, unwrap_or}
use Rattle.std.specs.List.{AllByRecursion, IsDistinct}
use Rattle.std.proofs.lemmas.Map.Keys.{IsDistinct-cons}
use Rattle.run_events.specs.declared.events.TestEvent.{TestEvent}
use Rattle.run_events.specs.declared.plan.TestInstanceId.{TestInstanceId}
use Rattle.run_progress.specs.declared.running_test.RunningTest.{RunningTest}
use Rattle.run_progress.specs.declared.running_test.RunningTestStatus.{RunningTestStatus}
use Rattle.run_progress.specs.Deeds.{Change, starts, finishes, slows, continues, other, deed_of, is_same, replaces}
use Rattle.run_progress.specs.Deeds.{paused_in}
use Rattle.run_progress.specs.Display.{display, is_replaced, running_after, running_test, started_by}
use Rattle.run_laws_display.specs.Displays.{is_displayed}
use Rattle.run_laws_display.proofs.SameLemmas.{same_is, same_itself}
use Rattle.run_laws.proofs.board.Order.{either_false}

-- what a deed makes of whether a test is displayed, and what events make of it
abbrev pub shown_by : TestInstanceId → Bool → Change → Bool
shown_by id shown (starts test status) = shown || is_same id test
shown_by id shown (finishes test) = shown && not (is_same id test)
shown_by id shown (slows test) = shown
shown_by id shown continues = shown
shown_by id shown other = shown

abbrev pub shown_from : TestInstanceId → Bool → List TestEvent → Bool
shown_from id shown [] = shown
shown_from id shown (event ∷ later) = shown_from id (shown_by id shown (deed_of event.kind)) later

module _ (id : TestInstanceId) (start before : ℕ) (later : List TestEvent) (rest : List RunningTest) where
  -- a test that a deed starts, before the rest of a display
  starts_same : (b : Bool) (test : TestInstanceId) (status : RunningTestStatus) → is_same id test ≡ true
      → (is_displayed id rest || ((b || true) && not (is_replaced id later)))
      ≡ (is_displayed id (started_by (starts test status) start before later ++ rest)
      || (b && not (true || is_replaced id later)))
  starts_same b test status same =
      subst (λ t. (is_displayed id rest || ((b || true) && not (is_replaced id later)))
      ≡ (is_displayed id (started_by (starts t status) start before later ++ rest)
      || (b && not (true || is_replaced id later))))
      (same_is id test same) (by_case b (is_replaced id later) (is_displayed id rest) refl)
    where
      by_case : (b r f : Bool) → is_displayed id rest ≡ f
          → (f || ((b || true) && not r))
          ≡ (is_displayed id ((if r then [] else running_test id status start before later ∷ []) ++ rest)
          || (b && not (true || r)))
      by_case true true f e = rw e refl
      by_case false true f e = rw e refl
      by_case true false true e = rw (same_itself id) refl
      by_case true false false e = rw (same_itself id) refl
      by_case false false true e = rw (same_itself id) refl
      by_case false false false e = rw (same_itself id) refl

  starts_apart : (b : Bool) (test : TestInstanceId) (status : RunningTestStatus) → is_same id test ≡ false
      → (is_displayed id rest || ((b || false) && not (is_replaced id later)))
      ≡ (is_displayed id (started_by (starts test status) start before later ++ rest)
      || (b && not (false || is_replaced id later)))
  starts_apart b test status apart = by_case b (is_replaced test later)
    where
      by_case : (b r : Bool) → (is_displayed id rest || ((b || false) && not (is_replaced id later)))
          ≡ (is_displayed id ((if r then [] else running_test test status start before later ∷ []) ++ rest)
          || (b && not (false || is_replaced id later)))
      by_case true true = refl
      by_case false true = refl
      by_case true false = rw apart refl
      by_case false false = rw apart refl

  shown-step : (b : Bool) (deed : Change)
      → (is_displayed id rest || (shown_by id b deed && not (is_replaced id later)))
      ≡ (is_displayed id (started_by deed start before later ++ rest)
      || (b && not (replaces id deed || is_replaced id later)))
  shown-step b (starts test status) = by_same (is_same id test) refl
    where
      by_same : (s : Bool) → is_same id test ≡ s
          → (is_displayed id rest || ((b || s) && not (is_replaced id later)))
          ≡ (is_displayed id (started_by (starts test status) start before later ++ rest)
          || (b && not (s || is_replaced id later)))
      by_same true e = starts_same b test status e
      by_same false e = starts_apart b test status e
  shown-step b (finishes test) = by_case b (is_same id test) (is_replaced id later)
    where
      by_case : (b s r : Bool) → (is_displayed id rest || ((b && not s) && not r))
          ≡ (is_displayed id rest || (b && not (s || r)))
      by_case true true r = refl
      by_case true false r = refl
      by_case false s r = refl
  shown-step b (slows test) = refl
  shown-step b continues = refl
  shown-step b other = refl

-- a test is shown after events where it is displayed after them, or was shown and isn't replaced
pub shown-is : (id : TestInstanceId) (shown : Bool) (before : ℕ) (events : List TestEvent)
    → shown_from id shown events
    ≡ (is_displayed id (running_after before events) || (shown && not (is_replaced id events)))
shown-is id true before [] = refl
shown-is id false before [] = refl
shown-is id shown before (event ∷ later) =
    shown-is id (shown_by id shown (deed_of event.kind)) (unwrap_or (paused_in event) before) later
    ∙ shown-step id event.clock (unwrap_or (paused_in event) before) later
    (running_after (unwrap_or (paused_in event) before) later) shown (deed_of event.kind)

pub displayed-is : (id : TestInstanceId) (events : List TestEvent)
    → is_displayed id (display events) ≡ shown_from id false events
unfolding display
displayed-is id events = sym (shown-is id false 0 events ∙ or_false (is_displayed id (running_after 0 events)))
  where
    or_false : (b : Bool) → (b || false) ≡ b
    or_false true = refl
    or_false false = refl

-- a test that isn't replaced by events isn't displayed after them
abbrev AreOthers : TestInstanceId → List RunningTest → Type 0
AreOthers id tests = AllByRecursion (λ other. is_same id other ≡ false) (map (λ running. running.test) tests)

others : (id : TestInstanceId) (before : ℕ) (events : List TestEvent) → is_replaced id events ≡ false
    → AreOthers id (running_after before events)
others id before [] none = tt
others id before (event ∷ later) none =
    let both = either_false (replaces id (deed_of event.kind)) (is_replaced id later) none in
    by_deed (deed_of event.kind) both.0 (others id (unwrap_or (paused_in event) before) later both.1)
  where
    paused : ℕ
    paused = unwrap_or (paused_in event) before

    by_deed : (deed : Change) → replaces id deed ≡ false → AreOthers id (running_after paused later)
        → AreOthers id (started_by deed event.clock paused later ++ running_after paused later)
    by_deed (starts test status) apart rest = by_replaced (is_replaced test later)
      where
        by_replaced : (r : Bool)
            → AreOthers id ((if r then [] else running_test test status event.clock paused later ∷ [])
            ++ running_after paused later)
        by_replaced true = rest
        by_replaced false = (apart, rest)
    by_deed (finishes test) apart rest = rest
    by_deed (slows test) apart rest = rest
    by_deed continues apart rest = rest
    by_deed other apart rest = rest

-- so no test is displayed twice
no_twins_from : (before : ℕ) (events : List TestEvent)
    → IsDistinct is_same (map (λ (running : RunningTest). running.test) (running_after before events))
unfolding IsDistinct
no_twins_from before [] = tt
no_twins_from before (event ∷ later) = by_deed (deed_of event.kind) (no_twins_from paused later)
  where
    paused : ℕ
    paused = unwrap_or (paused_in event) before

    Once : List RunningTest → Type 0
    Once tests = IsDistinct is_same (map (λ (running : RunningTest). running.test) tests)

    by_deed : (deed : Change) → Once (running_after paused later)
        → Once (started_by deed event.clock paused later ++ running_after paused later)
    by_deed (starts test status) rest = by_replaced (is_replaced test later) refl
      where
        by_replaced : (r : Bool) → is_replaced test later ≡ r
            → Once ((if r then [] else running_test test status event.clock paused later ∷ [])
            ++ running_after paused later)
        by_replaced true e = rest
        by_replaced false e =
            IsDistinct-cons is_same test (map (λ (running : RunningTest). running.test) (running_after paused later))
            (others test paused later e) rest
    by_deed (finishes test) rest = rest
    by_deed (slows test) rest = rest
    by_deed continues rest = rest
    by_deed other rest = rest

pub no_twins : (events : List TestEvent)
    → IsDistinct is_same (map (λ (running : RunningTest). running.test) (display events))
unfolding display
no_twins events = no_twins_from 0 events
