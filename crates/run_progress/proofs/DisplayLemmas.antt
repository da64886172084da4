-- What one more event does to what a told list comes to.
use Rattle.std.proofs.Common.{◌≡◌, ℕ, ◌+◌, ◌-◌, ◌^◌, min, Bool, true, false, List, [], ◌∷◌, ◌++◌, Option, Some, None}
use Rattle.std.proofs.Common.{refl, append-nil, arith}
use Rattle.std.specs.Prelude.{if◌then◌else◌, unwrap_or, not, ◌||◌}
use Rattle.std.specs.List.{filter_map, cons_option}
use Rattle.std.proofs.lemmas.List.Elements.{filter_map-append}
use Rattle.std.proofs.lemmas.List.Folds.{list_any-append}
use Rattle.run_events.specs.Stats.{last_or}
use Rattle.run_events.specs.declared.events.TestEvent.{TestEvent}
use Rattle.run_events.specs.declared.plan.TestInstanceId.{TestInstanceId}
use Rattle.run_progress.specs.declared.max_running.MaxProgressRunning.{MaxProgressRunning}
use Rattle.run_progress.specs.declared.running_test.RunningTest.{RunningTest}
use Rattle.run_progress.specs.declared.running_test.RunningTestStatus.{RunningTestStatus}
use Rattle.run_progress.specs.declared.running_test.RunningTestStatus.TheVariants as statuses
use Rattle.run_progress.specs.declared.seen.Seen.{Seen}
use Rattle.run_progress.specs.Deeds.{Change, starts, finishes, slows, continues, other, deed_of, is_same, is_slow_of}
use Rattle.run_progress.specs.Deeds.{replaces, paused_in, paused_where}
use Rattle.run_progress.specs.Display.{running_after, display, pauses, started_by, running_test, is_replaced}
use Rattle.run_progress.specs.Display.{is_told_slow}
use Rattle.run_progress.specs.Edits.{edited, edited_by, slowed, paused_more, without, seen_after}
use Rattle.run_progress.specs.Seen.{counts_in, info_in, last_told, no_counts, pause_in, script_in, seen_of, shows_tests}

-- the last that is told of something, after one more event
pub last_told-push : {X : Type 0} (start : X) (tells : TestEvent → Option X) (told : List TestEvent) (event : TestEvent)
    → last_told start tells (told ++ event ∷ []) ≡ unwrap_or (tells event) (last_told start tells told)
last_told-push start tells [] event =
    elim (tells event) as (λ o. last_or start (cons_option o []) ≡ unwrap_or o start) [ None ↦ refl | Some x ↦ refl ]
last_told-push start tells (first ∷ told) event =
    elim (tells first) as (λ o. last_or start (cons_option o (filter_map tells (told ++ event ∷ [])))
    ≡ unwrap_or (tells event) (last_or start (cons_option o (filter_map tells told))))
    [ None ↦ last_told-push start tells told event | Some x ↦ last_told-push x tells told event ]

-- the pauses after one more
pauses-push : (before : ℕ) (ends : List ℕ) (last : ℕ)
    → pauses before (ends ++ last ∷ []) ≡ pauses before ends + (last - last_or before ends)
pauses-push before [] last = omega arith
pauses-push before (first ∷ ends) last = omega (arith, pauses-push first ends last)

-- a running test after a deed that doesn't replace it
abbrev pub touched : Change → ℕ → RunningTest → RunningTest
touched (starts id status) pause running = running
touched (finishes id) pause running = running
touched (slows id) pause running = slowed id running
touched continues pause running = paused_more pause running
touched other pause running = running

-- it in parts
abbrev pub parts : TestInstanceId → RunningTestStatus → ℕ → ℕ → Bool → List ℕ → RunningTest
parts test status start before slow ends = record {
  test = test;
  status = if slow then statuses.Slow else status;
  start = start;
  paused = min (pauses before ends) (2 ^ 64 - 1);
}

-- its parts after one more deed
parts-push : (test : TestInstanceId) (status : RunningTestStatus) (start before : ℕ) (slow : Bool) (ends : List ℕ)
    (deed : Change) (paused : ℕ)
    → parts test status start before (slow || (is_slow_of test deed || false))
    (ends ++ cons_option (paused_where deed paused) [])
    ≡ touched deed (paused - last_or before ends) (parts test status start before slow ends)
parts-push test status start before slow ends (starts id next) paused =
    rw append-nil (elim slow as (λ b. parts test status start before (b || false) ends
    ≡ parts test status start before b ends) [ true ↦ refl | false ↦ refl ])
parts-push test status start before slow ends (finishes id) paused =
    rw append-nil (elim slow as (λ b. parts test status start before (b || false) ends
    ≡ parts test status start before b ends) [ true ↦ refl | false ↦ refl ])
parts-push test status start before slow ends other paused =
    rw append-nil (elim slow as (λ b. parts test status start before (b || false) ends
    ≡ parts test status start before b ends) [ true ↦ refl | false ↦ refl ])
parts-push test status start before slow ends (slows id) paused =
    rw append-nil (elim slow as (λ b. parts test status start before (b || (is_same test id || false)) ends
    ≡ slowed id (parts test status start before b ends)) [
      | true ↦ elim (is_same test id) as (λ s. parts test status start before true ends
          ≡ (if s then record (parts test status start before true ends) { status = statuses.Slow }
          else parts test status start before true ends)) [ true ↦ refl | false ↦ refl ]
      | false ↦ elim (is_same test id) as (λ s. parts test status start before (s || false) ends
          ≡ (if s then record (parts test status start before false ends) { status = statuses.Slow }
          else parts test status start before false ends)) [ true ↦ refl | false ↦ refl ]
    ])
parts-push test status start before slow ends continues paused =
    let total : min (pauses before (ends ++ paused ∷ [])) (2 ^ 64 - 1)
    ≡ min (min (pauses before ends) (2 ^ 64 - 1) + (paused - last_or before ends)) (2 ^ 64 - 1)
    = omega (arith, pauses-push before ends paused) in
    rw total (elim slow as (λ b. record (parts test status start before (b || false) ends)
    { paused = min (min (pauses before ends) (2 ^ 64 - 1) + (paused - last_or before ends)) (2 ^ 64 - 1) }
    ≡ paused_more (paused - last_or before ends) (parts test status start before b ends))
    [ true ↦ refl | false ↦ refl ])

-- a running test after one more event
running_test-push : (test : TestInstanceId) (status : RunningTestStatus) (start before : ℕ) (later : List TestEvent)
    (event : TestEvent)
    → running_test test status start before (later ++ event ∷ [])
    ≡ touched (deed_of event.kind) (event.clock - event.elapsed - last_or before (filter_map paused_in later))
    (running_test test status start before later)
running_test-push test status start before later event =
    rw (
      list_any-append (λ e. is_slow_of test (deed_of e.kind)) later (event ∷ []),
      filter_map-append paused_in later (event ∷ []),
    )
    (parts-push test status start before (is_told_slow test later) (filter_map paused_in later)
    (deed_of event.kind) (event.clock - event.elapsed))

-- a list that begins with a running test, or doesn't, after a deed
edited-cons : (deed : Change) (now pause : ℕ) (replaced : Bool) (running : RunningTest) (rest : List RunningTest)
    → (if replaced || (replaces running.test deed || false) then [] else touched deed pause running ∷ [])
    ++ edited_by deed now pause rest
    ≡ edited_by deed now pause ((if replaced then [] else running ∷ []) ++ rest)
edited-cons deed now pause true running rest = refl
edited-cons (starts id status) now pause false running rest = elim (is_same running.test id) as (λ s.
    (if s || false then [] else running ∷ []) ++ edited_by (starts id status) now pause rest
    ≡ (if not s then running ∷ without id rest else without id rest)
    ++ record { test = id; status = status; start = now; paused = 0 } ∷ []) [ true ↦ refl | false ↦ refl ]
edited-cons (finishes id) now pause false running rest = elim (is_same running.test id) as (λ s.
    (if s || false then [] else running ∷ []) ++ without id rest
    ≡ (if not s then running ∷ without id rest else without id rest)) [ true ↦ refl | false ↦ refl ]
edited-cons (slows id) now pause false running rest = refl
edited-cons continues now pause false running rest = refl
edited-cons other now pause false running rest = refl

-- what starts by a deed, before a list after one more event
started-push : (first : Change) (start before : ℕ) (later : List TestEvent) (event : TestEvent)
    (rest : List RunningTest)
    → started_by first start before (later ++ event ∷ [])
    ++ edited (last_or before (filter_map paused_in later)) event rest
    ≡ edited (last_or before (filter_map paused_in later)) event (started_by first start before later ++ rest)
started-push (starts test status) start before later event rest =
    rw (
      list_any-append (λ e. replaces test (deed_of e.kind)) later (event ∷ []),
      running_test-push test status start before later event,
    )
    (edited-cons (deed_of event.kind) event.clock
    (event.clock - event.elapsed - last_or before (filter_map paused_in later))
    (is_replaced test later) (running_test test status start before later) rest)
started-push (finishes id) start before later event rest = refl
started-push (slows id) start before later event rest = refl
started-push continues start before later event rest = refl
started-push other start before later event rest = refl

-- what starts by the last deed of all
started-last : (deed : Change) (now before pause : ℕ)
    → started_by deed now before [] ++ [] ≡ edited_by deed now pause []
started-last (starts id status) now before pause = refl
started-last (finishes id) now before pause = refl
started-last (slows id) now before pause = refl
started-last continues now before pause = refl
started-last other now before pause = refl

-- the running tests after one more event
pub running_after-push : (before : ℕ) (told : List TestEvent) (event : TestEvent)
    → running_after before (told ++ event ∷ [])
    ≡ edited (last_or before (filter_map paused_in told)) event (running_after before told)
running_after-push before [] event =
    started-last (deed_of event.kind) event.clock (unwrap_or (paused_in event) before)
    (event.clock - event.elapsed - before)
running_after-push before (first ∷ told) event =
    let paused = unwrap_or (paused_in first) before in
    let here : last_or before (cons_option (paused_in first) (filter_map paused_in told))
    ≡ last_or paused (filter_map paused_in told)
    = elim (paused_in first) as (λ o. last_or before (cons_option o (filter_map paused_in told))
    ≡ last_or (unwrap_or o before) (filter_map paused_in told)) [ None ↦ refl | Some x ↦ refl ] in
    rw (running_after-push paused told event, here)
    (started-push (deed_of first.kind) first.clock paused told event (running_after paused told))

-- the running tests, where they are shown, after one more event
tests-push : (shows : Bool) (told : List TestEvent) (event : TestEvent)
    → (if shows then running_after 0 (told ++ event ∷ []) else [])
    ≡ (if shows then edited (last_told 0 paused_in told) event (if shows then running_after 0 told else [])
    else (if shows then running_after 0 told else []))
tests-push true told event = running_after-push 0 told event
tests-push false told event = refl

-- what a told list comes to, after one more event
pub seen_of-push : (max : MaxProgressRunning) (told : List TestEvent) (event : TestEvent)
    → seen_of max (told ++ event ∷ []) ≡ seen_after max (seen_of max told) event
unfolding seen_of seen_after display
seen_of-push max told event =
    rw (
      tests-push (shows_tests max) told event,
      last_told-push no_counts (λ e. counts_in e.kind) told event,
      last_told-push 0 paused_in told event,
      last_told-push false (λ e. script_in e.kind) told event,
      last_told-push false (λ e. pause_in e.kind) told event,
      last_told-push false (λ e. info_in e.kind) told event,
    )

-- what is seen before any event, but for the tests
abbrev pub seen_with : List RunningTest → Seen
seen_with tests = record {
  tests = tests;
  counts = no_counts;
  paused = 0;
  hiding = record { script = false; pause = false; info = false };
}

-- before any event
pub seen_of-nil : (max : MaxProgressRunning)
    → seen_of max [] ≡ record {
      tests = [];
      counts = no_counts;
      paused = 0;
      hiding = record { script = false; pause = false; info = false };
    }
unfolding seen_of display
seen_of-nil max = elim (shows_tests max) as (λ b. seen_with (if b then [] else []) ≡ seen_with [])
    [ true ↦ refl | false ↦ refl ]
