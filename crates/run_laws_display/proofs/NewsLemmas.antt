-- A test is displayed where what was told of its unit shows it.
use Rattle.std.proofs.Common.{◌≡◌, ℕ, ◌<◌, ◌==◌, List, [], ◌∷◌, Bool, true, false, ◌||◌, ◌&&◌, not, if◌then◌else◌}
use Rattle.std.proofs.Common.{Option}
use Rattle.std.proofs.Common.{Some, None, nat_lt, option_map, slice_get, refl, ap, sym, ◌∙◌, arith}
use Rattle.std.specs.List.{All, cons_option}
use Rattle.std.proofs.lemmas.List.Elements.{All-head, All-tail}
use Rattle.std.proofs.lemmas.Option.{slice_get_within}
use Rattle.run_events.specs.declared.message.ScriptUnit.{ScriptUnit}
use Rattle.run_events.specs.declared.plan.PlanTest.{PlanTest}
use Rattle.run_events.specs.declared.plan.PlanScript.{PlanScript}
use Rattle.run_events.specs.declared.settings.Settings.{Settings}
use Rattle.run_events.specs.declared.stress.StressIndex.{StressIndex}
use Rattle.run_events.specs.declared.events.ReporterEvent.{ReporterEvent}
use Rattle.run_events.specs.declared.events.ReporterEvent.TheVariants.{Tick, Test}
use Rattle.run_events.specs.declared.events.TestEventKind.{TestEventKind}
use Rattle.run_events.specs.declared.events.TestEventKind.TheVariants as kinds
use Rattle.run_model.specs.Accounts.{News, started, failed, retried, finished, skipped, attempt_of, news_in, account_of}
use Rattle.run_model.specs.Admission.{scripts_in}
use Rattle.run_progress.specs.Deeds.{deed_of}
use Rattle.run_laws_events.specs.Names.{IsScriptNamed, NamesThePlanIn, script_named, test_of_unit}
use Rattle.run_model.specs.Once.{HasEachIdOnce}
use Rattle.run_laws_display.specs.Displays.{tests_displayed, events_heard, is_displayed}
use Rattle.run_laws_display.proofs.CourseLemmas.{shown_after_news, shown_with}
use Rattle.run_laws_display.proofs.SameLemmas.{named_same, test_at}
use Rattle.run_laws_display.proofs.ShownLemmas.{displayed-is, shown_by, shown_from}
use Rattle.run_laws_display.proofs.WholeLemmas.{NamesInSome}

-- a script of the plan isn't a unit that is a test
script_apart : (p : Settings) (index : Option StressIndex) (k : ℕ) (test : PlanTest) (script : ScriptUnit)
    → test_of_unit p k ≡ Some test → IsScriptNamed p index script → (script.unit == k) ≡ false
script_apart p index k test script there named = by_script (slice_get p.plan.scripts script.unit) refl named
  where
    by_script : (o : Option PlanScript) → slice_get p.plan.scripts script.unit ≡ o
        → option_map (script_named p index script.unit) o ≡ Some script → (script.unit == k) ≡ false
    by_script None e named = cc
    by_script (Some s) e named =
        let below : script.unit < scripts_in p = slice_get_within p.plan.scripts script.unit s e in
        let above : nat_lt k (scripts_in p) ≡ false = (test_at p k test there).0 in
        grind arith

-- what news of a unit, if there are any, make of whether it is shown
abbrev shown_if : Bool → Option News → Bool
shown_if shown None = shown
shown_if shown (Some n) = shown_with shown n

quiet : (shown b : Bool) (n : News) → b ≡ false → shown ≡ shown_if shown (if b then Some n else None)
quiet shown true n none = cc
quiet shown false n none = refl

starts_shown : (shown b : Bool) (n : News) → ((s : Bool) → shown_with s n ≡ true)
    → (shown || b) ≡ shown_if shown (if b then Some n else None)
starts_shown true true n shows = sym (shows true)
starts_shown false true n shows = sym (shows false)
starts_shown true false n shows = refl
starts_shown false false n shows = refl

module _ (p : Settings) (k : ℕ) (test : PlanTest) (once : HasEachIdOnce p) (there : test_of_unit p k ≡ Some test) where
  -- one event
  shown_so : (index : Option StressIndex) (shown : Bool) (kind : TestEventKind) → NamesThePlanIn p index kind
      → shown_by test.id shown (deed_of kind) ≡ shown_if shown (news_in k kind)
  shown_so index shown (kinds.SetupScriptStarted e) named =
      quiet shown (e.script.unit == k) started (script_apart p index k test e.script there named)
  shown_so index shown (kinds.SetupScriptFinished e) named =
      quiet shown (e.script.unit == k) (finished (attempt_of e.status ∷ []))
      (script_apart p index k test e.script there named)
  shown_so index shown (kinds.TestStarted e) named =
      rw (named_same p index k test e.start.test once there named)
      (starts_shown shown (e.start.test.unit == k) started (λ s. refl))
  shown_so index shown (kinds.TestAttemptFailedWillRetry e) named =
      rw (named_same p index k test e.failed.test once there named)
      (starts_shown shown (e.failed.test.unit == k) (failed e.failed.status) (λ s. refl))
  shown_so index shown (kinds.TestRetryStarted e) named =
      rw (named_same p index k test e.retry.start.test once there named)
      (starts_shown shown (e.retry.start.test.unit == k) (retried e.retry.attempt) (λ s. refl))
  shown_so index shown (kinds.TestFinished e) named =
      rw (named_same p index k test e.finish.test once there named) (by_case shown (e.finish.test.unit == k))
    where
      by_case : (shown b : Bool)
          → (shown && not b) ≡ shown_if shown (if b then Some (finished e.finish.statuses) else None)
      by_case true true = refl
      by_case false true = refl
      by_case true false = refl
      by_case false false = refl
  shown_so index shown (kinds.TestSkipped skip) named = by_case (skip.test.unit == k)
    where
      by_case : (b : Bool) → shown ≡ shown_if shown (if b then Some skipped else None)
      by_case true = refl
      by_case false = refl
  shown_so index shown kind named = refl

  -- all events
  shown_news : (shown : Bool) (events : List ReporterEvent) → All (NamesInSome p) events
      → shown_from test.id shown (events_heard events) ≡ shown_after_news shown (account_of k events)
  shown_news shown [] named = refl
  shown_news shown (Tick ∷ events) named = shown_news shown events (All-tail (NamesInSome p) Tick events named)
  shown_news shown (Test event ∷ events) named =
      shown_news (shown_by test.id shown (deed_of event.kind)) events
      (All-tail (NamesInSome p) (Test event) events named)
      ∙ ap (λ s. shown_after_news s (account_of k events))
      (shown_so it.0 shown event.kind it.1)
      ∙ by_news (news_in k event.kind)
    where
      it : NamesInSome p (Test event)
      it = All-head (NamesInSome p) (Test event) events named

      by_news : (o : Option News) → shown_after_news (shown_if shown o) (account_of k events)
          ≡ shown_after_news shown (cons_option o (account_of k events))
      by_news None = refl
      by_news (Some n) = refl

  pub displayed_news : (events : List ReporterEvent) → All (NamesInSome p) events
      → is_displayed test.id (tests_displayed events) ≡ shown_after_news false (account_of k events)
  displayed_news events named = displayed-is test.id (events_heard events) ∙ shown_news false events named
