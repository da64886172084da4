-- The slots with which a test was told started.
use Rattle.std.proofs.Common.{◌≡◌, ℕ, ◌≤◌, ◌==◌, ◌||◌, List, [], ◌∷◌, Bool, true, false, not, if◌then◌else◌, Option}
use Rattle.std.proofs.Common.{Some, None, is_some, option_map, slice_get, refl, ap, sym, ◌∙◌, arith}
use Rattle.std.specs.Cmp.{first_so}
use Rattle.std.specs.Option.{option_or}
use Rattle.std.specs.List.{All, list_any}
use Rattle.std.proofs.lemmas.List.Elements.{All-head, All-tail}
use Rattle.std.proofs.lemmas.Option.{same_Some}
use Rattle.run_events.specs.declared.settings.Settings.{Settings}
use Rattle.run_events.specs.declared.plan.PlanTest.{PlanTest}
use Rattle.run_events.specs.declared.plan.TestSlotAssignment.{TestSlotAssignment}
use Rattle.run_events.specs.declared.events.ReporterEvent.{ReporterEvent}
use Rattle.run_events.specs.declared.events.ReporterEvent.TheVariants.{Tick, Test}
use Rattle.run_events.specs.declared.events.TestEventKind.{TestEventKind}
use Rattle.run_events.specs.declared.events.TestEventKind.TheVariants.{SetupScriptStarted, TestStarted}
use Rattle.run_model.specs.Words.{starts, starts_in, finishes, is_running}
use Rattle.run_model.specs.Admission.{scripts_in, unit_of_test}
use Rattle.run_laws.specs.Limits.{slots_in, slots_by, slots_told}
use Rattle.run_laws_events.specs.PlanLimits.{IsRunningIn, group_of_plan}
use Rattle.run_laws_events.proofs.StartedLemmas.{KindFits, EventFits}

-- an event that tells the start of a test tells its slots
start_slots : (p : Settings) (k : ℕ) (kind : TestEventKind) → KindFits p kind → scripts_in p ≤ k
    → starts_in k kind ≡ true → is_some (slots_in k kind) ≡ true
start_slots p k (SetupScriptStarted event) fits above e =
    let same : event.script.unit ≡ k = grind (arith, e) in absurd (omega (arith, fits, above, same))
start_slots p k (TestStarted event) fits above e = ap (λ b. is_some (if b then Some event.start.slot else None)) e
start_slots p k kind fits above e = cc

event_slots : (p : Settings) (k : ℕ) (event : ReporterEvent) → EventFits p event → scripts_in p ≤ k
    → starts k event ≡ true → is_some (slots_by k event) ≡ true
event_slots p k Tick fits above e = cc
event_slots p k (Test event) fits above e = start_slots p k event.kind fits above e

-- so a test that was told started was told its slots
slots_of_start : (p : Settings) (k : ℕ) (es : List ReporterEvent) → All (EventFits p) es → scripts_in p ≤ k
    → list_any (starts k) es ≡ true → is_some (slots_told k es) ≡ true
slots_of_start p k [] all above some = cc
slots_of_start p k (e ∷ es) all above some =
    by_first (starts k e) refl some (slots_of_start p k es (All-tail (EventFits p) e es all) above)
  where
    first : (o rest : Option TestSlotAssignment) → is_some o ≡ true → is_some (option_or o rest) ≡ true
    first None rest h = cc
    first (Some slots) rest h = refl

    later : (o rest : Option TestSlotAssignment) → is_some rest ≡ true → is_some (option_or o rest) ≡ true
    later None rest h = h
    later (Some slots) rest h = refl

    by_first : (b : Bool) → starts k e ≡ b → (b || list_any (starts k) es) ≡ true
        → (list_any (starts k) es ≡ true → is_some (slots_told k es) ≡ true)
        → is_some (option_or (slots_by k e) (slots_told k es)) ≡ true
    by_first true is some rest =
        first (slots_by k e) (slots_told k es) (event_slots p k e (All-head (EventFits p) e es all) above is)
    by_first false is some rest = later (slots_by k e) (slots_told k es) (rest some)

pub slots_of_running : (p : Settings) (k : ℕ) (es : List ReporterEvent) → All (EventFits p) es → scripts_in p ≤ k
    → is_running es k ≡ true → is_some (slots_told k es) ≡ true
slots_of_running p k es all above runs =
    slots_of_start p k es all above (first_so (list_any (starts k) es) (not (list_any (finishes k) es)) runs)

-- and they are those of a start that fits
record AreOfStart (p : Settings) (k : ℕ) (slots : TestSlotAssignment) : Type 0 where
  place : ℕ
  unit : k ≡ unit_of_test p place
  group : (test : PlanTest) → slice_get p.plan.tests place ≡ Some test
      → option_map (λ g. g.name) slots.group ≡ group_of_plan p.plan.groups test.group

of_kind : (p : Settings) (k : ℕ) (kind : TestEventKind) (slots : TestSlotAssignment) → KindFits p kind
    → slots_in k kind ≡ Some slots → AreOfStart p k slots
of_kind p k (TestStarted event) slots fits e = by_unit (event.start.test.unit == k) refl e
  where
    by_unit : (b : Bool) → (event.start.test.unit == k) ≡ b → (if b then Some event.start.slot else None) ≡ Some slots
        → AreOfStart p k slots
    by_unit false at e = cc
    by_unit true at e =
        let here : event.start.test.unit ≡ k = grind (arith, at) in
        record {
          place = fits.place;
          unit = sym here ∙ fits.unit;
          group = λ test planned.
              ap (λ (s : TestSlotAssignment). option_map (λ g. g.name) s.group)
              (sym (same_Some event.start.slot slots e))
              ∙ fits.group
              ∙ ap (λ (t : PlanTest). group_of_plan p.plan.groups t.group)
              (same_Some fits.test test (sym fits.planned ∙ planned));
        }
of_kind p k kind slots fits e = cc

of_event : (p : Settings) (k : ℕ) (event : ReporterEvent) (slots : TestSlotAssignment) → EventFits p event
    → slots_by k event ≡ Some slots → AreOfStart p k slots
of_event p k Tick slots fits e = cc
of_event p k (Test event) slots fits e = of_kind p k event.kind slots fits e

of_events : (p : Settings) (k : ℕ) (es : List ReporterEvent) (slots : TestSlotAssignment) → All (EventFits p) es
    → slots_told k es ≡ Some slots → AreOfStart p k slots
of_events p k [] slots all e = cc
of_events p k (x ∷ es) slots all e =
    by_first (slots_by k x) refl e (of_events p k es slots (All-tail (EventFits p) x es all))
  where
    by_first : (o : Option TestSlotAssignment) → slots_by k x ≡ o → option_or o (slots_told k es) ≡ Some slots
        → (slots_told k es ≡ Some slots → AreOfStart p k slots) → AreOfStart p k slots
    by_first None is e rest = rest e
    by_first (Some first) is e rest = of_event p k x slots (All-head (EventFits p) x es all) (is ∙ e)

pub names_own : (p : Settings) (es : List ReporterEvent) (j : ℕ) (test : PlanTest) (slots : TestSlotAssignment)
    → All (EventFits p) es → IsRunningIn p es j test slots
    → option_map (λ g. g.name) slots.group ≡ group_of_plan p.plan.groups test.group
names_own p es j test slots all it =
    let start = of_events p (unit_of_test p j) es slots all it.told in
    let unit = start.unit in
    let place : j ≡ start.place = omega (arith, unit) in
    start.group test (ap (slice_get p.plan.tests) (sym place) ∙ it.planned)
