-- A test runs by what is seen exactly where it runs by what is told, and in the same slots.
use Rattle.std.proofs.Common.{◌≡◌, ℕ, ◌+◌, ◌≤◌, ◌==◌, ◌&&◌, nat_lt, List, [], ◌∷◌, map, Bool, true, false, not}
use Rattle.std.proofs.Common.{if◌then◌else◌, Option, Some, None, count_by, cond, slice_get, refl, ap, sym, ◌∙◌, arith}
use Rattle.std.specs.List.{All, IsDistinct, list_any}
use Rattle.std.specs.Option.{option_or}
use Rattle.std.proofs.lemmas.List.Elements.{All-head, All-tail}
use Rattle.std.proofs.lemmas.List.Sums.{sum_by-cons}
use Rattle.run_events.specs.declared.cancel.CancelReason.{CancelReason}
use Rattle.run_events.specs.declared.events.ReporterEvent.{ReporterEvent}
use Rattle.run_events.specs.declared.events.ReporterEvent.TheVariants.{Tick, Test}
use Rattle.run_events.specs.declared.events.TestEventKind.{TestEventKind}
use Rattle.run_events.specs.declared.events.TestEventKind.TheVariants as kinds
use Rattle.run_events.specs.declared.plan.PlanTest.{PlanTest}
use Rattle.run_events.specs.declared.plan.TestInstanceId.{TestInstanceId}
use Rattle.run_events.specs.declared.plan.TestSlotAssignment.{TestSlotAssignment}
use Rattle.run_events.specs.declared.settings.Settings.{Settings}
use Rattle.run_events.specs.declared.stress.StressIndex.{StressIndex}
use Rattle.run_model.specs.Admission.{unit_of_test}
use Rattle.run_model.specs.Reruns.{is_one_test}
use Rattle.run_model.specs.Words.{finishes, finishes_in, is_running, starts, starts_in}
use Rattle.run_laws.specs.Limits.{slots_by, slots_in, slots_told}
use Rattle.run_laws_events.specs.Names.{NamesThePlan, NamesThePlanIn}
use Rattle.run_audit_model.specs.Seen.{as_audited, audited_kind, cancel_seen}
use Rattle.run_audit_model.specs.SeenLimits.{is_seen_finish, is_seen_running, is_seen_start, later_slot}
use Rattle.run_audit_model.specs.SeenLimits.{seen_slots_from}
use Rattle.run_laws_audit.proofs.IdLemmas.{ids_of, names_test, script_apart}
use Rattle.run_laws_audit.proofs.SumLemmas.{any-count, count-seen, once_running}

-- a cancel starts and finishes no test
record IsNoTest (why : Option CancelReason) (kill : Bool) : Type 0 where
  start : (id : TestInstanceId) → is_seen_start id (cancel_seen why kill) ≡ false
  finish : (id : TestInstanceId) → is_seen_finish id (cancel_seen why kill) ≡ false
  slot : (id : TestInstanceId) (before : Option TestSlotAssignment)
      → later_slot id (cancel_seen why kill) before ≡ before

no_test : (why : Option CancelReason) (kill : Bool) → IsNoTest why kill
no_test None kill = record { start = λ id. refl; finish = λ id. refl; slot = λ id before. refl }
no_test (Some reason) kill = record { start = λ id. refl; finish = λ id. refl; slot = λ id before. refl }

-- slots that are told by an event that starts a unit
slots_kind : (k : ℕ) (kind : TestEventKind) → starts_in k kind ≡ false → slots_in k kind ≡ None
slots_kind k (kinds.TestStarted event) none = ap (λ b. if b then Some event.start.slot else None) none
slots_kind k kind none = refl

slots_event : (k : ℕ) (e : ReporterEvent) → starts k e ≡ false → slots_by k e ≡ None
slots_event k Tick none = refl
slots_event k (Test event) none = slots_kind k event.kind none

-- where no start is told no slots are
none_first : (k : ℕ) (e : ReporterEvent) (events : List ReporterEvent) → count_by (starts k) (e ∷ events) ≡ 0
    → (starts k e ≡ false) × (count_by (starts k) events ≡ 0)
none_first k e events none = by_start (starts k e) (sym (sum_by-cons (λ e. cond (starts k e) 1 0) e events) ∙ none)
  where
    by_start : (b : Bool) → cond b 1 0 + count_by (starts k) events ≡ 0
        → (b ≡ false) × (count_by (starts k) events ≡ 0)
    by_start false is = (refl, omega arith)
    by_start true is = absurd (omega arith)

slots_none : (k : ℕ) (events : List ReporterEvent) → count_by (starts k) events ≡ 0 → slots_told k events ≡ None
slots_none k [] none = refl
slots_none k (e ∷ events) none =
    let both = none_first k e events none in
    ap (λ o. option_or o (slots_told k events)) (slots_event k e both.0) ∙ slots_none k events both.1

module _ (p : Settings) (index : Option StressIndex) (j : ℕ) (test : PlanTest)
    (once : IsDistinct is_one_test (ids_of p.plan.tests)) (there : slice_get p.plan.tests j ≡ Some test) where
  abbrev k : ℕ
  k = unit_of_test p j

  start_kind : (kind : TestEventKind) → NamesThePlanIn p index kind
      → is_seen_start test.id (audited_kind kind) ≡ starts_in k kind
  start_kind (kinds.SetupScriptStarted event) named = sym (script_apart p index event.script j named)
  start_kind (kinds.TestStarted event) named = names_test p index j test event.start.test once there named
  start_kind (kinds.RunBeginCancel event) named = (no_test event.stats.cancel_reason false).start test.id
  start_kind (kinds.RunBeginKill event) named = (no_test event.stats.cancel_reason true).start test.id
  start_kind kind named = refl

  finish_kind : (kind : TestEventKind) → NamesThePlanIn p index kind
      → is_seen_finish test.id (audited_kind kind) ≡ finishes_in k kind
  finish_kind (kinds.SetupScriptFinished event) named = sym (script_apart p index event.script j named)
  finish_kind (kinds.TestFinished event) named = names_test p index j test event.finish.test once there named
  finish_kind (kinds.RunBeginCancel event) named = (no_test event.stats.cancel_reason false).finish test.id
  finish_kind (kinds.RunBeginKill event) named = (no_test event.stats.cancel_reason true).finish test.id
  finish_kind kind named = refl

  slot_kind : (kind : TestEventKind) → NamesThePlanIn p index kind → (before : Option TestSlotAssignment)
      → later_slot test.id (audited_kind kind) before ≡ option_or (slots_in k kind) before
  slot_kind (kinds.TestStarted event) named before =
      ap (λ b. if b then Some event.start.slot else before)
      (names_test p index j test event.start.test once there named)
      ∙ by_start (event.start.test.unit == k)
    where
      by_start : (b : Bool) → (if b then Some event.start.slot else before)
          ≡ option_or (if b then Some event.start.slot else None) before
      by_start true = refl
      by_start false = refl
  slot_kind (kinds.RunBeginCancel event) named before = (no_test event.stats.cancel_reason false).slot test.id before
  slot_kind (kinds.RunBeginKill event) named before = (no_test event.stats.cancel_reason true).slot test.id before
  slot_kind kind named before = refl

  start_event : (e : ReporterEvent) → NamesThePlan p index e → is_seen_start test.id (as_audited e) ≡ starts k e
  start_event Tick named = refl
  start_event (Test event) named = start_kind event.kind named

  finish_event : (e : ReporterEvent) → NamesThePlan p index e → is_seen_finish test.id (as_audited e) ≡ finishes k e
  finish_event Tick named = refl
  finish_event (Test event) named = finish_kind event.kind named

  slot_event : (e : ReporterEvent) → NamesThePlan p index e → (before : Option TestSlotAssignment)
      → later_slot test.id (as_audited e) before ≡ option_or (slots_by k e) before
  slot_event Tick named before = refl
  slot_event (Test event) named before = slot_kind event.kind named before

  -- a test runs as it is told, where it starts and finishes once at most
  pub running_seen : (events : List ReporterEvent) → All (NamesThePlan p index) events
      → count_by (starts k) events ≤ 1 → count_by (finishes k) events ≤ 1
      → is_seen_running test.id (map as_audited events) ≡ is_running events k
  running_seen events named started finished =
      ap (λ n. nat_lt n (count_by (is_seen_start test.id) (map as_audited events)))
      (count-seen (is_seen_finish test.id) (finishes k) as_audited events
      (λ i d low. finish_event _ (named i d low)))
      ∙ ap (λ n. nat_lt (count_by (finishes k) events) n)
      (count-seen (is_seen_start test.id) (starts k) as_audited events (λ i d low. start_event _ (named i d low)))
      ∙ once_running (count_by (starts k) events) (count_by (finishes k) events) started finished
      ∙ ap (λ b. b && not (nat_lt 0 (count_by (finishes k) events))) (sym (any-count (starts k) events))
      ∙ ap (λ b. list_any (starts k) events && not b) (sym (any-count (finishes k) events))

  -- and in its slots
  slots_last : (events : List ReporterEvent) (before : Option TestSlotAssignment) → All (NamesThePlan p index) events
      → count_by (starts k) events ≡ 0 → seen_slots_from test.id before (map as_audited events) ≡ before
  slots_last [] before named none = refl
  slots_last (e ∷ events) before named none =
      let both = none_first k e events none in
      ap (λ o. seen_slots_from test.id o (map as_audited events))
      (slot_event e (All-head (NamesThePlan p index) e events named) before
      ∙ ap (λ o. option_or o before) (slots_event k e both.0))
      ∙ slots_last events before (All-tail (NamesThePlan p index) e events named) both.1

  pub slots_seen : (events : List ReporterEvent) → All (NamesThePlan p index) events
      → count_by (starts k) events ≤ 1
      → seen_slots_from test.id None (map as_audited events) ≡ slots_told k events
  slots_seen [] named most = refl
  slots_seen (e ∷ events) named most =
      by_start (starts k e) refl (slots_seen events (All-tail (NamesThePlan p index) e events named))
    where
      own : later_slot test.id (as_audited e) None ≡ option_or (slots_by k e) None
      own = slot_event e (All-head (NamesThePlan p index) e events named) None

      count : count_by (starts k) (e ∷ events) ≡ cond (starts k e) 1 0 + count_by (starts k) events
      count = sum_by-cons (λ e. cond (starts k e) 1 0) e events

      or_none : (o : Option TestSlotAssignment) → option_or o None ≡ o
      or_none None = refl
      or_none (Some slots) = refl

      by_start : (b : Bool) → starts k e ≡ b
          → (count_by (starts k) events ≤ 1
          → seen_slots_from test.id None (map as_audited events) ≡ slots_told k events)
          → seen_slots_from test.id (later_slot test.id (as_audited e) None) (map as_audited events)
          ≡ option_or (slots_by k e) (slots_told k events)
      by_start false is rest =
          let one : count_by (starts k) (e ∷ events) ≡ 0 + count_by (starts k) events =
          count ∙ ap (λ b. cond b 1 0 + count_by (starts k) events) is in
          ap (λ o. seen_slots_from test.id o (map as_audited events))
          (own ∙ ap (λ o. option_or o None) (slots_event k e is))
          ∙ rest (omega (arith, one, most))
          ∙ ap (λ o. option_or o (slots_told k events)) (sym (slots_event k e is))
      by_start true is rest =
          let one : count_by (starts k) (e ∷ events) ≡ 1 + count_by (starts k) events =
          count ∙ ap (λ b. cond b 1 0 + count_by (starts k) events) is in
          let none : count_by (starts k) events ≡ 0 = omega (arith, one, most) in
          ap (λ o. seen_slots_from test.id o (map as_audited events)) own
          ∙ slots_last events (option_or (slots_by k e) None) (All-tail (NamesThePlan p index) e events named) none
          ∙ ap (option_or (slots_by k e)) (sym (slots_none k events none))
