-- The retries of a test are told in order.
use Rattle.std.proofs.Common.{◌≡◌, ℕ, zero, suc, ◌+◌, ◌<◌, ◌==◌, List, [], ◌∷◌, ◌++◌, map, length, Bool, true, false}
use Rattle.std.proofs.Common.{if◌then◌else◌, Option, Some, None, is_none, filter_map, refl, ap, sym, subst, ◌∙◌, arith}
use Rattle.std.specs.List.{cons_option, range_with_len}
use Rattle.std.specs.Option.{option_or}
use Rattle.std.proofs.lemmas.List.FromFn.{length-map-range_with_len}
use Rattle.run_events.specs.declared.events.ReporterEvent.{ReporterEvent}
use Rattle.run_events.specs.declared.events.ReporterEvent.TheVariants.{Tick, Test}
use Rattle.run_events.specs.declared.events.TestEventKind.{TestEventKind}
use Rattle.run_events.specs.declared.events.TestEventKind.TheVariants as kinds
use Rattle.run_events.specs.declared.message.Message.{Message}
use Rattle.run_events.specs.declared.message.Message.TheVariants.{ScriptStart, Start, Retry}
use Rattle.run_events.specs.declared.message.TestRetry.{TestRetry}
use Rattle.run_events.specs.declared.plan.PlanTest.{PlanTest}
use Rattle.run_events.specs.declared.plan.TestSlotAssignment.{TestSlotAssignment}
use Rattle.run_events.specs.declared.settings.Settings.{Settings}
use Rattle.run_model.specs.declared.entry.Entry.{Entry}
use Rattle.run_model.specs.Journal.{history, IsLegalBackward}
use Rattle.run_model.specs.Turns.{starting, happening}
use Rattle.run_model.specs.Words.{sent, sub_run, told, unit_of}
use Rattle.run_laws.specs.Laws.{Extends}
use Rattle.run_laws.specs.Limits.{slots_in, slots_by, slots_told}
use Rattle.run_laws_events.specs.Names.{test_of_unit}
use Rattle.run_laws_events.specs.Retries.{AreRetriesInOrder, retry_as, retry_in, retry_told, retries_as, retries_told}
use Rattle.run_laws_events.proofs.Goes.{sent_gos}
use Rattle.run_laws_events.proofs.GoRows.{HasGos, go_as, go_in, gos_as, gos_in, start_as, unit_slots}
use Rattle.run_laws_events.proofs.InOrder.{told_first}
use Rattle.run_laws_events.proofs.Told.{message_in, message_of, messages_of}
use Rattle.run_events.specs.declared.stress.StressIndex.{StressIndex}
use Rattle.run_model.specs.SubRuns.{stress_index}
use Rattle.run_laws.proofs.told.Indexes.{IsOfIndex, indexed}
use Rattle.run_laws_events.proofs.GoRows.{gos-none, unit_index}
use Rattle.run_model.specs.declared.unit_view.UnitView.{UnitView}
use Rattle.run_model.specs.declared.happening.Happening.{Happening}
use Rattle.run_laws_events.specs.Slots.{slots_in_role}

-- the first of a list that is made of numbers in order
firsts : {X : Type 0} (f : ℕ → X) (xs more : List X) (a n : ℕ) → map f (range_with_len a n) ≡ xs ++ more
    → xs ≡ map f (range_with_len a (length xs))
firsts f [] more a n is = refl
firsts f (x ∷ xs) more a zero is = cc
firsts f (x ∷ xs) more a (suc n) is =
    let first : f a ≡ x = cc in
    let rest : map f (range_with_len (a + 1) n) ≡ xs ++ more = cc in
    ap (λ y. y ∷ xs) (sym first) ∙ ap (λ ys. f a ∷ ys) (firsts f xs more (a + 1) n rest)

-- those of starts and retries that are retries, and the slots of the first start
abbrev retry_of : Message → Option TestRetry
retry_of (Retry retry) = Some retry
retry_of _ = None

abbrev slots_of : List Message → Option TestSlotAssignment
slots_of [] = None
slots_of (Start start ∷ ms) = Some start.slot
slots_of (m ∷ ms) = slots_of ms

only_starts : (k : ℕ) (m : Message) → is_none (starting m) ≡ true → go_in k m ≡ None
only_starts k (ScriptStart start) is = cc
only_starts k (Start start) is = cc
only_starts k (Retry retry) is = cc
only_starts k m is = refl

-- what events tell of starts and retries
retry_one : (k : ℕ) (e : ReporterEvent) (ms : List Message)
    → filter_map retry_of (filter_map (go_in k) (cons_option (message_of e) ms))
    ≡ cons_option (retry_told k e) (filter_map retry_of (filter_map (go_in k) ms))
retry_one k Tick ms = refl
retry_one k (Test e) ms = by_kind e.kind
  where
    by_kind : (kind : TestEventKind) → filter_map retry_of (filter_map (go_in k) (cons_option (message_in kind) ms))
        ≡ cons_option (retry_in k kind) (filter_map retry_of (filter_map (go_in k) ms))
    by_kind (kinds.TestStarted event) = by_unit (event.start.test.unit == k)
      where
        by_unit : (b : Bool)
            → filter_map retry_of (cons_option (if b then Some (Start event.start) else None) (filter_map (go_in k) ms))
            ≡ filter_map retry_of (filter_map (go_in k) ms)
        by_unit true = refl
        by_unit false = refl
    by_kind (kinds.TestRetryStarted event) = by_unit (event.retry.start.test.unit == k)
      where
        by_unit : (b : Bool)
            → filter_map retry_of (cons_option (if b then Some (Retry event.retry) else None) (filter_map (go_in k) ms))
            ≡ cons_option (if b then Some event.retry else None) (filter_map retry_of (filter_map (go_in k) ms))
        by_unit true = refl
        by_unit false = refl
    by_kind kind = refl

retries-told : (k : ℕ) (es : List ReporterEvent) → filter_map retry_of (gos_in k (messages_of es)) ≡ retries_told k es
retries-told k [] = refl
retries-told k (e ∷ es) = retry_one k e (messages_of es) ∙ ap (cons_option (retry_told k e)) (retries-told k es)

slots_one : (k : ℕ) (e : ReporterEvent) (ms : List Message)
    → slots_of (filter_map (go_in k) (cons_option (message_of e) ms))
    ≡ option_or (slots_by k e) (slots_of (filter_map (go_in k) ms))
slots_one k Tick ms = refl
slots_one k (Test e) ms = by_kind e.kind
  where
    by_kind : (kind : TestEventKind) → slots_of (filter_map (go_in k) (cons_option (message_in kind) ms))
        ≡ option_or (slots_in k kind) (slots_of (filter_map (go_in k) ms))
    by_kind (kinds.TestStarted event) = by_unit (event.start.test.unit == k)
      where
        by_unit : (b : Bool)
            → slots_of (cons_option (if b then Some (Start event.start) else None) (filter_map (go_in k) ms))
            ≡ option_or (if b then Some event.start.slot else None) (slots_of (filter_map (go_in k) ms))
        by_unit true = refl
        by_unit false = refl
    by_kind (kinds.TestRetryStarted event) = by_unit (event.retry.start.test.unit == k)
      where
        by_unit : (b : Bool)
            → slots_of (cons_option (if b then Some (Retry event.retry) else None) (filter_map (go_in k) ms))
            ≡ slots_of (filter_map (go_in k) ms)
        by_unit true = refl
        by_unit false = refl
    by_kind kind = refl

slots-told : (k : ℕ) (es : List ReporterEvent) → slots_of (gos_in k (messages_of es)) ≡ slots_told k es
slots-told k [] = refl
slots-told k (e ∷ es) = slots_one k e (messages_of es) ∙ ap (option_or (slots_by k e)) (slots-told k es)

-- those of a list in order
retries_in_order : (p : Settings) (index : Option StressIndex) (k : ℕ) (test : PlanTest) (slot : TestSlotAssignment)
    (n a : ℕ) → 1 < a
    → filter_map retry_of (map (go_as p index k test slot) (range_with_len a n))
    ≡ map (retry_as p index k test slot) (range_with_len a n)
retries_in_order p index k test slot zero a above = refl
retries_in_order p index k test slot (suc n) a above =
    let later : (a == 1) ≡ false = grind arith in
    ap (λ b. filter_map retry_of ((if b then Start (start_as p index k test slot) else Retry
    (retry_as p index k test slot a))
    ∷ map (go_as p index k test slot) (range_with_len (a + 1) n))) later
    ∙ ap (λ rs. retry_as p index k test slot a ∷ rs) (retries_in_order p index k test slot n (a + 1) (omega arith))

retries-zero : (p : Settings) (index : Option StressIndex) (k : ℕ) (o : Option PlanTest)
    (s : Option TestSlotAssignment) → retries_as p index k o s 0 ≡ []
retries-zero p index k None s = refl
retries-zero p index k (Some test) None = refl
retries-zero p index k (Some test) (Some slot) = refl

-- so the retries among starts and retries in order are the plan's
abbrev IsOrdered : Settings → Option StressIndex → ℕ → List Message → Type 0
IsOrdered p index k ms =
    filter_map retry_of ms ≡ retries_as p index k (test_of_unit p k) (slots_of ms) (length (filter_map retry_of ms))

none_ordered : (p : Settings) (index : Option StressIndex) (k : ℕ) → IsOrdered p index k []
none_ordered p index k = sym (retries-zero p index k (test_of_unit p k) None)

some_ordered : (p : Settings) (index : Option StressIndex) (k : ℕ) (test : PlanTest) (slot : TestSlotAssignment) (n : ℕ)
    → test_of_unit p k ≡ Some test
    → IsOrdered p index k (map (go_as p index k test slot) (range_with_len 1 n))
some_ordered p index k test slot zero planned = none_ordered p index k
some_ordered p index k test slot (suc n) planned =
    let retries : filter_map retry_of (map (go_as p index k test slot) (range_with_len 2 n))
    ≡ map (retry_as p index k test slot) (range_with_len 2 n) =
    retries_in_order p index k test slot n 2 (omega arith) in
    let many : length (filter_map retry_of (map (go_as p index k test slot) (range_with_len 2 n))) ≡ n =
    ap length retries ∙ length-map-range_with_len (retry_as p index k test slot) 2 n in
    retries ∙ sym (ap (λ n. map (retry_as p index k test slot) (range_with_len 2 n)) many)
    ∙ sym (ap (λ o. retries_as p index k o (Some slot)
    (length (filter_map retry_of (map (go_as p index k test slot) (range_with_len 2 n)))))
    planned)

ordered : (p : Settings) (index : Option StressIndex) (k n : ℕ) (o : Option PlanTest) (s : Option TestSlotAssignment)
    (ms : List Message)
    → test_of_unit p k ≡ o → Extends ms (gos_as p index k o s n) → IsOrdered p index k ms
ordered p index k n None s [] planned (more, is) = none_ordered p index k
ordered p index k n None s (m ∷ ms) planned (more, is) = cc
ordered p index k n (Some test) None [] planned (more, is) = none_ordered p index k
ordered p index k n (Some test) None (m ∷ ms) planned (more, is) = cc
ordered p index k n (Some test) (Some slot) ms planned (more, is) =
    subst (IsOrdered p index k) (sym (firsts (go_as p index k test slot) ms more 1 n is))
    (some_ordered p index k test slot (length ms) planned)

-- of events
pub told_ordered : (p : Settings) (index : Option StressIndex) (k : ℕ) (es : List ReporterEvent)
    → IsOrdered p index k (gos_in k (messages_of es))
    → AreRetriesInOrder p index k es
told_ordered p index k es h =
    sym (retries-told k es) ∙ h
    ∙ ap (λ s. retries_as p index k (test_of_unit p k) s (length (filter_map retry_of (gos_in k (messages_of es)))))
    (slots-told k es)
    ∙ ap (λ rs. retries_as p index k (test_of_unit p k) (slots_told k es) (length rs)) (retries-told k es)

-- a unit that was admitted is of the newest sub-run
same_gos : (p : Settings) (index : Option StressIndex) (k n : ℕ) (v : Option UnitView) → IsOfIndex index v
    → gos_as p (unit_index v) k (test_of_unit p k) (unit_slots v) n ≡ gos_as p index k
    (test_of_unit p k) (unit_slots v) n
same_gos p index k n None it = gos-none p None k n (test_of_unit p k) ∙ sym (gos-none p index k n (test_of_unit p k))
same_gos p index k n (Some u) it = ap (λ i. gos_as p i k (test_of_unit p k) (slots_in_role u.role) n) it

pub retries_ordered : (p : Settings) (backward : List Entry) → IsLegalBackward p backward → (k : ℕ)
    → AreRetriesInOrder p (stress_index p (history p backward)) k (told (sub_run (history p backward)))
retries_ordered p backward legal k =
    told_ordered p index k (told run)
    (ordered p index k all.count (test_of_unit p k) (unit_slots (unit_of k run))
    (gos_in k (messages_of (told run))) refl
    (subst (Extends (gos_in k (messages_of (told run))))
    (all.sent ∙ same_gos p index k all.count (unit_of k run) (indexed p backward legal k))
    (told_first p (go_in k) (only_starts k) backward legal)))
  where
    run : List Happening
    run = sub_run (history p backward)

    index : Option StressIndex
    index = stress_index p (history p backward)

    all : HasGos p k (unit_of k run) (sent run)
    all = sent_gos p backward legal k
