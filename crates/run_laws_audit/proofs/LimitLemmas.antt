-- After each event of a sub-run the tests that run, as they are seen, keep the limits and have slots of their own.
use Rattle.std.proofs.Common.{◌≡◌, ℕ, zero, suc, ◌+◌, ◌≤◌, min, nat_lt, List, [], ◌∷◌, ◌++◌, map, take, length}
use Rattle.std.proofs.Common.{Bool, true, false, if◌then◌else◌, Option, Some, None, option_map, count_by, cond}
use Rattle.std.proofs.Common.{slice_get, refl, ap, sym, subst, ◌∙◌, arith}
use Rattle.std.specs.List.{All, IsDistinct}
use Rattle.std.proofs.lemmas.List.{take-append-le, take-map, take_min}
use Rattle.std.proofs.lemmas.List.Elements.{All-head, All-tail, All-take}
use Rattle.std.proofs.lemmas.List.Sums.{sum_by-cons, sum_by-take-le}
use Rattle.run_events.specs.Stats.{one_if}
use Rattle.run_events.specs.declared.events.ReporterEvent.{ReporterEvent}
use Rattle.run_events.specs.declared.plan.GroupSlot.{GroupSlot}
use Rattle.run_events.specs.declared.plan.PlanTest.{PlanTest}
use Rattle.run_events.specs.declared.plan.TestInstanceId.{TestInstanceId}
use Rattle.run_events.specs.declared.plan.TestSlotAssignment.{TestSlotAssignment}
use Rattle.run_events.specs.declared.settings.Settings.{Settings}
use Rattle.run_events.specs.declared.stress.StressIndex.{StressIndex}
use Rattle.run_model.specs.Admission.{scripts_in, unit_of_test}
use Rattle.run_model.specs.Reruns.{is_one_test}
use Rattle.run_model.specs.Words.{finishes, starts}
use Rattle.run_laws_calls.specs.Counts.{IsToldAtMostOnce, is_to_run}
use Rattle.run_laws_events.specs.Names.{NamesThePlan}
use Rattle.run_laws_events.specs.PlanLimits.{HasPlanSlots, IsRunningIn, KeepsPlanLimits}
use Rattle.run_laws_events.specs.PlanLimits.{group_weight_told, is_of_group, weight_told}
use Rattle.run_audit_model.specs.Seen.{as_audited}
use Rattle.run_audit_model.specs.SeenLimits.{KeepsSeenLimits, KeepsTold, RunsIn, SlotsDiffer, is_seen_finish}
use Rattle.run_audit_model.specs.SeenLimits.{is_seen_running, is_seen_start, later_slot, seen_group_weight}
use Rattle.run_audit_model.specs.SeenLimits.{seen_slots_from}
use Rattle.run_audit_model.specs.SeenLimits.{seen_weight}
use Rattle.run_audit_model.specs.declared.audit_event.AuditEvent.{AuditEvent}
use Rattle.run_audit_model.specs.declared.audit_event.AuditEvent.TheVariants as seen
use Rattle.run_laws_audit.proofs.EdgeLemmas.{IsEdge, Ignores}
use Rattle.run_laws_audit.proofs.IdLemmas.{ids_of}
use Rattle.run_laws_audit.proofs.RunningSeen.{running_seen, slots_seen}
use Rattle.run_laws_audit.proofs.SumLemmas.{none-add, sum-numbered, sum-same}

-- told events that name the plan, and start and finish each unit once at most
pub record AreOnce (p : Settings) (index : Option StressIndex) (events : List ReporterEvent) : Type 0 where
  pub named : All (NamesThePlan p index) events
  pub starts : (k : ℕ) → count_by (starts k) events ≤ 1
  pub finishes : (k : ℕ) → count_by (finishes k) events ≤ 1

-- so do the first of them
pub first_once : (p : Settings) (index : Option StressIndex) (events : List ReporterEvent) (n : ℕ)
    → All (NamesThePlan p index) events → ((k : ℕ) → IsToldAtMostOnce p events k) → AreOnce p index (take n events)
first_once p index events n named most = record {
  named = All-take (NamesThePlan p index) n events named;
  starts = λ k.
      let told = (most k).starts in
      let one : one_if (is_to_run p k) ≤ 1 = at_most (is_to_run p k) in
      let first = sum_by-take-le (λ e. cond (starts k e) 1 0) events n in
      omega (arith, told, one, first);
  finishes = λ k.
      let told = (most k).starts in
      let over = (most k).finishes in
      let one : one_if (is_to_run p k) ≤ 1 = at_most (is_to_run p k) in
      let first = sum_by-take-le (λ e. cond (finishes k e) 1 0) events n in
      omega (arith, told, over, one, first);
}
  where
    at_most : (b : Bool) → one_if b ≤ 1
    at_most true = omega arith
    at_most false = omega arith

-- they keep the limits as they are seen
limits_seen : (p : Settings) (index : Option StressIndex) (events : List ReporterEvent)
    → IsDistinct is_one_test (ids_of p.plan.tests) → AreOnce p index events → KeepsPlanLimits p events
    → KeepsSeenLimits p (map as_audited events)
limits_seen p index events once so kept = record {
  all =
      let same = sum-numbered (seen_weight (map as_audited events) p.threads) (weight_told events p.threads)
      p.plan.tests (scripts_in p) (λ j test there. weight p.threads j test there) in
      omega (arith, same, kept.all);
  groups = λ name group there.
      let same = sum-numbered (seen_group_weight (map as_audited events) name group.limit)
      (group_weight_told events name group.limit) p.plan.tests (scripts_in p)
      (λ j test there. ap (λ n. if is_of_group name test then n else 0) (weight group.limit j test there)) in
      omega (arith, same, kept.groups name group there);
}
  where
    weight : (limit j : ℕ) (test : PlanTest) → slice_get p.plan.tests j ≡ Some test
        → seen_weight (map as_audited events) limit test ≡ weight_told events limit (test, scripts_in p + j)
    weight limit j test there =
        ap (λ b. if b then min test.weight limit else 0)
        (running_seen p index j test once there events so.named (so.starts (unit_of_test p j))
        (so.finishes (unit_of_test p j)))

-- and have slots of their own
runs_so : (p : Settings) (index : Option StressIndex) (events : List ReporterEvent)
    → IsDistinct is_one_test (ids_of p.plan.tests) → AreOnce p index events → (j : ℕ) (test : PlanTest)
    (slots : TestSlotAssignment) → RunsIn p (map as_audited events) j test slots → IsRunningIn p events j test slots
runs_so p index events once so j test slots runs = record {
  planned = runs.planned;
  running = sym (running_seen p index j test once runs.planned events so.named (so.starts (unit_of_test p j))
      (so.finishes (unit_of_test p j))) ∙ runs.running;
  told = sym (slots_seen p index j test once runs.planned events so.named (so.starts (unit_of_test p j))) ∙ runs.told;
}

-- two slots of one group with one number are one
record IsSlotOf (name : List ℕ) (group : Option GroupSlot) : Type 0 where
  slot : GroupSlot
  is : group ≡ Some slot
  named : slot.name ≡ name

slot_of : (name : List ℕ) (group : Option GroupSlot) → option_map (λ g. g.name) group ≡ Some name
    → IsSlotOf name group
slot_of name None is = cc
slot_of name (Some g) is = record { slot = g; is = refl; named = cc }

same_slot : (name : List ℕ) (first second : Option GroupSlot) (a : IsSlotOf name first) (b : IsSlotOf name second)
    → option_map (λ g. g.slot) first ≡ option_map (λ g. g.slot) second → a.slot ≡ b.slot
same_slot name first second a b same =
    let number : Some a.slot.slot ≡ Some b.slot.slot =
    ap (option_map (λ g. g.slot)) (sym a.is) ∙ same ∙ ap (option_map (λ g. g.slot)) b.is in
    let slot : a.slot.slot ≡ b.slot.slot = cc in
    ap (λ n. record a.slot { slot = n }) slot
    ∙ ap (λ name. record b.slot { name = name }) (a.named ∙ sym b.named)

slots_differ : (p : Settings) (index : Option StressIndex) (events : List ReporterEvent)
    → IsDistinct is_one_test (ids_of p.plan.tests) → AreOnce p index events → HasPlanSlots p events
    → SlotsDiffer p (map as_audited events)
slots_differ p index events once so has = record {
  all = λ i j a b s t first second same.
      has.own i j a b s t (runs i a s first) (runs j b t second) same;
  groups = λ i j a b s t name first second of_a of_b same.
      let one = slot_of name s.group (has.group i a s (runs i a s first) ∙ of_a) in
      let two = slot_of name t.group (has.group j b t (runs j b t second) ∙ of_b) in
      has.group_own i j a b s t one.slot (runs i a s first) (runs j b t second) one.is
      (two.is ∙ ap Some (sym (same_slot name s.group t.group one two same)));
}
  where
    runs : (j : ℕ) (test : PlanTest) (slots : TestSlotAssignment) → RunsIn p (map as_audited events) j test slots
        → IsRunningIn p events j test slots
    runs = runs_so p index events once so

-- so after each event of a sub-run
pub limits_kept : (p : Settings) (index : Option StressIndex) (events : List ReporterEvent)
    → IsDistinct is_one_test (ids_of p.plan.tests) → All (NamesThePlan p index) events
    → ((k : ℕ) → IsToldAtMostOnce p events k)
    → ((n : ℕ) → KeepsPlanLimits p (take n events) × HasPlanSlots p (take n events))
    → KeepsTold p (map as_audited events)
limits_kept p index events once named most kept n =
    subst (λ es. KeepsSeenLimits p es × SlotsDiffer p es) (sym (take-map as_audited n events)) (
      limits_seen p index (take n events) once first (kept n).0,
      slots_differ p index (take n events) once first (kept n).1,
    )
  where
    first : AreOnce p index (take n events)
    first = first_once p index events n named most

-- two lists of events of which the same tests run in the same slots
record RunsAlike (first second : List AuditEvent) : Type 0 where
  running : (id : TestInstanceId) → is_seen_running id first ≡ is_seen_running id second
  slots : (id : TestInstanceId) → seen_slots_from id None first ≡ seen_slots_from id None second

alike_limits : (p : Settings) (first second : List AuditEvent) → RunsAlike first second → KeepsSeenLimits p first
    → KeepsSeenLimits p second
alike_limits p first second alike kept = record {
  all =
      let same = sum-same (seen_weight first p.threads) (seen_weight second p.threads) p.plan.tests
      (weight p.threads) in
      omega (arith, same, kept.all);
  groups = λ name group there.
      let same = sum-same (seen_group_weight first name group.limit) (seen_group_weight second name group.limit)
      p.plan.tests (λ test. ap (λ n. if is_of_group name test then n else 0) (weight group.limit test)) in
      omega (arith, same, kept.groups name group there);
}
  where
    weight : (limit : ℕ) (test : PlanTest) → seen_weight first limit test ≡ seen_weight second limit test
    weight limit test = ap (λ b. if b then min test.weight limit else 0) (alike.running test.id)

alike_runs : (p : Settings) (first second : List AuditEvent) → RunsAlike first second → (j : ℕ) (test : PlanTest)
    (slots : TestSlotAssignment) → RunsIn p second j test slots → RunsIn p first j test slots
alike_runs p first second alike j test slots runs = record {
  planned = runs.planned;
  running = alike.running test.id ∙ runs.running;
  told = alike.slots test.id ∙ runs.told;
}

alike_differ : (p : Settings) (first second : List AuditEvent) → RunsAlike first second → SlotsDiffer p first
    → SlotsDiffer p second
alike_differ p first second alike kept = record {
  all = λ i j a b s t one two same.
      kept.all i j a b s t (alike_runs p first second alike i a s one) (alike_runs p first second alike j b t two) same;
  groups = λ i j a b s t name one two of_a of_b same.
      kept.groups i j a b s t name (alike_runs p first second alike i a s one)
      (alike_runs p first second alike j b t two) of_a of_b same;
}

-- edges start and finish no test
record IsEdgeOf (e : AuditEvent) : Type 0 where
  start : (id : TestInstanceId) → is_seen_start id e ≡ false
  finish : (id : TestInstanceId) → is_seen_finish id e ≡ false
  slot : (id : TestInstanceId) (before : Option TestSlotAssignment) → later_slot id e before ≡ before

edge_of : (e : AuditEvent) → IsEdge e → IsEdgeOf e
edge_of seen.RunStarted edge = record { start = λ id. refl; finish = λ id. refl; slot = λ id before. refl }
edge_of seen.RunFinished edge = record { start = λ id. refl; finish = λ id. refl; slot = λ id before. refl }
edge_of seen.SubRunStarted edge = record { start = λ id. refl; finish = λ id. refl; slot = λ id before. refl }
edge_of seen.SubRunFinished edge = record { start = λ id. refl; finish = λ id. refl; slot = λ id before. refl }
edge_of e edge = absurd edge

-- so events after them are as they are alone
edge_alike : (e : AuditEvent) (first second : List AuditEvent) → IsEdge e → RunsAlike first second
    → RunsAlike (e ∷ first) second
edge_alike e first second edge alike = record {
  running = λ id.
      ap (λ n. nat_lt n (count_by (is_seen_start id) (e ∷ first)))
      (sum_by-cons (λ e. cond (is_seen_finish id e) 1 0) e first
      ∙ ap (λ b. cond b 1 0 + count_by (is_seen_finish id) first) (it.finish id)
      ∙ none-add (count_by (is_seen_finish id) first))
      ∙ ap (nat_lt (count_by (is_seen_finish id) first)) (sum_by-cons (λ e. cond (is_seen_start id e) 1 0) e first
      ∙ ap (λ b. cond b 1 0 + count_by (is_seen_start id) first) (it.start id)
      ∙ none-add (count_by (is_seen_start id) first))
      ∙ alike.running id;
  slots = λ id. ap (λ o. seen_slots_from id o first) (it.slot id None) ∙ alike.slots id;
}
  where
    it : IsEdgeOf e
    it = edge_of e edge

edges_alike : (before events : List AuditEvent) → All IsEdge before → RunsAlike (before ++ events) events
edges_alike [] events all = record { running = λ id. refl; slots = λ id. refl }
edges_alike (e ∷ before) events all =
    edge_alike e (before ++ events) events (All-head IsEdge e before all)
    (edges_alike before events (All-tail IsEdge e before all))

alike_back : (first second : List AuditEvent) → RunsAlike first second → RunsAlike second first
alike_back first second alike = record { running = λ id. sym (alike.running id); slots = λ id. sym (alike.slots id) }

alike_kept : (p : Settings) (first second : List AuditEvent) → RunsAlike first second
    → KeepsSeenLimits p first × SlotsDiffer p first → KeepsSeenLimits p second × SlotsDiffer p second
alike_kept p first second alike kept =
    (alike_limits p first second alike kept.0, alike_differ p first second alike kept.1)

-- the first of a part, after what stands before it
take_within : (before part after : List AuditEvent) (n : ℕ)
    → take (length before + min n (length part)) (before ++ (part ++ after)) ≡ before ++ take n part
take_within [] part after n =
    ap (λ m. take m (part ++ after)) (none-add (min n (length part)))
    ∙ take-append-le (min n (length part)) part after (omega arith) ∙ take_min n part
take_within (b ∷ before) part after n =
    ap (λ m. take m (b ∷ before ++ (part ++ after))) (one_more (length before) (min n (length part)))
    ∙ ap (λ es. b ∷ es) (take_within before part after n)
  where
    one_more : (n m : ℕ) → suc n + m ≡ suc (n + m)
    one_more n m = omega arith

pub ignores : (p : Settings) → Ignores (KeepsTold p)
ignores p = record {
  between = λ before part after opens closes kept n.
      alike_kept p (before ++ take n part) (take n part) (edges_alike before (take n part) opens)
      (subst (λ es. KeepsSeenLimits p es × SlotsDiffer p es) (take_within before part after n)
      (kept (length before + min n (length part))));
  start = λ part kept n. with_start part kept n;
}
  where
    with_start : (part : List AuditEvent) → KeepsTold p part → KeepsTold p (seen.RunStarted ∷ part)
    with_start part kept zero = kept zero
    with_start part kept (suc n) =
        alike_kept p (take n part) (seen.RunStarted ∷ take n part)
        (alike_back (seen.RunStarted ∷ take n part) (take n part)
        (edge_alike seen.RunStarted (take n part) (take n part) tt
        (record { running = λ id. refl; slots = λ id. refl }))) (kept n)
