-- The tests that the events of a deed tell started or skipped.
use Rattle.std.proofs.Common.{◌≡◌, ◌++◌, ◌∷◌, [], ◌||◌, cond, not, Bool, true, false, refl, ap, sym, ◌∙◌}
use Rattle.std.proofs.Common.{ℕ, subst, List, Option, Some, None, Result, Ok, Err, IfOk, option_map, option_to_list}
use Rattle.std.specs.List.{filter, list_any}
use Rattle.std.proofs.lemmas.List.Folds.{list_any-append}
use Rattle.run_capture.proofs.Facts.{or_false}
use Rattle.run_events.specs.declared.events.ReporterEvent.{ReporterEvent}
use Rattle.run_events.specs.declared.events.ReporterEvent.TheVariants.{Test}
use Rattle.run_events.specs.declared.events.TestEvent.{TestEvent}
use Rattle.run_events.specs.declared.events.TestEventKind.{TestEventKind}
use Rattle.run_events.specs.declared.events.TestEventKind.TheVariants.{TestStarted, TestSkipped}
use Rattle.run_events.specs.declared.plan.TestInstanceId.{TestInstanceId}
use Rattle.run_model.specs.Board.{Deed, deed_events, dispatched, cleared}
use Rattle.run_model.specs.Reruns.{is_one_test, sees, unseen_among}
use Rattle.run_model.specs.declared.dispatcher_view.DispatcherView.{DispatcherView}
use Rattle.run_model.proofs.RerunLemmas.{unseen-none, unseen-one}
use Rattle.run_dispatch.specs.Deeds.{Acts, Does, having_seen, with_seen, unseen_after}
use Rattle.run_dispatch.specs.declared.effects.DispatchEffects.{DispatchEffects}

-- what one event leaves
seen_by : (event : TestEvent) (kind : TestEventKind) (unseen : Option (List TestInstanceId))
    → option_map (unseen_among (Test (record event { kind = kind }) ∷ [])) unseen ≡ unseen_after kind unseen
seen_by event (TestStarted told) unseen =
    unseen-one told.start.test.id (Test (record event { kind = TestStarted told }) ∷ [])
    (λ id. or_false (is_one_test told.start.test.id id)) unseen
seen_by event (TestSkipped told) unseen =
    unseen-one told.test.id (Test (record event { kind = TestSkipped told }) ∷ [])
    (λ id. or_false (is_one_test told.test.id id)) unseen
seen_by event kind unseen = unseen-none (Test (record event { kind = kind }) ∷ []) (λ id. refl) unseen

seen-told : (told : Option ReporterEvent) (unseen : Option (List TestInstanceId))
    → option_map (unseen_among (option_to_list told)) unseen ≡ having_seen unseen told
seen-told None unseen = unseen-none [] (λ id. refl) unseen
seen-told (Some (Test event)) unseen = seen_by event event.kind unseen
seen-told (Some event) unseen = unseen-none (event ∷ []) (λ id. refl) unseen

-- what some events leave, and then others
both_pass : {X : Type 0} (p q r : X → Bool) → ((x : X) → r x ≡ (p x || q x)) → (xs : List X)
    → filter (λ x. not (r x)) xs ≡ filter (λ x. not (q x)) (filter (λ x. not (p x)) xs)
both_pass p q r h [] = refl
both_pass p q r h (x ∷ xs) =
    ap (λ b. cond (not b) (x ∷ filter (λ x. not (r x)) xs) (filter (λ x. not (r x)) xs)) (h x)
    ∙ by (p x) (both_pass p q r h xs)
  where
    by : (b : Bool) → filter (λ x. not (r x)) xs ≡ filter (λ x. not (q x)) (filter (λ x. not (p x)) xs)
        → cond (not (b || q x)) (x ∷ filter (λ x. not (r x)) xs) (filter (λ x. not (r x)) xs)
        ≡ filter (λ x. not (q x)) (cond (not b) (x ∷ filter (λ x. not (p x)) xs) (filter (λ x. not (p x)) xs))
    by true is = is
    by false is = ap (λ ys. cond (not (q x)) (x ∷ ys) ys) is

seen-append : (events more : List ReporterEvent) (unseen : Option (List TestInstanceId))
    → option_map (unseen_among (events ++ more)) unseen
    ≡ option_map (unseen_among more) (option_map (unseen_among events) unseen)
seen-append events more None = refl
seen-append events more (Some ids) =
    ap Some
    (both_pass (λ id. list_any (sees id) events) (λ id. list_any (sees id) more)
    (λ id. list_any (sees id) (events ++ more))
    (λ id. list_any-append (sees id) events more) ids)

seen-both : (told after : Option ReporterEvent) (unseen : Option (List TestInstanceId))
    → option_map (unseen_among (option_to_list told ++ option_to_list after)) unseen
    ≡ having_seen (having_seen unseen told) after
seen-both told after unseen =
    seen-append (option_to_list told) (option_to_list after) unseen
    ∙ seen-told after (option_map (unseen_among (option_to_list told)) unseen)
    ∙ ap (λ u. having_seen u after) (seen-told told unseen)

-- a sub-run that begins has seen what was seen before it
kept : (begins : Bool) (d : DispatcherView) → (cond begins (cleared d) d).rerun ≡ d.rerun
kept true d = refl
kept false d = refl

-- the dispatcher after a deed is the same whether tests are seen event by event, or at once
pub with_seen-same : (now : ℕ) (d : DispatcherView) (deed : Deed) → with_seen now d deed ≡ dispatched now d deed
with_seen-same now d deed =
    ap (λ unseen. record (dispatched now d deed) { rerun = unseen })
    (sym (seen-both deed.told deed.after d.rerun)
    ∙ ap (option_map (unseen_among (deed_events deed))) (sym (kept deed.begins d)))

pub does_so : (now : ℕ) (d : DispatcherView) (deed : Deed) (go : Option Bool) (new : DispatcherView)
    (fx : DispatchEffects)
    → Acts now d deed go new fx → Does now d deed go new fx
does_so now d deed go new fx acts = record {
  told = acts.told;
  request = acts.request;
  asked = acts.asked;
  go = acts.go;
  after = acts.after ∙ with_seen-same now d deed;
}

-- so a part of a call does what the call does
pub does_as : {E : Type 0} (now : ℕ) (d : DispatcherView) (deed : Deed) (go : Option Bool) (new : DispatcherView)
    (answer : Result DispatchEffects E) → IfOk answer (Acts now d deed go new) → IfOk answer (Does now d deed go new)
does_as now d deed go new (Ok fx) acts = does_so now d deed go new fx acts
does_as now d deed go new (Err error) acts = tt

pub does_always : {E : Type 0} (d : DispatcherView) (deed : Deed) (answer : Result DispatchEffects E)
    → IfOk answer (λ fx. (now : ℕ) → Acts now d deed None d fx)
    → IfOk answer (λ fx. (now : ℕ) → Does now d deed None d fx)
does_always d deed (Ok fx) acts = λ now. does_so now d deed None d fx (acts now)
does_always d deed (Err error) acts = tt

-- the same of a dispatcher that is equal to that of the part
pub does_seen : {E : Type 0} (now : ℕ) (d old : DispatcherView) (deed : DispatcherView → Deed) (new : DispatcherView)
    (answer : Result DispatchEffects E) → d ≡ old → IfOk answer (Acts now d (deed d) None new)
    → IfOk answer (Does now old (deed old) None new)
does_seen now d old deed new answer same acts =
    subst (λ (d : DispatcherView). IfOk answer (Does now d (deed d) None new)) same
    (does_as now d (deed d) None new answer acts)

-- and of what was heard
pub heard_does : {E H : Type 0} (now : ℕ) (d : DispatcherView) (deed : H → Deed) (new : DispatcherView)
    (answer : Result DispatchEffects E) → {heard is : H} → heard ≡ is → IfOk answer (Acts now d (deed heard) None new)
    → IfOk answer (Acts now d (deed is) None new)
heard_does now d deed new answer same acts =
    subst (λ heard. IfOk answer (Acts now d (deed heard) None new)) same acts
