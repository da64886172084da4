-- What machines accept that are put together, and where one stops that accepts just what keeps a law.
use Rattle.std.proofs.Common.{◌≡◌, ◌∙◌, ℕ, List, [], ◌∷◌, ◌++◌, map, Option, Some, None}
use Rattle.std.proofs.Common.{Bool, true, false, ◌&&◌, option_map, option_and_then, is_some, if◌then◌else◌}
use Rattle.std.proofs.Common.{refl, sym, ap, ap₂, subst, true≢false}
use Rattle.std.specs.List.{filter_map, cons_option, fold}
use Rattle.std.proofs.lemmas.Bool.{and_parts, and_from}
use Rattle.std.proofs.lemmas.Option.{same_Some, cond_some}
use Rattle.run_audit_model.specs.Places.{Machine, state_after, Accepts, IsStopOf}
use Rattle.run_audit_model.specs.declared.audit_event.AuditEvent.{AuditEvent}
use Rattle.run_audit_machines.specs.Machines.{AcceptsJust, IsPlaceOf, IsSame, PartCompletes, IsSeenAs, both}
use Rattle.run_audit_machines.specs.Machines.{both_there}
use Rattle.run_audit_machines.specs.Machines.{due_after, dues, guard, is_none_due, telling}

pub place_of_stop : {S E : Type 0} (m : Machine S E) (s : S) (Keeps : List E → Type 0) → AcceptsJust m s Keeps
    → (events : List E) (o : Option ℕ) → IsStopOf m s events o → IsPlaceOf Keeps events o
place_of_stop m s Keeps just events None stop = (just events).0 stop
place_of_stop m s Keeps just events (Some place) stop = record {
  within = stop.within;
  before = (stop.before.0, (just _).0 stop.before.1);
  here = λ below goes. stop.here below (goes.0, (just _).1 goes.1);
  missing = λ keeps. stop.missing ((just events).1 keeps);
}

-- one event, and none
stepped : {S E : Type 0} (m : Machine S E) (events : List E) (o : Option S) (u : S)
    → option_and_then (λ t. state_after m t events) o ≡ Some u → m.is_done u ≡ true
    → (t : S) × (o ≡ Some t) × Accepts m t events
stepped m events None u is done = absurd (true≢false (ap is_some (sym is)))
stepped m events (Some t) u is done = (t, refl, (u, (is, done)))

pub step_of : {S E : Type 0} (m : Machine S E) (s : S) (e : E) (events : List E) → Accepts m s (e ∷ events)
    → (t : S) × (m.takes s e ≡ Some t) × Accepts m t events
step_of m s e events (u, (is, done)) = stepped m events (m.takes s e) u is done

pub step_from : {S E : Type 0} (m : Machine S E) (s t : S) (e : E) (events : List E) → m.takes s e ≡ Some t
    → Accepts m t events → Accepts m s (e ∷ events)
step_from m s t e events taken (u, (is, done)) =
    (u, (ap (option_and_then (λ t. state_after m t events)) taken ∙ is, done))

pub end_of : {S E : Type 0} (m : Machine S E) (s : S) → Accepts m s [] → m.is_done s ≡ true
end_of m s (u, (is, done)) = ap m.is_done (same_Some s u is) ∙ done

pub end_from : {S E : Type 0} (m : Machine S E) (s : S) → m.is_done s ≡ true → Accepts m s []
end_from m s done = (s, (refl, done))

-- two machines side by side
pub there_parts : {S T : Type 0} (a : Option S) (b : Option T) (p : S × T) → both_there a b ≡ Some p
    → (a ≡ Some p.0) × (b ≡ Some p.1)
there_parts None b p is = absurd (true≢false (ap is_some (sym is)))
there_parts (Some s) None p is = absurd (true≢false (ap is_some (sym is)))
there_parts (Some s) (Some t) p is =
    let same = same_Some (s, t) p is in (ap (λ q. Some q.0) same, ap (λ q. Some q.1) same)

pub both_from : {S T E : Type 0} (m : Machine S E) (n : Machine T E) (s : S) (t : T) (events : List E)
    → Accepts m s events → Accepts n t events → Accepts (both m n) (s, t) events
both_from m n s t [] a b = end_from (both m n) (s, t) (and_from _ _ (end_of m s a) (end_of n t b))
both_from m n s t (e ∷ events) a b =
    let x = step_of m s e events a in
    let y = step_of n t e events b in
    step_from (both m n) (s, t) (x.0, y.0) e events (ap₂ both_there x.1 y.1)
    (both_from m n x.0 y.0 events x.2 y.2)

pub both_to : {S T E : Type 0} (m : Machine S E) (n : Machine T E) (s : S) (t : T) (events : List E)
    → Accepts (both m n) (s, t) events → Accepts m s events × Accepts n t events
both_to m n s t [] a =
    let done = and_parts (m.is_done s) (n.is_done t) (end_of (both m n) (s, t) a) in
    (end_from m s done.0, end_from n t done.1)
both_to m n s t (e ∷ events) a =
    let x = step_of (both m n) (s, t) e events a in
    let parts = there_parts (m.takes s e) (n.takes t e) x.0 x.1 in
    let rest = both_to m n x.0.0 x.0.1 events x.2 in
    (step_from m s x.0.0 e events parts.0 rest.0, step_from n t x.0.1 e events parts.1 rest.1)

-- one that forbids: each event is allowed after those before it
abbrev pub AllowsEach : {G E : Type 0} → (G → E → G) → (G → E → Bool) → G → List E → Type 0
AllowsEach {G} {E} after allows seen events = (before rest : List E) (e : E) → events ≡ before ++ e ∷ rest
    → allows (fold after seen before) e ≡ true

pub guard_from : {G E : Type 0} (after : G → E → G) (allows : G → E → Bool) (seen : G) (events : List E)
    → AllowsEach after allows seen events → Accepts (guard after allows) seen events
guard_from after allows seen [] h = end_from (guard after allows) seen refl
guard_from after allows seen (e ∷ events) h =
    step_from (guard after allows) seen (after seen e) e events
    (ap (λ b. if b then Some (after seen e) else None) (h [] events e refl))
    (guard_from after allows (after seen e) events (λ before rest x is. h (e ∷ before) rest x (ap (λ l. e ∷ l) is)))

-- what an event is that stands in front, and what follows it
pub same_head : {E : Type 0} (e x : E) (xs ys : List E) → e ∷ xs ≡ x ∷ ys → (e ≡ x) × (xs ≡ ys)
same_head e x xs ys is = (cc, cc)

pub guard_to : {G E : Type 0} (after : G → E → G) (allows : G → E → Bool) (seen : G) (events : List E)
    → Accepts (guard after allows) seen events → AllowsEach after allows seen events
guard_to after allows seen [] a [] rest x is = cc
guard_to after allows seen [] a (y ∷ before) rest x is = cc
guard_to after allows seen (e ∷ events) a [] rest x is =
    let taken = step_of (guard after allows) seen e events a in
    let allowed = cond_some (allows seen e) (after seen e) taken.0 taken.1 in
    subst (λ y. allows seen y ≡ true) (same_head e x events rest is).0 allowed.0
guard_to after allows seen (e ∷ events) a (y ∷ before) rest x is =
    let taken = step_of (guard after allows) seen e events a in
    let allowed = cond_some (allows seen e) (after seen e) taken.0 taken.1 in
    let same = same_head e y events (before ++ x ∷ rest) is in
    let there = subst (λ g. Accepts (guard after allows) g events) (sym allowed.1) taken.2 in
    subst (λ z. allows (fold after (after seen z) before) x ≡ true) same.0
    (guard_to after allows (after seen e) events there before rest x same.1)

-- one of what is due
pub due_of_step : {X : Type 0} (same : X → X → Bool) → IsSame same → (o : Option X) (due left : List X)
    → due_after same due o ≡ Some left → cons_option o left ≡ due
due_of_step same is_same None due left is = sym (same_Some due left is)
due_of_step same is_same (Some x) [] left is = absurd (true≢false (ap is_some (sym is)))
due_of_step same is_same (Some x) (y ∷ due) left is =
    let parts = cond_some (same y x) due left is in
    ap₂ (λ z l. z ∷ l) (sym ((is_same y x).0 parts.0)) (sym parts.1)

pub step_of_due : {X : Type 0} (same : X → X → Bool) → IsSame same → (o : Option X) (due left : List X)
    → cons_option o left ≡ due → due_after same due o ≡ Some left
step_of_due same is_same None due left is = ap Some (sym is)
step_of_due same is_same (Some x) [] left is = cc
step_of_due same is_same (Some x) (y ∷ due) left is =
    let same_as = same_head x y left due is in
    ap₂ (λ b l. if b then Some l else None) ((is_same y x).1 (sym same_as.0)) (sym same_as.1)

pub none_due : {X : Type 0} (due : List X) → is_none_due due ≡ true → [] ≡ due
none_due [] is = refl
none_due (x ∷ due) is = absurd (true≢false (sym is))

pub dues_to : {X E : Type 0} (same : X → X → Bool) → IsSame same → (told : E → Option X) (due : List X)
    (events : List E) → Accepts (dues same told) due events → filter_map told events ≡ due
dues_to same is_same told due [] a = none_due due (end_of (dues same told) due a)
dues_to same is_same told due (e ∷ events) a =
    let taken = step_of (dues same told) due e events a in
    ap (cons_option (told e)) (dues_to same is_same told taken.0 events taken.2)
    ∙ due_of_step same is_same (told e) due taken.0 taken.1

pub dues_from : {X E : Type 0} (same : X → X → Bool) → IsSame same → (told : E → Option X) (due : List X)
    (events : List E) → filter_map told events ≡ due → Accepts (dues same told) due events
dues_from same is_same told due [] is = end_from (dues same told) due (ap is_none_due (sym is))
dues_from same is_same told due (e ∷ events) is =
    step_from (dues same told) due (filter_map told events) e events
    (step_of_due same is_same (told e) due (filter_map told events) is)
    (dues_from same is_same told (filter_map told events) events refl)

-- ---- states that stand for those of another machine

stood : {S T : Type 0} (seen : S → T) (o : Option S) (q : Option T) (u : T) → q ≡ option_map seen o → q ≡ Some u
    → (s : S) × (o ≡ Some s) × (seen s ≡ u)
stood seen None q u is at = absurd (true≢false (ap is_some (sym at ∙ is)))
stood seen (Some s) q u is at = (s, refl, same_Some (seen s) u (sym is ∙ at))

pub seen_to : {S T E : Type 0} (seen : S → T) (m : Machine S E) (n : Machine T E) → IsSeenAs seen m n → (s : S)
    (events : List E) → Accepts m s events → Accepts n (seen s) events
seen_to seen m n stands s [] a = end_from n (seen s) (stands.is_done s ∙ end_of m s a)
seen_to seen m n stands s (e ∷ events) a =
    let x = step_of m s e events a in
    step_from n (seen s) (seen x.0) e events (stands.takes s e ∙ ap (option_map seen) x.1)
    (seen_to seen m n stands x.0 events x.2)

pub seen_from : {S T E : Type 0} (seen : S → T) (m : Machine S E) (n : Machine T E) → IsSeenAs seen m n → (s : S)
    (events : List E) → Accepts n (seen s) events → Accepts m s events
seen_from seen m n stands s [] a = end_from m s (sym (stands.is_done s) ∙ end_of n (seen s) a)
seen_from seen m n stands s (e ∷ events) a =
    let x = step_of n (seen s) e events a in
    let t = stood seen (m.takes s e) (n.takes (seen s) e) x.0 (stands.takes s e) x.1 in
    step_from m s t.0 e events t.1
    (seen_from seen m n stands t.0 events (subst (λ u. Accepts n u events) (sym t.2) x.2))

pub seen_just : {S T E : Type 0} (seen : S → T) (m : Machine S E) (n : Machine T E) → IsSeenAs seen m n → (s : S)
    (Keeps : List E → Type 0) → AcceptsJust n (seen s) Keeps → AcceptsJust m s Keeps
seen_just seen m n stands s Keeps just events = (
  λ a. (just events).0 (seen_to seen m n stands s events a),
  λ k. seen_from seen m n stands s events ((just events).1 k),
)

pub seen_completes : {S T : Type 0} (seen : S → T) (m : Machine S AuditEvent) (n : Machine T AuditEvent)
    → IsSeenAs seen m n → (Holds : T → Type 0) → PartCompletes n Holds → PartCompletes m (λ s. Holds (seen s))
seen_completes seen m n stands Holds part = record {
  more = λ s h. let x = part.more (seen s) h in (x.0, seen_from seen m n stands s x.0 x.1, x.2);
  kept = λ s e t h is. part.kept (seen s) e (seen t) h (stands.takes s e ∙ ap (option_map seen) is);
}

-- what is due stands for what is told
pub due_seen : {Y X : Type 0} (f : Y → X) (same : X → X → Bool) (due : List Y) (o : Option X)
    → due_after same (map f due) o ≡ option_map (map f) (due_after (λ y x. same (f y) x) due o)
due_seen f same due None = refl
due_seen f same [] (Some x) = refl
due_seen f same (y ∷ due) (Some x) = by_same (same (f y) x)
  where
    by_same : (b : Bool) → (if b then Some (map f due) else None) ≡ option_map (map f) (if b then Some due else None)
    by_same true = refl
    by_same false = refl

pub none_seen : {Y X : Type 0} (f : Y → X) (due : List Y) → is_none_due (map f due) ≡ is_none_due due
none_seen f [] = refl
none_seen f (y ∷ due) = refl

both_seen : {S T G : Type 0} (f : S → T) (a : Option S) (b : Option G)
    → both_there (option_map f a) b ≡ option_map (λ p. (f p.0, p.1)) (both_there a b)
both_seen f None b = refl
both_seen f (Some s) None = refl
both_seen f (Some s) (Some g) = refl

pub telling_seen : {Y X G E : Type 0} (f : Y → X) (same : X → X → Bool) (told : E → Option X) (after : G → E → G)
    (allows : G → E → Bool)
    → IsSeenAs (λ s. (map f s.0, s.1)) (telling (λ y x. same (f y) x) told after allows)
    (telling same told after allows)
telling_seen f same told after allows = record {
  takes = λ s e. ap (λ o. both_there o ((guard after allows).takes s.1 e)) (due_seen f same s.0 (told e))
      ∙ both_seen (map f) (due_after (λ y x. same (f y) x) s.0 (told e)) ((guard after allows).takes s.1 e);
  is_done = λ s. ap (λ b. b && true) (none_seen f s.0);
}
