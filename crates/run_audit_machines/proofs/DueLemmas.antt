-- A part that tells what is due: what it accepts, and that it leads to an end.
use Rattle.std.proofs.Common.{◌≡◌, List, [], ◌∷◌, ◌++◌, Option, Some, None, is_some, Bool, true}
use Rattle.std.proofs.Common.{refl, sym, ap, ap₂, subst, true≢false}
use Rattle.std.specs.List.{All, filter_map, cons_option}
use Rattle.std.proofs.lemmas.List.Elements.{All-cons, All-head, All-nil, All-tail}
use Rattle.std.proofs.lemmas.Option.{same_Some, cond_some}
use Rattle.run_audit_model.specs.declared.audit_event.AuditEvent.{AuditEvent}
use Rattle.run_audit_machines.specs.Machines.{CanTell, IsTellable, PartCompletes, StaysWithin, due_after, dues, guard}
use Rattle.run_audit_machines.specs.Machines.{telling}
use Rattle.run_audit_machines.specs.Machines.{AcceptsJust, IsSame}
use Rattle.run_audit_machines.proofs.MachineLemmas.{AllowsEach, both_from, both_to, dues_from}
use Rattle.run_audit_machines.proofs.MachineLemmas.{dues_to, guard_from, guard_to, there_parts}

pub telling_just : {X G E : Type 0} (same : X → X → Bool) → IsSame same → (told : E → Option X) (after : G → E → G)
    (allows : G → E → Bool) (due : List X) (seen : G) → AcceptsJust (telling same told after allows) (due, seen)
    (λ part. (filter_map told part ≡ due) × AllowsEach after allows seen part)
telling_just same is_same told after allows due seen part = (
  λ a. let both = both_to (dues same told) (guard after allows) due seen part a in
      (dues_to same is_same told due part both.0, guard_to after allows seen part both.1),
  λ h. both_from (dues same told) (guard after allows) due seen part (dues_from same is_same told due part h.0)
      (guard_from after allows seen part h.1),
)

-- ---- to an end

-- the events that tell what is due
tellings : {X G : Type 0} (told : AuditEvent → Option X) (allows : G → AuditEvent → Bool) (due : List X)
    → All (IsTellable told allows) due → List AuditEvent
tellings told allows [] h = []
tellings told allows (x ∷ due) h =
    (All-head (IsTellable told allows) x due h).0 ∷ tellings told allows due (All-tail (IsTellable told allows) x due h)

tell_due : {X G : Type 0} (told : AuditEvent → Option X) (allows : G → AuditEvent → Bool) (due : List X)
    (h : All (IsTellable told allows) due) → filter_map told (tellings told allows due h) ≡ due
unfolding tellings
tell_due told allows [] h = refl
tell_due told allows (x ∷ due) h =
    let own = All-head (IsTellable told allows) x due h in
    ap₂ cons_option own.1 (tell_due told allows due (All-tail (IsTellable told allows) x due h))

stay_within : {X G : Type 0} (told : AuditEvent → Option X) (allows : G → AuditEvent → Bool) (due : List X)
    (h : All (IsTellable told allows) due) → All StaysWithin (tellings told allows due h)
unfolding tellings
stay_within told allows [] h = All-nil StaysWithin
stay_within told allows (x ∷ due) h =
    let own = All-head (IsTellable told allows) x due h in
    let rest = All-tail (IsTellable told allows) x due h in
    All-cons StaysWithin own.0 (tellings told allows due rest) own.2 (stay_within told allows due rest)

are_allowed : {X G : Type 0} (told : AuditEvent → Option X) (after : G → AuditEvent → G)
    (allows : G → AuditEvent → Bool) (due : List X) (h : All (IsTellable told allows) due) (seen : G)
    → AllowsEach after allows seen (tellings told allows due h)
unfolding tellings
are_allowed told after allows [] h seen [] rest e is = cc
are_allowed told after allows [] h seen (y ∷ before) rest e is = cc
are_allowed told after allows (x ∷ due) h seen [] rest e is =
    let own = All-head (IsTellable told allows) x due h in
    let same : own.0 ≡ e = cc in
    subst (λ y. allows seen y ≡ true) same (own.3 seen)
are_allowed told after allows (x ∷ due) h seen (y ∷ before) rest e is =
    let more = All-tail (IsTellable told allows) x due h in
    let same : tellings told allows due more ≡ before ++ e ∷ rest = cc in
    are_allowed told after allows due more (after seen y) before rest e same

due_kept : {X : Type 0} (same : X → X → Bool) (P : X → Type 0) (o : Option X) (due left : List X)
    → due_after same due o ≡ Some left → All P due → All P left
due_kept same P None due left is h = subst (All P) (same_Some due left is) h
due_kept same P (Some x) [] left is h = absurd (true≢false (ap is_some (sym is)))
due_kept same P (Some x) (y ∷ due) left is h =
    subst (All P) (cond_some (same y x) due left is).1 (All-tail P y due h)

pub telling_completes : {X G : Type 0} (same : X → X → Bool) → IsSame same → (told : AuditEvent → Option X)
    (after : G → AuditEvent → G) (allows : G → AuditEvent → Bool)
    → PartCompletes (telling same told after allows) (CanTell told allows)
telling_completes same is_same told after allows = record {
  more = λ now h. let events = tellings told allows now.0 h in (
    events,
    (telling_just same is_same told after allows now.0 now.1 events).1
        (tell_due told allows now.0 h, are_allowed told after allows now.0 h now.1),
    stay_within told allows now.0 h,
  );
  kept = λ now e t h is.
      let parts = there_parts (due_after same now.0 (told e)) ((guard after allows).takes now.1 e) t is in
      due_kept same (IsTellable told allows) (told e) now.0 t.0 parts.0 h;
}
