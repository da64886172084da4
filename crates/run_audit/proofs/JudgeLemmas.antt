-- A verdict is right, by where events stop keeping each law.
use Rattle.std.proofs.Common.{◌≡◌, ◌<◌, ℕ, suc, List, Option, Some, None, refl, subst}
use Rattle.std.proofs.Common.{arith}
use Rattle.run_events.specs.declared.events.ReporterEvent.{ReporterEvent}
use Rattle.run_events.specs.declared.settings.Settings.{Settings}
use Rattle.run_model.specs.declared.happening.Happening.{Happening}
use Rattle.run_model.specs.Journal.{past_of}
use Rattle.run_audit_model.specs.Kept.{KeepsLaw}
use Rattle.run_audit_model.specs.declared.audit_event.AuditEvent.{AuditEvent}
use Rattle.run_audit_model.specs.declared.audit_event.Verdict.TheVariants.{No, Yes}
use Rattle.run_audit.specs.Stops.{IsLimitStop, IsRightBy, StopsByLaw}
use Rattle.run_audit_machines.specs.Machines.{IsPlaceOf}
use Rattle.run_audit.specs.declared.needs.Needs.{Needs}

-- each law below a number is kept, where each of the five below it is
kept_below : (p : Settings) (past : List Happening) (events : List AuditEvent) (n : ℕ)
    → (1 < n → KeepsLaw p past 1 events) → (2 < n → KeepsLaw p past 2 events) → (3 < n → KeepsLaw p past 3 events)
    → (4 < n → KeepsLaw p past 4 events) → (5 < n → KeepsLaw p past 5 events) → (law : ℕ) → law < n
    → KeepsLaw p past law events
kept_below p past events n first second third fourth fifth law below = record {
  shape = λ is. (first (subst (λ law. law < n) is below)).shape refl;
  accounts = λ is. (second (subst (λ law. law < n) is below)).accounts refl;
  limits = λ is. (third (subst (λ law. law < n) is below)).limits refl;
  cancels = λ is. (fourth (subst (λ law. law < n) is below)).cancels refl;
  scripts = λ is. (fifth (subst (λ law. law < n) is below)).scripts refl;
}

-- limits that are broken nowhere are kept
unbroken : (p : Settings) (past : List Happening) (events : List AuditEvent) (limit : Option ℕ) → limit ≡ None
    → IsLimitStop p events limit → KeepsLaw p past 3 events
unbroken p past events limit none stops = subst (IsPlaceOf (KeepsLaw p past 3) events) none (stops past)

-- the first law is broken
pub first_no : (needs : Needs) (limit : Option ℕ) (told : List ReporterEvent) (events : List AuditEvent) (place : ℕ)
    → StopsByLaw 1 needs told events (Some place) → IsRightBy needs limit told events (No 1 place)
first_no needs limit told events place stop p journal of stops has = (
  omega arith,
  kept_below p (past_of p journal) events 1 (λ b. absurd (omega (arith, b))) (λ b. absurd (omega (arith, b)))
      (λ b. absurd (omega (arith, b))) (λ b. absurd (omega (arith, b))) (λ b. absurd (omega (arith, b))),
  stop p journal of has,
)

-- the second is, and not the first; and so on
pub second_no : (needs : Needs) (limit : Option ℕ) (told : List ReporterEvent) (events : List AuditEvent) (place : ℕ)
    → StopsByLaw 1 needs told events None → StopsByLaw 2 needs told events (Some place)
    → IsRightBy needs limit told events (No 2 place)
second_no needs limit told events place first stop p journal of stops has = (
  omega arith,
  kept_below p (past_of p journal) events 2 (λ b. first p journal of has) (λ b. absurd (omega (arith, b)))
      (λ b. absurd (omega (arith, b))) (λ b. absurd (omega (arith, b))) (λ b. absurd (omega (arith, b))),
  stop p journal of has,
)

pub third_no : (needs : Needs) (limit : Option ℕ) (told : List ReporterEvent) (events : List AuditEvent) (place : ℕ)
    → StopsByLaw 1 needs told events None → StopsByLaw 2 needs told events None
    → limit ≡ Some place → IsRightBy needs limit told events (No 3 place)
third_no needs limit told events place first second is p journal of stops has = (
  omega arith,
  kept_below p (past_of p journal) events 3 (λ b. first p journal of has) (λ b. second p journal of has)
      (λ b. absurd (omega (arith, b))) (λ b. absurd (omega (arith, b))) (λ b. absurd (omega (arith, b))),
  subst (IsPlaceOf (KeepsLaw p (past_of p journal) 3) events) is (stops (past_of p journal)),
)

pub fourth_no : (needs : Needs) (limit : Option ℕ) (told : List ReporterEvent) (events : List AuditEvent) (place : ℕ)
    → StopsByLaw 1 needs told events None → StopsByLaw 2 needs told events None → limit ≡ None
    → StopsByLaw 4 needs told events (Some place) → IsRightBy needs limit told events (No 4 place)
fourth_no needs limit told events place first second third stop p journal of stops has = (
  omega arith,
  kept_below p (past_of p journal) events 4 (λ b. first p journal of has) (λ b. second p journal of has)
      (λ b. unbroken p (past_of p journal) events limit third stops) (λ b. absurd (omega (arith, b))) (λ b. absurd
      (omega (arith, b))),
  stop p journal of has,
)

pub fifth_no : (needs : Needs) (limit : Option ℕ) (told : List ReporterEvent) (events : List AuditEvent) (place : ℕ)
    → StopsByLaw 1 needs told events None → StopsByLaw 2 needs told events None → limit ≡ None
    → StopsByLaw 4 needs told events None → StopsByLaw 5 needs told events (Some place)
    → IsRightBy needs limit told events (No 5 place)
fifth_no needs limit told events place first second third fourth stop p journal of stops has = (
  omega arith,
  kept_below p (past_of p journal) events 5 (λ b. first p journal of has) (λ b. second p journal of has)
      (λ b. unbroken p (past_of p journal) events limit third stops) (λ b. fourth p journal of has) (λ b. absurd
      (omega (arith, b))),
  stop p journal of has,
)

-- none is broken
pub all_kept : (needs : Needs) (limit : Option ℕ) (told : List ReporterEvent) (events : List AuditEvent)
    → StopsByLaw 1 needs told events None → StopsByLaw 2 needs told events None → limit ≡ None
    → StopsByLaw 4 needs told events None → StopsByLaw 5 needs told events None → IsRightBy needs limit told events Yes
all_kept needs limit told events first second third fourth fifth p journal of stops has law =
    kept_below p (past_of p journal) events (suc law) (λ b. first p journal of has) (λ b. second p journal of has)
    (λ b. unbroken p (past_of p journal) events limit third stops) (λ b. fourth p journal of has) (λ b. fifth p
    journal of has) law (omega arith)
