-- When a list of events keeps a run, and what a verdict says.
use Rattle.std.specs.Prelude.{ℕ, ◌≡◌, ◌<◌, ◌≤◌, List, [], ◌∷◌, length, reverse}
use Rattle.std.specs.List.{All}
use Rattle.run_events.specs.declared.settings.Settings.{Settings}
use Rattle.run_model.specs.declared.happening.Happening.{Happening}
use Rattle.run_model.specs.Words.{ended_runs}
use Rattle.run_audit_model.specs.Parts.{HasShape, parts}
use Rattle.run_audit_model.specs.Places.{FailsAt}
use Rattle.run_audit_model.specs.SeenCancels.{KeepsCancels}
use Rattle.run_audit_model.specs.SeenLimits.{KeepsTold}
use Rattle.run_audit_model.specs.SeenScripts.{KeepsScripts}
use Rattle.run_audit_model.specs.SeenTests.{KeepsAccounts}
use Rattle.run_audit_model.specs.declared.audit_event.AuditEvent.{AuditEvent}
use Rattle.run_audit_model.specs.declared.audit_event.Verdict.{Verdict}
use Rattle.run_audit_model.specs.declared.audit_event.Verdict.TheVariants.{Yes, No}

-- two lists are as long, and what stands at the same place belongs together
abbrev pub Pairwise : {X Y : Type 0} → (X → Y → Type 0) → List X → List Y → Type 0
Pairwise R [] [] = Unit {0}
Pairwise R [] (y ∷ ys) = ⊥
Pairwise R (x ∷ xs) [] = ⊥
Pairwise R (x ∷ xs) (y ∷ ys) = R x y × Pairwise R xs ys

-- each sub-run that has ended has its part, in order
abbrev pub OfEachRun : Settings → List Happening → (List Happening → List AuditEvent → Type 0) → List AuditEvent
    → Type 0
OfEachRun p past Keeps events = Pairwise Keeps (reverse (ended_runs past)) (parts p events)

-- the law of this number: 1, the shape of a run; 2, what is told of each test; 3, limits and slots; 4, cancels; 5,
-- setup scripts
pub record KeepsLaw (p : Settings) (past : List Happening) (law : ℕ) (events : List AuditEvent) : Type 0 where
  pub shape : law ≡ 1 → HasShape p (length (ended_runs past)) events
  pub accounts : law ≡ 2 → OfEachRun p past (KeepsAccounts p) events
  pub limits : law ≡ 3 → All (KeepsTold p) (parts p events)
  pub cancels : law ≡ 4 → OfEachRun p past KeepsCancels events
  pub scripts : law ≡ 5 → OfEachRun p past (KeepsScripts p) events

-- a list keeps a run whose history this is
abbrev pub KeepsRun : Settings → List Happening → List AuditEvent → Type 0
KeepsRun p past events = (law : ℕ) → KeepsLaw p past law events

-- a verdict is right: the list keeps the run; or it keeps each law below this one of the five, and breaks this one
-- there
abbrev pub IsRightVerdict : Settings → List Happening → List AuditEvent → Verdict → Type 0
IsRightVerdict p past events Yes = KeepsRun p past events
IsRightVerdict p past events (No law place) = (law ≤ 5) × ((below : ℕ) → below < law → KeepsLaw p past below events)
    × FailsAt (KeepsLaw p past law) events place
