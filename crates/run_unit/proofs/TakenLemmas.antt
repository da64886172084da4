-- How a request is taken.
use Rattle.std.proofs.Common.{ℕ, ◌≡◌, List, true, Some, refl}
use Rattle.run_events.specs.declared.request.Request.{Request}
use Rattle.run_events.specs.declared.request.Request.TheVariants.{Shutdown, OtherCancel}
use Rattle.run_model.specs.declared.phase.Phase.{Phase}
use Rattle.run_model.specs.declared.phase.Phase.TheVariants.{Running, Grace, Leak, Delay}
use Rattle.run_model.specs.declared.unit_view.UnitRole.{UnitRole}
use Rattle.run_model.specs.declared.unit_view.UnitRole.TheVariants as roles
use Rattle.run_model.specs.declared.unit_view.UnitView.{UnitView}
use Rattle.run_model.specs.Attempts.{cancels}
use Rattle.run_model.specs.Info.{subject_of, answer_in}
use Rattle.run_model.specs.Requests.{requested}
use Rattle.run_model.specs.Retries.{retried}
use Rattle.run_unit.specs.Taken.{is_told}

-- an answer says nothing of the line
subject_lined : (role : UnitRole) (line : List Request) (u : UnitView)
    → subject_of role (record u { line = line }) ≡ subject_of role u
subject_lined (roles.Test t) line u = refl
subject_lined (roles.Script s) line u = refl

pub answer_lined : (now : ℕ) (ph : Phase) (line : List Request) (u : UnitView)
    → answer_in now ph (record u { line = line }) ≡ answer_in now ph u
answer_lined now Running line u = rw (subject_lined u.role line u) refl
answer_lined now Grace line u = rw (subject_lined u.role line u) refl
answer_lined now Leak line u = rw (subject_lined u.role line u) refl
answer_lined now Delay line u = rw (subject_lined u.role line u) refl
answer_lined now ph line u = rw (subject_lined u.role line u) refl

-- a request that cancels the run is told in a delay alone
pub told_in_delay : (ph : Phase) (request : Request) → cancels (Some request) ≡ true → is_told ph request ≡ true
    → ph ≡ Delay
told_in_delay Delay request cancels told = refl
told_in_delay ph (Shutdown reason) cancels told = cc
told_in_delay ph OtherCancel cancels told = cc
told_in_delay ph request cancels told = cc

-- and there it ends that
pub ends_delay : (now : ℕ) (request : Request) (u : UnitView) → cancels (Some request) ≡ true
    → requested now Delay request u ≡ retried u
ends_delay now (Shutdown reason) u cancels = refl
ends_delay now OtherCancel u cancels = refl
ends_delay now request u cancels = cc
