-- The shape of a run as a machine.
use Rattle.std.specs.Prelude.{ℕ, zero, suc, Bool, true, false, if◌then◌else◌, Option, Some, None, option_map}
use Rattle.run_audit_model.specs.Places.{Machine}
use Rattle.run_audit_model.specs.declared.audit_event.AuditEvent.{AuditEvent}
use Rattle.run_audit_model.specs.declared.audit_event.AuditEvent.TheVariants as seen
use Rattle.run_audit_machines.specs.declared.shape.ShapePlace.{ShapePlace}
use Rattle.run_audit_machines.specs.declared.shape.ShapePlace.TheVariants.{Before, Plain, Between, Within, Over}

-- within a run without stress, or within a sub-run: what stays there, and what doesn't
abbrev pub plain_takes : AuditEvent → Option ShapePlace
plain_takes seen.RunFinished = Some Over
plain_takes seen.RunStarted = None
plain_takes seen.SubRunStarted = None
plain_takes seen.SubRunFinished = None
plain_takes _ = Some Plain

abbrev pub within_takes : ℕ → AuditEvent → Option ShapePlace
within_takes left seen.SubRunFinished = Some (Between left)
within_takes left seen.RunStarted = None
within_takes left seen.RunFinished = None
within_takes left seen.SubRunStarted = None
within_takes left _ = Some (Within left)

abbrev pub between_takes : ℕ → AuditEvent → Option ShapePlace
between_takes zero seen.RunFinished = Some Over
between_takes (suc left) seen.SubRunStarted = Some (Within left)
between_takes left seen.Other = Some (Between left)
between_takes left _ = None

abbrev pub before_takes : Bool → ℕ → AuditEvent → Option ShapePlace
before_takes stress runs seen.RunStarted = Some (if stress then Between runs else Plain)
before_takes stress runs _ = None

-- where the next event leads
abbrev pub shape_takes : Bool → ℕ → ShapePlace → AuditEvent → Option ShapePlace
shape_takes stress runs Before e = before_takes stress runs e
shape_takes stress runs Plain e = plain_takes e
shape_takes stress runs (Between left) e = between_takes left e
shape_takes stress runs (Within left) e = within_takes left e
shape_takes stress runs Over e = None

-- a place, in a run that is a stress run or not, of so many sub-runs
pub record ShapeNow : Type 0 where
  pub stress : Bool
  pub runs : ℕ
  pub place : ShapePlace

abbrev pub is_shape_over : ShapePlace → Bool
is_shape_over Over = true
is_shape_over _ = false

abbrev pub at_place : ShapeNow → ShapePlace → ShapeNow
at_place law place = record law { place = place }

abbrev pub shape_machine : Machine ShapeNow AuditEvent
shape_machine = record {
  takes = λ law e. option_map (at_place law) (shape_takes law.stress law.runs law.place e);
  is_done = λ law. is_shape_over law.place;
}

-- before a run of so many sub-runs
abbrev pub shape_start : Bool → ℕ → ShapeNow
shape_start stress runs = record { stress = stress; runs = runs; place = Before }
