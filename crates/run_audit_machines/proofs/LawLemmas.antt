-- Each law of an auditor is its machine.
use Rattle.std.proofs.Common.{List, length, arith, refl}
use Rattle.std.specs.List.{All}
use Rattle.run_events.specs.declared.settings.Settings.{Settings}
use Rattle.run_model.specs.declared.happening.Happening.{Happening}
use Rattle.run_model.specs.Words.{ended_runs}
use Rattle.run_audit_model.specs.Kept.{KeepsLaw, OfEachRun}
use Rattle.run_audit_model.specs.Parts.{HasShape, is_stress, parts}
use Rattle.run_audit_model.specs.SeenCancels.{KeepsCancels}
use Rattle.run_audit_model.specs.SeenLimits.{KeepsTold}
use Rattle.run_audit_model.specs.SeenScripts.{KeepsScripts}
use Rattle.run_audit_model.specs.SeenTests.{KeepsAccounts}
use Rattle.run_audit_model.specs.declared.audit_event.AuditEvent.{AuditEvent}
use Rattle.run_audit_machines.specs.Laws.{AccountsAreMachine, CancelsAreMachine, LimitsAreMachine}
use Rattle.run_audit_machines.specs.Laws.{ScriptsAreMachine, ShapeIsMachine}
use Rattle.run_audit_machines.proofs.CancelLemmas.{cancels_are_law, cancels_complete}
use Rattle.run_audit_machines.proofs.LimitLemmas.{limits_are_law, limits_complete}
use Rattle.run_audit_machines.proofs.ScriptLemmas.{scripts_are_law, scripts_complete}
use Rattle.run_audit_machines.proofs.ShapeLemmas.{shape_completes, shape_just}
use Rattle.run_audit_machines.proofs.TestLemmas.{accounts_are_law, tests_complete}

-- the law of a number, and of no other
first_law : (p : Settings) (past : List Happening) (events : List AuditEvent)
    → HasShape p (length (ended_runs past)) events → KeepsLaw p past 1 events
first_law p past events h = record {
  shape = λ is. h;
  accounts = λ is. absurd (omega (arith, is));
  limits = λ is. absurd (omega (arith, is));
  cancels = λ is. absurd (omega (arith, is));
  scripts = λ is. absurd (omega (arith, is));
}

second_law : (p : Settings) (past : List Happening) (events : List AuditEvent)
    → OfEachRun p past (KeepsAccounts p) events → KeepsLaw p past 2 events
second_law p past events h = record {
  shape = λ is. absurd (omega (arith, is));
  accounts = λ is. h;
  limits = λ is. absurd (omega (arith, is));
  cancels = λ is. absurd (omega (arith, is));
  scripts = λ is. absurd (omega (arith, is));
}

third_law : (p : Settings) (past : List Happening) (events : List AuditEvent)
    → All (KeepsTold p) (parts p events) → KeepsLaw p past 3 events
third_law p past events h = record {
  shape = λ is. absurd (omega (arith, is));
  accounts = λ is. absurd (omega (arith, is));
  limits = λ is. h;
  cancels = λ is. absurd (omega (arith, is));
  scripts = λ is. absurd (omega (arith, is));
}

fourth_law : (p : Settings) (past : List Happening) (events : List AuditEvent)
    → OfEachRun p past KeepsCancels events → KeepsLaw p past 4 events
fourth_law p past events h = record {
  shape = λ is. absurd (omega (arith, is));
  accounts = λ is. absurd (omega (arith, is));
  limits = λ is. absurd (omega (arith, is));
  cancels = λ is. h;
  scripts = λ is. absurd (omega (arith, is));
}

fifth_law : (p : Settings) (past : List Happening) (events : List AuditEvent)
    → OfEachRun p past (KeepsScripts p) events → KeepsLaw p past 5 events
fifth_law p past events h = record {
  shape = λ is. absurd (omega (arith, is));
  accounts = λ is. absurd (omega (arith, is));
  limits = λ is. absurd (omega (arith, is));
  cancels = λ is. absurd (omega (arith, is));
  scripts = λ is. h;
}

pub shape_is_machine : ShapeIsMachine
shape_is_machine p past = record {
  accepts = λ events. let just = shape_just (is_stress p) (length (ended_runs past)) events in
      (λ a. first_law p past events (just.0 a), λ k. just.1 (k.shape refl));
  completes = shape_completes;
}

pub accounts_are_machine : (Y : Type 0) → AccountsAreMachine Y
accounts_are_machine Y news same is_same p past dues are_due now is = record {
  accepts = λ events. let just = accounts_are_law news same is_same p past dues are_due now is events in
      (λ a. second_law p past events (just.0 a), λ k. just.1 (k.accounts refl));
  completes = tests_complete news same is_same;
}

pub limits_are_machine : LimitsAreMachine
limits_are_machine p past now is = record {
  accepts = λ events. let just = limits_are_law p now is events in
      (λ a. third_law p past events (just.0 a), λ k. just.1 (k.limits refl));
  completes = limits_complete;
}

pub cancels_are_machine : CancelsAreMachine
cancels_are_machine p past now is = record {
  accepts = λ events. let just = cancels_are_law p past now is events in
      (λ a. fourth_law p past events (just.0 a), λ k. just.1 (k.cancels refl));
  completes = cancels_complete;
}

pub scripts_are_machine : (Y : Type 0) → ScriptsAreMachine Y
scripts_are_machine Y news same is_same p past dues are_due now is = record {
  accepts = λ events. let just = scripts_are_law news same is_same p past dues are_due now is events in
      (λ a. fifth_law p past events (just.0 a), λ k. just.1 (k.scripts refl));
  completes = scripts_complete news same is_same;
}
