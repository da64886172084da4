-- Each law of an auditor is its machine.
use Rattle.std.specs.Prelude.{◌≡◌, List, map, reverse, length, Bool, Option, Some}
use Rattle.std.specs.List.{All}
use Rattle.run_events.specs.declared.settings.Settings.{Settings}
use Rattle.run_model.specs.declared.happening.Happening.{Happening}
use Rattle.run_model.specs.Words.{ended_runs}
use Rattle.run_audit_model.specs.Kept.{KeepsLaw}
use Rattle.run_audit_model.specs.Parts.{is_stress}
use Rattle.run_audit_model.specs.Places.{Completes, Machine}
use Rattle.run_audit_model.specs.SeenScripts.{ScriptNews}
use Rattle.run_audit_model.specs.SeenTests.{TestNews}
use Rattle.run_audit_model.specs.declared.audit_event.AuditEvent.{AuditEvent}
use Rattle.run_audit_machines.specs.Accounts.{accounts_seen}
use Rattle.run_audit_machines.specs.Cancels.{cancel_machine, cancel_parts}
use Rattle.run_audit_machines.specs.Limits.{limit_machine, no_seats}
use Rattle.run_audit_machines.specs.Machines.{AcceptsJust, HoldsInParts, InParts, IsSame, first_state}
use Rattle.run_audit_machines.specs.Machines.{endless, one_each}
use Rattle.run_audit_machines.specs.Scripts.{CanTellScripts, due_scripts, script_machine, before_scripts}
use Rattle.run_audit_machines.specs.Shape.{shape_machine, shape_start}
use Rattle.run_audit_machines.specs.Tests.{CanTellTests, TestPart, accounts_of, test_machine}

-- a machine accepts from a state just the lists that keep a law, and each state that holds leads to an end
pub record IsMachineOf {S : Type 0} (Keeps : List AuditEvent → Type 0) (m : Machine S AuditEvent) (Holds : S → Type 0)
    (start : S) : Type 0 where
  pub accepts : AcceptsJust m start Keeps
  pub completes : Completes m Holds

-- the same of a machine over parts, from its first state
abbrev pub IsPartsMachineOf : {S C : Type 0} → (List AuditEvent → Type 0) → Machine (InParts S C) AuditEvent
    → (S → Type 0) → (C → Type 0) → Option (InParts S C) → Type 0
IsPartsMachineOf {S} {C} Keeps m Holds Comes start =
    (now : InParts S C) → start ≡ Some now → IsMachineOf Keeps m (HoldsInParts Holds Comes) now

-- whatever its state is
abbrev pub HoldsAlways : {S : Type 0} → S → Type 0
HoldsAlways s = Unit {0}

abbrev pub ShapeIsMachine : Type 0
ShapeIsMachine = (p : Settings) (past : List Happening)
    → IsMachineOf (KeepsLaw p past 1) shape_machine HoldsAlways (shape_start (is_stress p) (length (ended_runs past)))

-- where what is due of each part stands for what is due of its run
abbrev pub AccountsAreMachine : Type 0 → Type 0
AccountsAreMachine Y = (news : Y → TestNews) (same : TestNews → TestNews → Bool) → IsSame same → (p : Settings)
    (past : List Happening) (dues : List (TestPart Y))
    → map (accounts_seen news) dues ≡ map (accounts_of p) (reverse (ended_runs past))
    → IsPartsMachineOf (KeepsLaw p past 2) (test_machine news same) (CanTellTests news) (All (CanTellTests news))
    (first_state one_each (is_stress p) dues)

abbrev pub LimitsAreMachine : Type 0
LimitsAreMachine = (p : Settings) (past : List Happening)
    → IsPartsMachineOf (KeepsLaw p past 3) limit_machine HoldsAlways HoldsAlways (first_state endless (is_stress p)
    (no_seats p))

abbrev pub CancelsAreMachine : Type 0
CancelsAreMachine = (p : Settings) (past : List Happening)
    → IsPartsMachineOf (KeepsLaw p past 4) cancel_machine HoldsAlways HoldsAlways
    (first_state one_each (is_stress p) (cancel_parts past))

abbrev pub ScriptsAreMachine : Type 0 → Type 0
ScriptsAreMachine Y = (news : Y → ScriptNews) (same : ScriptNews → ScriptNews → Bool) → IsSame same
    → (p : Settings) (past : List Happening) (dues : List (List Y))
    → map (map news) dues ≡ map (due_scripts p) (reverse (ended_runs past))
    → IsPartsMachineOf (KeepsLaw p past 5) (script_machine news same) (CanTellScripts news)
    (All (CanTellScripts news)) (first_state one_each (is_stress p) (map before_scripts dues))
