-- The setup scripts of a part as a machine: what is due comes in order, and no test starts while one runs.
use Rattle.std.specs.Prelude.{ℕ, ◌+◌, ◌==◌, List, map, Bool, false, ◌&&◌, ◌||◌, not}
use Rattle.std.specs.List.{flat_map, range_with_len}
use Rattle.run_events.specs.declared.settings.Settings.{Settings}
use Rattle.run_model.specs.declared.happening.Happening.{Happening}
use Rattle.run_model.specs.Admission.{scripts_in}
use Rattle.run_audit_model.specs.Places.{Machine}
use Rattle.run_audit_model.specs.SeenScripts.{ScriptNews, began, begins_test, due_script, ended, seen_script}
use Rattle.run_audit_model.specs.Statuses.{Compared}
use Rattle.run_audit_model.specs.declared.audit_event.AuditEvent.{AuditEvent}
use Rattle.run_audit_model.specs.declared.audit_event.AuditEvent.TheVariants as seen
use Rattle.run_audit_machines.specs.Machines.{CanTell, InParts, one_each, over_parts, telling}

-- how many scripts were told started, and how many finished
abbrev pub count_scripts : ℕ × ℕ → AuditEvent → ℕ × ℕ
count_scripts counts (seen.ScriptStarted index) = (counts.0 + 1, counts.1)
count_scripts counts (seen.ScriptFinished index status) = (counts.0, counts.1 + 1)
count_scripts counts _ = counts

abbrev pub may_begin : ℕ × ℕ → AuditEvent → Bool
may_begin counts e = not (begins_test e) || (counts.0 == counts.1)

-- two tell the same of a script, by a test of statuses
abbrev pub same_script : (Compared → Compared → Bool) → ScriptNews → ScriptNews → Bool
same_script same (began a) (began b) = a == b
same_script same (ended a s) (ended b t) = (a == b) && same s t
same_script same _ _ = false

-- what is due of the open part, with these counts
abbrev pub ScriptPart : Type 0 → Type 0
ScriptPart Y = List Y × (ℕ × ℕ)

-- what is due stands for news
abbrev pub script_part : {Y : Type 0} → (Y → ScriptNews) → (ScriptNews → ScriptNews → Bool)
    → Machine (ScriptPart Y) AuditEvent
script_part news same = telling (λ due told. same (news due) told) seen_script count_scripts may_begin

abbrev pub script_machine : {Y : Type 0} → (Y → ScriptNews) → (ScriptNews → ScriptNews → Bool)
    → Machine (InParts (ScriptPart Y) (List (ScriptPart Y))) AuditEvent
script_machine news same = over_parts (script_part news same) one_each

-- what is left can be told
abbrev pub CanTellScripts : {Y : Type 0} → (Y → ScriptNews) → ScriptPart Y → Type 0
CanTellScripts news now = CanTell seen_script may_begin (map news now.0, now.1)

-- what is due of a sub-run; and before a part of which some is due
abbrev pub due_scripts : Settings → List Happening → List ScriptNews
due_scripts p run = flat_map (due_script p run) (range_with_len 0 (scripts_in p))

abbrev pub before_scripts : {Y : Type 0} → List Y → ScriptPart Y
before_scripts due = (due, (0, 0))
