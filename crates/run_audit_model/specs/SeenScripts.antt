-- What a part tells of setup scripts, and what is due by its run.
use Rattle.std.specs.Prelude.{ℕ, ◌≡◌, List, [], ◌∷◌, ◌++◌, map, filter_map, count_by, if◌then◌else◌, Bool, true, false}
use Rattle.std.specs.Prelude.{Option, Some, None}
use Rattle.std.specs.List.{flat_map, range_with_len}
use Rattle.run_events.specs.declared.settings.Settings.{Settings}
use Rattle.run_model.specs.declared.happening.Happening.{Happening}
use Rattle.run_model.specs.Admission.{scripts_in}
use Rattle.run_model.specs.Attempts.{statuses_of}
use Rattle.run_model.specs.Story.{never_started, story_of}
use Rattle.run_laws.specs.Starts.{env_said}
use Rattle.run_audit_model.specs.Statuses.{Compared, compared, due_script_status}
use Rattle.run_audit_model.specs.declared.audit_event.AuditEvent.{AuditEvent}
use Rattle.run_audit_model.specs.declared.audit_event.AuditEvent.TheVariants as seen

-- what an event tells of a script
pub data ScriptNews : Type 0 where
  began : ℕ → ScriptNews
  ended : ℕ → Compared → ScriptNews

abbrev pub seen_script : AuditEvent → Option ScriptNews
seen_script (seen.ScriptStarted index) = Some (began index)
seen_script (seen.ScriptFinished index status) = Some (ended index (compared status))
seen_script _ = None

-- what is due of a script in a sub-run: its start and its finish, or neither where it never started
abbrev pub due_script : Settings → List Happening → ℕ → List ScriptNews
due_script p run k = if never_started k run then [] else
    began k ∷ map (λ status. ended k (due_script_status status (env_said (story_of k run)))) (statuses_of p k run)

-- whether an event starts a script, ends one, and starts a test
abbrev pub begins_script : AuditEvent → Bool
begins_script (seen.ScriptStarted index) = true
begins_script _ = false

abbrev pub ends_script : AuditEvent → Bool
ends_script (seen.ScriptFinished index status) = true
ends_script _ = false

abbrev pub begins_test : AuditEvent → Bool
begins_test (seen.TestStarted test slot) = true
begins_test _ = false

-- a part tells of the scripts what is due, one after the other; and no test starts while one runs
pub record KeepsScripts (p : Settings) (run : List Happening) (part : List AuditEvent) : Type 0 where
  pub told : filter_map seen_script part ≡ flat_map (due_script p run) (range_with_len 0 (scripts_in p))
  pub apart : (before after : List AuditEvent) (e : AuditEvent) → part ≡ before ++ e ∷ after → begins_test e ≡ true
      → count_by begins_script before ≡ count_by ends_script before
