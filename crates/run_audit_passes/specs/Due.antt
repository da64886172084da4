-- What is due, as news.
use Rattle.std.specs.Prelude.{ℕ, List, map, Bool, false, Option}
use Rattle.std.specs.Option.{option_map_or}
use Rattle.run_events.specs.declared.plan.TestInstanceId.{TestInstanceId}
use Rattle.run_audit_model.specs.SeenScripts.{ScriptNews, began, ended}
use Rattle.run_audit_model.specs.SeenTests as news
use Rattle.run_audit_model.specs.SeenTests.{TestNews, failed, finished, retried, skipped}
use Rattle.run_audit_model.specs.Statuses.{Compared}
use Rattle.run_audit_machines.specs.Scripts.{same_script}
use Rattle.run_audit_machines.specs.Tests.{same_news}
use Rattle.run_audit_passes.specs.declared.due_script.DueScript.{DueScript}
use Rattle.run_audit_passes.specs.declared.due_script.DueScript.TheVariants as scripts
use Rattle.run_audit_passes.specs.declared.due_test.DueTest.{DueTest}
use Rattle.run_audit_passes.specs.declared.due_test.DueTest.TheVariants.{Began, Failed, Retried, Finished, Skipped}

-- of a script, by what is due of its status
abbrev pub due_news : {S : Type 0} → (S → Compared) → DueScript S → ScriptNews
due_news status (scripts.Began index) = began index
due_news status (scripts.Ended index own) = ended index (status own)

-- it is just this
abbrev pub is_due_news : {S : Type 0} → (S → Compared) → (Compared → Compared → Bool) → DueScript S → ScriptNews → Bool
is_due_news status same due told = same_script same (due_news status due) told

-- of a test, by what is due of its statuses
abbrev pub due_test_news : {S : Type 0} → (S → Compared) → DueTest S → TestNews
due_test_news status Began = news.began
due_test_news status (Failed own) = failed (status own)
due_test_news status (Retried attempt) = retried attempt
due_test_news status (Finished all) = finished (map status all.items)
due_test_news status Skipped = skipped

-- it is just this
abbrev pub is_due_test : {S : Type 0} → (S → Compared) → (Compared → Compared → Bool) → DueTest S → TestNews → Bool
is_due_test status same due told = same_news same (due_test_news status due) told

-- whether it is what an event tells, where that tells of a test
abbrev pub is_due_told : {S : Type 0} → (S → Compared) → (Compared → Compared → Bool) → DueTest S
    → Option (TestInstanceId × TestNews) → Bool
is_due_told status same due told = option_map_or (λ t. is_due_test status same due t.1) told false

-- the same, news by news
abbrev pub is_retry_of : (Compared → Compared → Bool) → ℕ → Option (TestInstanceId × TestNews) → Bool
is_retry_of same due told = option_map_or (λ t. same_news same (retried due) t.1) told false

abbrev pub is_failure_of : (Compared → Compared → Bool) → Compared → Option (TestInstanceId × TestNews) → Bool
is_failure_of same due told = option_map_or (λ t. same_news same (failed due) t.1) told false

abbrev pub is_finish_of : (Compared → Compared → Bool) → List Compared → Option (TestInstanceId × TestNews) → Bool
is_finish_of same due told = option_map_or (λ t. same_news same (finished due) t.1) told false
