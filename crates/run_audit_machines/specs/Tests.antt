-- The accounts of the tests of a part as a machine.
use Rattle.std.specs.Prelude.{ℕ, suc, ◌==◌, List, [], ◌∷◌, Bool, true, false}
use lib.Pointwise.{pointwise}
use Rattle.run_events.specs.declared.plan.PlanTest.{PlanTest}
use Rattle.run_events.specs.declared.plan.TestInstanceId.{TestInstanceId}
use Rattle.run_events.specs.declared.settings.Settings.{Settings}
use Rattle.run_model.specs.declared.happening.Happening.{Happening}
use Rattle.run_model.specs.Admission.{unit_of_test}
use Rattle.run_model.specs.Reruns.{is_one_test}
use Rattle.run_audit_model.specs.Places.{Machine}
use Rattle.run_audit_model.specs.SeenTests.{TestNews, began, due_account, failed, finished, retried, seen_test}
use Rattle.run_audit_model.specs.SeenTests.{skipped}
use Rattle.run_audit_model.specs.Statuses.{Compared}
use Rattle.run_audit_model.specs.declared.audit_event.AuditEvent.{AuditEvent}
use Rattle.run_audit_machines.specs.Accounts.{CanTellEach, accounts_machine, accounts_seen}
use Rattle.run_audit_machines.specs.Machines.{InParts, one_each, over_parts}

-- two tell the same of a test, by a test of statuses
abbrev pub same_news : (Compared → Compared → Bool) → TestNews → TestNews → Bool
same_news same began began = true
same_news same (failed s) (failed t) = same s t
same_news same (retried a) (retried b) = a == b
same_news same (finished ss) (finished ts) = pointwise same ss ts
same_news same skipped skipped = true
same_news same _ _ = false

-- each test of the plan, with what is still due of it, which stands for news
abbrev pub TestPart : Type 0 → Type 0
TestPart Y = List (TestInstanceId × List Y)

abbrev pub test_part : {Y : Type 0} → (Y → TestNews) → (TestNews → TestNews → Bool) → Machine (TestPart Y) AuditEvent
test_part news same = accounts_machine is_one_test (λ due told. same (news due) told) seen_test

abbrev pub test_machine : {Y : Type 0} → (Y → TestNews) → (TestNews → TestNews → Bool)
    → Machine (InParts (TestPart Y) (List (TestPart Y))) AuditEvent
test_machine news same = over_parts (test_part news same) one_each

-- what is left can be told
abbrev pub CanTellTests : {Y : Type 0} → (Y → TestNews) → TestPart Y → Type 0
CanTellTests news accounts = CanTellEach is_one_test seen_test (accounts_seen news accounts)

-- what is due of a sub-run, test by test
abbrev pub accounts_from : Settings → List Happening → ℕ → List PlanTest → TestPart TestNews
accounts_from p run j [] = []
accounts_from p run j (test ∷ tests) =
    (test.id, due_account p run (unit_of_test p j)) ∷ accounts_from p run (suc j) tests

abbrev pub accounts_of : Settings → List Happening → TestPart TestNews
accounts_of p run = accounts_from p run 0 p.plan.tests
