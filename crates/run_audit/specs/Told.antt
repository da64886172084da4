-- What is due of the parts of a run, event by event of what it told.
use Rattle.std.specs.Prelude.{ℕ, ◌≡◌, List, [], ◌∷◌, ◌++◌, map, set, slice_get, filter_map, Bool, false, if◌then◌else◌}
use Rattle.std.specs.Prelude.{Option, Some, None, option_to_list}
use Rattle.run_events.specs.declared.events.ReporterEvent.{ReporterEvent}
use Rattle.run_events.specs.declared.plan.TestInstanceId.{TestInstanceId}
use Rattle.run_audit_model.specs.Parts.{closes_part}
use Rattle.run_audit_model.specs.Seen.{as_audited}
use Rattle.run_audit_model.specs.SeenScripts.{ScriptNews}
use Rattle.run_audit_model.specs.SeenTests.{TestNews, news_if}
use Rattle.run_audit_machines.specs.Accounts.{accounts_by, accounts_seen}
use Rattle.run_audit_machines.specs.Cancels.{CancelPart, Cancelled}
use Rattle.run_audit_machines.specs.Scripts.{ScriptPart, before_scripts}
use Rattle.run_audit_machines.specs.Tests.{TestPart}
use Rattle.run_audit_passes.specs.Due.{due_news, due_test_news}
use Rattle.run_audit_passes.specs.Texts.{known_compared}
use Rattle.run_audit_passes.specs.declared.due_script.DueScript.{DueScript}
use Rattle.run_audit_passes.specs.declared.due_test.DueTest.{DueTest}
use Rattle.run_laws_audit.specs.Due.{cancel_news, script_news, test_news}
use Rattle.run_laws_audit.specs.Split.{news_by_part}

-- no event tells any
abbrev pub no_news : ReporterEvent → Option ℕ
no_news e = None

-- ---- cancels

-- a part of which these cancels are due
abbrev pub before_cancels : List Cancelled → CancelPart
before_cancels due = (due, false)

-- these parts, the open one with so much due of it, and those of the events that come
abbrev pub cancels_all : Bool → List CancelPart → List Cancelled → List ReporterEvent → List CancelPart
cancels_all stress parts due events = parts ++ map before_cancels (news_by_part stress cancel_news due events)

-- ---- setup scripts, by what is known of statuses

-- what is known of a status: the texts of the values that are compared
abbrev pub Known : Type 0
Known = Option (List (Option (List ℕ)))

abbrev pub script_known : DueScript Known → ScriptNews
script_known due = due_news known_compared due

abbrev pub script_part_known : ScriptPart (DueScript Known) → ScriptPart ScriptNews
script_part_known part = (map script_known part.0, part.1)

-- these parts, the open one with so much due of it, and those of the events that come
abbrev pub scripts_all : Bool → List (ScriptPart (DueScript Known)) → List (DueScript Known) → List ReporterEvent
    → List (ScriptPart ScriptNews)
scripts_all stress parts due events =
    map script_part_known parts ++ map before_scripts (news_by_part stress script_news (map script_known due) events)

-- ---- tests, each with its account

abbrev pub test_known : DueTest Known → TestNews
test_known due = due_test_news known_compared due

-- the accounts of tests with what one more event tells
abbrev pub account_with : ReporterEvent → TestInstanceId × List TestNews → TestInstanceId × List TestNews
account_with e account = (account.0, account.1 ++ option_to_list (news_if account.0 (test_news e)))

abbrev pub accounts_with : ReporterEvent → TestPart TestNews → TestPart TestNews
accounts_with e accounts = map (account_with e) accounts

-- tests of which nothing was told
abbrev pub no_accounts : List TestInstanceId → TestPart TestNews
no_accounts ids = map (λ id. (id, [])) ids

-- the accounts of each part, after those of the open one so far
abbrev pub accounts_by_part : Bool → List TestInstanceId → TestPart TestNews → List ReporterEvent
    → List (TestPart TestNews)
accounts_by_part stress ids so_far [] = []
accounts_by_part stress ids so_far (e ∷ events) =
    if closes_part stress (as_audited e) then so_far ∷ accounts_by_part stress ids (no_accounts ids) events
    else accounts_by_part stress ids (accounts_with e so_far) events

-- the accounts of the open part, by its queues, one for each test
abbrev pub accounts_known : {Q : Type 0} → (Q → List (DueTest Known)) → List TestInstanceId → List Q → TestPart TestNews
accounts_known items ids queues = accounts_seen test_known (accounts_by items ids queues)

-- these parts, the open one with its queues, and those of the events that come
abbrev pub accounts_all : {Q : Type 0} → (Q → List (DueTest Known)) → Bool → List TestInstanceId
    → List (TestPart (DueTest Known)) → List Q → List ReporterEvent → List (TestPart TestNews)
accounts_all items stress ids parts queues events =
    map (accounts_seen test_known) parts ++ accounts_by_part stress ids (accounts_known items ids queues) events

-- the queue at a place has one item more, at its end
abbrev pub AddsAt : {Q Y : Type 0} → (Q → List Y) → List Q → ℕ → Y → List Q → Type 0
AddsAt {Q} items queues place y after = (queue more : Q) × (slice_get queues place ≡ Some queue)
    × (items more ≡ items queue ++ y ∷ []) × (after ≡ set queues place more)

-- what these news tell of each test
abbrev pub accounts_told : List TestInstanceId → List (TestInstanceId × TestNews) → TestPart TestNews
accounts_told ids news = map (λ id. (id, filter_map (λ told. news_if id (Some told)) news)) ids
