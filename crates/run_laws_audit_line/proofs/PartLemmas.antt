-- What stands at the keys of events is read as what was put there.
use Rattle.std.proofs.Common.{◌≡◌, ◌∙◌, ℕ, ◌<◌, ◌^◌, List, [], ◌∷◌, Option, Some, None, map, IfSome, codes, refl, ap}
use Rattle.std.proofs.Common.{lt-ltb, option_and_then, option_map}
use Rattle.std.specs.Option.{option_or}
use Rattle.serde_json.specs.Data.{Data, string}
use Rattle.serde_json.specs.Find.{as_str, get}
use Rattle.serde_json.specs.View.{items_of}
use Rattle.run_events.specs.declared.cancel.CancelReason.{CancelReason}
use Rattle.run_events.specs.declared.cancel.CancelReason.TheVariants as reasons
use Rattle.run_events.specs.declared.plan.GroupSlot.{GroupSlot}
use Rattle.run_events.specs.declared.plan.TestSlotAssignment.{TestSlotAssignment}
use Rattle.run_events.specs.declared.result.ExecuteStatus.{ExecuteStatus}
use Rattle.run_events.specs.declared.stats.RunStats.{RunStats}
use Rattle.run_input.specs.Fields.{u32_of}
use Rattle.run_output.specs.Fields.{count}
use Rattle.run_output.specs.Slots.{slot_data, slot_fields}
use Rattle.run_output.specs.Stats.{stats_data, stats_fields, script_count_fields, test_fields, reason_word}
use Rattle.run_output.specs.Statuses.{status_data}
use Rattle.run_text_laws.proofs.ObjectLemmas.{has_fields}
use Rattle.run_audit_model.specs.Seen.{attempt_text}
use Rattle.run_audit_line.specs.EventLine.{assignment_of, compact_statuses_from, group_slot_of, reason_named}
use Rattle.run_audit_line.specs.EventLine.{stats_reason}
use Rattle.run_laws_audit_line.specs.EventLines.{IsSlot}

-- a number of 32 bits is read as it
pub number_again : (n : ℕ) → n < 2 ^ 32 → u32_of (count n) ≡ Some n
number_again n fits = rw (lt-ltb n (2 ^ 32) fits) refl

-- the word of a reason names it
pub reason_again : (reason : CancelReason) → reason_named (reason_word reason) ≡ Some reason
unfolding reason_word
reason_again reasons.SetupScriptFailure = refl
reason_again reasons.TestFailure = refl
reason_again reasons.ReportError = refl
reason_again reasons.GlobalTimeout = refl
reason_again reasons.TestFailureImmediate = refl
reason_again reasons.Signal = refl
reason_again reasons.Interrupt = refl
reason_again reasons.SecondSignal = refl

-- a value or none, before which there was none
alone : {X : Type 0} → (f : X → Data) (o : Option X) → option_or (option_map f o) None ≡ option_map f o
alone f None = refl
alone f (Some x) = refl

-- the reason of statistics stands in their object, if they have one
reason_at : (stats : RunStats)
    → get (codes "cancel_reason") (stats_data stats) ≡ option_map (λ r. string (reason_word r)) stats.cancel_reason
unfolding script_count_fields test_fields
reason_at stats =
    (has_fields (stats_fields stats)).at (codes "cancel_reason")
    ∙ alone (λ r. string (reason_word r)) stats.cancel_reason

-- statistics with a reason are read as having it
pub stats_again : (stats : RunStats) (reason : CancelReason) → stats.cancel_reason ≡ Some reason
    → stats_reason (stats_data stats) ≡ Some reason
stats_again stats reason is =
    ap (λ d. option_and_then reason_named (option_and_then as_str d))
    (reason_at stats ∙ ap (option_map (λ r. string (reason_word r))) is)
    ∙ reason_again reason

-- each status of a list is seen as its text
pub statuses_again : (statuses : List ExecuteStatus)
    → compact_statuses_from (items_of (map status_data statuses)) ≡ Some (map attempt_text statuses)
statuses_again [] = refl
statuses_again (status ∷ statuses) = rw (statuses_again statuses) refl

-- what an assignment's object has
global_at : (slot : TestSlotAssignment) → get (codes "global") (slot_data slot) ≡ Some (count slot.global)
unfolding slot_fields
global_at slot = (has_fields (slot_fields slot)).at (codes "global")

group_at : (slot : TestSlotAssignment)
    → get (codes "group") (slot_data slot) ≡ option_map (λ g. count g.slot) slot.group
unfolding slot_fields
group_at slot =
    (has_fields (slot_fields slot)).at (codes "group") ∙ alone (λ g. count g.slot) slot.group

name_at : (slot : TestSlotAssignment)
    → get (codes "name") (slot_data slot) ≡ option_map (λ g. string g.name) slot.group
unfolding slot_fields
name_at slot =
    (has_fields (slot_fields slot)).at (codes "name") ∙ alone (λ g. string g.name) slot.group

-- data with what stands in a group's keys are read as that group
group_again : (d : Data) (group : Option GroupSlot) → get (codes "group") d ≡ option_map (λ g. count g.slot) group
    → get (codes "name") d ≡ option_map (λ g. string g.name) group → IfSome group (λ g. g.slot < 2 ^ 32)
    → group_slot_of d ≡ Some group
group_again d None number name fits = rw (number, name) refl
group_again d (Some group) number name fits = rw (number, name, number_again group.slot fits) refl

with_parts : (d : Data) (slot : TestSlotAssignment) → get (codes "global") d ≡ Some (count slot.global)
    → group_slot_of d ≡ Some slot.group → slot.global < 2 ^ 32 → assignment_of d ≡ Some slot
with_parts d slot global group fits = rw (global, group, number_again slot.global fits) refl

-- an assignment whose numbers fit is read as it
pub slot_again : (slot : TestSlotAssignment) → IsSlot slot → assignment_of (slot_data slot) ≡ Some slot
slot_again slot fits =
    with_parts (slot_data slot) slot (global_at slot)
    (group_again (slot_data slot) slot.group (group_at slot) (name_at slot) fits.1) fits.0
