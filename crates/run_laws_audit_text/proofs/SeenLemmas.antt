-- What an auditor sees of the lines of asks, outcomes and events, and of the line that says that event lines follow.
use Rattle.std.proofs.Common.{◌≡◌, ◌∙◌, ℕ, ◌≤◌, [], ◌∷◌, codes, Some, None, option_and_then}
use Rattle.std.proofs.Common.{option_map}
use Rattle.std.proofs.Common.{refl, ap, arith, IsUtf8}
use Rattle.json.proofs.Printed.Utf8.{IsUtf8-are_ascii}
use Rattle.serde_json.specs.Data.{Data, string, depth}
use Rattle.serde_json.specs.Find.{get}
use Rattle.serde_json.specs.Read.{max_depth}
use Rattle.serde_json.specs.Written.{compact_text}
use Rattle.run_events.specs.declared.ask.Ask.{Ask}
use Rattle.run_events.specs.declared.ask.Ask.TheVariants.{Start, Signal, StopSelf}
use Rattle.run_events.specs.declared.outcome.RunOutcome.{RunOutcome}
use Rattle.run_events.specs.declared.outcome.RunOutcome.TheVariants as outcomes
use Rattle.run_events.specs.declared.outcome.RunStep.{RunStep}
use Rattle.run_events.specs.declared.outcome.RunStep.TheVariants as steps
use Rattle.run_input.specs.TurnLine.{turn_of}
use Rattle.run_input.specs.ValueOf.{json_value}
use Rattle.run_output.specs.Asks.{ask_fields, ask_text, signal_fields, start_fields, stop_self_fields}
use Rattle.run_output.specs.Fields.{object_of, pair}
use Rattle.run_output.specs.Outcomes.{outcome_fields, outcome_text, outcome_word, step_word}
use Rattle.run_text_laws.specs.Objects.{AreShallow, ArePlainFields, field_at}
use Rattle.run_text_laws.specs.Plain.{IsPlain}
use Rattle.run_text_laws.proofs.ObjectLemmas.{has_fields}
use Rattle.run_text_laws.proofs.ReadLemmas.{all_read}
use Rattle.run_audit_line.specs.EventLine.{audit_event_of}
use Rattle.run_laws_audit_line.proofs.EventLemmas.{value_read}
use Rattle.run_laws_audit_line.proofs.ShallowLemmas.{array_low, texts_low}
use Rattle.run_audit_cli.specs.AuditLines.{audit_mark_of, seen_line_of, seen_of_value, turn_or_mark_of}
use Rattle.run_laws_audit_text.specs.Replayed.{ask_data, mark_text}
use Rattle.run_laws_audit_text.proofs.FeedLemmas.{text_feedless}
use Rattle.run_laws_audit_text.proofs.LineLemmas.{HasNoFeed}

-- ---- values

-- a line of plain data is seen by its value
pub seen_of_text : (d : Data) → IsPlain d → depth d ≤ max_depth → seen_line_of (compact_text d) ≡ seen_of_value d
seen_of_text d plain low = ap (option_and_then seen_of_value) (value_read d (all_read d plain low))

-- a value with the key `ask` is passed over
ask_passed : (d x : Data) → get (codes "ask") d ≡ Some x → seen_of_value d ≡ Some None
unfolding seen_of_value
ask_passed d x here = rw here refl

-- so is one with the key `outcome`
outcome_passed : (d x : Data) → get (codes "ask") d ≡ None → get (codes "outcome") d ≡ Some x
    → seen_of_value d ≡ Some None
unfolding seen_of_value
outcome_passed d x no_ask here = rw (no_ask, here) refl

-- one with neither is an event
pub event_seen : (d : Data) → get (codes "ask") d ≡ None → get (codes "outcome") d ≡ None
    → seen_of_value d ≡ option_map Some (audit_event_of d)
unfolding seen_of_value
event_seen d no_ask no_outcome = rw (no_ask, no_outcome) refl

-- ---- asks

-- what stands at its key `ask`
ask_at : (turn : ℕ) (ask : Ask)
    → get (codes "ask") (ask_data (turn, ask)) ≡ field_at (codes "ask") (ask_fields turn ask) None
ask_at turn ask = (has_fields (ask_fields turn ask)).at (codes "ask")

-- so an ask is passed over
ask_value : (turn : ℕ) (ask : Ask) → seen_of_value (ask_data (turn, ask)) ≡ Some None
unfolding start_fields signal_fields stop_self_fields
ask_value turn (Start start) =
    ask_passed (ask_data (turn, Start start)) (string (codes "start")) (ask_at turn (Start start))
ask_value turn (Signal ask) =
    ask_passed (ask_data (turn, Signal ask)) (string (codes "signal")) (ask_at turn (Signal ask))
ask_value turn StopSelf = ask_passed (ask_data (turn, StopSelf)) (string (codes "stop-self")) (ask_at turn StopSelf)

-- its fields nest no deeper than pairs
ask_low : (turn : ℕ) (ask : Ask) → AreShallow 2 (ask_fields turn ask)
unfolding start_fields signal_fields stop_self_fields
ask_low turn (Start start) = (
  omega arith,
  (
    omega arith,
    (
      omega (arith, texts_low start.command),
      (
        array_low 1 pair (λ texts_of_pair. texts_low (texts_of_pair.0 ∷ texts_of_pair.1 ∷ [])) start.env,
        (omega arith, (omega arith, (omega arith, (omega arith, tt)))),
      ),
    ),
  ),
)
ask_low turn (Signal ask) = (omega arith, (omega arith, (omega arith, (omega arith, (omega arith, tt)))))
ask_low turn StopSelf = (omega arith, (omega arith, tt))

-- the line of an ask is passed over
pub ask_seen : (ask : ℕ × Ask) → IsPlain (ask_data ask) → seen_line_of (ask_text ask.0 ask.1) ≡ Some None
ask_seen ask plain =
    let low : depth (ask_data ask) ≤ 3 = (has_fields (ask_fields ask.0 ask.1)).shallow 2 (ask_low ask.0 ask.1) in
    seen_of_text (ask_data ask) plain (omega (arith, low)) ∙ ask_value ask.0 ask.1

-- ---- outcomes

-- the word of a step is UTF-8
step_plain : (s : RunStep) → IsUtf8 (step_word s)
unfolding step_word
step_plain steps.SetupScript = IsUtf8-are_ascii (codes "setup-script") refl
step_plain steps.Test = IsUtf8-are_ascii (codes "test") refl

-- so are the fields of an outcome
outcome_fields_plain : (o : RunOutcome) → ArePlainFields (outcome_fields o)
unfolding outcome_fields outcome_word
outcome_fields_plain outcomes.Success = (
  IsUtf8-are_ascii (codes "outcome") refl,
  IsUtf8-are_ascii (codes "success") refl,
  (IsUtf8-are_ascii (codes "step") refl, tt, tt),
)
outcome_fields_plain outcomes.NoTestsRun = (
  IsUtf8-are_ascii (codes "outcome") refl,
  IsUtf8-are_ascii (codes "no-tests-run") refl,
  (IsUtf8-are_ascii (codes "step") refl, tt, tt),
)
outcome_fields_plain (outcomes.Failed s) = (
  IsUtf8-are_ascii (codes "outcome") refl,
  IsUtf8-are_ascii (codes "failed") refl,
  (IsUtf8-are_ascii (codes "step") refl, step_plain s, tt),
)
outcome_fields_plain (outcomes.Cancelled s) = (
  IsUtf8-are_ascii (codes "outcome") refl,
  IsUtf8-are_ascii (codes "cancelled") refl,
  (IsUtf8-are_ascii (codes "step") refl, step_plain s, tt),
)

-- the object of an outcome
abbrev pub outcome_data : RunOutcome → Data
outcome_data o = object_of (outcome_fields o)

-- it is plain
pub outcome_plain : (o : RunOutcome) → IsPlain (outcome_data o)
outcome_plain o = (has_fields (outcome_fields o)).plain (outcome_fields_plain o)

-- and flat
outcome_shallow : (o : RunOutcome) → AreShallow 0 (outcome_fields o)
unfolding outcome_fields
outcome_shallow outcomes.Success = (omega arith, (tt, tt))
outcome_shallow outcomes.NoTestsRun = (omega arith, (tt, tt))
outcome_shallow (outcomes.Failed s) = (omega arith, (omega arith, tt))
outcome_shallow (outcomes.Cancelled s) = (omega arith, (omega arith, tt))

-- it has no key `ask`
outcome_no_ask : (o : RunOutcome) → field_at (codes "ask") (outcome_fields o) None ≡ None
unfolding outcome_fields
outcome_no_ask outcomes.Success = refl
outcome_no_ask outcomes.NoTestsRun = refl
outcome_no_ask (outcomes.Failed s) = refl
outcome_no_ask (outcomes.Cancelled s) = refl

-- and has the key `outcome`
outcome_at : (o : RunOutcome) → field_at (codes "outcome") (outcome_fields o) None ≡ Some (string (outcome_word o))
unfolding outcome_fields
outcome_at outcomes.Success = refl
outcome_at outcomes.NoTestsRun = refl
outcome_at (outcomes.Failed s) = refl
outcome_at (outcomes.Cancelled s) = refl

-- the line of an outcome is passed over
pub outcome_seen : (o : RunOutcome) → seen_line_of (outcome_text o) ≡ Some None
outcome_seen o =
    let has = has_fields (outcome_fields o) in
    let low : depth (outcome_data o) ≤ 1 = has.shallow 0 (outcome_shallow o) in
    seen_of_text (outcome_data o) (outcome_plain o) (omega (arith, low))
    ∙ outcome_passed (outcome_data o) (string (outcome_word o)) (has.at (codes "ask") ∙ outcome_no_ask o)
    (has.at (codes "outcome") ∙ outcome_at o)

-- ---- the line that says that event lines follow

-- its object
abbrev mark_data : Data
mark_data = object_of ((codes "audit", Some (string (codes "events"))) ∷ [])

-- it is plain
mark_plain : IsPlain mark_data
mark_plain =
    (has_fields ((codes "audit", Some (string (codes "events"))) ∷ [])).plain
    (IsUtf8-are_ascii (codes "audit") refl, IsUtf8-are_ascii (codes "events") refl, tt)

-- and flat
mark_low : depth mark_data ≤ 1
mark_low = (has_fields ((codes "audit", Some (string (codes "events"))) ∷ [])).shallow 0 (omega arith, tt)

-- so the line is read as it
mark_value : json_value mark_text ≡ Some mark_data
mark_value = value_read mark_data (all_read mark_data mark_plain (omega (arith, mark_low)))

-- which says no turn
mark_no_turn : turn_of mark_data ≡ None
unfolding turn_of
mark_no_turn = refl

-- and says that event lines follow
mark_is : audit_mark_of mark_data ≡ Some tt
unfolding audit_mark_of
mark_is = refl

-- so the line says that, and no turn
pub mark_read : turn_or_mark_of mark_text ≡ Some None
mark_read = rw (mark_value, mark_no_turn, mark_is) refl

-- it has no line feed
pub mark_feedless : HasNoFeed mark_text
mark_feedless = text_feedless mark_data mark_plain
