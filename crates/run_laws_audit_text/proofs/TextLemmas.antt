-- What the lines of a replay's text tell.
use Rattle.std.proofs.Common.{◌≡◌, ◌∙◌, ℕ, List, [], ◌∷◌, ◌++◌, map, Option, Some, None, Ok, refl, sym, ap}
use Rattle.std.proofs.Common.{◌+◌, append_assoc, append-nil, length, reverse}
use Rattle.std.specs.List.{All}
use Rattle.std.proofs.lemmas.List.Elements.{All-head, All-tail}
use Rattle.run_events.specs.declared.ask.Ask.{Ask}
use Rattle.run_events.specs.declared.events.ReporterEvent.{ReporterEvent}
use Rattle.run_events.specs.declared.outcome.RunOutcome.{RunOutcome}
use Rattle.run_events.specs.declared.plan.Plan.{Plan}
use Rattle.run_events.specs.declared.settings.Settings.{Settings}
use Rattle.run_events.specs.declared.turn.Turn.{Turn}
use Rattle.run_model.specs.declared.entry.Entry.{Entry}
use Rattle.run_model.specs.Journal.{IsLegal, past_of}
use Rattle.run_model.specs.Words.{asked, told}
use Rattle.run_input.specs.Input.{IsInput}
use Rattle.run_input.specs.Lines.{lines_of}
use Rattle.run_input.specs.declared.plan_line.RunnerKeys.{RunnerKeys}
use Rattle.run_output.specs.Asks.{ask_lines, ask_text}
use Rattle.run_output.specs.Events.{event_text}
use Rattle.run_output.specs.Fields.{line_bytes}
use Rattle.run_output.specs.Outcomes.{outcome_text}
use Rattle.run_output.specs.Told.{event_line}
use Rattle.run_text_laws.specs.Plain.{IsPlain}
use Rattle.run_audit_model.specs.Seen.{as_audited}
use Rattle.run_audit_model.specs.declared.audit_event.AuditEvent.{AuditEvent}
use Rattle.run_laws_audit_line.specs.EventLines.{IsReadSo, NumbersFit, event_data}
use Rattle.run_laws_audit_line.specs.ToldLines.{IsReadIfPlain}
use Rattle.run_laws_audit_line.proofs.ToldLemmas.{all_read_so}
use Rattle.run_cli.specs.Text.{history_text, joined, whole_form}
use Rattle.run_audit_cli.specs.AuditLines.{IsAuditInput, events_said, seen_first, seen_line_of}
use Rattle.run_laws_audit_text.specs.Replayed.{HasPlainLines, ask_data, audit_lines, mark_text}
use Rattle.run_laws_audit_text.proofs.EventLemmas.{event_feedless, event_line_seen}
use Rattle.run_laws_audit_text.proofs.FeedLemmas.{text_feedless}
use Rattle.run_laws_audit_text.proofs.LineLemmas.{HasNoFeed, line_first}
use Rattle.run_laws_audit_text.proofs.SeenLemmas.{ask_seen, mark_read, outcome_data, outcome_plain, outcome_seen}

-- a line without a line feed, whatever comes after it
line_said : (line rest : List ℕ) (seen : Option AuditEvent) (events : List AuditEvent) → HasNoFeed line
    → seen_line_of line ≡ Some seen → events_said (lines_of rest) ≡ Some events
    → events_said (lines_of (line_bytes line ++ rest)) ≡ Some (seen_first seen events)
line_said line rest seen events none is more =
    let split = line_first line rest none in
    rw (split, is, more) refl

-- the line of the outcome tells nothing
last_said : (o : RunOutcome) → events_said (lines_of (line_bytes (outcome_text o))) ≡ Some []
last_said o =
    let none : HasNoFeed (outcome_text o) = text_feedless (outcome_data o) (outcome_plain o) in
    ap (λ text. events_said (lines_of text)) (sym (append-nil (line_bytes (outcome_text o))))
    ∙ line_said (outcome_text o) [] None [] none (outcome_seen o) refl

-- nor do the lines of asks
asks_said : (asks : List (ℕ × Ask)) (rest : List ℕ) (events : List AuditEvent)
    → All (λ ask. IsPlain (ask_data ask)) asks → events_said (lines_of rest) ≡ Some events
    → events_said (lines_of (ask_lines asks ++ rest)) ≡ Some events
asks_said [] rest events plain more = more
asks_said (ask ∷ asks) rest events plain more =
    let own : IsPlain (ask_data ask) = All-head (λ ask. IsPlain (ask_data ask)) ask asks plain in
    let others : events_said (lines_of (ask_lines asks ++ rest)) ≡ Some events =
    asks_said asks rest events (All-tail (λ ask. IsPlain (ask_data ask)) ask asks plain) more in
    ap (λ text. events_said (lines_of text))
    (append_assoc (line_bytes (ask_text ask.0 ask.1)) (ask_lines asks) rest)
    ∙ line_said (ask_text ask.0 ask.1) (ask_lines asks ++ rest) None events (text_feedless (ask_data ask) own)
    (ask_seen ask own) others

-- the lines of events tell these
events_told : (es : List ReporterEvent) (rest : List ℕ) (events : List AuditEvent)
    → All (λ e. IsPlain (event_data e)) es → All NumbersFit es → All IsReadIfPlain es
    → events_said (lines_of rest) ≡ Some events
    → events_said (lines_of (joined (map event_line es) ++ rest)) ≡ Some (map as_audited es ++ events)
events_told [] rest events plain fit reads more = more
events_told (e ∷ es) rest events plain fit reads more =
    let own : IsPlain (event_data e) = All-head (λ e. IsPlain (event_data e)) e es plain in
    let read : IsReadSo e = All-head IsReadIfPlain e es reads own (All-head NumbersFit e es fit) in
    let others : events_said (lines_of (joined (map event_line es) ++ rest)) ≡ Some (map as_audited es ++ events) =
    events_told es rest events (All-tail (λ e. IsPlain (event_data e)) e es plain) (All-tail NumbersFit e es fit)
    (All-tail IsReadIfPlain e es reads) more in
    ap (λ text. events_said (lines_of text))
    (append_assoc (event_line e) (joined (map event_line es)) rest)
    ∙ line_said (event_text e) (joined (map event_line es) ++ rest) (Some (as_audited e)) (map as_audited es ++ events)
    (event_feedless e own) (event_line_seen e own read) others

-- the text of a run tells what it told
pub text_said : (p : Settings) (journal : List Entry) (o : RunOutcome) → IsLegal p journal
    → HasPlainLines (past_of p journal)
    → events_said (lines_of (history_text whole_form (past_of p journal) (Ok o)))
    ≡ Some (map as_audited (told (past_of p journal)))
text_said p journal o legal plain =
    let past = past_of p journal in
    events_told (told past) (ask_lines (asked past) ++ line_bytes (outcome_text o)) [] plain.events plain.numbers
    (all_read_so p (reverse journal) legal)
    (asks_said (asked past) (line_bytes (outcome_text o)) [] plain.asks (last_said o))
    ∙ ap Some (append-nil (map as_audited (told past)))

-- so the input of a replay with that text after it is an auditor's
pub input_read : (input : List (List ℕ)) (keys : RunnerKeys) (plan : Plan) (turns : List Turn) (text : List ℕ)
    (events : List AuditEvent) → IsInput input keys plan turns → events_said (lines_of text) ≡ Some events
    → IsAuditInput (audit_lines input text) keys plan turns events
input_read [] keys plan turns text events says tell = absurd says
input_read (first ∷ others) keys plan turns text events says tell = (
  says.0,
  (
    lines_of text,
    length others + 3,
    record {
      turn_lines = others;
      mark = mark_text;
      split = refl;
      say = says.1;
      marks = mark_read;
      counted = refl;
    },
    tell,
  ),
)
