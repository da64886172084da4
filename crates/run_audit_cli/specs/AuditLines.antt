-- What the lines of an auditor's input say: a plan, turns, that event lines follow, and events.
use Rattle.std.specs.Prelude.{ℕ, ◌≡◌, ◌⊎◌, ◌+◌, ◌&&◌, List, [], ◌∷◌, ◌++◌, length, Option, Some, None, IsSome}
use Rattle.std.specs.Prelude.{MatchOption, codes, is_none, nat_eq, option_map, option_and_then, if◌then◌else◌}
use Rattle.std.specs.Option.{option_or}
use Rattle.serde_json.specs.Data.{Data}
use Rattle.serde_json.specs.Find.{as_str, get}
use Rattle.run_events.specs.declared.plan.Plan.{Plan}
use Rattle.run_events.specs.declared.turn.Turn.{Turn}
use Rattle.run_input.specs.Fields.{◌>>=◌, is_object_of, when}
use Rattle.run_input.specs.Input.{plan_line_of, turn_line_of, turns_said}
use Rattle.run_input.specs.ValueOf.{json_value}
use Rattle.run_input.specs.declared.plan_line.RunnerKeys.{RunnerKeys}
use Rattle.run_audit_model.specs.declared.audit_event.AuditEvent.{AuditEvent}
use Rattle.run_audit_line.specs.EventLine.{audit_event_of}
use lib.Pointwise.{pointwise}

-- that event lines follow: the one key `audit` with the text `events`
unfoldable pub audit_mark_of : Data → Option (Unit {0})
audit_mark_of d = do
  _ ← when (is_object_of (codes "audit" ∷ []) d)
  word ← option_and_then as_str (get (codes "audit") d)
  when (pointwise nat_eq word (codes "events"))

-- what a line after the first says where no event line is due yet: a turn, or that event lines follow
abbrev pub turn_or_mark_of : List ℕ → Option (Option Turn)
turn_or_mark_of line =
    option_or (option_map Some (turn_line_of line))
    (option_map (λ _. None) (option_and_then audit_mark_of (json_value line)))

-- what an auditor sees in a value: nothing where it has the key `ask` or `outcome`, else an event
unfoldable pub seen_of_value : Data → Option (Option AuditEvent)
seen_of_value d =
    if is_none (get (codes "ask") d) && is_none (get (codes "outcome") d) then option_map Some (audit_event_of d)
    else Some None

-- what it sees in an event line
abbrev pub seen_line_of : List ℕ → Option (Option AuditEvent)
seen_line_of line = option_and_then seen_of_value (json_value line)

-- an event, where one is seen, before others
abbrev pub seen_first : Option AuditEvent → List AuditEvent → List AuditEvent
seen_first None events = events
seen_first (Some event) events = event ∷ events

-- the events that event lines tell, where each is one that an auditor reads
abbrev pub events_said : List (List ℕ) → Option (List AuditEvent)
events_said [] = Some []
events_said (line ∷ lines) = do
  seen ← seen_line_of line
  events ← events_said lines
  Some (seen_first seen events)

-- the lines after the first say these turns, then that event lines follow, and these do; the first of them has this
-- number
pub record SaysTurns (others : List (List ℕ)) (turns : List Turn) (event_lines : List (List ℕ)) (number : ℕ) : Type 0
  where
    pub turn_lines : List (List ℕ)
    pub mark : List ℕ
    pub split : others ≡ turn_lines ++ mark ∷ event_lines
    pub say : turns_said turn_lines ≡ Some turns
    pub marks : turn_or_mark_of mark ≡ Some None
    pub counted : number ≡ length turn_lines + 3

-- they say these turns, then that event lines follow, and those tell these events
abbrev pub SaysLater : List (List ℕ) → List Turn → List AuditEvent → Type 0
SaysLater others turns events =
    (event_lines : List (List ℕ)) × (number : ℕ) × SaysTurns others turns event_lines number
    × (events_said event_lines ≡ Some events)

-- the first line says a plan, and the others turns and events
abbrev pub IsAuditInput : List (List ℕ) → RunnerKeys → Plan → List Turn → List AuditEvent → Type 0
IsAuditInput [] keys plan turns events = ⊥
IsAuditInput (first ∷ others) keys plan turns events =
    (plan_line_of first ≡ Some (keys, plan)) × SaysLater others turns events

-- of the lines after the first, those before the one with this number say turns, and it says neither a turn nor that
-- event lines follow
pub record IsFirstNoTurn (others : List (List ℕ)) (number : ℕ) : Type 0 where
  pub before : List (List ℕ)
  pub bad : List ℕ
  pub after : List (List ℕ)
  pub split : others ≡ before ++ bad ∷ after
  pub good : IsSome (turns_said before)
  pub outside : turn_or_mark_of bad ≡ None
  pub counted : number ≡ length before + 2

-- the lines after the first all say turns, and this is the number of the line after the last
abbrev pub LacksMark : List (List ℕ) → ℕ → Type 0
LacksMark others number = IsSome (turns_said others) × (number ≡ length others + 2)

-- of event lines, the first of which has the number `start`, an auditor reads those before the one with this number,
-- and not that one
pub record IsFirstNoEvent (start : ℕ) (event_lines : List (List ℕ)) (number : ℕ) : Type 0 where
  pub before : List (List ℕ)
  pub bad : List ℕ
  pub after : List (List ℕ)
  pub split : event_lines ≡ before ++ bad ∷ after
  pub good : IsSome (events_said before)
  pub outside : seen_line_of bad ≡ None
  pub counted : number ≡ start + length before

-- of the lines after the first this is the first bad one: it says neither a turn nor that event lines follow; or it is
-- missing, as none says that; or it follows, and is no event line
abbrev pub IsFirstBadLater : List (List ℕ) → ℕ → Type 0
IsFirstBadLater others number =
    IsFirstNoTurn others number
    ⊎ (LacksMark others number
    ⊎ ((turns : List Turn) × (event_lines : List (List ℕ)) × (start : ℕ) × SaysTurns others turns event_lines start
    × IsFirstNoEvent start event_lines number))

-- the line of this number, from 1, is the first bad one: an input with no line has the bad line 1
abbrev pub IsFirstBadAudit : List (List ℕ) → ℕ → Type 0
IsFirstBadAudit [] number = number ≡ 1
IsFirstBadAudit (first ∷ others) number =
    MatchOption (plan_line_of first) (number ≡ 1) (λ _. IsFirstBadLater others number)
