-- Lines say one thing: lines that say a plan, turns and events say no others, and have no first bad line.
use Rattle.std.proofs.Common.{◌≡◌, ◌∙◌, ℕ, ◌+◌, inl, inr, List, [], ◌∷◌, ◌++◌, length, Option, Some, None, option_map}
use Rattle.std.proofs.Common.{option_and_then, IsSome, Result, Ok, Err, refl, ap, sym, subst, arith}
use Rattle.std.specs.Option.{option_or}
use Rattle.std.proofs.lemmas.List.{append-nil}
use Rattle.std.proofs.lemmas.Option.{none-some, same_Some}
use Rattle.run_events.specs.declared.plan.Plan.{Plan}
use Rattle.run_events.specs.declared.turn.Turn.{Turn}
use Rattle.run_input.specs.Input.{plan_line_of, turn_line_of, turns_said}
use Rattle.run_input.specs.declared.plan_line.RunnerKeys.{RunnerKeys}
use Rattle.run_audit_model.specs.declared.audit_event.AuditEvent.{AuditEvent}
use Rattle.run_audit_cli.specs.AuditLines.{IsAuditInput, IsFirstBadAudit, IsFirstBadLater, IsFirstNoEvent}
use Rattle.run_audit_cli.specs.AuditLines.{IsFirstNoTurn, LacksMark, SaysTurns, events_said, seen_line_of}
use Rattle.run_audit_cli.specs.AuditLines.{turn_or_mark_of, seen_first}

-- turns, and the event lines that follow; or the first bad line before
abbrev Scanned : Type 0
Scanned = Result (List Turn × List (List ℕ)) ℕ

abbrev with_turn : Turn → Scanned → Scanned
with_turn turn (Ok found) = Ok (turn ∷ found.0, found.1)
with_turn turn (Err number) = Err number

abbrev scan_said : Option (Option Turn) → ℕ → List (List ℕ) → Scanned → Scanned
scan_said None number lines rest = Err number
scan_said (Some None) number lines rest = Ok ([], lines)
scan_said (Some (Some turn)) number lines rest = with_turn turn rest

-- lines, of which the first has this number
abbrev scan : ℕ → List (List ℕ) → Scanned
scan number [] = Err number
scan number (line ∷ lines) = scan_said (turn_or_mark_of line) number lines (scan (number + 1) lines)

abbrev with_turns : List Turn → Scanned → Scanned
with_turns [] found = found
with_turns (turn ∷ turns) found = with_turn turn (with_turns turns found)

-- a turn line says a turn
turn_says : (said : Option Turn) (marked : Option (Unit {0})) (turn : Turn) → said ≡ Some turn
    → option_or (option_map Some said) (option_map (λ _. None) marked) ≡ Some (Some turn)
turn_says None marked turn e = absurd (none-some turn e)
turn_says (Some said) marked turn e = ap (λ x. Some (Some x)) (same_Some said turn e)

first_turn : (first : Option Turn) (rest : Option (List Turn)) (turns : List Turn)
    → option_and_then (λ turn. option_and_then (λ others. Some (turn ∷ others)) rest) first ≡ Some turns
    → (turn : Turn) × (others : List Turn) × (first ≡ Some turn) × (rest ≡ Some others) × (turn ∷ others ≡ turns)
first_turn None rest turns e = absurd (none-some turns e)
first_turn (Some turn) None turns e = absurd (none-some turns e)
first_turn (Some turn) (Some others) turns e = (turn, others, refl, refl, same_Some _ _ e)

-- turn lines are scanned one by one
scan_turns : (number : ℕ) (before after : List (List ℕ)) (turns : List Turn) → turns_said before ≡ Some turns
    → scan number (before ++ after) ≡ with_turns turns (scan (number + length before) after)
scan_turns number [] after turns e =
    let none : [] ≡ turns = same_Some [] turns e in
    let zeroth : number + 0 ≡ number = omega arith in
    subst (λ ts. scan number after ≡ with_turns ts (scan (number + 0) after)) none (rw zeroth refl)
scan_turns number (line ∷ before) after turns e =
    let (turn, others, is, are, whole) = first_turn (turn_line_of line) (turns_said before) turns e in
    let says = turn_says (turn_line_of line) _ turn is in
    let more = scan_turns (number + 1) before after others are in
    let next : number + 1 + length before ≡ number + length (line ∷ before) = omega arith in
    ap (λ said. scan_said said number (before ++ after) (scan (number + 1) (before ++ after))) says
    ∙ ap (with_turn turn) more ∙ ap (λ n. with_turn turn (with_turns others (scan n after))) next
    ∙ ap (λ ts. with_turns ts (scan (number + length (line ∷ before)) after)) whole

turns_found : (turns : List Turn) (lines : List (List ℕ)) → with_turns turns (Ok ([], lines)) ≡ Ok (turns, lines)
turns_found [] lines = refl
turns_found (turn ∷ turns) lines = ap (with_turn turn) (turns_found turns lines)

turns_bad : (turns : List Turn) (number : ℕ) → with_turns turns (Err number) ≡ Err number
turns_bad [] number = refl
turns_bad (turn ∷ turns) number = ap (with_turn turn) (turns_bad turns number)

-- lines that say turns are scanned so
scan_says : (others : List (List ℕ)) (turns : List Turn) (event_lines : List (List ℕ)) (number : ℕ)
    → SaysTurns others turns event_lines number → scan 2 others ≡ Ok (turns, event_lines)
scan_says others turns event_lines number x =
    let n = 2 + length x.turn_lines in
    ap (scan 2) x.split ∙ scan_turns 2 x.turn_lines (x.mark ∷ event_lines) turns x.say
    ∙ ap (λ said. with_turns turns (scan_said said n event_lines (scan (n + 1) event_lines))) x.marks
    ∙ turns_found turns event_lines

-- turns that are said
said_turns : (o : Option (List Turn)) → IsSome o → (turns : List Turn) × (o ≡ Some turns)
said_turns None some = cc
said_turns (Some turns) some = (turns, refl)

scan_no_turn : (others : List (List ℕ)) (number : ℕ) → IsFirstNoTurn others number
    → (n : ℕ) × (scan 2 others ≡ Err n)
scan_no_turn others number x =
    let n = 2 + length x.before in
    let (turns, are) = said_turns (turns_said x.before) x.good in (
      n,
      ap (scan 2) x.split ∙ scan_turns 2 x.before (x.bad ∷ x.after) turns are
          ∙ ap (λ said. with_turns turns (scan_said said n x.after (scan (n + 1) x.after))) x.outside
          ∙ turns_bad turns n,
    )

scan_no_mark : (others : List (List ℕ)) (number : ℕ) → LacksMark others number → (n : ℕ) × (scan 2 others ≡ Err n)
scan_no_mark others number x =
    let n = 2 + length others in
    let (turns, are) = said_turns (turns_said others) x.0 in (
      n,
      ap (scan 2) (sym (append-nil others)) ∙ scan_turns 2 others [] turns are ∙ turns_bad turns n,
    )

never_both : {A E X : Type 0} (r : Result A E) (a : A) (e : E) → r ≡ Ok a → r ≡ Err e → X
never_both (Ok b) a e is not_so = cc
never_both (Err f) a e is not_so = cc

same_ok : {A E : Type 0} (a b : A) → ◌≡◌ {A = Result A E} (Ok a) (Ok b) → a ≡ b
same_ok a b e = cc

-- no events are told by lines of which one is bad
none_after : (first : Option (Option AuditEvent))
    → option_and_then (λ seen. option_and_then (λ (more : List AuditEvent). Some (seen_first seen more)) None) first
    ≡ None
none_after None = refl
none_after (Some seen) = refl

no_event_among : (before : List (List ℕ)) (bad : List ℕ) (after : List (List ℕ)) → seen_line_of bad ≡ None
    → events_said (before ++ bad ∷ after) ≡ None
no_event_among [] bad after outside = rw outside refl
no_event_among (line ∷ before) bad after outside =
    let rest = no_event_among before bad after outside in rw rest (none_after (seen_line_of line))

events_or_bad : {X : Type 0} (start number : ℕ) (lines : List (List ℕ)) (events : List AuditEvent)
    → events_said lines ≡ Some events → IsFirstNoEvent start lines number → X
events_or_bad start number lines events are x =
    let none = ap events_said x.split ∙ no_event_among x.before x.bad x.after x.outside in
    absurd (none-some events (sym none ∙ are))

-- lines after the first that say turns and events have no first bad one
later_or_bad : {X : Type 0} (others : List (List ℕ)) (turns : List Turn) (event_lines : List (List ℕ)) (start : ℕ)
    (events : List AuditEvent) (number : ℕ) → SaysTurns others turns event_lines start
    → events_said event_lines ≡ Some events → IsFirstBadLater others number → X
later_or_bad others turns event_lines start events number says are (inl x) =
    let bad = scan_no_turn others number x in
    never_both (scan 2 others) _ bad.0 (scan_says others turns event_lines start says) bad.1
later_or_bad others turns event_lines start events number says are (inr (inl x)) =
    let bad = scan_no_mark others number x in
    never_both (scan 2 others) _ bad.0 (scan_says others turns event_lines start says) bad.1
later_or_bad others turns event_lines start events number says are (inr (inr (ts, lines, n, also, x))) =
    let one = scan_says others turns event_lines start says in
    let two = scan_says others ts lines n also in
    let same : (turns, event_lines) ≡ (ts, lines) = same_ok _ _ (sym one ∙ two) in
    let both : event_lines ≡ lines = ap (λ (p : List Turn × List (List ℕ)). p.1) same in
    events_or_bad n number lines events (subst (λ ls. events_said ls ≡ Some events) both are) x

-- an input that says a plan, turns and events has no first bad line
pub audit_or_bad : {X : Type 0} (lines : List (List ℕ)) (keys : RunnerKeys) (plan : Plan) (turns : List Turn)
    (events : List AuditEvent) (number : ℕ) → IsAuditInput lines keys plan turns events
    → IsFirstBadAudit lines number → X
audit_or_bad [] keys plan turns events number says bad = absurd says
audit_or_bad (first ∷ others) keys plan turns events number (head, (event_lines, start, says, are)) bad =
    let later : IsFirstBadLater others number = rw head at bad in
    later_or_bad others turns event_lines start events number says are later

-- it says one plan, and no other turns and events
pub one_audit : (lines : List (List ℕ)) (k l : RunnerKeys) (p q : Plan) (ts us : List Turn) (es fs : List AuditEvent)
    → IsAuditInput lines k p ts es → IsAuditInput lines l q us fs
    → (◌≡◌ {A = RunnerKeys × Plan} (l, q) (k, p)) × (us ≡ ts) × (fs ≡ es)
one_audit [] k l p q ts us es fs one other = absurd one
one_audit (first ∷ others) k l p q ts us es fs (head, (ls, n, says, are)) (face, (ms, m, also, too)) =
    let scanned = scan_says others ts ls n says in
    let again = scan_says others us ms m also in
    let same : (us, ms) ≡ (ts, ls) = same_ok _ _ (sym again ∙ scanned) in
    let lines : ms ≡ ls = ap (λ (p : List Turn × List (List ℕ)). p.1) same in (
      same_Some (l, q) (k, p) (sym face ∙ head),
      ap (λ (p : List Turn × List (List ℕ)). p.0) same,
      same_Some fs es (sym too ∙ ap events_said lines ∙ are),
    )
