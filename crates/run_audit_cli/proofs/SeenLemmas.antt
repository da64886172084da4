-- Event lines, so far as they were read.
use Rattle.std.proofs.Common.{◌≡◌, ◌∙◌, ℕ, ◌+◌, ◌≤◌, ◌<◌, List, [], ◌∷◌, ◌++◌, length, Option, Some, None}
use Rattle.std.proofs.Common.{option_and_then, refl, ap, sym, arith, length-append}
use Rattle.std.proofs.lemmas.List.{append_assoc}
use Rattle.std.proofs.lemmas.Option.{none-some, same_Some}
use Rattle.run_input.specs.Lines.{lines_of}
use Rattle.run_audit_model.specs.declared.audit_event.AuditEvent.{AuditEvent}
use Rattle.run_audit_cli.specs.AuditLines.{events_said, seen_line_of, seen_first}
use Rattle.run_audit_cli.specs.AuditRead.{with_last}

-- what a line and the lines after it tell
seen_and_rest : (first : Option (Option AuditEvent)) (rest : Option (List AuditEvent)) (events : List AuditEvent)
    → option_and_then (λ seen. option_and_then (λ more. Some (seen_first seen more)) rest) first ≡ Some events
    → (seen : Option AuditEvent) × (more : List AuditEvent) × (first ≡ Some seen) × (rest ≡ Some more)
    × (seen_first seen more ≡ events)
seen_and_rest None rest events e = absurd (none-some events e)
seen_and_rest (Some seen) None events e = absurd (none-some events e)
seen_and_rest (Some seen) (Some more) events e = (seen, more, refl, refl, same_Some _ _ e)

last_alone : (seen : Option AuditEvent) → seen_first seen [] ≡ with_last [] seen
last_alone None = refl
last_alone (Some event) = refl

first_and_last : (seen last : Option AuditEvent) (more : List AuditEvent)
    → seen_first seen (with_last more last) ≡ with_last (seen_first seen more) last
first_and_last None last more = refl
first_and_last (Some event) None more = refl
first_and_last (Some event) (Some last) more = refl

-- one line more
events_push : (lines : List (List ℕ)) (line : List ℕ) (events : List AuditEvent) (last : Option AuditEvent)
    → events_said lines ≡ Some events → seen_line_of line ≡ Some last
    → events_said (lines ++ line ∷ []) ≡ Some (with_last events last)
events_push [] line events last before is =
    let none : [] ≡ events = same_Some [] events before in
    rw is (ap Some (last_alone last) ∙ ap (λ xs. Some (with_last xs last)) none)
events_push (first ∷ lines) line events last before is =
    let (seen, others, is_seen, are_others, whole) =
    seen_and_rest (seen_line_of first) (events_said lines) events before in
    let more = events_push lines line others last are_others is in
    rw (is_seen, more) (ap Some (first_and_last seen last others) ∙ ap (λ xs. Some (with_last xs last)) whole)

-- the lines before the rest tell the events, and the next line has this number; the first line has the number `start`
pub record ReadSeen (start : ℕ) (bytes rest : List ℕ) (events : List AuditEvent) (number : ℕ) : Type 0 where
  pub read : List (List ℕ)
  pub split : lines_of bytes ≡ read ++ lines_of rest
  pub said : events_said read ≡ Some events
  pub counted : number ≡ start + length read
  pub room : number + length rest ≤ start + length bytes

pub seen_more : (start : ℕ) (bytes rest after line : List ℕ) (events : List AuditEvent) (seen : Option AuditEvent)
    (number : ℕ) → ReadSeen start bytes rest events number → lines_of rest ≡ line ∷ lines_of after
    → length after < length rest → seen_line_of line ≡ Some seen
    → ReadSeen start bytes after (with_last events seen) (number + 1)
seen_more start bytes rest after line events seen number so_far first shorter says = record {
  read = so_far.read ++ line ∷ [];
  split = so_far.split ∙ ap (λ lines. so_far.read ++ lines) first
      ∙ sym (append_assoc so_far.read (line ∷ []) (lines_of after));
  said = events_push so_far.read line events seen so_far.said says;
  counted = omega (arith, so_far.counted, length-append so_far.read (line ∷ []));
  room = omega (arith, so_far.room);
}
