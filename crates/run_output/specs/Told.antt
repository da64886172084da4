-- What a reporter has written since it was made: of each event a line, which may be of no bytes.
use Rattle.std.specs.Prelude.{ℕ, ◌≡◌, ◌<◌, ◌||◌, List, [], ◌∷◌, ◌++◌, length, take, Bool, false, Option, Some, None}
use Rattle.std.specs.Prelude.{is_some, map}
use Rattle.run_capture.specs.Bytes.{Takes}
use Rattle.run_capture.specs.Faults.{RoseExactlyIf}
use Rattle.run_events.specs.declared.events.ReporterEvent.{ReporterEvent}
use Rattle.run_output.specs.Fields.{line_bytes}
use Rattle.run_output.specs.Events.{event_text}

-- the line of an event
abbrev pub event_line : ReporterEvent → List ℕ
event_line event = line_bytes (event_text event)

-- the lines of these events, each with the error that refused the event, or none
abbrev pub event_lines : {E : Type 0} → List (ReporterEvent × Option E) → List (List ℕ × Option E)
event_lines answers = map (λ answer. (event_line answer.0, answer.1)) answers

-- what is written of the line of an event; where the event was refused, a front part of it, and not all
abbrev pub IsWritten : {E : Type 0} → List ℕ → Option E → List ℕ → Type 0
IsWritten line None bytes = bytes ≡ line
IsWritten line (Some error) bytes = (n : ℕ) × (n < length line) × (bytes ≡ take n line)

-- what is written of these lines in order, each with the error that refused its event, or none
abbrev pub AreWritten : {E : Type 0} → List (List ℕ × Option E) → List ℕ → Type 0
AreWritten [] bytes = bytes ≡ []
AreWritten (line ∷ lines) bytes =
    (first : List ℕ) × (rest : List ℕ)
    × IsWritten line.0 line.1 first × AreWritten lines rest × (bytes ≡ first ++ rest)

-- what a sink took between two moments are these lines
abbrev pub TookLines : {E : Type 0} → Option (List ℕ) → Option (List ℕ) → List (List ℕ × Option E) → Type 0
TookLines before now lines = (bytes : List ℕ) × AreWritten lines bytes × Takes before now bytes

-- of each of these in order, whether it was refused
abbrev pub marks : {X E : Type 0} → List (X × Option E) → List Bool
marks answers = map (λ answer. is_some answer.1) answers

-- event by event, marked where it was refused, a count rose at each that was, and at no other
abbrev pub AreCounted : List Bool → ℕ → ℕ → Type 0
AreCounted [] before now = now ≡ before
AreCounted (refused ∷ later) before now =
    (between : ℕ) × RoseExactlyIf refused before between × AreCounted later between now

-- whether one of these was refused
abbrev pub some_refused : {X E : Type 0} → List (X × Option E) → Bool
some_refused [] = false
some_refused (answer ∷ answers) = is_some answer.1 || some_refused answers

-- a reporter has told events with these lines since its sink stood so: the sink took their lines, and its count of
-- faults rose at each that was refused, and at no other; the reporter's own count rose exactly where one was refused
pub record HasTold {E : Type 0} (before now : Option (List ℕ)) (faults faults_now refusals : ℕ)
    (lines : List (List ℕ × Option E)) : Type 0 where
  pub took : TookLines before now lines
  pub counted : AreCounted (marks lines) faults faults_now
  pub own : RoseExactlyIf (some_refused lines) 0 refusals
