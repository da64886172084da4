-- Why an auditor's input is refused.
use Rattle.std.specs.Prelude.{ℕ, ◌⊎◌, List, ⊤}
use Rattle.run_input.specs.declared.errors.InputError.{InputError}
use Rattle.run_input.specs.declared.errors.InputError.TheVariants as input
use Rattle.run_audit_cli.specs.AuditLines.{IsFirstBadAudit, IsFirstBadLater, IsFirstNoEvent, IsFirstNoTurn, LacksMark}

-- lines after the first are refused up to the one that event lines follow, for the first bad one or as that is missing;
-- or for want of memory
abbrev pub IsRefusedTurnPart : List (List ℕ) → InputError → Type 0
IsRefusedTurnPart others (input.Line number) = IsFirstNoTurn others number ⊎ LacksMark others number
IsRefusedTurnPart others input.OutOfMemory = ⊤

-- so are event lines, of which the first has this number
abbrev pub IsRefusedEventPart : ℕ → List (List ℕ) → InputError → Type 0
IsRefusedEventPart start event_lines (input.Line number) = IsFirstNoEvent start event_lines number
IsRefusedEventPart start event_lines input.OutOfMemory = ⊤

-- so are all lines after the first, and an input
abbrev pub IsRefusedLater : List (List ℕ) → InputError → Type 0
IsRefusedLater others (input.Line number) = IsFirstBadLater others number
IsRefusedLater others input.OutOfMemory = ⊤

abbrev pub IsRefusedAudit : List (List ℕ) → InputError → Type 0
IsRefusedAudit lines (input.Line number) = IsFirstBadAudit lines number
IsRefusedAudit lines input.OutOfMemory = ⊤
