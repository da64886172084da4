-- The shape of a list of events: a run from its start to its finish, and within it, in a stress run, its sub-runs.
use Rattle.std.specs.Prelude.{ℕ, zero, suc, ◌≡◌, ◌⊎◌, List, [], ◌∷◌, ◌++◌, length, Bool, true, false, if◌then◌else◌}
use Rattle.std.specs.Prelude.{Option, Some, None, is_some}
use Rattle.std.specs.List.{All}
use Rattle.run_events.specs.declared.settings.Settings.{Settings}
use Rattle.run_audit_model.specs.declared.audit_event.AuditEvent.{AuditEvent}
use Rattle.run_audit_model.specs.declared.audit_event.AuditEvent.TheVariants as seen

-- an event that neither begins nor ends a run or a sub-run
abbrev pub IsInner : AuditEvent → Type 0
IsInner seen.RunStarted = ⊥
IsInner seen.RunFinished = ⊥
IsInner seen.SubRunStarted = ⊥
IsInner seen.SubRunFinished = ⊥
IsInner _ = Unit {0}

-- so many sub-runs, with nothing between them that tells of tests, scripts or cancels
abbrev pub AreSubRuns : ℕ → List AuditEvent → Type 0
AreSubRuns zero events = All (λ e. e ≡ seen.Other) events
AreSubRuns (suc n) events = (others part rest : List AuditEvent)
    × (events ≡ others ++ seen.SubRunStarted ∷ part ++ seen.SubRunFinished ∷ rest)
    × All (λ e. e ≡ seen.Other) others × All IsInner part × AreSubRuns n rest

-- whether a run is a stress run
abbrev pub is_stress : Settings → Bool
is_stress p = is_some p.stress

-- what stands between a run's start and its finish
abbrev pub IsInside : Bool → ℕ → List AuditEvent → Type 0
IsInside true runs events = AreSubRuns runs events
IsInside false runs events = All IsInner events

-- the shape of a run of so many sub-runs
abbrev pub HasShape : Settings → ℕ → List AuditEvent → Type 0
HasShape p runs events = (inside : List AuditEvent)
    × (events ≡ seen.RunStarted ∷ inside ++ seen.RunFinished ∷ []) × IsInside (is_stress p) runs inside

-- whether an event opens a part of a stress run, and whether one closes a part: a sub-run's, or else the run's
abbrev pub opens_part : AuditEvent → Bool
opens_part seen.SubRunStarted = true
opens_part _ = false

abbrev pub closes_part : Bool → AuditEvent → Bool
closes_part true seen.SubRunFinished = true
closes_part false seen.RunFinished = true
closes_part _ _ = false

-- the parts of events: the open one, if there is one, and those that come; one that isn't closed counts
abbrev pub parts_from : Bool → Option (List AuditEvent) → List AuditEvent → List (List AuditEvent)
parts_from stress None [] = []
parts_from stress (Some part) [] = part ∷ []
parts_from stress None (e ∷ es) =
    if opens_part e then parts_from stress (Some []) es else parts_from stress None es
parts_from stress (Some part) (e ∷ es) =
    if closes_part stress e then part ∷ parts_from stress None es else parts_from stress (Some (part ++ e ∷ [])) es

-- without stress the part of the one run is open from the front on
abbrev pub first_part : Bool → Option (List AuditEvent)
first_part true = None
first_part false = Some []

abbrev pub parts : Settings → List AuditEvent → List (List AuditEvent)
parts p events = parts_from (is_stress p) (first_part (is_stress p)) events
