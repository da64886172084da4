-- What told events say of each sub-run, by the events that close sub-runs.
use Rattle.std.specs.Prelude.{List, [], ◌∷◌, ◌++◌, Bool, if◌then◌else◌, Option, option_to_list}
use Rattle.run_events.specs.declared.events.ReporterEvent.{ReporterEvent}
use Rattle.run_audit_model.specs.Parts.{closes_part}
use Rattle.run_audit_model.specs.Seen.{as_audited}

-- what events say up to each that closes a part, after what those before them say of the open part; a part that isn't
-- closed doesn't count
abbrev pub news_by_part : {Y : Type 0} → Bool → (ReporterEvent → Option Y) → List Y → List ReporterEvent
    → List (List Y)
news_by_part stress news so_far [] = []
news_by_part stress news so_far (e ∷ events) =
    if closes_part stress (as_audited e) then so_far ∷ news_by_part stress news [] events
    else news_by_part stress news (so_far ++ option_to_list (news e)) events
