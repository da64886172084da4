-- After each event told in a legal journal the limits are kept by the plan's own numbers.
use Rattle.std.proofs.Common.{ℕ, List, take}
use Rattle.std.specs.List.{All}
use Rattle.std.proofs.lemmas.List.Elements.{All-take}
use Rattle.run_events.specs.declared.settings.Settings.{Settings}
use Rattle.run_events.specs.declared.events.ReporterEvent.{ReporterEvent}
use Rattle.run_model.specs.declared.entry.Entry.{Entry}
use Rattle.run_model.specs.Words.{sub_run, told}
use Rattle.run_model.specs.Journal.{history, IsLegalBackward}
use Rattle.run_laws.proofs.board.Limits.{limits}
use Rattle.run_laws_events.specs.PlanLimits.{KeepsPlanLimits, HasPlanSlots}
use Rattle.run_laws_events.proofs.StartedLemmas.{EventFits, told_fit}
use Rattle.run_laws_events.proofs.PlanLemmas.{keeps_plan, has_plan_slots}

pub plan_limits : (p : Settings) (backward : List Entry) (n : ℕ) → IsLegalBackward p backward
    → KeepsPlanLimits p (take n (told (sub_run (history p backward))))
    × HasPlanSlots p (take n (told (sub_run (history p backward))))
plan_limits p backward n legal =
    (keeps_plan p events all (limits p backward n legal).0, has_plan_slots p events all (limits p backward n legal).1)
  where
    events : List ReporterEvent
    events = take n (told (sub_run (history p backward)))

    all : All (EventFits p) events
    all = All-take (EventFits p) n (told (sub_run (history p backward))) (told_fit p backward legal)
