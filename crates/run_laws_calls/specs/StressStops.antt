-- Where a run ends, and a stress run stops.
use Rattle.std.specs.Prelude.{ℕ, ◌≡◌, ◌==◌, ◌||◌, nat_le, List, [], ◌∷◌, ◌++◌, length, Bool, true, false, Option}
use Rattle.std.specs.Prelude.{Some, None}
use Rattle.std.specs.List.{list_any}
use Rattle.std.specs.Int.NonZero.{non_zero_u32_get}
use Rattle.run_commands.specs.declared.stress_count.StressCondition.{StressCondition}
use Rattle.run_commands.specs.declared.stress_count.StressCondition.TheVariants as conditions
use Rattle.run_commands.specs.declared.stress_count.StressCount.TheVariants as counts
use Rattle.run_events.specs.declared.events.ReporterEvent.{ReporterEvent}
use Rattle.run_events.specs.declared.events.ReporterEvent.TheVariants.{Test}
use Rattle.run_events.specs.declared.settings.Settings.{Settings}
use Rattle.run_model.specs.declared.entry.Entry.{Entry}
use Rattle.run_model.specs.declared.happening.Happening.{Happening}
use Rattle.run_model.specs.Journal.{IsLegal, past_of}
use Rattle.run_model.specs.Turns.{happening}
use Rattle.run_model.specs.Words.{ended_runs, sub_run, told}
use Rattle.run_laws_calls.specs.Stops.{tells_cancel}

-- the run's active time that an event tells
abbrev pub elapsed_told : Option ReporterEvent → ℕ
elapsed_told (Some (Test event)) = event.elapsed
elapsed_told _ = 0

-- whether nothing is left of a stress run: as many of its sub-runs have ended as it is to have, or it has taken as much
-- active time as it may
abbrev pub is_used_up : StressCondition → ℕ → ℕ → Bool
is_used_up (conditions.Count counts.Infinite) ended elapsed = false
is_used_up (conditions.Count (counts.Count many)) ended elapsed = nat_le (non_zero_u32_get many) ended
is_used_up (conditions.Duration ns) ended elapsed = nat_le ns elapsed

-- whether a run ends with a sub-run: it is no stress run, or it was told in the sub-run that the run is cancelled, or
-- nothing is left of it, or as many sub-runs have ended as a u32 counts
abbrev pub ends_with : Option StressCondition → Bool → ℕ → ℕ → Bool
ends_with None cancelled ended elapsed = true
ends_with (Some condition) cancelled ended elapsed =
    cancelled || is_used_up condition ended elapsed || ended == 4294967295

-- a turn after others ends the run only where it ends a sub-run, and there exactly where the run ends with that
pub record EndsTheRun (p : Settings) (past : List Happening) (x : Happening) : Type 0 where
  pub only : x.over ≡ true → x.ends ≡ true
  pub where_ends : x.ends ≡ true → x.over
      ≡ ends_with p.stress (list_any tells_cancel (told (sub_run (x ∷ past)))) (length (ended_runs (x ∷ past)))
      (elapsed_told x.told)

-- that holds of each turn of every legal journal
abbrev pub RunsStop : Type 0
RunsStop = (p : Settings) (journal : List Entry) (e : Entry) → IsLegal p (journal ++ e ∷ [])
    → EndsTheRun p (past_of p journal) (happening p (past_of p journal) e)
