-- The reasons for which a run is cancelled, in their order.
use Rattle.std.specs.Prelude.{ℕ, ◌≡◌, ◌<◌, List, [], ◌∷◌, ◌++◌, Bool, true, Option, Some, filter_map, is_some}
use Rattle.std.specs.Prelude.{option_and_then, slice_get, IfSome}
use Rattle.std.specs.List.{All}
use Rattle.run_events.specs.Cancel.{rank}
use Rattle.run_events.specs.declared.cancel.CancelReason.{CancelReason}
use Rattle.run_events.specs.declared.cancel.CancelReason.TheVariants.{SetupScriptFailure, TestFailure, ReportError}
use Rattle.run_events.specs.declared.cancel.CancelReason.TheVariants.{GlobalTimeout, TestFailureImmediate, Signal}
use Rattle.run_events.specs.declared.cancel.CancelReason.TheVariants.{Interrupt, SecondSignal}
use Rattle.run_events.specs.declared.settings.Settings.{Settings}
use Rattle.run_model.specs.declared.entry.Entry.{Entry}
use Rattle.run_model.specs.declared.happening.Happening.{Happening}
use Rattle.run_model.specs.Journal.{IsLegal, past_of}
use Rattle.run_model.specs.Turns.{happening}
use Rattle.run_model.specs.Words.{sub_run, told}
use Rattle.run_laws.specs.Cancels.{reason_told}

-- the eight reasons, each above those before it
abbrev pub reasons_in_order : List CancelReason
reasons_in_order =
    SetupScriptFailure ∷ TestFailure ∷ ReportError ∷ GlobalTimeout ∷ TestFailureImmediate ∷ Signal ∷ Interrupt
    ∷ SecondSignal ∷ []

-- the rank of a reason is its place in that list
abbrev pub RanksArePlaces : Type 0
RanksArePlaces = (reason : CancelReason) → slice_get reasons_in_order (rank reason) ≡ Some reason

-- one reason stands before another in that list
pub record RanksBefore (reason above : CancelReason) : Type 0 where
  pub place : ℕ
  pub place_above : ℕ
  pub lower : place < place_above
  pub is : slice_get reasons_in_order place ≡ Some reason
  pub is_above : slice_get reasons_in_order place_above ≡ Some above

-- each reason that was told in a sub-run stands before this one
abbrev pub IsAboveAll : List Happening → CancelReason → Type 0
IsAboveAll run above = All (λ reason. RanksBefore reason above) (filter_map reason_told (told run))

-- a turn after others of its sub-run that is a cause tells its reason exactly where each reason that was told in the
-- sub-run stands before it
pub record TellsInOrder (run : List Happening) (x : Happening) : Type 0 where
  pub only : is_some (option_and_then reason_told x.after) ≡ true → IfSome x.cause (IsAboveAll run)
  pub each : IfSome x.cause (λ cause. IsAboveAll run cause
      → option_and_then reason_told x.after ≡ Some cause)

-- that holds of each turn of every legal journal
abbrev pub ReasonsRise : Type 0
ReasonsRise = (p : Settings) (journal : List Entry) (e : Entry) → IsLegal p (journal ++ e ∷ [])
    → TellsInOrder (sub_run (past_of p journal)) (happening p (past_of p journal) e)
