-- How many units are live, and how many have a request in their line, turn by turn.
use Rattle.std.specs.Prelude.{ℕ, ◌≡◌, ◌+◌, List, [], ◌∷◌, ◌++◌, count_by, cond, Bool, true, false, Option, Some, None}
use Rattle.std.specs.Prelude.{option_map}
use Rattle.run_events.specs.declared.request.Request.{Request}
use Rattle.run_events.specs.declared.settings.Settings.{Settings}
use Rattle.run_model.specs.declared.entry.Entry.{Entry}
use Rattle.run_model.specs.declared.happening.Happening.{Happening}
use Rattle.run_model.specs.declared.happening.UnitPart.{UnitPart}
use Rattle.run_model.specs.declared.happening.UnitPart.TheVariants.{Acts}
use Rattle.run_model.specs.declared.unit_view.UnitView.{UnitView}
use Rattle.run_model.specs.Journal.{IsLegal, past_of}
use Rattle.run_model.specs.Rounds.{opens_round}
use Rattle.run_model.specs.Same.{is_request}
use Rattle.run_model.specs.Story.{is_live_unit}
use Rattle.run_model.specs.Turns.{happening, holds, live_in}
use Rattle.run_model.specs.Unit.{row}
use Rattle.run_model.specs.Words.{sub_run, unit_of, units}

-- the unit whose turn it was, before it and after it
abbrev pub unit_before : List Happening → Option UnitPart → Option UnitView
unit_before run (Some (Acts k turn)) = unit_of k run
unit_before run _ = None

abbrev pub unit_then : ℕ → List Happening → Option UnitPart → Option UnitView
unit_then now run (Some (Acts k turn)) = option_map (λ u. (row now turn u).next) (unit_of k run)
unit_then now run _ = None

-- a count is moved by one unit alone: by whether it counted before, and whether it does then
abbrev pub MovesBy : ℕ → Bool → Bool → ℕ → Type 0
MovesBy count before after next = next + cond before 1 0 ≡ count + cond after 1 0

-- how many units of a sub-run have a request in their line
abbrev pub holders : Settings → Request → List Happening → ℕ
holders p request run = count_by (holds request) (units p run)

-- whether a turn asks this of each live unit
abbrev pub is_asked : Request → Option Request → Bool
is_asked request None = false
is_asked request (Some other) = is_request request other

-- after one more turn of a sub-run the live units, and those that hold a request that isn't asked with it, are as
-- many but for the unit whose turn it was; and what a new round asks is held by each live unit, and by no other
pub record MovesCounts (p : Settings) (run : List Happening) (x : Happening) : Type 0 where
  pub live : MovesBy (live_in (units p run)) (is_live_unit (unit_before run x.part))
      (is_live_unit (unit_then x.moment run x.part)) (live_in (units p (x ∷ run)))
  pub held : (request : Request) → is_asked request x.request ≡ false
      → MovesBy (holders p request run) (holds request (unit_before run x.part))
      (holds request (unit_then x.moment run x.part)) (holders p request (x ∷ run))
  pub opened : (request : Request) → opens_round x.request ≡ true → x.request ≡ Some request
      → holders p request (x ∷ run) ≡ live_in (units p (x ∷ run))

-- that holds of each turn of every legal journal that comes with a sub-run
abbrev pub CountsMove : Type 0
CountsMove = (p : Settings) (journal : List Entry) (e : Entry) → IsLegal p (journal ++ e ∷ [])
    → MovesCounts p (sub_run (past_of p journal)) (happening p (past_of p journal) e)
