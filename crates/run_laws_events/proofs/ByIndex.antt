-- What holds of the newest sub-run by which one it is, after every legal journal, by one turn more.
use Rattle.std.proofs.Common.{◌≡◌, ℕ, ◌==◌, List, [], ◌∷◌, ◌++◌, Bool, true, false, if◌then◌else◌, Option, Some, None}
use Rattle.std.proofs.Common.{option_map, refl, ap, sym, subst, ◌∙◌, arith}
use Rattle.run_events.specs.declared.request.Request.{Request}
use Rattle.run_events.specs.declared.settings.Settings.{Settings}
use Rattle.run_events.specs.declared.stress.StressIndex.{StressIndex}
use Rattle.run_model.specs.declared.entry.Entry.{Entry}
use Rattle.run_model.specs.declared.happening.Happening.{Happening}
use Rattle.run_model.specs.declared.happening.UnitPart.{UnitPart}
use Rattle.run_model.specs.declared.happening.UnitPart.TheVariants.{Joins, Acts}
use Rattle.run_model.specs.declared.unit_view.UnitView.{UnitView}
use Rattle.run_model.specs.Admission.{index_of_role}
use Rattle.run_model.specs.Board.{Deed, said}
use Rattle.run_model.specs.Environment.{number}
use Rattle.run_model.specs.Journal.{history, IsLegalBackward}
use Rattle.run_model.specs.SubRuns.{stress_index}
use Rattle.run_model.specs.Turns.{deed_on, enabled_on}
use Rattle.run_model.specs.Unit.{at_moment, is_live, reach, row}
use Rattle.run_model.specs.Words.{sub_run, unit_after, unit_of}
use Rattle.run_laws.proofs.board.DeedFits.{Does, JoinsAs, PartFits}
use Rattle.run_laws.proofs.units.AccountRows.{same_number}
use Rattle.run_laws.proofs.board.Holds.{Holds}
use Rattle.run_laws.proofs.board.OnBoard.{Frame, board_with}
use Rattle.run_laws.proofs.told.Indexes.{AreIndexed, IsOfIndex, indexed}
use Rattle.run_laws.proofs.units.Rows.{row_keeps}
use Rattle.run_laws_events.proofs.ByJournal.{by_journal}

-- a unit that is of this sub-run after a request, and after a part, was so before it
reached_from : (index : Option StressIndex) (request : Option Request) (v : Option UnitView)
    → IsOfIndex index (reach request v) → IsOfIndex index v
reached_from index None v h = h
reached_from index (Some request) None h = tt
reached_from index (Some request) (Some u) h = by_live (is_live u.phase) h
  where
    by_live : (b : Bool) → IsOfIndex index (Some (if b then record u { line = u.line ++ request ∷ [] } else u))
        → IsOfIndex index (Some u)
    by_live true h = h
    by_live false h = h

part_from : (p : Settings) (index : Option StressIndex) (now : ℕ) (run : List Happening) (k : ℕ)
    (part : Option UnitPart) → PartFits p now run part → IsOfIndex index (unit_after now k part (unit_of k run))
    → IsOfIndex index (unit_of k run)
part_from p index now run k None fits h = h
part_from p index now run k (Some (Joins first)) (first_sent, new) h = by_unit (number first == k) refl h
  where
    by_unit : (b : Bool) → (number first == k) ≡ b → IsOfIndex index (if b then Some first else unit_of k run)
        → IsOfIndex index (unit_of k run)
    by_unit true e h =
        let here : number first ≡ k = grind arith in
        subst (IsOfIndex index) (sym new.unknown ∙ ap (λ k. unit_of k run) here) tt
    by_unit false e h = h
part_from p index now run k (Some (Acts j turn)) taken h = by_unit (j == k) (unit_of k run) h
  where
    by_unit : (b : Bool) (v : Option UnitView)
        → IsOfIndex index (if b then option_map (λ w. (row now turn w).next) v else v) → IsOfIndex index v
    by_unit true None h = tt
    by_unit true (Some u) h = sym (ap index_of_role (row_keeps now u.phase turn (at_moment now u) refl).role) ∙ h
    by_unit false v h = h

-- so is one that joins
joins_from : (index : Option StressIndex) (now : ℕ) (run : List Happening) (request : Option Request)
    (part : Option UnitPart)
    → ((k : ℕ) → IsOfIndex index (reach request (unit_after now k part (unit_of k run)))) → JoinsAs index part
joins_from index now run request None all = tt
joins_from index now run request (Some (Joins first)) all =
    subst (λ b. IsOfIndex index (if b then Some first else unit_of (number first) run)) (same_number (number first))
    (reached_from index request _ (all (number first)))
joins_from index now run request (Some (Acts j turn)) all = tt

-- it is kept by each enabled turn of this sub-run: each unit that was admitted is of it, and so is one that joins
abbrev pub IsKeptIn : Settings → (Option StressIndex → List Happening → Type 0) → Type 0
IsKeptIn p P = (index : Option StressIndex) (f : Frame) (refused : Bool) (now : ℕ) (run : List Happening) (e : Entry)
    → Holds p now run → enabled_on p (board_with p refused f now run) e.turn ≡ true
    → Does p f now run (deed_on p (board_with p refused f now run) e.turn)
    → AreIndexed index run → JoinsAs index (deed_on p (board_with p refused f now run) e.turn).part
    → P index run → P index (said now e (deed_on p (board_with p refused f now run) e.turn) ∷ run)

-- so it holds, since each unit of the newest sub-run is of that one
pub by_index : (p : Settings) (P : Option StressIndex → List Happening → Type 0)
    → ((index : Option StressIndex) → P index []) → IsKeptIn p P → (backward : List Entry)
    → IsLegalBackward p backward → P (stress_index p (history p backward)) (sub_run (history p backward))
by_index p P none kept backward legal =
    by_journal p (λ run. (index : Option StressIndex) → AreIndexed index run → P index run) (λ index of. none index)
    one_more backward legal (stress_index p (history p backward)) (indexed p backward legal)
  where
    one_more : (f : Frame) (refused : Bool) (now : ℕ) (run : List Happening) (e : Entry) → Holds p now run
        → enabled_on p (board_with p refused f now run) e.turn ≡ true
        → Does p f now run (deed_on p (board_with p refused f now run) e.turn)
        → ((index : Option StressIndex) → AreIndexed index run → P index run) → (index : Option StressIndex)
        → AreIndexed index (said now e (deed_on p (board_with p refused f now run) e.turn) ∷ run)
        → P index (said now e (deed_on p (board_with p refused f now run) e.turn) ∷ run)
    one_more f refused now run e h en does was index of =
        kept index f refused now run e h en does before (joins_from index now run d.request d.part of)
        (was index before)
      where
        d : Deed
        d = deed_on p (board_with p refused f now run) e.turn

        before : AreIndexed index run
        before k = part_from p index now run k d.part does.part
            (reached_from index d.request (unit_after now k d.part (unit_of k run)) (of k))
