-- What holds of the newest sub-run after every legal journal, by one turn more.
use Rattle.std.proofs.Common.{◌≡◌, ◌⊎◌, inl, inr, ℕ, List, [], ◌∷◌, Bool, true, false, refl, ap, sym, subst, ◌∙◌}
use Rattle.run_events.specs.declared.settings.Settings.{Settings}
use Rattle.run_model.specs.declared.entry.Entry.{Entry}
use Rattle.run_model.specs.declared.happening.Happening.{Happening}
use Rattle.run_model.specs.Board.{board, said}
use Rattle.run_model.specs.Journal.{history, IsLegalBackward}
use Rattle.run_model.specs.Turns.{enabled_on, deed_on}
use Rattle.run_model.specs.Words.{clock, sub_run, was_refused}
use Rattle.run_laws.proofs.board.DeedFits.{Does}
use Rattle.run_laws.proofs.board.Holds.{Holds}
use Rattle.run_laws.proofs.board.Kept.{HoldsAfter, IsOfRun, IsBeforeRuns, where_joins, holds}
use Rattle.run_laws.proofs.board.BoundDeeds.{holds-none}
use Rattle.run_laws.proofs.board.Deeds.{base_of}
use Rattle.run_laws.proofs.told.Begins.{begins_so}
use Rattle.run_model.specs.Board.{Deed}
use Rattle.run_laws.proofs.board.OnBoard.{board_with}
use Rattle.run_laws.proofs.board.OnBoard.{Frame}
use Rattle.run_laws.proofs.board.OnBoard.{frame_of}

-- it is kept by each enabled turn
abbrev pub IsKept : Settings → (List Happening → Type 0) → Type 0
IsKept p P = (f : Frame) (refused : Bool) (now : ℕ) (run : List Happening) (e : Entry) → Holds p now run
    → enabled_on p (board_with p refused f now run) e.turn ≡ true
    → Does p f now run (deed_on p (board_with p refused f now run) e.turn)
    → P run → P (said now e (deed_on p (board_with p refused f now run) e.turn) ∷ run)

pub by_journal : (p : Settings) (P : List Happening → Type 0) → P [] → IsKept p P → (backward : List Entry)
    → IsLegalBackward p backward → P (sub_run (history p backward))
by_journal p P none kept [] legal = none
by_journal p P none kept (e ∷ before) legal =
    one_more (by_journal p P none kept before legal.2) (holds p before legal.2)
  where
    past : List Happening
    past = history p before

    one_more : P (sub_run past) → HoldsAfter p past → P (sub_run (history p (e ∷ before)))
    one_more was h = by_run (where_joins p past e h legal.0)
      where
        refused : Bool
        refused = was_refused past

        d : Deed
        d = deed_on p (board p past) e.turn

        by_run : IsOfRun p past e ⊎ IsBeforeRuns p past e → P (sub_run (history p (e ∷ before)))
        by_run (inl of) = subst P (sym of.joins) (by_begin d.begins refl)
          where
            base : (b : Bool) → d.begins ≡ b → of.base ≡ base_of b (sub_run past)
            base b is = of.is ∙ ap (λ b. base_of b (sub_run past)) is

            by_begin : (b : Bool) → d.begins ≡ b → P (said (clock past) e d ∷ of.base)
            by_begin true is =
                let so = begins_so p (frame_of p past) refused (clock past) (sub_run past) e.turn legal.0 is in
                let here : Does p (frame_of p past) (clock past) [] d =
                subst (λ run. Does p (frame_of p past) (clock past) run d) (base true is) of.does in
                subst (λ run. P (said (clock past) e d ∷ run)) (sym (base true is))
                (subst (λ d. P (said (clock past) e d ∷ [])) (sym so.same)
                (kept (frame_of p past) refused (clock past) [] e (holds-none p (clock past)) so.enabled
                (subst (Does p (frame_of p past) (clock past) []) so.same here) none))
            by_begin false is =
                subst (λ run. P (said (clock past) e d ∷ run)) (sym (base false is))
                (kept (frame_of p past) refused (clock past) (sub_run past) e h legal.0
                (subst (λ run. Does p (frame_of p past) (clock past) run d) (base false is) of.does) was)
        by_run (inr before_runs) = subst P (sym before_runs.still) none
