-- What a turn of a legal journal tells of rounds, by the sub-run that it joins.
use Rattle.std.proofs.Common.{◌≡◌, ◌||◌, Bool, true, false, List, refl, ap, sym, subst, ◌∙◌}
use Rattle.run_events.specs.declared.settings.Settings.{Settings}
use Rattle.run_model.specs.declared.entry.Entry.{Entry}
use Rattle.run_model.specs.declared.happening.Happening.{Happening}
use Rattle.run_model.specs.Board.{Deed, board}
use Rattle.run_model.specs.Turns.{deed_on, enabled}
use Rattle.run_model.specs.Words.{clock, sub_run}
use Rattle.run_laws.proofs.board.Deeds.{base_of}
use Rattle.run_laws.proofs.board.Kept.{IsOfRun}
use Rattle.run_laws.proofs.board.OnBoard.{board_of, frame_of}
use Rattle.run_laws_rounds.proofs.rounds.RoundDeeds.{IsOfRound, bound_outside, of_round, outside}

-- what it tells is of the rounds of that sub-run: one that begins it tells of none
pub of_round_in : (p : Settings) (past : List Happening) (e : Entry) (of : IsOfRun p past e)
    → enabled p past e.turn ≡ true
    → IsOfRound (board_of p (frame_of p past) (clock past) of.base) (deed_on p (board p past) e.turn)
of_round_in p past e of en = by_begin d.begins refl
  where
    d : Deed
    d = deed_on p (board p past) e.turn

    -- whether an event was refused says nothing of rounds
    unrefused : IsOfRound (board p past) d → IsOfRound (board_of p (frame_of p past) (clock past) (sub_run past)) d
    unrefused it = record {
      asked = it.asked;
      start = it.start;
      answer = it.answer;
      finish = it.finish;
      alone = it.alone;
      number = it.number;
    }

    by_begin : (b : Bool) → d.begins ≡ b → IsOfRound (board_of p (frame_of p past) (clock past) of.base) d
    by_begin true is =
        outside (board_of p (frame_of p past) (clock past) of.base) d
        (bound_outside d (of.does.marks.bounds (ap (λ b. b || d.ends) is)).0 (of.does.marks.begins is).1.request)
    by_begin false is =
        subst (λ run. IsOfRound (board_of p (frame_of p past) (clock past) run) d)
        (sym (of.is ∙ ap (λ b. base_of b (sub_run past)) is)) (unrefused (of_round p (board p past) e.turn en))
