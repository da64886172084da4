-- What units took of the requests, and answered, after every legal journal.
use Rattle.std.proofs.Common.{◌≡◌, ◌⊎◌, inl, inr, ℕ, List, [], ◌∷◌, ◌++◌, Bool, true, false, if◌then◌else◌, ap, sym}
use Rattle.std.proofs.Common.{subst, ◌∙◌}
use Rattle.std.proofs.lemmas.List.{append-nil}
use Rattle.std.proofs.lemmas.List.Elements.{filter_map-append}
use Rattle.run_events.specs.declared.request.Request.{Request}
use Rattle.run_events.specs.declared.settings.Settings.{Settings}
use Rattle.run_model.specs.declared.entry.Entry.{Entry}
use Rattle.run_model.specs.declared.happening.Happening.{Happening}
use Rattle.run_model.specs.Board.{board}
use Rattle.run_model.specs.Info.{round_of, rounds_in}
use Rattle.run_model.specs.Journal.{IsLegalBackward, history}
use Rattle.run_model.specs.Story.{broadcast_to, line_of, story_of}
use Rattle.run_model.specs.Turns.{deed_on}
use Rattle.run_model.specs.Words.{clock, sub_run}
use Rattle.run_laws_rounds.specs.Requests.{HasItsRequests, has_finished, requests_taken}
use Rattle.run_laws.proofs.board.Kept.{HoldsAfter, IsBeforeRuns, IsOfRun, from_base, holds, where_joins}
use Rattle.run_laws_rounds.proofs.rounds.DeedAnswers.{answers_in}
use Rattle.run_laws.proofs.board.OnBoard.{frame_of}
use Rattle.run_laws_rounds.proofs.rounds.Rising.{risen}
use Rattle.run_laws_rounds.proofs.rounds.Taken.{HasAnswered, answered-cons, answered-none}

pub answered : (p : Settings) (backward : List Entry) → IsLegalBackward p backward → (k : ℕ)
    → HasAnswered k (sub_run (history p backward))
answered p [] legal k = answered-none k
answered p (e ∷ before) legal k = one_more (answered p before legal.2 k) (holds p before legal.2)
  where
    past : List Happening
    past = history p before

    one_more : HasAnswered k (sub_run past) → HoldsAfter p past → HasAnswered k (sub_run (history p (e ∷ before)))
    one_more was h = by_run (where_joins p past e h legal.0)
      where
        by_run : IsOfRun p past e ⊎ IsBeforeRuns p past e → HasAnswered k (sub_run (history p (e ∷ before)))
        by_run (inl of) = subst (HasAnswered k) (sym of.joins)
            (answered-cons p (frame_of p past) of.base (clock past) k e (deed_on p (board p past) e.turn) of.holds
            of.does.part (answers_in p past e h of) (from_base (HasAnswered k) p past e of (answered-none k) was))
        by_run (inr none) = subst (HasAnswered k) (sym none.still) (answered-none k)

pub requests : (p : Settings) (backward : List Entry) → IsLegalBackward p backward → (k : ℕ)
    → HasItsRequests k (sub_run (history p backward))
requests p backward legal k = record {
  took = (line_of k run, sym it.whole);
  rising = (risen p backward legal k).rising;
  answered = it.rounds ∙ by_finish (has_finished k run);
}
  where
    run : List Happening
    run = sub_run (history p backward)

    it : HasAnswered k run
    it = answered p backward legal k

    took : List Request
    took = requests_taken (story_of k run)

    by_finish : (b : Bool) → rounds_in took ++ rounds_in (if b then line_of k run else [])
        ≡ rounds_in (if b then broadcast_to k run else took)
    by_finish true = sym (filter_map-append round_of took (line_of k run)) ∙ ap rounds_in it.whole
    by_finish false = append-nil (rounds_in took)
