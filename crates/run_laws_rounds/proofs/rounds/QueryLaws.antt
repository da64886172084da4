-- What is told of rounds of queries after every legal journal.
use Rattle.std.proofs.Common.{◌≡◌, ◌⊎◌, inl, inr, ℕ, zero, suc, ◌+◌, ◌-◌, ◌<◌, ◌≤◌, List, [], ◌∷◌, ◌++◌, drop}
use Rattle.std.proofs.Common.{filter_map, length, reverse, Bool, true, false, if◌then◌else◌, Option, Some, None}
use Rattle.std.proofs.Common.{slice_get, refl, ap, sym, subst, ◌∙◌, arith}
use Rattle.std.specs.Prelude.{IfSome}
use Rattle.std.proofs.lemmas.List.{reverse-append}
use Rattle.std.proofs.lemmas.Option.{slice_get_within}
use Rattle.run_events.specs.declared.events.InfoAnswered.{InfoAnswered}
use Rattle.run_events.specs.declared.events.ReporterEvent.{ReporterEvent}
use Rattle.run_events.specs.declared.events.ReporterEvent.TheVariants.{Tick, Test}
use Rattle.run_events.specs.declared.events.TestEventKind.{TestEventKind}
use Rattle.run_events.specs.declared.events.TestEventKind.TheVariants.{InfoResponse as InfoAnswer}
use Rattle.run_events.specs.declared.info.InfoResponse.{InfoResponse}
use Rattle.run_events.specs.declared.request.Request.{Request}
use Rattle.run_events.specs.declared.request.Request.TheVariants.{Stop, Continue, Shutdown, OtherCancel, GetInfo}
use Rattle.run_events.specs.declared.settings.Settings.{Settings}
use Rattle.run_model.specs.declared.entry.Entry.{Entry}
use Rattle.run_model.specs.declared.happening.Happening.{Happening}
use Rattle.run_model.specs.Board.{Deed, board, said}
use Rattle.run_model.specs.Dispatch.{query_waits}
use Rattle.run_model.specs.Journal.{IsLegal, IsLegalBackward, history, past_of}
use Rattle.run_model.specs.Rounds.{answer_of, answers_given, answers_told, is_answer, of_told, open_round, opens_round}
use Rattle.run_model.specs.Rounds.{asked_by, round_total, tells_answer}
use Rattle.run_model.specs.Turns.{deed_on, enabled, happening, oldest_of}
use Rattle.run_model.specs.Words.{clock, sub_run}
use Rattle.run_laws_rounds.specs.Queries.{AnswersFit, TellsOfQueries, answer_told_in, given_so_far, missing_in}
use Rattle.run_laws.proofs.board.Kept.{HoldsAfter, IsBeforeRuns, IsOfRun, from_base, holds, where_joins}
use Rattle.run_laws.proofs.board.OnBoard.{Frame, board_of, frame_of}
use Rattle.run_laws_rounds.proofs.rounds.DeedAnswers.{answers_in}
use Rattle.run_laws_rounds.proofs.rounds.Taken.{HasAnswered, answered-none}
use Rattle.run_laws_rounds.proofs.rounds.FitSteps.{IsFilled, filled-cons}
use Rattle.run_laws_rounds.proofs.rounds.RequestLaws.{answered}
use Rattle.run_laws_rounds.proofs.rounds.Rising.{IsRisen, risen}
use Rattle.run_laws_rounds.proofs.rounds.JoinedRounds.{of_round_in}
use Rattle.run_laws_rounds.proofs.rounds.RoundDeeds.{IsOfRound, TellsExactly, exactly, of_round}

-- no round is open where nothing has happened
filled_none : (p : Settings) → IsFilled p []
filled_none p = record { most = λ round opened. cc }

pub filled : (p : Settings) (backward : List Entry) → IsLegalBackward p backward
    → IsFilled p (sub_run (history p backward))
filled p [] legal = filled_none p
filled p (e ∷ before) legal = by_run (where_joins p past e h legal.0) (filled p before legal.2)
  where
    past : List Happening
    past = history p before

    h : HoldsAfter p past
    h = holds p before legal.2

    by_run : IsOfRun p past e ⊎ IsBeforeRuns p past e → IsFilled p (sub_run past)
        → IsFilled p (sub_run (happening p past e ∷ past))
    by_run (inl of) was =
        subst (IsFilled p) (sym of.joins)
        (filled-cons p (frame_of p past) (clock past) of.base e (deed_on p (board p past) e.turn) of.holds of.does.part
        (answers_in p past e h of) (of_round_in p past e of legal.0)
        (λ k. from_base (HasAnswered k) p past e of (answered-none k) (answered p before legal.2 k))
        (λ k. (from_base (IsRisen k) p past e of (risen p [] tt k) (risen p before legal.2 k)).below)
        (from_base (IsFilled p) p past e of (filled_none p) was))
    by_run (inr none) was = subst (IsFilled p) (sym none.still) (filled_none p)

-- an answer that waits is the next of those that were given
next_given : (n : ℕ) (given : List InfoResponse) → oldest_of (drop n given) ≡ slice_get given n
next_given zero [] = refl
next_given zero (answer ∷ given) = refl
next_given (suc n) [] = refl
next_given (suc n) (answer ∷ given) = next_given n given

-- only the rounds of queries are given answers
given_none : (request : Option Request) (past : List Happening) → query_waits request ≡ false
    → answers_given request past ≡ []
given_none request [] none = refl
given_none request (x ∷ past) none = by_opens (opens_round x.request) (given_none request past none)
  where
    no_answer : (request : Option Request) (info : List (ℕ × InfoResponse)) → query_waits request ≡ false
        → filter_map (answer_of request) info ≡ []
    no_answer request [] none = refl
    no_answer None (a ∷ info) none = no_answer None info none
    no_answer (Some (Stop round)) (a ∷ info) none = no_answer (Some (Stop round)) info none
    no_answer (Some Continue) (a ∷ info) none = no_answer (Some Continue) info none
    no_answer (Some (Shutdown reason)) (a ∷ info) none = no_answer (Some (Shutdown reason)) info none
    no_answer (Some OtherCancel) (a ∷ info) none = no_answer (Some OtherCancel) info none
    no_answer (Some (GetInfo round)) (a ∷ info) none = cc

    by_opens : (b : Bool) → answers_given request past ≡ []
        → (if b then [] else answers_given request past ++ filter_map (answer_of request) x.info) ≡ []
    by_opens true before = refl
    by_opens false before = rw (before, no_answer request x.info none) refl

-- no more answers were given than units were asked
given_fits : (p : Settings) (past : List Happening) → IsFilled p past → query_waits (open_round past) ≡ true
    → length (given_so_far past) ≤ round_total past
given_fits p past it waits = by_round (open_round past) refl waits
  where
    by_round : (request : Option Request) → open_round past ≡ request → query_waits request ≡ true
        → length (answers_given request past) ≤ round_total past
    by_round (Some (GetInfo round)) is waits = let most = it.most round is in omega (arith, most)
    by_round (Some (Stop round)) is waits = cc
    by_round (Some Continue) is waits = cc
    by_round (Some (Shutdown reason)) is waits = cc
    by_round (Some OtherCancel) is waits = cc
    by_round None is waits = cc

-- an answer that is told is one that was given, and wasn't told
tells_some : (o : Option ReporterEvent) → tells_answer o ≡ true
    → (answer : InfoAnswered) × (of_told answer_told_in None o ≡ Some answer)
tells_some None tells = cc
tells_some (Some Tick) tells = cc
tells_some (Some (Test event)) tells = by_kind event.kind tells
  where
    by_kind : (kind : TestEventKind) → is_answer kind ≡ true
        → (answer : InfoAnswered) × (answer_told_in kind ≡ Some answer)
    by_kind (InfoAnswer answer) tells = (answer, refl)
    by_kind kind tells = cc

told_below : (p : Settings) (past : List Happening) (response : InfoResponse) → IsFilled p past
    → oldest_of (drop (answers_told past) (given_so_far past)) ≡ Some response
    → answers_told past + 1 ≤ round_total past
told_below p past response it oldest = by_waits (query_waits (open_round past)) refl
  where
    some : slice_get (given_so_far past) (answers_told past) ≡ Some response
    some = sym (next_given (answers_told past) (given_so_far past)) ∙ oldest

    nothing_given : (given : List InfoResponse) (n : ℕ) → given ≡ [] → slice_get given n ≡ Some response
        → answers_told past + 1 ≤ round_total past
    nothing_given [] n none some = cc
    nothing_given (answer ∷ given) n none some = cc

    by_waits : (b : Bool) → query_waits (open_round past) ≡ b → answers_told past + 1 ≤ round_total past
    by_waits true waits =
        let most = given_fits p past it waits in
        let below : answers_told past < length (given_so_far past) =
        slice_get_within (given_so_far past) (answers_told past) response some in
        omega (arith, most)
    by_waits false none =
        nothing_given [] (answers_told past) refl
        (ap (λ given. slice_get given (answers_told past)) (sym (given_none (open_round past) past none)) ∙ some)

told_step : (p : Settings) (f : Frame) (now : ℕ) (run : List Happening) (e : Entry) (d : Deed) → IsFilled p run
    → IsOfRound (board_of p f now run) d → answers_told run ≤ round_total run
    → answers_told (said now e d ∷ run) ≤ round_total (said now e d ∷ run)
told_step p f now run e d full it was = by_opens (opens_round d.request)
  where
    one_more : (b : Bool) → tells_answer d.told ≡ b → answers_told run + (if b then 1 else 0) ≤ round_total run
    one_more true tells =
        let some = tells_some d.told tells in
        let waited = subst (λ o. IfSome o (λ answer. (answer.index ≡ answers_told run)
        × (answer.total ≡ round_total run)
        × (oldest_of (drop (answers_told run) (given_so_far run)) ≡ Some answer.response))) some.1 it.answer in
        told_below p run some.0.response full waited.2
    one_more false tells = omega arith

    by_opens : (b : Bool) → (if b then 0 else answers_told run + (if tells_answer d.told then 1 else 0))
        ≤ (if b then of_told asked_by 0 d.told else round_total run)
    by_opens true = omega arith
    by_opens false = one_more (tells_answer d.told) refl

-- so no more were told in a sub-run
abbrev AreToldWithin : List Happening → Type 0
AreToldWithin run = answers_told run ≤ round_total run

told_fits : (p : Settings) (backward : List Entry) → IsLegalBackward p backward
    → AreToldWithin (sub_run (history p backward))
told_fits p [] legal = omega arith
told_fits p (e ∷ before) legal =
    by_run (where_joins p past e (holds p before legal.2) legal.0) (told_fits p before legal.2)
  where
    past : List Happening
    past = history p before

    none_told : AreToldWithin []
    none_told = omega arith

    by_run : IsOfRun p past e ⊎ IsBeforeRuns p past e → AreToldWithin (sub_run past)
        → AreToldWithin (sub_run (happening p past e ∷ past))
    by_run (inl of) was =
        subst AreToldWithin (sym of.joins)
        (told_step p (frame_of p past) (clock past) of.base e (deed_on p (board p past) e.turn)
        (from_base (IsFilled p) p past e of (filled_none p) (filled p before legal.2)) (of_round_in p past e of legal.0)
        (from_base AreToldWithin p past e of none_told was))
    by_run (inr none) was = subst AreToldWithin (sym none.still) none_told

pub fits : (p : Settings) (backward : List Entry) → IsLegalBackward p backward
    → AnswersFit (sub_run (history p backward))
fits p backward legal = record {
  given = given_fits p (sub_run (history p backward)) (filled p backward legal);
  told = told_fits p backward legal;
}

-- so what a turn tells of a round
if_some : {X : Type 0} {P Q : X → Type 0} (o : Option X) → ((x : X) → P x → Q x) → IfSome o P → IfSome o Q
if_some None more h = tt
if_some (Some x) more h = more x h

rest_is : (told total missing : ℕ) → told ≤ total → missing ≡ total - told → told + missing ≡ total
rest_is told total missing le is = omega arith

tells : (p : Settings) (past : List Happening) (e : Entry) → enabled p past e.turn ≡ true
    → AreToldWithin (sub_run past) → TellsOfQueries p (sub_run past) (happening p past e)
tells p past e en within = record {
  queries = it.asked ∙ tells_now.asks;
  asks = tells_now.asks;
  answers = tells_now.answers;
  ends = tells_now.ends;
  start = it.start;
  answer = if_some (of_told answer_told_in None d.told) (λ answer h.
      (h.0, h.1, sym (next_given (answers_told run) (given_so_far run)) ∙ h.2)) it.answer;
  finish = if_some (of_told missing_in None d.told) (λ missing h.
      (h.0, rest_is (answers_told run) (round_total run) missing within h.1)) it.finish;
}
  where
    run : List Happening
    run = sub_run past

    d : Deed
    d = deed_on p (board p past) e.turn

    it : IsOfRound (board p past) d
    it = of_round p (board p past) e.turn en

    tells_now : TellsExactly p.plan.hearing e.turn d
    tells_now = exactly p (board p past) e.turn en

pub tells_so : (p : Settings) (journal : List Entry) (e : Entry) → IsLegal p (journal ++ e ∷ [])
    → TellsOfQueries p (sub_run (past_of p journal)) (happening p (past_of p journal) e)
tells_so p journal e legal =
    let backward : IsLegalBackward p (e ∷ reverse journal) =
    subst (IsLegalBackward p) (reverse-append journal (e ∷ [])) legal in
    tells p (history p (reverse journal)) e backward.0 (told_fits p (reverse journal) backward.2)
