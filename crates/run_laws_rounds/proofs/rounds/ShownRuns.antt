-- What each unit keeps for its answers is what its own turns say, after every legal journal.
use Rattle.std.proofs.Common.{◌≡◌, ◌⊎◌, inl, inr, ℕ, ◌≤◌, ◌==◌, List, [], ◌∷◌, ◌++◌, Bool, true, false, if◌then◌else◌}
use Rattle.std.proofs.Common.{Option, Some, None, option_map, option_to_list, refl, ap, sym, subst, ◌∙◌, arith}
use Rattle.std.specs.Prelude.{⊤}
use Rattle.run_events.specs.declared.request.Request.{Request}
use Rattle.run_events.specs.declared.settings.Settings.{Settings}
use Rattle.run_model.specs.declared.entry.Entry.{Entry}
use Rattle.run_model.specs.declared.happening.Happening.{Happening}
use Rattle.run_model.specs.declared.happening.UnitPart.{UnitPart}
use Rattle.run_model.specs.declared.happening.UnitPart.TheVariants.{Joins, Acts}
use Rattle.run_model.specs.declared.phase.Phase.{Phase}
use Rattle.run_model.specs.declared.phase.Phase.TheVariants.{StartSent, Starting, Running, Grace, KillWait, Leak}
use Rattle.run_model.specs.declared.phase.Phase.TheVariants.{EnvWait, Deciding, Delay, RetrySent, Over}
use Rattle.run_model.specs.declared.unit_turn.UnitTurn.{UnitTurn}
use Rattle.run_model.specs.declared.unit_view.UnitView.{UnitView}
use Rattle.run_model.specs.Admission.{unit_terms}
use Rattle.run_model.specs.Attempts.{delay_timer}
use Rattle.run_model.specs.Board.{Deed, board}
use Rattle.run_model.specs.Environment.{number}
use Rattle.run_model.specs.Journal.{IsLegalBackward, history}
use Rattle.run_model.specs.Story.{Attempt, OwnTurn, cut, line_of, own_turn, pieces, request_of, story_of}
use Rattle.run_model.specs.Timing.{leak_timer}
use Rattle.run_model.specs.Turns.{deed_on}
use Rattle.run_model.specs.Unit.{at_moment, is_live, reach, row, takes}
use Rattle.run_model.specs.Words.{clock, sub_run, unit_after, unit_of}
use Rattle.run_laws_rounds.specs.Answers.{grace_timer}
use Rattle.run_laws.proofs.board.DeedFits.{PartFits}
use Rattle.run_laws.proofs.board.Holds.{HasLine, HasLineIn, Holds}
use Rattle.run_laws.proofs.board.Kept.{HoldsAfter, IsBeforeRuns, IsOfRun, from_base, holds, where_joins}
use Rattle.run_laws.proofs.units.AttemptLemmas.{HasPieces, IsMade, IsMadeIf, more}
use Rattle.run_laws.proofs.units.Lines.{own_request}
use Rattle.run_laws.proofs.units.MadeLemmas.{later_pieces}
use Rattle.run_laws.proofs.units.Rows.{takes_moment}
use Rattle.run_laws_rounds.proofs.rounds.Shown.{IsShown, waits_later}
use Rattle.run_laws_rounds.proofs.rounds.ShownMoves.{row_shown}
use Rattle.run_laws_rounds.proofs.rounds.ShownRows.{Shows}
use Rattle.run_laws.proofs.board.OnBoard.{Frame}
use Rattle.run_laws.proofs.board.OnBoard.{frame_of}

-- one that took no turn keeps nothing
none_shown : (ph : Phase) (u : UnitView) → IsShown ph u []
none_shown StartSent u = tt
none_shown Starting u = tt
none_shown Running u = tt
none_shown Grace u = tt
none_shown KillWait u = tt
none_shown Leak u = tt
none_shown EnvWait u = tt
none_shown Deciding u = tt
none_shown Delay u = tt
none_shown RetrySent u = tt
none_shown Over u = tt

-- its line says nothing of that, and the moment of its latest turn may be later
shown_lined : (ph : Phase) (line : List Request) (u : UnitView) (ps : List Attempt) → IsShown ph u ps
    → IsShown ph (record u { line = line }) ps
shown_lined Starting line u (cut piece [] ∷ earlier) h = h
shown_lined Running line u (cut piece [] ∷ earlier) h = h
shown_lined Grace line u (cut piece [] ∷ earlier) h = h
shown_lined KillWait line u (cut piece [] ∷ earlier) h = h
shown_lined Leak line u (cut piece [] ∷ earlier) h = h
shown_lined Deciding line u (cut piece [] ∷ earlier) h = h
shown_lined Delay line u (cut piece (d ∷ after) ∷ earlier) h = h
shown_lined ph line u ps h = tt

pub shown_later : (now : ℕ) (ph : Phase) (u : UnitView) (ps : List Attempt) → u.latest ≤ now → IsShown ph u ps
    → IsShown ph (at_moment now u) ps
shown_later now Starting u (cut piece [] ∷ earlier) le h = h
shown_later now Running u (cut piece [] ∷ earlier) le h = h
shown_later now Grace u (cut piece [] ∷ earlier) le (pid, ending, waits) =
    (pid, ending, waits_later (grace_timer u.terms.slow piece) u.timers.waiting u.latest now le waits)
shown_later now KillWait u (cut piece [] ∷ earlier) le h = h
shown_later now Leak u (cut piece [] ∷ earlier) le (pid, result, waits) =
    (pid, result, waits_later (leak_timer u.terms.leak.period piece) u.timers.waiting u.latest now le waits)
shown_later now Deciding u (cut piece [] ∷ earlier) le h = h
shown_later now Delay u (cut piece (d ∷ after) ∷ earlier) le h =
    waits_later (delay_timer u.terms.retries (d ∷ after) (cut piece (d ∷ after) ∷ earlier)) u.timers.waiting
    u.latest now le h
shown_later now ph u ps le h = tt

-- the same of a unit that may not be admitted, by its story
abbrev pub IsShownIf : Option UnitView → List OwnTurn → Type 0
IsShownIf None story = ⊤
IsShownIf (Some u) story = Shows u (pieces story)

reach_shown : (request : Option Request) (v : Option UnitView) (story : List OwnTurn) → IsShownIf v story
    → IsShownIf (reach request v) story
reach_shown None v story h = h
reach_shown (Some request) None story h = h
reach_shown (Some request) (Some u) story h = by_live (is_live u.phase)
  where
    by_live : (b : Bool) → Shows (if b then record u { line = u.line ++ request ∷ [] } else u) (pieces story)
    by_live true = shown_lined u.phase (u.line ++ request ∷ []) u (pieces story) h
    by_live false = h

-- a unit's own turn
own_shown : (p : Settings) (f : Frame) (now : ℕ) (run : List Happening) (k : ℕ) (turn : UnitTurn) (u : UnitView)
    → Holds p now run → unit_of k run ≡ Some u → takes now u turn ≡ true → Shows u (pieces (story_of k run))
    → Shows (row now turn u).next
    (pieces (record { moment = now; turn = turn; request = request_of turn (line_of k run) } ∷ story_of k run))
own_shown p f now run k turn u h is en shown =
    subst (λ request. Shows (row now turn u).next
    (more (record { moment = now; turn = turn; request = request }) (pieces (story_of k run)))) (sym asked)
    (row_shown now u.phase turn (at_moment now u) (pieces (story_of k run))
    (takes_moment now u.phase u turn en) refl refl
    (later_pieces u.terms now u.phase u (pieces (story_of k run)) le
    (subst (λ terms. HasPieces terms u.phase u (pieces (story_of k run))) (sym made.terms) made.has))
    (shown_later now u.phase u (pieces (story_of k run)) le shown))
  where
    made : IsMade (unit_terms p k) u (pieces (story_of k run))
    made = subst (λ v. IsMadeIf (unit_terms p k) v (story_of k run)) is (h.made k)

    le : u.latest ≤ now
    le = (h.named k u is).2

    line : HasLineIn u.phase u.line (line_of k run)
    line = subst (λ v. HasLine v (line_of k run)) is (h.lines k)

    asked : request_of turn (line_of k run) ≡ request_of turn u.line
    asked = own_request now turn u (line_of k run) en line

part_shown : (p : Settings) (f : Frame) (now : ℕ) (run : List Happening) (k : ℕ) (part : Option UnitPart)
    → Holds p now run → PartFits p now run part → IsShownIf (unit_of k run) (story_of k run)
    → IsShownIf (unit_after now k part (unit_of k run))
    (option_to_list (own_turn k now part (line_of k run)) ++ story_of k run)
part_shown p f now run k None h fits shown = shown
part_shown p f now run k (Some (Joins first)) h (sent, new) shown = begins (number first == k) refl
  where
    begins : (b : Bool) → (number first == k) ≡ b
        → IsShownIf (if b then Some first else unit_of k run) (story_of k run)
    begins true e =
        let here : k ≡ number first = grind arith in
        let none : unit_of k run ≡ None = ap (λ k. unit_of k run) here ∙ new.unknown in
        let story : story_of k run ≡ [] = subst (λ v. IsMadeIf (unit_terms p k) v (story_of k run)) none (h.made k) in
        subst (λ story. Shows first (pieces story)) (sym story) (none_shown first.phase first)
    begins false e = shown
part_shown p f now run k (Some (Acts j turn)) h fits shown = by_unit (j == k) refl
  where
    by_unit : (b : Bool) → (j == k) ≡ b
        → IsShownIf (if b then option_map (λ w. (row now turn w).next) (unit_of k run) else unit_of k run)
        (option_to_list (if b
        then Some (record { moment = now; turn = turn; request = request_of turn (line_of k run) }) else None)
        ++ story_of k run)
    by_unit true e =
        let here : k ≡ j = grind arith in
        let mine : unit_of k run ≡ Some fits.unit = ap (λ k. unit_of k run) here ∙ fits.is in
        subst (λ v. IsShownIf (option_map (λ w. (row now turn w).next) v)
        (record { moment = now; turn = turn; request = request_of turn (line_of k run) } ∷ story_of k run)) (sym mine)
        (own_shown p f now run k turn fits.unit h mine fits.takes
        (subst (λ v. IsShownIf v (story_of k run)) mine shown))
    by_unit false e = shown

pub shown : (p : Settings) (backward : List Entry) → IsLegalBackward p backward → (k : ℕ)
    → IsShownIf (unit_of k (sub_run (history p backward))) (story_of k (sub_run (history p backward)))
shown p [] legal k = tt
shown p (e ∷ before) legal k = one_more (shown p before legal.2 k) (holds p before legal.2)
  where
    past : List Happening
    past = history p before

    d : Deed
    d = deed_on p (board p past) e.turn

    Shown : List Happening → Type 0
    Shown run = IsShownIf (unit_of k run) (story_of k run)

    one_more : Shown (sub_run past) → HoldsAfter p past → Shown (sub_run (history p (e ∷ before)))
    one_more was h = by_run (where_joins p past e h legal.0)
      where
        by_run : IsOfRun p past e ⊎ IsBeforeRuns p past e → Shown (sub_run (history p (e ∷ before)))
        by_run (inl of) = subst Shown (sym of.joins)
            (reach_shown d.request (unit_after (clock past) k d.part (unit_of k of.base)) _
            (part_shown p (frame_of p past) (clock past) of.base k d.part of.holds of.does.part
            (from_base Shown p past e of tt was)))
        by_run (inr none) = subst Shown (sym none.still) tt
