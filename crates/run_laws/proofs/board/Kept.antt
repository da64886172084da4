-- Each enabled turn keeps what holds of the newest sub-run.
use Rattle.std.proofs.Common.{◌≡◌, ◌⊎◌, inl, inr, ℕ, ◌||◌, List, [], ◌∷◌, Bool, true, false, if◌then◌else◌, Some}
use Rattle.std.proofs.Common.{refl, ap, sym, subst, ◌∙◌}
use Rattle.run_events.specs.declared.settings.Settings.{Settings}
use Rattle.run_events.specs.declared.turn.Turn.{Turn}
use Rattle.run_model.specs.declared.entry.Entry.{Entry}
use Rattle.run_model.specs.declared.happening.Happening.{Happening}
use Rattle.run_model.specs.declared.unit_view.UnitView.{UnitView}
use Rattle.run_model.specs.Unit.{is_live}
use Rattle.run_model.specs.Words.{clock, is_on, is_over, joined_run, sub_run, was_refused, unit_of}
use Rattle.run_model.specs.Admission.{unit_terms}
use Rattle.run_model.specs.Board.{Deed, board, said}
use Rattle.run_model.specs.Turns.{nothing_done, enabled, enabled_on, deed_on, happening}
use Rattle.run_model.specs.Journal.{history, IsLegalBackward}
use Rattle.run_model.specs.Accounts.{IsAccounted}
use Rattle.run_model.specs.Story.{Attempt, story_of, line_of, pieces}
use Rattle.run_laws.specs.Laws.{IsMadeByItsTurns}
use Rattle.run_laws.specs.Reports.{IsReportedByItsTurns, signals_by}
use Rattle.run_laws.specs.Cancels.{HasItsLine}
use Rattle.run_model.specs.declared.phase.Phase.{Phase}
use Rattle.run_model.specs.declared.phase.Phase.TheVariants.{StartSent, Starting, Running, Grace, KillWait, Leak}
use Rattle.run_model.specs.declared.phase.Phase.TheVariants.{EnvWait, Deciding, Delay, RetrySent, Over}
use Rattle.run_laws.proofs.board.Holds.{Holds, HasLine, HasLineIn}
use Rattle.run_laws.proofs.units.AttemptLemmas.{IsMade, IsMadeIf, made_statuses, made_due}
use Rattle.run_laws.proofs.board.DeedFits.{Does}
use Rattle.run_laws.proofs.board.OnBoard.{frame_of}
use Rattle.run_laws.proofs.board.BoundDeeds.{holds-none}
use Rattle.run_laws.proofs.board.Deeds.{base_of, does}
use Rattle.run_model.specs.Attempts.{pieces_of}
use Rattle.run_laws.proofs.told.Reported.{stops_by_terms}
use Rattle.run_laws.proofs.board.KeptDeeds.{holds-cons}

-- what holds of the newest sub-run is kept by a turn that joins none before it
abbrev pub HoldsAfter : Settings → List Happening → Type 0
HoldsAfter p past = Holds p (clock past) (sub_run past)

pub does_after : (p : Settings) (past : List Happening) (e : Entry) → HoldsAfter p past → enabled p past e.turn ≡ true
    → Does p (frame_of p past) (clock past) (base_of (happening p past e).begins (sub_run past))
    (deed_on p (board p past) e.turn)
does_after p past e h en = does p (frame_of p past) (was_refused past) (clock past) (sub_run past) e.turn h en

-- a turn joins the newest sub-run or begins one, of which this happened before it; or it comes before the first one and
-- does nothing but move the clock
pub record IsOfRun (p : Settings) (past : List Happening) (e : Entry) : Type 0 where
  pub base : List Happening
  pub is : base ≡ base_of (happening p past e).begins (sub_run past)
  pub joins : sub_run (happening p past e ∷ past) ≡ happening p past e ∷ base
  pub holds : Holds p (clock past) base
  pub does : Does p (frame_of p past) (clock past) base (deed_on p (board p past) e.turn)

-- what holds of no sub-run and of the newest one holds of that
pub from_base : (P : List Happening → Type 0) (p : Settings) (past : List Happening) (e : Entry) (of : IsOfRun p past e)
    → P [] → P (sub_run past) → P of.base
from_base P p past e of none was = subst P (sym of.is) (by_begin (happening p past e).begins)
  where
    by_begin : (b : Bool) → P (base_of b (sub_run past))
    by_begin true = none
    by_begin false = was

-- something happened in a sub-run that a turn joins and doesn't begin
pub some_base : (p : Settings) (past : List Happening) (e : Entry) (of : IsOfRun p past e)
    → (happening p past e).begins ≡ false → of.base ≡ [] → ⊥
some_base p past e of begins none =
    let x : Happening = happening p past e in
    let run : sub_run past ≡ [] = sym (of.is ∙ ap (λ b. base_of b (sub_run past)) begins) ∙ none in
    let never : [] ≡ x ∷ of.base = sym (ap (λ b. if b then x ∷ [] else joined_run x (sub_run past)) begins
    ∙ ap (joined_run x) run) ∙ of.joins in cc

pub record IsBeforeRuns (p : Settings) (past : List Happening) (e : Entry) : Type 0 where
  pub none : sub_run past ≡ []
  pub idle : deed_on p (board p past) e.turn ≡ nothing_done
  pub still : sub_run (happening p past e ∷ past) ≡ []

pub where_joins : (p : Settings) (past : List Happening) (e : Entry) → HoldsAfter p past
    → enabled p past e.turn ≡ true → IsOfRun p past e ⊎ IsBeforeRuns p past e
where_joins p past e h en = by_begin (happening p past e).begins refl (does_after p past e h en)
  where
    x : Happening
    x = happening p past e

    by_begin : (b : Bool) → x.begins ≡ b
        → Does p (frame_of p past) (clock past) (base_of b (sub_run past)) (deed_on p (board p past) e.turn)
        → IsOfRun p past e ⊎ IsBeforeRuns p past e
    by_begin true begins does = inl (record {
      base = [];
      is = ap (λ b. base_of b (sub_run past)) (sym begins);
      joins = ap (λ b. if b then x ∷ [] else joined_run x (sub_run past)) begins;
      holds = holds-none p (clock past);
      does = does;
    })
    by_begin false begins does = by_run (sub_run past) refl
      where
        joined : sub_run (x ∷ past) ≡ joined_run x (sub_run past)
        joined = ap (λ b. if b then x ∷ [] else joined_run x (sub_run past)) begins

        by_run : (run : List Happening) → sub_run past ≡ run → IsOfRun p past e ⊎ IsBeforeRuns p past e
        by_run [] is = inr (record {
          none = is;
          idle = does.marks.still (ap (λ b. b || is_on (sub_run past)) begins ∙ ap is_on is);
          still = joined ∙ ap (joined_run x) is;
        })
        by_run (y ∷ run) is = inl (record {
          base = sub_run past;
          is = ap (λ b. base_of b (sub_run past)) (sym begins);
          joins = joined ∙ ap (joined_run x) is ∙ ap (λ run. x ∷ run) (sym is);
          holds = h;
          does = does;
        })

pub kept : (p : Settings) (past : List Happening) (e : Entry) → HoldsAfter p past → enabled p past e.turn ≡ true
    → HoldsAfter p (happening p past e ∷ past)
kept p past e h en = by_run (where_joins p past e h en)
  where
    by_run : IsOfRun p past e ⊎ IsBeforeRuns p past e → HoldsAfter p (happening p past e ∷ past)
    by_run (inl of) = subst (Holds p (clock (happening p past e ∷ past))) (sym of.joins)
        (holds-cons p (frame_of p past) (clock past) of.base e _ of.holds of.does)
    by_run (inr before) = subst (Holds p (clock (happening p past e ∷ past))) (sym before.still)
        (holds-none p (clock (happening p past e ∷ past)))

-- what holds after every legal journal
pub holds : (p : Settings) (backward : List Entry) → IsLegalBackward p backward → HoldsAfter p (history p backward)
holds p [] legal = holds-none p 0
holds p (e ∷ before) legal = kept p (history p before) e (holds p before legal.2) legal.0

-- so each unit has its account
pub accounts : (p : Settings) (backward : List Entry) → IsLegalBackward p backward → (k : ℕ)
    → IsAccounted p k (sub_run (history p backward))
accounts p backward legal k = (holds p backward legal).accounts k

-- and its attempts are its own turns
pub made : (p : Settings) (backward : List Entry) → IsLegalBackward p backward → (k : ℕ) (u : UnitView)
    → unit_of k (sub_run (history p backward)) ≡ Some u → IsMadeByItsTurns p (sub_run (history p backward)) k u
made p backward legal k u is =
    let ps : List Attempt = pieces (story_of k (sub_run (history p backward))) in
    let it : IsMade (unit_terms p k) u ps =
    subst (λ v. IsMadeIf (unit_terms p k) v (story_of k (sub_run (history p backward)))) is
    ((holds p backward legal).made k) in
    record {
      statuses = made_statuses (unit_terms p k) u ps it;
      attempt = it.attempt;
      start = it.start;
      due = made_due (unit_terms p k) u ps it;
    }

-- and what is asked and told of it is what its own turns say
pub reported : (p : Settings) (backward : List Entry) → IsLegalBackward p backward → (k : ℕ)
    → IsReportedByItsTurns p (sub_run (history p backward)) k
reported p backward legal k =
    let it = (holds p backward legal).reported k in
    record {
      signals = it.signals ∙ ap (λ b. signals_by b (unit_terms p k).slow (pieces_of k run)) (stops_by_terms p k);
      reports = it.reports;
    }
  where
    run : List Happening
    run = sub_run (history p backward)

-- and its line is what was broadcast to it
pub lined : (p : Settings) (backward : List Entry) → IsLegalBackward p backward → (k : ℕ) (u : UnitView)
    → unit_of k (sub_run (history p backward)) ≡ Some u → is_live u.phase ≡ true
    → HasItsLine (sub_run (history p backward)) k u
lined p backward legal k u is live =
    let run : List Happening = sub_run (history p backward) in
    record {
      line = live_line u.phase live (subst (λ v. HasLine v (line_of k run)) is ((holds p backward legal).lines k));
      took = (holds p backward legal).taken k;
    }
  where
    live_line : (ph : Phase) → is_live ph ≡ true → HasLineIn ph u.line (line_of k (sub_run (history p backward)))
        → u.line ≡ line_of k (sub_run (history p backward))
    live_line Starting e h = h
    live_line Running e h = h
    live_line Grace e h = h
    live_line KillWait e h = h
    live_line Leak e h = h
    live_line EnvWait e h = h
    live_line Deciding e h = h
    live_line Delay e h = h
    live_line RetrySent e h = h
    live_line StartSent e h = cc
    live_line Over e h = cc
