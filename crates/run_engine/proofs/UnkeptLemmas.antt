-- Turns that are taken with no journal kept.
use Rattle.std.proofs.Common.{◌≡◌, ℕ, ◌+◌, ◌<◌, ◌^◌, List, [], ◌∷◌, ◌++◌, length, map, zip, take, get_or, slice_get}
use Rattle.std.proofs.Common.{Bool, true, false, not, Option, Some, None, is_none, option_to_list, Result, Ok, Err}
use Rattle.std.proofs.Common.{refl, ap, sym, subst}
use Rattle.std.proofs.Common.{◌∙◌, arith}
use Rattle.std.specs.List.{list_all}
use Rattle.std.proofs.lemmas.List.{length-map, length-take}
use Rattle.std.proofs.lemmas.Option.{slice_get-get_or}
use Rattle.run_events.specs.Tell.{Adds}
use Rattle.run_events.specs.declared.settings.Settings.{Settings}
use Rattle.run_events.specs.declared.turn.Turn.{Turn}
use Rattle.run_events.specs.declared.ask.Ask.{Ask}
use Rattle.run_events.specs.declared.events.ReporterEvent.{ReporterEvent}
use Rattle.run_events.specs.declared.outcome.RunOutcome.{RunOutcome}
use Rattle.run_model.specs.declared.entry.Entry.{Entry}
use Rattle.run_model.specs.Admission.{AreFew, units_in}
use Rattle.run_model.specs.Board.{Board, Deed, board, step, answered, deed_events}
use Rattle.run_model.specs.Turns.{enabled_on, turn_of_unit, deed_on, is_third_signal}
use Rattle.run_model.specs.Journal.{past_of, outcome}
use Rattle.run_model.specs.Words.{sub_run}
use Rattle.run_laws.specs.Course.{turns_of}
use Rattle.run_laws.specs.Ready.{CanAdvance, IsTimelyBoard}
use Rattle.run_laws.proofs.board.OnBoard.{units-length}
use Rattle.run_laws.proofs.board.Ready.{timely}
use Rattle.run_laws.proofs.told.Outcomes.{over_is}
use Rattle.run_state.specs.Held.{Held, KeepsSeats, held}
use Rattle.run_engine.specs.Forgotten.{IsForgotten, IsKeptAfter}
use Rattle.run_engine.specs.World.{World, Outside, outside, entry_of, earlier, TellsEvents, CountsErrors}
use Rattle.run_engine.specs.Standing.{sound}
use Rattle.run_engine.specs.Broken.{TellsPart, BreaksOff}
use Rattle.run_engine.specs.Refused.{IsNotNamed, IsNotTaken, IsRefused}
use Rattle.run_engine.specs.declared.errors.StepError.{StepError}
use Rattle.run_engine.specs.declared.errors.StepError.TheVariants as steps
use Rattle.run_engine.specs.Execution.{Carries, UnlessMemory, IsFinal, StopsHere, StopsAt}
use Rattle.run_engine.specs.Unkept.{KeepsBoard, StandsAfter, TakesUnkept, StopsUnkept, TookAll, outcome_on}
use Rattle.run_engine.specs.declared.course.Stop.{Stop}
use Rattle.run_engine.specs.declared.course.Stop.TheVariants as stops
use Rattle.run_engine.specs.declared.errors.TestRunnerExecuteErrors.{TestRunnerExecuteErrors}
use Rattle.run_engine.specs.declared.errors.TestRunnerExecuteErrors.TheVariants.{Report, NotEnabled, ThirdSignal}
use Rattle.run_engine.specs.declared.errors.TestRunnerExecuteErrors.TheVariants.{Unfinished, OutOfMemory}
use Rattle.run_engine.proofs.CarryLemmas.{seated, can_advance, stands_next, takes_from}
use Rattle.run_engine.proofs.ForgottenTurns.{enabled_same, forgotten-none, third_same}
use Rattle.run_engine.proofs.ForgottenJournals.{kept_whole, kept_timely, kept_enabled, kept_can, kept_deed, kept_next}
use Rattle.run_engine.proofs.OutcomeLemmas.{not_over}
use Rattle.run_engine.proofs.PartLemmas.{tells-nothing, adds-nothing, breaks_off, runs_out}
use Rattle.run_engine.proofs.TakesLemmas.{takes-more, turns-push, stops_here}

-- what a state that stands for a journal has, and keeps
pub all_units : (p : Settings) (state : Held) (place : ℕ) (journal : List Entry) → StandsAfter p state place journal
    → length state.board.units ≡ units_in p
all_units p state place journal s = kept_whole p journal state.board s.stands.board

pub is_timely : (p : Settings) (state : Held) (place : ℕ) (journal : List Entry) → StandsAfter p state place journal
    → IsTimelyBoard state.board
is_timely p state place journal s = kept_timely p journal state.board s.runnable s.stands.board

pub keeps_seats : (p : Settings) (state : Held) (place : ℕ) (journal : List Entry) → StandsAfter p state place journal
    → KeepsSeats p state
keeps_seats p state place journal s = s.stands.seats

pub can_take : (p : Settings) (state : Held) (place : ℕ) (journal : List Entry) (turn : Turn)
    → StandsAfter p state place journal → enabled_on p state.board turn ≡ true
    → CanAdvance p state.board turn (turn_of_unit turn)
can_take p state place journal turn s en = kept_can p journal state.board turn s.runnable s.stands.board en

-- a turn that isn't enabled on its board isn't taken after the journal
pub not_taken : (p : Settings) (state : Held) (place : ℕ) (journal : List Entry) (turn : Turn) (third : Bool)
    → StandsAfter p state place journal → enabled_on p state.board turn ≡ false
    → is_third_signal state.board turn ≡ third → IsNotTaken (sound p journal) turn third
not_taken p state place journal turn third s off is =
    let b = board p (past_of p journal) in (
      sym (enabled_same p b state.board turn s.stands.board) ∙ off,
      sym (third_same p b state.board turn s.stands.board) ∙ is,
    )

pub is_refused : (p : Settings) (state : Held) (place : ℕ) (journal : List Entry) (turn : Turn) (error : StepError)
    → StandsAfter p state place journal → place < 4294967295 → IsNotNamed p state.board turn error
    → IsRefused (sound p journal) turn error
is_refused p state place journal turn steps.NotEnabled s room why =
    (omega (arith, s.many, room), not_taken p state place journal turn false s why.0 why.1)
is_refused p state place journal turn steps.ThirdSignal s room why =
    (omega (arith, s.many, room), not_taken p state place journal turn true s why.0 why.1)
is_refused p state place journal turn steps.Full s room why = absurd why
is_refused p state place journal turn steps.OutOfMemory s room why = tt

-- a turn is taken after the journal, from what its parts did
pub takes_next : {R E C : Type 0} (tells : R → List (ReporterEvent × Option E) → Type 0)
    (asks : C → List (ℕ × Ask) → Type 0) (o : Outside R C) (p : Settings) (state : Held) (board_then : Board)
    (new : Held) (place : ℕ) (journal : List Entry) (turn : Turn) (refused : List Bool) (refusal : Option E)
    → StandsAfter p state place journal → enabled_on p state.board turn ≡ true → KeepsSeats p new
    → board_then ≡ answered (step state.board turn (deed_on p state.board turn)) refused
    → ((b : Board) → IsForgotten p b board_then → IsForgotten p b new.board)
    → length refused ≡ length (deed_events (deed_on p state.board turn)) → is_none refusal ≡ list_all not refused
    → TellsEvents tells o.report o.report_after (zip (deed_events (deed_on p state.board turn)) refused) refusal
    → Adds asks o.children o.children_after
    (map (λ ask. (place, ask)) (option_to_list (deed_on p state.board turn).asked))
    → CountsErrors o.faults o.faults_after refusal → TakesUnkept tells asks o p new journal turn refusal
takes_next tells asks o p state board_then new place journal turn refused refusal s on seats after forgets answered
    marked tell ask counted =
    let b = board p (past_of p journal) in
    let same : deed_on p state.board turn ≡ deed_on p b turn =
    kept_deed p journal state.board turn s.runnable s.stands.board on in (
      journal ++ entry_of turn refused ∷ [],
      takes_from tells asks o p journal (journal ++ entry_of turn refused ∷ []) b turn refused refusal 0 place s.many
          refl (kept_enabled p journal state.board turn s.stands.board on)
          (answered ∙ ap (λ d. length (deed_events d)) same) marked
          (subst (λ d. TellsEvents tells o.report o.report_after (zip (deed_events d) refused) refusal) same tell)
          (subst (λ (d : Deed). Adds asks o.children o.children_after
          (map (λ ask. (place, ask)) (option_to_list d.asked))) same ask) counted refl,
      record {
        board = forgets _ (subst (IsKeptAfter p (journal ++ entry_of turn refused ∷ [])) (sym after)
            (kept_next p journal state.board turn refused s.runnable s.stands.board on));
        seats = seats;
      },
    )

-- or it was broken off
pub breaks_next : {R E C : Type 0} (tells : R → List (ReporterEvent × Option E) → Type 0)
    (asks : C → List (ℕ × Ask) → Type 0) (o : Outside R C) (p : Settings) (state : Held) (place : ℕ)
    (journal : List Entry) (turn : Turn) → StandsAfter p state place journal → enabled_on p state.board turn ≡ true
    → TellsPart tells asks o place (deed_events (deed_on p state.board turn)) (deed_on p state.board turn).asked
    → BreaksOff tells asks o p journal turn
breaks_next tells asks o p state place journal turn s on x =
    breaks_off tells asks o p journal (board p (past_of p journal)) turn place s.many refl
    (kept_enabled p journal state.board turn s.stands.board on)
    (subst (λ (d : Deed). TellsPart tells asks o place (deed_events d) d.asked)
    (kept_deed p journal state.board turn s.runnable s.stands.board on) x)

-- the state of a board keeps it, with nothing forgotten
pub fresh_board : (p : Settings) (state : Held) → state ≡ held p (board p []) → KeepsBoard p (board p []) state
fresh_board p state fresh = record {
  board = subst (λ (h : Held). IsForgotten p (board p []) h.board) (sym fresh) (forgotten-none p (board p []));
  seats = seated p state (board p []) fresh;
}

-- no turn was taken
pub has_taken_none : {R E C : Type 0} (tells : R → List (ReporterEvent × Option E) → Type 0)
    (asks : C → List (ℕ × Ask) → Type 0) (faults : R → ℕ) (p : Settings) (state : Held) (r : R) (c : C) → AreFew p
    → state ≡ held p (board p []) → TookAll tells asks (outside faults r r c c) p [] state None
has_taken_none tells asks faults p state r c few fresh = record {
  journal = [];
  takes = record {
    runnable = record { few = few; short = omega arith; legal = tt };
    marked = refl;
    told = tells-nothing tells r;
    asked = adds-nothing asks c;
    counted = refl;
  };
  all = refl;
  stands = fresh_board p state fresh;
}

-- after the turns before a place the state stands for their journal
pub stands_for : {R E C : Type 0} (tells : R → List (ReporterEvent × Option E) → Type 0)
    (asks : C → List (ℕ × Ask) → Type 0) (o : Outside R C) (p : Settings) (turns : List Turn) (place : ℕ) (state : Held)
    (first : Option E) (so_far : TookAll tells asks o p (take place turns) state first) → place < length turns
    → StandsAfter p state place so_far.journal
stands_for tells asks o p turns place state first so_far inside = record {
  runnable = so_far.takes.runnable;
  stands = so_far.stands;
  many = omega (
    arith,
    inside,
    ap length so_far.all,
    length-map so_far.journal (λ (e : Entry). e.turn),
    length-take place turns,
  );
}

-- one more turn was taken
pub has_taken_more : {R E C : Type 0} (tells : R → List (ReporterEvent × Option E) → Type 0)
    (asks : C → List (ℕ × Ask) → Type 0) (faults : R → ℕ) (p : Settings) (turns : List Turn) (place : ℕ)
    (state new : Held) (a b c : R) (d e f : C) (first later : Option E) (turn : Turn)
    (so_far : TookAll tells asks (outside faults a b d e) p (take place turns) state first)
    → place < length turns → length turns < 2 ^ 32 → turn ≡ get_or turns place turn
    → TakesUnkept tells asks (outside faults b c e f) p new so_far.journal turn later
    → TookAll tells asks (outside faults a c d f) p (take (place + 1) turns) new (earlier first later)
has_taken_more tells asks faults p turns place state new a b c d e f first later turn so_far inside few is next =
    let stands = stands_for tells asks (outside faults a b d e) p turns place state first so_far inside in
    record {
      journal = next.0;
      takes = takes-more tells asks faults p so_far.journal a b c d e f first later turn (sound p next.0) so_far.takes
          next.1 (omega (arith, stands.many));
      all = ap (λ (w : World). turns_of w.journal) next.1.grown
          ∙ turns-push so_far.journal turns place turn turn next.1.refused inside so_far.all is;
      stands = next.2;
    }

slice_get_at : (turns : List Turn) (place : ℕ) (turn : Turn) → place < length turns → turn ≡ get_or turns place turn
    → slice_get turns place ≡ Some turn
slice_get_at turns place turn inside is = slice_get-get_or turns place turn inside ∙ ap Some (sym is)

-- the turns stop at the next one
pub stops_at : {R E C : Type 0} (tells : R → List (ReporterEvent × Option E) → Type 0)
    (asks : C → List (ℕ × Ask) → Type 0) (faults : R → ℕ) (p : Settings) (turns : List Turn) (place : ℕ) (state : Held)
    (a b c : R) (d e f : C) (first : Option E) (turn : Turn) (stop : Stop)
    (so_far : TookAll tells asks (outside faults a b d e) p (take place turns) state first)
    → place < length turns → turn ≡ get_or turns place turn
    → StopsUnkept tells asks (outside faults b c e f) (sound p so_far.journal) place turn stop
    → StopsAt tells asks (outside faults a c d f) p turns so_far.journal stop
stops_at tells asks faults p turns place state a b c d e f first turn (stops.NotEnabled i) so_far inside is why =
    subst (λ i. StopsHere tells asks (outside faults a c d f) p turns so_far.journal i false) (sym why.0)
    (stops_here tells asks faults p turns (sound p so_far.journal) (sound p so_far.journal) a b c d e f first place turn
    false so_far.takes so_far.all refl (slice_get_at turns place turn inside is) why.1 why.2)
stops_at tells asks faults p turns place state a b c d e f first turn (stops.ThirdSignal i) so_far inside is why =
    subst (λ i. StopsHere tells asks (outside faults a c d f) p turns so_far.journal i true) (sym why.0)
    (stops_here tells asks faults p turns (sound p so_far.journal) (sound p so_far.journal) a b c d e f first place turn
    true so_far.takes so_far.all refl (slice_get_at turns place turn inside is) why.1 why.2)
stops_at tells asks faults p turns place state a b c d e f first turn stops.OutOfMemory so_far inside is why =
    runs_out tells asks faults p turns so_far.journal a b c d e f first place turn so_far.takes so_far.all
    (slice_get_at turns place turn inside is) why

-- what is answered at the end of all turns says what their journal does
pub carries_final : {R E C : Type 0} (tells : R → List (ReporterEvent × Option E) → Type 0)
    (asks : C → List (ℕ × Ask) → Type 0) (o : Outside R C) (p : Settings) (turns : List Turn) (state : Held)
    (refusal : Option E) (answer : Result RunOutcome (TestRunnerExecuteErrors E))
    → TookAll tells asks o p turns state refusal → IsFinal (outcome_on state.board) refusal answer
    → UnlessMemory answer (Carries tells asks o p turns answer)
carries_final {E = E} tells asks o p turns state refusal answer x final =
    by_answer answer (subst (λ (b : Board). IsFinal (outcome_on b) refusal answer) x.stands.board.rest final)
  where
    by_answer : (answer : Result RunOutcome (TestRunnerExecuteErrors E))
        → IsFinal (outcome p (past_of p x.journal)) refusal answer
        → UnlessMemory answer (Carries tells asks o p turns answer)
    by_answer (Ok end) says =
        record { journal = x.journal; refusal = refusal; takes = x.takes; says = (x.all, says.0, says.1) }
    by_answer (Err (Report e)) says = record {
      journal = x.journal;
      refusal = refusal;
      takes = x.takes;
      says = (x.all, over_is p (past_of p x.journal) says.0.0 says.0.1, says.1);
    }
    by_answer (Err (NotEnabled i)) says = absurd says
    by_answer (Err (ThirdSignal i)) says = absurd says
    by_answer (Err Unfinished) says = record {
      journal = x.journal;
      refusal = refusal;
      takes = x.takes;
      says = (x.all, not_over p x.journal x.takes.runnable.legal says);
    }
    by_answer (Err OutOfMemory) says = tt
