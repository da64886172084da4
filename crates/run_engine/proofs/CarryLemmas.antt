-- What one turn of a run does to its board and its journal.
use Rattle.std.proofs.Common.{◌≡◌, ℕ, ◌+◌, ◌<◌, ◌^◌, List, [], ◌∷◌, ◌++◌, length, reverse, Bool, true, not, Option}
use Rattle.std.proofs.Common.{is_none, option_to_list, map, zip, refl, ap, sym, subst, ◌∙◌, arith, length-append}
use Rattle.std.specs.List.{list_all}
use Rattle.run_events.specs.declared.settings.Settings.{Settings}
use Rattle.run_events.specs.Tell.{Adds}
use Rattle.run_events.specs.declared.ask.Ask.{Ask}
use Rattle.run_events.specs.declared.events.ReporterEvent.{ReporterEvent}
use Rattle.run_events.specs.declared.turn.Turn.{Turn}
use Rattle.run_model.specs.declared.entry.Entry.{Entry}
use Rattle.run_model.specs.Words.{events_in}
use Rattle.run_model.specs.Board.{Board, board, step, answered, deed_events}
use Rattle.run_model.specs.Turns.{enabled, turn_of_unit, deed_on, happening}
use Rattle.run_model.specs.Journal.{past_of}
use Rattle.run_laws.specs.Ready.{CanAdvance}
use Rattle.run_laws.proofs.board.Boards.{board-steps}
use Rattle.run_laws.proofs.board.Ready.{ready_after}
use Rattle.run_state.specs.Held.{Held, KeepsSeats, held}
use Rattle.run_engine.specs.Standing.{IsRunnable, unbroken}
use Rattle.run_engine.specs.World.{Outside, entry_of, TellsEvents, CountsErrors, TakesTurn}
use Rattle.run_engine.proofs.JournalLemmas.{past_of-push, legal-push}

-- the state of a board is seated, and one that is seated is that of its board
pub seated : (p : Settings) (h : Held) (b : Board) → h ≡ held p b → KeepsSeats p h
seated p h b is = subst (KeepsSeats p) (sym is) refl

pub held-is : (p : Settings) (h : Held) (b : Board) → KeepsSeats p h → h.board ≡ b → h ≡ held p b
held-is p h b seated e = ap (λ kept. record { board = h.board; kept = kept }) seated ∙ ap (held p) e

-- an enabled turn can be taken
pub can_advance : (p : Settings) (journal : List Entry) (b : Board) (turn : Turn) → IsRunnable p journal
    → b ≡ board p (past_of p journal) → enabled p (past_of p journal) turn ≡ true
    → CanAdvance p b turn (turn_of_unit turn)
can_advance p journal b turn r st en =
    subst (λ b. CanAdvance p b turn (turn_of_unit turn)) (sym st) (ready_after p journal turn r.legal r.few.units
    r.short en)

-- the board after a turn is that of the longer journal
pub stands_next : (p : Settings) (journal : List Entry) (old new : Board) (turn : Turn) (refused : List Bool)
    → IsRunnable p journal → old ≡ board p (past_of p journal) → enabled p (past_of p journal) turn ≡ true
    → new ≡ answered (step old turn (deed_on p old turn)) refused
    → new ≡ board p (past_of p (journal ++ entry_of turn refused ∷ []))
stands_next p journal old new turn refused r st en after =
    after ∙ ap (λ b. answered (step b turn (deed_on p b turn)) refused) st
    ∙ sym (board-steps p (reverse journal) (entry_of turn refused) r.legal en)
    ∙ ap (board p) (sym (past_of-push p journal (entry_of turn refused)))

-- and the longer journal is legal
pub runnable_next : (p : Settings) (journal : List Entry) (turn : Turn) (refused : List Bool) → IsRunnable p journal
    → length journal + 1 < 2 ^ 32 → enabled p (past_of p journal) turn ≡ true
    → length refused ≡ length (events_in (happening p (past_of p journal) (entry_of turn refused)))
    → IsRunnable p (journal ++ entry_of turn refused ∷ [])
runnable_next p journal turn refused r room en answered = record {
  few = r.few;
  short = omega (arith, length-append journal (entry_of turn refused ∷ []));
  legal = legal-push p journal (entry_of turn refused) r.legal en answered;
}

-- a turn is taken as the tables say, from what its parts did
pub takes_from : {R E C : Type 0} (tells : R → List (ReporterEvent × Option E) → Type 0)
    (asks : C → List (ℕ × Ask) → Type 0) (o : Outside R C) (p : Settings) (journal after : List Entry) (b : Board)
    (turn : Turn) (refused : List Bool) (refusal : Option E) (claimed place : ℕ) → place ≡ length journal
    → b ≡ board p (past_of p journal) → enabled p (past_of p journal) turn ≡ true
    → length refused ≡ length (deed_events (deed_on p b turn)) → is_none refusal ≡ list_all not refused
    → TellsEvents tells o.report o.report_after (zip (deed_events (deed_on p b turn)) refused) refusal
    → Adds asks o.children o.children_after
    (map (λ ask. (place, ask)) (option_to_list (deed_on p b turn).asked))
    → CountsErrors o.faults o.faults_after refusal → after ≡ journal ++ entry_of turn refused ∷ []
    → TakesTurn tells asks o turn (unbroken p journal claimed) (unbroken p after claimed) refusal
takes_from tells asks o p journal after b turn refused refusal claimed place at st en answered marked tell ask counted
    grown = record {
      is_enabled = en;
      refused = refused;
      answered = answered ∙ ap (λ b. length (deed_events (deed_on p b turn))) st;
      marked = marked;
      grown = ap (λ j. unbroken p j claimed) grown;
      told = subst (λ b. TellsEvents tells o.report o.report_after (zip (deed_events (deed_on p b turn)) refused)
          refusal)
          st tell;
      asked = subst (λ b. Adds asks o.children o.children_after
          (map (λ ask. (length journal, ask)) (option_to_list (deed_on p b turn).asked))) st
          (subst (λ n. Adds asks o.children o.children_after
          (map (λ ask. (n, ask)) (option_to_list (deed_on p b turn).asked))) at ask);
      counted = counted;
    }
