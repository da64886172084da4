-- What is kept after a journal takes each turn that can come next.
use Rattle.std.proofs.Common.{◌≡◌, List, [], ◌∷◌, ◌++◌, length, Bool, true, refl, sym, subst, ◌∙◌}
use Rattle.run_events.specs.declared.settings.Settings.{Settings}
use Rattle.run_events.specs.declared.turn.Turn.{Turn}
use Rattle.run_model.specs.declared.entry.Entry.{Entry}
use Rattle.run_model.specs.Admission.{units_in}
use Rattle.run_model.specs.Board.{Board, board, step, answered}
use Rattle.run_model.specs.Journal.{past_of}
use Rattle.run_model.specs.Turns.{enabled, enabled_on, deed_on, turn_of_unit}
use Rattle.run_model.specs.Words.{sub_run}
use Rattle.run_laws.specs.Ready.{CanAdvance, IsTimelyBoard}
use Rattle.run_laws.proofs.board.OnBoard.{units-length}
use Rattle.run_laws.proofs.board.Ready.{ready_after, timely}
use Rattle.run_engine.specs.Forgotten.{IsForgotten, IsKeptAfter}
use Rattle.run_engine.specs.Standing.{IsRunnable}
use Rattle.run_engine.specs.World.{entry_of}
use Rattle.run_engine.proofs.CarryLemmas.{stands_next}
use Rattle.run_engine.proofs.ForgottenTurns.{can_advance_same, deed_same, enabled_same, forgotten-turn, timely_same}

-- each unit has its place, and took no turn later than the clock is
pub kept_whole : (p : Settings) (journal : List Entry) (c : Board) → IsKeptAfter p journal c
    → length c.units ≡ units_in p
kept_whole p journal c h = h.units.whole ∙ units-length p (sub_run (past_of p journal))

pub kept_timely : (p : Settings) (journal : List Entry) (c : Board) → IsRunnable p journal → IsKeptAfter p journal c
    → IsTimelyBoard c
kept_timely p journal c r h = timely_same p (board p (past_of p journal)) c h (timely p journal r.legal)

-- a turn that is enabled is so after the journal, and can be taken
pub kept_enabled : (p : Settings) (journal : List Entry) (c : Board) (turn : Turn) → IsKeptAfter p journal c
    → enabled_on p c turn ≡ true → enabled p (past_of p journal) turn ≡ true
kept_enabled p journal c turn h on = sym (enabled_same p (board p (past_of p journal)) c turn h) ∙ on

can_after : (p : Settings) (journal : List Entry) (c : Board) (turn : Turn) → IsRunnable p journal
    → IsKeptAfter p journal c → enabled_on p c turn ≡ true
    → CanAdvance p (board p (past_of p journal)) turn (turn_of_unit turn)
can_after p journal c turn r h on =
    ready_after p journal turn r.legal r.few.units r.short (kept_enabled p journal c turn h on)

pub kept_can : (p : Settings) (journal : List Entry) (c : Board) (turn : Turn) → IsRunnable p journal
    → IsKeptAfter p journal c → enabled_on p c turn ≡ true → CanAdvance p c turn (turn_of_unit turn)
kept_can p journal c turn r h on =
    can_advance_same p (board p (past_of p journal)) c turn h (can_after p journal c turn r h on)

-- its deed is that after the journal
pub kept_deed : (p : Settings) (journal : List Entry) (c : Board) (turn : Turn) → IsRunnable p journal
    → IsKeptAfter p journal c → enabled_on p c turn ≡ true
    → deed_on p c turn ≡ deed_on p (board p (past_of p journal)) turn
kept_deed p journal c turn r h on =
    deed_same p (board p (past_of p journal)) c turn h (can_after p journal c turn r h on)

-- and the board after it may be kept after the longer journal
pub kept_next : (p : Settings) (journal : List Entry) (c : Board) (turn : Turn) (refused : List Bool)
    → IsRunnable p journal → IsKeptAfter p journal c → enabled_on p c turn ≡ true
    → IsKeptAfter p (journal ++ entry_of turn refused ∷ []) (answered (step c turn (deed_on p c turn)) refused)
kept_next p journal c turn refused r h on =
    subst (λ b. IsForgotten p b (answered (step c turn (deed_on p c turn)) refused))
    (stands_next p journal was (answered (step was turn (deed_on p was turn)) refused) turn refused r refl
    (kept_enabled p journal c turn h on) refl)
    (forgotten-turn p was c turn refused h (can_after p journal c turn r h on))
  where
    was : Board
    was = board p (past_of p journal)
