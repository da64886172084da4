-- The exit that comes next after a generated journal.
use Rattle.std.proofs.Common.{◌≡◌, ℕ, ◌+◌, List, true, false, Option, Some, None, option_map, option_and_then}
use Rattle.std.proofs.Common.{reverse, refl, ap, sym, ◌∙◌}
use Rattle.std.specs.Option.{option_or}
use Rattle.run_capture.specs.declared.test_output.Stream.TheVariants as streams
use Rattle.run_events.specs.declared.result.ChildExit.{ChildExit}
use Rattle.run_events.specs.declared.settings.Settings.{Settings}
use Rattle.run_events.specs.declared.turn.Turn.{Turn}
use Rattle.run_events.specs.declared.turn.Turn.TheVariants as turns
use Rattle.run_model.specs.declared.entry.Entry.{Entry}
use Rattle.run_model.specs.declared.happening.Happening.{Happening}
use Rattle.run_model.specs.declared.unit_view.UnitView.{UnitView}
use Rattle.run_model.specs.Attempts.{attempt_in, pieces_of}
use Rattle.run_model.specs.Board.{Board, board, unit_in}
use Rattle.run_model.specs.Journal.{past_of, IsLegal}
use Rattle.run_model.specs.Words.{clock, sub_run, unit_of}
use Rattle.run_state.specs.Settle.{first_enabled, settling}
use Rattle.run_laws.proofs.board.Kept.{holds, made}
use Rattle.run_laws.proofs.board.OnBoard.{unit_in-is}
use Rattle.run_generate.specs.Turns.{exit_at, last_turn, next_turn}
use Rattle.run_laws_generate.proofs.Children.{found}
use Rattle.run_laws_generate.proofs.Goes.{all_settled, first_is, is_settled}
use Rattle.run_laws_generate.proofs.Next.{Stage, at_rest, after_tick, after_end, first_in, is_asked, is_running}
use Rattle.run_laws_generate.proofs.Next.{made_by, next_by, next-is, stage_of, time_by}

-- an exit is that of the attempt at which its unit is
record IsExit (b : Board) (k : ℕ) (exit : ChildExit) : Type 0 where
  unit : UnitView
  is : unit_in b k ≡ Some unit
  exits : exit ≡ exit_at k unit.attempt

comes_so : (p : Settings) (b : Board) (stage : Stage) (k : ℕ) (exit : ChildExit)
    → next_by p b stage ≡ Some (turns.Exit k exit) → IsExit b k exit
comes_so p b after_tick k exit next = by_runs (first_in is_running b) next
  where
    by_runs : (o : Option ℕ) → option_map (λ j. turns.StreamEnd j streams.Combined) o ≡ Some (turns.Exit k exit)
        → IsExit b k exit
    by_runs None next = cc
    by_runs (Some j) next = cc
comes_so p b after_end k exit next = by_runs (first_in is_running b) refl next
  where
    exit_of : ℕ → UnitView → Turn
    exit_of j u = turns.Exit j (exit_at j u.attempt)

    by_unit : (j : ℕ) (u : UnitView) → unit_in b j ≡ Some u
        → option_map (exit_of j) (unit_in b j) ≡ Some (turns.Exit k exit) → IsExit b k exit
    by_unit j u is next =
        let same : Some (turns.Exit j (exit_at j u.attempt)) ≡ Some (turns.Exit k exit) =
        sym (ap (option_map (exit_of j)) is) ∙ next in
        let here : j ≡ k = cc in
        let exits : exit_at j u.attempt ≡ exit = cc in
        record {
          unit = u;
          is = ap (unit_in b) (sym here) ∙ is;
          exits = sym exits ∙ ap (λ i. exit_at i u.attempt) here;
        }

    by_runs : (o : Option ℕ) → first_in is_running b ≡ o
        → option_and_then (λ j. option_map (exit_of j) (unit_in b j)) o ≡ Some (turns.Exit k exit) → IsExit b k exit
    by_runs None is next = cc
    by_runs (Some j) is next = let child = found is_running b j is in by_unit j child.unit child.is next
comes_so p b at_rest k exit next = by_first (first_enabled p b (settling p 0)) refl next
  where
    by_runs : (o : Option ℕ) → option_map (λ j. turns.Clock 1000000) o ≡ Some (turns.Exit k exit) → IsExit b k exit
    by_runs None next = cc
    by_runs (Some j) next = cc

    by_asked : (o : Option ℕ)
        → option_or (option_map (λ j. turns.Started j (j + 1)) o) (time_by b) ≡ Some (turns.Exit k exit)
        → IsExit b k exit
    by_asked None next = by_runs (first_in is_running b) next
    by_asked (Some j) next = cc

    by_first : (o : Option Turn) → first_enabled p b (settling p 0) ≡ o
        → option_or o (made_by b) ≡ Some (turns.Exit k exit) → IsExit b k exit
    by_first None is next = by_asked (first_in is_asked b) next
    by_first (Some t) is next =
        let same : t ≡ turns.Exit k exit = cc in
        let never : true ≡ false =
        sym (first_is p b (settling p 0) t (all_settled p 0) is).settled ∙ ap is_settled same in
        cc

-- so after each legal journal
pub exits_so : (p : Settings) (journal : List Entry) (k : ℕ) (exit : ChildExit) → IsLegal p journal
    → next_turn p journal ≡ Some (turns.Exit k exit)
    → exit ≡ exit_at k (attempt_in (pieces_of k (sub_run (past_of p journal))))
exits_so p journal k exit legal next =
    it.exits ∙ ap (exit_at k) (made p (reverse journal) legal k it.unit on_board).attempt
  where
    past : List Happening
    past = past_of p journal

    it : IsExit (board p past) k exit
    it = comes_so p (board p past) (stage_of (last_turn journal)) k exit
        (sym (next-is p (board p past) (last_turn journal)) ∙ next)

    on_board : unit_of k (sub_run past) ≡ Some it.unit
    on_board = sym (unit_in-is p (clock past) (sub_run past) k (holds p (reverse journal) legal)) ∙ it.is
