-- Which units a request reaches, by their own turns.
use Rattle.std.specs.Prelude.{ℕ, ◌≡◌, ◌+◌, List, [], ◌∷◌, ◌++◌, length, Bool, true, false, ◌&&◌, not, if◌then◌else◌}
use Rattle.std.specs.Prelude.{drop, Some, option_map, option_to_list}
use Rattle.run_events.specs.declared.request.Request.{Request}
use Rattle.run_events.specs.declared.settings.Settings.{Settings}
use Rattle.run_model.specs.declared.entry.Entry.{Entry}
use Rattle.run_model.specs.declared.happening.Happening.{Happening}
use Rattle.run_model.specs.declared.unit_view.AttemptTerms.{AttemptTerms}
use Rattle.run_model.specs.Admission.{unit_terms}
use Rattle.run_model.specs.Attempts.{is_retried, pieces_of}
use Rattle.run_model.specs.Journal.{IsLegal, past_of}
use Rattle.run_model.specs.Story.{Attempt, cut, broadcast_to, is_live_unit, taken_by, was_left}
use Rattle.run_model.specs.Words.{sub_run, unit_of}

-- whether an attempt was let go
abbrev pub was_let_go : List Attempt → Bool
was_let_go [] = false
was_let_go (a ∷ earlier) = true

-- whether it was decided of the newest one that it isn't tried again
abbrev pub is_finished : AttemptTerms → List Attempt → Bool
is_finished terms [] = false
is_finished terms (cut piece [] ∷ earlier) = false
is_finished terms (cut piece (d ∷ after) ∷ earlier) = not (is_retried terms (length earlier + 1) piece)

-- unit k is live by its own turns in a sub-run: it was let go, and has neither finished nor been left since
abbrev pub is_live_by : Settings → ℕ → List Happening → Bool
is_live_by p k run =
    was_let_go (pieces_of k run) && not (is_finished (unit_terms p k) (pieces_of k run)) && not (was_left k run)

-- the requests that were broadcast while it was so, the oldest first: that of a turn comes after the turn's own part
abbrev pub broadcast_by : Settings → ℕ → List Happening → List Request
broadcast_by p k [] = []
broadcast_by p k (x ∷ run) = broadcast_by p k run ++ (if is_live_by p k (x ∷ run) then option_to_list x.request else [])

-- a unit is live by the table exactly where it is so by its own turns; what was broadcast to it by the table is what
-- was broadcast while it was so; and while it is, all of that waits in its line, but for as many requests as it took
pub record IsReached (p : Settings) (run : List Happening) (k : ℕ) : Type 0 where
  pub live : is_live_unit (unit_of k run) ≡ is_live_by p k run
  pub broadcast : broadcast_to k run ≡ broadcast_by p k run
  pub line : is_live_by p k run ≡ true
      → option_map (λ u. u.line) (unit_of k run) ≡ Some (drop (taken_by k run) (broadcast_by p k run))

-- that holds of each unit in the newest sub-run after every legal journal
abbrev pub RequestsReachTheLive : Type 0
RequestsReachTheLive = (p : Settings) (journal : List Entry) → IsLegal p journal → (k : ℕ)
    → IsReached p (sub_run (past_of p journal)) k
