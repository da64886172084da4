-- The delays before further attempts, by a unit's own turns, and as they are told with the attempts that failed.
use Rattle.std.specs.Prelude.{ℕ, ◌≡◌, ◌+◌, ◌==◌, List, [], ◌∷◌, ◌++◌, length, if◌then◌else◌, Option, Some, None}
use Rattle.std.specs.Prelude.{option_to_list}
use Rattle.std.specs.Prelude.{filter_map}
use Rattle.run_events.specs.declared.settings.Settings.{Settings}
use Rattle.run_events.specs.declared.message.Message.{Message}
use Rattle.run_events.specs.declared.message.Message.TheVariants.{AttemptFailed}
use Rattle.run_events.specs.declared.events.ReporterEvent.{ReporterEvent}
use Rattle.run_events.specs.declared.events.ReporterEvent.TheVariants.{Test}
use Rattle.run_events.specs.declared.events.TestEventKind.{TestEventKind}
use Rattle.run_events.specs.declared.events.TestEventKind.TheVariants.{TestAttemptFailedWillRetry}
use Rattle.run_model.specs.declared.entry.Entry.{Entry}
use Rattle.run_model.specs.declared.happening.Happening.{Happening}
use Rattle.run_model.specs.declared.unit_view.AttemptTerms.{AttemptTerms}
use Rattle.run_model.specs.Admission.{unit_terms}
use Rattle.run_model.specs.Attempts.{delay_after, is_retried, pieces_of}
use Rattle.run_model.specs.Journal.{IsLegal, past_of}
use Rattle.run_model.specs.Story.{Attempt, cut}
use Rattle.run_model.specs.Words.{queue, sub_run, told}

-- the delay after the newest of some attempts, where it is decided that it is tried again; and those after all of them,
-- in order
abbrev pub delay_next : AttemptTerms → List Attempt → Option ℕ
delay_next terms [] = None
delay_next terms (cut piece [] ∷ earlier) = None
delay_next terms (cut piece (d ∷ after) ∷ earlier) =
    if is_retried terms (length earlier + 1) piece
    then Some (delay_after terms.retries (cut piece (d ∷ after) ∷ earlier))
    else None

abbrev pub delays_by : AttemptTerms → List Attempt → List ℕ
delays_by terms [] = []
delays_by terms (a ∷ earlier) = delays_by terms earlier ++ option_to_list (delay_next terms (a ∷ earlier))

-- the delay of unit k that a message tells, if it tells one, and all that wait
abbrev pub delay_in : ℕ → Message → Option ℕ
delay_in k (AttemptFailed failure) = if failure.test.unit == k then Some failure.delay_next else None
delay_in k _ = None

abbrev pub delays_waiting : ℕ → List Message → List ℕ
delays_waiting k messages = filter_map (delay_in k) messages

-- the delay of unit k that an event tells, if it tells one, and all that were told
abbrev pub delay_of_kind : ℕ → TestEventKind → Option ℕ
delay_of_kind k (TestAttemptFailedWillRetry event) = delay_in k (AttemptFailed event.failed)
delay_of_kind k _ = None

abbrev pub delay_told : ℕ → ReporterEvent → Option ℕ
delay_told k (Test event) = delay_of_kind k event.kind
delay_told k _ = None

abbrev pub delays_told : ℕ → List ReporterEvent → List ℕ
delays_told k events = filter_map (delay_told k) events

-- the delays that were told with the failed attempts of a unit, followed by those that wait to be told, are those of
-- its own turns: those that the statuses of its further attempts have
abbrev pub AreDelaysOwn : Settings → List Happening → ℕ → Type 0
AreDelaysOwn p run k =
    delays_told k (told run) ++ delays_waiting k (queue run) ≡ delays_by (unit_terms p k) (pieces_of k run)

-- after every legal journal that holds of each unit in the newest sub-run
abbrev pub DelaysAreOwnTurns : Type 0
DelaysAreOwnTurns = (p : Settings) (journal : List Entry) → IsLegal p journal → (k : ℕ)
    → AreDelaysOwn p (sub_run (past_of p journal)) k
