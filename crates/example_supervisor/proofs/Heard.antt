-- What a ledger has heard.
use Rattle.std.proofs.Common.{◌≡◌, ◌∙◌, ℕ, List, [], ◌∷◌, ◌++◌, map, filter_map, count_by, zip, length, Option, Some}
use Rattle.std.proofs.Common.{None, option_to_list, slice_get, ◌-◌, reverse, inl, false, ◌==◌, ◌||◌, refl, sym, ap}
use Rattle.std.proofs.Common.{arith}
use Rattle.std.specs.List.{cons_option, list_any}
use Rattle.std.specs.Option.{option_map_or}
use Rattle.std.proofs.lemmas.Grind.{common_steps}
use Rattle.std.proofs.lemmas.List.{map-append, append-nil}
use Rattle.std.proofs.lemmas.List.Elements.{filter_map-append}
use Rattle.std.proofs.lemmas.List.Folds.{list_any-append}
use Rattle.std.proofs.lemmas.Slice.Zip.{firsts-zip}
use Rattle.run_events.specs.Result.{is_success}
use Rattle.run_events.specs.declared.result.ExecuteStatus.{ExecuteStatus}
use Rattle.run_events.specs.declared.events.ReporterEvent.{ReporterEvent}
use Rattle.run_events.specs.declared.ask.Ask.{Ask}
use Rattle.run_events.specs.declared.turn.Turn.{Turn}
use Rattle.run_events.specs.declared.settings.Settings.{Settings}
use Rattle.run_model.specs.declared.entry.Entry.{Entry}
use Rattle.run_model.specs.declared.happening.Happening.{Happening}
use Rattle.run_model.specs.Journal.{history, IsLegal, IsLegalBackward}
use Rattle.run_model.specs.Turns.{happening}
use Rattle.run_model.specs.Words.{answers, events_in, told}
use Rattle.run_engine.specs.Standing.{sound}
use Rattle.run_engine.specs.Settling.{Settles}
use Rattle.run_engine.specs.World.{Outside, World, entry_of, flagged, history_of}
use Rattle.run_laws_calls.specs.Counts.{finishes_told}
use Rattle.run_laws_calls.specs.Success.{has_last_passed}
use Rattle.run_laws_calls.specs.Stops.{tells_cancel}
use Rattle.example_supervisor.specs.declared.outside.Ledger.{Ledger}
use Rattle.example_supervisor.specs.declared.supervisor.Supervisor.{Supervisor}
use Rattle.example_supervisor.specs.declared.outside.Yard.{Yard}
use Rattle.example_supervisor.specs.Reported.{Grows, IsUpToDate}
use Rattle.example_supervisor.specs.Reported.{ledger_of, job_result}

-- the last of some attempts by its place
pub last_passed : (ss : List ExecuteStatus)
    → has_last_passed ss ≡ option_map_or (λ s. is_success s.result) (slice_get ss (length ss - 1)) false
last_passed [] = refl
last_passed (s ∷ ss) = let place : length (s ∷ ss) - 1 ≡ length ss = omega arith in rw place (at_end s ss)
  where
    at_end : (s : ExecuteStatus) (ss : List ExecuteStatus) → has_last_passed (s ∷ ss)
        ≡ option_map_or (λ s. is_success s.result) (slice_get (s ∷ ss) (length ss)) false
    at_end s [] = refl
    at_end s (t ∷ ss) = at_end t ss

-- the results of one more event
results-push : (es : List ReporterEvent) (e : ReporterEvent)
    → filter_map job_result (es ++ e ∷ []) ≡ filter_map job_result es ++ option_to_list (job_result e)
results-push es e =
    filter_map-append job_result es (e ∷ []) ∙ ap (λ l. filter_map job_result es ++ l) (alone (job_result e))
  where
    alone : {X : Type 0} (o : Option X) → cons_option o [] ≡ option_to_list o
    alone None = refl
    alone (Some x) = refl

-- whether one of one more event tells that the run is cancelled
cancels-push : (es : List ReporterEvent) (e : ReporterEvent)
    → list_any tells_cancel (es ++ e ∷ []) ≡ (list_any tells_cancel es || tells_cancel e)
cancels-push es e =
    let alone : list_any tells_cancel (e ∷ []) ≡ tells_cancel e = grind (arith, common_steps) in
    list_any-append tells_cancel es (e ∷ []) ∙ ap (λ b. list_any tells_cancel es || b) alone

-- a ledger that was told a list and then one more event
pub heard_more : {E : Type 0} (old new : Ledger) (e : ReporterEvent) (a : Option E)
    → new.results ≡ old.results ++ option_to_list (job_result e) → new.cancelled ≡ (old.cancelled || tells_cancel e)
    → (xs : List (ReporterEvent × Option E)) → old ≡ ledger_of (map (λ x. x.0) xs)
    → new ≡ ledger_of (map (λ x. x.0) (xs ++ (e, a) ∷ []))
heard_more old new e a results cancelled xs h =
    let es : List ReporterEvent = map (λ x. x.0) xs in
    let one : new ≡ ledger_of (es ++ e ∷ []) =
    rw (
      results-push es e,
      cancels-push es e,
      sym (ap (λ l. l.results) h),
      sym (ap (λ l. l.cancelled) h),
      sym results,
      sym cancelled,
    ) refl in
    one ∙ ap ledger_of (sym (map-append (λ x. x.0) xs ((e, a) ∷ [])))

-- the results that events tell of a job are as many as its finishes
results_one : (k : ℕ) (e : ReporterEvent) (es : List ReporterEvent)
    → count_by (λ r. r.job == k) (filter_map job_result es) ≡ finishes_told k es
    → count_by (λ r. r.job == k) (filter_map job_result (e ∷ es)) ≡ finishes_told k (e ∷ es)
results_one k e es h = grind (arith, common_steps)

pub results-finishes : (k : ℕ) (es : List ReporterEvent)
    → count_by (λ r. r.job == k) (filter_map job_result es) ≡ finishes_told k es
results-finishes k [] = refl
results-finishes k (e ∷ es) = results_one k e es (results-finishes k es)

-- the answers of a legal journal are to the events that it told
answers-told : (p : Settings) (backward : List Entry) → IsLegalBackward p backward
    → map (λ x. x.0) (answers (history p backward)) ≡ told (history p backward)
answers-told p [] legal = refl
answers-told p (e ∷ before) legal =
    let x : Happening = happening p (history p before) e in
    map-append (λ x. x.0) (answers (history p before)) (zip (events_in x) x.refused)
    ∙ ap (λ es. es ++ map (λ x. x.0) (zip (events_in x) x.refused)) (answers-told p before legal.2)
    ∙ ap (λ es. told (history p before) ++ es) (firsts-zip (events_in x) e.refused legal.1)

-- the marks of events leave the events
firsts-flagged : {E : Type 0} (ys : List (ReporterEvent × Option E))
    → map (λ x. x.0) (map flagged ys) ≡ map (λ y. y.0) ys
firsts-flagged [] = refl
firsts-flagged (y ∷ ys) = ap (λ zs. y.0 ∷ zs) (firsts-flagged ys)

-- the ledger of a run that isn't broken is that of the events that it told
pub told_is : (s : Supervisor) → IsUpToDate s → s.run.broken ≡ false → IsLegal s.run.settings s.run.journal
    → s.ledger ≡ ledger_of (told (history_of s.run))
told_is s h sound legal =
    h.told ∙ ap ledger_of (sym (firsts-flagged h.events) ∙ ap (map (λ x. x.0))
    (h.flags ∙ ap (λ es. answers (history_of s.run) ++ es) (h.whole sound).0 ∙ append-nil (answers (history_of s.run)))
    ∙ answers-told s.run.settings (reverse s.run.journal) legal)

-- a ledger that was told nothing is up to date with a run that has taken no turn
pub at_first : (run : World) (ledger : Ledger) (yard : Yard) (p : Settings) → run ≡ sound p [] → ledger ≡ ledger_of []
    → IsUpToDate (record { run = run; ledger = ledger; yard = yard })
at_first run ledger yard p fresh empty = record {
  events = [];
  told = empty;
  extra = [];
  sent = [];
  flags = sym (ap (λ w. answers (history_of w) ++ []) fresh);
  asked = tt;
  part = inl (refl, refl);
  whole = λ e. (refl, refl);
  room = inl (refl, refl);
}

-- a run that takes a turn by itself, or none, still differs in its journal alone
pub settles_more : {R E C : Type 0} (tells : R → List (ReporterEvent × Option E) → Type 0)
    (asks : C → List (ℕ × Ask) → Type 0) (o : Outside R C) (old new : World) (turn : Option Turn) (begun : World)
    → Grows begun old → Settles tells asks o old new turn → Grows begun new
settles_more tells asks o old new None begun grown settles = rw settles.0 grown
settles_more tells asks o old new (Some turn) begun grown settles =
    let all : List Entry = old.journal ++ entry_of turn settles.1.refused ∷ [] in
    rw settles.1.grown (ap (λ (w : World). record w { journal = all }) grown)
