-- Where a test stands by what was told, after one more event.
use Rattle.std.proofs.Common.{◌≡◌, ℕ, ◌==◌, ◌&&◌, ◌||◌, List, [], ◌∷◌, ◌++◌, Bool, true, false, not, if◌then◌else◌}
use Rattle.std.proofs.Common.{Option, Some, None, refl, ap, sym, ◌∙◌, arith}
use Rattle.std.specs.Option.{option_or}
use Rattle.std.specs.List.{list_any}
use Rattle.std.proofs.lemmas.List.{append-nil}
use Rattle.std.proofs.lemmas.List.Folds.{list_any-append}
use Rattle.std.proofs.lemmas.Grind.{common_steps}
use Rattle.run_events.specs.declared.plan.TestSlotAssignment.{TestSlotAssignment}
use Rattle.run_events.specs.declared.events.ReporterEvent.{ReporterEvent}
use Rattle.run_events.specs.declared.message.TestStart.{TestStart}
use Rattle.run_events.specs.declared.message.TestFinish.{TestFinish}
use Rattle.run_model.specs.declared.dispatcher_view.Tally.{Tally}
use Rattle.run_model.specs.Words.{starts, finishes, is_running}
use Rattle.run_model.specs.Dispatch.{Moment, event, started_event, finished_event}
use Rattle.run_model.specs.Accounts.{account_of}
use Rattle.run_admission.specs.declared.seat.Seat.TheVariants.{Gone}
use Rattle.run_laws.specs.Limits.{slots_by, slots_told, seat_in, seat_told}
use Rattle.run_laws.proofs.told.Running.{is_start, is_finish, starts-account, finishes-account, running-other}
use Rattle.run_laws.proofs.told.StartLemmas.{slots_other}

-- the slots told by events and later ones are those of the events, else of the later ones
pub slots_told-append : (k : ℕ) (es fs : List ReporterEvent)
    → slots_told k (es ++ fs) ≡ option_or (slots_told k es) (slots_told k fs)
slots_told-append k [] fs = refl
slots_told-append k (e ∷ es) fs = by_first (slots_by k e) (slots_told-append k es fs)
  where
    by_first : (o : Option TestSlotAssignment)
        → slots_told k (es ++ fs) ≡ option_or (slots_told k es) (slots_told k fs)
        → option_or o (slots_told k (es ++ fs)) ≡ option_or (option_or o (slots_told k es)) (slots_told k fs)
    by_first None rest = rest
    by_first (Some slots) rest = refl

-- events of which none starts a test tell no slots of it
pub none_told : (k : ℕ) (es : List ReporterEvent) → list_any (starts k) es ≡ false → slots_told k es ≡ None
none_told k [] h = refl
none_told k (e ∷ es) h = by_first (starts k e) refl (none_told k es) h
  where
    by_first : (b : Bool) → starts k e ≡ b → (list_any (starts k) es ≡ false → slots_told k es ≡ None)
        → (b || list_any (starts k) es) ≡ false → option_or (slots_by k e) (slots_told k es) ≡ None
    by_first true is rest h = cc
    by_first false is rest h = ap (λ o. option_or o (slots_told k es)) (slots_other k e is) ∙ rest h

-- what tells neither a start nor a finish of a test leaves its seat
pub seat_told-other : (k : ℕ) (es : List ReporterEvent) (e : ReporterEvent) → starts k e ≡ false
    → finishes k e ≡ false → seat_told (es ++ e ∷ []) k ≡ seat_told es k
seat_told-other k es e s f =
    ap (λ b. if b then seat_in (slots_told k (es ++ e ∷ [])) else Gone) (running-other k es e s f)
    ∙ ap (λ o. if is_running es k then seat_in o else Gone)
    (slots_told-append k es (e ∷ []) ∙ ap (λ o. option_or (slots_told k es) (option_or o None)) (slots_other k e s)
    ∙ with_none (slots_told k es))
  where
    with_none : (o : Option TestSlotAssignment) → option_or o None ≡ o
    with_none None = refl
    with_none (Some slots) = refl

-- no event more leaves each seat
pub seat_told-nothing : (k : ℕ) (es : List ReporterEvent) → seat_told (es ++ []) k ≡ seat_told es k
seat_told-nothing k es = ap (λ es. seat_told es k) (append-nil es)

-- after its start was told, a test of which nothing was told before is in use in its slots; other seats stay
pub seat_told-started : (k : ℕ) (moment : Moment) (es : List ReporterEvent) (start : TestStart) (tally : Tally)
    → account_of start.test.unit es ≡ []
    → seat_told (es ++ event moment (started_event start tally) ∷ []) k
    ≡ (if start.test.unit == k then seat_in (Some start.slot) else seat_told es k)
seat_told-started k moment es start tally none = by_unit (start.test.unit == k) refl
  where
    by_unit : (b : Bool) → (start.test.unit == k) ≡ b
        → seat_told (es ++ event moment (started_event start tally) ∷ []) k
        ≡ (if b then seat_in (Some start.slot) else seat_told es k)
    by_unit true is =
        let same : start.test.unit ≡ k = grind arith in
        let no_start : list_any (starts k) es ≡ false =
        starts-account k es ∙ ap (λ k. list_any is_start (account_of k es)) (sym same) ∙ ap (list_any is_start) none in
        let no_finish : list_any (finishes k) es ≡ false =
        finishes-account k es ∙ ap (λ k. list_any is_finish (account_of k es)) (sym same)
        ∙ ap (list_any is_finish) none in
        let runs : is_running (es ++ event moment (started_event start tally) ∷ []) k ≡ true =
        simp (list_any-append, no_start, no_finish, is) refl in
        let slots : slots_told k (es ++ event moment (started_event start tally) ∷ []) ≡ Some start.slot =
        slots_told-append k es (event moment (started_event start tally) ∷ [])
        ∙ ap (λ o. option_or o (slots_told k (event moment (started_event start tally) ∷ []))) (none_told k es no_start)
        ∙ ap (λ b. option_or (if b then Some start.slot else None) None) is in
        ap (λ b. if b then seat_in (slots_told k (es ++ event moment (started_event start tally) ∷ [])) else Gone) runs
        ∙ ap seat_in slots
    by_unit false is = seat_told-other k es (event moment (started_event start tally)) is refl

-- after its finish was told, a unit is not in use
pub finished_gone : (k : ℕ) (es : List ReporterEvent) (e : ReporterEvent) → finishes k e ≡ true
    → seat_told (es ++ e ∷ []) k ≡ Gone
finished_gone k es e is =
    let ends : list_any (finishes k) (es ++ e ∷ []) ≡ true =
    list_any-append (finishes k) es (e ∷ []) ∙ ap (λ b. list_any (finishes k) es || (b || false)) is
    ∙ or_true (list_any (finishes k) es) in
    let stopped : is_running (es ++ e ∷ []) k ≡ false =
    ap (λ b. list_any (starts k) (es ++ e ∷ []) && not b) ends ∙ and_false (list_any (starts k) (es ++ e ∷ [])) in
    ap (λ b. if b then seat_in (slots_told k (es ++ e ∷ [])) else Gone) stopped
  where
    or_true : (b : Bool) → (b || true) ≡ true
    or_true true = refl
    or_true false = refl

    and_false : (b : Bool) → (b && false) ≡ false
    and_false true = refl
    and_false false = refl

-- the same of a test; other seats stay
pub seat_told-finished : (k : ℕ) (moment : Moment) (es : List ReporterEvent) (finish : TestFinish) (tally : Tally)
    → seat_told (es ++ event moment (finished_event finish tally) ∷ []) k
    ≡ (if finish.test.unit == k then Gone else seat_told es k)
seat_told-finished k moment es finish tally = by_unit (finish.test.unit == k) refl
  where
    by_unit : (b : Bool) → (finish.test.unit == k) ≡ b
        → seat_told (es ++ event moment (finished_event finish tally) ∷ []) k ≡ (if b then Gone else seat_told es k)
    by_unit true is = finished_gone k es (event moment (finished_event finish tally)) is
    by_unit false is = seat_told-other k es (event moment (finished_event finish tally)) refl is
