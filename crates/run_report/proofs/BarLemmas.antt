-- What a sink takes that erases a bar, and what the display of a bar has heard after one event more.
use Rattle.std.proofs.Common.{◌≡◌, ℕ, suc, arith, Bool, true, false, List, [], ◌∷◌, ◌++◌}
use Rattle.std.proofs.Common.{refl, sym, ap, ◌∙◌, subst, append-nil}
use Rattle.std.specs.Prelude.{◌+◌, if◌then◌else◌, is_err, IfSome, OnOk, Option, None, Some, Result, Ok, Err}
use Rattle.std.specs.List.{filter_map}
use Rattle.std.proofs.lemmas.List.Elements.{filter_map-append}
use Rattle.run_capture.specs.Bytes.{Takes}
use Rattle.run_capture.proofs.BytesLemmas.{takes_both}
use Rattle.run_events.specs.declared.events.ReporterEvent.{ReporterEvent}
use Rattle.run_events.specs.declared.events.ReporterEvent.TheVariants.{Tick, Test}
use Rattle.run_events.specs.declared.events.TestEvent.{TestEvent}
use Rattle.run_progress.specs.declared.lines.Showing.{Showing}
use Rattle.run_progress.specs.declared.max_running.MaxProgressRunning.{MaxProgressRunning}
use Rattle.run_progress.specs.declared.seen.Seen.{Seen}
use Rattle.run_progress.specs.Lines.{shown_after}
use Rattle.run_progress.specs.Progress.{Progress, StandsFor, Hears}
use Rattle.run_progress.specs.Seen.{seen_of, shows_tests}
use Rattle.run_report.specs.Bar.{clear, clear_above, clears_above, erased, test_event, HasSeen}
use Rattle.run_report.proofs.SpeaksLemmas.{takes_nil}

-- one line more
pub clears_more : (before between now : Option (List ℕ)) (n : ℕ) → Takes before between (clears_above n)
    → Takes between now clear_above → Takes before now (clears_above (n + 1))
clears_more before between now n first second =
    let next : n + 1 ≡ suc n = omega arith in
    rw next (takes_both before between now (clears_above n) clear_above first second)

pub clears_none : (now : Option (List ℕ)) → Takes now now (clears_above 0)
clears_none now = takes_nil now

-- a bar, or none
pub erases_none : (now : Option (List ℕ)) → Takes now now (erased None)
erases_none now = takes_nil now

pub erases_some : (before between now : Option (List ℕ)) (feeds : ℕ) → Takes before between clear
    → Takes between now (clears_above feeds) → Takes before now (erased (Some feeds))
erases_some before between now feeds first second =
    takes_both before between now clear (clears_above feeds) first second

-- and what stands there then
pub erases_before : (before between now : Option (List ℕ)) (bar : Option ℕ) (bytes : List ℕ)
    → Takes before between (erased bar) → Takes between now bytes → Takes before now (erased bar ++ bytes)
erases_before before between now bar bytes first second =
    takes_both before between now (erased bar) bytes first second

-- what is so after Ok is so where there is no error
pub of_no_error : {T E P : Type 0} (r : Result T E) → OnOk r P → is_err r ≡ false → P
of_no_error (Ok _) holds no_error = holds
of_no_error (Err _) holds e = cc

-- what is so of the one that stands there
pub if_some_is : {X : Type 0} (o : Option X) (x : X) (P : X → Type 0) → o ≡ Some x → P x → IfSome o P
if_some_is o x P same holds = rw same holds

pub seen_nothing : (p : Progress) → StandsFor [] p → HasSeen [] p
seen_nothing p s = s

-- it shows as many running tests as before
max_of : (b : Bool) (x y : Showing) (m : MaxProgressRunning) → x.max ≡ m → y.max ≡ m
    → (if b then x else y).max ≡ m
max_of true x y m e f = e
max_of false x y m e f = f

shown_max : (showing : Showing) (seen : Seen) (now width : ℕ) → (shown_after showing seen now width).max ≡ showing.max
unfolding shown_after
shown_max showing seen now width = max_of (shows_tests showing.max) _ _ _ refl refl

-- it was drawn
pub seen_kept : (old new : Progress) (now width : ℕ)
    → new ≡ record old { showing = shown_after old.showing old.seen now width }
    → (events : List ReporterEvent) → HasSeen events old → HasSeen events new
seen_kept old new now width same events has =
    subst (HasSeen events) (sym same) (record {
      seen_is = has.seen_is ∙ ap (λ (m : MaxProgressRunning). seen_of m (filter_map test_event events))
          (sym (shown_max old.showing old.seen now width));
    })

-- it heard an event more, or a tick
pub seen_event : (old new : Progress) (event : TestEvent) → Hears old new event
    → (events : List ReporterEvent) → HasSeen events old → HasSeen (events ++ Test event ∷ []) new
seen_event old new event hears events has =
    subst (λ (es : List TestEvent). StandsFor es new) (sym (filter_map-append test_event events (Test event ∷ [])))
    (hears.told (filter_map test_event events) has)

pub seen_tick : (new : Progress) (events : List ReporterEvent) → HasSeen events new → HasSeen (events ++ Tick ∷ []) new
seen_tick new events has =
    subst (λ (es : List TestEvent). StandsFor es new)
    (sym (filter_map-append test_event events (Tick ∷ []) ∙ append-nil (filter_map test_event events))) has
