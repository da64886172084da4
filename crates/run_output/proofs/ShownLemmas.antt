-- One more event that a reporter of progress was told.
use Rattle.std.proofs.Common.{◌≡◌, refl, sym, ap, subst, ◌∙◌, arith, ℕ, suc, List, [], ◌∷◌, ◌++◌, length, zip, Option}
use Rattle.std.proofs.Common.{is_some}
use Rattle.std.proofs.lemmas.List.{map-append, length-map}
use Rattle.run_capture.specs.Bytes.{Takes}
use Rattle.run_capture.specs.Faults.{RoseExactlyIf}
use Rattle.run_events.specs.declared.events.ReporterEvent.{ReporterEvent}
use Rattle.run_output.specs.Told.{IsWritten, HasTold}
use Rattle.run_output.specs.Shown.{Screen, line_in, lines_in, screen_after, screen_after_all, IsScreen, HasShown}
use Rattle.run_output.specs.Shown.{shown_lines}
use Rattle.run_output.specs.Shown.{events_of, answer_errors, is_hidden_in, seen_in, now_in, shown_in, after_tick}
use Rattle.run_output.specs.Shown.{next_tick}
use Rattle.run_output.specs.Fields.{line_bytes}
use Rattle.run_events.specs.declared.events.ReporterEvent.TheVariants.{Tick}
use Rattle.run_progress.specs.declared.lines.Showing.{Showing}
use Rattle.run_progress.specs.declared.seen.Seen.{Seen}
use Rattle.run_progress.specs.Lines.{tick_of, shown_after, test_lines}
use Rattle.run_progress.specs.Seen.{seen_of, shows_tests}
use Rattle.std.proofs.Common.{Bool, true, false, if◌then◌else◌, unwrap_or, slice_get, max}
use Rattle.run_capture.proofs.Facts.{zip-push}
use Rattle.run_output.specs.declared.watcher.Watcher.{Watcher}
use Rattle.run_output.proofs.ToldLemmas.{told_more}

-- its line comes last
lines_in-more : (w : Screen) (events : List ReporterEvent) (event : ReporterEvent)
    → lines_in w (events ++ event ∷ []) ≡ lines_in w events ++ line_in (screen_after_all w events) event ∷ []
lines_in-more w [] event = refl
lines_in-more w (x ∷ events) event =
    ap (λ lines. line_in w x ∷ lines) (lines_in-more (screen_after w x) events event)

screen_after-more : (w : Screen) (events : List ReporterEvent) (event : ReporterEvent)
    → screen_after_all w (events ++ event ∷ []) ≡ screen_after (screen_after_all w events) event
screen_after-more w [] event = refl
screen_after-more w (x ∷ events) event = screen_after-more (screen_after w x) events event

-- there is a line for each event
pub length-lines_in : (w : Screen) (events : List ReporterEvent) → length (lines_in w events) ≡ length events
length-lines_in w [] = refl
length-lines_in w (x ∷ events) = ap (λ n. suc n) (length-lines_in (screen_after w x) events)

-- two lists side by side, and one more item of each
events-more : {E : Type 0} (answers : List (ReporterEvent × Option E)) (event : ReporterEvent) (error : Option E)
    → events_of (answers ++ (event, error) ∷ []) ≡ events_of answers ++ event ∷ []
events-more answers event error = map-append (λ answer. answer.0) answers ((event, error) ∷ [])

errors-more : {E : Type 0} (answers : List (ReporterEvent × Option E)) (event : ReporterEvent) (error : Option E)
    → answer_errors (answers ++ (event, error) ∷ []) ≡ answer_errors answers ++ error ∷ []
errors-more answers event error = map-append (λ answer. answer.1) answers ((event, error) ∷ [])

lines-more : {E : Type 0} (w : Screen) (answers : List (ReporterEvent × Option E)) (event : ReporterEvent)
    (error : Option E) → shown_lines w (answers ++ (event, error) ∷ [])
    ≡ shown_lines w answers ++ (line_in (screen_after_all w (events_of answers)) event, error) ∷ []
lines-more w answers event error =
    ap (λ events. zip (lines_in w events) (answer_errors (answers ++ (event, error) ∷ [])))
    (events-more answers event error)
    ∙ ap (λ errors. zip (lines_in w (events_of answers ++ event ∷ [])) errors) (errors-more answers event error)
    ∙ ap (λ lines. zip lines (answer_errors answers ++ error ∷ [])) (lines_in-more w (events_of answers) event)
    ∙ zip-push (lines_in w (events_of answers)) (answer_errors answers)
    (line_in (screen_after_all w (events_of answers)) event) error
    (length-lines_in w (events_of answers) ∙ length-map answers (λ answer. answer.0)
    ∙ sym (length-map answers (λ answer. answer.1)))

-- a reporter that has shown some events, and one more whose line the sink took
pub shown_more : {E : Type 0} (start : Screen) (r s : Watcher) (before between now : Option (List ℕ)) (f g h m n : ℕ)
    (xs : List (ReporterEvent × Option E)) (event : ReporterEvent) (error : Option E) (line bytes : List ℕ)
    → ((w : Screen) → IsScreen r w → (line ≡ line_in w event) × IsScreen s (screen_after w event))
    → IsWritten line error bytes → Takes between now bytes
    → RoseExactlyIf (is_some error) g h → RoseExactlyIf (is_some error) m n
    → HasShown start r before between f g m xs → HasShown start s before now f h n (xs ++ (event, error) ∷ [])
shown_more start r s before between now f g h m n xs event error line bytes heard written taken sinks own told =
    let w = screen_after_all start (events_of xs) in
    let one = heard w told.screen in
    record {
      written = subst (HasTold before now f h n) (sym (lines-more start xs event error))
          (told_more before between now f g h m n (shown_lines start xs) (line_in w event) error bytes
          (subst (λ l. IsWritten l error bytes) one.0 written) taken sinks own told.written);
      screen = subst (IsScreen s) (sym (ap (screen_after_all start) (events-more xs event error)
          ∙ screen_after-more start (events_of xs) event)) one.1;
    }

-- a display that is hidden
pub text_hidden : (r : Watcher) (w : Screen) → IsScreen r w → is_hidden_in w ≡ true
    → ([] ≡ line_in w Tick) × IsScreen r (shown_in w)
text_hidden r w is hidden = (
  ap (λ b. if b then [] else line_bytes (tick_of w.showing (seen_in w) (now_in w) w.width)) (sym hidden),
  record {
    width = is.width;
    showing = is.showing
        ∙ ap (λ b. if b then w.showing else shown_after w.showing (seen_in w) (now_in w) w.width) (sym hidden);
    stands = is.stands;
    clocks = is.clocks;
    ticks = is.ticks;
  },
)

-- a text leaves the greatest number of running tests as it was
max_kept : (showing : Showing) (seen : Seen) (now width : ℕ) → (shown_after showing seen now width).max ≡ showing.max
unfolding shown_after
max_kept showing seen now width = by_max (shows_tests showing.max)
  where
    by_max : (b : Bool) → (if b
        then record showing { most_lines = max showing.most_lines (length (test_lines showing now width seen.tests)) }
        else showing).max ≡ showing.max
    by_max true = refl
    by_max false = refl

-- and one that isn't
pub text_shown : (r s : Watcher) (w : Screen) (now : ℕ) (line : List ℕ) → IsScreen r w → is_hidden_in w ≡ false
    → now ≡ unwrap_or (slice_get r.clocks r.ticks) 0
    → line ≡ tick_of r.state.showing r.state.seen now r.width ++ 10 ∷ []
    → s ≡ record r { state = record r.state { showing = shown_after r.state.showing r.state.seen now r.width } }
    → (line ≡ line_in w Tick) × IsScreen s (shown_in w)
text_shown r s w now line is shown at text left =
    let seen : r.state.seen ≡ seen_in w =
    is.stands.seen_is ∙ ap (λ (showing : Showing). seen_of showing.max w.told) is.showing in
    let here : now ≡ now_in w =
    at ∙ ap (λ clocks. unwrap_or (slice_get clocks r.ticks) 0) is.clocks
    ∙ ap (λ n. unwrap_or (slice_get w.clocks n) 0) is.ticks in
    let as_told : (A : Type 0) → (f : Showing → Seen → ℕ → ℕ → A)
    → f r.state.showing r.state.seen now r.width ≡ f w.showing (seen_in w) (now_in w) w.width =
    λ A f. ap (λ a. f a r.state.seen now r.width) is.showing ∙ ap (λ a. f w.showing a now r.width) seen
    ∙ ap (λ a. f w.showing (seen_in w) a r.width) here ∙ ap (λ a. f w.showing (seen_in w) (now_in w) a) is.width in (
      text ∙ ap (λ text. text ++ 10 ∷ []) (as_told (List ℕ) tick_of)
          ∙ ap (λ b. if b then [] else line_bytes (tick_of w.showing (seen_in w) (now_in w) w.width)) (sym shown),
      subst (λ s. IsScreen s (shown_in w)) (sym left) (record {
        width = is.width;
        showing = as_told Showing shown_after
            ∙ ap (λ b. if b then w.showing else shown_after w.showing (seen_in w) (now_in w) w.width) (sym shown);
        stands = record {
          seen_is = is.stands.seen_is
              ∙ ap (λ max. seen_of max w.told) (sym (max_kept r.state.showing r.state.seen now r.width));
        };
        clocks = is.clocks;
        ticks = is.ticks;
      }),
    )

-- one more tick came
pub tick_passed : (r : Watcher) (w : Screen) (n : ℕ) → IsScreen r (shown_in w) → n ≡ next_tick r.clocks r.ticks
    → IsScreen (record r { ticks = n }) (after_tick w)
tick_passed r w n is next = record {
  width = is.width;
  showing = is.showing;
  stands = record { seen_is = is.stands.seen_is };
  clocks = is.clocks;
  ticks = next ∙ ap (λ clocks. next_tick clocks r.ticks) is.clocks ∙ ap (next_tick w.clocks) is.ticks;
}
