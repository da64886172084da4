-- What is left of a run whose threads have ended.
use Rattle.std.proofs.Common.{◌≡◌, ◌⊎◌, ℕ, ◌<◌, ◌==◌, inl, inr, List, [], ◌++◌, length, map, zip, true}
use Rattle.std.proofs.Common.{Option, Some, None, IsSome, refl, ap, sym, subst, ◌∙◌, arith}
use Rattle.std.specs.Option.{IsNone}
use Rattle.std.proofs.lemmas.List.{append-nil, length-map}
use Rattle.run_capture.specs.declared.source.Failed.{Failed}
use Rattle.run_events.specs.declared.settings.Settings.{Settings}
use Rattle.run_events.specs.declared.ask.Ask.{Ask}
use Rattle.run_events.specs.declared.events.ReporterEvent.{ReporterEvent}
use Rattle.run_events.specs.declared.outcome.RunOutcome.{RunOutcome}
use Rattle.run_model.specs.declared.entry.Entry.{Entry}
use Rattle.run_model.specs.Words.{answers, asked}
use Rattle.run_model.specs.Journal.{past_of, outcome}
use Rattle.run_engine.specs.Standing.{IsRunnable}
use Rattle.run_engine.specs.World.{flagged}
use Rattle.run_shared.specs.Closed.{IsLeft}
use Rattle.run_shared.specs.Orders.{Delivers}
use Rattle.run_output.specs.Told.{HasTold, TookLines, AreCounted, event_line, event_lines, marks}
use Rattle.run_whole.specs.declared.left.Whole.{Whole}
use Rattle.run_whole.specs.Whole.{receipts_error}
use Rattle.run_cli.specs.Call.{Writing}
use Rattle.run_cli.specs.Executed.{TookEvents}
use Rattle.run_cli.specs.Text.{whole_form}
use Rattle.run_cli.proofs.ToldLines.{lines_beside, marks_beside, told_is}
use Rattle.run_whole_cli.specs.Relations.{Relations}
use Rattle.run_whole_cli.specs.Ends.{HasStopped, IsBorneOut, IsDelivered, handed_in}
use Rattle.run_whole_cli.specs.Last.{IsLeftWhole, is_stopped}
use Rattle.run_whole_cli.specs.declared.left.WholeRun.{WholeRun}

-- what is left of it beside its reporter
abbrev pub left_of : {W T O S R : Type 0} → Whole W T O S R → WholeRun W T O S
left_of x =
    record { threads = x.threads; journal = x.run.journal; receipts = x.run.receipts; error = x.error }

some_of : {X : Type 0} (o : Option X) (x : X) → o ≡ Some x → IsSome o
some_of None x e = cc
some_of (Some y) x e = refl

-- a run that takes no turn any more told and asked nothing beyond its journal
nothing_more : {R : Type 0} (tells : R → List (ReporterEvent × Option Failed) → Type 0) (report : R)
    (asks : List (ℕ × Ask)) (p : Settings) (journal : List Entry) (end : Option RunOutcome)
    → (x : IsLeft tells report asks p journal end) → HasStopped p journal → (x.extra ≡ []) × (x.sent ≡ [])
nothing_more tells report asks p journal end x (inl over) = x.whole (some_of end over.0 (x.ended ∙ over.1))
nothing_more tells report asks p journal end x (inr full) = by_room x.room
  where
    by_room : ((x.extra ≡ []) × (x.sent ≡ [])) ⊎ (length journal < 4294967295) → (x.extra ≡ []) × (x.sent ≡ [])
    by_room (inl h) = h
    by_room (inr below) = absurd (omega (arith, below, full))

pub asks_are : {R : Type 0} (tells : R → List (ReporterEvent × Option Failed) → Type 0) (report : R)
    (asks : List (ℕ × Ask)) (p : Settings) (journal : List Entry) (end : Option RunOutcome)
    → IsLeft tells report asks p journal end → HasStopped p journal → asks ≡ asked (past_of p journal)
asks_are tells report asks p journal end x stopped =
    let none = nothing_more tells report asks p journal end x stopped in
    x.asked ∙ ap (λ sent. asked (past_of p journal) ++ sent) none.1 ∙ append-nil (asked (past_of p journal))

pub flags_are : {R : Type 0} (tells : R → List (ReporterEvent × Option Failed) → Type 0) (report : R)
    (asks : List (ℕ × Ask)) (p : Settings) (journal : List Entry) (end : Option RunOutcome)
    → (x : IsLeft tells report asks p journal end) → HasStopped p journal
    → map flagged x.events ≡ answers (past_of p journal)
flags_are tells report asks p journal end x stopped =
    let none = nothing_more tells report asks p journal end x stopped in
    x.flags ∙ ap (λ extra. answers (past_of p journal) ++ extra) none.0 ∙ append-nil (answers (past_of p journal))

-- so the sink took the lines of its events
pub took_all : (p : Settings) (journal : List Entry) (w : Writing) (n : ℕ)
    (ys : List (ReporterEvent × Option Failed)) → IsRunnable p journal
    → map flagged ys ≡ answers (past_of p journal)
    → HasTold w.taken w.taken_after w.faults w.faults_after n (event_lines ys)
    → TookEvents whole_form (past_of p journal) w
took_all p journal w n ys runnable flags told =
    let events = told_is p journal ys runnable flags in record {
      events = ys;
      flags = flags;
      took = subst (TookLines w.taken w.taken_after)
          (lines_beside ys ∙ ap (λ es. zip (map event_line es) (map (λ y. y.1) ys)) events) told.took;
      counted = subst (λ bs. AreCounted bs w.faults w.faults_after)
          (ap marks (lines_beside ys) ∙ marks_beside (map event_line (map (λ y. y.0) ys)) ys
          (length-map (map (λ y. y.0) ys) event_line ∙ length-map ys (λ y. y.0))) told.counted;
    }

-- a run that is over, or whose journal is full, takes no turn any more
pub stopped_of : {R : Type 0} (tells : R → List (ReporterEvent × Option Failed) → Type 0) (report : R)
    (asks : List (ℕ × Ask)) (p : Settings) (journal : List Entry) (end : Option RunOutcome)
    → IsLeft tells report asks p journal end → is_stopped (length journal) end ≡ true → HasStopped p journal
stopped_of tells report asks p journal (Some o) x e = inl (o, sym x.ended)
stopped_of tells report asks p journal None x e = inr (full_of (length journal) e)
  where
    full_of : (n : ℕ) → (n == 4294967295) ≡ true → n ≡ 4294967295
    full_of n e = grind (arith, e)

-- its receipts are those of its journal
pub borne_out : {W T O S R : Type 0} (k : Relations W T O S)
    (tells : R → List (ReporterEvent × Option Failed) → Type 0) (p : Settings) (x : Whole W T O S R)
    → IsLeftWhole k tells p x → IsNone (receipts_error x.error) → IsBorneOut k p (left_of x)
borne_out k tells p x h calm = record {
  legal = (h.left calm).legal.legal;
  stands = h.stands calm;
  once = h.once calm;
  threads = h.threads;
}

-- and where nothing is wrong, each thing that it asked was handed on once
pub delivered : {W T O S R : Type 0} (k : Relations W T O S)
    (tells : R → List (ReporterEvent × Option Failed) → Type 0) (p : Settings) (x : Whole W T O S R)
    → IsLeftWhole k tells p x → x.error ≡ None → HasStopped p x.run.journal → IsDelivered k p (left_of x)
delivered k tells p x h none stopped =
    let calm : IsNone (receipts_error x.error) = subst (λ e. IsNone (receipts_error e)) (sym none) refl in
    let free : IsNone x.error = subst (λ e. IsNone e) (sym none) refl in record {
      borne_out = borne_out k tells p x h calm;
      no_error = free;
      delivers = subst (λ asks. Delivers asks (handed_in x.threads))
          (asks_are tells x.run.report x.run.asks p x.run.journal x.run.outcome (h.left calm) stopped)
          (h.delivers free);
    }
