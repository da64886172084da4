-- What a signal leaves.
use Rattle.std.proofs.Common.{◌≡◌, ℕ, ◌+◌, ◌==◌, Bool, true, false, if◌then◌else◌, refl}
use Rattle.std.proofs.Common.{Option, Some, None, ap, sym, ◌∙◌, arith}
use Rattle.run_events.specs.declared.cancel.CancelReason.{CancelReason}
use Rattle.run_events.specs.declared.cancel.CancelReason.TheVariants.{SecondSignal}
use Rattle.run_events.specs.declared.signal.Signal.{Signal}
use Rattle.run_events.specs.declared.signal.Signal.TheVariants.{Int}
use Rattle.run_model.specs.declared.dispatcher_view.DispatcherView.{DispatcherView}
use Rattle.run_model.specs.Board.{deed_events, causes_after, with_cause}
use Rattle.run_model.specs.Cancel.{Cause, cancelled_for, is_above, event_refused, time_is_up}
use Rattle.run_model.specs.Cancel.{signal_cause, first_reason, shutdown_by}
use Rattle.run_events.specs.declared.request.Request.TheVariants.{Shutdown}
use Rattle.run_events.specs.declared.request.ShutdownRequest.TheVariants.{Twice}
use Rattle.run_model.specs.Words.{is_by_signal, is_by_report, is_by_time}
use Rattle.run_model.specs.Dispatch.{moment_by}
use Rattle.run_model.specs.Rounds.{opens_round}
use Rattle.run_model.specs.Turns.{cancels_for}
use Rattle.run_dispatch.specs.Deeds.{Acts, with_seen}
use Rattle.run_dispatch.specs.declared.effects.DispatchEffects.{DispatchEffects}
use Rattle.run_dispatch.proofs.FinishLemmas.{cancel_counts, cancel_sees, no_round, noted}

-- a cause alone, which opens no round
cancelled : (now : ℕ) (d : DispatcherView) (cause : Cause) → opens_round (Some cause.request) ≡ false
    → with_seen now d (cancels_for now d cause)
    ≡ record d {
      causes = causes_after now d.rules d.causes (cancels_for now d cause);
      tally = with_cause (Some cause.reason) d.tally;
      latest = now;
    }
cancelled now d cause is =
    noted now d (cancels_for now d cause) refl refl refl refl
    (record { act = refl; answer = refl; ends = refl; seen = λ unseen. refl })
    (no_round (is_above d.tally.stats.cancel_reason cause.reason) cause.request is) refl
    (cancel_sees (moment_by now d.watch) d.rerun (cancelled_for cause.reason d.tally)
    (is_above d.tally.stats.cancel_reason cause.reason) cause.reason)
    ∙ ap
    (λ u. record d {
      causes = causes_after now d.rules d.causes (cancels_for now d cause);
      tally = with_cause (Some cause.reason) u;
      latest = now;
    })
    (cancel_counts (moment_by now d.watch) d.tally (cancelled_for cause.reason d.tally)
    (is_above d.tally.stats.cancel_reason cause.reason) cause.reason)

-- a refused event, and the end of a sub-run's time, leave this
pub refused_after : (now : ℕ) (d : DispatcherView) → with_seen now d (cancels_for now d event_refused)
    ≡ record d {
      causes = record d.causes { reported = true };
      tally = with_cause (Some event_refused.reason) d.tally;
      latest = now;
    }
refused_after now d =
    cancelled now d event_refused refl
    ∙ ap
    (λ n. record d {
      causes = record d.causes { signals = n; reported = true };
      tally = with_cause (Some event_refused.reason) d.tally;
      latest = now;
    })
    (omega arith)

pub run_out_after : (now : ℕ) (d : DispatcherView) → with_seen now d (cancels_for now d time_is_up)
    ≡ record d {
      causes = record d.causes { global = None };
      tally = with_cause (Some time_is_up.reason) d.tally;
      latest = now;
    }
run_out_after now d =
    cancelled now d time_is_up refl
    ∙ ap
    (λ n. record d {
      causes = record d.causes { signals = n; global = None };
      tally = with_cause (Some time_is_up.reason) d.tally;
      latest = now;
    })
    (omega arith)

-- a signal is one
record IsSignal (cause : Option CancelReason) : Type 0 where
  by_signal : is_by_signal cause ≡ true
  no_report : is_by_report cause ≡ false
  no_time : is_by_time cause ≡ false

first_is : (signal : Signal) → IsSignal (Some (first_reason signal))
first_is Int = record { by_signal = refl; no_report = refl; no_time = refl }
first_is signal = record { by_signal = refl; no_report = refl; no_time = refl }

either_is : (b : Bool) (first second : Cause) → IsSignal (Some first.reason) → IsSignal (Some second.reason)
    → IsSignal (Some (if b then first else second).reason)
either_is true first second f s = f
either_is false first second f s = s

signal_is : (n : ℕ) (signal : Signal) → IsSignal (Some (signal_cause n signal).reason)
signal_is n signal =
    either_is (n == 0)
    (record { reason = first_reason signal; request = Shutdown (shutdown_by signal) })
    (record { reason = SecondSignal; request = Shutdown Twice })
    (first_is signal)
    (record { by_signal = refl; no_report = refl; no_time = refl })

either_opens : (b : Bool) (first second : Cause) → opens_round (Some first.request) ≡ false
    → opens_round (Some second.request) ≡ false → opens_round (Some (if b then first else second).request) ≡ false
either_opens true first second f s = f
either_opens false first second f s = s

signal_opens : (n : ℕ) (signal : Signal) → opens_round (Some (signal_cause n signal).request) ≡ false
signal_opens n signal =
    either_opens (n == 0)
    (record { reason = first_reason signal; request = Shutdown (shutdown_by signal) })
    (record { reason = SecondSignal; request = Shutdown Twice })
    refl refl

-- a signal counts
signalled : (now : ℕ) (d : DispatcherView) (signal : Signal)
    → with_seen now d (cancels_for now d (signal_cause d.causes.signals signal))
    ≡ record d {
      causes = record d.causes { signals = d.causes.signals + 1 };
      tally = with_cause (Some (signal_cause d.causes.signals signal).reason) d.tally;
      latest = now;
    }
signalled now d signal =
    let cause = signal_cause d.causes.signals signal in
    let is : IsSignal (Some cause.reason) = signal_is d.causes.signals signal in
    cancelled now d cause (signal_opens d.causes.signals signal)
    ∙ ap (λ c. record d { causes = c; tally = with_cause (Some cause.reason) d.tally; latest = now })
    (rw (is.by_signal, is.no_report, is.no_time) refl)

-- what a call gives and leaves that heard a signal, is what its deed does
pub signal_does : (now : ℕ) (d left : DispatcherView) (signal : Signal) (cause : Cause) (fx : DispatchEffects)
    → cause ≡ signal_cause d.causes.signals signal
    → fx ≡ record {
      events = deed_events (cancels_for now d cause);
      request =
          (cancels_for now d cause).request;
      asked = None;
      go = None;
    }
    → left ≡ record d { tally = with_cause (Some cause.reason) d.tally; latest = now }
    → Acts now d (cancels_for now d (signal_cause d.causes.signals signal)) None
    (record left { causes = record left.causes { signals = left.causes.signals + 1 } }) fx
signal_does now d left signal cause fx is gives leaves =
    let all = signal_cause d.causes.signals signal in
    let gives_all : fx
    ≡ record {
      events = deed_events (cancels_for now d all);
      request =
          (cancels_for now d all).request;
      asked = None;
      go = None;
    } =
    rw is at gives in
    let leaves_all : left ≡ record d { tally = with_cause (Some all.reason) d.tally; latest = now } =
    rw is at leaves in
    record {
      told = ap (λ (fx : DispatchEffects). fx.events) gives_all;
      request = ap (λ (fx : DispatchEffects). fx.request) gives_all;
      asked = ap (λ (fx : DispatchEffects). fx.asked) gives_all;
      go = ap (λ (fx : DispatchEffects). fx.go) gives_all;
      after =
          ap
          (λ (v : DispatcherView). record v { causes = record v.causes { signals = v.causes.signals + 1 } }) leaves_all
          ∙ sym (signalled now d signal);
    }
