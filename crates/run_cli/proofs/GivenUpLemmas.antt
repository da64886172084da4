-- What the sink took of a run of workers that isn't over, as far as it came.
use Rattle.std.proofs.Common.{◌≡◌, ◌⊎◌, ◌<◌, ℕ, zero, suc, inl, inr, List, [], ◌∷◌, ◌++◌, length, map, take, slice_get}
use Rattle.std.proofs.Common.{Bool, Option, Some, None, is_some, Err, refl, ap, sym, subst, ◌∙◌, arith}
use Rattle.std.proofs.lemmas.List.{append-nil}
use Rattle.std.specs.Prelude.{IfSome, IsSomeAnd, IsSome}
use Rattle.run_capture.specs.declared.source.Failed.{Failed}
use Rattle.run_events.specs.declared.settings.Settings.{Settings}
use Rattle.run_events.specs.declared.turn.Turn.{Turn}
use Rattle.run_events.specs.declared.ask.Ask.{Ask}
use Rattle.run_events.specs.declared.events.ReporterEvent.{ReporterEvent}
use Rattle.run_model.specs.declared.entry.Entry.{Entry}
use Rattle.run_model.specs.Words.{answers, asked}
use Rattle.run_model.specs.Journal.{past_of, outcome, IsLegal}
use Rattle.run_laws.specs.Course.{turns_of}
use Rattle.run_engine.specs.Broken.{IsPart}
use Rattle.run_engine.specs.Heard.{IsFurther}
use Rattle.run_engine.specs.World.{flagged, first_error}
use Rattle.run_engine.specs.declared.errors.TestRunnerExecuteErrors.TheVariants as engine
use Rattle.run_engine.proofs.OutcomeLemmas.{not_over}
use Rattle.run_output.specs.Asks.{ask_lines}
use Rattle.run_output.specs.Faults.{fault_text}
use Rattle.run_output.specs.Fields.{line_bytes}
use Rattle.run_output.specs.Told.{HasTold, AreCounted, event_lines, event_line, marks}
use Rattle.run_output.specs.declared.fault.Fault.TheVariants.{Memory}
use Rattle.run_shared.specs.declared.closing.CloseError.{CloseError}
use Rattle.run_shared.specs.declared.closing.CloseKind.{CloseKind}
use Rattle.run_drive.specs.declared.spawner.Heard.{Heard}
use Rattle.run_live.specs.declared.lived.Live.{Live}
use Rattle.run_live.specs.Left.{HasToldSome}
use Rattle.run_cli.specs.Call.{Writing, then_writing, HasTaken, Writes}
use Rattle.run_cli.specs.Executed.{IsExecuted}
use Rattle.run_cli.specs.Live.{IsUnclosed, IsRunEnd}
use Rattle.run_cli.specs.Lived.{EndsAtReceipt, HasWritten, HasWrittenRefused, kept_refused}
use Rattle.run_cli.specs.Receipts.{receipt_text}
use Rattle.run_cli.specs.Short.{IsRunOut, IsShort}
use Rattle.run_cli.specs.Text.{whole_form, fault_only}
use Rattle.run_cli.specs.Unclosed.{LivesShort, WritesRefusal}
use Rattle.run_cli.specs.declared.live.LiveEnding.{LiveEnding}
use Rattle.run_cli.specs.declared.live.LiveEnding.TheVariants as ends
use Rattle.run_output.specs.declared.fault.Fault.TheVariants.{Words, Line, Plan as BadPlan, NotEnabled, ThirdSignal}
use Rattle.run_output.specs.declared.fault.Fault.TheVariants.{Unfinished, Report, Read, TooLong}
use Rattle.run_cli.proofs.EndLemmas.{short_run}
use Rattle.run_cli.proofs.LivedLemmas.{none_marked}
use Rattle.run_cli.proofs.RunOutLemmas.{Reaches, reaches}
use Rattle.run_cli.proofs.ShortLemmas.{lines_some, short_none, take-whole}
use Rattle.run_cli.proofs.ToldLines.{executed_whole, first_whole}

-- the turns before one more, and that one
take_front : {X : Type 0} (xs ys : List X) → xs ≡ take (length xs) (xs ++ ys)
take_front [] ys = refl
take_front (x ∷ xs) ys = ap (λ zs. x ∷ zs) (take_front xs ys)

one_more : {X : Type 0} (xs : List X) (x : X) → slice_get (xs ++ x ∷ []) (length xs) ≡ Some x
one_more [] x = refl
one_more (y ∷ xs) x = one_more xs x

-- how far a run came, by its turns and one further
reaches_by : (p : Settings) (journal : List Entry) (extra : List (ReporterEvent × Bool)) (sent : List (ℕ × Ask))
    → IsLegal p journal → IsFurther p journal extra sent
    → (turns : List Turn) × Reaches p turns (answers (past_of p journal) ++ extra) (asked (past_of p journal) ++ sent)
reaches_by p journal extra sent legal (inl none) = (
  turns_of journal,
  reaches p (turns_of journal) journal (length (turns_of journal)) extra sent legal
      (sym (take-whole (turns_of journal))) (inl none),
)
reaches_by p journal extra sent legal (inr more) =
    let turns : List Turn = turns_of journal ++ more.0 ∷ [] in (
      turns,
      reaches p turns journal (length (turns_of journal)) extra sent legal (take_front (turns_of journal) (more.0 ∷ []))
          (inr (more.0, one_more (turns_of journal) more.0, more.1)),
    )

-- so the lines of its events went out, as far as they were told
pub run_out : (p : Settings) (journal : List Entry) (w : Writing) (n : ℕ) (asks : List (ℕ × Ask))
    (events : List (ReporterEvent × Option Failed)) (extra : List (ReporterEvent × Bool)) (sent : List (ℕ × Ask))
    → IsLegal p journal → map flagged events ≡ answers (past_of p journal) ++ extra
    → asks ≡ asked (past_of p journal) ++ sent → IsFurther p journal extra sent
    → HasTold w.taken w.taken_after w.faults w.faults_after n (event_lines events)
    → (turns : List Turn) × IsRunOut whole_form p turns w asks
run_out p journal w n asks events extra sent legal flags asked_is part told =
    let far = reaches_by p journal extra sent legal part in
    let r = far.1 in (
      far.0,
      record {
        journal = r.journal;
        legal = r.legal;
        taken = r.taken;
        takes = r.takes;
        later = r.later;
        asked = sym r.asked_are ∙ ap (λ xs. xs ++ r.later) (sym asked_is);
        one = r.one;
        took = first_whole p r.journal w n events r.left r.legal (ap (λ es. es ++ r.left) flags ∙ r.answers_are) r.few
            told;
      },
    )

-- and then nothing but a front part of the line that memory was wanting, of all that was left to write
pub lives_short : (p : Settings) (w v : Writing) (asks : List (ℕ × Ask)) → v.taken ≡ w.taken_after
    → v.faults ≡ w.faults_after → (turns : List Turn) × IsRunOut whole_form p turns w asks
    → IsShort (ask_lines asks ++ fault_only Memory) v → LivesShort (then_writing w v)
lives_short p w v asks on from out h = (p, out.0, short_run whole_form p out.0 w v asks on from out.1 h)

-- a run that was given up
pub given_up : {R : Type 0} (tells : R → List (ReporterEvent × Option Failed) → Type 0) (report : R) (w v : Writing)
    (n m : ℕ) → v.taken ≡ w.taken_after → v.faults ≡ w.faults_after
    → ((ys : List (ReporterEvent × Option Failed)) → tells report ys
    → HasTold w.taken w.taken_after w.faults w.faults_after n (event_lines ys))
    → HasToldSome tells report → HasTaken v (take m (fault_only Memory)) → LivesShort (then_writing w v)
given_up tells report w v n m on from told x h =
    let asks = asked (past_of x.settings x.journal) ++ x.sent in
    lives_short x.settings w v asks on from
    (run_out x.settings x.journal w n asks x.events x.extra x.sent x.legal x.flags refl x.part (told x.events x.told))
    (short_none (ask_lines asks ++ fault_only Memory) v m (lines_some (ask_lines asks) (fault_text Memory)) h)

-- one whose journal is full told and asked nothing beyond it
unfoldable pub executed_full : (p : Settings) (w : Writing) (n : ℕ) (journal : List Entry) (asks : List (ℕ × Ask))
    → HasWritten p w n journal asks → length journal ≡ 4294967295 → outcome p (past_of p journal) ≡ None
    → IsExecuted whole_form p (turns_of journal) w asks (Err engine.Unfinished)
executed_full p w n journal asks x full none =
    executed_whole p (turns_of journal) w n asks (Err engine.Unfinished) journal (first_error x.events) x.events
    x.runnable (refl, not_over p journal x.runnable.legal none)
    (none_marked p journal x.events x.runnable flags) (x.asked ∙ no_more asked_none) x.told flags refl
  where
    nothing : (x.extra ≡ []) × (x.sent ≡ [])
    nothing = by_room x.room
      where
        by_room : ((x.extra ≡ []) × (x.sent ≡ [])) ⊎ (length journal < 4294967295) → (x.extra ≡ []) × (x.sent ≡ [])
        by_room (inl h) = h
        by_room (inr below) = absurd (omega (arith, below, full))

    flags : map flagged x.events ≡ answers (past_of p journal)
    flags = x.flags ∙ ap (λ es. answers (past_of p journal) ++ es) nothing.0 ∙ append-nil (answers (past_of p journal))

    asked_none : x.sent ≡ []
    asked_none = nothing.1

    no_more : x.sent ≡ [] → asked (past_of p journal) ++ x.sent ≡ asked (past_of p journal)
    no_more e = ap (λ s. asked (past_of p journal) ++ s) e ∙ append-nil (asked (past_of p journal))

-- lines are refused as their events are
pub marks_lines : {E : Type 0} (ys : List (ReporterEvent × Option E)) → marks (event_lines ys) ≡ marks ys
marks_lines [] = refl
marks_lines (y ∷ ys) = ap (λ bs. is_some y.1 ∷ bs) (marks_lines ys)

-- a run whose receipts are refused, after its last lines
pub writes_refusal : (p : Settings) (w v : Writing) (n : ℕ) (journal : List Entry) (asks : List (ℕ × Ask))
    (kind : CloseKind) → v.taken ≡ w.taken_after → v.faults ≡ w.faults_after
    → HasWrittenRefused p w n journal asks kind → Writes v (ask_lines asks ++ line_bytes (receipt_text kind))
    → WritesRefusal p journal kind (then_writing w v)
writes_refusal p w v n journal asks kind on from x h = record {
  settings = x.settings;
  same = x.same;
  legal = x.written.runnable.legal;
  events = x.written.events;
  extra = x.written.extra;
  sent = x.written.sent;
  flags = x.written.flags;
  part = x.written.part;
  between = w.taken_after;
  count = w.faults_after;
  took = x.written.told.took;
  counted = subst (λ bs. AreCounted bs w.faults w.faults_after) (marks_lines x.written.events) x.written.told.counted;
  last = subst (λ sent. Writes (record v { taken = w.taken_after; faults = w.faults_after })
      (ask_lines sent ++ line_bytes (receipt_text kind))) x.written.asked
      (subst (λ m. Writes (record v { taken = w.taken_after; faults = m })
      (ask_lines asks ++ line_bytes (receipt_text kind))) from
      (subst (λ t. Writes (record v { taken = t }) (ask_lines asks ++ line_bytes (receipt_text kind))) on h));
}

-- so it ends, by the reason for which they are refused
pub refused_ends : {W : Type 0} (said : W → List Heard → Type 0) (p : Settings) (w v : Writing) (n : ℕ) (l : Live W)
    (asks : List (ℕ × Ask)) (error : CloseError) (ending : LiveEnding) → v.taken ≡ w.taken_after
    → v.faults ≡ w.faults_after → IsUnclosed said p l → l.error ≡ Some error
    → HasWrittenRefused p w n l.journal asks error.kind → EndsAtReceipt v (ask_lines asks) error.kind ending
    → IsRunEnd said p (then_writing w v) (kept_refused ending l) ending
refused_ends said p w v n l asks error ends.Receipt on from unclosed is x h = (
  unclosed,
  subst (λ e. IsSomeAnd e (λ e. WritesRefusal p l.journal e.kind (then_writing w v))) (sym is)
      (writes_refusal p w v n l.journal asks error.kind on from x h),
)
refused_ends said p w v n l asks error (ends.Fault Memory) on from unclosed is x h = (
  refl,
  lives_short x.settings w v asks on from
      (run_out x.settings l.journal w n asks x.written.events x.written.extra x.written.sent x.written.runnable.legal
      x.written.flags x.written.asked x.written.part x.written.told)
      (short_none (ask_lines asks ++ fault_only Memory) v h.0 (lines_some (ask_lines asks) (fault_text Memory)) h.1),
)
refused_ends said p w v n l asks error (ends.Outcome o) on from unclosed is x h = absurd h
refused_ends said p w v n l asks error (ends.Fault Words) on from unclosed is x h = absurd h
refused_ends said p w v n l asks error (ends.Fault (Line k)) on from unclosed is x h = absurd h
refused_ends said p w v n l asks error (ends.Fault (BadPlan f)) on from unclosed is x h = absurd h
refused_ends said p w v n l asks error (ends.Fault (NotEnabled k)) on from unclosed is x h = absurd h
refused_ends said p w v n l asks error (ends.Fault (ThirdSignal k)) on from unclosed is x h = absurd h
refused_ends said p w v n l asks error (ends.Fault Unfinished) on from unclosed is x h = absurd h
refused_ends said p w v n l asks error (ends.Fault Report) on from unclosed is x h = absurd h
refused_ends said p w v n l asks error (ends.Fault Read) on from unclosed is x h = absurd h
refused_ends said p w v n l asks error (ends.Fault TooLong) on from unclosed is x h = absurd h
