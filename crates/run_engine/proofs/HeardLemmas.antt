-- What was told and asked of a run, after one more turn of it.
use Rattle.std.proofs.Common.{◌≡◌, ◌<◌, ℕ, inl, inr, List, [], ◌∷◌, ◌++◌, length, map, true, false, Option, Result}
use Rattle.std.proofs.Common.{Ok, Err}
use Rattle.std.proofs.Common.{refl, ap, sym, subst, ◌∙◌}
use Rattle.std.proofs.lemmas.List.{append-nil, map-append}
use Rattle.run_events.specs.declared.turn.Turn.{Turn}
use Rattle.run_events.specs.declared.ask.Ask.{Ask}
use Rattle.run_events.specs.declared.events.ReporterEvent.{ReporterEvent}
use Rattle.run_model.specs.declared.entry.Entry.{Entry}
use Rattle.run_model.specs.Words.{answers, asked}
use Rattle.std.specs.Result.{IfOk, IfErr, OnErr, IsErrOf}
use Rattle.run_engine.specs.World.{World, Breaks, outside, flagged, TakesTurn, entry_of, history_of}
use Rattle.run_engine.specs.Broken.{BreaksOff}
use Rattle.run_engine.specs.Heard.{IsHeard}
use Rattle.run_engine.specs.Refused.{IfNotMemory}
use Rattle.run_engine.specs.declared.errors.StepError.{StepError}
use Rattle.run_engine.specs.declared.errors.StepError.TheVariants.{NotEnabled, ThirdSignal, Full, OutOfMemory}
use Rattle.run_engine.proofs.TakesLemmas.{answers-push, asked-push}

-- lists with nothing more at their ends
ends_at : {X : Type 0} (xs ys zs : List X) → xs ≡ ys ++ zs → zs ≡ [] → xs ≡ ys
ends_at xs ys zs e none = e ∙ ap (λ zs. ys ++ zs) none ∙ append-nil ys

-- a turn was taken
pub heard_takes : {R E C : Type 0} (tells : R → List (ReporterEvent × Option E) → Type 0)
    (asks : C → List (ℕ × Ask) → Type 0) (faults : R → ℕ) (r s : R) (c d : C) (turn : Turn) (old new : World)
    (refusal : Option E) → old.broken ≡ false
    → TakesTurn tells asks (outside faults r s c d) turn old new refusal → IsHeard tells asks r c old
    → IsHeard tells asks s d new
heard_takes tells asks faults r s c d turn old new refusal sound step h =
    let entry : Entry = entry_of turn step.refused in
    let after : World = record old { journal = old.journal ++ entry ∷ [] } in
    let none = h.whole sound in
    let more = step.told h.events h.told in
    let so_far : map flagged h.events ≡ answers (history_of old) = ends_at _ _ h.extra h.flags none.0 in
    let asked_before : asks c (asked (history_of old)) =
    subst (asks c) (ends_at _ (asked (history_of old)) h.sent refl none.1) h.asked in
    let it : IsHeard tells asks s d after = record {
      events = h.events ++ more.0;
      told = more.1;
      extra = [];
      sent = [];
      flags = map-append flagged h.events more.0
          ∙ ap (λ es. es ++ map flagged more.0) so_far
          ∙ ap (λ es. answers (history_of old) ++ es) more.2
          ∙ sym (answers-push old.settings old.journal entry)
          ∙ sym (append-nil (answers (history_of after)));
      asked = subst (asks d)
          (sym (asked-push old.settings old.journal entry) ∙ sym (append-nil (asked (history_of after))))
          (step.asked (asked (history_of old)) asked_before);
      part = inl (refl, refl);
      whole = λ e. (refl, refl);
      room = inl (refl, refl);
    } in
    subst (IsHeard tells asks s d) (sym step.grown) it

-- a turn was broken off
pub heard_breaks : {R E C : Type 0} (tells : R → List (ReporterEvent × Option E) → Type 0)
    (asks : C → List (ℕ × Ask) → Type 0) (faults : R → ℕ) (r s : R) (c d : C) (turn : Turn) (old new : World)
    → old.broken ≡ false → length old.journal < 4294967295 → new ≡ record old { broken = true }
    → BreaksOff tells asks (outside faults r s c d) old.settings old.journal turn → IsHeard tells asks r c old
    → IsHeard tells asks s d new
heard_breaks tells asks faults r s c d turn old new sound room broke off h =
    let none = h.whole sound in
    let more = off.told h.events h.told in
    let so_far : map flagged h.events ≡ answers (history_of old) = ends_at _ _ h.extra h.flags none.0 in
    let asked_before : asks c (asked (history_of old)) =
    subst (asks c) (ends_at _ (asked (history_of old)) h.sent refl none.1) h.asked in
    let it : IsHeard tells asks s d (record old { broken = true }) = record {
      events = h.events ++ more.0;
      told = more.1;
      extra = off.extra;
      sent = off.sent;
      flags = map-append flagged h.events more.0
          ∙ ap (λ es. es ++ map flagged more.0) so_far
          ∙ ap (λ es. answers (history_of old) ++ es) more.2;
      asked = off.adds (asked (history_of old)) asked_before;
      part = inr (turn, off.part);
      whole = λ e. cc;
      room = inr room;
    } in
    subst (IsHeard tells asks s d) (sym broke) it

-- the run was broken, and nothing went out
pub heard_broken : {R E C : Type 0} (tells : R → List (ReporterEvent × Option E) → Type 0)
    (asks : C → List (ℕ × Ask) → Type 0) (r : R) (c : C) (old new : World) → new ≡ record old { broken = true }
    → IsHeard tells asks r c old → IsHeard tells asks r c new
heard_broken tells asks r c old new broke h =
    let it : IsHeard tells asks r c (record old { broken = true }) = record {
      events = h.events;
      told = h.told;
      extra = h.extra;
      sent = h.sent;
      flags = h.flags;
      asked = h.asked;
      part = h.part;
      whole = λ e. cc;
      room = h.room;
    } in
    subst (IsHeard tells asks r c) (sym broke) it

-- a turn was refused, or the run broken before anything went out
pub heard_refused : {R E C : Type 0} (tells : R → List (ReporterEvent × Option E) → Type 0)
    (asks : C → List (ℕ × Ask) → Type 0) (r : R) (c : C) (old new : World) (e : StepError)
    → IfNotMemory e (new ≡ old) → (e ≡ OutOfMemory → new ≡ record old { broken = true })
    → IsHeard tells asks r c old → IsHeard tells asks r c new
heard_refused tells asks r c old new NotEnabled same broke h = subst (IsHeard tells asks r c) (sym same) h
heard_refused tells asks r c old new ThirdSignal same broke h = subst (IsHeard tells asks r c) (sym same) h
heard_refused tells asks r c old new Full same broke h = subst (IsHeard tells asks r c) (sym same) h
heard_refused tells asks r c old new OutOfMemory same broke h =
    heard_broken tells asks r c old new (broke refl) h

-- an enabled turn was taken or broken off
pub heard_named : {R E C : Type 0} (tells : R → List (ReporterEvent × Option E) → Type 0)
    (asks : C → List (ℕ × Ask) → Type 0) (faults : R → ℕ) (r s : R) (c d : C) (turn : Turn) (old mid new : World)
    (result : Result (Option E) StepError) → mid ≡ old → old.broken ≡ false → length old.journal < 4294967295
    → IfOk result (TakesTurn tells asks (outside faults r s c d) turn mid new)
    → (IsErrOf result OutOfMemory → Breaks mid new) → IfErr result (λ e. e ≡ OutOfMemory)
    → OnErr result (BreaksOff tells asks (outside faults r s c d) mid.settings mid.journal turn)
    → IsHeard tells asks r c old → IsHeard tells asks s d new
heard_named tells asks faults r s c d turn old mid new (Ok refusal) same sound room takes broke memory off h =
    heard_takes tells asks faults r s c d turn mid new refusal (subst (λ (w : World). w.broken ≡ false) (sym same)
    sound)
    takes (subst (IsHeard tells asks r c) (sym same) h)
heard_named tells asks faults r s c d turn old mid new (Err e) same sound room takes broke memory off h =
    heard_breaks tells asks faults r s c d turn mid new (subst (λ (w : World). w.broken ≡ false) (sym same) sound)
    (subst (λ (w : World). length w.journal < 4294967295) (sym same) room)
    (broke (ap Err memory)).0 off (subst (IsHeard tells asks r c) (sym same) h)

-- so many starts were claimed
pub heard_claimed : {R E C : Type 0} (tells : R → List (ReporterEvent × Option E) → Type 0)
    (asks : C → List (ℕ × Ask) → Type 0) (r : R) (c : C) (old : World) (claimed : ℕ)
    → IsHeard tells asks r c old → IsHeard tells asks r c (record old { claimed = claimed })
heard_claimed tells asks r c old claimed h = record {
  events = h.events;
  told = h.told;
  extra = h.extra;
  sent = h.sent;
  flags = h.flags;
  asked = h.asked;
  part = h.part;
  whole = h.whole;
  room = h.room;
}
