-- What stands under the lock.
use Rattle.std.proofs.Common.{◌≡◌, ℕ, List, [], ◌∷◌, length, Option, inl, refl, ap, sym, subst}
use Rattle.run_events.specs.declared.settings.Settings.{Settings}
use Rattle.run_events.specs.declared.turn.Turn.{Turn}
use Rattle.run_events.specs.declared.ask.Ask.{Ask}
use Rattle.run_events.specs.declared.events.ReporterEvent.{ReporterEvent}
use Rattle.run_events.specs.Tell.{Adds, Retains}
use Rattle.std.proofs.Common.{◌+◌, ◌-◌, ◌++◌, Some, None, ◌∙◌, ap₂, arith, length-append, slice_get}
use Rattle.std.proofs.lemmas.List.{map-append}
use Rattle.std.proofs.lemmas.Option.{none-some, same_Some}
use Rattle.std.specs.Option.{IsSome, IsNone}
use Rattle.run_events.specs.declared.ask.StartAsk.{StartAsk}
use Rattle.run_model.specs.declared.entry.Entry.{Entry}
use Rattle.run_laws.specs.Course.{turns_of}
use Rattle.run_engine.specs.World.{World, Outside, TakesTurn, IsUntouched, Breaks, entry_of}
use Rattle.run_engine.specs.Refused.{IfNotMemory}
use Rattle.run_engine.specs.declared.errors.StepError.{StepError}
use Rattle.run_engine.specs.declared.errors.StepError.TheVariants.{NotEnabled, ThirdSignal, Full, OutOfMemory}
use Rattle.run_engine.proofs.HeardLemmas.{heard_claimed}
use Rattle.run_engine.specs.Standing.{sound}
use Rattle.run_engine.specs.Heard.{IsHeard}
use Rattle.run_shared.specs.Adds.{AddsTurn}

-- nothing was told or asked of a run that has taken no turn
pub heard_at_first : {R E C : Type 0} (tells : R → List (ReporterEvent × Option E) → Type 0)
    (asks : C → List (ℕ × Ask) → Type 0) (r : R) (c : C) (p : Settings) → tells r [] → asks c []
    → IsHeard tells asks r c (sound p [])
heard_at_first tells asks r c p told asked = record {
  events = [];
  told = told;
  extra = [];
  sent = [];
  flags = refl;
  asked = asked;
  part = inl (refl, refl);
  whole = λ e. (refl, refl);
  room = inl (refl, refl);
}

-- a turn that was taken adds its entry
pub adds_turn : {R E C : Type 0} (tells : R → List (ReporterEvent × Option E) → Type 0)
    (asks : C → List (ℕ × Ask) → Type 0) (o : Outside R C) (turn : Turn) (old new : World) (refusal : Option E)
    → TakesTurn tells asks o turn old new refusal → AddsTurn old turn new
adds_turn tells asks o turn old new refusal step = record {
  is_enabled = step.is_enabled;
  refused = step.refused;
  answered = step.answered;
  grown = step.grown;
}

-- the book counts the turn that was taken
pub counts_turn : {R E C : Type 0} (tells : R → List (ReporterEvent × Option E) → Type 0)
    (asks : C → List (ℕ × Ask) → Type 0) (o : Outside R C) (turn : Turn) (old new : World) (refusal : Option E)
    (total after : ℕ) → total ≡ length old.journal → after ≡ total + 1
    → TakesTurn tells asks o turn old new refusal → after ≡ length new.journal
counts_turn tells asks o turn old new refusal total after was more step = omega (
  arith,
  was,
  more,
  length-append old.journal (entry_of turn step.refused ∷ []),
  ap (λ (w : World). length w.journal) step.grown,
)

-- a turn that was refused, or broken off, leaves the journal
pub keeps_journal : {R C : Type 0} (o : Outside R C) (old new : World) (e : StepError) (total : ℕ)
    → total ≡ length old.journal → IfNotMemory e (IsUntouched old new o) → (e ≡ OutOfMemory → Breaks old new)
    → total ≡ length new.journal
keeps_journal o old new NotEnabled total was same broke = was ∙ ap (λ (w : World). length w.journal) (sym same.0)
keeps_journal o old new ThirdSignal total was same broke = was ∙ ap (λ (w : World). length w.journal) (sym same.0)
keeps_journal o old new Full total was same broke = was ∙ ap (λ (w : World). length w.journal) (sym same.0)
keeps_journal o old new OutOfMemory total was same broke =
    was ∙ ap (λ (w : World). length w.journal) (sym (broke refl).0)

-- a claim leaves the journal, and what was told and asked
pub record Stays {R E C : Type 0} (tells : R → List (ReporterEvent × Option E) → Type 0)
    (asks : C → List (ℕ × Ask) → Type 0) (r : R) (c : C) (total : ℕ) (new : World) : Type 0 where
  pub counted : total ≡ length new.journal
  pub heard : IsHeard tells asks r c new

pub claim_stays : {R E C : Type 0} (tells : R → List (ReporterEvent × Option E) → Type 0)
    (asks : C → List (ℕ × Ask) → Type 0) (r : R) (c : C) (total : ℕ) (old new : World) (result : Option StartAsk)
    → total ≡ length old.journal → IsHeard tells asks r c old
    → (IsSome result → new ≡ record old { claimed = old.claimed + 1 }) → (IsNone result → new ≡ old)
    → Stays {E = E} tells asks r c total new
claim_stays tells asks r c total old new (Some start) was h some none =
    subst (Stays tells asks r c total) (sym (some refl))
    (record { counted = was; heard = heard_claimed tells asks r c old (old.claimed + 1) h })
claim_stays tells asks r c total old new None was h some none =
    subst (Stays tells asks r c total) (sym (none refl)) (record { counted = was; heard = h })

-- and it leaves the journal
pub claim_same : (old new : World) (result : Option StartAsk)
    → (IsSome result → new ≡ record old { claimed = old.claimed + 1 }) → (IsNone result → new ≡ old)
    → old.journal ≡ new.journal
claim_same old new (Some start) some none = ap (λ (w : World). w.journal) (sym (some refl))
claim_same old new None some none = ap (λ (w : World). w.journal) (sym (none refl))

at_last : {X : Type 0} (xs : List X) (x : X) → slice_get (xs ++ x ∷ []) (length xs) ≡ Some x
at_last [] x = refl
at_last (y ∷ ys) x = at_last ys x

-- who is told of the newest turn of a journal was told of all
pub told_newest : {R : Type 0} (taken : R → List Turn → Type 0) (r s : R) (journal before : List Entry)
    (newest last : Entry) → Some last ≡ slice_get journal (length journal - 1) → journal ≡ before ++ newest ∷ []
    → Adds taken r s (last.turn ∷ []) → taken r (turns_of before) → taken s (turns_of journal)
told_newest taken r s journal before newest last got is adds told =
    let at : length journal - 1 ≡ length before =
    omega (arith, ap (λ (es : List Entry). length es) is, length-append before (newest ∷ [])) in
    let there : slice_get journal (length journal - 1) ≡ Some newest =
    ap₂ (λ (es : List Entry) k. slice_get es k) is at ∙ at_last before newest in
    let same : last ≡ newest = same_Some last newest (got ∙ there) in
    subst (taken s)
    (sym (ap (λ (es : List Entry). turns_of es) is ∙ map-append (λ (e : Entry). e.turn) before (newest ∷ [])))
    (subst (λ (e : Entry). taken s (turns_of before ++ e.turn ∷ [])) same (adds (turns_of before) told))

-- a journal with a newest turn has one
pub some_newest : (journal before : List Entry) (newest : Entry)
    → None ≡ slice_get journal (length journal - 1) → journal ≡ before ++ newest ∷ [] → ⊥
some_newest journal before newest got is =
    let at : length journal - 1 ≡ length before =
    omega (arith, ap (λ (es : List Entry). length es) is, length-append before (newest ∷ [])) in
    let there : slice_get journal (length journal - 1) ≡ Some newest =
    ap₂ (λ (es : List Entry) k. slice_get es k) is at ∙ at_last before newest in
    none-some newest (got ∙ there)

-- a turn that was refused, or broken off, leaves the journal, and with it the turns of which a reporter was told
pub keeps_turns : {R C : Type 0} (taken : R → List Turn → Type 0) (o : Outside R C) (r s : R) (old new : World)
    (e : StepError) → IfNotMemory e (IsUntouched old new o) → (e ≡ OutOfMemory → Breaks old new) → Retains taken r s
    → taken r (turns_of old.journal) → taken s (turns_of new.journal)
keeps_turns taken o r s old new e same broke keeps told =
    subst (λ (es : List Entry). taken s (turns_of es)) (stays e same broke) (keeps (turns_of old.journal) told)
  where
    stays : (e : StepError) → IfNotMemory e (IsUntouched old new o) → (e ≡ OutOfMemory → Breaks old new)
        → old.journal ≡ new.journal
    stays NotEnabled same broke = ap (λ (w : World). w.journal) (sym same.0)
    stays ThirdSignal same broke = ap (λ (w : World). w.journal) (sym same.0)
    stays Full same broke = ap (λ (w : World). w.journal) (sym same.0)
    stays OutOfMemory same broke = ap (λ (w : World). w.journal) (sym (broke refl).0)
