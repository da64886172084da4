-- A run that keeps no journal: what a step of it does after each journal that it stands for.
use Rattle.std.proofs.Common.{◌≡◌, ℕ, ◌+◌, ◌<◌, ◌≤◌, ◌^◌, List, [], ◌∷◌, ◌++◌, length, Option, None, option_map}
use Rattle.std.proofs.Common.{inl, inr, if◌then◌else◌}
use Rattle.std.proofs.Common.{Bool, true, false, ap, sym, subst, refl, ◌∙◌, arith, length-append}
use Rattle.run_events.specs.declared.settings.Settings.{Settings}
use Rattle.run_events.specs.declared.turn.Turn.{Turn}
use Rattle.run_events.specs.declared.ask.Ask.{Ask}
use Rattle.run_events.specs.declared.events.ReporterEvent.{ReporterEvent}
use Rattle.run_model.specs.declared.entry.Entry.{Entry}
use Rattle.run_model.specs.declared.unit_view.UnitView.{UnitView}
use Rattle.run_model.specs.Admission.{is_done}
use Rattle.run_model.specs.Board.{Board, board}
use Rattle.run_model.specs.Journal.{past_of}
use Rattle.run_state.specs.Held.{Held}
use Rattle.run_state.specs.Settle.{settling, first_enabled}
use Rattle.run_engine.specs.Forgotten.{IsForgotten, MayForget}
use Rattle.run_engine.specs.World.{World, Outside, entry_of}
use Rattle.run_engine.specs.Broken.{BreaksOff}
use Rattle.run_engine.specs.Standing.{IsRunnable, sound}
use Rattle.run_engine.specs.Refused.{IsNotNamed, IsRefused}
use Rattle.run_engine.specs.declared.errors.StepError.{StepError}
use Rattle.run_engine.specs.Settling.{first_settled}
use Rattle.run_engine.specs.Unkept.{StandsAfter, TakesUnkept}
use Rattle.run_engine.specs.Lean.{Lean, StandsForJournal, TakesOne, attempt_at, settled_next}
use Rattle.run_engine.proofs.CarryLemmas.{runnable_next}
use Rattle.run_engine.proofs.ForgottenTurns.{first_same}
use Rattle.run_engine.proofs.SettlingLemmas.{full_at}
use Rattle.run_engine.proofs.UnkeptLemmas.{is_refused}

-- a turn was taken, and the run stands for the longer journal
pub takes_one : {R E C : Type 0} (tells : R → List (ReporterEvent × Option E) → Type 0)
    (asks : C → List (ℕ × Ask) → Type 0) (o : Outside R C) (old : Lean) (state : Held) (journal : List Entry)
    (turn : Turn) (refusal : Option E) → StandsForJournal old journal → old.turns < 4294967295
    → TakesUnkept tells asks o old.settings state journal turn refusal
    → TakesOne tells asks o old
    (record { settings = old.settings; state = state; turns = old.turns + 1; broken = old.broken }) journal turn refusal
takes_one tells asks o old state journal turn refusal s room t =
    let p = old.settings in
    let grown : t.0 ≡ journal ++ entry_of turn t.1.refused ∷ [] = ap (λ (w : World). w.journal) t.1.grown in
    let short : length journal + 1 < 2 ^ 32 = omega (arith, s.many, room) in
    record {
      after = t.0;
      takes = t.1;
      settings = refl;
      stands = record {
        runnable = subst (IsRunnable p) (sym grown)
            (runnable_next p journal turn t.1.refused s.runnable short t.1.is_enabled t.1.answered);
        stands = t.2;
        many = omega (arith, s.many, ap length grown, length-append journal (entry_of turn t.1.refused ∷ []));
      };
    }

-- a run that has taken the most turns
pub is_full : (r : Lean) (journal : List Entry) → StandsForJournal r journal → 4294967295 ≤ r.turns
    → length journal ≡ 4294967295
is_full r journal s full = full_at r.turns (length journal) s.many full s.runnable.short

-- the first enabled turn on the board is that after the journal
pub settled_after : (r : Lean) (journal : List Entry) (word : ℕ) → StandsForJournal r journal
    → settled_next r word ≡ first_settled (sound r.settings journal) word
settled_after r journal word s =
    first_same r.settings (board r.settings (past_of r.settings journal)) r.state.board (settling r.settings word)
    s.stands.board

-- a run that isn't broken stands for a journal, by settings that are its own
pub fields_stand : (p : Settings) (r : Lean) (settings : Settings) (state : Held) (turns : ℕ) (broken : Bool)
    → record { settings = settings; state = state; turns = turns; broken = broken } ≡ r → p ≡ settings
    → r.broken ≡ false → (broken ≡ false → (journal : List Entry) × StandsAfter settings state turns journal)
    → (journal : List Entry) × StandsAfter p state turns journal
fields_stand p r settings state turns broken is same sound stands =
    let s = stands (ap (λ (r : Lean). r.broken) is ∙ sound) in
    (s.0, subst (λ p. StandsAfter p state turns s.0) (sym same) s.1)

-- the same as a run, for which there is then a journal
pub stands_for_one : (r : Lean) (settings : Settings) (state : Held) (turns : ℕ) (broken : Bool)
    → record { settings = settings; state = state; turns = turns; broken = broken } ≡ r
    → (broken ≡ false → (journal : List Entry) × StandsAfter settings state turns journal) → r.broken ≡ false
    → (journal : List Entry) × StandsForJournal r journal
stands_for_one r settings state turns broken is stands sound =
    let s = stands (ap (λ (r : Lean). r.broken) is ∙ sound) in
    (s.0, subst (λ r. StandsForJournal r s.0) is s.1)

-- a turn was taken by what stands for a run's fields
pub takes_by : {R E C : Type 0} {broken : Bool} (tells : R → List (ReporterEvent × Option E) → Type 0)
    (asks : C → List (ℕ × Ask) → Type 0) (o : Outside R C) (p settings : Settings) (state new : Held) (turns : ℕ)
    (r : Lean) (turn : Turn) (refusal : Option E)
    → record { settings = settings; state = state; turns = turns; broken = broken } ≡ r → p ≡ settings
    → r.turns < 4294967295 → ((journal : List Entry) → StandsAfter p state turns journal
    → TakesUnkept tells asks o p new journal turn refusal)
    → (journal : List Entry) → StandsForJournal r journal
    → TakesOne tells asks o r
    (record { settings = settings; state = new; turns = turns + 1; broken = broken }) journal turn refusal
takes_by {broken = broken} tells asks o p settings state new turns r turn refusal is same room all =
    subst (λ (r : Lean). r.turns < 4294967295 → (journal : List Entry) → StandsForJournal r journal
    → TakesOne tells asks o r
    (record { settings = settings; state = new; turns = turns + 1; broken = broken }) journal turn refusal) is
    (λ room journal s. takes_one tells asks o
    (record { settings = settings; state = state; turns = turns; broken = broken }) new journal turn refusal s room
    (subst (λ p. StandsAfter p state turns journal → TakesUnkept tells asks o p new journal turn refusal) same
    (all journal) s)) room

-- or it was broken off
pub breaks_by : {R E C : Type 0} {broken : Bool} (tells : R → List (ReporterEvent × Option E) → Type 0)
    (asks : C → List (ℕ × Ask) → Type 0) (o : Outside R C) (p settings : Settings) (state : Held) (turns : ℕ) (r : Lean)
    (turn : Turn) → record { settings = settings; state = state; turns = turns; broken = broken } ≡ r
    → p ≡ settings
    → ((journal : List Entry) → StandsAfter p state turns journal → BreaksOff {E = E} tells asks o p journal turn)
    → (journal : List Entry) → StandsForJournal r journal → BreaksOff {E = E} tells asks o r.settings journal turn
breaks_by {E = E} tells asks o p settings state turns r turn is same all =
    subst (λ (r : Lean). (journal : List Entry) → StandsForJournal r journal
    → BreaksOff {E = E} tells asks o r.settings journal turn) is
    (λ journal. subst (λ p. StandsAfter p state turns journal → BreaksOff {E = E} tells asks o p journal turn) same
    (all journal))

-- or it was refused
pub refused_by : {broken : Bool} (p settings : Settings) (state : Held) (turns : ℕ) (r : Lean) (turn : Turn)
    (error : StepError)
    → record { settings = settings; state = state; turns = turns; broken = broken } ≡ r → p ≡ settings
    → turns < 4294967295 → IsNotNamed p state.board turn error
    → (journal : List Entry) → StandsForJournal r journal → IsRefused (sound r.settings journal) turn error
refused_by p settings state turns r turn error is same room why =
    subst (λ (r : Lean). (journal : List Entry) → StandsForJournal r journal
    → IsRefused (sound r.settings journal) turn error) is
    (λ journal s. is_refused settings state turns journal turn error s room
    (subst (λ p. IsNotNamed p state.board turn error) same why))

-- after a turn that was taken, the fields of a run stand for a journal
pub stands_next : {R E C : Type 0} (tells : R → List (ReporterEvent × Option E) → Type 0)
    (asks : C → List (ℕ × Ask) → Type 0) (o : Outside R C) (p settings : Settings) (state new : Held) (turns : ℕ)
    (turn : Turn) (refusal : Option E) → p ≡ settings → turns < 4294967295
    → ((journal : List Entry) → StandsAfter p state turns journal
    → TakesUnkept tells asks o p new journal turn refusal)
    → (journal : List Entry) × StandsAfter settings state turns journal
    → (journal : List Entry) × StandsAfter settings new (turns + 1) journal
stands_next tells asks o p settings state new turns turn refusal same room all s =
    let took = takes_by {broken = false} tells asks o p settings state new turns
    (record { settings = settings; state = state; turns = turns; broken = false }) turn refusal refl same room all
    s.0 s.1 in
    (took.after, took.stands)

-- the attempt that a unit is at, after a journal that the state stands for, is that of its board
pub attempt_kept : (p : Settings) (b kept : Board) (k : ℕ) → IsForgotten p b kept → attempt_at kept k ≡ attempt_at b k
attempt_kept p b kept k f = by_case _ _ (f.units.each k)
  where
    attempt_of : Option UnitView → Option ℕ
    attempt_of u = if is_done u then None else option_map (λ (u : UnitView). u.attempt) u

    by_case : (u v : Option UnitView) → MayForget p k u v → attempt_of v ≡ attempt_of u
    by_case u v (inl same) = ap attempt_of same
    by_case u v (inr over) =
        ap (λ b. if b then None else option_map (λ (u : UnitView). u.attempt) v) over.kept_over
        ∙ sym (ap (λ b. if b then None else option_map (λ (u : UnitView). u.attempt) u) over.over)
