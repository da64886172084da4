-- What a closed run leaves.
use Rattle.std.proofs.Common.{◌≡◌, ℕ, List, [], Bool, true, false, Option, None, refl, sym, subst, ◌∙◌, rules}
use Rattle.std.proofs.Common.{if◌then◌else◌}
use Rattle.std.specs.Option.{IsSome}
use Rattle.run_events.specs.declared.ask.Ask.{Ask}
use Rattle.run_events.specs.declared.events.ReporterEvent.{ReporterEvent}
use Rattle.run_events.specs.declared.outcome.RunOutcome.{RunOutcome}
use Rattle.run_model.specs.declared.entry.Entry.{Entry}
use Rattle.run_model.specs.Words.{is_over, ended_runs}
use Rattle.run_model.specs.SubRuns.{outcome_in}
use Rattle.run_model.specs.Journal.{outcome}
use Rattle.run_engine.specs.World.{World, history_of}
use Rattle.run_engine.specs.Standing.{IsRunnable}
use Rattle.run_engine.specs.Heard.{IsHeard}
use Rattle.run_shared.specs.Closed.{HasSettings, IsLeft, IsOther, Refuses}
use Rattle.run_shared.specs.Receipts.{IsFault}
use Rattle.run_events.specs.declared.settings.Settings.{Settings}
use Rattle.run_shared.specs.declared.shared.Receipt.{Receipt}
use Rattle.run_shared.specs.declared.closing.CloseKind.{CloseKind}
use Rattle.run_shared.specs.declared.closing.CloseKind.TheVariants.{OtherSettings, Mismatch, Repeated, OutOfMemory}

-- a run with an outcome isn't broken
not_broken : (b over : Bool) (ended end : Option RunOutcome) → (b ≡ true → over ≡ false)
    → end ≡ (if over then ended else None) → IsSome end → b ≡ false
not_broken false over ended end un is some = refl
not_broken true true ended end un is some = un refl
not_broken true false ended end un is some = let s = rw is at some in search rules

pub left_of : {R E : Type 0} (tells : R → List (ReporterEvent × Option E) → Type 0) (r : R) (c : List (ℕ × Ask))
    (w : World)
    (journal : List Entry) (end : Option RunOutcome) → journal ≡ w.journal → IsRunnable w.settings w.journal
    → (w.broken ≡ true → is_over (history_of w) ≡ false) → end ≡ outcome w.settings (history_of w)
    → IsHeard tells (λ list xs. list ≡ xs) r c w → IsLeft tells r c w.settings journal end
left_of tells r c w journal end same legal unfinished ended h =
    subst (λ (es : List Entry). IsLeft tells r c w.settings es end) (sym same) (record {
      legal = legal;
      ended = ended;
      events = h.events;
      told = h.told;
      extra = h.extra;
      sent = h.sent;
      flags = h.flags;
      asked = h.asked;
      part = h.part;
      whole = λ some. h.whole (not_broken w.broken (is_over (history_of w))
          (outcome_in w.settings (ended_runs (history_of w))) end unfinished ended some);
      room = h.room;
    })

-- settings that differ are reported as such
pub other_refused : (p q : Settings) (journal : List Entry) (rs : List Receipt) (e : CloseKind) → (p ≡ q → ⊥)
    → IsRunnable q journal → IsOther p q e → Refuses p journal rs e
other_refused p q journal rs (OtherSettings given kept) apart legal h =
    (h.0, λ same. apart (sym h.0 ∙ same ∙ h.1), subst (λ (s : Settings). IsRunnable s journal) (sym h.1) legal)
other_refused p q journal rs (Mismatch number receipt found) apart legal h = absurd h
other_refused p q journal rs (Repeated number) apart legal h = absurd h
other_refused p q journal rs OutOfMemory apart legal h = h

-- so the settings are those that the refusal names
pub other_settings_kept : (p q : Settings) (e : CloseKind) → IsOther p q e → HasSettings p q e
other_settings_kept p q (OtherSettings given kept) h = sym h.1
other_settings_kept p q (Mismatch number receipt found) h = absurd h
other_settings_kept p q (Repeated number) h = absurd h
other_settings_kept p q OutOfMemory h = tt

-- and they are the same where the receipts are at fault
pub same_settings_kept : (p q : Settings) (journal : List Entry) (rs : List Receipt) (e : CloseKind) → p ≡ q
    → IsFault journal [] rs e → HasSettings p q e
same_settings_kept p q journal rs (OtherSettings given kept) same h = absurd h
same_settings_kept p q journal rs (Mismatch number receipt found) same h = sym same
same_settings_kept p q journal rs (Repeated number) same h = sym same
same_settings_kept p q journal rs OutOfMemory same h = tt
