-- Where a generated run stops short.
use Rattle.std.proofs.Common.{◌≡◌, ◌⊎◌, inl, inr, List, length, false, Some, None, sym, subst, ◌∙◌}
use Rattle.std.proofs.lemmas.Option.{same_Some}
use Rattle.run_events.specs.declared.settings.Settings.{Settings}
use Rattle.run_events.specs.declared.turn.Turn.{Turn}
use Rattle.run_model.specs.declared.entry.Entry.{Entry}
use Rattle.run_model.specs.Journal.{past_of}
use Rattle.run_model.specs.Turns.{enabled}
use Rattle.run_engine.specs.Refused.{IsRefused}
use Rattle.run_engine.specs.Settling.{IsUnsettled}
use Rattle.run_engine.specs.Standing.{sound}
use Rattle.run_engine.specs.World.{World, history_of}
use Rattle.run_engine.specs.declared.errors.StepError.{StepError}
use Rattle.run_engine.specs.declared.errors.StepError.TheVariants as steps
use Rattle.run_generate.specs.Generated.{StopsShort, error_of_step}
use Rattle.run_generate.specs.OnWay.{HasNoOutcome, IsAfter, IsOnWay, next_on}
use Rattle.run_generate.specs.Turns.{next_turn}
use Rattle.run_generate.specs.declared.generated.GenerateError.TheVariants as errors
use Rattle.run_generate.specs.declared.on_way.OnWay.{OnWay}
use Rattle.run_generate.proofs.WayLemmas.{next_after}

-- a run stops short for this cause
because : (g : OnWay) (journal : List Entry) → IsAfter g journal → HasNoOutcome g
    → ((length journal ≡ 4294967295) ⊎ ((turn : Turn) → next_turn g.run.settings journal ≡ Some turn
    → enabled g.run.settings (past_of g.run.settings journal) turn ≡ false)) → StopsShort g.run.settings
because g journal way goes_on why = record {
  journal = journal;
  legal = way.stands.runnable.legal;
  generated = way.generated;
  goes_on = goes_on journal way.stands;
  why = why;
}

-- why a turn that comes next was not taken
refused_short : (w : World) (turn : Turn) (error : StepError) → IsRefused w turn error
    → error_of_step error ≡ errors.Unfinished
    → (length w.journal ≡ 4294967295) ⊎ (enabled w.settings (history_of w) turn ≡ false)
refused_short w turn steps.NotEnabled refused e = inr refused.1.0
refused_short w turn steps.ThirdSignal refused e = inr refused.1.0
refused_short w turn steps.Full refused e = inl refused
refused_short w turn steps.OutOfMemory refused e = cc

-- a run whose next turn was refused, and not for want of memory, stops short
pub stops_short : (g : OnWay) (turn : Turn) (error : StepError) (way : IsOnWay g) → next_on g ≡ Some turn →
    HasNoOutcome g
    → IsRefused (sound g.run.settings way.0) turn error → error_of_step error ≡ errors.Unfinished
    → StopsShort g.run.settings
stops_short g turn error way next goes_on refused e =
    because g way.0 way.1 goes_on (by_cause (refused_short (sound p way.0) turn error refused e))
  where
    p : Settings
    p = g.run.settings

    by_cause : (length way.0 ≡ 4294967295) ⊎ (enabled p (past_of p way.0) turn ≡ false)
        → (length way.0 ≡ 4294967295) ⊎ ((other : Turn) → next_turn p way.0 ≡ Some other
        → enabled p (past_of p way.0) other ≡ false)
    by_cause (inl full) = inl full
    by_cause (inr off) = inr (λ other is. subst (λ turn. enabled p (past_of p way.0) turn ≡ false)
        (same_Some _ _ (sym next ∙ sym (next_after g way.0 way.1) ∙ is)) off)

-- and so does one that settles nothing, and not for want of memory
pub unsettled_short : (g : OnWay) (error : StepError) (way : IsOnWay g) → HasNoOutcome g
    → IsUnsettled (sound g.run.settings way.0) 0 error → error_of_step error ≡ errors.Unfinished
    → StopsShort g.run.settings
unsettled_short g steps.NotEnabled way goes_on stuck e = absurd stuck
unsettled_short g steps.ThirdSignal way goes_on stuck e = absurd stuck
unsettled_short g steps.Full way goes_on stuck e = because g way.0 way.1 goes_on (inl stuck.0)
unsettled_short g steps.OutOfMemory way goes_on stuck e = cc

-- and one that has no next turn
pub end_short : (g : OnWay) → IsOnWay g → HasNoOutcome g → next_on g ≡ None → StopsShort g.run.settings
end_short g way goes_on none = because g way.0 way.1 goes_on
    (inr (λ turn is. let never : None ≡ Some turn = sym none ∙ sym (next_after g way.0 way.1) ∙ is in cc))
