-- What the status of a generated run says, by how the run ended.
use Rattle.std.proofs.Common.{◌≡◌, ℕ, inl, inr, List, [], ◌∷◌, codes, Option, Some, None, IfSome}
use Rattle.std.proofs.Common.{Result, Ok, Err, refl, ap, sym, subst, arith}
use Rattle.run_events.specs.declared.outcome.RunOutcome.{RunOutcome}
use Rattle.run_output.specs.declared.fault.Fault.{Fault}
use Rattle.run_output.specs.declared.fault.Fault.TheVariants.{Words, Line, Plan as BadPlan, NotEnabled, ThirdSignal}
use Rattle.run_output.specs.declared.fault.Fault.TheVariants.{Unfinished, Report, Read, Memory, TooLong}
use Rattle.run_generate.specs.Plan.{generated_settings}
use Rattle.run_generate.specs.declared.generated.Generated.{Generated}
use Rattle.run_cli.specs.Call.{Writing}
use Rattle.run_cli.specs.Commands.{IsGenerateOf, IsNumber}
use Rattle.run_cli.specs.Ending.{IsFinished}
use Rattle.run_cli.specs.Finish.{EndsAtFault}
use Rattle.run_cli.specs.Generates.{AnswersGenerate, EndsAtSummary, IsGenerateEnd, IsOfTests}
use Rattle.run_cli.proofs.ShortLemmas.{short_written}
use Rattle.run_cli.specs.Text.{ending_status, outcome_status}
use Rattle.run_cli.proofs.GivenLemmas.{finished}
use Rattle.run_cli.proofs.StatusLemmas.{apart, no_outcome_above, outcome_is}

-- the words `generate` and a number say that number of tests
pub test_count : (words : List (List ℕ)) (text : List ℕ) (said : Option ℕ) → words ≡ codes "generate" ∷ text ∷ []
    → IfSome said (IsNumber 20000 text) → IfSome said (λ tests. IsGenerateOf tests words)
test_count words text (Some tests) same h = (text, same, h)
test_count words text None same h = h

-- the fates of a run that is over
ends : (tests : ℕ) (g : Generated) (s : IsOfTests tests g) → IsFinished (generated_settings tests) s.journal g.outcome
ends tests g s = finished (generated_settings tests) s.journal g.outcome s.legal s.over

-- so each end has its answer
pub answers_generate : (tests : ℕ) (w : Writing) (ending : Result RunOutcome Fault) → IsGenerateEnd tests w ending
    → AnswersGenerate tests w (ending_status ending)
answers_generate tests w (Ok o) h = record {
  headline = λ s. record {
    generated = h.0;
    summary = h.1;
    finished = ends tests h.0 h.1;
    written = h.2.1;
    status_is = ap outcome_status h.2.0;
  };
  sound_sink = λ s. h.2.2;
  report = λ s. absurd (no_outcome_above 9 (apart _ 9 (outcome_is o) s) (omega arith) (omega arith));
  memory = λ s. absurd (no_outcome_above 11 (apart _ 11 (outcome_is o) s) (omega arith) (omega arith));
  known = inl (outcome_is o);
}
answers_generate tests w (Err Report) h = record {
  headline = λ s. absurd (no_outcome_above 9 s (omega arith) (omega arith));
  sound_sink = λ s. absurd (no_outcome_above 9 s (omega arith) (omega arith));
  report = λ s. (h.0, h.1, ends tests h.0 h.1, h.2.2, h.2.1);
  memory = λ s. absurd (omega arith);
  known = inr (inl refl);
}
answers_generate tests w (Err Memory) h = record {
  headline = λ s. absurd (no_outcome_above 11 s (omega arith) (omega arith));
  sound_sink = λ s. absurd (no_outcome_above 11 s (omega arith) (omega arith));
  report = λ s. absurd (omega arith);
  memory = λ s. h;
  known = inr (inr refl);
}
answers_generate tests w (Err Words) h = absurd h.2
answers_generate tests w (Err (Line n)) h = absurd h.2
answers_generate tests w (Err (BadPlan f)) h = absurd h.2
answers_generate tests w (Err (NotEnabled n)) h = absurd h.2
answers_generate tests w (Err (ThirdSignal n)) h = absurd h.2
answers_generate tests w (Err Unfinished) h = absurd h.2
answers_generate tests w (Err Read) h = absurd h.2
answers_generate tests w (Err TooLong) h = absurd h.2

-- how it ends once its run is over
pub summary_ends : (tests : ℕ) (w : Writing) (g : Generated) (ending : Result RunOutcome Fault) → IsOfTests tests g
    → EndsAtSummary w tests g ending → IsGenerateEnd tests w ending
summary_ends tests w g (Ok o) is h = (g, is, h)
summary_ends tests w g (Err Report) is h = (g, is, h)
summary_ends tests w g (Err Memory) is h = inr (g, is, h)
summary_ends tests w g (Err Words) is h = absurd h
summary_ends tests w g (Err (Line n)) is h = absurd h
summary_ends tests w g (Err (BadPlan f)) is h = absurd h
summary_ends tests w g (Err (NotEnabled n)) is h = absurd h
summary_ends tests w g (Err (ThirdSignal n)) is h = absurd h
summary_ends tests w g (Err Unfinished) is h = absurd h
summary_ends tests w g (Err Read) is h = absurd h
summary_ends tests w g (Err TooLong) is h = absurd h

-- and for want of memory before that
pub memory_ends : (tests : ℕ) (w : Writing) (ending : Result RunOutcome Fault) → EndsAtFault w [] Memory ending
    → IsGenerateEnd tests w ending
memory_ends tests w (Ok o) h = absurd h
memory_ends tests w (Err e) (inl m) = subst (λ f. IsGenerateEnd tests w (Err f)) (sym m.0) (inl m.1)
memory_ends tests w (Err e) (inr h) =
    subst (λ f. IsGenerateEnd tests w (Err f)) (sym h.0) (inl (short_written [] w h.2))
