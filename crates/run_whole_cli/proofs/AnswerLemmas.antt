-- What the run of a plan line says, and that each cause gives its status.
use Rattle.std.proofs.Common.{◌≡◌, ◌⊎◌, ◌<◌, ℕ, inl, inr, List, [], length, Option, Some, None, true}
use Rattle.std.proofs.Common.{Result, Ok, Err, refl, ap, sym, subst, ◌∙◌, arith}
use Rattle.std.specs.Prelude.{IfOk, IfErr}
use Rattle.std.proofs.lemmas.Option.{same_Some}
use Rattle.run_input.specs.declared.plan_line.RunnerKeys.{RunnerKeys}
use Rattle.run_input.specs.Input.{plan_line_of}
use Rattle.run_events.specs.declared.plan.Plan.{Plan}
use Rattle.run_events.specs.declared.settings.Settings.{Settings}
use Rattle.run_engine.specs.Builder.{IsBuilt}
use Rattle.run_engine.specs.declared.errors.TestRunnerBuildError.{TestRunnerBuildError}
use Rattle.run_engine.specs.declared.errors.TestRunnerBuildError.TheVariants as build
use Rattle.run_output.specs.declared.fault.Fault.{Fault}
use Rattle.run_output.specs.declared.fault.Fault.TheVariants.{Words, Line, Plan as BadPlan, NotEnabled, ThirdSignal}
use Rattle.run_output.specs.declared.fault.Fault.TheVariants.{Unfinished, Report, Read, Memory, TooLong}
use Rattle.run_cli.specs.Call.{Writing}
use Rattle.run_cli.specs.Cause.{Gets}
use Rattle.run_cli.specs.Given.{input_limit}
use Rattle.run_cli.specs.Live.{IsRunStatus, is_unbegun}
use Rattle.run_cli.specs.Plans.{builder_of, fault_of_plan, plan_refusal}
use Rattle.run_cli.proofs.CauseLemmas.{never_refused}
use Rattle.run_cli.proofs.LiveLemmas.{outcome_begun}
use Rattle.run_cli.proofs.ShortLemmas.{short_written}
use Rattle.run_cli.proofs.StatusLemmas.{outcome_is}
use Rattle.run_whole_cli.specs.Relations.{Relations}
use Rattle.run_whole_cli.specs.Given.{SaysPlan, HasNoPlan, IsUnrunnable, GivesRunner, BuildsFor}
use Rattle.run_whole_cli.specs.Ends.{IsWholeRunEnd, whole_status}
use Rattle.run_whole_cli.specs.Last.{EndsWithout}
use Rattle.run_whole_cli.specs.Answers.{IsWholeEnd, AnswersWhole}
use Rattle.run_whole_cli.specs.declared.left.WholeEnding.{WholeEnding}
use Rattle.run_whole_cli.specs.declared.left.WholeEnding.TheVariants as ends
use Rattle.run_whole_cli.specs.declared.left.WholeLeft.{WholeLeft}

-- why a plan gives no runner
pub built_for : (keys : RunnerKeys) (plan : Plan) (error : TestRunnerBuildError)
    → IsBuilt (builder_of keys) plan (Err error) → BuildsFor keys plan (Err (fault_of_plan error))
built_for keys plan build.OutOfMemory h = inl refl
built_for keys plan (build.ZeroLimit g) h = inr (build.ZeroLimit g, h, refl)
built_for keys plan (build.DuplicateTest t) h = inr (build.DuplicateTest t, h, refl)
built_for keys plan (build.UnknownGroup t) h = inr (build.UnknownGroup t, h, refl)
built_for keys plan (build.ZeroWeight t) h = inr (build.ZeroWeight t, h, refl)
built_for keys plan (build.TooManyRetries t) h = inr (build.TooManyRetries t, h, refl)

-- what the plan of a line gives to run is what the line does
pub runner_given : (line : List ℕ) (keys : RunnerKeys) (plan : Plan) (r : Result Settings Fault)
    → SaysPlan line keys plan → BuildsFor keys plan r → IfOk r (GivesRunner line)
runner_given line keys plan (Ok p) said h =
    (record { keys = keys; plan = plan; said = said; accepted = h.0 }, h.1)
runner_given line keys plan (Err fault) said h = tt

pub runner_refused : (line : List ℕ) (keys : RunnerKeys) (plan : Plan) (r : Result Settings Fault)
    → SaysPlan line keys plan → BuildsFor keys plan r → IfErr r (IsUnrunnable line)
runner_refused line keys plan (Ok p) said h = tt
runner_refused line keys plan (Err fault) said (inl m) = subst (IsUnrunnable line) (sym m) tt
runner_refused line keys plan (Err fault) said (inr (error, refused, is)) =
    subst (IsUnrunnable line) is (by_error error refused)
  where
    by_error : (error : TestRunnerBuildError) → plan_refusal keys plan ≡ Some error
        → IsUnrunnable line (fault_of_plan error)
    by_error build.OutOfMemory refused = tt
    by_error (build.ZeroLimit g) refused =
        record { keys = keys; plan = plan; said = said; error = build.ZeroLimit g; refused = refused; says = refl }
    by_error (build.DuplicateTest t) refused =
        record { keys = keys; plan = plan; said = said; error = build.DuplicateTest t; refused = refused; says = refl }
    by_error (build.UnknownGroup t) refused =
        record { keys = keys; plan = plan; said = said; error = build.UnknownGroup t; refused = refused; says = refl }
    by_error (build.ZeroWeight t) refused =
        record { keys = keys; plan = plan; said = said; error = build.ZeroWeight t; refused = refused; says = refl }
    by_error (build.TooManyRetries t) refused =
        record { keys = keys; plan = plan; said = said; error = build.TooManyRetries t; refused = refused; says = refl }

-- the end of a plan that is accepted is that of its run
pub accepted_end : {W T O S : Type 0} (k : Relations W T O S) (line : List ℕ) (w : Writing)
    (left : Option (WholeLeft W T O S)) (ending : WholeEnding) (p : Settings) → GivesRunner line p
    → IsWholeRunEnd k p w left ending → IsWholeEnd k line w left ending
accepted_end k line w left (ends.Outcome o) p (x, is) h =
    (x, subst (λ p. IsWholeRunEnd k p w left (ends.Outcome o)) is h)
accepted_end k line w left ends.Receipt p (x, is) h = (x, subst (λ p. IsWholeRunEnd k p w left ends.Receipt) is h)
accepted_end k line w left ends.Order p (x, is) h = (x, subst (λ p. IsWholeRunEnd k p w left ends.Order) is h)
accepted_end k line w left (ends.Fault Report) p (x, is) h =
    (x, subst (λ p. IsWholeRunEnd k p w left (ends.Fault Report)) is h)
accepted_end k line w left (ends.Fault Unfinished) p (x, is) h =
    (x, subst (λ p. IsWholeRunEnd k p w left (ends.Fault Unfinished)) is h)
accepted_end k line w left (ends.Fault Memory) p (x, is) h = (h.0, inr (x, h.1))
accepted_end k line w left (ends.Fault Words) p (x, is) h = absurd h
accepted_end k line w left (ends.Fault (Line n)) p (x, is) h = absurd h
accepted_end k line w left (ends.Fault (BadPlan f)) p (x, is) h = absurd h
accepted_end k line w left (ends.Fault (NotEnabled n)) p (x, is) h = absurd h
accepted_end k line w left (ends.Fault (ThirdSignal n)) p (x, is) h =
    (x, subst (λ p. IsWholeRunEnd k p w left (ends.Fault (ThirdSignal n))) is h)
accepted_end k line w left (ends.Fault Read) p (x, is) h = absurd h
accepted_end k line w left (ends.Fault TooLong) p (x, is) h = absurd h

-- a run that was begun has none of the statuses of one that wasn't
pub whole_begun : {W T O S : Type 0} (k : Relations W T O S) (p : Settings) (w : Writing)
    (left : Option (WholeLeft W T O S)) (ending : WholeEnding) → IsWholeRunEnd k p w left ending
    → is_unbegun (whole_status ending) ≡ true → ⊥
whole_begun k p w left (ends.Outcome o) h unbegun = outcome_begun o unbegun
whole_begun k p w left ends.Receipt h unbegun = cc
whole_begun k p w left ends.Order h unbegun = cc
whole_begun k p w left (ends.Fault Report) h unbegun = cc
whole_begun k p w left (ends.Fault Unfinished) h unbegun = cc
whole_begun k p w left (ends.Fault Memory) h unbegun = cc
whole_begun k p w left (ends.Fault Words) h unbegun = absurd h
whole_begun k p w left (ends.Fault (Line n)) h unbegun = absurd h
whole_begun k p w left (ends.Fault (BadPlan f)) h unbegun = absurd h
whole_begun k p w left (ends.Fault (NotEnabled n)) h unbegun = absurd h
whole_begun k p w left (ends.Fault (ThirdSignal n)) h unbegun = cc
whole_begun k p w left (ends.Fault Read) h unbegun = absurd h
whole_begun k p w left (ends.Fault TooLong) h unbegun = absurd h

-- where the line gives no run, its fault was written
pub fault_end : {W T O S : Type 0} (k : Relations W T O S) (line : List ℕ) (w : Writing)
    (left : Option (WholeLeft W T O S)) (fault : Fault) (ending : WholeEnding) → IsUnrunnable line fault
    → EndsWithout w fault ending → left ≡ None → IsWholeEnd k line w left ending
fault_end k line w left fault ending why (inl m) none =
    subst (λ e. IsWholeEnd k line w left e) (sym m.0) (none, inl (fault, m.1))
fault_end k line w left (Line n) ending why (inr e) none =
    subst (λ e. IsWholeEnd k line w left e) (sym e.0) (why, e.1, none)
fault_end k line w left (BadPlan f) ending why (inr e) none =
    subst (λ e. IsWholeEnd k line w left e) (sym e.0) (why, e.1, none)
fault_end k line w left TooLong ending why (inr e) none =
    subst (λ e. IsWholeEnd k line w left e) (sym e.0) (why, e.1, none)
fault_end k line w left Memory ending why (inr e) none =
    subst (λ e. IsWholeEnd k line w left e) (sym e.0) (none, inl (Memory, short_written [] w e.1))
fault_end k line w left Words ending why (inr e) none = absurd why
fault_end k line w left (NotEnabled n) ending why (inr e) none = absurd why
fault_end k line w left (ThirdSignal n) ending why (inr e) none = absurd why
fault_end k line w left Unfinished ending why (inr e) none = absurd why
fault_end k line w left Report ending why (inr e) none = absurd why
fault_end k line w left Read ending why (inr e) none = absurd why

-- 12
whole_too_long : {W T O S : Type 0} (k : Relations W T O S) (line : List ℕ) (w : Writing)
    (left : Option (WholeLeft W T O S)) (ending : WholeEnding) → IsWholeEnd k line w left ending
    → input_limit < length line → Gets (whole_status ending) 12
whole_too_long k line w left (ends.Outcome o) h long = absurd (omega (arith, long, h.0.said.within))
whole_too_long k line w left ends.Receipt h long = absurd (omega (arith, long, h.0.said.within))
whole_too_long k line w left ends.Order h long = absurd (omega (arith, long, h.0.said.within))
whole_too_long k line w left (ends.Fault Unfinished) h long = absurd (omega (arith, long, h.0.said.within))
whole_too_long k line w left (ends.Fault Report) h long = absurd (omega (arith, long, h.0.said.within))
whole_too_long k line w left (ends.Fault (BadPlan f)) h long = absurd (omega (arith, long, h.0.said.within))
whole_too_long k line w left (ends.Fault (Line n)) h long = absurd (omega (arith, long, h.0.1.within))
whole_too_long k line w left (ends.Fault TooLong) h long = inl refl
whole_too_long k line w left (ends.Fault Memory) h long = inr refl
whole_too_long k line w left (ends.Fault Words) h long = absurd h
whole_too_long k line w left (ends.Fault (NotEnabled n)) h long = absurd h
whole_too_long k line w left (ends.Fault (ThirdSignal n)) h long = absurd (omega (arith, long, h.0.said.within))
whole_too_long k line w left (ends.Fault Read) h long = absurd h

-- a line that says a plan is a plan line
is_plan : {X : Type 0} (line : List ℕ) (keys : RunnerKeys) (plan : Plan) → HasNoPlan line → SaysPlan line keys plan → X
is_plan line keys plan bad said =
    let pair : RunnerKeys × Plan = (keys, plan) in never_refused (plan_line_of line) pair bad.bad said.says

-- 3
whole_bad_line : {W T O S : Type 0} (k : Relations W T O S) (line : List ℕ) (w : Writing)
    (left : Option (WholeLeft W T O S)) (ending : WholeEnding) → IsWholeEnd k line w left ending
    → HasNoPlan line → Gets (whole_status ending) 3
whole_bad_line k line w left (ends.Outcome o) h bad = is_plan line _ _ bad h.0.said
whole_bad_line k line w left ends.Receipt h bad = is_plan line _ _ bad h.0.said
whole_bad_line k line w left ends.Order h bad = is_plan line _ _ bad h.0.said
whole_bad_line k line w left (ends.Fault Unfinished) h bad = is_plan line _ _ bad h.0.said
whole_bad_line k line w left (ends.Fault Report) h bad = is_plan line _ _ bad h.0.said
whole_bad_line k line w left (ends.Fault (BadPlan f)) h bad = is_plan line _ _ bad h.0.said
whole_bad_line k line w left (ends.Fault (Line n)) h bad = inl refl
whole_bad_line k line w left (ends.Fault TooLong) h bad = absurd (omega (arith, bad.within, h.0))
whole_bad_line k line w left (ends.Fault Memory) h bad = inr refl
whole_bad_line k line w left (ends.Fault Words) h bad = absurd h
whole_bad_line k line w left (ends.Fault (NotEnabled n)) h bad = absurd h
whole_bad_line k line w left (ends.Fault (ThirdSignal n)) h bad = is_plan line _ _ bad h.0.said
whole_bad_line k line w left (ends.Fault Read) h bad = absurd h

-- a line says one plan
same_refusal : (line : List ℕ) (k l : RunnerKeys) (p q : Plan) → SaysPlan line k p → SaysPlan line l q
    → plan_refusal l q ≡ plan_refusal k p
same_refusal line k l p q one other =
    let same : (l, q) ≡ (k, p) = same_Some (l, q) (k, p) (sym other.says ∙ one.says) in
    ap (λ (x : RunnerKeys × Plan). plan_refusal x.0 x.1) same

-- 5
whole_refused : {W T O S : Type 0} (k : Relations W T O S) (line : List ℕ) (w : Writing)
    (left : Option (WholeLeft W T O S)) (ending : WholeEnding) → IsWholeEnd k line w left ending
    → (keys : RunnerKeys) (plan : Plan) (error : TestRunnerBuildError) → SaysPlan line keys plan
    → plan_refusal keys plan ≡ Some error → Gets (whole_status ending) 5
whole_refused k line w left (ends.Outcome o) h l q e said refused =
    let same = same_refusal line l h.0.keys q h.0.plan said h.0.said in
    never_refused (plan_refusal l q) e (sym same ∙ h.0.accepted) refused
whole_refused k line w left ends.Receipt h l q e said refused =
    let same = same_refusal line l h.0.keys q h.0.plan said h.0.said in
    never_refused (plan_refusal l q) e (sym same ∙ h.0.accepted) refused
whole_refused k line w left ends.Order h l q e said refused =
    let same = same_refusal line l h.0.keys q h.0.plan said h.0.said in
    never_refused (plan_refusal l q) e (sym same ∙ h.0.accepted) refused
whole_refused k line w left (ends.Fault Unfinished) h l q e said refused =
    let same = same_refusal line l h.0.keys q h.0.plan said h.0.said in
    never_refused (plan_refusal l q) e (sym same ∙ h.0.accepted) refused
whole_refused k line w left (ends.Fault Report) h l q e said refused =
    let same = same_refusal line l h.0.keys q h.0.plan said h.0.said in
    never_refused (plan_refusal l q) e (sym same ∙ h.0.accepted) refused
whole_refused k line w left (ends.Fault (BadPlan f)) h l q e said refused = inl refl
whole_refused k line w left (ends.Fault (Line n)) h l q e said refused = is_plan line l q h.0.1 said
whole_refused k line w left (ends.Fault TooLong) h l q e said refused = absurd (omega (arith, said.within, h.0))
whole_refused k line w left (ends.Fault Memory) h l q e said refused = inr refl
whole_refused k line w left (ends.Fault Words) h l q e said refused = absurd h
whole_refused k line w left (ends.Fault (NotEnabled n)) h l q e said refused = absurd h
whole_refused k line w left (ends.Fault (ThirdSignal n)) h l q e said refused =
    let same = same_refusal line l h.0.keys q h.0.plan said h.0.said in
    never_refused (plan_refusal l q) e (sym same ∙ h.0.accepted) refused
whole_refused k line w left (ends.Fault Read) h l q e said refused = absurd h

-- an outcome's status, 7, 8, 9, 11 or 13
whole_accepted : {W T O S : Type 0} (k : Relations W T O S) (line : List ℕ) (w : Writing)
    (left : Option (WholeLeft W T O S)) (ending : WholeEnding) → IsWholeEnd k line w left ending
    → (keys : RunnerKeys) (plan : Plan) → SaysPlan line keys plan → plan_refusal keys plan ≡ None
    → (whole_status ending ≡ 7) ⊎ IsRunStatus (whole_status ending)
whole_accepted k line w left (ends.Outcome o) h l q said accepted = inr (inl (outcome_is o))
whole_accepted k line w left (ends.Fault Unfinished) h l q said accepted = inr (inr (inl refl))
whole_accepted k line w left (ends.Fault Report) h l q said accepted = inr (inr (inr (inl refl)))
whole_accepted k line w left (ends.Fault Memory) h l q said accepted = inr (inr (inr (inr (inl refl))))
whole_accepted k line w left ends.Receipt h l q said accepted = inr (inr (inr (inr (inr refl))))
whole_accepted k line w left ends.Order h l q said accepted = inr (inr (inr (inr (inr refl))))
whole_accepted k line w left (ends.Fault (BadPlan f)) h l q said accepted =
    let same = same_refusal line l h.0.keys q h.0.plan said h.0.said in
    never_refused (plan_refusal l q) h.0.error accepted (sym same ∙ h.0.refused)
whole_accepted k line w left (ends.Fault (Line n)) h l q said accepted = is_plan line l q h.0.1 said
whole_accepted k line w left (ends.Fault TooLong) h l q said accepted = absurd (omega (arith, said.within, h.0))
whole_accepted k line w left (ends.Fault Words) h l q said accepted = absurd h
whole_accepted k line w left (ends.Fault (NotEnabled n)) h l q said accepted = absurd h
whole_accepted k line w left (ends.Fault (ThirdSignal n)) h l q said accepted = inl refl
whole_accepted k line w left (ends.Fault Read) h l q said accepted = absurd h

-- so each end has its answer
pub answers_whole : {W T O S : Type 0} (k : Relations W T O S) (line : List ℕ) (w : Writing)
    (left : Option (WholeLeft W T O S)) (ending : WholeEnding) → IsWholeEnd k line w left ending
    → AnswersWhole k line w left (whole_status ending)
answers_whole k line w left ending h = record {
  ending = ending;
  status_is = refl;
  says = h;
  causes = record {
    too_long = whole_too_long k line w left ending h;
    bad_line = whole_bad_line k line w left ending h;
    refused = whole_refused k line w left ending h;
    accepted = whole_accepted k line w left ending h;
  };
}
