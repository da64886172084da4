-- Each cause gives its status, of `live`.
use Rattle.std.proofs.Common.{◌≡◌, ℕ, ◌<◌, inl, inr, List, [], ◌∷◌, length, Option, Some, None}
use Rattle.std.proofs.Common.{refl, sym, subst, ◌∙◌, ap, arith}
use Rattle.run_input.specs.declared.plan_line.RunnerKeys.{RunnerKeys}
use Rattle.run_input.specs.Lines.{lines_of}
use Rattle.run_input.specs.Input.{IsInput, IsFirstBadAlone}
use Rattle.run_events.specs.declared.plan.Plan.{Plan}
use Rattle.run_engine.specs.declared.errors.TestRunnerBuildError.{TestRunnerBuildError}
use Rattle.run_output.specs.declared.fault.Fault.TheVariants.{Words, Line, Plan as BadPlan, NotEnabled, ThirdSignal}
use Rattle.run_output.specs.declared.fault.Fault.TheVariants.{Unfinished, Report, Read, Memory, TooLong}
use Rattle.run_drive.specs.declared.spawner.Heard.{Heard}
use Rattle.run_live.specs.declared.lived.Live.{Live}
use Rattle.run_cli.specs.declared.live.LiveEnding.{LiveEnding}
use Rattle.run_cli.specs.declared.live.LiveEnding.TheVariants as ends
use Rattle.run_cli.specs.Call.{Call, Reading, HasReadFault}
use Rattle.run_cli.specs.Cause.{Gets, HasInput, HasTooMuch}
use Rattle.run_cli.specs.Given.{SaysInput}
use Rattle.run_cli.specs.LiveGiven.{HasBadPlanLine}
use Rattle.run_cli.specs.Live.{live_refusal, IsLiveEnd, HasBadPlanInput, CountsLive, GetsLive, IsRunStatus, live_status}
use Rattle.run_cli.specs.Live.{AnswersLive}
use Rattle.run_cli.proofs.CauseLemmas.{all_given, same_input, not_too_long, never_refused, too_much_excludes}
use Rattle.run_cli.proofs.CauseLemmas.{given_excludes}
use Rattle.run_cli.proofs.GivenLemmas.{turns_length}
use Rattle.run_cli.proofs.StatusLemmas.{outcome_is}

-- a plan line alone has no first bad line
alone_good : (lines : List (List ℕ)) (keys : RunnerKeys) (plan : Plan) (number : ℕ) → IsInput lines keys plan []
    → IsFirstBadAlone lines number → ⊥
alone_good [] keys plan number says bad = says
alone_good (first ∷ others) keys plan number says bad =
    let more : (0 < length others) × (number ≡ 2) = rw says.0 at bad in
    let none = turns_length others [] says.1 in
    omega (arith, more.0, none)

bad_excludes_alone : (r : Reading) (keys : RunnerKeys) (plan : Plan) (number : ℕ) → HasBadPlanInput r.left number
    → SaysInput r keys plan [] → ⊥
bad_excludes_alone r keys plan number has given =
    let same = all_given r.left r.left_after has.bytes given.bytes has.told given.given given.end in
    alone_good (lines_of given.bytes) keys plan number given.says
    (subst (λ bytes. IsFirstBadAlone (lines_of bytes) number) same has.bad)

alone_excludes_bad : (r : Reading) (keys : RunnerKeys) (plan : Plan) (number : ℕ) → HasInput r.left keys plan []
    → HasBadPlanLine r number → ⊥
alone_excludes_bad r keys plan number has (bytes, given, end, within, bad) =
    let same = all_given r.left r.left_after has.bytes bytes has.told given end in
    alone_good (lines_of has.bytes) keys plan number has.says
    (subst (λ bytes. IsFirstBadAlone (lines_of bytes) number) (sym same) bad)

-- 10
live_unread : (r : Reading) (ending : LiveEnding) → CountsLive r ending → r.faults < r.faults_after
    → Gets (live_status ending) 10
live_unread r (ends.Outcome o) h lt = absurd (omega arith)
live_unread r ends.Receipt h lt = absurd (omega arith)
live_unread r (ends.Fault Read) h lt = inl refl
live_unread r (ends.Fault Memory) h lt = inr refl
live_unread r (ends.Fault Words) h lt = absurd (omega arith)
live_unread r (ends.Fault (Line n)) h lt = absurd (omega arith)
live_unread r (ends.Fault (BadPlan f)) h lt = absurd (omega arith)
live_unread r (ends.Fault (NotEnabled n)) h lt = absurd (omega arith)
live_unread r (ends.Fault (ThirdSignal n)) h lt = absurd (omega arith)
live_unread r (ends.Fault Unfinished) h lt = absurd (omega arith)
live_unread r (ends.Fault Report) h lt = absurd (omega arith)
live_unread r (ends.Fault TooLong) h lt = absurd (omega arith)

-- 12
live_too_much : {W : Type 0} (said : W → List Heard → Type 0) (c : Call) (live : Option (Live W)) (ending : LiveEnding)
    → IsLiveEnd said c live ending → ¬ HasReadFault c.source → HasTooMuch c.source.left → Gets (live_status ending) 12
live_too_much said c live (ends.Outcome o) h calm has = absurd (given_excludes c.source _ _ _ has h.0.given)
live_too_much said c live ends.Receipt h calm has = absurd (given_excludes c.source _ _ _ has h.0.given)
live_too_much said c live (ends.Fault Unfinished) h calm has = absurd (given_excludes c.source _ _ _ has h.0.given)
live_too_much said c live (ends.Fault Report) h calm has = absurd (given_excludes c.source _ _ _ has h.0.given)
live_too_much said c live (ends.Fault (BadPlan f)) h calm has = absurd (given_excludes c.source _ _ _ has h.0.given)
live_too_much said c live (ends.Fault (Line n)) h calm has =
    absurd (too_much_excludes c.source h.0.0 has h.0.1 h.0.2 h.0.3)
live_too_much said c live (ends.Fault Read) h calm has = absurd (calm h.1)
live_too_much said c live (ends.Fault TooLong) h calm has = inl refl
live_too_much said c live (ends.Fault Memory) h calm has = inr refl
live_too_much said c live (ends.Fault Words) h calm has = absurd h
live_too_much said c live (ends.Fault (NotEnabled n)) h calm has = absurd h
live_too_much said c live (ends.Fault (ThirdSignal n)) h calm has = absurd h

-- 3
live_bad_line : {W : Type 0} (said : W → List Heard → Type 0) (c : Call) (live : Option (Live W)) (ending : LiveEnding)
    → IsLiveEnd said c live ending → ¬ HasReadFault c.source → (number : ℕ) → HasBadPlanInput c.source.left number
    → Gets (live_status ending) 3
live_bad_line said c live (ends.Outcome o) h calm n has = absurd (bad_excludes_alone c.source _ _ n has h.0.given)
live_bad_line said c live ends.Receipt h calm n has = absurd (bad_excludes_alone c.source _ _ n has h.0.given)
live_bad_line said c live (ends.Fault Unfinished) h calm n has =
    absurd (bad_excludes_alone c.source _ _ n has h.0.given)
live_bad_line said c live (ends.Fault Report) h calm n has = absurd (bad_excludes_alone c.source _ _ n has h.0.given)
live_bad_line said c live (ends.Fault (BadPlan f)) h calm n has =
    absurd (bad_excludes_alone c.source _ _ n has h.0.given)
live_bad_line said c live (ends.Fault (Line m)) h calm n has = inl refl
live_bad_line said c live (ends.Fault Read) h calm n has = absurd (calm h.1)
live_bad_line said c live (ends.Fault TooLong) h calm n has =
    absurd (not_too_long c.source has.bytes has.told has.within h.0)
live_bad_line said c live (ends.Fault Memory) h calm n has = inr refl
live_bad_line said c live (ends.Fault Words) h calm n has = absurd h
live_bad_line said c live (ends.Fault (NotEnabled m)) h calm n has = absurd h
live_bad_line said c live (ends.Fault (ThirdSignal m)) h calm n has = absurd h

-- the plan that was read is the one that the source has
same_refusal : (r : Reading) (k l : RunnerKeys) (p q : Plan) → HasInput r.left k p [] → SaysInput r l q []
    → live_refusal l q ≡ live_refusal k p
same_refusal r k l p q has given =
    let same = same_input r k l p q [] [] has given in
    ap (λ k. live_refusal k q) same.0 ∙ ap (λ p. live_refusal k p) same.1

-- 5
live_refused : {W : Type 0} (said : W → List Heard → Type 0) (c : Call) (live : Option (Live W)) (ending : LiveEnding)
    → IsLiveEnd said c live ending → ¬ HasReadFault c.source → (keys : RunnerKeys) (plan : Plan)
    (error : TestRunnerBuildError) → HasInput c.source.left keys plan [] → live_refusal keys plan ≡ Some error
    → Gets (live_status ending) 5
live_refused said c live (ends.Outcome o) h calm k p e has refused =
    let same = same_refusal c.source k h.0.keys p h.0.plan has h.0.given in
    never_refused (live_refusal k p) e (sym same ∙ h.0.accepted) refused
live_refused said c live ends.Receipt h calm k p e has refused =
    let same = same_refusal c.source k h.0.keys p h.0.plan has h.0.given in
    never_refused (live_refusal k p) e (sym same ∙ h.0.accepted) refused
live_refused said c live (ends.Fault Unfinished) h calm k p e has refused =
    let same = same_refusal c.source k h.0.keys p h.0.plan has h.0.given in
    never_refused (live_refusal k p) e (sym same ∙ h.0.accepted) refused
live_refused said c live (ends.Fault Report) h calm k p e has refused =
    let same = same_refusal c.source k h.0.keys p h.0.plan has h.0.given in
    never_refused (live_refusal k p) e (sym same ∙ h.0.accepted) refused
live_refused said c live (ends.Fault (BadPlan f)) h calm k p e has refused = inl refl
live_refused said c live (ends.Fault (Line m)) h calm k p e has refused =
    absurd (alone_excludes_bad c.source k p m has h.0)
live_refused said c live (ends.Fault Read) h calm k p e has refused = absurd (calm h.1)
live_refused said c live (ends.Fault TooLong) h calm k p e has refused =
    absurd (not_too_long c.source has.bytes has.told has.within h.0)
live_refused said c live (ends.Fault Memory) h calm k p e has refused = inr refl
live_refused said c live (ends.Fault Words) h calm k p e has refused = absurd h
live_refused said c live (ends.Fault (NotEnabled m)) h calm k p e has refused = absurd h
live_refused said c live (ends.Fault (ThirdSignal m)) h calm k p e has refused = absurd h

-- an outcome's status, 8, 9, 11 or 13
live_accepted : {W : Type 0} (said : W → List Heard → Type 0) (c : Call) (live : Option (Live W)) (ending : LiveEnding)
    → IsLiveEnd said c live ending → ¬ HasReadFault c.source → (keys : RunnerKeys) (plan : Plan)
    → HasInput c.source.left keys plan [] → live_refusal keys plan ≡ None → IsRunStatus (live_status ending)
live_accepted said c live (ends.Outcome o) h calm k p has accepted = inl (outcome_is o)
live_accepted said c live (ends.Fault Unfinished) h calm k p has accepted = inr (inl refl)
live_accepted said c live (ends.Fault Report) h calm k p has accepted = inr (inr (inl refl))
live_accepted said c live (ends.Fault Memory) h calm k p has accepted = inr (inr (inr (inl refl)))
live_accepted said c live ends.Receipt h calm k p has accepted = inr (inr (inr (inr refl)))
live_accepted said c live (ends.Fault (BadPlan f)) h calm k p has accepted =
    let same = same_refusal c.source k h.0.keys p h.0.plan has h.0.given in
    never_refused (live_refusal k p) h.0.error accepted (sym same ∙ h.0.refused)
live_accepted said c live (ends.Fault (Line m)) h calm k p has accepted =
    absurd (alone_excludes_bad c.source k p m has h.0)
live_accepted said c live (ends.Fault Read) h calm k p has accepted = absurd (calm h.1)
live_accepted said c live (ends.Fault TooLong) h calm k p has accepted =
    absurd (not_too_long c.source has.bytes has.told has.within h.0)
live_accepted said c live (ends.Fault Words) h calm k p has accepted = absurd h
live_accepted said c live (ends.Fault (NotEnabled m)) h calm k p has accepted = absurd h
live_accepted said c live (ends.Fault (ThirdSignal m)) h calm k p has accepted = absurd h

-- so each cause gives its status
pub gets_live : {W : Type 0} (said : W → List Heard → Type 0) (c : Call) (live : Option (Live W)) (ending : LiveEnding)
    → IsLiveEnd said c live ending → CountsLive c.source ending → GetsLive c.source (live_status ending)
gets_live said c live ending h n = record {
  unread = live_unread c.source ending n;
  too_much = live_too_much said c live ending h;
  bad_line = live_bad_line said c live ending h;
  refused = live_refused said c live ending h;
  accepted = live_accepted said c live ending h;
}

-- and the source's count stays, but where reading failed or memory was wanting
pub live_stayed : (r : Reading) (ending : LiveEnding) → CountsLive r ending → (live_status ending ≡ 10 → ⊥)
    → (live_status ending ≡ 11 → ⊥) → r.faults_after ≡ r.faults
live_stayed r (ends.Outcome o) h t m = h
live_stayed r ends.Receipt h t m = h
live_stayed r (ends.Fault Read) h t m = absurd (t refl)
live_stayed r (ends.Fault Memory) h t m = absurd (m refl)
live_stayed r (ends.Fault Words) h t m = h
live_stayed r (ends.Fault (Line n)) h t m = h
live_stayed r (ends.Fault (BadPlan f)) h t m = h
live_stayed r (ends.Fault (NotEnabled n)) h t m = h
live_stayed r (ends.Fault (ThirdSignal n)) h t m = h
live_stayed r (ends.Fault Unfinished) h t m = h
live_stayed r (ends.Fault Report) h t m = h
live_stayed r (ends.Fault TooLong) h t m = h

-- so each end of `live` has its answer
pub answers_live : {W : Type 0} (said : W → List Heard → Type 0) (c : Call) (live : Option (Live W))
    (ending : LiveEnding) → IsLiveEnd said c live ending → CountsLive c.source ending
    → AnswersLive said c live (live_status ending)
answers_live said c live ending h n = record {
  ending = ending;
  status_is = refl;
  says = h;
  sound_source = live_stayed c.source ending n;
  causes = gets_live said c live ending h n;
}
