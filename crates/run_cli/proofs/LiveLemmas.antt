-- How `live` ends, by what the source gave and how the run of its plan ended.
use Rattle.std.proofs.Common.{◌≡◌, ◌≤◌, ◌⊎◌, inl, inr, List, [], Option, None, true}
use Rattle.std.proofs.Common.{Err}
use Rattle.std.proofs.Common.{refl, sym, subst, arith}
use Rattle.run_input.specs.declared.plan_line.RunnerKeys.{RunnerKeys}
use Rattle.run_events.specs.declared.plan.Plan.{Plan}
use Rattle.run_engine.specs.Builder.{IsBuilt}
use Rattle.run_engine.specs.declared.errors.TestRunnerBuildError.{TestRunnerBuildError}
use Rattle.run_engine.specs.declared.errors.TestRunnerBuildError.TheVariants as build
use Rattle.run_events.specs.declared.settings.Settings.{Settings}
use Rattle.run_events.specs.declared.outcome.RunOutcome.{RunOutcome}
use Rattle.run_events.specs.declared.outcome.RunOutcome.TheVariants as outcomes
use Rattle.run_events.specs.declared.outcome.RunStep.TheVariants as steps
use Rattle.run_output.specs.declared.fault.Fault.{Fault}
use Rattle.run_output.specs.declared.fault.Fault.TheVariants.{Words, Line, Plan as BadPlan, NotEnabled, ThirdSignal}
use Rattle.run_output.specs.declared.fault.Fault.TheVariants.{Unfinished, Report, Read, Memory, TooLong}
use Rattle.run_drive.specs.declared.spawner.Heard.{Heard}
use Rattle.run_live.specs.declared.lived.Live.{Live}
use Rattle.run_cli.specs.declared.live.LiveEnding.{LiveEnding}
use Rattle.run_cli.specs.declared.live.LiveEnding.TheVariants as ends
use Rattle.run_cli.specs.Call.{Call, Reading, Writing}
use Rattle.run_cli.specs.Given.{SaysInput, CountsRead}
use Rattle.run_cli.specs.LiveGiven.{IsLiveWord, IsLineFault}
use Rattle.run_cli.specs.Live.{live_settings, live_refusal, unheard, HasLivePlan, IsRunEnd, IsPlanEnd, IsLiveEnd}
use Rattle.run_cli.specs.Live.{CountsLive, is_unbegun, live_status}
use Rattle.run_cli.specs.Short.{IsShort}
use Rattle.run_cli.specs.Text.{fault_only, outcome_status}
use Rattle.run_cli.specs.Unclosed.{LivesShort, WantsMemoryAlone}
use Rattle.run_cli.proofs.ShortLemmas.{short_written}
use Rattle.run_cli.specs.Lived.{IsFaultEnd}
use Rattle.run_cli.specs.Plans.{builder_of, fault_of_plan}

-- the end of a plan that was accepted is that of its run
pub accepted_end : {W : Type 0} (said : W → List Heard → Type 0) (keys : RunnerKeys) (plan : Plan) (w : Writing)
    (live : Option (Live W)) (ending : LiveEnding) → live_refusal keys plan ≡ None
    → IsRunEnd said (live_settings keys plan) w live ending → IsPlanEnd said keys plan w live ending
accepted_end said keys plan w live (ends.Outcome o) accepted h = (accepted, h)
accepted_end said keys plan w live ends.Receipt accepted h = (accepted, h)
accepted_end said keys plan w live (ends.Fault Report) accepted h = (accepted, h)
accepted_end said keys plan w live (ends.Fault Unfinished) accepted h = (accepted, h)
accepted_end said keys plan w live (ends.Fault Memory) accepted h = (h.0, inr (accepted, h.1))
accepted_end said keys plan w live (ends.Fault Words) accepted h = absurd h
accepted_end said keys plan w live (ends.Fault (Line n)) accepted h = absurd h
accepted_end said keys plan w live (ends.Fault (BadPlan f)) accepted h = absurd h
accepted_end said keys plan w live (ends.Fault (NotEnabled n)) accepted h = absurd h
accepted_end said keys plan w live (ends.Fault (ThirdSignal n)) accepted h = absurd h
accepted_end said keys plan w live (ends.Fault Read) accepted h = absurd h
accepted_end said keys plan w live (ends.Fault TooLong) accepted h = absurd h

-- want of memory is an end of every plan and of every call
memory_plan : {W : Type 0} (said : W → List Heard → Type 0) (keys : RunnerKeys) (plan : Plan) (w : Writing)
    (live : Option (Live W)) (ending : LiveEnding) (fault : Fault) → ending ≡ ends.Fault Memory → live ≡ None
    → IsShort (fault_only fault) w → IsPlanEnd said keys plan w live ending
memory_plan said keys plan w live ending fault is none short =
    subst (λ e. IsPlanEnd said keys plan w live e) (sym is) (none, inl (fault, short))

-- the end of a plan that is refused
pub refused_end : {W : Type 0} (said : W → List Heard → Type 0) (keys : RunnerKeys) (plan : Plan) (w : Writing)
    (live : Option (Live W)) (ending : LiveEnding) (error : TestRunnerBuildError)
    → IsBuilt (builder_of keys) (unheard plan) (Err error) → IsFaultEnd w (fault_of_plan error) ending → live ≡ None
    → IsPlanEnd said keys plan w live ending
refused_end said keys plan w live ending error h (inl m) none =
    memory_plan said keys plan w live ending (fault_of_plan error) m.0 none m.1
refused_end said keys plan w live ending build.OutOfMemory h (inr e) none =
    memory_plan said keys plan w live ending Memory e.0 none (short_written [] w e.1)
refused_end said keys plan w live ending (build.ZeroLimit g) h (inr e) none =
    subst (λ e. IsPlanEnd said keys plan w live e) (sym e.0) ((build.ZeroLimit g, h, refl), e.1, none)
refused_end said keys plan w live ending (build.DuplicateTest k) h (inr e) none =
    subst (λ e. IsPlanEnd said keys plan w live e) (sym e.0) ((build.DuplicateTest k, h, refl), e.1, none)
refused_end said keys plan w live ending (build.UnknownGroup k) h (inr e) none =
    subst (λ e. IsPlanEnd said keys plan w live e) (sym e.0) ((build.UnknownGroup k, h, refl), e.1, none)
refused_end said keys plan w live ending (build.ZeroWeight k) h (inr e) none =
    subst (λ e. IsPlanEnd said keys plan w live e) (sym e.0) ((build.ZeroWeight k, h, refl), e.1, none)
refused_end said keys plan w live ending (build.TooManyRetries k) h (inr e) none =
    subst (λ e. IsPlanEnd said keys plan w live e) (sym e.0) ((build.TooManyRetries k, h, refl), e.1, none)

-- the end of a call whose source gave a plan alone
pub plan_says : {W : Type 0} (said : W → List Heard → Type 0) (c : Call) (keys : RunnerKeys) (plan : Plan)
    (live : Option (Live W)) (ending : LiveEnding) → IsLiveWord c.words → SaysInput c.source keys plan []
    → IsPlanEnd said keys plan c.sink live ending → IsLiveEnd said c live ending
plan_says said c keys plan live (ends.Outcome o) word given h =
    (record { word = word; keys = keys; plan = plan; given = given; accepted = h.0 }, h.1)
plan_says said c keys plan live ends.Receipt word given h =
    (record { word = word; keys = keys; plan = plan; given = given; accepted = h.0 }, h.1)
plan_says said c keys plan live (ends.Fault Report) word given h =
    (record { word = word; keys = keys; plan = plan; given = given; accepted = h.0 }, h.1)
plan_says said c keys plan live (ends.Fault Unfinished) word given h =
    (record { word = word; keys = keys; plan = plan; given = given; accepted = h.0 }, h.1)
plan_says said c keys plan live (ends.Fault (BadPlan f)) word given h =
    (record { keys = keys; plan = plan; given = given; error = h.0.0; refused = h.0.1; says = h.0.2 }, h.1, h.2)
plan_says said c keys plan live (ends.Fault Memory) word given h = (h.0, by_run h.1)
  where
    by_run : WantsMemoryAlone c.sink ⊎ ((live_refusal keys plan ≡ None) × LivesShort c.sink)
        → WantsMemoryAlone c.sink ⊎ (HasLivePlan c × LivesShort c.sink)
    by_run (inl before) = inl before
    by_run (inr run) =
        inr (record { word = word; keys = keys; plan = plan; given = given; accepted = run.0 }, run.1)
plan_says said c keys plan live (ends.Fault Words) word given h = absurd h.1
plan_says said c keys plan live (ends.Fault (Line n)) word given h = absurd h.1
plan_says said c keys plan live (ends.Fault (NotEnabled n)) word given h = absurd h.1
plan_says said c keys plan live (ends.Fault (ThirdSignal n)) word given h = absurd h.1
plan_says said c keys plan live (ends.Fault Read) word given h = absurd h.1
plan_says said c keys plan live (ends.Fault TooLong) word given h = absurd h.1

-- and of one whose source gave none
pub fault_says : {W : Type 0} (said : W → List Heard → Type 0) (c : Call) (fault : Fault) (live : Option (Live W))
    (ending : LiveEnding) → IsLineFault c.source fault → CountsRead {T = RunnerKeys × Plan} c.source (Err fault)
    → IsFaultEnd c.sink fault ending → live ≡ None → IsLiveEnd said c live ending
fault_says said c fault live ending why counted (inl m) none =
    subst (λ e. IsLiveEnd said c live e) (sym m.0) (none, inl (fault, m.1))
fault_says said c (Line n) live ending why counted (inr e) none =
    subst (λ e. IsLiveEnd said c live e) (sym e.0) (why, e.1, none)
fault_says said c Read live ending why counted (inr e) none =
    subst (λ e. IsLiveEnd said c live e) (sym e.0) (why, counted.1, e.1, none)
fault_says said c TooLong live ending why counted (inr e) none =
    subst (λ e. IsLiveEnd said c live e) (sym e.0) (why, e.1, none)
fault_says said c Memory live ending why counted (inr e) none =
    subst (λ e. IsLiveEnd said c live e) (sym e.0) (none, inl (Memory, short_written [] c.sink e.1))
fault_says said c Words live ending why counted (inr e) none = absurd why
fault_says said c (BadPlan f) live ending why counted (inr e) none = absurd why
fault_says said c (NotEnabled n) live ending why counted (inr e) none = absurd why
fault_says said c (ThirdSignal n) live ending why counted (inr e) none = absurd why
fault_says said c Unfinished live ending why counted (inr e) none = absurd why
fault_says said c Report live ending why counted (inr e) none = absurd why

-- the source's count of faults stays where a plan was read
pub plan_counts : {W : Type 0} (said : W → List Heard → Type 0) (keys : RunnerKeys) (plan : Plan) (w : Writing)
    (r : Reading) (live : Option (Live W)) (ending : LiveEnding) → r.faults_after ≡ r.faults
    → IsPlanEnd said keys plan w live ending → CountsLive r ending
plan_counts said keys plan w r live (ends.Outcome o) same h = same
plan_counts said keys plan w r live ends.Receipt same h = same
plan_counts said keys plan w r live (ends.Fault Report) same h = same
plan_counts said keys plan w r live (ends.Fault Unfinished) same h = same
plan_counts said keys plan w r live (ends.Fault Memory) same h = omega arith
plan_counts said keys plan w r live (ends.Fault (BadPlan f)) same h = same
plan_counts said keys plan w r live (ends.Fault Words) same h = same
plan_counts said keys plan w r live (ends.Fault (Line n)) same h = same
plan_counts said keys plan w r live (ends.Fault (NotEnabled n)) same h = same
plan_counts said keys plan w r live (ends.Fault (ThirdSignal n)) same h = same
plan_counts said keys plan w r live (ends.Fault Read) same h = absurd h.1
plan_counts said keys plan w r live (ends.Fault TooLong) same h = same

-- and rises where reading failed
pub fault_counts : (w : Writing) (r : Reading) (fault : Fault) (ending : LiveEnding) → IsLineFault r fault
    → CountsRead {T = RunnerKeys × Plan} r (Err fault) → IsFaultEnd w fault ending → CountsLive r ending
fault_counts w r fault ending why counted (inl m) = subst (CountsLive r) (sym m.0) (grown fault counted)
  where
    grown : (fault : Fault) → CountsRead {T = RunnerKeys × Plan} r (Err fault) → r.faults ≤ r.faults_after
    grown Read h = h.0
    grown Words h = omega arith
    grown (Line n) h = omega arith
    grown (BadPlan f) h = omega arith
    grown (NotEnabled n) h = omega arith
    grown (ThirdSignal n) h = omega arith
    grown Unfinished h = omega arith
    grown Report h = omega arith
    grown Memory h = omega arith
    grown TooLong h = omega arith
fault_counts w r fault ending why counted (inr e) = subst (CountsLive r) (sym e.0) (own fault why counted)
  where
    own : (fault : Fault) → IsLineFault r fault → CountsRead {T = RunnerKeys × Plan} r (Err fault)
        → CountsLive r (ends.Fault fault)
    own Read why h = h.1
    own (Line n) why h = h
    own TooLong why h = h
    own Memory why h = omega arith
    own Words why h = absurd why
    own (BadPlan f) why h = absurd why
    own (NotEnabled n) why h = absurd why
    own (ThirdSignal n) why h = absurd why
    own Unfinished why h = absurd why
    own Report why h = absurd why

-- a run that was begun has none of the statuses of one that wasn't
pub outcome_begun : (o : RunOutcome) → is_unbegun (outcome_status o) ≡ true → ⊥
outcome_begun outcomes.Success h = cc
outcome_begun outcomes.NoTestsRun h = cc
outcome_begun (outcomes.Failed steps.Test) h = cc
outcome_begun (outcomes.Failed steps.SetupScript) h = cc
outcome_begun (outcomes.Cancelled steps.Test) h = cc
outcome_begun (outcomes.Cancelled steps.SetupScript) h = cc

pub run_begun : {W : Type 0} (said : W → List Heard → Type 0) (p : Settings) (w : Writing) (live : Option (Live W))
    (ending : LiveEnding) → IsRunEnd said p w live ending → is_unbegun (live_status ending) ≡ true → ⊥
run_begun said p w live (ends.Outcome o) h unbegun = outcome_begun o unbegun
run_begun said p w live ends.Receipt h unbegun = cc
run_begun said p w live (ends.Fault Report) h unbegun = cc
run_begun said p w live (ends.Fault Unfinished) h unbegun = cc
run_begun said p w live (ends.Fault Memory) h unbegun = cc
run_begun said p w live (ends.Fault Words) h unbegun = absurd h
run_begun said p w live (ends.Fault (Line n)) h unbegun = absurd h
run_begun said p w live (ends.Fault (BadPlan f)) h unbegun = absurd h
run_begun said p w live (ends.Fault (NotEnabled n)) h unbegun = absurd h
run_begun said p w live (ends.Fault (ThirdSignal n)) h unbegun = absurd h
run_begun said p w live (ends.Fault Read) h unbegun = absurd h
run_begun said p w live (ends.Fault TooLong) h unbegun = absurd h
