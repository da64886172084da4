-- What `live` says: of the plan that it reads, of the run that its workers make, and of what it writes.
use Rattle.std.specs.Prelude.{ℕ, ◌≡◌, ◌≢◌, ◌⊎◌, ◌≤◌, ◌<◌, List, [], length, min, max, Option, Some, None, IsSomeAnd}
use Rattle.std.specs.Prelude.{Bool, false, ◌∷◌, ◌==◌, Ok, Err, IsNone}
use Rattle.std.specs.List.{All, list_any}
use Rattle.run_input.specs.declared.plan_line.RunnerKeys.{RunnerKeys}
use Rattle.run_events.specs.declared.input.InputHandlerKind.TheVariants as inputs
use Rattle.run_events.specs.declared.plan.Plan.{Plan}
use Rattle.run_events.specs.declared.settings.Settings.{Settings}
use Rattle.run_events.specs.declared.signal.SignalHandlerKind.TheVariants as signals
use Rattle.run_events.specs.declared.outcome.RunOutcome.{RunOutcome}
use Rattle.run_model.specs.Admission.{units_in}
use Rattle.run_model.specs.Words.{is_over}
use Rattle.run_model.specs.Journal.{past_of, IsLegal}
use Rattle.run_engine.specs.declared.errors.TestRunnerBuildError.{TestRunnerBuildError}
use Rattle.run_input.specs.Lines.{lines_of}
use Rattle.run_input.specs.Input.{IsFirstBadAlone}
use Rattle.run_output.specs.declared.fault.Fault.TheVariants.{Words, Line, Plan as BadPlan, NotEnabled, ThirdSignal}
use Rattle.run_output.specs.declared.fault.Fault.TheVariants.{Unfinished, Report, Read, Memory, TooLong}
use Rattle.run_output.specs.declared.fault.PlanFault.{PlanFault}
use Rattle.run_model.specs.Words.{times}
use Rattle.run_shared.specs.Receipts.{concatenated, receipt_numbers, StandsIn}
use Rattle.run_shared.specs.Closed.{Refuses}
use Rattle.run_shared.specs.declared.closing.CloseKind.TheVariants.{OutOfMemory}
use Rattle.run_drive.specs.declared.spawner.Heard.{Heard}
use Rattle.run_live.specs.Own.{IsLive}
use Rattle.run_live.specs.declared.lived.Live.{Live}
use Rattle.run_cli.specs.declared.live.LiveEnding.{LiveEnding}
use Rattle.run_cli.specs.declared.live.LiveEnding.TheVariants as ends
use Rattle.run_cli.specs.Call.{Call, Reading, Writing, HasTaken, HasReadFault, HasWriteFault, Writes}
use Rattle.run_cli.specs.Cause.{Gets, HasInput, HasTooMuch}
use Rattle.run_cli.specs.Ending.{IsFinished}
use Rattle.run_cli.specs.Executed.{TookParts, WritesRun, report_ending}
use Rattle.run_cli.specs.Given.{SaysInput, IsTooLong, IsWithin, CountsReadAtEnd, input_limit}
use Rattle.run_cli.specs.LiveGiven.{IsLiveWord, HasBadPlanLine}
use Rattle.run_cli.specs.Plans.{settings_for, plan_refusal, fault_of_plan}
use Rattle.run_cli.specs.Status.{IsOutcomeStatus}
use Rattle.run_cli.specs.Unclosed.{WritesRefusal, LivesShort, WantsMemoryAlone}
use Rattle.run_cli.specs.Text.{whole_form, fault_only, rest_text, history_text, outcome_status}
use Rattle.run_output.specs.Faults.{fault_status}

-- a plan whose run hears no signal and no key
abbrev pub unheard : Plan → Plan
unheard plan = record plan { hearing = record plan.hearing { signals = signals.Noop; input = inputs.Noop } }

-- the settings of a plan that is run so, and why it is refused, where it is
abbrev pub live_settings : RunnerKeys → Plan → Settings
live_settings keys plan = settings_for keys (unheard plan)

abbrev pub live_refusal : RunnerKeys → Plan → Option TestRunnerBuildError
live_refusal keys plan = plan_refusal keys (unheard plan)

-- as many workers as may run at a time, or as there are units where they are fewer, and one at least
abbrev pub workers_in : Settings → ℕ
workers_in p = max 1 (min p.threads (units_in p))

-- a run was closed: each receipt stands in its journal, each place of which has one; the receipts and the refusals of
-- each worker are all that its spawner was asked and said, each child heard out
pub record IsClosed {W : Type 0} (has_said : W → List Heard → Type 0) (p : Settings) (l : Live W) : Type 0 where
  pub legal : IsLegal p l.journal
  pub borne_out : IsNone l.error
  pub stands : All (StandsIn l.journal) (concatenated l.receipts)
  pub once : (k : ℕ) → k < length l.journal → times k (receipt_numbers (concatenated l.receipts)) ≡ 1
  pub own : IsLive has_said l.workers.items l.receipts l.refused
  pub count : length l.workers.items ≡ workers_in p

-- the receipts of a run are refused, and why: never for want of memory
pub record IsUnclosed {W : Type 0} (has_said : W → List Heard → Type 0) (p : Settings) (l : Live W) : Type 0 where
  pub why : IsSomeAnd l.error (λ e. Refuses p l.journal (concatenated l.receipts) e.kind × (e.kind ≢ OutOfMemory))
  pub own : IsLive has_said l.workers.items l.receipts l.refused
  pub count : length l.workers.items ≡ workers_in p

-- how a run of real children ends, by what is handed back of it and what the sink took. With an outcome or status 9 it
-- is over; with status 8 its journal is full and it isn't; with status 13 its receipts are refused; with 11 memory was
-- wanting, and nothing of it is handed back
abbrev pub IsRunEnd : {W : Type 0} → (W → List Heard → Type 0) → Settings → Writing → Option (Live W) → LiveEnding
    → Type 0
IsRunEnd said p w live (ends.Outcome o) = IsSomeAnd live (λ l. IsClosed said p l × IsFinished p l.journal o
    × HasTaken w (history_text whole_form (past_of p l.journal) (Ok o))) × (w.faults_after ≡ w.faults)
IsRunEnd said p w live (ends.Fault Report) = IsSomeAnd live (λ l. IsClosed said p l
    × ((o : RunOutcome) × IsFinished p l.journal o
    × TookParts whole_form (past_of p l.journal) (rest_text whole_form (past_of p l.journal)
    (report_ending l.journal o)) w))
    × HasWriteFault w
IsRunEnd said p w live (ends.Fault Unfinished) = IsSomeAnd live (λ l. IsClosed said p l
    × (length l.journal ≡ 4294967295) × (is_over (past_of p l.journal) ≡ false)
    × WritesRun whole_form (past_of p l.journal) (Err Unfinished) w)
IsRunEnd said p w live ends.Receipt = IsSomeAnd live (λ l. IsUnclosed said p l
    × IsSomeAnd l.error (λ e. WritesRefusal p l.journal e.kind w))
IsRunEnd said p w live (ends.Fault Memory) = (live ≡ None) × LivesShort w
IsRunEnd said p w live (ends.Fault _) = ⊥

-- the one word is `live`, the source was read to its end, and its one line says a plan that is accepted
pub record HasLivePlan (c : Call) : Type 0 where
  pub word : IsLiveWord c.words
  pub keys : RunnerKeys
  pub plan : Plan
  pub given : SaysInput c.source keys plan []
  pub accepted : live_refusal keys plan ≡ None

-- how a plan that a line says ends: it is refused, or its run ends so
abbrev pub IsPlanEnd : {W : Type 0} → (W → List Heard → Type 0) → RunnerKeys → Plan → Writing → Option (Live W)
    → LiveEnding → Type 0
IsPlanEnd said keys plan w live (ends.Fault (BadPlan fault)) =
    ((error : TestRunnerBuildError) × (live_refusal keys plan ≡ Some error) × (fault_of_plan error ≡ BadPlan fault))
    × Writes w (fault_only (BadPlan fault)) × (live ≡ None)
IsPlanEnd said keys plan w live (ends.Fault Memory) =
    (live ≡ None) × (WantsMemoryAlone w ⊎ ((live_refusal keys plan ≡ None) × LivesShort w))
IsPlanEnd said keys plan w live (ends.Fault fault) =
    (live_refusal keys plan ≡ None) × IsRunEnd said (live_settings keys plan) w live (ends.Fault fault)
IsPlanEnd said keys plan w live (ends.Outcome o) =
    (live_refusal keys plan ≡ None) × IsRunEnd said (live_settings keys plan) w live (ends.Outcome o)
IsPlanEnd said keys plan w live ends.Receipt =
    (live_refusal keys plan ≡ None) × IsRunEnd said (live_settings keys plan) w live ends.Receipt

-- the source was read to its end, and its one line says a plan that is refused
pub record HasRefusedPlan (r : Reading) (fault : PlanFault) : Type 0 where
  pub keys : RunnerKeys
  pub plan : Plan
  pub given : SaysInput r keys plan []
  pub error : TestRunnerBuildError
  pub refused : live_refusal keys plan ≡ Some error
  pub says : fault_of_plan error ≡ BadPlan fault

-- what each end of `live` says; where the run wasn't made, or memory was wanting, nothing of it is handed back
abbrev pub IsLiveEnd : {W : Type 0} → (W → List Heard → Type 0) → Call → Option (Live W) → LiveEnding → Type 0
IsLiveEnd said c live (ends.Fault (Line number)) =
    HasBadPlanLine c.source number × Writes c.sink (fault_only (Line number)) × (live ≡ None)
IsLiveEnd said c live (ends.Fault (BadPlan fault)) =
    HasRefusedPlan c.source fault × Writes c.sink (fault_only (BadPlan fault)) × (live ≡ None)
IsLiveEnd said c live (ends.Fault Read) =
    IsWithin c.source × HasReadFault c.source × Writes c.sink (fault_only Read) × (live ≡ None)
IsLiveEnd said c live (ends.Fault TooLong) = IsTooLong c.source × Writes c.sink (fault_only TooLong) × (live ≡ None)
IsLiveEnd said c live (ends.Fault Memory) =
    (live ≡ None) × (WantsMemoryAlone c.sink ⊎ (HasLivePlan c × LivesShort c.sink))
IsLiveEnd said c live (ends.Fault Words) = ⊥
IsLiveEnd said c live (ends.Fault (NotEnabled place)) = ⊥
IsLiveEnd said c live (ends.Fault (ThirdSignal place)) = ⊥
IsLiveEnd said c live (ends.Fault Unfinished) =
    (x : HasLivePlan c) × IsRunEnd said (live_settings x.keys x.plan) c.sink live (ends.Fault Unfinished)
IsLiveEnd said c live (ends.Fault Report) =
    (x : HasLivePlan c) × IsRunEnd said (live_settings x.keys x.plan) c.sink live (ends.Fault Report)
IsLiveEnd said c live (ends.Outcome o) =
    (x : HasLivePlan c) × IsRunEnd said (live_settings x.keys x.plan) c.sink live (ends.Outcome o)
IsLiveEnd said c live ends.Receipt =
    (x : HasLivePlan c) × IsRunEnd said (live_settings x.keys x.plan) c.sink live ends.Receipt

-- the status of each end
abbrev pub live_status : LiveEnding → ℕ
live_status (ends.Outcome o) = outcome_status o
live_status (ends.Fault fault) = fault_status fault
live_status ends.Receipt = 13

-- the statuses with which no run was begun: a bad line, a refused plan, a read that failed, an input that is too long
abbrev pub is_unbegun : ℕ → Bool
is_unbegun status = list_any (λ known. known == status) (3 ∷ 5 ∷ 10 ∷ 12 ∷ [])

-- the source's count of faults rose exactly where `live` ends since reading failed; where memory was wanting it may
-- have risen
abbrev pub CountsLive : Reading → LiveEnding → Type 0
CountsLive r (ends.Fault fault) = CountsReadAtEnd {T = Unit {0}} r (Err fault)
CountsLive r _ = r.faults_after ≡ r.faults

-- an outcome's status, 8, 9, 11 or 13
abbrev pub IsRunStatus : ℕ → Type 0
IsRunStatus status =
    IsOutcomeStatus status ⊎ ((status ≡ 8) ⊎ ((status ≡ 9) ⊎ ((status ≡ 11) ⊎ (status ≡ 13))))

-- the source has a plan line alone whose line of this number is the first bad one
pub record HasBadPlanInput (left : Option (List ℕ)) (number : ℕ) : Type 0 where
  pub bytes : List ℕ
  pub told : left ≡ Some bytes
  pub within : length bytes ≤ input_limit
  pub bad : IsFirstBadAlone (lines_of bytes) number

-- what status each cause gives, where the source's bytes are told
pub record GetsLive (r : Reading) (status : ℕ) : Type 0 where
  pub unread : r.faults < r.faults_after → Gets status 10
  pub too_much : ¬ HasReadFault r → HasTooMuch r.left → Gets status 12
  pub bad_line : ¬ HasReadFault r → (number : ℕ) → HasBadPlanInput r.left number → Gets status 3
  pub refused : ¬ HasReadFault r → (keys : RunnerKeys) (plan : Plan) (error : TestRunnerBuildError)
      → HasInput r.left keys plan [] → live_refusal keys plan ≡ Some error → Gets status 5
  pub accepted : ¬ HasReadFault r → (keys : RunnerKeys) (plan : Plan)
      → HasInput r.left keys plan [] → live_refusal keys plan ≡ None → IsRunStatus status

-- what `live` says: one of its ends with this status, and what status each cause gives. The source's count of faults
-- stays but for status 10 and 11
pub record AnswersLive {W : Type 0} (has_said : W → List Heard → Type 0) (c : Call)
    (live : Option (Live W)) (status : ℕ)
    : Type 0 where
  pub ending : LiveEnding
  pub status_is : status ≡ live_status ending
  pub says : IsLiveEnd has_said c live ending
  pub sound_source : (status ≡ 10 → ⊥) → (status ≡ 11 → ⊥) → c.source.faults_after ≡ c.source.faults
  pub causes : GetsLive c.source status
