-- What the words and the source give, and how the program ends by it.
use Rattle.std.proofs.Common.{◌≡◌, ℕ, nat_lt, suc, ◌+◌, ◌^◌, ◌<◌, ◌≤◌, ◌==◌, inl, inr, List, [], ◌∷◌, length}
use Rattle.std.proofs.Common.{reverse, Bool, true, false, if◌then◌else◌, Option, Some, None, option_and_then, Result}
use Rattle.std.proofs.Common.{Ok, Err, refl, ap, sym, subst, ◌∙◌, arith, codes}
use Rattle.run_input.specs.declared.plan_line.RunnerKeys.{RunnerKeys}
use Rattle.run_commands.specs.declared.target_runner.TargetRunner.{TargetRunner}
use Rattle.run_events.specs.declared.plan.Group.{Group}
use Rattle.run_events.specs.declared.plan.Plan.{Plan}
use Rattle.run_events.specs.declared.plan.PlanScript.{PlanScript}
use Rattle.run_events.specs.declared.plan.PlanTest.{PlanTest}
use Rattle.run_events.specs.declared.plan.RunHead.{RunHead}
use Rattle.run_events.specs.declared.plan.Hearing.{Hearing}
use Rattle.run_events.specs.declared.turn.Turn.{Turn}
use Rattle.run_events.specs.declared.outcome.RunOutcome.{RunOutcome}
use Rattle.run_events.specs.declared.settings.Settings.{Settings}
use Rattle.run_model.specs.declared.entry.Entry.{Entry}
use Rattle.run_model.specs.Journal.{past_of, IsLegal, outcome}
use Rattle.run_laws.specs.Course.{turns_of as journal_turns}
use Rattle.run_laws.proofs.told.FateLemmas.{ended_fates, over_ended}
use Rattle.run_laws.proofs.told.Outcomes.{over_is}
use Rattle.run_engine.specs.Builder.{IsBuilt}
use Rattle.run_engine.specs.Execution.{IsRefusedAt}
use Rattle.run_engine.specs.declared.errors.TestRunnerBuildError.{TestRunnerBuildError}
use Rattle.run_engine.specs.declared.errors.TestRunnerBuildError.TheVariants as build
use Rattle.std.proofs.lemmas.Option.{same_Some}
use Rattle.run_input.specs.Lines.{lines_of, at_front}
use Rattle.run_input.specs.Input.{IsInput, plan_line_of, turns_said, turn_line_of}
use Rattle.run_input.specs.PlanHead.{frame_of}
use Rattle.run_input.specs.PlanLine.{keys_of, rules_from, plan_scripts_of, plan_tests_of, plan_groups_of, lists_of}
use Rattle.run_input.specs.PlanLine.{plan_names, plan_with, plan_alone_of, plan_of, plan_version_of}
use Rattle.run_input.specs.Fields.{when, is_object_of, or_usual}
use Rattle.run_input.specs.ValueOf.{json_value}
use Rattle.serde_json.specs.Data.{Data}
use Rattle.serde_json.specs.Find.{get}
use Rattle.run_output.specs.declared.fault.Fault.{Fault}
use Rattle.run_output.specs.declared.fault.Fault.TheVariants.{Words, Line, Plan as BadPlan, NotEnabled, ThirdSignal}
use Rattle.run_output.specs.declared.fault.Fault.TheVariants.{Unfinished, Report, Read, Memory, TooLong}
use Rattle.run_cli.specs.Call.{Call, Reading, Writing, Writes}
use Rattle.run_cli.specs.Plans.{builder_of, settings_for, plan_refusal, fault_of_plan}
use Rattle.run_cli.specs.Text.{fault_only}
use Rattle.run_cli.specs.Commands.{IsNamedBy, form_of}
use Rattle.run_cli.specs.declared.command.Command.{Command}
use Rattle.run_cli.specs.Given.{SaysInput, IsGivenFault, CountsRead, CountsReadAtEnd}
use Rattle.run_cli.specs.Ending.{Replays, IsFinished, IsWholeRun, StopsBefore, IsEnding}
use Rattle.run_cli.proofs.ShortLemmas.{short_written}
use Rattle.run_cli.specs.Finish.{EndsAtFault, IsReplayed, IsReplayEnding, IsInputEnding}

-- no more lines than bytes
front_length : (byte : ℕ) (lines : List (List ℕ)) (n : ℕ) → length lines ≤ n → length (at_front byte lines) ≤ n + 1
front_length byte [] n h = omega arith
front_length byte (line ∷ lines) n h = omega arith

lines_length : (bytes : List ℕ) → length (lines_of bytes) ≤ length bytes
lines_length [] = omega arith
lines_length (byte ∷ bytes) = by_end (byte == 10) (lines_length bytes)
  where
    by_end : (b : Bool) → length (lines_of bytes) ≤ length bytes
        → length (if b then [] ∷ lines_of bytes else at_front byte (lines_of bytes)) ≤ length (byte ∷ bytes)
    by_end true h = omega arith
    by_end false h = omega (arith, front_length byte (lines_of bytes) (length bytes) h)

-- what a chain of readings gives came from each of them
then_some : {A B : Type 0} (o : Option A) (f : A → Option B) (y : B) → option_and_then f o ≡ Some y
    → (x : A) × (o ≡ Some x) × (f x ≡ Some y)
then_some None f y e = cc
then_some (Some x) f y e = (x, refl, e)

-- as many turns as lines
pub turns_length : (lines : List (List ℕ)) (turns : List Turn) → turns_said lines ≡ Some turns
    → length turns ≡ length lines
turns_length [] turns e = cc
turns_length (line ∷ lines) turns e =
    let one = then_some (turn_line_of line) (λ turn. option_and_then (λ turns. Some (turn ∷ turns)) (turns_said lines))
    turns e in
    let rest = then_some (turns_said lines) (λ turns. Some (one.0 ∷ turns)) turns one.2 in
    let more : length rest.0 ≡ length lines = turns_length lines rest.0 rest.1 in
    let same : one.0 ∷ rest.0 ≡ turns = cc in
    sym (ap length same) ∙ ap (λ n. suc n) more

-- a test that lets through holds
when_is : (b : Bool) (u : Unit {0}) → when b ≡ Some u → b ≡ true
when_is true u e = refl
when_is false u e = cc

-- a plan that a line says has few units
abbrev pub IsFew : Plan → Type 0
IsFew plan = length plan.scripts + length plan.tests < 2 ^ 32

-- a plan with few scripts and tests has few units
few_plan : (rules : Hearing × Option ℕ) (frame : RunHead × TargetRunner)
    (lists : List Group × List PlanScript × List PlanTest)
    → length lists.1 + length lists.2 < 2 ^ 32 → IsFew (plan_with rules frame lists)
few_plan rules frame lists few = few

-- the scripts and tests of a plan line are few
few_lists : (version : ℕ) (d : Data) (lists : List Group × List PlanScript × List PlanTest)
    → lists_of version d ≡ Some lists → length lists.1 + length lists.2 < 2 ^ 32
few_lists version d lists e =
    let few : ℕ → ℕ → Bool = λ m n. nat_lt (m + n) 4294967296 in
    let groups : Option Data = get (codes "groups") d in
    let scripts : Option Data = get (codes "scripts") d in
    let tests : Option Data = get (codes "tests") d in
    let gs = then_some (plan_groups_of groups)
    (λ gs. option_and_then (λ ss. option_and_then (λ ts. option_and_then (λ _. Some (gs, ss, ts))
    (when (few (length ss) (length ts)))) (plan_tests_of version tests)) (plan_scripts_of scripts)) lists e in
    let ss = then_some (plan_scripts_of scripts)
    (λ ss. option_and_then (λ ts. option_and_then (λ _. Some (gs.0, ss, ts))
    (when (few (length ss) (length ts)))) (plan_tests_of version tests)) lists gs.2 in
    let ts = then_some (plan_tests_of version tests)
    (λ ts. option_and_then (λ _. Some (gs.0, ss.0, ts)) (when (few (length ss.0) (length ts)))) lists ss.2 in
    let last = then_some (when (few (length ss.0) (length ts.0))) (λ _. Some (gs.0, ss.0, ts.0)) lists ts.2 in
    let fewer : length ss.0 + length ts.0 < 2 ^ 32 =
    grind (arith, when_is (few (length ss.0) (length ts.0)) last.0 last.1) in
    let same : (gs.0, ss.0, ts.0) ≡ lists = same_Some (gs.0, ss.0, ts.0) lists last.2 in
    subst (λ (x : List Group × List PlanScript × List PlanTest). length x.1 + length x.2 < 2 ^ 32) same fewer

few_as : (k l : RunnerKeys) (p q : Plan) → ◌≡◌ {A = RunnerKeys × Plan} (k, p) (l, q) → IsFew p → IsFew q
few_as k l p q e few = subst IsFew (ap (λ (x : RunnerKeys × Plan). x.1) e) few

few_alone : (d : Data) (plan : Plan) → plan_alone_of d ≡ Some plan → IsFew plan
few_alone d plan e =
    let v = then_some (or_usual 1 plan_version_of (get (codes "version") d))
    (λ v. option_and_then (λ r. option_and_then (λ f. option_and_then (λ l. Some (plan_with r f l)) (lists_of v d))
    (frame_of d)) (rules_from d)) plan e in
    let r = then_some (rules_from d)
    (λ r. option_and_then (λ f. option_and_then (λ l. Some (plan_with r f l)) (lists_of v.0 d)) (frame_of d)) plan
    v.2 in
    let f = then_some (frame_of d) (λ f. option_and_then (λ l. Some (plan_with r.0 f l)) (lists_of v.0 d)) plan r.2 in
    let l = then_some (lists_of v.0 d) (λ l. Some (plan_with r.0 f.0 l)) plan f.2 in
    let says : Plan = plan_with r.0 f.0 l.0 in
    subst IsFew (same_Some says plan l.2) (few_plan r.0 f.0 l.0 (few_lists v.0 d l.0 l.1))

few_line : (d : Data) (keys : RunnerKeys) (plan : Plan) → plan_of d ≡ Some (keys, plan) → IsFew plan
unfolding plan_of
few_line d keys plan e =
    let a = then_some (when (is_object_of plan_names d))
    (λ _. option_and_then (λ k. option_and_then (λ p. Some (k, p)) (plan_alone_of d)) (keys_of d)) (keys, plan) e in
    let k = then_some (keys_of d) (λ k. option_and_then (λ p. Some (k, p)) (plan_alone_of d)) (keys, plan) a.2 in
    let p = then_some (plan_alone_of d) (λ p. Some (k.0, p)) (keys, plan) k.2 in
    let pair : (k.0, p.0) ≡ (keys, plan) = same_Some (k.0, p.0) (keys, plan) p.2 in
    few_as k.0 keys p.0 plan pair (few_alone d p.0 p.1)

-- of a line too
pub line_few : (line : List ℕ) (keys : RunnerKeys) (plan : Plan) → plan_line_of line ≡ Some (keys, plan) → IsFew plan
line_few line keys plan e =
    let read = then_some (json_value line) plan_of (keys, plan) e in few_line read.0 keys plan read.2

-- an input has few units and few turns
pub given_few : (r : Reading) (keys : RunnerKeys) (plan : Plan) (turns : List Turn)
    → SaysInput r keys plan turns
    → IsFew plan × (length turns < 2 ^ 32)
given_few r keys plan turns g = by_lines (lines_of g.bytes) refl g.says
  where
    by_lines : (lines : List (List ℕ)) → lines_of g.bytes ≡ lines → IsInput lines keys plan turns
        → IsFew plan × (length turns < 2 ^ 32)
    by_lines [] e i = absurd i
    by_lines (first ∷ others) e i =
        let few : IsFew plan = line_few first keys plan i.0 in
        let many : length turns ≡ length others = turns_length others turns i.1 in
        let same : length (lines_of g.bytes) ≡ length (first ∷ others) = ap length e in
        (few, omega (arith, lines_length g.bytes, g.within))

-- a run that has an outcome is finished
pub finished : (p : Settings) (journal : List Entry) (o : RunOutcome) → IsLegal p journal
    → outcome p (past_of p journal) ≡ Some o → IsFinished p journal o
finished p journal o legal e = record {
  over = e;
  accounts = ended_fates p (reverse journal) legal;
  ended = over_ended p (reverse journal) legal (over_is p (past_of p journal) o e);
}

-- a run that took every turn and has an outcome is whole
whole : (c : Call) (r : Replays c) (o : RunOutcome) → journal_turns r.journal ≡ r.turns
    → outcome (settings_for r.keys r.plan) (past_of (settings_for r.keys r.plan) r.journal) ≡ Some o → IsWholeRun r o
whole c r o all e = record { all = all; finished = finished (settings_for r.keys r.plan) r.journal o r.legal e }

-- the call whose input was good, with what its run has taken
replays : (c : Call) (command : Command) (keys : RunnerKeys) (plan : Plan) (turns : List Turn)
    → IsNamedBy command c.words
    → SaysInput c.source keys plan turns
    → plan_refusal keys plan ≡ None → IsReplayed (settings_for keys plan) c.sink → Replays c
replays c command keys plan turns named given accepted r = record {
  command = command;
  named = named;
  keys = keys;
  plan = plan;
  turns = turns;
  given = given;
  accepted = accepted;
  journal = r.journal;
  legal = r.legal;
  tied = r.tied;
}

stops_before : (c : Call) (r : Replays c) (place : ℕ) (third : Bool)
    → IsRefusedAt (settings_for r.keys r.plan) r.turns r.journal place third → StopsBefore r place third
stops_before c r place third h =
    record { before = h.0; turn = h.1.0; at = h.1.1; refused = h.1.2; whether = h.1.3 }

-- how a program ends whose input was good
pub given_says : (c : Call) (command : Command) (keys : RunnerKeys) (plan : Plan) (turns : List Turn)
    (ending : Result RunOutcome Fault)
    → IsNamedBy command c.words → SaysInput c.source keys plan turns
    → IsInputEnding command keys plan turns c.sink ending → IsEnding c ending
unfolding replays
given_says c command keys plan turns (Ok o) named given (accepted, h) =
    let r = replays c command keys plan turns named given accepted h.0 in
    (r, whole c r o h.1 h.2, h.3, h.4, h.5)
given_says c command keys plan turns (Err Report) named given (accepted, h) =
    let r = replays c command keys plan turns named given accepted h.0 in
    (r, h.2.0, whole c r h.2.0 h.1 h.2.1, h.2.2, h.3)
given_says c command keys plan turns (Err (NotEnabled place)) named given (accepted, h) = (
  replays c command keys plan turns named given accepted h.0,
  stops_before c (replays c command keys plan turns named given accepted h.0) place false h.1,
  h.2,
)
given_says c command keys plan turns (Err (ThirdSignal place)) named given (accepted, h) = (
  replays c command keys plan turns named given accepted h.0,
  stops_before c (replays c command keys plan turns named given accepted h.0) place true h.1,
  h.2,
)
given_says c command keys plan turns (Err Unfinished) named given (accepted, h) = (
  replays c command keys plan turns named given accepted h.0,
  record { all = h.1; goes_on = h.2 },
  h.3,
)
given_says c command keys plan turns (Err (BadPlan f)) named given h =
    ((command, named), record { keys = keys; plan = plan; turns = turns; given = given; refused = h.0 }, h.1)
given_says c command keys plan turns (Err Memory) named given (inl early) = inl early
given_says c command keys plan turns (Err Memory) named given (inr (accepted, short)) = inr (record {
  command = command;
  named = named;
  keys = keys;
  plan = plan;
  turns = turns;
  given = given;
  accepted = accepted;
  short = short;
})
given_says c command keys plan turns (Err Words) named given h = absurd h.1
given_says c command keys plan turns (Err (Line n)) named given h = absurd h.1
given_says c command keys plan turns (Err Read) named given h = absurd h.1
given_says c command keys plan turns (Err TooLong) named given h = absurd h.1

-- the end of the turns of a plan that was accepted
pub accepted_ends : (command : Command) (keys : RunnerKeys) (plan : Plan) (turns : List Turn) (w : Writing)
    (ending : Result RunOutcome Fault)
    → plan_refusal keys plan ≡ None
    → IsReplayEnding (form_of command (settings_for keys plan)) (settings_for keys plan) turns w ending
    → IsInputEnding command keys plan turns w ending
accepted_ends command keys plan turns w (Ok o) accepted h = (accepted, h)
accepted_ends command keys plan turns w (Err Report) accepted h = (accepted, h)
accepted_ends command keys plan turns w (Err (NotEnabled place)) accepted h = (accepted, h)
accepted_ends command keys plan turns w (Err Unfinished) accepted h = (accepted, h)
accepted_ends command keys plan turns w (Err (BadPlan f)) accepted h = absurd h
accepted_ends command keys plan turns w (Err Memory) accepted h = inr (accepted, h)
accepted_ends command keys plan turns w (Err Words) accepted h = absurd h
accepted_ends command keys plan turns w (Err (Line n)) accepted h = absurd h
accepted_ends command keys plan turns w (Err Read) accepted h = absurd h
accepted_ends command keys plan turns w (Err TooLong) accepted h = absurd h
accepted_ends command keys plan turns w (Err (ThirdSignal n)) accepted h = (accepted, h)

-- the end of a plan that is refused
refusal_ends : (command : Command) (keys : RunnerKeys) (plan : Plan) (turns : List Turn) (w : Writing)
    (error : TestRunnerBuildError)
    → IsBuilt (builder_of keys) plan (Err error) → Writes w (fault_only (fault_of_plan error))
    → IsInputEnding command keys plan turns w (Err (fault_of_plan error))
refusal_ends command keys plan turns w (build.ZeroLimit g) h writes = ((build.ZeroLimit g, h, refl), writes)
refusal_ends command keys plan turns w (build.DuplicateTest k) h writes = ((build.DuplicateTest k, h, refl), writes)
refusal_ends command keys plan turns w (build.UnknownGroup k) h writes = ((build.UnknownGroup k, h, refl), writes)
refusal_ends command keys plan turns w (build.ZeroWeight k) h writes = ((build.ZeroWeight k, h, refl), writes)
refusal_ends command keys plan turns w (build.TooManyRetries k) h writes = ((build.TooManyRetries k, h, refl), writes)
refusal_ends command keys plan turns w build.OutOfMemory h writes = inl (Memory, short_written [] w writes)

pub refused_plan : (command : Command) (keys : RunnerKeys) (plan : Plan) (turns : List Turn) (w : Writing)
    (error : TestRunnerBuildError)
    (ending : Result RunOutcome Fault) → IsBuilt (builder_of keys) plan (Err error)
    → EndsAtFault w [] (fault_of_plan error) ending
    → IsInputEnding command keys plan turns w ending
refused_plan command keys plan turns w error (Ok o) b e = absurd e
refused_plan command keys plan turns w error (Err d) b (inl m) =
    subst (λ f. IsInputEnding command keys plan turns w (Err f)) (sym m.0) (inl (fault_of_plan error, m.1))
refused_plan command keys plan turns w error (Err d) b (inr h) =
    subst (λ f. IsInputEnding command keys plan turns w (Err f)) (sym h.0)
    (refusal_ends command keys plan turns w error b h.2)

-- how a program ends whose words or input were not
fault_says : (c : Call) (fault : Fault) → IsGivenFault c.words c.source fault → Writes c.sink (fault_only fault)
    → IsEnding c (Err fault)
fault_says c Words h w = (h, w)
fault_says c Read h w = (h.0, h.1, w)
fault_says c TooLong h w = (h.0, h.1, w)
fault_says c (Line n) h w = (h.0, h.1, w)
fault_says c (BadPlan f) h w = absurd h
fault_says c Memory h w = inl (Memory, short_written [] c.sink w)
fault_says c (NotEnabled n) h w = absurd h
fault_says c (ThirdSignal n) h w = absurd h
fault_says c Unfinished h w = absurd h
fault_says c Report h w = absurd h

pub refused_says : (c : Call) (fault : Fault) (ending : Result RunOutcome Fault) → IsGivenFault c.words c.source fault
    → EndsAtFault c.sink [] fault ending → IsEnding c ending
refused_says c fault (Ok o) h e = absurd e
refused_says c fault (Err d) h (inl m) = subst (λ f. IsEnding c (Err f)) (sym m.0) (inl (fault, m.1))
refused_says c fault (Err d) h (inr w) = subst (λ f. IsEnding c (Err f)) (sym w.0) (fault_says c fault h w.2)

-- the source's count at the end, where the words or the input were not good
fault_counts : (r : Reading) (fault : Fault) → CountsRead {T = RunOutcome} r (Err fault)
    → CountsReadAtEnd {T = RunOutcome} r (Err fault)
fault_counts r Words h = h
fault_counts r Read h = h.1
fault_counts r TooLong h = h
fault_counts r (Line n) h = h
fault_counts r (BadPlan f) h = h
fault_counts r Memory h = omega arith
fault_counts r (NotEnabled n) h = h
fault_counts r (ThirdSignal n) h = h
fault_counts r Unfinished h = h
fault_counts r Report h = h

fault_later : (r : Reading) (fault : Fault) → CountsRead {T = RunOutcome} r (Err fault) → r.faults ≤ r.faults_after
fault_later r Words h = omega arith
fault_later r Read h = h.0
fault_later r TooLong h = omega arith
fault_later r (Line n) h = omega arith
fault_later r (BadPlan f) h = omega arith
fault_later r Memory h = omega arith
fault_later r (NotEnabled n) h = omega arith
fault_later r (ThirdSignal n) h = omega arith
fault_later r Unfinished h = omega arith
fault_later r Report h = omega arith

pub refused_counts : (r : Reading) (w : Writing) (fault : Fault) (ending : Result RunOutcome Fault)
    → CountsRead {T = RunOutcome} r (Err fault) → EndsAtFault w [] fault ending → CountsReadAtEnd r ending
refused_counts r w fault (Ok o) h e = absurd e
refused_counts r w fault (Err d) h (inl m) =
    subst (λ f. CountsReadAtEnd {T = RunOutcome} r (Err f)) (sym m.0) (fault_later r fault h)
refused_counts r w fault (Err d) h (inr e) =
    subst (λ f. CountsReadAtEnd {T = RunOutcome} r (Err f)) (sym e.0) (fault_counts r fault h)
