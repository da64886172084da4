-- Each cause gives its status.
use Rattle.std.proofs.Common.{◌≡◌, ℕ, zero, suc, ◌<◌, ◌≤◌, inl, inr, List, [], ◌∷◌, ◌++◌, length, take}
use Rattle.std.proofs.Common.{slice_index_or, Bool, true, false, not, Option, Some, None, Result, Ok, Err}
use Rattle.std.proofs.Common.{refl, ap, sym, subst, ◌∙◌, arith, codes, length-append}
use Rattle.std.specs.List.{list_all}
use Rattle.std.specs.Str.Parse.{digits_value}
use Rattle.std.proofs.lemmas.List.{append-nil}
use Rattle.std.proofs.Math.Seq.{take-length}
use Rattle.run_capture.specs.Bytes.{Gives, AtEnd}
use Rattle.run_input.specs.declared.plan_line.RunnerKeys.{RunnerKeys}
use Rattle.run_events.specs.declared.plan.Plan.{Plan}
use Rattle.run_events.specs.declared.settings.Settings.{Settings}
use Rattle.run_events.specs.declared.turn.Turn.{Turn}
use Rattle.run_events.specs.declared.outcome.RunOutcome.{RunOutcome}
use Rattle.run_model.specs.declared.entry.Entry.{Entry}
use Rattle.run_model.specs.Journal.{past_of, IsLegal}
use Rattle.run_laws.specs.Course.{turns_of, refusals, refuses_none, refuses_as_in, IsJournalOf, Stops, GoesOn, Ends}
use Rattle.run_laws.specs.Course.{HasOneCourse}
use Rattle.run_laws.proofs.board.Courses.{one_course}
use Rattle.run_engine.specs.declared.errors.TestRunnerBuildError.{TestRunnerBuildError}
use Rattle.run_input.specs.Lines.{lines_of}
use Rattle.run_input.specs.Input.{IsInput, IsFirstBad}
use Rattle.run_input.proofs.InputLemmas.{has_no_bad_line}
use Rattle.run_output.specs.declared.fault.Fault.{Fault}
use Rattle.run_output.specs.declared.fault.Fault.TheVariants.{Words, Line, Plan as BadPlan, NotEnabled, ThirdSignal}
use Rattle.run_output.specs.declared.fault.Fault.TheVariants.{Unfinished, Report, Read, Memory, TooLong}
use Rattle.run_cli.specs.Call.{Call, Reading, Writing, HasGiven, HasReadFault, HasWriteFault}
use Rattle.run_cli.specs.Plans.{settings_for, plan_refusal}
use Rattle.run_cli.specs.Executed.{TookParts, report_ending}
use Rattle.run_cli.specs.Text.{Form, rest_text, outcome_status, ending_status}
use Rattle.run_cli.specs.Given.{SaysInput, IsTooLong, HasBadLine, CountsReadAtEnd}
use Rattle.run_cli.specs.Ending.{Replays, settings_in, history_in, IsWholeRun, WritesReport, StopsBefore, IsUnfinished}
use Rattle.run_cli.specs.Ending.{IsEnding, form_in}
use Rattle.run_cli.specs.Commands.{IsNamedBy, NamesCommand}
use Rattle.run_cli.specs.declared.command.Command.{Command}
use Rattle.run_cli.specs.declared.command.Command.TheVariants.{Replay, Progress}
use Rattle.run_cli.specs.Cause.{Gets, HasInput, HasBadInput, HasTooMuch, IsAnsweredSo, GetsByCourse}
use Rattle.run_cli.specs.Cause.{stop_status}

-- what a source that is at its end has given is all that it had
pub all_given : (left left_after : Option (List ℕ)) (held bytes : List ℕ) → left ≡ Some held
    → Gives left left_after bytes
    → AtEnd left_after → held ≡ bytes
all_given left None held bytes told given end = cc
all_given left (Some rest) held bytes told given end =
    let none : rest ≡ [] = cc in
    let all : Some held ≡ Some (bytes ++ rest) = sym told ∙ given in
    let whole : held ≡ bytes ++ rest = cc in
    whole ∙ ap (λ r. bytes ++ r) none ∙ append-nil bytes

-- what a source has given is no longer than what it had
pub given_within : (left left_after : Option (List ℕ)) (held bytes : List ℕ) → left ≡ Some held
    → Gives left left_after bytes → length bytes ≤ length held
given_within left None held bytes told given = cc
given_within left (Some rest) held bytes told given =
    let all : Some held ≡ Some (bytes ++ rest) = sym told ∙ given in
    let whole : held ≡ bytes ++ rest = cc in
    let same : length held ≡ length (bytes ++ rest) = ap length whole in
    omega (arith, length-append bytes rest)

-- lines say one plan and one list of turns
pub one_input : (lines : List (List ℕ)) (c d : RunnerKeys) (p q : Plan) (ts us : List Turn) → IsInput lines c p ts
    → IsInput lines d q us
    → (d ≡ c) × (q ≡ p) × (us ≡ ts)
one_input [] c d p q ts us i j = absurd i
one_input (first ∷ others) c d p q ts us i j =
    let one : RunnerKeys × Plan = (c, p) in
    let other : RunnerKeys × Plan = (d, q) in
    let plans : Some other ≡ Some one = sym j.0 ∙ i.0 in
    let both : other ≡ one = cc in
    let turns : Some us ≡ Some ts = sym j.1 ∙ i.1 in
    (ap (λ (x : RunnerKeys × Plan). x.0) both, ap (λ (x : RunnerKeys × Plan). x.1) both, cc)

-- so what was read is what the source had
pub same_input : (r : Reading) (c d : RunnerKeys) (p q : Plan) (ts us : List Turn)
    → HasInput r.left c p ts → SaysInput r d q us → (d ≡ c) × (q ≡ p) × (us ≡ ts)
same_input r c d p q ts us has given =
    let same : has.bytes ≡ given.bytes =
    all_given r.left r.left_after has.bytes given.bytes has.told given.given given.end in
    one_input (lines_of has.bytes) c d p q ts us has.says
    (subst (λ bytes. IsInput (lines_of bytes) d q us) (sym same) given.says)

-- and an input within its limit isn't too long, and has no bad line
pub not_too_long : (r : Reading) (held : List ℕ) → r.left ≡ Some held → length held ≤ 16777216 → IsTooLong r → ⊥
not_too_long r held told within (bytes, given, above) =
    let most = given_within r.left r.left_after held bytes told given in omega arith

no_bad_line : (r : Reading) (c : RunnerKeys) (p : Plan) (ts : List Turn) (n : ℕ)
    → HasInput r.left c p ts → HasBadLine r n → ⊥
no_bad_line r c p ts n has (bytes, given, end, within, bad) =
    let same : has.bytes ≡ bytes = all_given r.left r.left_after has.bytes bytes has.told given end in
    has_no_bad_line (lines_of has.bytes) c p ts n has.says
    (subst (λ bytes. IsFirstBad (lines_of bytes) n) (sym same) bad)

-- an accepted plan isn't refused
pub never_refused : {X E : Type 0} (o : Option E) (e : E) → o ≡ None → o ≡ Some e → X
never_refused o e none some = let both : None ≡ Some e = sym none ∙ some in cc

-- a journal in which nothing was refused has the answers of a reporter that refuses nothing
pub false_at : (marks : List Bool) (n : ℕ) → list_all not marks ≡ true → slice_index_or marks n false ≡ false
false_at [] n none = refl
false_at (true ∷ marks) n none = cc
false_at (false ∷ marks) zero none = refl
false_at (false ∷ marks) (suc n) none = false_at marks n none

-- want of memory is the status of any cause
pub memory_gets : (k : Command) (c : RunnerKeys) (p : Plan) (ts : List Turn) (w : Writing) → GetsByCourse k c p ts w 11
memory_gets k c p ts w = record {
  refuses = refuses_none;
  tied = λ calm n. refl;
  refused = λ e r. inr refl;
  stops = λ a k third s. inr refl;
  answered = λ a. inl refl;
  unfinished = λ a g. inr refl;
  ended = λ a o e calm. inr refl;
  unreported = λ a o e lt. inr refl;
}

-- a legal journal of some turns is one with the answers in it
pub journal_of : (p : Settings) (ts : List Turn) (journal : List Entry) → IsLegal p journal → turns_of journal ≡ ts
    → IsJournalOf p ts (refuses_as_in journal) journal
journal_of p ts journal legal takes = record { legal = legal; takes = takes; answers = λ n below. refl }

-- and its answers are those that the sink shows
answered_by : (form : Form) (p : Settings) (ts : List Turn) (place : ℕ) (journal : List Entry)
    (ending : Result RunOutcome Fault)
    (w : Writing) → IsLegal p journal → turns_of journal ≡ take place ts
    → TookParts form (past_of p journal) (rest_text form (past_of p journal) ending) w
    → IsAnsweredSo form p ts (refuses_as_in journal) w
answered_by form p ts place journal ending w legal takes parts = record {
  place = place;
  journal = journal;
  answered = journal_of p (take place ts) journal legal takes;
  ending = ending;
  parts = parts;
}

-- so are those of one that took all turns
answered_all : {c : Call} (r : Replays c) (ending : Result RunOutcome Fault) → turns_of r.journal ≡ r.turns
    → TookParts (form_in r) (history_in r) (rest_text (form_in r) (history_in r) ending) c.sink
    → IsAnsweredSo (form_in r) (settings_in r) r.turns (refuses_as_in r.journal) c.sink
answered_all {c} r ending all parts =
    answered_by (form_in r) (settings_in r) r.turns (length r.turns) r.journal ending c.sink r.legal
    (all ∙ sym (take-length r.turns)) parts

-- what each ending of an accepted plan gets
ended_gets : (c : Call) (r : Replays c) (o : RunOutcome) → IsWholeRun r o → c.sink.faults_after ≡ c.sink.faults
    → TookParts (form_in r) (history_in r) (rest_text (form_in r) (history_in r) (Ok o)) c.sink
    → GetsByCourse r.command r.keys r.plan r.turns c.sink (outcome_status o)
ended_gets c r o whole stayed parts =
    let p : Settings = settings_for r.keys r.plan in
    let one : HasOneCourse p r.turns (refuses_as_in r.journal) = one_course p r.turns (refuses_as_in r.journal) in
    let ends : Ends p r.turns (refuses_as_in r.journal) o =
    (r.journal, journal_of p r.turns r.journal r.legal whole.all, whole.finished.over) in
    record {
      refuses = refuses_as_in r.journal;
      tied = λ calm n. false_at (refusals r.journal) n (r.tied calm);
      refused = λ e x. never_refused (plan_refusal r.keys r.plan) e r.accepted x;
      stops = λ a k third s. absurd (one.stop_or_end k third o s ends);
      answered = λ a. inr (answered_all r (Ok o) whole.all parts);
      unfinished = λ a g. absurd (one.unfinished_or_end o g ends);
      ended = λ a u e calm. inl (ap outcome_status (one.one_end o u ends e));
      unreported = λ a u e lt. absurd (omega arith);
    }

unreported_gets : (c : Call) (r : Replays c) (o : RunOutcome) → IsWholeRun r o → WritesReport r o → HasWriteFault c.sink
    → GetsByCourse r.command r.keys r.plan r.turns c.sink 9
unreported_gets c r o whole parts rose =
    let p : Settings = settings_for r.keys r.plan in
    let one : HasOneCourse p r.turns (refuses_as_in r.journal) = one_course p r.turns (refuses_as_in r.journal) in
    let ends : Ends p r.turns (refuses_as_in r.journal) o =
    (r.journal, journal_of p r.turns r.journal r.legal whole.all, whole.finished.over) in
    record {
      refuses = refuses_as_in r.journal;
      tied = λ calm n. false_at (refusals r.journal) n (r.tied calm);
      refused = λ e x. never_refused (plan_refusal r.keys r.plan) e r.accepted x;
      stops = λ a k third s. absurd (one.stop_or_end k third o s ends);
      answered = λ a. inr (answered_all r (report_ending r.journal o) whole.all parts);
      unfinished = λ a g. absurd (one.unfinished_or_end o g ends);
      ended = λ a u e calm. absurd (calm rose);
      unreported = λ a u e lt. inl refl;
    }

stopped_gets : (c : Call) (r : Replays c) (place : ℕ) (third : Bool) (ending : Result RunOutcome Fault)
    → StopsBefore r place third
    → TookParts (form_in r) (history_in r) (rest_text (form_in r) (history_in r) ending) c.sink
    → GetsByCourse r.command r.keys r.plan r.turns c.sink (stop_status third)
stopped_gets c r place third ending before parts =
    let p : Settings = settings_for r.keys r.plan in
    let one : HasOneCourse p r.turns (refuses_as_in r.journal) = one_course p r.turns (refuses_as_in r.journal) in
    let stops : Stops p r.turns (refuses_as_in r.journal) place third = (
      r.journal,
      journal_of p (take place r.turns) r.journal r.legal before.before,
      (before.turn, before.at, before.refused, before.whether),
    ) in
    record {
      refuses = refuses_as_in r.journal;
      tied = λ calm n. false_at (refusals r.journal) n (r.tied calm);
      refused = λ e x. never_refused (plan_refusal r.keys r.plan) e r.accepted x;
      stops = λ a k t s.
          let same : (place ≡ k) × (third ≡ t) = one.one_stop place k third t stops s in
          inl (ap stop_status same.1);
      answered = λ a.
          inr (answered_by (form_in r) p r.turns place r.journal ending c.sink r.legal before.before parts);
      unfinished = λ a g. absurd (one.stop_or_unfinished place third stops g);
      ended = λ a u e calm. absurd (one.stop_or_end place third u stops e);
      unreported = λ a u e lt. absurd (one.stop_or_end place third u stops e);
    }

unfinished_gets : (c : Call) (r : Replays c) → IsUnfinished r
    → TookParts (form_in r) (history_in r) (rest_text (form_in r) (history_in r) (Err Unfinished)) c.sink
    → GetsByCourse r.command r.keys r.plan r.turns c.sink 8
unfinished_gets c r still parts =
    let p : Settings = settings_for r.keys r.plan in
    let one : HasOneCourse p r.turns (refuses_as_in r.journal) = one_course p r.turns (refuses_as_in r.journal) in
    let goes : GoesOn p r.turns (refuses_as_in r.journal) =
    (r.journal, journal_of p r.turns r.journal r.legal still.all, still.goes_on) in
    record {
      refuses = refuses_as_in r.journal;
      tied = λ calm n. false_at (refusals r.journal) n (r.tied calm);
      refused = λ e x. never_refused (plan_refusal r.keys r.plan) e r.accepted x;
      stops = λ a k third s. absurd (one.stop_or_unfinished k third s goes);
      answered = λ a. inr (answered_all r (Err Unfinished) still.all parts);
      unfinished = λ a g. inl refl;
      ended = λ a u e calm. absurd (one.unfinished_or_end u goes e);
      unreported = λ a u e lt. absurd (one.unfinished_or_end u goes e);
    }

pub refused_gets : (k : Command) (c : RunnerKeys) (p : Plan) (ts : List Turn) (w : Writing)
    (error : TestRunnerBuildError)
    → plan_refusal c p ≡ Some error → GetsByCourse k c p ts w 5
refused_gets k c p ts w error refused = record {
  refuses = refuses_none;
  tied = λ calm n. refl;
  refused = λ e x. inl refl;
  stops = λ a k third s. never_refused (plan_refusal c p) error a refused;
  answered = λ a. never_refused (plan_refusal c p) error a refused;
  unfinished = λ a g. never_refused (plan_refusal c p) error a refused;
  ended = λ a u e calm. never_refused (plan_refusal c p) error a refused;
  unreported = λ a u e lt. never_refused (plan_refusal c p) error a refused;
}

-- the same of the command that the words name and the input that the source had
moved : (k l : Command) (c d : RunnerKeys) (p q : Plan) (ts us : List Turn) (w : Writing) (status : ℕ)
    → l ≡ k → (d ≡ c) × (q ≡ p) × (us ≡ ts)
    → GetsByCourse l d q us w status → GetsByCourse k c p ts w status
moved k l c d p q ts us w status one same gets =
    subst (λ k. GetsByCourse k c p ts w status) one
    (subst (λ c. GetsByCourse l c p ts w status) same.0
    (subst (λ p. GetsByCourse l d p ts w status) same.1 (subst (λ ts. GetsByCourse l d q ts w status) same.2 gets)))

-- words of one word and of two
apart_words : {A : Type 0} (x y z : A) → ¬ (x ∷ [] ≡ y ∷ z ∷ [])
apart_words x y z e = cc

-- words name one command
one_command : (words : List (List ℕ)) (k l : Command) → IsNamedBy k words → IsNamedBy l words → l ≡ k
one_command words Replay Replay a b = refl
one_command words Replay (Progress w) a b = absurd (apart_words (codes "replay") (codes "progress") b.0 (sym a ∙ b.1))
one_command words (Progress w) Replay a b = absurd (apart_words (codes "replay") (codes "progress") a.0 (sym b ∙ a.1))
one_command words (Progress w) (Progress v) a b =
    let both : ◌≡◌ {A = List (List ℕ)} (codes "progress" ∷ a.0 ∷ []) (codes "progress" ∷ b.0 ∷ []) = sym a.1 ∙ b.1 in
    let text : a.0 ≡ b.0 = cc in
    ap Progress (sym b.2.value ∙ ap (digits_value 10) (sym text) ∙ a.2.value)

-- each course gets its status
pub course_gets : (c : Call) (ending : Result RunOutcome Fault) → IsEnding c ending → CountsReadAtEnd c.source ending
    → (k : Command) → IsNamedBy k c.words
    → ¬ HasReadFault c.source → (b : RunnerKeys) (p : Plan) (ts : List Turn) → HasInput c.source.left b p ts
    → GetsByCourse k b p ts c.sink (ending_status ending)
course_gets c (Ok o) h n k named calm b p ts has =
    moved k h.0.command b h.0.keys p h.0.plan ts h.0.turns c.sink (outcome_status o)
    (one_command c.words k h.0.command named h.0.named)
    (same_input c.source b h.0.keys p h.0.plan ts h.0.turns has h.0.given) (ended_gets c h.0 o h.1 h.3 h.4)
course_gets c (Err Report) h n k named calm b p ts has =
    moved k h.0.command b h.0.keys p h.0.plan ts h.0.turns c.sink 9
    (one_command c.words k h.0.command named h.0.named)
    (same_input c.source b h.0.keys p h.0.plan ts h.0.turns has h.0.given) (unreported_gets c h.0 h.1 h.2 h.3 h.4)
course_gets c (Err (NotEnabled place)) h n k named calm b p ts has =
    moved k h.0.command b h.0.keys p h.0.plan ts h.0.turns c.sink 6
    (one_command c.words k h.0.command named h.0.named)
    (same_input c.source b h.0.keys p h.0.plan ts h.0.turns has h.0.given)
    (stopped_gets c h.0 place false (Err (NotEnabled place)) h.1 h.2.parts)
course_gets c (Err (ThirdSignal place)) h n k named calm b p ts has =
    moved k h.0.command b h.0.keys p h.0.plan ts h.0.turns c.sink 7
    (one_command c.words k h.0.command named h.0.named)
    (same_input c.source b h.0.keys p h.0.plan ts h.0.turns has h.0.given)
    (stopped_gets c h.0 place true (Err (ThirdSignal place)) h.1 h.2.parts)
course_gets c (Err Unfinished) h n k named calm b p ts has =
    moved k h.0.command b h.0.keys p h.0.plan ts h.0.turns c.sink 8
    (one_command c.words k h.0.command named h.0.named)
    (same_input c.source b h.0.keys p h.0.plan ts h.0.turns has h.0.given)
    (unfinished_gets c h.0 h.1 h.2.parts)
course_gets c (Err (BadPlan f)) h n k named calm b p ts has =
    moved k k b h.1.keys p h.1.plan ts h.1.turns c.sink 5 refl
    (same_input c.source b h.1.keys p h.1.plan ts h.1.turns has h.1.given)
    (refused_gets k h.1.keys h.1.plan h.1.turns c.sink h.1.refused.0 h.1.refused.1)
course_gets c (Err Memory) h n k named calm b p ts has = memory_gets k b p ts c.sink
course_gets c (Err Words) h n k named calm b p ts has = absurd (h.0 (k, named))
course_gets c (Err Read) h n k named calm b p ts has = absurd (calm n)
course_gets c (Err TooLong) h n k named calm b p ts has =
    absurd (not_too_long c.source has.bytes has.told has.within h.1)
course_gets c (Err (Line number)) h n k named calm b p ts has = absurd (no_bad_line c.source b p ts number has h.1)

-- an input with a bad line says nothing else
bad_excludes : (r : Reading) (c : RunnerKeys) (p : Plan) (ts : List Turn) (n : ℕ) → HasBadInput r.left n
    → SaysInput r c p ts → ⊥
bad_excludes r c p ts n has given =
    let same : has.bytes ≡ given.bytes =
    all_given r.left r.left_after has.bytes given.bytes has.told given.given given.end in
    has_no_bad_line (lines_of given.bytes) c p ts n given.says
    (subst (λ bytes. IsFirstBad (lines_of bytes) n) same has.bad)

-- 3
pub bad_line_gets : (c : Call) (ending : Result RunOutcome Fault) → IsEnding c ending → CountsReadAtEnd c.source ending
    → NamesCommand c.words
    → ¬ HasReadFault c.source → (number : ℕ) → HasBadInput c.source.left number → Gets (ending_status ending) 3
bad_line_gets c (Ok o) h n replay calm number has = absurd (bad_excludes c.source _ _ _ number has h.0.given)
bad_line_gets c (Err Report) h n replay calm number has = absurd (bad_excludes c.source _ _ _ number has h.0.given)
bad_line_gets c (Err (NotEnabled place)) h n replay calm number has =
    absurd (bad_excludes c.source _ _ _ number has h.0.given)
bad_line_gets c (Err Unfinished) h n replay calm number has = absurd (bad_excludes c.source _ _ _ number has h.0.given)
bad_line_gets c (Err (BadPlan f)) h n replay calm number has = absurd (bad_excludes c.source _ _ _ number has h.1.given)
bad_line_gets c (Err Memory) h n replay calm number has = inr refl
bad_line_gets c (Err Words) h n replay calm number has = absurd (h.0 replay)
bad_line_gets c (Err Read) h n replay calm number has = absurd (calm n)
bad_line_gets c (Err TooLong) h n replay calm number has =
    absurd (not_too_long c.source has.bytes has.told has.within h.1)
bad_line_gets c (Err (Line m)) h n replay calm number has = inl refl
bad_line_gets c (Err (ThirdSignal m)) h n replay calm number has =
    absurd (bad_excludes c.source _ _ _ number has h.0.given)

-- a source with too much isn't read to its end within the limit
pub too_much_excludes : (r : Reading) (bytes : List ℕ) → HasTooMuch r.left → HasGiven r bytes → AtEnd r.left_after
    → length bytes ≤ 16777216 → ⊥
too_much_excludes r bytes has given end within =
    let same : length has.bytes ≡ length bytes =
    ap length (all_given r.left r.left_after has.bytes bytes has.told given end) in
    let above : 16777216 < length has.bytes = has.above in
    omega arith

pub given_excludes : (r : Reading) (c : RunnerKeys) (p : Plan) (ts : List Turn) → HasTooMuch r.left → SaysInput r c p ts
    → ⊥
given_excludes r c p ts has given = too_much_excludes r given.bytes has given.given given.end given.within

-- 12
pub too_much_gets : (c : Call) (ending : Result RunOutcome Fault) → IsEnding c ending → CountsReadAtEnd c.source ending
    → NamesCommand c.words
    → ¬ HasReadFault c.source → HasTooMuch c.source.left → Gets (ending_status ending) 12
too_much_gets c (Ok o) h n replay calm has = absurd (given_excludes c.source _ _ _ has h.0.given)
too_much_gets c (Err Report) h n replay calm has = absurd (given_excludes c.source _ _ _ has h.0.given)
too_much_gets c (Err (NotEnabled place)) h n replay calm has = absurd (given_excludes c.source _ _ _ has h.0.given)
too_much_gets c (Err Unfinished) h n replay calm has = absurd (given_excludes c.source _ _ _ has h.0.given)
too_much_gets c (Err (BadPlan f)) h n replay calm has = absurd (given_excludes c.source _ _ _ has h.1.given)
too_much_gets c (Err Memory) h n replay calm has = inr refl
too_much_gets c (Err Words) h n replay calm has = absurd (h.0 replay)
too_much_gets c (Err Read) h n replay calm has = absurd (calm n)
too_much_gets c (Err TooLong) h n replay calm has = inl refl
too_much_gets c (Err (Line m)) h n replay calm has = absurd (too_much_excludes c.source h.1.0 has h.1.1 h.1.2 h.1.3)
too_much_gets c (Err (ThirdSignal m)) h n replay calm has = absurd (given_excludes c.source _ _ _ has h.0.given)

-- 10
pub unread_gets : (r : Reading) (ending : Result RunOutcome Fault) → CountsReadAtEnd r ending
    → r.faults < r.faults_after
    → Gets (ending_status ending) 10
unread_gets r (Ok o) n lt = absurd (omega arith)
unread_gets r (Err Report) n lt = absurd (omega arith)
unread_gets r (Err (NotEnabled place)) n lt = absurd (omega arith)
unread_gets r (Err Unfinished) n lt = absurd (omega arith)
unread_gets r (Err (BadPlan f)) n lt = absurd (omega arith)
unread_gets r (Err Memory) n lt = inr refl
unread_gets r (Err Words) n lt = absurd (omega arith)
unread_gets r (Err Read) n lt = inl refl
unread_gets r (Err TooLong) n lt = absurd (omega arith)
unread_gets r (Err (Line m)) n lt = absurd (omega arith)
unread_gets r (Err (ThirdSignal m)) n lt = absurd (omega arith)
