-- A store whose bytes are told has one fault, or one run, and the status of that.
use Rattle.std.proofs.Common.{◌≡◌, ◌∙◌, ℕ, ◌<◌, ◌≤◌, ◌⊎◌, inl, inr, List, [], length, Bool, true, false}
use Rattle.std.proofs.Common.{if◌then◌else◌, Option, Some, None, option_map, refl, sym, ap, subst, arith}
use Rattle.run_events.specs.declared.plan.Plan.{Plan}
use Rattle.run_events.specs.declared.turn.Turn.{Turn}
use Rattle.run_events.specs.declared.settings.Settings.{Settings}
use Rattle.run_model.specs.declared.entry.Entry.{Entry}
use Rattle.run_model.specs.Journal.{past_of}
use Rattle.run_model.specs.Words.{is_over, told as events_told}
use Rattle.run_laws.specs.Course.{IsJournalOf, Stops, HasOneCourse, refuses_none}
use Rattle.run_laws.proofs.board.Courses.{one_course}
use Rattle.run_engine.proofs.OutcomeLemmas.{has_outcome}
use Rattle.run_engine.specs.declared.errors.TestRunnerBuildError.{TestRunnerBuildError}
use Rattle.run_input.specs.Input.{plan_line_of}
use Rattle.run_input.specs.declared.plan_line.RunnerKeys.{RunnerKeys}
use Rattle.run_store.specs.Stores.{StoreReading, whole, torn, no_plan, bad, IsReading}
use Rattle.run_store.proofs.WayLemmas.{one_reading}
use Rattle.run_store_io.specs.Reads.{most_stored}
use Rattle.run_cli.specs.Plans.{plan_refusal, settings_for}
use Rattle.run_cli.proofs.CauseLemmas.{given_within, never_refused}
use Rattle.run_rerun.specs.declared.answers.RunTests.{RunTests}
use Rattle.run_events.specs.declared.plan.TestInstanceId.{TestInstanceId}
use Rattle.run_rerun.specs.Outstanding.{ids_passed}
use Rattle.run_rerun.specs.Runs.{AreTestsOf}
use Rattle.run_rerun_cli.specs.declared.faults.RerunFault.{RerunFault}
use Rattle.run_rerun_cli.specs.declared.faults.RerunFault.TheVariants as faults
use Rattle.run_rerun.specs.declared.answers.StoredRun.{StoredRun}
use Rattle.run_rerun_cli.specs.Found.{HasBytes, HasStoredRun, HasTests, IsRefusedIn, IsStoreOf, IsTooLongStore}
use Rattle.run_rerun_cli.specs.Found.{ShowsFault, StopsIn}
use Rattle.run_rerun_cli.specs.RerunFaults.{is_reading_fault, rerun_fault_status}

-- the bytes that a store has are those that are told
told_bytes : (told : Option (List ℕ)) (bytes has : List ℕ) → told ≡ Some bytes → HasBytes told has → has ≡ bytes
told_bytes None bytes has is h = cc
told_bytes (Some all) bytes has is h = cc

-- and are read in one way
one_store : (told : Option (List ℕ)) (bytes : List ℕ) (x y : StoreReading) → told ≡ Some bytes → IsStoreOf told x
    → IsStoreOf told y → y ≡ x
one_store told bytes x y is one other =
    let same = told_bytes told bytes one.bytes is one.has in
    let alike = told_bytes told bytes other.bytes is other.has in
    one_reading bytes x y (subst (λ b. IsReading b x) same one.read) (subst (λ b. IsReading b y) alike other.read)

-- and are no more than they are
not_too_long : (told : Option (List ℕ)) (bytes : List ℕ) (x : StoreReading) → told ≡ Some bytes → IsStoreOf told x
    → IsTooLongStore told → ⊥
not_too_long told bytes x is store (front, left, given, above) =
    let same = ap length (told_bytes told bytes store.bytes is store.has) in
    let most = given_within told left bytes front is given in
    let within : length store.bytes ≤ most_stored = store.within in omega arith

-- a plan line and turns of a reading
abbrev line_in : StoreReading → List ℕ
line_in (whole line turns) = line
line_in (torn line turns) = line
line_in no_plan = []
line_in (bad place) = []

abbrev turns_in : StoreReading → List Turn
turns_in (whole line turns) = turns
turns_in (torn line turns) = turns
turns_in no_plan = []
turns_in (bad place) = []

abbrev run_reading : Bool → List ℕ → List Turn → StoreReading
run_reading ended line turns = if ended then whole line turns else torn line turns

abbrev ended_in : StoreReading → Bool
ended_in (whole line turns) = true
ended_in (torn line turns) = false
ended_in no_plan = false
ended_in (bad place) = false

ended_of_run : (b : Bool) (line : List ℕ) (turns : List Turn) → ended_in (run_reading b line turns) ≡ b
ended_of_run true line turns = refl
ended_of_run false line turns = refl

line_of_run : (b : Bool) (line : List ℕ) (turns : List Turn) → line_in (run_reading b line turns) ≡ line
line_of_run true line turns = refl
line_of_run false line turns = refl

turns_of_run : (b : Bool) (line : List ℕ) (turns : List Turn) → turns_in (run_reading b line turns) ≡ turns
turns_of_run true line turns = refl
turns_of_run false line turns = refl

-- what a store that has a run is read as is no other reading
no_run_in : (b : Bool) (line : List ℕ) (turns : List Turn) → no_plan ≡ run_reading b line turns → ⊥
no_run_in true line turns is = cc
no_run_in false line turns is = cc

no_run_bad : (b : Bool) (line : List ℕ) (turns : List Turn) (place : ℕ) → bad place ≡ run_reading b line turns → ⊥
no_run_bad true line turns place is = cc
no_run_bad false line turns place is = cc

-- so a store has one run
record IsSameRun (ended : Bool) (line : List ℕ) (keys : RunnerKeys) (plan : Plan) (turns : List Turn) (e : Bool)
    (other : List ℕ) (k : RunnerKeys) (p : Plan) (ts : List Turn) : Type 0 where
  ended_is : e ≡ ended
  line_is : other ≡ line
  keys_is : k ≡ keys
  plan_is : p ≡ plan
  turns_is : ts ≡ turns

one_run : (told : Option (List ℕ)) (bytes line other : List ℕ) (keys k : RunnerKeys) (plan p : Plan)
    (turns ts : List Turn) → told ≡ Some bytes → (one : HasStoredRun told line keys plan turns)
    → (two : HasStoredRun told other k p ts)
    → IsSameRun one.ended line keys plan turns two.ended other k p ts
one_run told bytes line other keys k plan p turns ts is one two =
    let same = one_store told bytes (run_reading one.ended line turns) (run_reading two.ended other ts) is one.store
    two.store in
    let lines : other ≡ line =
    sym (line_of_run two.ended other ts) ∙ ap line_in same ∙ line_of_run one.ended line turns in
    let mine : RunnerKeys × Plan = (keys, plan) in
    let its : RunnerKeys × Plan = (k, p) in
    let both : Some its ≡ Some mine = sym two.says ∙ ap plan_line_of lines ∙ one.says in
    let pair : its ≡ mine = cc in
    record {
      ended_is = sym (ended_of_run two.ended other ts) ∙ ap ended_in same ∙ ended_of_run one.ended line turns;
      line_is = lines;
      keys_is = ap (λ (x : RunnerKeys × Plan). x.0) pair;
      plan_is = ap (λ (x : RunnerKeys × Plan). x.1) pair;
      turns_is = sym (turns_of_run two.ended other ts) ∙ ap turns_in same ∙ turns_of_run one.ended line turns;
    }

-- the status of a plan and its turns: it is refused; the turns stop; or they were all taken
abbrev pub stopped_status : Bool → ℕ
stopped_status true = 7
stopped_status false = 6

pub data RunsTo (keys : RunnerKeys) (plan : Plan) (turns : List Turn) (status : ℕ) : Type 0 where
  refused : (error : TestRunnerBuildError) → plan_refusal keys plan ≡ Some error → status ≡ 5
      → RunsTo keys plan turns status
  stops : (place : ℕ) (third : Bool) → plan_refusal keys plan ≡ None
      → Stops (settings_for keys plan) turns refuses_none place third → status ≡ stopped_status third
      → RunsTo keys plan turns status
  taken : (journal : List Entry) → plan_refusal keys plan ≡ None
      → IsJournalOf (settings_for keys plan) turns refuses_none journal → status ≡ 0 → RunsTo keys plan turns status

-- turns that were all taken don't stop
not_both : (p : Settings) (turns : List Turn) (place : ℕ) (third : Bool) (journal : List Entry)
    → Stops p turns refuses_none place third → IsJournalOf p turns refuses_none journal → ⊥
not_both p turns place third journal stop all = by_end (is_over (past_of p journal)) refl
  where
    one : HasOneCourse p turns refuses_none
    one = one_course p turns refuses_none

    by_end : (b : Bool) → is_over (past_of p journal) ≡ b → ⊥
    by_end false still = one.stop_or_unfinished place third stop (journal, all, still)
    by_end true over =
        let end = has_outcome p journal all.legal over in
        one.stop_or_end place third end.0 stop (journal, all, end.1)

-- so there is one such status
runs_once : (keys : RunnerKeys) (plan : Plan) (turns : List Turn) (a b : ℕ) → RunsTo keys plan turns a
    → RunsTo keys plan turns b → a ≡ b
runs_once keys plan turns a b (refused e x is) (refused f y js) = is ∙ sym js
runs_once keys plan turns a b (refused e x is) (stops place third kept stop js) =
    never_refused (plan_refusal keys plan) e kept x
runs_once keys plan turns a b (refused e x is) (taken journal kept all js) =
    never_refused (plan_refusal keys plan) e kept x
runs_once keys plan turns a b (stops place third kept stop is) (refused f y js) =
    never_refused (plan_refusal keys plan) f kept y
runs_once keys plan turns a b (stops place third kept stop is) (stops other last none end js) =
    let one : HasOneCourse (settings_for keys plan) turns refuses_none =
    one_course (settings_for keys plan) turns refuses_none in
    is ∙ ap stopped_status (one.one_stop place other third last stop end).1 ∙ sym js
runs_once keys plan turns a b (stops place third kept stop is) (taken journal none all js) =
    absurd (not_both (settings_for keys plan) turns place third journal stop all)
runs_once keys plan turns a b (taken journal none all is) (refused f y js) =
    never_refused (plan_refusal keys plan) f none y
runs_once keys plan turns a b (taken journal none all is) (stops place third kept stop js) =
    absurd (not_both (settings_for keys plan) turns place third journal stop all)
runs_once keys plan turns a b (taken journal none all is) (taken other also each js) = is ∙ sym js

-- a store whose run comes to a status
pub record RunsIn (told : Option (List ℕ)) (status : ℕ) : Type 0 where
  pub line : List ℕ
  pub keys : RunnerKeys
  pub plan : Plan
  pub turns : List Turn
  pub has : HasStoredRun told line keys plan turns
  pub runs : RunsTo keys plan turns status

runs_in_once : (told : Option (List ℕ)) (bytes : List ℕ) (a b : ℕ) → told ≡ Some bytes → RunsIn told a → RunsIn told b
    → a ≡ b
runs_in_once told bytes a b is one two =
    let same = one_run told bytes one.line two.line one.keys two.keys one.plan two.plan one.turns two.turns is one.has
    two.has in
    runs_once one.keys one.plan one.turns a b one.runs
    (subst (λ k. RunsTo k one.plan one.turns b) same.keys_is
    (subst (λ p. RunsTo two.keys p one.turns b) same.plan_is
    (subst (λ ts. RunsTo two.keys two.plan ts b) same.turns_is two.runs)))

-- the status that a store comes to
pub data ComesOf (told : Option (List ℕ)) (status : ℕ) : Type 0 where
  long : IsTooLongStore told → status ≡ 12 → ComesOf told status
  planless : IsStoreOf told no_plan → status ≡ 14 → ComesOf told status
  broken : (place : ℕ) → IsStoreOf told (bad place) → status ≡ 15 → ComesOf told status
  ran : RunsIn told status → ComesOf told status

-- it is one where its bytes are told
pub comes_once : (told : Option (List ℕ)) (bytes : List ℕ) (a b : ℕ) → told ≡ Some bytes → ComesOf told a
    → ComesOf told b → a ≡ b
comes_once told bytes a b is (long x i) (long y j) = i ∙ sym j
comes_once told bytes a b is (long x i) (planless s j) = absurd (not_too_long told bytes no_plan is s x)
comes_once told bytes a b is (long x i) (broken place s j) = absurd (not_too_long told bytes (bad place) is s x)
comes_once told bytes a b is (long x i) (ran r) =
    absurd (not_too_long told bytes (run_reading r.has.ended r.line r.turns) is r.has.store x)
comes_once told bytes a b is (planless s i) (long x j) = absurd (not_too_long told bytes no_plan is s x)
comes_once told bytes a b is (planless s i) (planless u j) = i ∙ sym j
comes_once told bytes a b is (planless s i) (broken place u j) =
    let same = one_store told bytes no_plan (bad place) is s u in cc
comes_once told bytes a b is (planless s i) (ran r) =
    absurd (no_run_in r.has.ended r.line r.turns
    (one_store told bytes (run_reading r.has.ended r.line r.turns) no_plan is r.has.store s))
comes_once told bytes a b is (broken place s i) (long x j) = absurd (not_too_long told bytes (bad place) is s x)
comes_once told bytes a b is (broken place s i) (planless u j) =
    let same = one_store told bytes no_plan (bad place) is u s in cc
comes_once told bytes a b is (broken place s i) (broken other u j) = i ∙ sym j
comes_once told bytes a b is (broken place s i) (ran r) =
    absurd (no_run_bad r.has.ended r.line r.turns place
    (one_store told bytes (run_reading r.has.ended r.line r.turns) (bad place) is r.has.store s))
comes_once told bytes a b is (ran r) (long x j) =
    absurd (not_too_long told bytes (run_reading r.has.ended r.line r.turns) is r.has.store x)
comes_once told bytes a b is (ran r) (planless s j) =
    absurd (no_run_in r.has.ended r.line r.turns
    (one_store told bytes (run_reading r.has.ended r.line r.turns) no_plan is r.has.store s))
comes_once told bytes a b is (ran r) (broken place s j) =
    absurd (no_run_bad r.has.ended r.line r.turns place
    (one_store told bytes (run_reading r.has.ended r.line r.turns) (bad place) is r.has.store s))
comes_once told bytes a b is (ran r) (ran q) = runs_in_once told bytes a b is r q

-- a fault comes to its status, unless the store could not be read
stop_comes : (told : Option (List ℕ)) (place : ℕ) (third : Bool) → StopsIn told place third
    → ComesOf told (stopped_status third)
stop_comes told place third h = ran (record {
  line = h.line;
  keys = h.keys;
  plan = h.plan;
  turns = h.turns;
  has = h.has;
  runs = stops place third h.accepted h.stops refl;
})

pub fault_comes : (told : Option (List ℕ)) (fault : RerunFault) → is_reading_fault fault ≡ false → ShowsFault told fault
    → ComesOf told (rerun_fault_status fault)
fault_comes told faults.Read quiet h = cc
fault_comes told faults.TooLong quiet h = long h refl
fault_comes told faults.Torn quiet h = planless h refl
fault_comes told (faults.Bad place) quiet h = broken place h refl
fault_comes told (faults.Plan fault) quiet h = ran (record {
  line = h.line;
  keys = h.keys;
  plan = h.plan;
  turns = h.turns;
  has = h.has;
  runs = refused h.refused.0 h.refused.1 refl;
})
fault_comes told (faults.NotEnabled place) quiet h = stop_comes told place false h
fault_comes told (faults.ThirdSignal place) quiet h = stop_comes told place true h

-- and a run comes to 0
pub tests_come : (told : Option (List ℕ)) (run : StoredRun) → HasTests told run → ComesOf told 0
tests_come told run h = ran (record {
  line = run.line;
  keys = h.keys;
  plan = h.plan;
  turns = h.turns;
  has = h.has;
  runs = taken h.tests.journal h.accepted h.tests.took refl;
})

-- no fault has the status 0
some_status : (fault : RerunFault) → 0 ≡ rerun_fault_status fault → ⊥
some_status faults.Read is = absurd (omega arith)
some_status faults.TooLong is = absurd (omega arith)
some_status faults.Torn is = absurd (omega arith)
some_status (faults.Bad place) is = absurd (omega arith)
some_status (faults.Plan fault) is = absurd (omega arith)
some_status (faults.NotEnabled place) is = absurd (omega arith)
some_status (faults.ThirdSignal place) is = absurd (omega arith)

-- so a store that has a run has no fault
pub run_or_fault : (told : Option (List ℕ)) (bytes : List ℕ) (run : StoredRun) (fault : RerunFault)
    → told ≡ Some bytes → HasTests told run → is_reading_fault fault ≡ false → ShowsFault told fault → ⊥
run_or_fault told bytes run fault is has quiet shows =
    some_status fault (comes_once told bytes 0 (rerun_fault_status fault) is (tests_come told run has)
    (fault_comes told fault quiet shows))

-- and it has one
tests_by : (p : Settings) (turns : List Turn) (a b : RunTests) → AreTestsOf p turns a → AreTestsOf p turns b → b ≡ a
tests_by p turns a b one two =
    let course : HasOneCourse p turns refuses_none = one_course p turns refuses_none in
    let same = course.one_journal one.journal two.journal one.took two.took in
    let had : b.has ≡ a.has = two.had ∙ sym one.had in
    let passes : b.passed ≡ a.passed =
    two.passes ∙ ap (λ j. ids_passed p.plan (events_told (past_of p j))) same ∙ sym one.passes in
    by_fields b a had passes (two.ends ∙ ap (λ j. is_over (past_of p j)) same ∙ sym one.ends)
  where
    by_fields : (x y : RunTests) → x.has ≡ y.has → x.passed ≡ y.passed → x.over ≡ y.over → x ≡ y
    by_fields x y had passes ends =
        ap (λ ids. record x { has = ids }) had ∙ ap (λ ids. record y { passed = ids; over = x.over }) passes
        ∙ ap (λ b. record y { over = b }) ends

pub one_tests : (told : Option (List ℕ)) (bytes : List ℕ) (a b : StoredRun) → told ≡ Some bytes → HasTests told a
    → HasTests told b → b.tests ≡ a.tests
one_tests told bytes a b is one two =
    let same = one_run told bytes a.line b.line one.keys two.keys one.plan two.plan one.turns two.turns is one.has
    two.has in
    tests_by (settings_for one.keys one.plan) one.turns a.tests b.tests one.tests
    (subst (λ k. AreTestsOf (settings_for k one.plan) one.turns b.tests) same.keys_is
    (subst (λ p. AreTestsOf (settings_for two.keys p) one.turns b.tests) same.plan_is
    (subst (λ ts. AreTestsOf (settings_for two.keys two.plan) ts b.tests) same.turns_is two.tests)))

-- and so it has one run
pub one_stored : (told : Option (List ℕ)) (bytes : List ℕ) (a b : StoredRun) → told ≡ Some bytes → HasTests told a
    → HasTests told b → b ≡ a
one_stored told bytes a b is one two =
    let same = one_run told bytes a.line b.line one.keys two.keys one.plan two.plan one.turns two.turns is one.has
    two.has in
    ap (λ line. record b { line = line }) same.line_is
    ∙ ap (λ tests. record a { tests = tests; whole = b.whole }) (one_tests told bytes a b is one two)
    ∙ ap (λ ended. record a { whole = ended }) (two.ends ∙ same.ended_is ∙ sym one.ends)
