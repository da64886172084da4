-- What one store of a chain has.
use Rattle.std.proofs.Common.{◌≡◌, ◌∙◌, ℕ, ◌+◌, ◌<◌, ◌≤◌, ◌^◌, ◌&&◌, ◌==◌, List, [], ◌∷◌, ◌++◌, length, option_map}
use Rattle.std.proofs.Common.{Option, Some, None, IsSome, is_some, Result, Ok, Err, Bool, true, false, not, nat_le}
use Rattle.std.proofs.Common.{if◌then◌else◌, refl, sym, ap, subst, arith}
use Rattle.std.specs.List.{list_all}
use Rattle.std.proofs.lemmas.List.{append-nil}
use Rattle.run_capture.specs.Bytes.{AtEnd, Gives}
use Rattle.run_events.specs.declared.plan.Plan.{Plan}
use Rattle.run_input.specs.Input.{plan_line_of}
use Rattle.run_input.specs.declared.plan_line.RunnerKeys.{RunnerKeys}
use Rattle.run_store.specs.Records.{most_bytes}
use Rattle.run_store.specs.Stores.{StoreReading, whole, torn, no_plan, bad, IsReading, is_plan_payload}
use Rattle.run_store_io.specs.Reads.{IsReadAs, ReadsStore, most_stored}
use Rattle.run_store_io.specs.declared.stored.Stored.{Stored}
use Rattle.run_store_io.specs.declared.error.StoreError.{StoreError}
use Rattle.run_store_io.specs.declared.error.StoreError.TheVariants as errors
use Rattle.run_cli.specs.Plans.{plan_refusal, settings_for}
use Rattle.run_rerun.specs.declared.answers.RunTests.{RunTests}
use Rattle.run_rerun.specs.declared.answers.RerunError.{RerunError}
use Rattle.run_rerun.specs.declared.answers.RerunError.TheVariants as reruns
use Rattle.run_rerun.specs.Runs.{AreTestsOf, SaysStored}
use Rattle.run_rerun_cli.specs.declared.faults.FoundError.{FoundError}
use Rattle.run_rerun_cli.specs.declared.faults.FoundError.TheVariants as found
use Rattle.run_rerun_cli.specs.declared.faults.RerunFault.TheVariants as faults
use Rattle.run_rerun_cli.specs.Finds.{GivesError, IsFoundRefusal, GivesRun, HasStored, found_error, is_reading_error}
use Rattle.run_rerun_cli.specs.Found.{HasBytes, HasStoredRun, HasTests, IsRefusedIn, IsStoreOf, ShowsFault, StopsIn}

-- what a source that is at its end has given is all that it had, where that is told
pub all_bytes : (told left : Option (List ℕ)) (bytes : List ℕ) → Gives told left bytes → AtEnd left
    → HasBytes told bytes
all_bytes None None bytes given end = refl
all_bytes None (Some rest) bytes given end = cc
all_bytes (Some all) None bytes given end = cc
all_bytes (Some all) (Some rest) bytes given end =
    let none : rest ≡ [] = cc in given ∙ ap (λ r. Some (bytes ++ r)) none ∙ ap Some (append-nil bytes)

-- a store that was read has that
pub read_has : (told left : Option (List ℕ)) (s : Stored) → ReadsStore told left (Ok s) → HasStored told s
read_has told left s (bytes, given, end, within, read) =
    record { bytes = bytes; has = all_bytes told left bytes given end; within = within; read = read }

-- and one that was not read has what the error says
pub error_has : (told left : Option (List ℕ)) (e : StoreError) → ReadsStore told left (Err e)
    → GivesError told (found_error e)
error_has told left errors.Read h = tt
error_has told left errors.TooLong (lost, given, above) = (lost, left, given, above)
error_has told left errors.NoPlan (bytes, given, end, within, read) =
    record { bytes = bytes; has = all_bytes told left bytes given end; within = within; read = read }
error_has told left (errors.Bad place) (bytes, given, end, within, read) =
    record { bytes = bytes; has = all_bytes told left bytes given end; within = within; read = read }
error_has told left errors.Write h = tt
error_has told left errors.Closed h = tt
error_has told left errors.OutOfMemory h = tt

-- a store that has a plan line which says a plan has a run
pub has_run : (told : Option (List ℕ)) (s : Stored) (keys : RunnerKeys) (plan : Plan) → HasStored told s
    → plan_line_of s.plan ≡ Some (keys, plan) → HasStoredRun told s.plan keys plan s.turns
has_run told s keys plan has says = record { ended = s.whole; store = has; says = says }

-- what is there
is_there : {X : Type 0} (o : Option X) → IsSome o → (x : X) × (o ≡ Some x)
is_there (Some x) h = (x, refl)
is_there None h = cc

-- so its tests are those of that run
pub has_tests : (told : Option (List ℕ)) (s : Stored) (tests : RunTests) → HasStored told s
    → IsSome (plan_line_of s.plan) → ((keys : RunnerKeys) (plan : Plan) → plan_line_of s.plan ≡ Some (keys, plan)
    → SaysStored keys plan s.turns (Ok tests))
    → HasTests told (record { line = s.plan; tests = tests; whole = s.whole })
unfolding has_run
has_tests told s tests has said says =
    let there = is_there (plan_line_of s.plan) said in
    let run = says there.0.0 there.0.1 there.1 in
    record {
      keys = there.0.0;
      plan = there.0.1;
      turns = s.turns;
      has = has_run told s there.0.0 there.0.1 has there.1;
      ends = refl;
      accepted = run.0;
      tests = run.1;
    }

pub has_refusal : (told : Option (List ℕ)) (s : Stored) (e : FoundError) → HasStored told s
    → IsSome (plan_line_of s.plan) → is_reading_error e ≡ false
    → ((keys : RunnerKeys) (plan : Plan) → plan_line_of s.plan ≡ Some (keys, plan) → IsFoundRefusal keys plan e)
    → GivesError told e
has_refusal told s (found.Fault (faults.Plan fault)) has said quiet says =
    let there = is_there (plan_line_of s.plan) said in
    record {
      line = s.plan;
      keys = there.0.0;
      plan = there.0.1;
      turns = s.turns;
      has = has_run told s there.0.0 there.0.1 has there.1;
      refused = says there.0.0 there.0.1 there.1;
    }
has_refusal told s found.OutOfMemory has said quiet says = tt
has_refusal told s (found.Fault faults.Read) has said quiet says = cc
has_refusal told s (found.Fault faults.TooLong) has said quiet says =
    let there = is_there (plan_line_of s.plan) said in absurd (says there.0.0 there.0.1 there.1)
has_refusal told s (found.Fault faults.Torn) has said quiet says =
    let there = is_there (plan_line_of s.plan) said in absurd (says there.0.0 there.0.1 there.1)
has_refusal told s (found.Fault (faults.Bad place)) has said quiet says =
    let there = is_there (plan_line_of s.plan) said in absurd (says there.0.0 there.0.1 there.1)
has_refusal told s (found.Fault (faults.NotEnabled place)) has said quiet says =
    let there = is_there (plan_line_of s.plan) said in absurd (says there.0.0 there.0.1 there.1)
has_refusal told s (found.Fault (faults.ThirdSignal place)) has said quiet says =
    let there = is_there (plan_line_of s.plan) said in absurd (says there.0.0 there.0.1 there.1)

-- turns that stop
abbrev stop_of : ℕ → Bool → RerunError
stop_of place true = reruns.ThirdSignal place
stop_of place false = reruns.NotEnabled place

pub has_stop : (told : Option (List ℕ)) (s : Stored) (place : ℕ) (third : Bool) → HasStored told s
    → IsSome (plan_line_of s.plan) → ((keys : RunnerKeys) (plan : Plan) → plan_line_of s.plan ≡ Some (keys, plan)
    → SaysStored keys plan s.turns (Err (stop_of place third))) → StopsIn told place third
has_stop told s place third has said says =
    let there = is_there (plan_line_of s.plan) said in
    by_third third (says there.0.0 there.0.1 there.1)
  where
    by_third : (third : Bool) → SaysStored (is_there (plan_line_of s.plan) said).0.0
        (is_there (plan_line_of s.plan) said).0.1 s.turns (Err (stop_of place third)) → StopsIn told place third
    by_third true run =
        let there = is_there (plan_line_of s.plan) said in
        record {
          line = s.plan;
          keys = there.0.0;
          plan = there.0.1;
          turns = s.turns;
          has = has_run told s there.0.0 there.0.1 has there.1;
          accepted = run.0;
          stops = run.1;
        }
    by_third false run =
        let there = is_there (plan_line_of s.plan) said in
        record {
          line = s.plan;
          keys = there.0.0;
          plan = there.0.1;
          turns = s.turns;
          has = has_run told s there.0.0 there.0.1 has there.1;
          accepted = run.0;
          stops = run.1;
        }

-- a store that was read is storable
and_first : (x y : Bool) → x && y ≡ true → x ≡ true
and_first true y e = refl
and_first false y e = cc

pub stored_says : (told : Option (List ℕ)) (s : Stored) → HasStored told s
    → IsSome (plan_line_of s.plan) × (length s.turns < 2 ^ 32)
stored_says told s has = by_whole s.whole has.read
  where
    by_whole : (b : Bool) → IsReading has.bytes (if b then whole s.plan s.turns else torn s.plan s.turns)
        → IsSome (plan_line_of s.plan) × (length s.turns < 2 ^ 32)
    by_whole true h = (and_first (is_some (plan_line_of s.plan)) _ h.storable.plan_line, h.storable.few)
    by_whole false h =
        (and_first (is_some (plan_line_of s.plan)) _ h.reaches.storable.plan_line, h.reaches.storable.few)
