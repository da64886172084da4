-- The laws of plans of a project.
use Rattle.std.proofs.Common.{◌≡◌, ◌≢◌, ◌∙◌, ℕ, zero, suc, ◌<◌, ◌≤◌, ◌++◌, not, Bool, true, false, List, [], ◌∷◌}
use Rattle.std.proofs.Common.{codes, length, map, take, Option, Some, None, is_some, is_none, unwrap_or, slice_get}
use Rattle.std.proofs.Common.{if◌then◌else◌, refl, sym, ap, subst, arith, true≢false}
use Rattle.std.proofs.lemmas.List.{length-map}
use Rattle.std.specs.List.{zip}
use Rattle.std.specs.Option.{option_or}
use Rattle.run_events.specs.declared.plan.PlanTest.{PlanTest}
use Rattle.run_filter.specs.Partition.{is_in}
use Rattle.run_filter.specs.declared.partition.Candidate.{Candidate}
use Rattle.run_filter.specs.declared.partition.PartitionKind.{PartitionKind}
use Rattle.run_filter.proofs.PartitionLemmas.{shared}
use Rattle.run_profile.specs.declared.levels.Project.{Project}
use Rattle.run_profile.specs.declared.scripts.SetupScript.{SetupScript}
use Rattle.run_plan_line.specs.declared.said.SaidPlan.{SaidPlan}
use Rattle.run_plan.specs.Asks.{IsAsked}
use Rattle.run_plan.specs.Listed.{AskedTest, listed}
use Rattle.run_plan.specs.Planned.{candidate_of, kept_rows, kept_tests, planned, scripted_test, test_id}
use Rattle.run_plan.specs.Planned.{threads_of_call}
use Rattle.run_plan.specs.Reasons.{filter_reasons, first_that_holds, part_reason, reason_of_filters}
use Rattle.run_plan.specs.declared.asked.Call.{Call}
use Rattle.run_plan.specs.declared.choices.Choices.{Choices}
use Rattle.run_plan.specs.declared.choices.Picks.{Picks}
use Rattle.run_plan.specs.declared.test_list.TestList.{TestList}
use Rattle.run_laws_plan.proofs.ListLemmas.{first_of_zip, get_map, get_zip, map_twice, parted_at, parted_length}
use Rattle.run_laws_plan.proofs.ListLemmas.{zip_long}
use Rattle.run_laws_plan.specs.Plans.{HasOnePart, IsFirstReason, IsSkippedAs, PartsSharePlans, PlansHaveListedTests}
use Rattle.run_laws_plan.specs.Plans.{SkipsHaveFirstReasons, skip_reasons, by_part}

-- as many tests are kept or not as there are
kept_length : (partition : Option (PartitionKind × ℕ × ℕ)) (picks : Picks) (rows : List AskedTest)
    → length (kept_tests partition picks rows) ≡ length rows
kept_length None picks rows = length-map rows (λ row. true)
kept_length (Some p) picks rows =
    parted_length p.0 p.1 p.2 [] (map (candidate_of picks) rows) ∙ length-map rows (candidate_of picks)

pub have_listed : PlansHaveListedTests
unfolding planned
have_listed config list project choices call plan is =
    let rows = zip (listed list) is.asked in
    let picks = choices.picks in
    let made = scripted_test call.processors (threads_of_call call project.profile choices.ways) project.profile picks
    is.is.used in
    let kept = kept_tests picks.partition picks rows in
    let ids : map (λ (t : PlanTest). t.id) plan.tests ≡ map (λ (t : PlanTest). t.id) (map made (zip rows kept))
    = ap (λ p. map (λ (t : PlanTest). t.id) p.tests) is.is.is in
    let each : map (λ (t : PlanTest). t.id) (map made (zip rows kept)) ≡ map (λ r. test_id r.0.0) (zip rows kept)
    = map_twice made (λ (t : PlanTest). t.id) (zip rows kept) in
    let all : map (λ r. test_id r.0.0) (zip rows kept) ≡ map (λ r. test_id r.0) rows
    = first_of_zip (λ r. test_id r.0) rows kept (sym (kept_length picks.partition picks rows)) in
    let tests : map (λ r. test_id r.0) rows ≡ map test_id (listed list)
    = first_of_zip test_id (listed list) is.asked
    (zip_long (IsAsked project.profile picks) (listed list) is.asked is.are_asked.each) in
    ids ∙ each ∙ all ∙ tests

-- the test at a place is skipped by what is known of it
skipped_so : (list : TestList) (project : Project) (choices : Choices) (call : Call) (rows : List AskedTest)
    (used : List SetupScript) (place : ℕ) (row : AskedTest) (kept : Bool) → slice_get rows place ≡ Some row
    → slice_get (kept_tests choices.picks.partition choices.picks rows) place ≡ Some kept
    → IsSkippedAs (planned list project choices call rows used) place
    (part_reason (reason_of_filters choices.picks row) kept)
unfolding planned
skipped_so list project choices call rows used place row kept is is_kept =
    let picks = choices.picks in
    let made = scripted_test call.processors (threads_of_call call project.profile choices.ways) project.profile picks
    used in record {
      test = made (row, kept);
      there = get_map made (kept_rows picks rows) place (row, kept)
          (get_zip rows (kept_tests picks.partition picks rows) place row kept is is_kept);
      so = refl;
    }

-- the first reason that holds is one before which none does
none_first : (reason : Bool × List ℕ) (reasons : List (Bool × List ℕ)) → reason.0 ≡ false → IsFirstReason reasons None
    → IsFirstReason (reason ∷ reasons) None
none_first reason reasons not_it none zero holds text is =
    let same : reason ≡ (holds, text) = cc in
    sym (ap (λ r. r.0) same) ∙ not_it
none_first reason reasons not_it none (suc k) holds text is = none k holds text is

before_later : (reason : Bool × List ℕ) (reasons : List (Bool × List ℕ)) (place : ℕ) → reason.0 ≡ false
    → ((k : ℕ) (holds : Bool) (text : List ℕ) → k < place → slice_get reasons k ≡ Some (holds, text) → holds ≡ false)
    → (k : ℕ) (holds : Bool) (text : List ℕ) → k < suc place → slice_get (reason ∷ reasons) k ≡ Some (holds, text)
    → holds ≡ false
before_later reason reasons place not_it before zero holds text below is =
    let same : reason ≡ (holds, text) = cc in
    sym (ap (λ r. r.0) same) ∙ not_it
before_later reason reasons place not_it before (suc k) holds text below is =
    before k holds text (omega (arith, below)) is

later_first : (reason : Bool × List ℕ) (reasons : List (Bool × List ℕ)) (found : List ℕ) → reason.0 ≡ false
    → IsFirstReason reasons (Some found) → IsFirstReason (reason ∷ reasons) (Some found)
later_first reason reasons found not_it first =
    (suc first.0, first.1, λ k holds text. before_later reason reasons first.0 not_it first.2 k holds text)

next_first : (text : List ℕ) (reasons : List (Bool × List ℕ)) (o : Option (List ℕ)) → IsFirstReason reasons o
    → IsFirstReason ((false, text) ∷ reasons) o
next_first text reasons None h = none_first (false, text) reasons refl h
next_first text reasons (Some found) h = later_first (false, text) reasons found refl h

first_is : (reasons : List (Bool × List ℕ)) → IsFirstReason reasons (first_that_holds reasons)
first_is [] = λ k holds text is. cc
first_is ((true, text) ∷ reasons) = (0, refl, λ k holds other below. absurd (omega (arith, below)))
first_is ((false, text) ∷ reasons) = next_first text reasons (first_that_holds reasons) (first_is reasons)

-- the reason of the partition comes last
part_last : (reasons : List (Bool × List ℕ)) (kept : Bool)
    → part_reason (first_that_holds reasons) kept ≡ first_that_holds (reasons ++ (not kept, codes "partition") ∷ [])
part_last [] true = refl
part_last [] false = refl
part_last ((true, text) ∷ reasons) kept = refl
part_last ((false, text) ∷ reasons) kept = part_last reasons kept

all_reasons : (left_out : Option (List ℕ)) (reasons : List (Bool × List ℕ)) (kept : Bool)
    → part_reason (option_or left_out (first_that_holds reasons)) kept
    ≡ first_that_holds ((is_some left_out, unwrap_or left_out []) ∷ reasons ++ (not kept, codes "partition") ∷ [])
all_reasons None reasons kept = part_last reasons kept
all_reasons (Some reason) reasons kept = refl

pub have_reasons : SkipsHaveFirstReasons
have_reasons list project choices call rows used place row kept is is_kept =
    let picks = choices.picks in (
      part_reason (reason_of_filters picks row) kept,
      skipped_so list project choices call rows used place row kept is is_kept,
      subst (IsFirstReason (skip_reasons picks row kept))
          (sym (all_reasons row.0.2.left_out (filter_reasons picks row.0.2 row.1) kept))
          (first_is (skip_reasons picks row kept)),
    )

-- whether the test at a place stands in a part
kept_in : (picks : Picks) (rows : List AskedTest) (kind : PartitionKind) (part parts place : ℕ) (row : AskedTest)
    → slice_get rows place ≡ Some row
    → slice_get (kept_tests (Some (kind, part, parts)) picks rows) place
    ≡ Some (is_in kind part parts (take place (map (candidate_of picks) rows)) (candidate_of picks row))
kept_in picks rows kind part parts place row is =
    parted_at kind part parts [] (map (candidate_of picks) rows) place (candidate_of picks row)
    (get_map (candidate_of picks) rows place row is)

-- a test that a part doesn't have is skipped for that
other_part : (b : Bool) → (b ≡ true → ⊥) → part_reason None b ≡ Some (codes "partition")
other_part true never = absurd (never refl)
other_part false never = refl

this_part : (b : Bool) → b ≡ true → part_reason None b ≡ None
this_part true is = refl
this_part false is = absurd (true≢false (sym is))

so_as : {plan : SaidPlan} {place : ℕ} (skip other : Option (List ℕ)) → skip ≡ other → IsSkippedAs plan place skip
    → IsSkippedAs plan place other
so_as skip other same h = record { test = h.test; there = h.there; so = h.so ∙ same }

pub parts_share : PartsSharePlans
parts_share = record {
  shared = λ list project choices call rows used kind parts place row some is none.
      let its = candidate_of choices.picks row in
      let before = take place (map (candidate_of choices.picks) rows) in
      let found = shared.in_one kind parts before its some (ap is_none none) in
      let skipped = λ (part : ℕ). so_as _ _
      (ap (λ o. part_reason o (is_in kind part parts before its)) none)
      (skipped_so list project (by_part choices kind part parts) call rows (used part) place row
      (is_in kind part parts before its) is
      (kept_in (by_part choices kind part parts).picks rows kind part parts place row is)) in (
        found.0,
        found.1,
        found.2,
        so_as _ _ (this_part (is_in kind found.0 parts before its) found.3) (skipped found.0),
        λ other differs. so_as _ _ (other_part (is_in kind other parts before its)
            (λ there. differs (shared.in_no_other kind other found.0 parts before its there found.3))) (skipped other),
      );
  left_out = λ list project choices call rows used kind part parts place row reason is why.
      let its = is_in kind part parts (take place (map (candidate_of choices.picks) rows))
      (candidate_of choices.picks row) in
      so_as _ _ (ap (λ o. part_reason o its) why)
      (skipped_so list project (by_part choices kind part parts) call rows used place row its is
      (kept_in (by_part choices kind part parts).picks rows kind part parts place row is));
}
