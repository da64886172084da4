-- What holds of every document.
use Rattle.std.proofs.Common.{◌≡◌, ℕ, Bool, true, false, cond, List, [], ◌∷◌, ◌++◌, length, map}
use Rattle.std.proofs.Common.{Option, Some, None, refl, sym, ap, ◌∙◌, arith, length-append}
use Rattle.std.proofs.lemmas.List.{length-map, map-append}
use Rattle.std.proofs.lemmas.List.Sums.{sum_by-append, sum_by-cons}
use Rattle.std.specs.List.{count_by, flat_map}
use Rattle.run_events.specs.declared.events.ReporterEvent.{ReporterEvent}
use Rattle.run_events.specs.Stats.{one_if}
use Rattle.run_junit.specs.declared.reason.Fault.{Fault}
use Rattle.run_junit.specs.declared.reason.Fault.TheVariants as faults
use Rattle.run_junit.specs.declared.tag.Tag.{Tag}
use Rattle.run_junit.specs.declared.tag.Tag.TheVariants as tags
use Rattle.run_junit.specs.Document.{document, elapsed_last, id_told, junit_tokens, run_end, run_said, document_open}
use Rattle.run_junit.specs.Document.{suite_end, suite_said, suite_start, suite_tokens}
use Rattle.run_junit.specs.Laws.{CasesAreFinishes, CountsAreThoseBelow, counts_below, finish_said, finishes_of_suites}
use Rattle.run_junit.specs.Laws.{is_case}
use Rattle.run_junit.specs.Laws.{is_error_tag, is_failure_tag, attributes_at}
use Rattle.run_junit.specs.Suites.{Finish, Suite, case_tokens, counts_of, fault_counted, finishes_heard}
use Rattle.run_junit.specs.Suites.{counts_as_error, counts_as_failure}
use Rattle.run_junit.specs.Suites.{suites_of}
use Rattle.run_junit.proofs.OrderLemmas.{in_order, once}
use Rattle.run_junit.proofs.StartLemmas.{IsOuter, error_outer, failure_outer, fault_fits, fault_length}
use Rattle.run_junit.proofs.StartLemmas.{none_before, none_behind, one_case, starts-append, unfit}
use Rattle.run_junit.proofs.SuiteLemmas.{same_counts}

-- what stands in a suite is what stands in its cases
suite_starts : (fits : Tag → Bool) (started : Option ℕ) (suite : Suite) → fits tags.TestSuite ≡ false
    → attributes_at fits (suite_tokens started suite)
    ≡ attributes_at fits (flat_map (case_tokens started) suite.finishes)
suite_starts fits started suite off =
    let cases = flat_map (case_tokens started) suite.finishes in
    none_before fits (suite_start suite.name (counts_of suite.finishes)) (cases ++ suite_end)
    (unfit fits tags.TestSuite (suite_said suite.name (counts_of suite.finishes)) [] off)
    ∙ none_behind fits cases suite_end refl

-- what stands in a document is what stands in its suites
document_starts : (fits : Tag → Bool) (started : Option ℕ) (id : List ℕ) (elapsed : ℕ) (xs : List Finish)
    → fits tags.TestSuites ≡ false
    → attributes_at fits (document started id elapsed xs)
    ≡ attributes_at fits (flat_map (suite_tokens started) (suites_of xs))
document_starts fits started id elapsed xs off =
    let suites = flat_map (suite_tokens started) (suites_of xs) in
    none_before fits (document_open started (counts_of xs) id elapsed) (suites ++ run_end)
    (unfit fits tags.TestSuites (run_said started (counts_of xs) id elapsed) [] off)
    ∙ none_behind fits suites run_end refl

cases_of : (started : Option ℕ) (xs : List Finish)
    → attributes_at is_case (flat_map (case_tokens started) xs) ≡ map (finish_said started) xs
cases_of started [] = refl
cases_of started (x ∷ xs) =
    starts-append is_case (case_tokens started x) (flat_map (case_tokens started) xs)
    ∙ ap (λ ss. ss ++ attributes_at is_case (flat_map (case_tokens started) xs)) (one_case started x)
    ∙ ap (λ ss. finish_said started x ∷ ss) (cases_of started xs)

cases_in_suite : (started : Option ℕ) (suite : Suite)
    → attributes_at is_case (suite_tokens started suite) ≡ map (finish_said started) suite.finishes
cases_in_suite started suite = suite_starts is_case started suite refl ∙ cases_of started suite.finishes

cases_in_suites : (started : Option ℕ) (suites : List Suite)
    → attributes_at is_case (flat_map (suite_tokens started) suites)
    ≡ map (finish_said started) (finishes_of_suites suites)
cases_in_suites started [] = refl
cases_in_suites started (s ∷ ss) =
    starts-append is_case (suite_tokens started s) (flat_map (suite_tokens started) ss)
    ∙ ap (λ cs. cs ++ attributes_at is_case (flat_map (suite_tokens started) ss)) (cases_in_suite started s)
    ∙ ap (λ cs. map (finish_said started) s.finishes ++ cs) (cases_in_suites started ss)
    ∙ sym (map-append (finish_said started) s.finishes (finishes_of_suites ss))

cases_in_document : (started : Option ℕ) (told : List ReporterEvent)
    → attributes_at is_case (junit_tokens started told)
    ≡ map (finish_said started) (finishes_of_suites (suites_of (finishes_heard told)))
unfolding junit_tokens
cases_in_document started told =
    document_starts is_case started (id_told [] told) (elapsed_last 0 told) (finishes_heard told) refl
    ∙ cases_in_suites started (suites_of (finishes_heard told))

pub cases_are_finishes : CasesAreFinishes
cases_are_finishes = record {
  in_suite = cases_in_suite;
  in_document = cases_in_document;
  in_order = in_order;
  once = once;
}

one_cond : (b : Bool) → one_if b ≡ cond b 1 0
one_cond true = refl
one_cond false = refl

-- how many elements of a fault stand in cases
faults_of : (fits : Tag → Bool) (started : Option ℕ) (xs : List Finish) → IsOuter fits → fits tags.TestCase ≡ false
    → length (attributes_at fits (flat_map (case_tokens started) xs))
    ≡ count_by (λ x. fault_fits fits (fault_counted x)) xs
faults_of fits started [] o off = refl
faults_of fits started (x ∷ xs) o off =
    let both = ap length (starts-append fits (case_tokens started x) (flat_map (case_tokens started) xs)) in
    let sum = length-append (attributes_at fits (case_tokens started x))
    (attributes_at fits (flat_map (case_tokens started) xs)) in
    let here = fault_length fits started x o off ∙ one_cond (fault_fits fits (fault_counted x)) in
    let there = faults_of fits started xs o off in
    let all = sum_by-cons (λ (y : Finish). cond (fault_fits fits (fault_counted y)) 1 0) x xs in
    omega (arith, both, sum, here, there, all)

faults_in_suites : (fits : Tag → Bool) (started : Option ℕ) (suites : List Suite) → IsOuter fits
    → fits tags.TestCase ≡ false → fits tags.TestSuite ≡ false
    → length (attributes_at fits (flat_map (suite_tokens started) suites))
    ≡ count_by (λ x. fault_fits fits (fault_counted x)) (finishes_of_suites suites)
faults_in_suites fits started [] o off out = refl
faults_in_suites fits started (s ∷ ss) o off out =
    let both = ap length (starts-append fits (suite_tokens started s) (flat_map (suite_tokens started) ss)) in
    let sum = length-append (attributes_at fits (suite_tokens started s))
    (attributes_at fits (flat_map (suite_tokens started) ss)) in
    let here = ap length (suite_starts fits started s out) ∙ faults_of fits started s.finishes o off in
    let there = faults_in_suites fits started ss o off out in
    let all = sum_by-append (λ (y : Finish). cond (fault_fits fits (fault_counted y)) 1 0) s.finishes
    (finishes_of_suites ss) in
    omega (arith, both, sum, here, there, all)

is_failure_fits : (o : Option Fault) → counts_as_failure o ≡ fault_fits is_failure_tag o
is_failure_fits None = refl
is_failure_fits (Some faults.Failure) = refl
is_failure_fits (Some faults.Error) = refl

is_error_fits : (o : Option Fault) → counts_as_error o ≡ fault_fits is_error_tag o
is_error_fits None = refl
is_error_fits (Some faults.Failure) = refl
is_error_fits (Some faults.Error) = refl

same_count : {X : Type 0} (p q : X → Bool) (xs : List X) → ((x : X) → p x ≡ q x) → count_by p xs ≡ count_by q xs
same_count p q [] same = refl
same_count p q (x ∷ xs) same =
    let here = sum_by-cons (λ y. cond (p y) 1 0) x xs in
    let there = sum_by-cons (λ y. cond (q y) 1 0) x xs in
    let one = ap {B = ℕ} (λ (b : Bool). cond b 1 0) (same x) in
    let rest = same_count p q xs same in
    omega (arith, here, there, one, rest)

count_every : {X : Type 0} (xs : List X) → count_by (λ x. true) xs ≡ length xs
count_every [] = refl
count_every (x ∷ xs) =
    let here = sum_by-cons (λ y. cond true 1 0) x xs in
    let rest = count_every xs in
    omega (arith, here, rest)

counts_in_suite : (started : Option ℕ) (suite : Suite)
    → counts_of suite.finishes ≡ counts_below (suite_tokens started suite)
counts_in_suite started suite =
    let xs = suite.finishes in
    same_counts _ _ _ _ _ _
    (sym (ap length (cases_in_suite started suite) ∙ length-map xs (finish_said started)))
    (same_count (λ x. counts_as_failure (fault_counted x)) (λ x. fault_fits is_failure_tag (fault_counted x)) xs
    (λ x. is_failure_fits (fault_counted x))
    ∙ sym (ap length (suite_starts is_failure_tag started suite refl)
    ∙ faults_of is_failure_tag started xs failure_outer refl))
    (same_count (λ x. counts_as_error (fault_counted x)) (λ x. fault_fits is_error_tag (fault_counted x)) xs
    (λ x. is_error_fits (fault_counted x))
    ∙ sym (ap length (suite_starts is_error_tag started suite refl)
    ∙ faults_of is_error_tag started xs error_outer refl))

-- how many elements of a fault stand in a document
faults_in_document : (fits : Tag → Bool) (started : Option ℕ) (told : List ReporterEvent) → IsOuter fits
    → fits tags.TestCase ≡ false → fits tags.TestSuite ≡ false → fits tags.TestSuites ≡ false
    → length (attributes_at fits (junit_tokens started told))
    ≡ count_by (λ x. fault_fits fits (fault_counted x)) (finishes_heard told)
unfolding junit_tokens
faults_in_document fits started told o off out outside =
    ap length (document_starts fits started (id_told [] told) (elapsed_last 0 told) (finishes_heard told) outside)
    ∙ faults_in_suites fits started (suites_of (finishes_heard told)) o off out
    ∙ once (finishes_heard told) (λ x. fault_fits fits (fault_counted x))

tests_in_document : (started : Option ℕ) (told : List ReporterEvent)
    → length (attributes_at is_case (junit_tokens started told)) ≡ length (finishes_heard told)
tests_in_document started told =
    let xs = finishes_heard told in
    ap length (cases_in_document started told)
    ∙ length-map (finishes_of_suites (suites_of xs)) (finish_said started)
    ∙ sym (count_every (finishes_of_suites (suites_of xs))) ∙ once xs (λ x. true) ∙ count_every xs

counts_in_document : (started : Option ℕ) (told : List ReporterEvent)
    → counts_of (finishes_heard told) ≡ counts_below (junit_tokens started told)
counts_in_document started told =
    let xs = finishes_heard told in
    same_counts _ _ _ _ _ _ (sym (tests_in_document started told))
    (same_count (λ x. counts_as_failure (fault_counted x)) (λ x. fault_fits is_failure_tag (fault_counted x)) xs
    (λ x. is_failure_fits (fault_counted x))
    ∙ sym (faults_in_document is_failure_tag started told failure_outer refl refl refl))
    (same_count (λ x. counts_as_error (fault_counted x)) (λ x. fault_fits is_error_tag (fault_counted x)) xs
    (λ x. is_error_fits (fault_counted x))
    ∙ sym (faults_in_document is_error_tag started told error_outer refl refl refl))

pub counts_are_those_below : CountsAreThoseBelow
counts_are_those_below = record { in_suite = counts_in_suite; in_document = counts_in_document }
