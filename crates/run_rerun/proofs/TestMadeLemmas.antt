-- A test of the plan line of a rerun.
use Rattle.std.proofs.Common.{◌≡◌, ◌∙◌, ℕ, ℤ, ◌&&◌, List, [], ◌∷◌, map, length, Bool, true, false, not, nat_lt, refl}
use Rattle.std.proofs.Common.{ap}
use Rattle.std.proofs.Common.{subst, cond, codes, Option, Some, None, is_none, unwrap_or}
use Rattle.std.specs.Option.{option_and_then, option_map}
use Rattle.std.proofs.lemmas.List.{length-map}
use Rattle.std.proofs.lemmas.Option.{same_Some}
use Rattle.serde_json.specs.Data.{Data, null, boolean, number, string, array, object, Items, no_items, item}
use Rattle.serde_json.specs.Find.{get, as_str}
use Rattle.run_commands.specs.declared.target_runner.BuildPlatform.{BuildPlatform}
use Rattle.run_commands.specs.declared.target_runner.BuildPlatform.TheVariants as platforms
use Rattle.run_events.specs.Usual.{no_retries, usual_leak, usual_slow, usual_test}
use Rattle.run_events.specs.declared.plan.LeakTimeout.{LeakTimeout}
use Rattle.run_events.specs.declared.plan.PlanTest.{PlanTest}
use Rattle.run_events.specs.declared.plan.SlowTimeout.{SlowTimeout}
use Rattle.run_events.specs.declared.plan.TestInstanceId.{TestInstanceId}
use Rattle.run_events.specs.declared.result.FlakyResult.{FlakyResult}
use Rattle.run_events.specs.declared.result.FlakyResult.TheVariants as flakies
use Rattle.run_events.specs.declared.retry_policy.RetryPolicy.{RetryPolicy}
use Rattle.run_input.specs.Fields.{◌>>=◌, is_object_of, numbers_of, optional, or_usual, texts_of, u32_of, when}
use Rattle.run_input.specs.PlanLine.{plan_tests_of, tests_from, tests_of}
use Rattle.run_input.specs.PlanRetries.{flaky_from, retries_from}
use Rattle.run_input.specs.PlanTest.{id_of, keys_of_test, leak_of, named_of, platform_of, priority_said, rank_of}
use Rattle.run_input.specs.PlanTest.{slow_of}
use Rattle.run_input.specs.PlanTest.{terms_from, test_from, ties_of, trials_of}
use Rattle.run_rerun.specs.Made.{is_to_skip, made_items, made_test, made_tests, skipped_unless, with_member}
use Rattle.run_rerun.specs.Outstanding.{has_id}
use Rattle.run_rerun.proofs.MemberLemmas.{apart, get-other, get-put, object-with}
use Rattle.run_rerun.proofs.PlanLemmas.{Keeps, three, two}

-- the keys of a test but the reason of its skip
abbrev pub test_names : List (List ℕ)
test_names =
    codes "binary" ∷ codes "command" ∷ codes "flaky" ∷ codes "group" ∷ codes "leak" ∷ codes "name" ∷ codes "platform"
    ∷ codes "priority" ∷ codes "retries" ∷ codes "scripts" ∷ codes "slow" ∷ codes "weight" ∷ []

abbrev terms_by : Option Data → Option Data → Option Data → Option (ℕ × SlowTimeout × LeakTimeout)
terms_by a b c = do
  weight ← or_usual 1 u32_of a
  slow ← or_usual usual_slow (slow_of usual_slow) b
  leak ← or_usual usual_leak leak_of c
  Some (weight, slow, leak)

abbrev trials_by : Option Data → Option Data → Option (RetryPolicy × FlakyResult)
trials_by a b = do
  retries ← or_usual no_retries retries_from a
  flaky ← or_usual flakies.Pass flaky_from b
  Some (retries, flaky)

abbrev rank_by : ℕ → Option Data → Option Data → Option (BuildPlatform × ℤ)
rank_by version a b = do
  platform ← or_usual platforms.Target platform_of a
  priority ← priority_said version b
  Some (platform, priority)

abbrev ties_by : Option Data → Option Data → Option (Option (List ℕ) × List ℕ)
ties_by a b = do
  group ← optional as_str a
  scripts ← or_usual [] numbers_of b
  Some (group, scripts)

abbrev id_by : Option Data → Option Data → Option TestInstanceId
id_by a b = do
  binary ← option_and_then as_str a
  name ← option_and_then as_str b
  Some (record { binary = binary; name = name })

abbrev named_by : Option TestInstanceId → Option (List (List ℕ)) → Option (Option (List ℕ)) → Option PlanTest
named_by i c s = do
  id ← i
  command ← c
  skip ← s
  Some (usual_test id command skip)

abbrev test_by : Option (ℕ × SlowTimeout × LeakTimeout) → Option (RetryPolicy × FlakyResult)
    → Option (BuildPlatform × ℤ)
    → Option (Option (List ℕ) × List ℕ) → Option PlanTest → Option PlanTest
test_by a b c d e = do
  terms ← a
  trials ← b
  rank ← c
  ties ← d
  test ← e
  Some (record test {
    weight = terms.0;
    slow = terms.1;
    leak = terms.2;
    retries = trials.0;
    flaky = trials.1;
    group = ties.0;
    scripts = ties.1;
    platform = rank.0;
    priority = rank.1;
  })

-- a named test, and the same with another reason
abbrev Named : Option TestInstanceId → Option (List (List ℕ)) → Option (Option (List ℕ)) → PlanTest → Type 0
Named i c s test = (i ≡ Some test.id) × (s ≡ Some test.skip)
    × ((reason : List ℕ) → named_by i c (Some (Some reason)) ≡ Some (record test { skip = Some reason }))

named : (i : Option TestInstanceId) (c : Option (List (List ℕ))) (s : Option (Option (List ℕ))) (test : PlanTest)
    → named_by i c s ≡ Some test → Named i c s test
named None c s test h = cc
named (Some id) None s test h = cc
named (Some id) (Some command) None test h = cc
named (Some id) (Some command) (Some skip) test h =
    let same : usual_test id command skip ≡ test = same_Some (usual_test id command skip) test h in
    subst (Named (Some id) (Some command) (Some skip)) same (refl, refl, λ reason. refl)

-- a test, by its parts, and the same with another reason
abbrev Tested : Option (ℕ × SlowTimeout × LeakTimeout) → Option (RetryPolicy × FlakyResult)
    → Option (BuildPlatform × ℤ) → Option (Option (List ℕ) × List ℕ) → Option PlanTest → PlanTest → Type 0
Tested a b c d e test = (plain : PlanTest) × (e ≡ Some plain) × (plain.id ≡ test.id) × (plain.skip ≡ test.skip)
    × ((reason : List ℕ) → test_by a b c d (Some (record plain { skip = Some reason }))
    ≡ Some (record test { skip = Some reason }))

tested : (a : Option (ℕ × SlowTimeout × LeakTimeout)) (b : Option (RetryPolicy × FlakyResult))
    (c : Option (BuildPlatform × ℤ)) (d : Option (Option (List ℕ) × List ℕ)) (e : Option PlanTest) (test : PlanTest)
    → test_by a b c d e ≡ Some test → Tested a b c d e test
tested None b c d e test h = cc
tested (Some a) None c d e test h = cc
tested (Some a) (Some b) None d e test h = cc
tested (Some a) (Some b) (Some c) None e test h = cc
tested (Some a) (Some b) (Some c) (Some d) None test h = cc
tested (Some a) (Some b) (Some c) (Some d) (Some e) test h =
    subst (Tested (Some a) (Some b) (Some c) (Some d) (Some e)) (same_Some _ test h)
    (e, refl, refl, refl, λ reason. refl)

-- a test with another reason of its skip
reason_put : (version : ℕ) (d : Data) (test : PlanTest) (reason : List ℕ) → test_from version d ≡ Some test
    → (id_of d ≡ Some test.id) × (optional as_str (get (codes "skip") d) ≡ Some test.skip)
    × (test_from version (with_member (codes "skip") (string reason) d) ≡ Some (record test { skip = Some reason }))
unfolding test_from
reason_put version d test reason h = by_object (is_object_of keys_of_test d) refl h
  where
    e : Data
    e = with_member (codes "skip") (string reason) d

    keeps : Keeps test_names d e
    keeps k one = get-other k (codes "skip") (string reason) d (apart k (codes "skip") test_names refl one)

    terms : terms_from e ≡ terms_from d
    terms =
        three terms_by _ _ _ _ _ _ (keeps (codes "weight") refl) (keeps (codes "slow") refl)
        (keeps (codes "leak") refl)

    trials : trials_of e ≡ trials_of d
    trials = two trials_by _ _ _ _ (keeps (codes "retries") refl) (keeps (codes "flaky") refl)

    rank : rank_of version e ≡ rank_of version d
    rank = two (rank_by version) _ _ _ _ (keeps (codes "platform") refl) (keeps (codes "priority") refl)

    ties : ties_of e ≡ ties_of d
    ties = two ties_by _ _ _ _ (keeps (codes "group") refl) (keeps (codes "scripts") refl)

    ids : id_of e ≡ id_of d
    ids = two id_by _ _ _ _ (keeps (codes "binary") refl) (keeps (codes "name") refl)

    command : option_and_then texts_of (get (codes "command") e) ≡ option_and_then texts_of (get (codes "command") d)
    command = ap (option_and_then texts_of) (keeps (codes "command") refl)

    by_object : (b : Bool) → is_object_of keys_of_test d ≡ b
        → option_and_then (λ u. test_by (terms_from d) (trials_of d) (rank_of version d) (ties_of d) (named_of d))
        (when b)
        ≡ Some test
        → (id_of d ≡ Some test.id) × (optional as_str (get (codes "skip") d) ≡ Some test.skip)
        × (option_and_then (λ u. test_by (terms_from e) (trials_of e) (rank_of version e) (ties_of e) (named_of e))
        (when (is_object_of keys_of_test e)) ≡ Some (record test { skip = Some reason }))
    by_object false is h = absurd (let bad : None ≡ Some test = h in cc)
    by_object true is h =
        let t = tested (terms_from d) (trials_of d) (rank_of version d) (ties_of d) (named_of d) test h in
        let n = named (id_of d) (option_and_then texts_of (get (codes "command") d))
        (optional as_str (get (codes "skip") d)) t.0 t.1 in
        let skip : optional as_str (get (codes "skip") e) ≡ Some (Some reason) =
        ap (optional as_str) (get-put keys_of_test (codes "skip") (string reason) d is) in
        let plain : named_of e ≡ Some (record t.0 { skip = Some reason }) =
        three named_by (id_of d) (id_of e) _ _ (Some (Some reason)) _ ids command skip ∙ n.2 reason in
        let all : test_by (terms_from e) (trials_of e) (rank_of version e) (ties_of e) (named_of e)
        ≡ Some (record test { skip = Some reason }) =
        ap (λ x. test_by x (trials_of e) (rank_of version e) (ties_of e) (named_of e)) terms
        ∙ ap (λ x. test_by (terms_from d) x (rank_of version e) (ties_of e) (named_of e)) trials
        ∙ ap (λ x. test_by (terms_from d) (trials_of d) x (ties_of e) (named_of e)) rank
        ∙ ap (λ x. test_by (terms_from d) (trials_of d) (rank_of version d) x (named_of e)) ties
        ∙ ap (test_by (terms_from d) (trials_of d) (rank_of version d) (ties_of d)) plain ∙ t.4 reason in (
          n.0 ∙ ap Some t.2,
          n.1 ∙ ap Some t.3,
          ap (λ b. option_and_then (λ u. test_by (terms_from e) (trials_of e) (rank_of version e) (ties_of e)
              (named_of e)) (when b)) (object-with keys_of_test (codes "skip") (string reason) d refl is) ∙ all,
        )

-- whether a test is to be skipped, by what its line says
to_skip : (ids : List TestInstanceId) (test : PlanTest) (s : Option Data) → optional as_str s ≡ Some test.skip
    → is_to_skip ids (Some test.id) s ≡ (is_none test.skip && not (has_id ids test.id))
to_skip ids test None h = ap (λ o. is_none o && not (has_id ids test.id)) (same_Some None test.skip h)
to_skip ids test (Some s) h = by (as_str s) h
  where
    by : (o : Option (List ℕ)) → option_map Some o ≡ Some test.skip
        → false ≡ (is_none test.skip && not (has_id ids test.id))
    by None h = cc
    by (Some text) h = ap (λ o. is_none o && not (has_id ids test.id)) (same_Some (Some text) test.skip h)

test_made : (version : ℕ) (ids : List TestInstanceId) (d : Data) (test : PlanTest) → test_from version d ≡ Some test
    → test_from version (made_test ids d) ≡ Some (skipped_unless ids test)
test_made version ids d test h =
    let r = reason_put version d test (codes "rerun") h in
    let e : Data = with_member (codes "skip") (string (codes "rerun")) d in
    let same : is_to_skip ids (id_of d) (get (codes "skip") d) ≡ (is_none test.skip && not (has_id ids test.id)) =
    ap (λ i. is_to_skip ids i (get (codes "skip") d)) r.0 ∙ to_skip ids test (get (codes "skip") d) r.1 in
    ap (λ b. test_from version (cond b e d)) same ∙ by r.2 (is_none test.skip && not (has_id ids test.id))
  where
    by : test_from version (with_member (codes "skip") (string (codes "rerun")) d)
        ≡ Some (record test { skip = Some (codes "rerun") }) → (b : Bool)
        → test_from version (cond b (with_member (codes "skip") (string (codes "rerun")) d) d)
        ≡ Some (cond b (record test { skip = Some (codes "rerun") }) test)
    by skipped true = skipped
    by skipped false = h

abbrev items_by : Option PlanTest → Option (List PlanTest) → Option (List PlanTest)
items_by t ts = do
  test ← t
  tests ← ts
  Some (test ∷ tests)

items_made : (version : ℕ) (ids : List TestInstanceId) (ds : Items) (tests : List PlanTest)
    → tests_from version ds ≡ Some tests
    → tests_from version (made_items ids ds) ≡ Some (map (skipped_unless ids) tests)
items_made version ids no_items tests h = ap (λ ts. Some (map (skipped_unless ids) ts)) (same_Some [] tests h)
items_made version ids (item d ds) tests h =
    by (test_from version d) (tests_from version ds) refl (items_made version ids ds) h
  where
    by : (t : Option PlanTest) (ts : Option (List PlanTest)) → test_from version d ≡ t
        → ((more : List PlanTest) → ts ≡ Some more
        → tests_from version (made_items ids ds) ≡ Some (map (skipped_unless ids) more))
        → items_by t ts ≡ Some tests
        → tests_from version (made_items ids (item d ds)) ≡ Some (map (skipped_unless ids) tests)
    by None ts one more h = absurd (let bad : None ≡ Some tests = h in cc)
    by (Some t) None one more h = absurd (let bad : None ≡ Some tests = h in cc)
    by (Some t) (Some ts) one more h =
        two items_by (Some (skipped_unless ids t)) (test_from version (made_test ids d))
        (Some (map (skipped_unless ids) ts)) (tests_from version (made_items ids ds)) (test_made version ids d t one)
        (more ts refl)
        ∙ ap (λ ts. Some (map (skipped_unless ids) ts)) (same_Some (t ∷ ts) tests h)

tests_made : (version : ℕ) (ids : List TestInstanceId) (d : Data) (tests : List PlanTest)
    → tests_of version d ≡ Some tests
    → tests_of version (made_tests ids d) ≡ Some (map (skipped_unless ids) tests)
tests_made version ids null tests h = cc
tests_made version ids (boolean b) tests h = cc
tests_made version ids (number n) tests h = cc
tests_made version ids (string s) tests h = cc
tests_made version ids (array ds) tests h = items_made version ids ds tests h
tests_made version ids (object ms) tests h = cc

abbrev few_by : Option (List PlanTest) → Option (List PlanTest)
few_by ts = do
  tests ← ts
  _ ← when (nat_lt (length tests) 4294967296)
  Some tests

-- the tests of a plan line of a rerun
pub plan_tests_made : (version : ℕ) (ids : List TestInstanceId) (d e : Option Data) (tests : List PlanTest)
    → e ≡ Some (made_tests ids (unwrap_or d null)) → plan_tests_of version d ≡ Some tests
    → plan_tests_of version e ≡ Some (map (skipped_unless ids) tests)
plan_tests_made version ids None e tests is h = cc
plan_tests_made version ids (Some d) e tests is h =
    ap (plan_tests_of version) is ∙ by (tests_of version d) refl h
  where
    by : (ts : Option (List PlanTest)) → tests_of version d ≡ ts → few_by ts ≡ Some tests
        → few_by (tests_of version (made_tests ids d)) ≡ Some (map (skipped_unless ids) tests)
    by None said h = cc
    by (Some ts) said h =
        ap few_by (tests_made version ids d ts said)
        ∙ ap (λ n. option_and_then (λ u. Some (map (skipped_unless ids) ts)) (when (nat_lt n 4294967296)))
        (length-map ts (skipped_unless ids)) ∙ few (nat_lt (length ts) 4294967296) h
      where
        few : (b : Bool) → option_and_then (λ u. Some ts) (when b) ≡ Some tests
            → option_and_then (λ u. Some (map (skipped_unless ids) ts)) (when b)
            ≡ Some (map (skipped_unless ids) tests)
        few true h = ap (λ ts. Some (map (skipped_unless ids) ts)) (same_Some ts tests h)
        few false h = cc
