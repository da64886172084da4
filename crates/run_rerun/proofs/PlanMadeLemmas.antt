-- The plan line of a rerun says the plan of the one that it is made of, with its changes.
use Rattle.std.proofs.Common.{◌≡◌, ◌∙◌, List, [], ◌∷◌, map, Bool, true, false, refl, ap, codes, Option, Some, None}
use Rattle.std.proofs.Common.{unwrap_or}
use Rattle.std.specs.Option.{option_and_then, option_map}
use Rattle.std.proofs.lemmas.Option.{same_Some}
use Rattle.serde_json.specs.Data.{Data, null}
use Rattle.serde_json.specs.Find.{get}
use Rattle.run_events.specs.declared.plan.Plan.{Plan}
use Rattle.run_events.specs.declared.plan.TestInstanceId.{TestInstanceId}
use Rattle.run_input.specs.declared.plan_line.RunnerKeys.{RunnerKeys}
use Rattle.run_input.specs.Fields.{is_object_of, optional, or_usual, when}
use Rattle.run_input.specs.PlanExpected.{expected_of, instance_of}
use Rattle.run_input.specs.PlanHead.{frame_of}
use Rattle.run_input.specs.PlanLine.{keys_of, lists_of, plan_alone_of, plan_names, plan_of, plan_version_of, plan_with}
use Rattle.run_input.specs.PlanLine.{rules_from}
use Rattle.run_output.specs.Fields.{array_of}
use Rattle.run_output.specs.Texts.{test_data}
use Rattle.run_rerun.specs.Made.{made, made_keys, made_plan, made_tests, skipped_unless, with_member}
use Rattle.run_rerun.proofs.MemberLemmas.{apart, get-other, get-put, object-with}
use Rattle.run_rerun.proofs.PlanLemmas.{Keeps, frame_kept, kept_names, keys_made, lists_made, rules_kept}
use Rattle.run_rerun.proofs.TestMadeLemmas.{plan_tests_made}

-- what a chain of readings gives came from each of them
then_some : {A B : Type 0} (o : Option A) (f : A → Option B) (y : B) → option_and_then f o ≡ Some y
    → (x : A) × (o ≡ Some x) × (f x ≡ Some y)
then_some None f y e = cc
then_some (Some x) f y e = (x, refl, e)

-- the names of tests are read back
expects : (ids : List TestInstanceId) → expected_of (array_of test_data ids) ≡ Some ids
expects [] = refl
expects (id ∷ ids) =
    ap (λ o. option_and_then (λ id. option_and_then (λ ids. Some (id ∷ ids)) o) (instance_of (test_data id)))
    (expects ids)

plan_alone_made : (ids : List TestInstanceId) (d e : Data) (plan : Plan) → Keeps kept_names d e
    → get (codes "tests") e ≡ Some (made_tests ids (unwrap_or (get (codes "tests") d) null))
    → plan_alone_of d ≡ Some plan → plan_alone_of e ≡ Some (made_plan ids plan)
plan_alone_made ids d e plan keeps tests h =
    let v = then_some (or_usual 1 plan_version_of (get (codes "version") d))
    (λ v. option_and_then (λ r. option_and_then (λ f. option_and_then (λ l. Some (plan_with r f l)) (lists_of v d))
    (frame_of d)) (rules_from d)) plan h in
    let r = then_some (rules_from d)
    (λ r. option_and_then (λ f. option_and_then (λ l. Some (plan_with r f l)) (lists_of v.0 d)) (frame_of d)) plan
    v.2 in
    let f = then_some (frame_of d) (λ f. option_and_then (λ l. Some (plan_with r.0 f l)) (lists_of v.0 d)) plan r.2 in
    let l = then_some (lists_of v.0 d) (λ l. Some (plan_with r.0 f.0 l)) plan f.2 in
    let lists : lists_of v.0 e ≡ Some (l.0.0, l.0.1, map (skipped_unless ids) l.0.2) =
    lists_made d e v.0 (skipped_unless ids) l.0 keeps
    (λ old said. plan_tests_made v.0 ids (get (codes "tests") d) (get (codes "tests") e) old tests said) l.1 in
    ap (option_and_then (λ v. option_and_then (λ r. option_and_then (λ f. option_and_then (λ l.
    Some (plan_with r f l)) (lists_of v e)) (frame_of e)) (rules_from e)))
    (ap (or_usual 1 plan_version_of) (keeps (codes "version") refl) ∙ v.1)
    ∙ ap (option_and_then (λ r. option_and_then (λ f. option_and_then (λ l. Some (plan_with r f l)) (lists_of v.0 e))
    (frame_of e))) (rules_kept d e keeps ∙ r.1)
    ∙ ap (option_and_then (λ f. option_and_then (λ l. Some (plan_with r.0 f l)) (lists_of v.0 e)))
    (frame_kept d e keeps ∙ f.1)
    ∙ ap (option_and_then (λ l. Some (plan_with r.0 f.0 l))) lists
    ∙ ap (λ p. Some (made_plan ids p)) (same_Some (plan_with r.0 f.0 l.0) plan l.2)

-- what a plan line says, by its keys and its plan
abbrev pair_with : RunnerKeys → Plan → Option (RunnerKeys × Plan)
pair_with keys plan = Some (keys, plan)

abbrev with_plan : Option Plan → RunnerKeys → Option (RunnerKeys × Plan)
with_plan plan keys = option_and_then (pair_with keys) plan

abbrev said_by : Option RunnerKeys → Option Plan → Bool → Option (RunnerKeys × Plan)
said_by keys plan is = option_and_then (λ u. option_and_then (with_plan plan) keys) (when is)

-- the plan line of a rerun says the plan with its changes
pub plan_made : (ids : List TestInstanceId) (d : Data) (keys : RunnerKeys) (plan : Plan)
    → plan_of d ≡ Some (keys, plan) → plan_of (made ids d) ≡ Some (made_keys ids keys, made_plan ids plan)
unfolding plan_of
plan_made ids d keys plan h = by_object (is_object_of plan_names d) refl h
  where
    tests : Data
    tests = made_tests ids (unwrap_or (get (codes "tests") d) null)

    inner : Data
    inner = with_member (codes "tests") tests d

    e : Data
    e = with_member (codes "expected") (array_of test_data ids) inner

    keeps : Keeps kept_names d e
    keeps k one =
        get-other k (codes "expected") (array_of test_data ids) inner (apart k (codes "expected") kept_names refl one)
        ∙ get-other k (codes "tests") tests d (apart k (codes "tests") kept_names refl one)

    by_object : (b : Bool) → is_object_of plan_names d ≡ b
        → said_by (keys_of d) (plan_alone_of d) b ≡ Some (keys, plan)
        → said_by (keys_of e) (plan_alone_of e) (is_object_of plan_names e)
        ≡ Some (made_keys ids keys, made_plan ids plan)
    by_object false is h = absurd (let bad : None ≡ Some (keys, plan) = h in cc)
    by_object true is h =
        let k = then_some (keys_of d) (with_plan (plan_alone_of d)) (keys, plan) h in
        let p = then_some (plan_alone_of d) (pair_with k.0) (keys, plan) k.2 in
        let pair : (k.0, p.0) ≡ (keys, plan) = same_Some (k.0, p.0) (keys, plan) p.2 in
        let inside = object-with plan_names (codes "tests") tests d refl is in
        let outside = object-with plan_names (codes "expected") (array_of test_data ids) inner refl inside in
        let expected : optional expected_of (get (codes "expected") e) ≡ Some (Some ids) =
        ap (optional expected_of) (get-put plan_names (codes "expected") (array_of test_data ids) inner inside)
        ∙ ap (option_map Some) (expects ids) in
        let has : get (codes "tests") e ≡ Some tests =
        get-other (codes "tests") (codes "expected") (array_of test_data ids) inner refl
        ∙ get-put plan_names (codes "tests") tests d is in
        ap (said_by (keys_of e) (plan_alone_of e)) outside
        ∙ ap (option_and_then (with_plan (plan_alone_of e))) (keys_made d e k.0 ids keeps expected k.1)
        ∙ ap (option_and_then (pair_with (made_keys ids k.0))) (plan_alone_made ids d e p.0 keeps has p.1)
        ∙ ap (λ (x : RunnerKeys × Plan). Some (made_keys ids x.0, made_plan ids x.1)) pair
