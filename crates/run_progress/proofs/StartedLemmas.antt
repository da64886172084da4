-- Running tests beside each id's last start: what each change of both leaves.
use Rattle.std.proofs.Common.{◌≡◌, ℕ, ◌+◌, ◌<◌, List, [], ◌∷◌, ◌++◌, Bool, true, false, Option, None, Some}
use Rattle.std.proofs.Common.{refl, sym, ap, subst, ◌∙◌, arith, map, cond}
use Rattle.std.specs.Prelude.{IfSome}
use Rattle.std.specs.BTreeMap.{insert_entry, is_at}
use Rattle.std.specs.List.Sorted.{IsStrictlySortedBy}
use Rattle.std.specs.Map.{keys_of, values_of, lookup, remove_entry, set_value}
use Rattle.std.specs.Ordering.{nat_cmp}
use Rattle.std.proofs.lemmas.Map.{keys-set_value, none_passes_from_lookup}
use Rattle.run_events.specs.declared.plan.TestInstanceId.{TestInstanceId}
use Rattle.run_progress.specs.declared.running_test.RunningTest.{RunningTest}
use Rattle.run_progress.specs.Deeds.{is_same}
use Rattle.run_progress.specs.Edits.{slowed, without}
use Rattle.run_progress.specs.Starts.{FindsEach, paused_each, is_start, slow_where, without_start}
use Rattle.run_progress.proofs.StartLemmas.{AllOf, Numbered, all_both, all_paused_each, all_push, all_set, all_weaker}
use Rattle.run_progress.proofs.StartLemmas.{at_itself, paused_each_keys, insert_last, left_all, left_push}
use Rattle.run_progress.proofs.StartLemmas.{not_above, not_below, once, remove_last, removed_none, same_is}
use Rattle.run_progress.proofs.StartLemmas.{slow, slowed_none, slowed_one, values_push, without_none, without_removed}

-- each id's last start
abbrev pub Starts : Type 0
Starts = TestInstanceId → Option ℕ

-- the last start of an id changes, and no other
abbrev pub Changes : TestInstanceId → Option ℕ → Starts → Starts → Type 0
Changes id start before after = (q : TestInstanceId) → after q ≡ cond (is_same id q) start (before q)

module _ (last_start : Starts) (next : ℕ) (tests : Numbered) (id : TestInstanceId)
    (finds : FindsEach last_start next tests) where
  -- the test of an id is that at its last start
  are_at : (start : Option ℕ) → last_start id ≡ start → AllOf (λ e. is_same e.1.test id ≡ is_start start e.0) tests
  are_at start is =
      subst (λ (start : Option ℕ). AllOf (λ e. is_same e.1.test id ≡ is_start start e.0) tests) is (finds.found id)

  -- those that remain aren't of the id
  none_left : (start : Option ℕ) → last_start id ≡ start
      → AllOf (λ e. is_same e.1.test id ≡ false) (without_start start tests)
  none_left None is = are_at None is
  none_left (Some number) is =
      all_both (λ e. is_same e.1.test id ≡ is_at (nat_cmp number) e.0) (λ e. is_at (nat_cmp number) e.0 ≡ false)
      (λ e. is_same e.1.test id ≡ false) (λ e same none. same ∙ none) (without_start (Some number) tests)
      (left_all (λ e. is_same e.1.test id ≡ is_at (nat_cmp number) e.0) (Some number) tests (are_at (Some number) is))
      (removed_none (is_at (nat_cmp number)) tests (once number tests finds.ordered))

  -- they are all but the test of the id
  pub values_left : (start : Option ℕ) → last_start id ≡ start
      → values_of (without_start start tests) ≡ without id (values_of tests)
  values_left None is = sym (without_none id tests (are_at None is))
  values_left (Some number) is =
      without_removed id (is_at (nat_cmp number)) tests (once number tests finds.ordered) (are_at (Some number) is)

  -- a test finishes
  pub finish_finds : (after : Starts) (start : Option ℕ) → last_start id ≡ start → Changes id None last_start after
      → IsStrictlySortedBy nat_cmp (keys_of (without_start start tests))
      → FindsEach after next (without_start start tests)
  finish_finds after start is changes ordered = record {
    ordered = ordered;
    found = λ q. found q (is_same id q) refl;
    tests_before = left_all (λ e. e.0 < next) start tests finds.tests_before;
    starts_before = λ q. before q (is_same id q) refl;
  }
    where
      left : Numbered
      left = without_start start tests

      changed : (q : TestInstanceId) (b : Bool) → is_same id q ≡ b → cond b None (last_start q) ≡ after q
      changed q b same = sym (changes q ∙ ap (λ b. cond b None (last_start q)) same)

      found : (q : TestInstanceId) (b : Bool) → is_same id q ≡ b
          → AllOf (λ e. is_same e.1.test q ≡ is_start (after q) e.0) left
      found q true same =
          subst (λ (start : Option ℕ). AllOf (λ e. is_same e.1.test q ≡ is_start start e.0) left) (changed q true same)
          (subst (λ (it : TestInstanceId). AllOf (λ e. is_same e.1.test it ≡ false) left) (same_is id q same)
          (none_left start is))
      found q false same =
          subst (λ (start : Option ℕ). AllOf (λ e. is_same e.1.test q ≡ is_start start e.0) left) (changed q false same)
          (left_all (λ e. is_same e.1.test q ≡ is_start (last_start q) e.0) start tests (finds.found q))

      before : (q : TestInstanceId) (b : Bool) → is_same id q ≡ b → IfSome (after q) (λ n. n < next)
      before q true same = subst (λ (start : Option ℕ). IfSome start (λ n. n < next)) (changed q true same) tt
      before q false same =
          subst (λ (start : Option ℕ). IfSome start (λ n. n < next)) (changed q false same) (finds.starts_before q)

-- no start before the next one is it
not_start : (start : Option ℕ) (next : ℕ) → IfSome start (λ n. n < next) → is_start start next ≡ false
not_start None next before = refl
not_start (Some number) next before = not_below number next before

still_before : (start : Option ℕ) (next : ℕ) → IfSome start (λ n. n < next) → IfSome start (λ n. n < next + 1)
still_before None next before = tt
still_before (Some number) next before = omega arith

module _ (last_start : Starts) (next : ℕ) (tests : Numbered) (running : RunningTest)
    (finds : FindsEach last_start next tests) where
  -- those that remain, and the test that starts
  push_finds : (after : Starts) (start : Option ℕ) → last_start running.test ≡ start
      → Changes running.test (Some next) last_start after
      → IsStrictlySortedBy nat_cmp (keys_of (without_start start tests ++ (next, running) ∷ []))
      → FindsEach after (next + 1) (without_start start tests ++ (next, running) ∷ [])
  push_finds after start is changes ordered = record {
    ordered = ordered;
    found = λ q. found q (is_same running.test q) refl;
    tests_before = all_push (λ e. e.0 < next + 1) left (next, running)
        (all_weaker (λ e. e.0 < next) (λ e. e.0 < next + 1) (λ e less. omega arith) left before_left) (omega arith);
    starts_before = λ q. before q (is_same running.test q) refl;
  }
    where
      left : Numbered
      left = without_start start tests

      before_left : AllOf (λ e. e.0 < next) left
      before_left = left_all (λ e. e.0 < next) start tests finds.tests_before

      changed : (q : TestInstanceId) (b : Bool) → is_same running.test q ≡ b
          → cond b (Some next) (last_start q) ≡ after q
      changed q b same = sym (changes q ∙ ap (λ b. cond b (Some next) (last_start q)) same)

      found : (q : TestInstanceId) (b : Bool) → is_same running.test q ≡ b
          → AllOf (λ e. is_same e.1.test q ≡ is_start (after q) e.0) (left ++ (next, running) ∷ [])
      found q true same =
          subst (λ (start : Option ℕ). AllOf (λ e. is_same e.1.test q ≡ is_start start e.0)
          (left ++ (next, running) ∷ [])) (changed q true same)
          (all_push (λ e. is_same e.1.test q ≡ is_at (nat_cmp next) e.0) left (next, running)
          (all_both (λ e. is_same e.1.test q ≡ false) (λ e. e.0 < next)
          (λ e. is_same e.1.test q ≡ is_at (nat_cmp next) e.0)
          (λ e none less. none ∙ sym (not_above next e.0 less)) left
          (subst (λ (it : TestInstanceId). AllOf (λ e. is_same e.1.test it ≡ false) left)
          (same_is running.test q same) (none_left last_start next tests running.test finds start is)) before_left)
          (same ∙ sym (at_itself next)))
      found q false same =
          subst (λ (start : Option ℕ). AllOf (λ e. is_same e.1.test q ≡ is_start start e.0)
          (left ++ (next, running) ∷ [])) (changed q false same)
          (all_push (λ e. is_same e.1.test q ≡ is_start (last_start q) e.0) left (next, running)
          (left_all (λ e. is_same e.1.test q ≡ is_start (last_start q) e.0) start tests (finds.found q))
          (same ∙ sym (not_start (last_start q) next (finds.starts_before q))))

      before : (q : TestInstanceId) (b : Bool) → is_same running.test q ≡ b → IfSome (after q) (λ n. n < next + 1)
      before q true same =
          subst (λ (start : Option ℕ). IfSome start (λ n. n < next + 1)) (changed q true same) (omega arith)
      before q false same =
          subst (λ (start : Option ℕ). IfSome start (λ n. n < next + 1)) (changed q false same)
          (still_before (last_start q) next (finds.starts_before q))

  -- a start that comes after all, and the id's earlier one
  last : (start : Option ℕ) → last_start running.test ≡ start
      → without_start start (insert_entry nat_cmp tests next running)
      ≡ without_start start tests ++ (next, running) ∷ []
  last start is =
      ap (without_start start) (insert_last tests next running finds.tests_before)
      ∙ left_push start next tests running
      (subst (λ (start : Option ℕ). IfSome start (λ n. n < next)) is (finds.starts_before running.test))

  -- a test starts
  pub start_finds : (after : Starts) (start : Option ℕ) → last_start running.test ≡ start
      → Changes running.test (Some next) last_start after
      → IsStrictlySortedBy nat_cmp (keys_of (without_start start (insert_entry nat_cmp tests next running)))
      → FindsEach after (next + 1) (without_start start (insert_entry nat_cmp tests next running))
  start_finds after start is changes ordered =
      subst (λ (es : Numbered). FindsEach after (next + 1) es) (sym (last start is))
      (push_finds after start is changes
      (subst (λ (es : Numbered). IsStrictlySortedBy nat_cmp (keys_of es)) (last start is) ordered))

  pub start_values : (start : Option ℕ) → last_start running.test ≡ start
      → values_of (without_start start (insert_entry nat_cmp tests next running))
      ≡ without running.test (values_of tests) ++ running ∷ []
  start_values start is =
      ap values_of (last start is) ∙ values_push (without_start start tests) next running
      ∙ ap (λ (rest : List RunningTest). rest ++ running ∷ [])
      (values_left last_start next tests running.test finds start is)

  -- a start that is undone
  pub start_undone : remove_entry (is_at (nat_cmp next)) (insert_entry nat_cmp tests next running) ≡ tests
  start_undone =
      ap (remove_entry (is_at (nat_cmp next))) (insert_last tests next running finds.tests_before)
      ∙ remove_last (is_at (nat_cmp next)) tests (next, running)
      (all_weaker (λ e. e.0 < next) (λ e. is_at (nat_cmp next) e.0 ≡ false) (λ e less. not_above next e.0 less)
      tests finds.tests_before) (at_itself next)

module _ (last_start : Starts) (next : ℕ) (tests : Numbered) (finds : FindsEach last_start next tests) where
  -- a test without a start is slow
  pub slow_unknown : (id : TestInstanceId) → last_start id ≡ None
      → values_of tests ≡ map (slowed id) (values_of tests)
  slow_unknown id is = sym (slowed_none id tests (are_at last_start next tests id finds None is))

  -- a test is slow where its start is
  pub slow_values : (id : TestInstanceId) (number : ℕ) (there : Option RunningTest) → last_start id ≡ Some number
      → lookup (is_at (nat_cmp number)) tests ≡ there
      → values_of (slow_where there number tests) ≡ map (slowed id) (values_of tests)
  slow_values id number None is gone =
      sym (slowed_none id tests (all_both (λ e. is_same e.1.test id ≡ is_at (nat_cmp number) e.0)
      (λ e. is_at (nat_cmp number) e.0 ≡ false) (λ e. is_same e.1.test id ≡ false) (λ e same none. same ∙ none) tests
      (are_at last_start next tests id finds (Some number) is)
      (none_passes_from_lookup (is_at (nat_cmp number)) tests gone)))
  slow_values id number (Some running) is there =
      slowed_one id (is_at (nat_cmp number)) tests running (once number tests finds.ordered)
      (are_at last_start next tests id finds (Some number) is) there

  pub slow_finds : (number : ℕ) (there : Option RunningTest) → lookup (is_at (nat_cmp number)) tests ≡ there
      → FindsEach last_start next (slow_where there number tests)
  slow_finds number None gone = finds
  slow_finds number (Some running) there =
      let test = is_at (nat_cmp number) in
      record {
        ordered = subst (λ (keys : List ℕ). IsStrictlySortedBy nat_cmp keys)
            (sym (keys-set_value test tests (slow running))) finds.ordered;
        found = λ q. all_set (λ e. is_same e.1.test q ≡ is_start (last_start q) e.0) test tests running (slow running)
            (finds.found q) there (λ n same. same);
        tests_before = all_set (λ e. e.0 < next) test tests running (slow running) finds.tests_before there
            (λ n less. less);
        starts_before = finds.starts_before;
      }

  -- a pause ends
  pub paused_each_finds : (pause : ℕ) → FindsEach last_start next (paused_each pause tests)
  paused_each_finds pause = record {
    ordered = subst (λ (keys : List ℕ). IsStrictlySortedBy nat_cmp keys) (sym (paused_each_keys pause tests))
        finds.ordered;
    found = λ q. all_paused_each (λ e. is_same e.1.test q ≡ is_start (last_start q) e.0) pause tests (λ e same. same)
        (finds.found q);
    tests_before = all_paused_each (λ e. e.0 < next) pause tests (λ e less. less) finds.tests_before;
    starts_before = finds.starts_before;
  }

-- before any start
pub finds_none : FindsEach (λ id. None) 0 []
unfolding IsStrictlySortedBy
finds_none = record {
  ordered = tt;
  found = λ id. tt;
  tests_before = tt;
  starts_before = λ id. tt;
}
