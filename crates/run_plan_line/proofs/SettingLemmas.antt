-- The settings of tests and scripts are read as they were.
use Rattle.std.proofs.Common.{◌≡◌, ◌∙◌, ℕ, ◌<◌, ◌^◌, Bool, true, false, Option, Some, None, codes, cond}
use Rattle.std.proofs.Common.{refl, sym, ap, nat_eq, true≢false, eqb-true, lt-ltb, IfSome, List, [], ◌∷◌}
use Rattle.std.proofs.lemmas.Bool.{and_parts}
use Rattle.std.specs.Option.{option_map}
use Rattle.serde_json.specs.Data.{Data}
use Rattle.serde_json.specs.Find.{get}
use Rattle.run_events.specs.Usual.{no_retries, usual_leak, usual_slow}
use Rattle.run_events.specs.declared.plan.LeakTimeout.{LeakTimeout}
use Rattle.run_events.specs.declared.plan.SlowTimeout.{SlowTimeout}
use Rattle.run_events.specs.declared.result.FlakyResult.{FlakyResult}
use Rattle.run_events.specs.declared.result.FlakyResult.TheVariants as flakies
use Rattle.run_events.specs.declared.result.LeakTimeoutResult.{LeakTimeoutResult}
use Rattle.run_events.specs.declared.result.LeakTimeoutResult.TheVariants as leaks
use Rattle.run_events.specs.declared.result.SlowTimeoutResult.{SlowTimeoutResult}
use Rattle.run_events.specs.declared.result.SlowTimeoutResult.TheVariants as timeouts
use Rattle.run_events.specs.declared.retry_policy.RetryPolicy.{RetryPolicy}
use Rattle.run_events.specs.declared.retry_policy.RetryPolicy.TheVariants.{Fixed, Exponential}
use Rattle.run_input.specs.Fields.{is_object_of, or_usual, truth_of}
use Rattle.run_input.specs.PlanRetries.{exponential_of, fixed_of, flaky_from, retries_from}
use Rattle.run_input.specs.PlanTest.{leak_of, leak_result_of, slow_of, timeout_of}
use Rattle.run_output.specs.Fields.{count, object_of}
use Rattle.run_text_laws.specs.Objects.{field_at}
use Rattle.run_text_laws.proofs.ObjectLemmas.{has_fields}
use Rattle.run_plan_line.specs.PlanFields.{flaky_unless_pass, if_true, is_no_retries, is_usual_leak, is_usual_slow}
use Rattle.run_plan_line.specs.PlanFields.{leak_fields, leak_object, leak_result_word, number_unless, retries_fields}
use Rattle.run_plan_line.specs.PlanFields.{retries_if_any, retries_object, slow_fields, slow_object}
use Rattle.run_plan_line.specs.PlanFields.{timeout_result_word}
use Rattle.run_plan_line.specs.SaidPlan.{tries}
use Rattle.run_plan_line.proofs.FieldLemmas.{count_again, number_again, object_names, option_or_none, time_again}

-- as is usual, but slow after this period
abbrev pub slow_after : ℕ → SlowTimeout
slow_after period = record usual_slow { period = period }

timeout_again : (r : SlowTimeoutResult) → or_usual timeouts.Fail timeout_of (timeout_result_word r) ≡ Some r
timeout_again timeouts.Fail = refl
timeout_again timeouts.Pass = refl

slow_said : (period : ℕ) (slow : SlowTimeout) (d : Data) → IfSome slow.terminate_after (λ n. n < 2 ^ 32)
    → is_object_of (codes "grace" ∷ codes "on_timeout" ∷ codes "period" ∷ codes "terminate_after" ∷ []) d ≡ true
    → ((k : List ℕ) → get k d ≡ field_at k (slow_fields period slow) None)
    → slow_of (slow_after period) d ≡ Some slow
unfolding slow_of slow_fields
slow_said period slow d fits is at =
    rw (
      is,
      at (codes "grace") ∙ option_or_none (number_unless 10000000000 slow.grace),
      at (codes "on_timeout") ∙ option_or_none (timeout_result_word slow.on_timeout),
      at (codes "period") ∙ option_or_none (number_unless period slow.period),
      at (codes "terminate_after") ∙ option_or_none (option_map count slow.terminate_after),
      number_again 10000000000 slow.grace,
      timeout_again slow.on_timeout,
      number_again period slow.period,
      count_again slow.terminate_after fits,
    ) refl

-- what is as usual is just that
slow_is : (period p g : ℕ) (t : Option ℕ) (r : SlowTimeoutResult)
    → is_usual_slow period (record { period = p; terminate_after = t; grace = g; on_timeout = r }) ≡ true
    → slow_after period ≡ record { period = p; terminate_after = t; grace = g; on_timeout = r }
slow_is period p g (Some n) r h = absurd (true≢false (sym h))
slow_is period p g None timeouts.Pass h = absurd (true≢false (sym h))
slow_is period p g None timeouts.Fail h =
    let parts = and_parts (nat_eq g 10000000000) (nat_eq p period) h in
    rw (eqb-true g 10000000000 parts.0, eqb-true p period parts.1) refl

slow_by : (period : ℕ) (slow : SlowTimeout) (b : Bool) → is_usual_slow period slow ≡ b
    → (b ≡ false → IfSome slow.terminate_after (λ n. n < 2 ^ 32))
    → or_usual (slow_after period) (slow_of (slow_after period))
    (cond b None (Some (object_of (slow_fields period slow)))) ≡ Some slow
unfolding slow_fields
slow_by period slow true is fits =
    ap Some (slow_is period slow.period slow.grace slow.terminate_after slow.on_timeout is)
slow_by period slow false is fits =
    slow_said period slow (object_of (slow_fields period slow)) (fits refl) (object_names
    (codes "grace" ∷ codes "on_timeout" ∷ codes "period" ∷ codes "terminate_after" ∷ []) (slow_fields period slow) refl)
    (has_fields (slow_fields period slow)).at

pub slow_again : (period : ℕ) (slow : SlowTimeout)
    → (is_usual_slow period slow ≡ false → IfSome slow.terminate_after (λ n. n < 2 ^ 32))
    → or_usual (slow_after period) (slow_of (slow_after period)) (slow_object period slow) ≡ Some slow
slow_again period slow fits = slow_by period slow (is_usual_slow period slow) refl fits

leak_result_again : (r : LeakTimeoutResult) → or_usual leaks.Pass leak_result_of (leak_result_word r) ≡ Some r
leak_result_again leaks.Pass = refl
leak_result_again leaks.Fail = refl

leak_said : (leak : LeakTimeout) (d : Data) → is_object_of (codes "period" ∷ codes "result" ∷ []) d ≡ true
    → ((k : List ℕ) → get k d ≡ field_at k (leak_fields leak) None) → leak_of d ≡ Some leak
unfolding leak_of leak_fields
leak_said leak d is at =
    rw (
      is,
      at (codes "period") ∙ option_or_none (number_unless 200000000 leak.period),
      at (codes "result") ∙ option_or_none (leak_result_word leak.result),
      number_again 200000000 leak.period,
      leak_result_again leak.result,
    ) refl

leak_is : (p : ℕ) (r : LeakTimeoutResult) → is_usual_leak (record { period = p; result = r }) ≡ true
    → usual_leak ≡ record { period = p; result = r }
leak_is p leaks.Fail h = absurd (true≢false (sym h))
leak_is p leaks.Pass h = rw (eqb-true p 200000000 h) refl

leak_by : (leak : LeakTimeout) (b : Bool) → is_usual_leak leak ≡ b
    → or_usual usual_leak leak_of (cond b None (Some (object_of (leak_fields leak)))) ≡ Some leak
unfolding leak_fields
leak_by leak true is = ap Some (leak_is leak.period leak.result is)
leak_by leak false is =
    leak_said leak (object_of (leak_fields leak)) (object_names (codes "period" ∷ codes "result" ∷ [])
    (leak_fields leak) refl)
    (has_fields (leak_fields leak)).at

pub leak_again : (leak : LeakTimeout) → or_usual usual_leak leak_of (leak_object leak) ≡ Some leak
leak_again leak = leak_by leak (is_usual_leak leak) refl

jitter_again : (b : Bool) → or_usual false truth_of (if_true b) ≡ Some b
jitter_again true = refl
jitter_again false = refl

fixed_said : (n delay : ℕ) (jitter : Bool) (d : Data) → n < 2 ^ 32
    → is_object_of (codes "backoff" ∷ codes "count" ∷ codes "delay" ∷ codes "jitter" ∷ []) d ≡ true
    → ((k : List ℕ) → get k d ≡ field_at k (retries_fields (Fixed n delay jitter)) None)
    → retries_from d ≡ Some (Fixed n delay jitter)
unfolding fixed_of retries_fields
fixed_said n delay jitter d fits is at =
    rw (
      at (codes "backoff"),
      is,
      at (codes "count"),
      at (codes "delay") ∙ option_or_none (number_unless 0 delay),
      at (codes "jitter") ∙ option_or_none (if_true jitter),
      number_again 0 delay,
      jitter_again jitter,
      lt-ltb n (2 ^ 32) fits,
    ) refl

exponential_said : (n delay : ℕ) (jitter : Bool) (most : Option ℕ) (d : Data) → n < 2 ^ 32
    → is_object_of (codes "backoff" ∷ codes "count" ∷ codes "delay" ∷ codes "jitter" ∷ codes "max_delay" ∷ []) d ≡ true
    → ((k : List ℕ) → get k d ≡ field_at k (retries_fields (Exponential n delay jitter most)) None)
    → retries_from d ≡ Some (Exponential n delay jitter most)
unfolding exponential_of retries_fields
exponential_said n delay jitter most d fits is at =
    rw (
      at (codes "backoff"),
      is,
      at (codes "count"),
      at (codes "delay") ∙ option_or_none (number_unless 0 delay),
      at (codes "jitter") ∙ option_or_none (if_true jitter),
      at (codes "max_delay") ∙ option_or_none (option_map count most),
      number_again 0 delay,
      jitter_again jitter,
      time_again most,
      lt-ltb n (2 ^ 32) fits,
    ) refl

pub retries_again : (r : RetryPolicy) → tries r < 2 ^ 32 → retries_from (retries_object r) ≡ Some r
unfolding retries_fields
retries_again (Fixed n delay jitter) fits =
    fixed_said n delay jitter (object_of (retries_fields (Fixed n delay jitter))) fits
    (object_names (codes "backoff" ∷ codes "count" ∷ codes "delay" ∷ codes "jitter" ∷ [])
    (retries_fields (Fixed n delay jitter)) refl) (has_fields (retries_fields (Fixed n delay jitter))).at
retries_again (Exponential n delay jitter most) fits =
    exponential_said n delay jitter most (object_of (retries_fields (Exponential n delay jitter most))) fits
    (object_names
    (codes "backoff" ∷ codes "count" ∷ codes "delay" ∷ codes "jitter" ∷ codes "max_delay" ∷ [])
    (retries_fields (Exponential n delay jitter most)) refl)
    (has_fields (retries_fields (Exponential n delay jitter most))).at

none_is : (r : RetryPolicy) → is_no_retries r ≡ true → no_retries ≡ r
none_is (Exponential n delay jitter most) h = absurd (true≢false (sym h))
none_is (Fixed n delay true) h = absurd (true≢false (sym h))
none_is (Fixed n delay false) h =
    let parts = and_parts (nat_eq n 0) (nat_eq delay 0) h in
    rw (eqb-true n 0 parts.0, eqb-true delay 0 parts.1) refl

none_by : (r : RetryPolicy) (b : Bool) → is_no_retries r ≡ b → (b ≡ false → tries r < 2 ^ 32)
    → or_usual no_retries retries_from (cond b None (Some (retries_object r))) ≡ Some r
none_by r true is fits = ap Some (none_is r is)
none_by r false is fits = retries_again r (fits refl)

pub retries_if_any_again : (r : RetryPolicy) → (is_no_retries r ≡ false → tries r < 2 ^ 32)
    → or_usual no_retries retries_from (retries_if_any r) ≡ Some r
retries_if_any_again r fits = none_by r (is_no_retries r) refl fits

pub flaky_again : (r : FlakyResult) → or_usual flakies.Pass flaky_from (flaky_unless_pass r) ≡ Some r
flaky_again flakies.Pass = refl
flaky_again flakies.Fail = refl
