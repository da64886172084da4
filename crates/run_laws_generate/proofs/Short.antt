-- A generated run never stops short.
use Rattle.std.proofs.Common.{◌≡◌, ◌⊎◌, inl, inr, ℕ, ◌+◌, ◌-◌, ◌*◌, ◌<◌, ◌≤◌, ◌==◌, ◌%◌, List, [], ◌∷◌, length, reverse}
use Rattle.std.proofs.Common.{Bool, true, false, Option, Some, None, if◌then◌else◌, option_map, slice_get, nat_lt, refl}
use Rattle.std.proofs.Common.{ap, sym, ◌∙◌}
use Rattle.std.proofs.Common.{subst, arith}
use Rattle.std.specs.List.{range_with_len}
use Rattle.std.proofs.lemmas.List.{length-map, length-reverse, reverse-reverse}
use Rattle.std.proofs.lemmas.List.FromFn.{length-range_with_len}
use Rattle.std.proofs.lemmas.Option.{slice_get-map}
use Rattle.std.proofs.lemmas.Bool.Decides.{nat_tests}
use Rattle.run_events.specs.declared.settings.Settings.{Settings}
use Rattle.run_events.specs.declared.turn.Turn.{Turn}
use Rattle.run_model.specs.Turns.{enabled}
use Rattle.run_model.specs.Admission.{script_terms_if, terms_at, terms_if, unit_terms, units_in}
use Rattle.run_model.specs.Journal.{history, outcome, past_of, IsLegalBackward}
use Rattle.run_model.specs.SubRuns.{outcome_in}
use Rattle.run_model.specs.Words.{ended_runs, is_over}
use Rattle.run_model.specs.declared.entry.Entry.{Entry}
use Rattle.run_model.specs.declared.happening.Happening.{Happening}
use Rattle.run_laws.proofs.told.FateLemmas.{over_ended}
use Rattle.run_laws.proofs.told.Outcomes.{over_outcome}
use Rattle.run_generate.specs.Generated.{StopsShort}
use Rattle.run_generate.specs.Plan.{generated_settings, test_at}
use Rattle.run_generate.specs.Turns.{IsGenerated, next_turn}
use Rattle.run_laws_generate.proofs.Back.{generated_back, next-back}
use Rattle.run_laws_generate.proofs.Comes.{Comes, comes}
use Rattle.run_laws_generate.proofs.Course.{HasRun, board_back, early, has_run, last_back}
use Rattle.run_laws_generate.proofs.Known.{IsPlainPlan, known}
use Rattle.run_laws_generate.proofs.Moves.{load}
use Rattle.run_laws_generate.proofs.Weights.{IsPlain}

-- the tests of a generated plan are plain
plain_terms : (n k : ℕ) → IsPlain (unit_terms (generated_settings n) k)
plain_terms n k =
    subst IsPlain (sym (ap (λ b. if b
    then script_terms_if (generated_settings n) (slice_get (generated_settings n).plan.scripts k)
    else terms_at (generated_settings n) (k - 0)) (none k)))
    (subst (λ o. IsPlain (terms_if (generated_settings n) o))
    (sym (slice_get-map test_at (range_with_len 0 n) (k - 0))) (by_place (slice_get (range_with_len 0 n) (k - 0))))
  where
    none : (k : ℕ) → nat_lt k 0 ≡ false
    none k = grind (arith, nat_tests)

    once : (b : Bool) → (if b then 1 else 0) ≤ 1
    once true = omega arith
    once false = omega arith

    by_place : (o : Option ℕ) → IsPlain (terms_if (generated_settings n) (option_map test_at o))
    by_place None = record {
      retries = 0;
      is_fixed = refl;
      once = omega arith;
      streams = refl;
      slow = refl;
      reads_env = refl;
    }
    by_place (Some i) = record {
      retries = if i % 7 == 3 then 1 else 0;
      is_fixed = refl;
      once = once (i % 7 == 3);
      streams = refl;
      slow = refl;
      reads_env = refl;
    }

-- so is the plan
plain : (n : ℕ) → IsPlainPlan (generated_settings n)
plain n = record { scripts = refl; single = refl; all = refl; unlimited = refl; terms = plain_terms n }

-- it has as many units as tests
units : (n : ℕ) → units_in (generated_settings n) ≡ n
units n = omega (arith, length-map (range_with_len 0 n) test_at, length-range_with_len 0 n)

-- a run that is over has an outcome
not_over : (p : Settings) (backward : List Entry) → IsLegalBackward p backward → outcome p (history p backward) ≡ None
    → is_over (history p backward) ≡ false
not_over p backward legal none = by_over (is_over past) refl
  where
    past : List Happening
    past = history p backward

    by_runs : (runs : List (List Happening)) → ended_runs past ≡ runs → is_over past ≡ true
        → outcome_in p runs ≡ None → ⊥
    by_runs [] are over none =
        let it = over_ended p backward legal over in
        let within = it.1 in
        let empty : length (ended_runs past) ≡ 0 = ap length are in omega arith
    by_runs (run ∷ runs) are over none = cc

    by_over : (b : Bool) → is_over past ≡ b → is_over past ≡ false
    by_over false e = e
    by_over true e = absurd (by_runs (ended_runs past) refl e (sym (over_outcome p past e) ∙ none))

-- a generated run that has no outcome has few turns, and the next one comes
short_backward : (n : ℕ) → n ≤ 20000 → (backward : List Entry) → IsLegalBackward (generated_settings n) backward
    → IsGenerated (generated_settings n) (reverse backward)
    → outcome (generated_settings n) (history (generated_settings n) backward) ≡ None
    → (length backward < 4294967295)
    × Comes (generated_settings n) (board_back (generated_settings n) backward) (last_back backward)
short_backward n few backward legal generated none = (
  sums (length backward) ran.others ran.ticks (load (last_back backward) (board_back p backward)) (units_in p) most
      ran.whole ran.few,
  comes p (board_back p backward) (last_back backward) ran.current (known p backward (plain n) legal) ran.calm
      (early p backward most ran) ran.at (not_over p backward legal none),
)
  where
    p : Settings
    p = generated_settings n

    most : units_in p ≤ 20000
    most = let is = units n in omega arith

    ran : HasRun p backward
    ran = has_run p backward (plain n) most legal (generated_back p backward generated)

    sums : (m o t l u : ℕ) → u ≤ 20000 → m ≡ o + t → l + o + 20 * t ≤ 55 * u + 24 → m < 4294967295
    sums m o t l u most same few = omega arith

-- so no generated run stops short
pub never_short : (n : ℕ) → n ≤ 20000 → StopsShort (generated_settings n) → ⊥
never_short n few it = by_why it.why
  where
    p : Settings
    p = generated_settings n

    it_is : (length (reverse it.journal) < 4294967295)
        × Comes p (board_back p (reverse it.journal)) (last_back (reverse it.journal))
    it_is = short_backward n few (reverse it.journal) it.legal
        (subst (IsGenerated p) (sym (reverse-reverse it.journal)) it.generated) it.goes_on

    by_why : (length it.journal ≡ 4294967295)
        ⊎ ((turn : Turn) → next_turn p it.journal ≡ Some turn → enabled p (past_of p it.journal) turn ≡ false) → ⊥
    by_why (inl full) =
        let short : length (reverse it.journal) < 4294967295 = it_is.0 in
        omega (arith, length-reverse it.journal)
    by_why (inr disabled) =
        let c = it_is.1 in
        let next : next_turn p it.journal ≡ Some c.turn =
        ap (next_turn p) (sym (reverse-reverse it.journal)) ∙ (next-back p (reverse it.journal) ∙ c.is) in
        let never : true ≡ false = sym c.en ∙ disabled c.turn next in cc
