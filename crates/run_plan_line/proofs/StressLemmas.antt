-- How often all is repeated is read as it was.
use Rattle.std.proofs.Common.{◌≡◌, ◌∙◌, ℕ, ◌<◌, ◌^◌, List, [], ◌∷◌, Bool, true, false, Option, Some, None, codes, refl}
use Rattle.std.proofs.Common.{IfSome, arith, nat_eq, subst, eqb-true}
use Rattle.std.proofs.lemmas.Fmt.{decimal_is_IsNumeral}
use Rattle.std.specs.Fmt.{decimal}
use Rattle.std.specs.Int.NonZero.{non_zero_u32_get}
use Rattle.std.specs.Option.{option_map}
use Rattle.std.specs.Str.Parse.{AllDigits, without_leading_plus}
use Rattle.std.specs.declared.num.NonZeroU32.{NonZeroU32}
use Rattle.serde_json.specs.Data.{Data}
use Rattle.serde_json.specs.Find.{get}
use Rattle.run_commands.specs.StressCount.{IsDecimal}
use Rattle.run_commands.specs.declared.stress_count.StressCondition.{StressCondition}
use Rattle.run_commands.specs.declared.stress_count.StressCondition.TheVariants as conditions
use Rattle.run_commands.specs.declared.stress_count.StressCount.{StressCount}
use Rattle.run_commands.specs.declared.stress_count.StressCount.TheVariants as counts
use Rattle.run_input.specs.Fields.{is_object_of, optional}
use Rattle.run_input.specs.PlanStress.{repeats_named, stress_of}
use Rattle.run_input.proofs.StressLemmas.{repeats_as-value, says_number, says_word}
use Rattle.run_output.specs.Stress.{condition_data, condition_fields}
use Rattle.run_output.specs.Texts.{runs_text}
use Rattle.run_text_laws.specs.Objects.{field_at}
use Rattle.run_text_laws.proofs.ObjectLemmas.{has_fields}
use Rattle.run_plan_line.specs.SaidPlan.{repeats_fit}
use Rattle.run_plan_line.proofs.FieldLemmas.{object_names}

-- digits have no sign before them
unsigned : (text : List ℕ) → AllDigits 10 text → without_leading_plus text ≡ text
unsigned [] digits = refl
unsigned (c ∷ text) digits = by (nat_eq c 43) refl
  where
    by : (b : Bool) → nat_eq c 43 ≡ b → without_leading_plus (c ∷ text) ≡ c ∷ text
    by true is =
        let plus : AllDigits 10 (43 ∷ text) = subst (λ (d : ℕ). AllDigits 10 (d ∷ text)) (eqb-true c 43 is) digits in
        absurd (omega (arith, plus.0))
    by false is = rw is refl

-- a number as it is written
is_decimal : (n : ℕ) → n < 2 ^ 32 → IsDecimal (decimal n) n
is_decimal n fits =
    let numeral = decimal_is_IsNumeral n (omega (arith, fits)) in
    rw (unsigned (decimal n) numeral.0.1) numeral

repeats_again : (count : StressCount) → repeats_fit (conditions.Count count)
    → repeats_named (runs_text count) ≡ Some count
unfolding runs_text
repeats_again counts.Infinite fits = says_word (codes "infinite") refl
repeats_again (counts.Count n) fits =
    says_number (decimal (non_zero_u32_get n)) (non_zero_u32_get n) (is_decimal (non_zero_u32_get n) fits)
    ∙ repeats_as-value n fits

stress_said : (stress : StressCondition) (d : Data) → repeats_fit stress
    → is_object_of (codes "count" ∷ codes "duration" ∷ []) d ≡ true
    → ((k : List ℕ) → get k d ≡ field_at k (condition_fields stress) None) → stress_of d ≡ Some stress
unfolding stress_of condition_fields
stress_said (conditions.Count count) d fits is at =
    rw (is, at (codes "count"), at (codes "duration"), repeats_again count fits) refl
stress_said (conditions.Duration time) d fits is at = rw (is, at (codes "count"), at (codes "duration")) refl

condition_again : (stress : StressCondition) → repeats_fit stress → stress_of (condition_data stress) ≡ Some stress
unfolding condition_fields
condition_again (conditions.Count count) fits =
    stress_said (conditions.Count count) _ fits
    (object_names (codes "count" ∷ codes "duration" ∷ []) (condition_fields (conditions.Count count)) refl)
    (has_fields (condition_fields (conditions.Count count))).at
condition_again (conditions.Duration time) fits =
    stress_said (conditions.Duration time) _ fits
    (object_names (codes "count" ∷ codes "duration" ∷ []) (condition_fields (conditions.Duration time)) refl)
    (has_fields (condition_fields (conditions.Duration time))).at

pub stress_again : (stress : Option StressCondition) → IfSome stress repeats_fit
    → optional stress_of (option_map condition_data stress) ≡ Some stress
stress_again None fits = refl
stress_again (Some stress) fits = rw (condition_again stress fits) refl
