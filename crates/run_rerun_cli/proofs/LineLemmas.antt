-- The lines of faults with two numbers.
use Rattle.std.proofs.Common.{◌≡◌, ℕ, List, ◌++◌, Some, codes, decimal, refl, sym, ap}
use Rattle.std.specs.Fmt.{digits}
use Rattle.json.specs.Print.{escape_byte}
use Rattle.run_output.specs.Faults.{plan_fields}
use Rattle.run_output.specs.declared.fault.PlanFault.TheVariants as plans
use Rattle.run_rerun_cli.specs.declared.faults.RerunFault.TheVariants as faults
use Rattle.run_rerun_cli.specs.RerunFaults.{rerun_fault_text}

-- the statuses in decimal
five : decimal 5 ≡ codes "5"
unfolding digits
five = refl

six : decimal 6 ≡ codes "6"
unfolding digits
six = refl

seven : decimal 7 ≡ codes "7"
unfolding digits
seven = refl

fifteen : decimal 15 ≡ codes "15"
unfolding digits
fifteen = refl

pub bad_line : (store place : ℕ)
    → codes "{\"fault\":\"bad\",\"record\":" ++ (decimal place ++ (codes ",\"status\":15,\"store\":" ++ (decimal store
    ++ codes "}")))
    ≡ rerun_fault_text store (faults.Bad place)
unfolding escape_byte
bad_line store place =
    ap (λ (number : List ℕ). codes "{\"fault\":\"bad\",\"record\":" ++ (decimal place
    ++ (codes ",\"status\":" ++ (number
    ++ (codes ",\"store\":" ++ (decimal store ++ codes "}"))))))
    (sym fifteen)

pub not_enabled_line : (store turn : ℕ)
    → codes "{\"fault\":\"not-enabled\",\"status\":6,\"store\":" ++ (decimal store ++ (codes ",\"turn\":"
    ++ (decimal turn ++ codes "}")))
    ≡ rerun_fault_text store (faults.NotEnabled turn)
unfolding escape_byte
not_enabled_line store turn =
    ap (λ (number : List ℕ). codes "{\"fault\":\"not-enabled\",\"status\":" ++ (number
    ++ (codes ",\"store\":" ++ (decimal store
    ++ (codes ",\"turn\":" ++ (decimal turn ++ codes "}"))))))
    (sym six)

pub third_signal_line : (store turn : ℕ)
    → codes "{\"fault\":\"third-signal\",\"status\":7,\"store\":" ++ (decimal store ++ (codes ",\"turn\":"
    ++ (decimal turn ++ codes "}")))
    ≡ rerun_fault_text store (faults.ThirdSignal turn)
unfolding escape_byte
third_signal_line store turn =
    ap (λ (number : List ℕ). codes "{\"fault\":\"third-signal\",\"status\":" ++ (number
    ++ (codes ",\"store\":" ++ (decimal store
    ++ (codes ",\"turn\":" ++ (decimal turn ++ codes "}"))))))
    (sym seven)

pub limit_line : (store group : ℕ)
    → codes "{\"fault\":\"plan\",\"group\":" ++ (decimal group
    ++ (codes ",\"kind\":\"zero-limit\",\"status\":5,\"store\":" ++ (decimal store ++ codes "}")))
    ≡ rerun_fault_text store (faults.Plan (plans.ZeroLimit (Some group)))
unfolding escape_byte plan_fields
limit_line store group =
    ap (λ (number : List ℕ). codes "{\"fault\":\"plan\",\"group\":" ++ (decimal group
    ++ (codes ",\"kind\":\"zero-limit\",\"status\":"
    ++ (number ++ (codes ",\"store\":" ++ (decimal store ++ codes "}"))))))
    (sym five)

pub duplicate_line : (store test : ℕ)
    → codes "{\"fault\":\"plan\",\"kind\":\"duplicate-test\",\"status\":5,\"store\":" ++ (decimal store
    ++ (codes ",\"test\":" ++ (decimal test ++ codes "}")))
    ≡ rerun_fault_text store (faults.Plan (plans.DuplicateTest test))
unfolding escape_byte plan_fields
duplicate_line store test =
    ap (λ (number : List ℕ). codes "{\"fault\":\"plan\",\"kind\":\"duplicate-test\",\"status\":" ++ (number
    ++ (codes ",\"store\":"
    ++ (decimal store ++ (codes ",\"test\":" ++ (decimal test ++ codes "}"))))))
    (sym five)

pub unknown_line : (store test : ℕ)
    → codes "{\"fault\":\"plan\",\"kind\":\"unknown-group\",\"status\":5,\"store\":" ++ (decimal store
    ++ (codes ",\"test\":" ++ (decimal test ++ codes "}")))
    ≡ rerun_fault_text store (faults.Plan (plans.UnknownGroup test))
unfolding escape_byte plan_fields
unknown_line store test =
    ap (λ (number : List ℕ). codes "{\"fault\":\"plan\",\"kind\":\"unknown-group\",\"status\":" ++ (number
    ++ (codes ",\"store\":"
    ++ (decimal store ++ (codes ",\"test\":" ++ (decimal test ++ codes "}"))))))
    (sym five)

pub weight_line : (store test : ℕ)
    → codes "{\"fault\":\"plan\",\"kind\":\"zero-weight\",\"status\":5,\"store\":" ++ (decimal store
    ++ (codes ",\"test\":" ++ (decimal test ++ codes "}")))
    ≡ rerun_fault_text store (faults.Plan (plans.ZeroWeight test))
unfolding escape_byte plan_fields
weight_line store test =
    ap (λ (number : List ℕ). codes "{\"fault\":\"plan\",\"kind\":\"zero-weight\",\"status\":" ++ (number
    ++ (codes ",\"store\":"
    ++ (decimal store ++ (codes ",\"test\":" ++ (decimal test ++ codes "}"))))))
    (sym five)

pub retries_line : (store test : ℕ)
    → codes "{\"fault\":\"plan\",\"kind\":\"too-many-retries\",\"status\":5,\"store\":" ++ (decimal store
    ++ (codes ",\"test\":" ++ (decimal test ++ codes "}")))
    ≡ rerun_fault_text store (faults.Plan (plans.TooManyRetries test))
unfolding escape_byte plan_fields
retries_line store test =
    ap (λ (number : List ℕ). codes "{\"fault\":\"plan\",\"kind\":\"too-many-retries\",\"status\":"
    ++ (number ++ (codes ",\"store\":"
    ++ (decimal store ++ (codes ",\"test\":" ++ (decimal test ++ codes "}"))))))
    (sym five)
