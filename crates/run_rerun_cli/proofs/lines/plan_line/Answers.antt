use Rattle.std.proofs.Common.{◌≡◌, ℕ, IfOk, List, subst}
use Rattle.std.specs.Fmt.{digits}
use Rattle.json.specs.Print.{escape_byte}
use Rattle.run_output.specs.Faults.{plan_fields}
use Rattle.run_rerun_cli.proofs.LineLemmas.{duplicate_line, retries_line, unknown_line, weight_line}
use Rattle.run_rerun_cli.proofs.lines.plan_line.Goals as goal

pub returns-in-DuplicateTest : goal.returns-in-DuplicateTest
returns-in-DuplicateTest c =
    rw c.in-DuplicateTest.is (subst
    (λ (text : List ℕ). IfOk c.test_line.result (λ t. t ≡ text))
    (duplicate_line c.args.store c.in-DuplicateTest.test)
    c.test_line.ensures)

pub returns-in-UnknownGroup : goal.returns-in-UnknownGroup
returns-in-UnknownGroup c =
    rw c.in-UnknownGroup.is (subst
    (λ (text : List ℕ). IfOk c.test_line-in-UnknownGroup.result (λ t. t ≡ text))
    (unknown_line c.args.store c.in-UnknownGroup.test)
    c.test_line-in-UnknownGroup.ensures)

pub returns-in-ZeroWeight : goal.returns-in-ZeroWeight
returns-in-ZeroWeight c =
    rw c.in-ZeroWeight.is (subst
    (λ (text : List ℕ). IfOk c.test_line-in-ZeroWeight.result (λ t. t ≡ text))
    (weight_line c.args.store c.in-ZeroWeight.test)
    c.test_line-in-ZeroWeight.ensures)

pub returns-in-TooManyRetries : goal.returns-in-TooManyRetries
returns-in-TooManyRetries c =
    rw c.in-TooManyRetries.is (subst
    (λ (text : List ℕ). IfOk c.test_line-in-TooManyRetries.result (λ t. t ≡ text))
    (retries_line c.args.store c.in-TooManyRetries.test)
    c.test_line-in-TooManyRetries.ensures)
