use Rattle.std.proofs.Common.{◌≡◌, ℕ, IfOk, List, subst}
use Rattle.std.specs.Fmt.{digits}
use Rattle.json.specs.Print.{escape_byte}
use Rattle.run_output.specs.Faults.{plan_fields}
use Rattle.run_rerun_cli.proofs.LineLemmas.{bad_line, not_enabled_line, third_signal_line}
use Rattle.run_rerun_cli.proofs.lines.rerun_fault_line.Goals as goal

pub returns-in-NotEnabled : goal.returns-in-NotEnabled
returns-in-NotEnabled c =
    rw c.in-NotEnabled.is (subst
    (λ (text : List ℕ). IfOk c.turn_line.result (λ t. t ≡ text))
    (not_enabled_line c.args.store c.in-NotEnabled.turn)
    c.turn_line.ensures)

pub returns-in-ThirdSignal : goal.returns-in-ThirdSignal
returns-in-ThirdSignal c =
    rw c.in-ThirdSignal.is (subst
    (λ (text : List ℕ). IfOk c.turn_line-in-ThirdSignal.result (λ t. t ≡ text))
    (third_signal_line c.args.store c.in-ThirdSignal.turn)
    c.turn_line-in-ThirdSignal.ensures)

pub returns-in-Read : goal.returns-in-Read
unfolding digits escape_byte plan_fields
returns-in-Read c = rw c.in-Read.is c.numbered.ensures

pub returns-in-TooLong : goal.returns-in-TooLong
unfolding digits escape_byte plan_fields
returns-in-TooLong c = rw c.in-TooLong.is c.numbered-in-TooLong.ensures

pub returns-in-Torn : goal.returns-in-Torn
unfolding digits escape_byte plan_fields
returns-in-Torn c = rw c.in-Torn.is c.numbered-in-Torn.ensures

pub returns-in-Bad : goal.returns-in-Bad
returns-in-Bad c =
    rw c.in-Bad.is (subst
    (λ (text : List ℕ). IfOk c.numbered_twice.result (λ t. t ≡ text))
    (bad_line c.args.store c.in-Bad.record)
    c.numbered_twice.ensures)
