use Rattle.std.proofs.Common.{◌≡◌, ℕ, IfOk, List, subst}
use Rattle.std.specs.Fmt.{digits}
use Rattle.json.specs.Print.{escape_byte}
use Rattle.run_output.specs.Faults.{plan_fields}
use Rattle.run_rerun_cli.proofs.LineLemmas.{limit_line}
use Rattle.run_rerun_cli.proofs.lines.limit_line.Goals as goal

pub returns-in-None : goal.returns-in-None
unfolding digits escape_byte plan_fields
returns-in-None c = rw c.in-None.is c.numbered.ensures

pub returns-in-Some : goal.returns-in-Some
returns-in-Some c =
    rw c.in-Some.is (subst
    (λ (text : List ℕ). IfOk c.numbered_twice.result (λ t. t ≡ text))
    (limit_line c.args.store c.in-Some.group)
    c.numbered_twice.ensures)
