use Rattle.std.proofs.Common.{◌≡◌, ◌++◌, map, drop}
use Rattle.run_output.specs.Statuses.{status_data}
use Rattle.run_output.specs.Printer.{each_tokens}
use Rattle.run_output.proofs.statuses.print_statuses.Given as goal

abbrev pub invariant-loop-status : goal.invariant-loop-status
invariant-loop-status l =
    l.out ++ each_tokens (map status_data (drop l.status-index l.statuses))
    ≡ l.initial.out ++ each_tokens (map status_data l.statuses)
