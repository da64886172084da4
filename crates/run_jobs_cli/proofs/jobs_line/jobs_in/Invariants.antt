use Rattle.std.proofs.Common.{◌≡◌, ◌++◌, drop, option_map}
use Rattle.serde_json.specs.View.{items_view}
use Rattle.run_jobs_cli.specs.JobsLine.{jobs_from}
use Rattle.run_jobs_cli.proofs.jobs_line.jobs_in.Given as goal

abbrev pub invariant-loop-item : goal.invariant-loop-item
invariant-loop-item l =
    option_map (λ jobs. l.jobs ++ jobs) (jobs_from (items_view (drop l.item-index l.items)))
    ≡ jobs_from (items_view l.items)
