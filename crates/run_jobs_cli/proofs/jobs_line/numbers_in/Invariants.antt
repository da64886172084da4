use Rattle.std.proofs.Common.{◌≡◌, ◌++◌, drop, option_map}
use Rattle.serde_json.specs.View.{items_view}
use Rattle.run_input.specs.Fields.{numbers_from}
use Rattle.run_jobs_cli.proofs.jobs_line.numbers_in.Given as goal

abbrev pub invariant-loop-item : goal.invariant-loop-item
invariant-loop-item l =
    option_map (λ numbers. l.numbers ++ numbers) (numbers_from (items_view (drop l.item-index l.items)))
    ≡ numbers_from (items_view l.items)
