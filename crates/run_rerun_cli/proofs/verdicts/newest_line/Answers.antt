use Rattle.std.proofs.Common.{◌∙◌, sym}
use Rattle.run_rerun_cli.proofs.ChainLemmas.{newest_read}
use Rattle.run_rerun_cli.proofs.verdicts.newest_line.Goals as goal

pub returns-in-Some : goal.returns-in-Some
returns-in-Some c =
    c.as_slice.ensures ∙ newest_read c.args.runs.now c.in-Some.run'.now (sym c.in-Some.ensures.value)
